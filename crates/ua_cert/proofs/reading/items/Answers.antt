use Rattle.std.proofs.Common.{◌≡◌, ◌+◌, ◌∷◌, ◌++◌, [], Err, sym, ap, subst, ◌∙◌}
use Rattle.serde_json.specs.View.{view, items_view}
use Rattle.ua_cert.specs.declared.faults.FieldError.TheVariants as fault
use Rattle.ua_cert.specs.Reading.{under, index_path, items_from}
use Rattle.ua_cert.specs.inner.Reading.{Reads}
use Rattle.ua_cert.proofs.ReadLaws.{resume, left, item_taken, range_noted, range_kept, some_noted, none_noted}
use Rattle.ua_cert.proofs.reading.items.Goals as goal
use Rattle.ua_cert.proofs.reading.items.Goals.{in-Ok+in_ok-keep-in-Ok, in-Err-Range+then-is_none, in-Err-Range+else-is_none}

pub loop-i-preserved : goal.loop-i-preserved
loop-i-preserved g c =
    let reads = g.T.Readable.reads in
    let values = c.args.values.now in let first = c.args.first in let i = c.loop-i.i in
    let whole = items_from reads first (items_view values) in
    let xs = c.loop-i.list.items in let v = c.index-values-i.result in
    elim c.match-item.branch [
      | in-Ok+in_ok-keep-in-Ok w ↦
          item_taken reads first values whole xs i v c.loop-i-test.true c.index-values-i.is c.loop-i.range w.in-Ok.x c.loop-i.invariant w.in-Ok.ensures
          ∙ (let list : c.match-item.list.items ≡ xs ++ w.in-Ok.x ∷ [] = (λ j. (w.list-is j).items) ∙ w.in_ok-keep-in-Ok.ensures in λ j. resume (sym list j) (sym w.range-is j) (left reads first values (i + 1)))
      | in-Err-Range+then-is_none w ↦
          let none = none_noted c.loop-i.range w.is_none.result w.is_none.ensures w.if-is_none.true in
          let e : Reads (under (index_path (first + i)) (reads (view v))) (Err (fault.Range w.in-Err-Range.path)) =
          subst (λ f. Reads (under (index_path (first + i)) (reads (view v))) (Err f)) w.in-Err-Range.field-0-is w.in-Err-Range.ensures in
          range_noted reads first values whole xs i v c.loop-i-test.true c.index-values-i.is w.in-Err-Range.path (c.loop-i.invariant ∙ ap (λ o. resume xs o (left reads first values i)) none) e
          ∙ (λ j. resume (sym w.list-is j).items (sym w.range-is j) (left reads first values (i + 1)))
      | in-Err-Range+else-is_none w ↦
          let some = some_noted c.loop-i.range w.is_none.result w.is_none.ensures w.if-is_none.false in
          let e : Reads (under (index_path (first + i)) (reads (view v))) (Err (fault.Range w.in-Err-Range.path)) =
          subst (λ f. Reads (under (index_path (first + i)) (reads (view v))) (Err f)) w.in-Err-Range.field-0-is w.in-Err-Range.ensures in
          range_kept reads first values whole xs i v c.loop-i-test.true c.index-values-i.is some.0 w.in-Err-Range.path (c.loop-i.invariant ∙ ap (λ o. resume xs o (left reads first values i)) some.1) e
          ∙ (λ j. resume (sym w.list-is j).items (sym some.1 j) (left reads first values (i + 1))) ∙ ap (λ o. resume c.match-item.list.items o (left reads first values (i + 1))) (sym w.range-is)
    ]
