use Rattle.std.proofs.Common.{◌≡◌, ◌+◌, ◌++◌, ℕ, true, Option, List, [], ◌∷◌, length, sym, ◌∙◌, ap, subst, arith}
use Rattle.std.specs.Prelude.{Ok, slice_index}
use Rattle.std.specs.HashSet as set
use Rattle.std.proofs.lemmas.List.{length-map}
use Rattle.std.proofs.lemmas.Result.{err_from_is_err_and}
use Rattle.ua_table.specs.Listings.{Row}
use Rattle.ua_part.specs.Labels.{same_labels}
use Rattle.ua_type.specs.Subtraces.{Generates}
use Rattle.ua_type.specs.declared.descents.Descent.{Descent}
use Rattle.ua_type.specs.inner.Marks.{AreMarks}
use Rattle.ua_type.specs.inner.Outcomes.{GoesBack}
use Rattle.ua_type.specs.inner.Descents.{MayAsk}
use Rattle.ua_type.proofs.KnownLaws.{settled_is}
use Rattle.ua_type.proofs.DescentLaws.{row_width, row_first, row_second, row_within, row_generated, row_leads, row_settles, pair_rows, one_back, back_below, descent_more, all_back}
use Rattle.ua_type.proofs.descents.sift.Goals.{else-not-is_known, then-not-is_known+in_ok-list+in-None}
use Rattle.ua_type.proofs.descents.sift.Goals as goal

pub marks_to-requires-clause-pairs : goal.marks_to-requires-clause-pairs
marks_to-requires-clause-pairs g c = pair_rows c.args.b.now c.args.run.now.budget c.size-size.ensures.algebra.algebra c.args.descent.now c.requires.descent

pub bounds-row-0 : goal.bounds-row-0
bounds-row-0 g c =
    let w = row_width c.args.b.now c.args.run.now.budget c.size-size.ensures.algebra.algebra c.loop-i.descent c.loop-i.invariant.2 c.loop-i.i c.row-row.result.now c.row-row.ensures in
    omega (arith, w)

pub bounds-row-1 : goal.bounds-row-1
bounds-row-1 g c =
    let w = row_width c.args.b.now c.args.run.now.budget c.size-size.ensures.algebra.algebra c.loop-i.descent c.loop-i.invariant.2 c.loop-i.i c.row-row.result.now c.row-row.ensures in
    omega (arith, w)

pub is_known-requires-clause-first : goal.is_known-requires-clause-first
is_known-requires-clause-first g c = row_first c.args.b.now c.args.run.now.budget c.size-size.ensures.algebra.algebra c.loop-i.descent c.loop-i.invariant.2 c.loop-i.i c.row-row.result.now c.row-row.ensures

pub is_known-requires-clause-second : goal.is_known-requires-clause-second
is_known-requires-clause-second g c = row_second c.args.b.now c.args.run.now.budget c.size-size.ensures.algebra.algebra c.loop-i.descent c.loop-i.invariant.2 c.loop-i.i c.row-row.result.now c.row-row.ensures

pub ask-requires-clause-width : goal.ask-requires-clause-width
ask-requires-clause-width g c _ _ = row_width c.args.b.now c.args.run.now.budget c.size-size.ensures.algebra.algebra c.loop-i.descent c.loop-i.invariant.2 c.loop-i.i c.row-row.result.now c.row-row.ensures

pub ask-requires-clause-first : goal.ask-requires-clause-first
ask-requires-clause-first g c _ _ = row_first c.args.b.now c.args.run.now.budget c.size-size.ensures.algebra.algebra c.loop-i.descent c.loop-i.invariant.2 c.loop-i.i c.row-row.result.now c.row-row.ensures

pub ask-requires-clause-second : goal.ask-requires-clause-second
ask-requires-clause-second g c _ _ = row_second c.args.b.now c.args.run.now.budget c.size-size.ensures.algebra.algebra c.loop-i.descent c.loop-i.invariant.2 c.loop-i.i c.row-row.result.now c.row-row.ensures

pub ask-requires-clause-within : goal.ask-requires-clause-within
ask-requires-clause-within g c _ _ = row_within c.args.b.now c.args.run.now.budget c.size-size.ensures.algebra.algebra c.loop-i.descent c.loop-i.invariant.2 c.loop-i.i c.row-row.result.now c.row-row.ensures

pub mark-requires-clause-size : goal.mark-requires-clause-size
mark-requires-clause-size g c = c.loop-i.invariant.4.size

pub mark-requires-clause-first : goal.mark-requires-clause-first
mark-requires-clause-first g c = row_first c.args.b.now c.args.run.now.budget c.size-size.ensures.algebra.algebra c.loop-i.descent c.loop-i.invariant.2 c.loop-i.i c.row-row.result.now c.row-row.ensures

pub mark-requires-clause-second : goal.mark-requires-clause-second
mark-requires-clause-second g c = row_second c.args.b.now c.args.run.now.budget c.size-size.ensures.algebra.algebra c.loop-i.descent c.loop-i.invariant.2 c.loop-i.i c.row-row.result.now c.row-row.ensures

pub returns-then-is_settled : goal.returns-then-is_settled
returns-then-is_settled g c =
    let b = c.args.b.now in
    let budget = c.args.run.now.budget in
    let known = c.args.known.now in
    let row = c.row-row.result.now in
    let told : set.contains same_labels known.settled (slice_index row 0, slice_index row 1) ≡ true = sym c.is_settled.ensures ∙ c.if-is_settled.true in
    record {
      pair_stays = c.loop-i.invariant.0;
      list_stays = c.loop-i.invariant.1;
      descent = c.loop-i.invariant.2;
      sifted = row_settles b budget c.size-size.ensures.algebra.algebra c.loop-i.descent c.loop-i.invariant.2 c.loop-i.i row c.row-row.ensures known.least
          (settled_is b budget known.least (set.contains same_labels known.settled) c.requires.right.settled (slice_index row 0, slice_index row 1) told);
    }

pub returns-in_err-list : goal.returns-in_err-list
returns-in_err-list g c =
    let p = err_from_is_err_and c.from_residual-in_err-list.result c.from_residual-in_err-list.ensures.1 in
    rw (p.1, p.2) c.in_err-list.ensures

pub returns-in-Some : goal.returns-in-Some
returns-in-Some g c =
    let b = c.args.b.now in
    let budget = c.args.run.now.budget in
    let row = c.row-row.result.now in
    record {
      pair_stays = c.loop-i.invariant.0;
      list_stays = c.loop-i.invariant.1;
      descent = c.loop-i.invariant.2;
      sifted = (
        row_generated b budget c.size-size.ensures.algebra.algebra c.loop-i.descent c.loop-i.invariant.2 c.loop-i.i row c.row-row.ensures,
        subst (λ (a : Option (List Row)). MayAsk b budget row c.loop-i.descent.pair (Ok a)) c.in-Some.is c.in_ok-list.ensures,
      );
    }

pub loop-i-preserved : goal.loop-i-preserved
loop-i-preserved g c =
    let b = c.args.b.now in
    let budget = c.args.run.now.budget in
    let alg = c.size-size.ensures.algebra.algebra in
    let row = c.row-row.result.now in
    let d = c.loop-i.invariant.2 in
    let marks = subst (λ (p : ℕ × ℕ). AreMarks b p c.loop-i.marks) (sym c.loop-i.invariant.0) c.loop-i.invariant.4 in
    let back : GoesBack b row c.loop-i.descent.pair = λ differ. elim c.if-not-is_known.branch [
      | else-not-is_known w ↦ c.is_known.ensures c.loop-i.descent.pair marks w.if-not-is_known.false
      | then-not-is_known+in_ok-list+in-None w ↦ subst (λ (a : Option (List Row)). MayAsk b budget row c.loop-i.descent.pair (Ok a)) w.in-None.is w.in_ok-list.ensures differ
    ] in
    let same : c.if-not-is_known.descent ≡ c.loop-i.descent = elim c.if-not-is_known.branch [
      | else-not-is_known w ↦ w.descent-is
      | then-not-is_known+in_ok-list+in-None w ↦ w.descent-is
    ] in
    let below = one_back b budget alg c.loop-i.descent d c.loop-i.i row c.row-row.ensures back c.loop-i.invariant.3 in
    let pair = c.in_ok-put_above.ensures.pair ∙ ap (λ (e : Descent). e.pair) same in
    let list = c.in_ok-put_above.ensures.list ∙ ap (λ (e : Descent). e.list) same in
    let above = c.in_ok-put_above.ensures.above ∙ ap (λ (e : Descent). e.above.items ++ (slice_index row 0, slice_index row 1) ∷ []) same in (
      pair ∙ c.loop-i.invariant.0,
      list ∙ c.loop-i.invariant.1,
      descent_more b budget c.loop-i.descent c.put_above.new.self (slice_index row 0, slice_index row 1) pair list above (row_leads b budget alg c.loop-i.descent d c.loop-i.i row c.row-row.ensures c.if-c-d.false back) d,
      back_below b budget c.loop-i.descent c.put_above.new.self (c.loop-i.i + 1) pair list below,
      c.mark.ensures c.args.descent.now.pair c.loop-i.invariant.4 (subst (λ (p : ℕ × ℕ). Generates b (slice_index row 0) (slice_index row 1) p.0 p.1) c.loop-i.invariant.0 (back c.if-c-d.false)),
    )

pub returns : goal.returns
returns g c =
    let n = length-map c.loop-i.descent.list (λ (r : Row). r.vector) in
    let m = ap (λ (rows : List Row). length rows) c.loop-i.invariant.1 in
    record {
      pair_stays = c.loop-i.invariant.0;
      list_stays = c.loop-i.invariant.1;
      descent = c.loop-i.invariant.2;
      sifted = all_back c.args.b.now c.args.run.now.budget c.loop-i.descent c.loop-i.i c.loop-i.invariant.2 (omega (arith, n, m, c.loop-i-test.false, c.len-i-end.ensures)) c.loop-i.invariant.3;
    }
