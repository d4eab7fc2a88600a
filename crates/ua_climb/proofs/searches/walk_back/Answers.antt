use Rattle.std.proofs.Common.{◌+◌, length, sym, ap, ◌∙◌, subst, ℕ}
use Rattle.std.proofs.lemmas.List.{length_push}
use Rattle.ua_climb.specs.inner.Networks.{IsWalk}
use Rattle.ua_climb.proofs.SearchLaws.{line_some, line_within, line_next, back_more, back_done, turned_back}
use Rattle.ua_climb.proofs.searches.walk_back.Goals as goal

pub bounds : goal.bounds
bounds c = line_within c.args.from.now c.loop.state c.args.links c.loop.counter c.loop.invariant.line c.loop-test.true

pub unreachable-requires : goal.unreachable-requires
unreachable-requires c = let m = line_some c.args.from.now c.loop.state c.args.links c.loop.counter c.loop.invariant.line c.loop-test.true in c.in_default.not-Some m.0 m.1

pub loop-preserved : goal.loop-preserved
loop-preserved c =
    let pushed = c.in_ok-push-2.ensures.items in
    record {
      line = line_next c.args.from.now c.loop.state c.args.links c.loop.counter c.in-Some.source c.loop.invariant.line c.loop-test.true c.in-Some.is;
      count = ap length pushed ∙ length_push c.loop.walk.items c.in-Some.source ∙ ap (λ (n : ℕ). n + 1) c.loop.invariant.count;
      back = λ g start h. back_more g c.args.from.now start c.loop.state c.args.end c.args.links c.loop.counter c.in-Some.source c.loop.walk.items _ (c.loop.invariant.back g start h) c.loop-test.true c.in-Some.is pushed;
    }

pub returns-clause-walk : goal.returns-clause-walk
returns-clause-walk c = λ g start h.
    let lent = c.as_mut_slice.ensures in
    let turned = turned_back c.loop.walk.items _ _ _ lent.value (sym lent.len ∙ ap length lent.value) c.reverse.ensures.after in
    let b = c.loop.invariant.back g start h in
    subst (IsWalk g start c.args.end) (sym turned) (back_done g c.args.from.now start c.loop.state c.args.end c.args.links c.loop.counter _ b c.loop-test.false)
