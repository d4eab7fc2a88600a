use Rattle.std.proofs.Common.{refl, sym, ◌∙◌}
use Rattle.ua_close.proofs.HarvestsJoined.{taking_start, taking_step, taken_rule, none_waits}
use Rattle.ua_close.proofs.gatherings.join_all.Goals as goal

pub loop-next-init : goal.loop-next-init
loop-next-init c = (c.in-Some.first, taking_start c.args.board c.args.harvests.items c.reverse.new.self.items c.pop.new.self.items c.in-Some.first c.args.chosen c.reverse.ensures.items c.in-Some.ensures.items c.requires.seats)

pub loop-next-preserved-then-taken-chosen : goal.loop-next-preserved-then-taken-chosen
loop-next-preserved-then-taken-chosen c =
    let i = c.loop-next.invariant in (
      i.0,
      taking_step c.args.board c.args.harvests.items i.0 c.args.chosen c.loop-next.taken c.loop-next.seat c.join.new.seat c.loop-next.rows
          c.in-Some-pop.next.rows c.loop-next.waiting.items c.pop-in-loop-next.new.self.items c.in-Some-pop.next i.1 c.in-Some-pop.ensures.items
          c.join.ensures.own c.join.ensures.seat
          (λ e. refl) (λ n. absurd (n (sym c.if-taken-chosen.true))),
    )

pub loop-next-preserved : goal.loop-next-preserved
loop-next-preserved c =
    let i = c.loop-next.invariant in (
      i.0,
      taking_step c.args.board c.args.harvests.items i.0 c.args.chosen c.loop-next.taken c.loop-next.seat c.join.new.seat c.loop-next.rows
          c.loop-next.rows c.loop-next.waiting.items c.pop-in-loop-next.new.self.items c.in-Some-pop.next i.1 c.in-Some-pop.ensures.items
          c.join.ensures.own c.join.ensures.seat
          (λ e. absurd (c.if-taken-chosen.false (sym e))) (λ n. refl),
    )

pub returns-clause-rule : goal.returns-clause-rule
returns-clause-rule c =
    let i = c.loop-next.invariant in
    taken_rule c.args.board c.args.harvests.items i.0 c.args.chosen c.loop-next.taken c.loop-next.seat c.loop-next.rows c.loop-next.waiting.items
    c.close.result.records c.close.result.claims c.close.result.halted i.1
    (none_waits c.loop-next.waiting.items (sym c.loop-next.waiting.ok.0 ∙ c.in_default-pop.ensures.cases.0)) c.close.ensures.own
    c.close.ensures.rule
