use Rattle.std.proofs.Common.{◌≡◌, ◌+◌, ◌-◌, ◌∷◌, ◌++◌, [], take, set, length-set, sym, ap, ◌∙◌, arith}
use Rattle.std.proofs.lemmas.List.{take_more_set, take-set}
use Rattle.ua_flaws.specs.inner.Firsts.{first_behind}
use Rattle.ua_check.specs.Equations.{differ}
use Rattle.ua_flaws.proofs.WalkLaws.{found_here, found_not}
use Rattle.ua_check.proofs.equations.+first_failure.Goals as goal

pub returns-then-is_some : goal.returns-then-is_some
returns-then-is_some t c =
    let other = c.if-filled-variables.false in let within = c.requires.filled in let few = c.requires.few in let four = c.loop-x.invariant.four in
    let test = differ c.args.a.now c.args.left.now c.args.right.now in
    let begin = take c.args.filled c.args.xs in
    let next : take (c.args.filled + 1) (set c.loop-x.next c.args.filled c.loop-x.x) ≡ begin ++ c.loop-x.x ∷ []
    = take_more_set c.loop-x.next c.args.filled c.loop-x.x (omega arith) ∙ ap (λ b. b ++ c.loop-x.x ∷ []) c.loop-x.invariant.begin in
    found_here test c.args.a.now.size (first_behind test c.args.a.now.size begin (c.args.variables - c.args.filled))
    begin (take (c.args.filled + 1) (set c.loop-x.next c.args.filled c.loop-x.x)) (c.args.variables - (c.args.filled + 1)) c.loop-x.x
    c.first_failure-found.result (λ xs. take c.args.variables xs)
    (let l = c.loop-x-test.true in let e = c.size-x-end.ensures.size in omega arith) next c.loop-x.invariant.rest c.first_failure-found.ensures (sym c.is_some.ensures ∙ c.if-is_some.true)

pub loop-x-preserved : goal.loop-x-preserved
loop-x-preserved t c =
    let other = c.if-filled-variables.false in let within = c.requires.filled in let few = c.requires.few in let four = c.loop-x.invariant.four in
    let test = differ c.args.a.now c.args.left.now c.args.right.now in
    let begin = take c.args.filled c.args.xs in
    let next : take (c.args.filled + 1) (set c.loop-x.next c.args.filled c.loop-x.x) ≡ begin ++ c.loop-x.x ∷ []
    = take_more_set c.loop-x.next c.args.filled c.loop-x.x (omega arith) ∙ ap (λ b. b ++ c.loop-x.x ∷ []) c.loop-x.invariant.begin in
    record {
      four = length-set c.loop-x.next c.args.filled c.loop-x.x ∙ four;
      room = c.first_failure-found.auto.values ∙ c.loop-x.invariant.room;
      begin = take-set c.loop-x.next c.args.filled c.loop-x.x ∙ c.loop-x.invariant.begin;
      rest = found_not test c.args.a.now.size (first_behind test c.args.a.now.size begin (c.args.variables - c.args.filled))
          begin (take (c.args.filled + 1) (set c.loop-x.next c.args.filled c.loop-x.x)) (c.args.variables - (c.args.filled + 1)) c.loop-x.x
          c.first_failure-found.result (λ xs. take c.args.variables xs)
          (let l = c.loop-x-test.true in let e = c.size-x-end.ensures.size in omega arith) next c.loop-x.invariant.rest c.first_failure-found.ensures (sym c.is_some.ensures ∙ c.if-is_some.false);
    }
