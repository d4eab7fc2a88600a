use Rattle.std.proofs.Common.{◌≡◌, ◌+◌, ◌-◌, ◌<◌, true, false, ◌∷◌, ◌++◌, [], length, take, set, length-set, refl, sym, ap, ◌∙◌, arith}
use Rattle.std.proofs.lemmas.List.{take_more_set, take-set}
use Rattle.ua_flaws.specs.inner.Firsts.{first_behind}
use Rattle.ua_flaws.specs.Closing.{is_missing}
use Rattle.ua_flaws.proofs.WalkLaws.{leaf, goes_in, found_here, found_not}
use Rattle.ua_flaws.proofs.closing.+first_missing.Goals as goal

pub returns-then-is_missing-clause-first : goal.returns-then-is_missing-clause-first
returns-then-is_missing-clause-first t c =
    leaf (is_missing c.args.table.now.operations c.args.table.now.rows.now.items c.args.op) (length c.args.table.now.rows.now.items) c.args.args
    c.args.arity c.args.filled c.if-filled-arity.true true (sym c.is_missing.ensures.missing ∙ c.if-is_missing.true)

pub returns-then-filled-arity-clause-first : goal.returns-then-filled-arity-clause-first
returns-then-filled-arity-clause-first t c =
    leaf (is_missing c.args.table.now.operations c.args.table.now.rows.now.items c.args.op) (length c.args.table.now.rows.now.items) c.args.args
    c.args.arity c.args.filled c.if-filled-arity.true false (sym c.is_missing.ensures.missing ∙ c.if-is_missing.false)

pub loop-x-init : goal.loop-x-init
loop-x-init t c =
    let other = c.if-filled-arity.false in let within = c.requires.filled in
    let below : c.args.filled < c.args.arity = omega arith in
    record {
      four = c.requires.four;
      begin = refl;
      scratch = c.requires.width;
      rest = goes_in (is_missing c.args.table.now.operations c.args.table.now.rows.now.items c.args.op) (length c.args.table.now.rows.now.items) (take c.args.filled c.args.args) c.args.arity c.args.filled below;
    }

pub returns-then-is_some-clause-first : goal.returns-then-is_some-clause-first
returns-then-is_some-clause-first t c =
    let other = c.if-filled-arity.false in let within = c.requires.filled in let few = c.requires.few in let four = c.loop-x.invariant.four in
    let next : take (c.args.filled + 1) (set c.loop-x.next c.args.filled c.loop-x.x) ≡ take c.args.filled c.args.args ++ c.loop-x.x ∷ []
    = take_more_set c.loop-x.next c.args.filled c.loop-x.x (omega arith) ∙ ap (λ b. b ++ c.loop-x.x ∷ []) c.loop-x.invariant.begin in
    found_here (is_missing c.args.table.now.operations c.args.table.now.rows.now.items c.args.op) (length c.args.table.now.rows.now.items)
    (first_behind (is_missing c.args.table.now.operations c.args.table.now.rows.now.items c.args.op) (length c.args.table.now.rows.now.items) (take c.args.filled c.args.args) (c.args.arity - c.args.filled))
    (take c.args.filled c.args.args) (take (c.args.filled + 1) (set c.loop-x.next c.args.filled c.loop-x.x)) (c.args.arity - (c.args.filled + 1)) c.loop-x.x
    c.first_missing-found.result (λ places. take c.args.arity places)
    (let l = c.loop-x-test.true in let e = c.len-x-end.ensures.len in omega arith) next c.loop-x.invariant.rest c.first_missing-found.ensures.first (sym c.is_some.ensures ∙ c.if-is_some.true)

pub loop-x-preserved : goal.loop-x-preserved
loop-x-preserved t c =
    let other = c.if-filled-arity.false in let within = c.requires.filled in let few = c.requires.few in let four = c.loop-x.invariant.four in
    let next : take (c.args.filled + 1) (set c.loop-x.next c.args.filled c.loop-x.x) ≡ take c.args.filled c.args.args ++ c.loop-x.x ∷ []
    = take_more_set c.loop-x.next c.args.filled c.loop-x.x (omega arith) ∙ ap (λ b. b ++ c.loop-x.x ∷ []) c.loop-x.invariant.begin in
    record {
      four = length-set c.loop-x.next c.args.filled c.loop-x.x ∙ four;
      begin = take-set c.loop-x.next c.args.filled c.loop-x.x ∙ c.loop-x.invariant.begin;
      scratch = c.first_missing-found.ensures.width;
      rest = found_not (is_missing c.args.table.now.operations c.args.table.now.rows.now.items c.args.op) (length c.args.table.now.rows.now.items)
          (first_behind (is_missing c.args.table.now.operations c.args.table.now.rows.now.items c.args.op) (length c.args.table.now.rows.now.items) (take c.args.filled c.args.args) (c.args.arity - c.args.filled))
          (take c.args.filled c.args.args) (take (c.args.filled + 1) (set c.loop-x.next c.args.filled c.loop-x.x)) (c.args.arity - (c.args.filled + 1)) c.loop-x.x
          c.first_missing-found.result (λ places. take c.args.arity places)
          (let l = c.loop-x-test.true in let e = c.len-x-end.ensures.len in omega arith) next c.loop-x.invariant.rest c.first_missing-found.ensures.first (sym c.is_some.ensures ∙ c.if-is_some.false);
    }
