use Rattle.ua_operands.proofs.Vocabulary.{flat_map, vector}
use Rattle.std.proofs.Common.{rules, ◌++◌}
use Rattle.ua_operands.proofs.points.partial.Goals as goal

pub returns-in_err-first-clause-only : goal.returns-in_err-first-clause-only
returns-in_err-first-clause-only c = λ v vs ws short each b f.
    let e = c.in_err-first.ensures.only v (flat_map vector vs ++ ws) short f in search rules

pub returns-in_err-others-clause-only : goal.returns-in_err-others-clause-only
returns-in_err-others-clause-only c = λ v vs ws short each b f.
    let s0 = c.in_ok-first.ensures.only v (flat_map vector vs ++ ws) short f in
    let e = c.in_err-others.ensures.only vs ws each b s0.1 in search rules

pub returns-clause-only : goal.returns-clause-only
returns-clause-only c = λ v vs ws short each b f.
    let s0 = c.in_ok-first.ensures.only v (flat_map vector vs ++ ws) short f in
    let s1 = c.in_ok-others.ensures.only vs ws each b s0.1 in
    let e0 = s0.0 in
    let e1 = s1.0 in
    (cc, s1.1)
