use Rattle.std.proofs.Common.{rules}
use Rattle.ua_text.specs.Tokens.{tokens_left}
use Rattle.ua_script.proofs.Operands.{took, pair_is}
use Rattle.ua_script.proofs.values.Tuple2Operands.read_all.Goals as goal

pub returns-in_err-others-clause-only : goal.returns-in_err-others-clause-only
returns-in_err-others-clause-only g c = λ x ws s.
    let t = took g.A.Operand.operand (tokens_left c.read.new.tokens) c.in_ok-first.first s c.in_ok-first.ensures.only in
    let e = c.in_err-others.ensures.only x.1 ws t.1 in search rules

pub returns-clause-only : goal.returns-clause-only
returns-clause-only g c = λ x ws s.
    let t = took g.A.Operand.operand (tokens_left c.read.new.tokens) c.in_ok-first.first s c.in_ok-first.ensures.only in
    let u = c.in_ok-others.ensures.only x.1 ws t.1 in
    (pair_is _ _ t.0 u.0, u.1)
