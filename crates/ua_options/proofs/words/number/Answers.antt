use Rattle.std.proofs.Common.{arith}
use Rattle.ua_options.proofs.Numbers.{not_written, whatever, written_zero}
use Rattle.ua_options.proofs.words.number.Goals as goal

pub returns-in_err-n-clause-none : goal.returns-in_err-n-clause-none
returns-in_err-n-clause-none c = whatever c.from_residual.result _ (rw c.in-Some.is (not_written c.args.usual c.args.greatest c.in-Some.text.now c.in_err-n.ensures.none))

pub returns-then-n-lt1-clause-none : goal.returns-then-n-lt1-clause-none
returns-then-n-lt1-clause-none c =
    rw c.in-Some.is (written_zero c.args.usual c.args.greatest c.in-Some.text.now c.in_ok-n.n (omega (arith, c.ranges.greatest.fits)) c.in_ok-n.ensures.is c.if-n-lt1.true)

pub returns-clause-is : goal.returns-clause-is
returns-clause-is c = rw c.in-Some.is (c.in_ok-n.ensures.is, c.if-n-lt1.false)
