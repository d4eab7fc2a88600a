use Rattle.ua_prod.proofs.Numerals.{AreLastDigits}
use Rattle.ua_prod.proofs.tuples.write_digits.Given as goal

abbrev pub invariant-loop-place : goal.invariant-loop-place
invariant-loop-place l = AreLastDigits l.fn.base l.number l.place l.rest l.digits
