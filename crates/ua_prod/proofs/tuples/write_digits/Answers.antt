use Rattle.std.proofs.Common.{◌≡◌, ◌+◌, ◌-◌, ◌^◌, ◌<◌, ◌≤◌, ℕ, List, length, ap, subst, arith}
use Rattle.std.specs.List.{AllByRecursion}
use Rattle.ua_table.specs.Algebras.{numeral}
use Rattle.ua_prod.proofs.Numerals.{AreLastDigits, digits_none, digits_next, digits_all}
use Rattle.ua_prod.proofs.tuples.write_digits.Goals as goal

pub loop-place-init : goal.loop-place-init
loop-place-init c = digits_none c.args.base c.args.number c.args.digits.now

pub loop-place-preserved : goal.loop-place-preserved
loop-place-preserved c =
    let k : c.loop-place.place ≡ c.loop-place.place - 1 + 1 = omega (arith, c.loop-place-test.true) in
    digits_next c.args.base c.args.number (c.loop-place.place - 1) c.loop-place.rest c.loop-place.digits c.requires.some
    (subst (λ m. AreLastDigits c.args.base c.args.number m c.loop-place.rest c.loop-place.digits) k c.loop-place.invariant)

-- the digits at the end
done : (n number place rest len : ℕ) (digits : List ℕ) → place ≤ 0 → length digits ≡ len → number < n ^ len → AreLastDigits n number place rest digits → (numeral n digits ≡ number) × AllByRecursion (λ x. x < n) digits
done n number place rest len digits none same small h =
    let z : place ≡ 0 = omega (arith, none) in
    let e : n ^ length digits ≡ n ^ len = ap (λ k. n ^ k) same in
    digits_all n number rest digits (omega (arith, small, e)) (subst (λ m. AreLastDigits n number m rest digits) z h)

pub returns-clause-number : goal.returns-clause-number
returns-clause-number c = (done c.args.base c.args.number c.loop-place.place c.loop-place.rest (length c.args.digits.now) c.loop-place.digits c.loop-place-test.false c.loop-place.auto.digits c.requires.number c.loop-place.invariant).0

pub returns-clause-below : goal.returns-clause-below
returns-clause-below c = (done c.args.base c.args.number c.loop-place.place c.loop-place.rest (length c.args.digits.now) c.loop-place.digits c.loop-place-test.false c.loop-place.auto.digits c.requires.number c.loop-place.invariant).1
