use Rattle.std.proofs.Common.{◌+◌, ◌-◌, ◌*◌, ◌^◌, ◌<◌, ◌≤◌, ℕ, map, sym, ap, subst, ◌∙◌, arith}
use Rattle.std.specs.List.{AllByRecursion, flat_map}
use Rattle.std.proofs.Math.Nat.{pow-le-pow_right}
use Rattle.ua_table.specs.declared.limits.TheConstants.{VALUES}
use Rattle.ua_table.proofs.Digits.{next_digit}
use Rattle.ua_table.proofs.Lists.{all_weaker}
use Rattle.ua_prod.proofs.TupleLaws.{numbers_more, numbers_below}
use Rattle.ua_prod.proofs.tuples.tuple_numbers.Goals as goal

-- a number with one digit more, of at most so many, is within the limit
room : (n i k m : ℕ) → 0 < n → i < k → n ^ k ≤ VALUES → m < n ^ i → m * n + n ≤ VALUES
room n i k m some more small low =
    let next = next_digit n m i (n - 1) low (omega (arith, some)) in
    let within = pow-le-pow_right {n = n} some {i = i + 1} {j = k} (omega (arith, more)) in
    omega (arith, next, within, small, some)

pub with_digits-requires-clause-small : goal.with_digits-requires-clause-small
with_digits-requires-clause-small c =
    let n = c.args.base in
    subst (AllByRecursion (λ m. m * n + n ≤ VALUES)) (sym c.as_slice.ensures.value)
    (all_weaker (λ m. m < n ^ c.loop.counter) (λ m. m * n + n ≤ VALUES) (λ m low. room n c.loop.counter c.args.arity m c.requires.some c.loop-test.true c.requires.small low) c.loop.numbers.items c.loop.invariant.below)

pub loop-preserved : goal.loop-preserved
loop-preserved c =
    let n = c.args.base in
    let ds = c.args.digits.now in
    let is = c.in_ok-numbers-2.ensures ∙ ap (flat_map (λ m. map (λ x. m * n + x) ds)) c.as_slice.ensures.value in
    record {
      numbers = numbers_more n ds c.loop.counter c.loop.numbers.items c.in_ok-numbers-2.numbers.items c.loop.invariant.numbers is;
      below = subst (AllByRecursion (λ m. m < n ^ (c.loop.counter + 1))) (sym is) (numbers_below n ds c.requires.below c.loop.counter c.loop.numbers.items c.loop.invariant.below);
    }
