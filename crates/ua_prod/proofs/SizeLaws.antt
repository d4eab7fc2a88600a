-- How many values operations have together, and that the number is small.
use Rattle.std.proofs.Common.{◌≡◌, ℕ, ◌+◌, ◌^◌, ◌<◌, ◌≤◌, false, List, [], ◌∷◌, length, take, get_or, ap, ◌∙◌, arith}
use Rattle.std.specs.Prelude.{nat_lt}
use Rattle.std.specs.List.{AllByRecursion}
use Rattle.std.proofs.Math.Nat.{pow-le-pow_left, pow-le-pow_right}
use Rattle.std.proofs.lemmas.Bool.{ltb-false, or_parts}
use Rattle.std.proofs.lemmas.List.{take_more, length-map}
use Rattle.std.proofs.lemmas.List.Elements.{All-from_recursion}
use Rattle.std.proofs.lemmas.List.Sums.{sum_by_push, sum_by-cons}
use Rattle.ua_table.specs.declared.limits.TheConstants.{SIZE, ARITY, VALUES}
use Rattle.ua_table.specs.Algebras.{FiniteAlgebra, Operation, arities_of}
use Rattle.ua_table.specs.Numbering.{IsShape}
use Rattle.ua_table.specs.Tables.{IsTable, IsAlgebraTable}
use Rattle.ua_table.proofs.Lists.{all_map, all_weaker}
use Rattle.ua_prod.specs.Sizes.{values_needed, is_too_large}

pub power_small : (n k : ℕ) → n ≤ SIZE → k ≤ ARITY → n ^ k ≤ 1000000000000
power_small n k small low =
    let base : n ^ k ≤ SIZE ^ k = pow-le-pow_left {n = n} {m = SIZE} small k in
    let power : SIZE ^ k ≤ SIZE ^ ARITY = pow-le-pow_right {n = SIZE} (omega arith) {i = k} {j = ARITY} low in
    omega (arith, base, power)

-- the arity at a place is small
pub arity_small : (arities : List ℕ) (i : ℕ) → AllByRecursion (λ k. k ≤ ARITY) arities → i < length arities → get_or arities i 0 ≤ ARITY
arity_small arities i h w = All-from_recursion (λ k. k ≤ ARITY) arities h i 0 w

-- one operation more
pub needed_more : (n : ℕ) (arities : List ℕ) (i : ℕ) → i < length arities → values_needed n (take (i + 1) arities) ≡ values_needed n (take i arities) + n ^ get_or arities i 0
needed_more n arities i w = ap (values_needed n) (take_more arities i 0 w) ∙ sum_by_push (λ k. n ^ k) (take i arities) (get_or arities i 0)

-- each operation has at most what all have together
pub each_within : (n m : ℕ) (arities : List ℕ) → values_needed n arities ≤ m → AllByRecursion (λ k. n ^ k ≤ m) arities
each_within n m [] h = tt
each_within n m (k ∷ ks) h = let e = sum_by-cons (λ k. n ^ k) k ks in (omega (arith, e, h), each_within n m ks (omega (arith, e, h)))

-- what is not too large is within the limits
pub within_limits : (n : ℕ) (arities : List ℕ) → is_too_large n arities ≡ false → (n ≤ SIZE) × (values_needed n arities ≤ VALUES)
within_limits n arities e = let both = or_parts (nat_lt SIZE n) (nat_lt VALUES (values_needed n arities)) e in (ltb-false SIZE n both.0, ltb-false VALUES (values_needed n arities) both.1)

-- the arities of an algebra are a shape
pub arities-IsShape : (a : FiniteAlgebra) → IsAlgebraTable a → IsShape (arities_of a)
arities-IsShape a t = record {
  few = (let n = length-map a.operations (λ (o : Operation). o.arity) in let f = t.few in omega (arith, n, f));
  small = all_map (λ k. k ≤ ARITY) (λ (o : Operation). o.arity) a.operations (all_weaker IsTable (λ o. o.arity ≤ ARITY) (λ o h. h.arity) a.operations t.tables);
}
