-- What is written as a condition is one, where it passes its checks.
use Rattle.std.proofs.Common.{◌≡◌, ℕ, suc, ◌<◌, ◌≤◌, ◌==◌, ◌&&◌, max, nat_le, List, [], ◌∷◌, ◌++◌, length, map, ◌∙◌, arith}
use Rattle.std.specs.Prelude.{fold}
use Rattle.std.specs.List.{AllByRecursion, flat_map}
use Rattle.std.proofs.Math.Nat.{le-max_left, le-max_right}
use Rattle.std.proofs.lemmas.Bool.{and_parts, leb-true, eqb-true}
use Rattle.std.proofs.lemmas.List.{length-map}
use Rattle.ua_table.proofs.Lists.{all_append}
use Rattle.ua_identity.specs.Identities.{TermIdentity}
use Rattle.ua_identity.specs.Conditions.{IsIdentity, IsCondition}
use Rattle.ua_operands.specs.declared.written.Number.{Number}
use Rattle.ua_operands.specs.declared.written.Variable.{Variable}
use Rattle.ua_operands.specs.declared.written.Variable.TheVariants.{X, Y, Z, W}
use Rattle.ua_operands.specs.declared.written.IdentityText.{IdentityText}
use Rattle.ua_reply.specs.Checks.{Passes, all_in}
use Rattle.ua_reply.proofs.CheckLaws.{parts_pass, each_passes, known_step}
use Rattle.ua_answer_conditions.specs.ConditionCommand.{number_of, numbers_in, variables_in, identity_of, condition_of, arity_in, identity_in, condition_checks}

-- each is below one more than the greatest
below_greatest : (a : ℕ) (xs : List ℕ) → (a < suc (fold max a xs)) × AllByRecursion (λ x. x < suc (fold max a xs)) xs
below_greatest a [] = (omega arith, tt)
below_greatest a (x ∷ xs) =
    let r = below_greatest (max a x) xs in
    let before = le-max_left a x in
    let here = le-max_right a x in
    let all = r.0 in
    (omega arith, (omega arith, r.1))

both : (P : ℕ → Type 0) (xs ys : List ℕ) → AllByRecursion P (xs ++ ys) → AllByRecursion P xs × AllByRecursion P ys
both P [] ys h = (tt, h)
both P (x ∷ xs) ys h = let r = both P xs ys h.1 in ((h.0, r.0), r.1)

each_in : (P : ℕ → Type 0) (is : List IdentityText) → AllByRecursion P (flat_map numbers_in is) → AllByRecursion (λ i. AllByRecursion P (numbers_in i)) is
each_in P [] h = tt
each_in P (i ∷ is) h = let r = both P (numbers_in i) (flat_map numbers_in is) h in (r.0, each_in P is r.1)

-- the variables of each identity are below their number
pub all_named : (is : List IdentityText) → AllByRecursion (λ i. AllByRecursion (λ v. v < variables_in is) (numbers_in i)) is
all_named is = each_in (λ v. v < variables_in is) is (below_greatest 0 (flat_map numbers_in is)).1

pub one_identity : (n : ℕ) (i : IdentityText) → n ≤ 4 → AllByRecursion (λ v. v < n) (numbers_in i) → IsIdentity (identity_of n i)
one_identity n i few h = record { pattern = record { few = few; named = h.1 }; value = h.0 }

are_identities : (n : ℕ) (is : List IdentityText) → n ≤ 4 → AllByRecursion (λ i. AllByRecursion (λ v. v < n) (numbers_in i)) is → AllByRecursion IsIdentity (map (identity_of n) is)
are_identities n [] few h = tt
are_identities n (i ∷ is) few h = (one_identity n i few h.0, are_identities n is few h.1)

are_filled : (k : Number) (n : ℕ) (is : List IdentityText) → AllByRecursion (λ i. Passes (identity_in k i)) is → AllByRecursion (λ (i : TermIdentity). length i.pattern.places ≡ k.value) (map (identity_of n) is)
are_filled k n [] h = tt
are_filled k n (i ∷ is) h = (length-map i.args number_of ∙ eqb-true (length i.args) k.value (known_step (length i.args == k.value) i.place h.0.shape), are_filled k n is h.1)

-- ---- there are four variables

number_low : (v : Variable) → number_of v < 4
number_low X = omega arith
number_low Y = omega arith
number_low Z = omega arith
number_low W = omega arith

each_low : (vs : List Variable) → AllByRecursion (λ x. x < 4) (map number_of vs)
each_low [] = tt
each_low (v ∷ vs) = (number_low v, each_low vs)

all_low : (is : List IdentityText) → AllByRecursion (λ x. x < 4) (flat_map numbers_in is)
all_low [] = tt
all_low (i ∷ is) = all_append (λ x. x < 4) (numbers_in i) (flat_map numbers_in is) (number_low i.value, each_low i.args) (all_low is)

greatest_low : (n a : ℕ) (xs : List ℕ) → a < n → AllByRecursion (λ x. x < n) xs → fold max a xs < n
greatest_low n a [] low h = low
greatest_low n a (x ∷ xs) low h = greatest_low n (max a x) xs (let here = h.0 in omega (arith, low, here)) h.1

pub few_letters : (is : List IdentityText) → variables_in is ≤ 4
few_letters is = greatest_low 4 0 (flat_map numbers_in is) (omega arith) (all_low is)

-- ---- conditions

-- where nothing fails, it is a condition
pub is_condition : (k : Number) (is : List IdentityText) → Passes (condition_checks k is) → 0 < length is → variables_in is ≤ 4 → IsCondition (condition_of k is)
is_condition k is passes some few =
    let p = parts_pass (arity_in k) (all_in (identity_in k) is) passes in
    let a = and_parts (nat_le 1 k.value) (nat_le k.value 16) (known_step (nat_le 1 k.value && nat_le k.value 16) k.place p.0.range) in
    let n = length-map is (identity_of (variables_in is)) in
    record {
      some = leb-true 1 k.value a.0;
      small = leb-true k.value 16 a.1;
      identity = omega arith;
      identities = are_identities (variables_in is) is few (all_named is);
      filled = are_filled k (variables_in is) is (each_passes (identity_in k) is p.1);
    }

-- its terms have no more places than a byte counts
pub few_places : (k : Number) (is : List IdentityText) → Passes (condition_checks k is) → k.value ≤ 16
few_places k is passes =
    let p = parts_pass (arity_in k) (all_in (identity_in k) is) passes in
    leb-true k.value 16 (and_parts (nat_le 1 k.value) (nat_le k.value 16) (known_step (nat_le 1 k.value && nat_le k.value 16) k.place p.0.range)).1
