-- The named conditions are conditions.
use Rattle.std.proofs.Common.{◌≡◌, ℕ, zero, suc, ◌<◌, ◌≤◌, List, [], ◌∷◌, length, map, set, replicate, refl, ap, ◌∙◌, arith}
use Rattle.std.specs.List.{AllByRecursion, range_with_len}
use Rattle.std.proofs.lemmas.List.{length-set, length-replicate}
use Rattle.std.proofs.lemmas.List.FromFn.{length-map-range_with_len}
use Rattle.ua_table.proofs.Lists.{all_map, all_from_contains}
use Rattle.ua_identity.specs.declared.limits.TheConstants.{PLACES}
use Rattle.ua_identity.specs.Identities.{TermIdentity, over_two}
use Rattle.ua_identity.specs.Conditions.{IsIdentity, IsCondition, near_unanimous, near_unanimity, maltsev, majority, minority, pixley}

all_x : (k : ℕ) → AllByRecursion (λ v. v < 2) (replicate k 0)
all_x zero = tt
all_x (suc k) = (omega arith, all_x k)

one_y : (xs : List ℕ) (i : ℕ) → AllByRecursion (λ v. v < 2) xs → AllByRecursion (λ v. v < 2) (set xs i 1)
one_y [] i h = tt
one_y (x ∷ xs) zero h = (omega arith, h.1)
one_y (x ∷ xs) (suc i) h = (h.0, one_y xs i h.1)

near_unanimous_is : (k i : ℕ) → IsIdentity (near_unanimous k i)
near_unanimous_is k i = record { pattern = record { few = omega arith; named = one_y (replicate k 0) i (all_x k) }; value = omega arith }

pub near_unanimity_is : (k : ℕ) → 1 ≤ k → k ≤ PLACES → IsCondition (near_unanimity k)
near_unanimity_is k some small = record {
  some = some;
  small = small;
  identity = (let count = length-map-range_with_len (near_unanimous k) 0 k in omega (arith, count, some));
  identities = all_map IsIdentity (near_unanimous k) (range_with_len 0 k) (all_from_contains (λ i. IsIdentity (near_unanimous k i)) (range_with_len 0 k) (λ i c. near_unanimous_is k i));
  filled = all_map (λ (i : TermIdentity). length i.pattern.places ≡ k) (near_unanimous k) (range_with_len 0 k)
      (all_from_contains (λ i. length (set (replicate k 0) i 1) ≡ k) (range_with_len 0 k) (λ i c. length-set (replicate k 0) i 1 ∙ length-replicate k 0));
}

-- an identity of three places
three_places : (i j k value : ℕ) → i < 2 → j < 2 → k < 2 → value < 2 → IsIdentity (record { pattern = over_two (i ∷ j ∷ k ∷ []); value = value })
three_places i j k value p q r v = record { pattern = record { few = omega arith; named = (p, (q, (r, tt))) }; value = v }

pub maltsev_is : IsCondition maltsev
maltsev_is = record {
  some = omega arith;
  small = omega arith;
  identity = omega arith;
  identities = (three_places 0 1 1 0 (omega arith) (omega arith) (omega arith) (omega arith), (three_places 0 0 1 1 (omega arith) (omega arith) (omega arith) (omega arith), tt));
  filled = (refl, (refl, tt));
}

pub majority_is : IsCondition majority
majority_is = record {
  some = omega arith;
  small = omega arith;
  identity = omega arith;
  identities = (
    three_places 0 0 1 0 (omega arith) (omega arith) (omega arith) (omega arith),
    (
      three_places 0 1 0 0 (omega arith) (omega arith) (omega arith) (omega arith),
      (three_places 1 0 0 0 (omega arith) (omega arith) (omega arith) (omega arith), tt),
    ),
  );
  filled = (refl, (refl, (refl, tt)));
}

pub minority_is : IsCondition minority
minority_is = record {
  some = omega arith;
  small = omega arith;
  identity = omega arith;
  identities = (
    three_places 0 0 1 1 (omega arith) (omega arith) (omega arith) (omega arith),
    (
      three_places 0 1 0 1 (omega arith) (omega arith) (omega arith) (omega arith),
      (three_places 1 0 0 1 (omega arith) (omega arith) (omega arith) (omega arith), tt),
    ),
  );
  filled = (refl, (refl, (refl, tt)));
}

pub pixley_is : IsCondition pixley
pixley_is = record {
  some = omega arith;
  small = omega arith;
  identity = omega arith;
  identities = (
    three_places 0 1 1 0 (omega arith) (omega arith) (omega arith) (omega arith),
    (
      three_places 0 1 0 0 (omega arith) (omega arith) (omega arith) (omega arith),
      (three_places 0 0 1 1 (omega arith) (omega arith) (omega arith) (omega arith), tt),
    ),
  );
  filled = (refl, (refl, (refl, tt)));
}

pub all_near_unanimous : (k i : ℕ) → i ≡ k → map (near_unanimous k) (range_with_len 0 i) ≡ map (near_unanimous k) (range_with_len 0 k)
all_near_unanimous k i e = ap (λ n. map (near_unanimous k) (range_with_len 0 n)) e
