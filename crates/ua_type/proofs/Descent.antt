-- Why a congruence that is not the identity has a subtrace: a pair that is refuted generates one that generates
-- fewer pairs, since it lacks the first.
use Rattle.std.proofs.Common.{◌≡◌, ◌≢◌, ℕ, zero, suc, ◌<◌, ◌≤◌, Bool, true, false, cond, List, [], ◌∷◌, length, refl, sym, ap, ap₂, ◌∙◌, subst, arith, ⊎_elim, inl, inr}
use Rattle.std.specs.Prelude.{Contains, filter, not, ◌⊎◌, ◌==◌, ◌&&◌}
use Rattle.std.proofs.lemmas.Bool.{cases_eq, eq-eqb, eqb-true}
use Rattle.ua_table.specs.Algebras.{FiniteAlgebra}
use Rattle.ua_table.proofs.Lists.{Contains-cases, Contains-none}
use Rattle.ua_part.specs.Partitions.{Partition, SameBlock}
use Rattle.ua_part.specs.Labels.{same_labels}
use Rattle.ua_part.specs.Pairs.{related_pairs}
use Rattle.ua_part.proofs.RelatedLaws.{passed_in, related_in}
use Rattle.ua_prod.specs.Congruences.{IsCongruence}
use Rattle.ua_type.specs.Subtraces.{Generates, IsRefuted, HasSubtrace}
use Rattle.ua_type.specs.inner.Images.{RelatesTwo}
use Rattle.ua_type.proofs.GeneratedPairs.{generates_itself, generates_through, generates_related}

-- ---- a list without one pair

-- whether the pair is another
abbrev other : ℕ × ℕ → ℕ × ℕ → Bool
other p q = not (same_labels p q)

not_true : (t : Bool) → (t ≡ true → ⊥) → not t ≡ true
not_true true h = absurd (h refl)
not_true false h = refl

and_true : (a b : Bool) → (a && b) ≡ true → (a ≡ true) × (b ≡ true)
and_true true true e = (refl, refl)
and_true true false e = absurd (cc)
and_true false b e = absurd (cc)

other_itself : (p : ℕ × ℕ) → other p p ≡ false
other_itself p = ap₂ (λ (a b : Bool). not (a && b)) (eq-eqb p.0 p.0 refl) (eq-eqb p.1 p.1 refl)

pub same_from : (p q : ℕ × ℕ) → same_labels p q ≡ true → p ≡ q
same_from p q e = let both = and_true (p.0 == q.0) (p.1 == q.1) e in λ i. (eqb-true p.0 q.0 both.0 i, eqb-true p.1 q.1 both.1 i)

other_apart : (p q : ℕ × ℕ) → (p ≡ q → ⊥) → other p q ≡ true
other_apart p q n = not_true (same_labels p q) (λ e. n (same_from p q e))

no_more : (p : ℕ × ℕ) (xs : List (ℕ × ℕ)) → length (filter (other p) xs) ≤ length xs
no_more p [] = omega arith
no_more p (x ∷ xs) = by (other p x) (no_more p xs)
  where
    by : (b : Bool) → length (filter (other p) xs) ≤ length xs → length (cond b (x ∷ filter (other p) xs) (filter (other p) xs)) ≤ length (x ∷ xs)
    by true h = omega (arith, h)
    by false h = omega (arith, h)

fewer : (p : ℕ × ℕ) (xs : List (ℕ × ℕ)) → Contains xs p → length (filter (other p) xs) < length xs
fewer p [] c = absurd (Contains-none p c)
fewer p (x ∷ xs) c =
    ⊎_elim
    (λ same. let e : other p x ≡ false = ap (other p) same ∙ other_itself p in let l = no_more p xs in
    subst (λ b. length (cond b (x ∷ filter (other p) xs) (filter (other p) xs)) < length (x ∷ xs)) (sym e) (omega (arith, l)))
    (λ r. by (other p x) (fewer p xs r))
    (Contains-cases x p xs c)
  where
    by : (b : Bool) → length (filter (other p) xs) < length xs → length (cond b (x ∷ filter (other p) xs) (filter (other p) xs)) < length (x ∷ xs)
    by true h = omega (arith, h)
    by false h = omega (arith, h)

-- ---- the descent

module _ (b : FiniteAlgebra) (theta : Partition) (cb : IsCongruence b theta) (R : Type 0) (stop : (c d : ℕ) → SameBlock theta c d → c ≢ d → R ⊎ IsRefuted b c d) where
  descend : (n : ℕ) (left : List (ℕ × ℕ)) → length left ≤ n → (x y : ℕ) → SameBlock theta x y → x ≢ y → ((e f : ℕ) → Generates b x y e f → Contains left (e, f)) → R
  descend zero left few x y s differ all = let c = all x y (generates_itself b x y) in let w = c.1 in absurd (omega (arith, few, w))
  descend (suc n) left few x y s differ all =
      ⊎_elim (λ r. r)
      (λ r.
      let less = fewer (x, y) left (all x y (generates_itself b x y)) in
      descend n (filter (other (x, y)) left) (omega (arith, few, less)) r.first r.second
      (generates_related b theta cb x y s r.first r.second r.generated) r.differ
      (λ e f g. passed_in (other (x, y)) (e, f) left (all e f (generates_through b x y r.first r.second e f r.generated g))
      (other_apart (x, y) (e, f) (λ same. r.lacks (subst (λ (q : ℕ × ℕ). Generates b r.first r.second q.0 q.1) (sym same) g)))))
      (stop x y s differ)

  pub descended : (x y : ℕ) → SameBlock theta x y → x ≢ y → R
  descended x y s differ = descend (length (related_pairs theta)) (related_pairs theta) (omega arith) x y s differ (λ e f g. related_in theta e f (generates_related b theta cb x y s e f g))

-- not all pairs are refuted
pub not_all_refuted : (b : FiniteAlgebra) (theta : Partition) (x y : ℕ) → IsCongruence b theta → SameBlock theta x y → x ≢ y → ((c d : ℕ) → SameBlock theta c d → c ≢ d → IsRefuted b c d) → ⊥
not_all_refuted b theta x y cb s differ refuted = descended b theta cb ⊥ (λ c d t n. inr (refuted c d t n)) x y s differ

-- ---- where it is decided what related pairs generate, there is one

module _ (b : FiniteAlgebra) (theta : Partition) (cb : IsCongruence b theta) (decide : (c d e f : ℕ) → SameBlock theta c d → Generates b c d e f ⊎ ¬ Generates b c d e f) where
  -- one of these pairs refutes (x,y), or none does
  search_in : (x y : ℕ) → SameBlock theta x y → (ps : List (ℕ × ℕ)) → IsRefuted b x y ⊎ ((c d : ℕ) → Contains ps (c, d) → Generates b x y c d → c ≢ d → Generates b c d x y)
  search_in x y s [] = inr (λ c d h. absurd (Contains-none (c, d) h))
  search_in x y s (p ∷ ps) =
      ⊎_elim (λ r. inl r)
      (λ rest. ⊎_elim
      (λ same. inr (goes rest (λ _ n. absurd (n same))))
      (λ n. ⊎_elim
      (λ g. ⊎_elim
      (λ back. inr (goes rest (λ _ _. back)))
      (λ lacks. inl (record { first = p.0; second = p.1; generated = g; differ = n; lacks = lacks }))
      (decide p.0 p.1 x y (generates_related b theta cb x y s p.0 p.1 g)))
      (λ not_so. inr (goes rest (λ g _. absurd (not_so g))))
      (decide x y p.0 p.1 s))
      (cases_eq p.0 p.1))
      (search_in x y s ps)
    where
      goes : ((c d : ℕ) → Contains ps (c, d) → Generates b x y c d → c ≢ d → Generates b c d x y)
          → (Generates b x y p.0 p.1 → p.0 ≢ p.1 → Generates b p.0 p.1 x y) → (c d : ℕ) → Contains (p ∷ ps) (c, d) → Generates b x y c d → c ≢ d
          → Generates b c d x y
      goes rest here c d h g n = ⊎_elim
          (λ same. let first : p.0 ≡ c = ap (λ (q : ℕ × ℕ). q.0) same in let second : p.1 ≡ d = ap (λ (q : ℕ × ℕ). q.1) same in
          subst (λ u. Generates b u d x y) first (subst (λ v. Generates b p.0 v x y) second
          (here (subst (λ u. Generates b x y u p.1) (sym first) (subst (Generates b x y c) (sym second) g)) (λ e. n (sym first ∙ e ∙ second)))))
          (λ r. rest c d r g n)
          (Contains-cases p (c, d) ps h)

  -- (x,y) is refuted, or each pair of different elements that it generates generates it
  pub refuted_or : (x y : ℕ) → SameBlock theta x y → IsRefuted b x y ⊎ ((c d : ℕ) → Generates b x y c d → c ≢ d → Generates b c d x y)
  refuted_or x y s =
      ⊎_elim (λ r. inl r)
      (λ all. inr (λ c d g n. all c d (related_in theta c d (generates_related b theta cb x y s c d g)) g n))
      (search_in x y s (related_pairs theta))

  decided : (x y : ℕ) → SameBlock theta x y → x ≢ y → HasSubtrace b theta ⊎ IsRefuted b x y
  decided x y s differ = ⊎_elim (λ r. inr r) (λ minimal. inl (record { low = x; high = y; subtrace = record { related = s; differ = differ; minimal = minimal } })) (refuted_or x y s)

  pub subtrace_exists : RelatesTwo theta → HasSubtrace b theta
  subtrace_exists two = descended b theta cb (HasSubtrace b theta) decided two.first two.second two.related two.differ
