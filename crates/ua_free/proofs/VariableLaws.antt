-- The variables of terms.
use Rattle.std.proofs.Common.{◌≡◌, ℕ, zero, suc, ◌+◌, ◌<◌, ◌≤◌, List, [], ◌∷◌, length, map, take, get_or, ap, ◌∙◌, arith}
use Rattle.std.specs.Prelude.{max}
use Rattle.ua_table.specs.Terms.{Tree, Generator, Application, Trees, none, more, IsTerm, AreTerms}
use Rattle.ua_term.specs.declared.terms.Term.{Term}
use Rattle.ua_term.specs.Trees.{tree_of, trees}
use Rattle.ua_free.specs.Identities.{variables_of, most_variables}

mutual
  -- a term has no more variables than it may have
  pub variables_low : (ks : List ℕ) (g : ℕ) (t : Tree) → IsTerm ks g t → variables_of t ≤ g
  variables_low ks g (Generator i) h = omega (arith, h)
  variables_low ks g (Application f ts) h = most_low ks g ts h.2

  most_low : (ks : List ℕ) (g : ℕ) (ts : Trees) → AreTerms ks g ts → most_variables ts ≤ g
  most_low ks g none h = omega arith
  most_low ks g (more t ts) h = let one = variables_low ks g t h.0 in let rest = most_low ks g ts h.1 in omega (arith, one, rest)

mutual
  -- and it is a term in as many as it has
  pub term_within : (ks : List ℕ) (g k : ℕ) (t : Tree) → IsTerm ks g t → variables_of t ≤ k → IsTerm ks k t
  term_within ks g k (Generator i) h low = omega (arith, low)
  term_within ks g k (Application f ts) h low = (h.0, h.1, terms_within ks g k ts h.2 low)

  terms_within : (ks : List ℕ) (g k : ℕ) (ts : Trees) → AreTerms ks g ts → most_variables ts ≤ k → AreTerms ks k ts
  terms_within ks g k none h low = tt
  terms_within ks g k (more t ts) h low = (term_within ks g k t h.0 (omega (arith, low)), terms_within ks g k ts h.1 (omega (arith, low)))

-- ---- terms in a list

abbrev pub most_in : List Term → ℕ
most_in ts = most_variables (trees (map tree_of ts))

-- one of them has no more variables than all
pub one_low : (ts : List Term) (i : ℕ) (d : Term) → i < length ts → variables_of (tree_of (get_or ts i d)) ≤ most_in ts
one_low [] i d l = absurd (omega (arith, l))
one_low (t ∷ ts) zero d l = omega arith
one_low (t ∷ ts) (suc i) d l = let r = one_low ts i d (omega (arith, l)) in omega (arith, r)

-- the first of them, and one more
pub most_more : (ts : List Term) (i : ℕ) (d : Term) → i < length ts → most_in (take (i + 1) ts) ≡ max (most_in (take i ts)) (variables_of (tree_of (get_or ts i d)))
most_more ts i d l = let one : i + 1 ≡ suc i = omega arith in ap (λ n. most_in (take n ts)) one ∙ go ts i l
  where
    go : (ts : List Term) (i : ℕ) → i < length ts → most_in (take (suc i) ts) ≡ max (most_in (take i ts)) (variables_of (tree_of (get_or ts i d)))
    go [] i l = absurd (omega (arith, l))
    go (t ∷ ts) zero l = omega arith
    go (t ∷ ts) (suc i) l = let r = go ts i (omega (arith, l)) in omega (arith, r)
