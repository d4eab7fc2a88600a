-- Room for fewer records than the budget, where a product has fewer vectors.
use Rattle.std.proofs.Common.{◌≡◌, ℕ, ◌+◌, ◌*◌, ◌≤◌, List, [], ◌∷◌, ◌++◌, length, take, Some, ap, ◌∙◌, subst, arith, ⊎_elim}
use Rattle.std.specs.Prelude.{slice_get}
use Rattle.std.specs.List.{AllByRecursion}
use Rattle.std.proofs.lemmas.List.{take_more}
use Rattle.std.proofs.lemmas.Option.{slice_get_within, get_or_from_slice_get}
use Rattle.std.proofs.Math.Nat.{pow-le-pow_left, mul-le-mul_left}
use Rattle.ua_table.specs.Algebras.{Vector, FiniteAlgebra, Product, IsProduct, IsVector}
use Rattle.ua_table.specs.Numbering.{greatest, Fits}
use Rattle.ua_table.proofs.ListingLaws.{exceeding_has_more}
use Rattle.ua_close.specs.declared.close.Closure.{Closure}
use Rattle.ua_close.specs.declared.close.Closure.TheVariants.{Closed, Exceeds}
use Rattle.ua_close.specs.declared.reaches.Reach.{Reach}
use Rattle.ua_close.specs.declared.reaches.Reach.TheVariants as reaches
use Rattle.ua_close.specs.declared.sizes.Size.{Size}
use Rattle.ua_work.specs.declared.goals.Goal.{Goal}
use Rattle.ua_close.specs.Kinds.{cardinality}
use Rattle.ua_close.specs.inner.Kinds.{IsEnough}
use Rattle.ua_close.specs.Answers.{Answers}
use Rattle.ua_close.specs.Reaches.{Reaches}
use Rattle.ua_close.specs.Sizes.{IsSize}
use Rattle.ua_close.proofs.KindLaws.{few_members}

-- ---- how many vectors

cardinality-push : (p : Product) (a : FiniteAlgebra) → cardinality (p ++ a ∷ []) ≡ cardinality p * a.size
cardinality-push [] a = omega arith
cardinality-push (b ∷ p) a = ap (λ n. b.size * n) (cardinality-push p a) ∙ omega arith

pub cardinality_more : (p : Product) (i : ℕ) (a : FiniteAlgebra) → slice_get p i ≡ Some a → cardinality (take (i + 1) p) ≡ cardinality (take i p) * a.size
cardinality_more p i a e =
    let low = slice_get_within p i a e in
    ap cardinality (take_more p i a low ∙ ap (λ (b : FiniteAlgebra). take i p ++ b ∷ []) (get_or_from_slice_get p i a a e)) ∙ cardinality-push (take i p) a

-- ---- a smaller budget

-- whose records fit
pub fits_within : (ks : List ℕ) (gens b n : ℕ) → n ≤ b → Fits ks gens b → Fits ks gens n
fits_within ks gens b n h fits =
    let p = pow-le-pow_left h (greatest ks) in
    let m = mul-le-mul_left (length ks) p in
    omega (arith, m, fits)

module _ (p : Product) (gens : List Vector) (product : IsProduct p) (admitted : AllByRecursion (IsVector p) gens) where
  answers_wider : (b n : ℕ) → IsEnough p b n → (closure : Closure) → Answers p gens n closure → Answers p gens b closure
  answers_wider b n enough (Closed rows) h = record { listing = h.listing; within = (let w = h.within in let l = enough.within in omega (arith, w, l)); exact = h.exact }
  answers_wider b n enough (Exceeds rows) h = ⊎_elim
      (λ same. subst (λ m. Answers p gens m (Exceeds rows)) same h)
      (λ all. let low = few_members p gens product admitted n (exceeding_has_more p gens n rows h) in absurd (omega (arith, low, all)))
      enough.all

  -- answers the same
  pub reaches_wider : (goal : Goal) (b n : ℕ) → IsEnough p b n → (reach : Reach) → Reaches p gens goal n reach → Reaches p gens goal b reach
  reaches_wider goal b n enough (reaches.Closed rows) h = (answers_wider b n enough (Closed rows) h.0, h.1)
  reaches_wider goal b n enough (reaches.Exceeds rows) h = (answers_wider b n enough (Exceeds rows) h.0, h.1)
  reaches_wider goal b n enough (reaches.Met rows) h = record { listing = h.listing; count = (let w = h.count in let l = enough.within in omega (arith, w, l)); met = h.met }

  pub size_wider : (b n : ℕ) → IsEnough p b n → (workers : ℕ) (told : Size) → IsSize p gens n workers told → IsSize p gens b workers told
  size_wider b n enough workers told h = record { closure = h.closure; answers = answers_wider b n enough h.closure h.answers; serial = h.serial; size = h.size }
