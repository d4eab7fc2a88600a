-- For each budget there is a closed listing or an exceeding one.
use Rattle.std.proofs.Common.{◌≡◌, ℕ, ◌*◌, ◌<◌, ◌≤◌, List, [], ◌∷◌, length, map, refl, ap, ◌∙◌, arith, ⊎_elim}
use Rattle.std.specs.Prelude.{Contains}
use Rattle.std.specs.List.{AllByRecursion}
use Rattle.std.proofs.lemmas.List.{length-map}
use Rattle.std.proofs.lemmas.List.FromFn.{length-range_with_len}
use Rattle.ua_table.specs.Algebras.{Vector, FiniteAlgebra, Product, IsProduct, IsVector, apply}
use Rattle.ua_table.specs.Generated.{Sg, HasMoreThan}
use Rattle.ua_table.specs.Listings.{Row, vectors_of, IsListing, IsClosedListing}
use Rattle.ua_table.specs.Numbering.{choices}
use Rattle.ua_table.proofs.ApplyLaws.{IsVector-apply}
use Rattle.ua_table.proofs.Choices.{IsChoice, chosen, choice_from, range_low}
use Rattle.ua_table.proofs.GeneratedLaws.{Sg-least}
use Rattle.ua_table.proofs.ListingLaws.{vector_in, length-le_from_members, exceeding_has_more}
use Rattle.ua_table.proofs.Lists.{all_at, all_weaker}
use Rattle.ua_table.proofs.SpanLaws.{length_pieces}
use Rattle.ua_work.specs.declared.goals.Goal.{Goal}
use Rattle.ua_work.specs.declared.goals.Goal.TheVariants.{Whole}
use Rattle.ua_work.specs.Goals.{Meets}
use Rattle.ua_close.specs.declared.close.Closure.{Closure}
use Rattle.ua_close.specs.declared.close.Closure.TheVariants.{Closed, Exceeds}
use Rattle.ua_close.specs.Answers.{Answers}
use Rattle.ua_close.specs.Kinds.{cardinality, HasAnswer, HasClosedListing}
use Rattle.ua_close.proofs.GrowthLaws.{serial_listing_exists}
use Rattle.ua_close.proofs.MetLaws.{meets_more, goal_test}
use Rattle.ua_close.proofs.OriginLists.{below, in_below}

-- ---- a closed listing or an exceeding one

module _ (p : Product) (gens : List Vector) (product : IsProduct p) (admitted : AllByRecursion (IsVector p) gens) where
  -- that of one worker who looks for nothing
  pub one_kind : (b : ℕ) → HasAnswer p gens b
  one_kind b =
      let l = serial_listing_exists p gens product admitted (Meets Whole) (goal_test Whole) b in
      ⊎_elim
      (λ closed. record { closure = Closed l.rows; answers = closed.0; serial = l.serial })
      (λ ended. ⊎_elim (λ exceeding. record { closure = Exceeds l.rows; answers = exceeding.0; serial = l.serial }) (λ met. absurd met.met) ended)
      l.ends

-- ---- all vectors of a product

abbrev all_vectors : Product → List Vector
all_vectors p = choices (map (λ (a : FiniteAlgebra). below a.size) p)

length-all_vectors : (p : Product) → length (all_vectors p) ≡ cardinality p
length-all_vectors [] = refl
length-all_vectors (a ∷ p) =
    length_pieces (λ x. map (λ t. x ∷ t) (all_vectors p)) (cardinality p) (λ x. length-map (all_vectors p) (λ t. x ∷ t) ∙ length-all_vectors p) (below a.size)
    ∙ ap (λ n. n * cardinality p) (length-range_with_len 0 a.size)

vector_chosen : (p : Product) (v : Vector) → IsVector p v → IsChoice (map (λ (a : FiniteAlgebra). below a.size) p) v
vector_chosen [] [] h = tt
vector_chosen [] (x ∷ v) h = absurd h
vector_chosen (a ∷ p) [] h = absurd h
vector_chosen (a ∷ p) (x ∷ v) h = (in_below a.size x h.0, vector_chosen p v h.1)

chosen_vector : (p : Product) (v : Vector) → IsChoice (map (λ (a : FiniteAlgebra). below a.size) p) v → IsVector p v
chosen_vector [] [] h = tt
chosen_vector [] (x ∷ v) h = absurd h
chosen_vector (a ∷ p) [] h = absurd h
chosen_vector (a ∷ p) (x ∷ v) h = let r = range_low 0 a.size x h.0 in (omega (arith, r.1), chosen_vector p v h.1)

in_all : (p : Product) (v : Vector) → IsVector p v → Contains (all_vectors p) v
in_all p v h = chosen (map (λ (a : FiniteAlgebra). below a.size) p) v (vector_chosen p v h)

from_all : (p : Product) (v : Vector) → Contains (all_vectors p) v → IsVector p v
from_all p v c = chosen_vector p v (choice_from (map (λ (a : FiniteAlgebra). below a.size) p) v c)

module _ (p : Product) (gens : List Vector) (product : IsProduct p) (admitted : AllByRecursion (IsVector p) gens) where
  members_admitted : (v : Vector) → Sg p gens v → Contains (all_vectors p) v
  members_admitted = Sg-least p gens (all_vectors p) (all_weaker (IsVector p) (Contains (all_vectors p)) (in_all p) gens admitted) (λ f args h count held.
      in_all p (apply p f args) (IsVector-apply p f args product h count (all_weaker (Contains (all_vectors p)) (IsVector p) (from_all p) args held)))

  pub members_vectors : (v : Vector) → Sg p gens v → IsVector p v
  members_vectors v s = from_all p v (members_admitted v s)

  -- no more members than the product has vectors
  pub few_members : (b : ℕ) → HasMoreThan p gens b → b < cardinality p
  few_members b more =
      let n = length-le_from_members more.members (all_vectors p) more.increasing (λ v c. members_admitted v (all_at (Sg p gens) more.members v more.generated c)) in
      omega (arith, n, more.count, length-all_vectors p)

  closed_answer : (b : ℕ) → cardinality p ≤ b → (closure : Closure) → Answers p gens b closure → HasClosedListing p gens b
  closed_answer b enough (Closed rows) h = record { rows = rows; closed = h }
  closed_answer b enough (Exceeds rows) h = let low = few_members b (exceeding_has_more p gens b rows h) in absurd (omega (arith, low, enough))

  -- so a budget of as many has a closed listing
  pub closed_exists : (b : ℕ) → cardinality p ≤ b → HasClosedListing p gens b
  closed_exists b enough = let h = one_kind p gens product admitted b in closed_answer b enough h.closure h.answers

-- what some listing meets, each closed one meets
pub closed_meets : (p : Product) (gens : List Vector) (goal : Goal) (b : ℕ) (rows others : List Row) → IsListing p gens rows → Meets goal (vectors_of rows) → IsClosedListing p gens b others → Meets goal (vectors_of others)
closed_meets p gens goal b rows others listing meets closed = meets_more goal (vectors_of rows) (vectors_of others) (λ v c. (closed.exact v).1 (vector_in p gens rows listing v c)) meets
