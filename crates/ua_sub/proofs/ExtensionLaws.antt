-- The pairs that generators and their images generate are the values of the terms, and so make a homomorphism.
use Rattle.std.proofs.Common.{◌≡◌, ℕ, zero, suc, ◌<◌, List, [], ◌∷◌, length, map, get_or, refl, sym, ap, ◌∙◌, subst, arith}
use Rattle.std.specs.Prelude.{Contains, zip, slice_index, slice_index_or}
use Rattle.std.specs.List.{AllByRecursion}
use Rattle.std.proofs.lemmas.List.{length-map, get_or_default}
use Rattle.ua_table.specs.Algebras.{FiniteAlgebra, Product, Vector, arities_of, value_at, column, apply}
use Rattle.ua_table.specs.Generated.{Sg, HasMoreThan, IsClosed}
use Rattle.ua_table.specs.Terms.{Tree, Generator, Application, IsTerm, term_value, eval}
use Rattle.ua_table.proofs.GeneratedLaws.{generator_in, result_in, Sg-least}
use Rattle.ua_table.proofs.ListingLaws.{length-le_from_members}
use Rattle.ua_table.proofs.Lists.{Contains-map, Contains-map_from, all_at, all_from_contains, all_weaker, all_map}
use Rattle.ua_table.proofs.TermLaws.{value_is_eval}
use Rattle.ua_term.specs.Steps.{StepList}
use Rattle.ua_close.specs.declared.memberships.Answer.TheVariants.{Yes}
use Rattle.ua_close.specs.Memberships.{Tells}
use Rattle.ua_sub.specs.Members.{singles}
use Rattle.ua_sub.specs.Homs.{both, two, with_images, IsGraph, IsMap, IsPairClash}
use Rattle.ua_sub.specs.Extensions.{elements_in, images_in, IsExtension}
use Rattle.ua_sub.proofs.HomLaws.{length-with_images}
use Rattle.ua_sub.proofs.MemberLaws.{column_singles}

-- ---- what is told

pub no_more : (p : Product) (gens : List Vector) (b : ℕ) (pairs : List (ℕ × ℕ)) → IsMap p gens b pairs → ¬ HasMoreThan p gens b
no_more p gens b pairs map_is more =
    let n = length-le_from_members more.members (map two pairs) more.increasing (λ v c. (map_is.exact v).1 (all_at (Sg p gens) more.members v more.generated c)) in
    omega (arith, n, more.count, map_is.within, length-map pairs two)

-- what steps have as their value is generated
abbrev pub StepLaw : Type 0
StepLaw = (p : Product) (gens : List Vector) (v : Vector) (b : ℕ) (s : StepList) → Tells p gens v b (Yes s) → Sg p gens v

pub no_graph : StepLaw → (p : Product) (gens : List Vector) (x y z : ℕ) (first second : StepList) → IsPairClash p gens x y z first second → ¬ IsGraph p gens
no_graph law p gens x y z first second clash graph = clash.apart (graph x y z (law p gens (two (x, y)) 0 first clash.first_steps) (law p gens (two (x, z)) 0 second clash.second_steps))

-- ---- pairs

two_same : (q r : ℕ × ℕ) → two q ≡ two r → q ≡ r
two_same q r e = λ i. (first i, second i)
  where
    first : q.0 ≡ r.0
    first = ap (λ (v : Vector). get_or v 0 0) e

    second : q.1 ≡ r.1
    second = ap (λ (v : Vector). get_or v 1 0) e

from_two : (pairs : List (ℕ × ℕ)) (q : ℕ × ℕ) → Contains (map two pairs) (two q) → Contains pairs q
from_two pairs q c = let r = Contains-map_from two (two q) pairs c in subst (Contains pairs) (two_same r.0 q r.2) r.1

firsts : (pairs : List (ℕ × ℕ)) → column (map two pairs) 0 ≡ elements_in pairs
firsts [] = refl
firsts (q ∷ pairs) = ap (λ (xs : List ℕ). q.0 ∷ xs) (firsts pairs)

seconds : (pairs : List (ℕ × ℕ)) → column (map two pairs) 1 ≡ images_in pairs
seconds [] = refl
seconds (q ∷ pairs) = ap (λ (xs : List ℕ). q.1 ∷ xs) (seconds pairs)

-- an operation at pairs
value_of_pairs : (a b : FiniteAlgebra) (f : ℕ) (pairs : List (ℕ × ℕ)) → apply (both a b) f (map two pairs) ≡ two (value_at a f (elements_in pairs), value_at b f (images_in pairs))
value_of_pairs a b f pairs = λ i. value_at a f (firsts pairs i) ∷ value_at b f (seconds pairs i) ∷ []

-- ---- the values of terms

module _ (a b : FiniteAlgebra) (gens images : List ℕ) (same : length images ≡ length gens) where
  gens_first : (gens images : List ℕ) → length images ≡ length gens → column (with_images gens images) 0 ≡ gens
  gens_first [] images e = refl
  gens_first (g ∷ gens) [] e = absurd (omega (arith, e))
  gens_first (g ∷ gens) (x ∷ images) e = ap (λ (xs : List ℕ). g ∷ xs) (gens_first gens images (omega (arith, e)))

  images_second : (gens images : List ℕ) → length images ≡ length gens → column (with_images gens images) 1 ≡ images
  images_second [] [] e = refl
  images_second [] (x ∷ images) e = absurd (omega (arith, e))
  images_second (g ∷ gens) [] e = absurd (omega (arith, e))
  images_second (g ∷ gens) (x ∷ images) e = ap (λ (xs : List ℕ). x ∷ xs) (images_second gens images (omega (arith, e)))

  generator_pair : (gens images : List ℕ) (i : ℕ) → length images ≡ length gens → i < length gens → slice_index_or (with_images gens images) i [] ≡ two (slice_index gens i, slice_index images i)
  generator_pair [] images i e h = absurd (omega (arith, h))
  generator_pair (g ∷ gens) [] i e h = absurd (omega (arith, e))
  generator_pair (g ∷ gens) (x ∷ images) zero e h = refl
  generator_pair (g ∷ gens) (x ∷ images) (suc i) e h = generator_pair gens images i (omega (arith, e)) (omega (arith, h))

  generator_single : (gens : List ℕ) (i : ℕ) → i < length gens → slice_index_or (singles gens) i [] ≡ slice_index gens i ∷ []
  generator_single [] i h = absurd (omega (arith, h))
  generator_single (g ∷ gens) zero h = refl
  generator_single (g ∷ gens) (suc i) h = generator_single gens i (omega (arith, h))

  -- a term's value at the pairs is its value at the generators with that at the images
  pair_value : (t : Tree) → IsTerm (arities_of a) (length gens) t → term_value (both a b) (with_images gens images) t ≡ two (eval a gens t, eval b images t)
  pair_value (Generator i) h = generator_pair gens images i same h
  pair_value (Application f ts) h =
      let left = value_is_eval (both a b) (with_images gens images) 0 a refl (Application f ts) ∙ ap (λ (xs : List ℕ). eval a xs (Application f ts)) (gens_first gens images same) in
      let right = value_is_eval (both a b) (with_images gens images) 1 b refl (Application f ts) ∙ ap (λ (xs : List ℕ). eval b xs (Application f ts)) (images_second gens images same) in
      λ i. left i ∷ right i ∷ []

  single_value : (t : Tree) → IsTerm (arities_of a) (length gens) t → term_value (a ∷ []) (singles gens) t ≡ eval a gens t ∷ []
  single_value (Generator i) h = generator_single gens i h
  single_value (Application f ts) h = ap (λ x. x ∷ []) (value_is_eval (a ∷ []) (singles gens) 0 a refl (Application f ts) ∙ ap (λ (xs : List ℕ). eval a xs (Application f ts)) (column_singles gens))

  -- the pairs have exactly the generated elements
  element_of : (x y : ℕ) → Sg (both a b) (with_images gens images) (two (x, y)) → Sg (a ∷ []) (singles gens) (x ∷ [])
  element_of x y s =
      let t_is : IsTerm (arities_of a) (length gens) s.term = subst (λ n. IsTerm (arities_of a) n s.term) (length-with_images gens images same) s.is_term in
      let value : eval a gens s.term ≡ x = ap (λ (v : Vector). get_or v 0 0) (sym (pair_value s.term t_is) ∙ s.value) in
      record {
        term = s.term;
        is_term = subst (λ n. IsTerm (arities_of a) n s.term) (sym (length-map gens (λ z. z ∷ []))) t_is;
        value = single_value s.term t_is ∙ ap (λ z. z ∷ []) value;
      }

  pair_of : (x : ℕ) → Sg (a ∷ []) (singles gens) (x ∷ []) → (y : ℕ) × Sg (both a b) (with_images gens images) (two (x, y))
  pair_of x s =
      let t_is : IsTerm (arities_of a) (length gens) s.term = subst (λ n. IsTerm (arities_of a) n s.term) (length-map gens (λ z. z ∷ [])) s.is_term in
      let value : eval a gens s.term ≡ x = ap (λ (v : Vector). get_or v 0 0) (sym (single_value s.term t_is) ∙ s.value) in (
        eval b images s.term,
        record {
          term = s.term;
          is_term = subst (λ n. IsTerm (arities_of a) n s.term) (sym (length-with_images gens images same)) t_is;
          value = pair_value s.term t_is ∙ ap (λ z. two (z, eval b images s.term)) value;
        },
      )

  pub extension_is : (budget : ℕ) (pairs : List (ℕ × ℕ)) → IsMap (both a b) (with_images gens images) budget pairs → IsExtension a b gens images pairs
  extension_is budget pairs m = record {
    elements = λ x. (
      λ c. let q = Contains-map_from (λ (r : ℕ × ℕ). r.0) x pairs c in subst (λ z. Sg (a ∷ []) (singles gens) (z ∷ [])) q.2 (element_of q.0.0 q.0.1 ((m.exact (two q.0)).0 (Contains-map two q.0 pairs q.1))),
      λ s. let y = pair_of x s in Contains-map (λ (r : ℕ × ℕ). r.0) (x, y.0) pairs (from_two pairs (x, y.0) ((m.exact (two (x, y.0))).1 y.1)),
    );
    function = λ x y z first second. m.graph x y z ((m.exact (two (x, y))).0 (Contains-map two (x, y) pairs first)) ((m.exact (two (x, z))).0 (Contains-map two (x, z) pairs second));
    generators = all_from_contains (Contains pairs) (zip gens images) (λ q c. from_two pairs q ((m.exact (two q)).1 (given q (Contains-map two q (zip gens images) c))));
    homomorphism = λ f args within arity all. from_two pairs _ ((m.exact _).1 (subst (Sg (both a b) (with_images gens images)) (value_of_pairs a b f args)
        (result_in (both a b) (with_images gens images) f (map two args) within (length-map args two ∙ arity)
        (all_map (Sg (both a b) (with_images gens images)) two args (all_weaker (Contains pairs) (λ q. Sg (both a b) (with_images gens images) (two q)) (λ q c. (m.exact (two q)).0 (Contains-map two q pairs c)) args all)))));
  }
    where
      given : (q : ℕ × ℕ) → Contains (with_images gens images) (two q) → Sg (both a b) (with_images gens images) (two q)
      given q c = subst (Sg (both a b) (with_images gens images)) (get_or_default (with_images gens images) c.0 [] (two q) c.1 ∙ c.2) (generator_in (both a b) (with_images gens images) c.0 c.1)

-- ---- the other way round

-- vectors that stand for pairs
record AreOfPairs (pairs : List (ℕ × ℕ)) (vs : List Vector) : Type 0 where
  list : List (ℕ × ℕ)
  vectors : map two list ≡ vs
  held : AllByRecursion (Contains pairs) list

of_pairs : (pairs : List (ℕ × ℕ)) (vs : List Vector) → AllByRecursion (Contains (map two pairs)) vs → AreOfPairs pairs vs
of_pairs pairs [] h = record { list = []; vectors = refl; held = tt }
of_pairs pairs (v ∷ vs) h =
    let q = Contains-map_from two v pairs h.0 in
    let rest = of_pairs pairs vs h.1 in
    record { list = q.0 ∷ rest.list; vectors = λ i. q.2 i ∷ rest.vectors i; held = (q.1, rest.held) }

pub graph_of : (a b : FiniteAlgebra) (gens images : List ℕ) (pairs : List (ℕ × ℕ)) → IsExtension a b gens images pairs → IsGraph (both a b) (with_images gens images)
graph_of a b gens images pairs h x y z first second = h.function x y z (from_two pairs (x, y) (in_pairs (two (x, y)) first)) (from_two pairs (x, z) (in_pairs (two (x, z)) second))
  where
    closed : IsClosed (both a b) (map two pairs)
    closed f args within arity all =
        let of = of_pairs pairs args all in
        let long : length of.list ≡ slice_index (arities_of a) f = sym (length-map of.list two) ∙ ap length of.vectors ∙ arity in
        subst (Contains (map two pairs)) (sym (value_of_pairs a b f of.list) ∙ ap (apply (both a b) f) of.vectors)
        (Contains-map two (value_at a f (elements_in of.list), value_at b f (images_in of.list)) pairs (h.homomorphism f of.list within long of.held))

    in_pairs : (v : Vector) → Sg (both a b) (with_images gens images) v → Contains (map two pairs) v
    in_pairs =
        Sg-least (both a b) (with_images gens images) (map two pairs)
        (all_map (Contains (map two pairs)) two (zip gens images)
        (all_weaker (Contains pairs) (λ q. Contains (map two pairs) (two q)) (λ q c. Contains-map two q pairs c) (zip gens images) h.generators))
        closed
