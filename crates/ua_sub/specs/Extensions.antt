-- Homomorphisms of a subalgebra that go on from images of its generators, as lists of an element with its image.
use Rattle.std.specs.Prelude.{◌≡◌, ℕ, ◌<◌, List, [], ◌∷◌, length, map, zip, Contains, ◌↔◌, slice_index}
use Rattle.std.specs.List.{AllByRecursion}
use Rattle.ua_table.specs.Algebras.{FiniteAlgebra, arities_of, value_at}
use Rattle.ua_table.specs.Generated.{Sg}
use Rattle.ua_sub.specs.Members.{singles}

-- the elements and the images of pairs, in order
abbrev pub elements_in : List (ℕ × ℕ) → List ℕ
elements_in pairs = map (λ (q : ℕ × ℕ). q.0) pairs

abbrev pub images_in : List (ℕ × ℕ) → List ℕ
images_in pairs = map (λ (q : ℕ × ℕ). q.1) pairs

-- exactly the generated elements have an image, each one alone, each generator its own, and each value of an operation that of the operation at the images
pub record IsExtension (a b : FiniteAlgebra) (gens images : List ℕ) (pairs : List (ℕ × ℕ)) : Type 0 where
  pub elements : (x : ℕ) → Contains (elements_in pairs) x ↔ Sg (a ∷ []) (singles gens) (x ∷ [])
  pub function : (x y z : ℕ) → Contains pairs (x, y) → Contains pairs (x, z) → y ≡ z
  pub generators : AllByRecursion (Contains pairs) (zip gens images)
  pub homomorphism : (f : ℕ) (args : List (ℕ × ℕ)) → f < length (arities_of a) → length args ≡ slice_index (arities_of a) f
      → AllByRecursion (Contains pairs) args → Contains pairs (value_at a f (elements_in args), value_at b f (images_in args))
