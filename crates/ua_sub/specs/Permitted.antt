-- What may be answered when it is asked whether images of generators go on to a homomorphism, with the refusals.
use Rattle.std.specs.Prelude.{◌≡◌, ◌≢◌, ℕ, ◌<◌, List, Result, Ok, Err}
use Rattle.std.specs.List.{AllByRecursion}
use Rattle.ua_table.specs.Algebras.{FiniteAlgebra, Product, Vector, signature}
use Rattle.ua_close.specs.Answers.{IsWide, IsCause}
use Rattle.ua_close.specs.Permitted.{IsAnswerable}
use Rattle.ua_close.specs.declared.close.CloseError.TheVariants as causes
use Rattle.ua_sub.specs.declared.homs.Hom.{Hom}
use Rattle.ua_sub.specs.declared.homs.HomError.{HomError}
use Rattle.ua_sub.specs.declared.homs.HomError.TheVariants.{Signature, Wide, OutOfMemory}
use Rattle.ua_sub.specs.Homs.{both, with_images, Maps, IsSerialHom}

-- what is told of the pairs that are generated in a product of two algebras, or that they are too wide
abbrev pub MayMapPairs : Product → List Vector → ℕ → ℕ → Result Hom HomError → Type 0
MayMapPairs p gens b w (Ok hom) = (¬ IsWide p gens b) × Maps p gens b hom × (w ≡ 1 → IsSerialHom p gens b hom)
MayMapPairs p gens b w (Err Signature) = ⊥
MayMapPairs p gens b w (Err (Wide r c)) = IsCause p gens b (causes.Wide r c)
MayMapPairs p gens b w (Err OutOfMemory) = Unit {0}

-- so it is with each generator and its image, where the algebras have one signature; else they are refused
abbrev pub MayMap : FiniteAlgebra → FiniteAlgebra → List ℕ → List ℕ → ℕ → ℕ → Result Hom HomError → Type 0
MayMap a b gens images budget workers (Err Signature) = signature b ≢ signature a
MayMap a b gens images budget workers (Err OutOfMemory) = Unit {0}
MayMap a b gens images budget workers result = (signature b ≡ signature a) × MayMapPairs (both a b) (with_images gens images) budget workers result

-- it can be told otherwise than by want of memory
abbrev pub CanTellMap : FiniteAlgebra → FiniteAlgebra → List ℕ → List ℕ → ℕ → ℕ → Type 0
CanTellMap a b gens images budget workers = IsAnswerable (MayMap a b gens images budget workers) OutOfMemory

-- these are elements of the algebra
abbrev pub AreElements : FiniteAlgebra → List ℕ → Type 0
AreElements a xs = AllByRecursion (λ x. x < a.size) xs
