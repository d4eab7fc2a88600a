-- What the constructions may answer, with the refusals.
use Rattle.std.specs.Prelude.{◌≡◌, ◌≢◌, ℕ, ◌*◌, ◌<◌, IsTrue, false, List, length, Result, Ok, Err}
use Rattle.ua_table.specs.Algebras.{FiniteAlgebra, arities_of, signature}
use Rattle.ua_part.specs.Partitions.{Partition}
use Rattle.ua_prod.specs.declared.errors.ProdError.{ProdError}
use Rattle.ua_prod.specs.declared.errors.ProdError.TheVariants.{Signature, Size, NotClosed, NotCongruence, OutOfMemory}
use Rattle.ua_prod.specs.Congruences.{IsCongruence}
use Rattle.ua_prod.specs.Clashes.{IsFirstClash}
use Rattle.ua_prod.specs.Escapes.{IsClosed, IsFirstEscape}
use Rattle.ua_prod.specs.Sizes.{values_needed, is_too_large}
use Rattle.ua_prod.specs.Constructions.{reduct_of, subalgebra_of, quotient_of, product_of}
use Rattle.ua_prod.specs.Draws.{state_after, drawn_algebra}

-- the reduct, unless memory runs out
abbrev pub MayReduct : List ℕ → FiniteAlgebra → List ℕ → Result FiniteAlgebra ProdError → Type 0
MayReduct name a numbers (Ok c) = c ≡ reduct_of name a numbers
MayReduct name a numbers (Err OutOfMemory) = Unit {0}
MayReduct name a numbers (Err error) = ⊥

-- the subalgebra on a closed set with a member, or the first escape from another set with a member, unless memory runs out
abbrev pub MaySub : List ℕ → FiniteAlgebra → List ℕ → Result FiniteAlgebra ProdError → Type 0
MaySub name a set (Ok c) = (0 < length set) × IsClosed a set × (c ≡ subalgebra_of name a set)
MaySub name a set (Err Size) = length set ≡ 0
MaySub name a set (Err (NotClosed op args)) = (0 < length set) × IsFirstEscape a set op args
MaySub name a set (Err OutOfMemory) = Unit {0}
MaySub name a set (Err error) = ⊥

-- the quotient by a congruence, or the first clash of another partition, unless memory runs out
abbrev pub MayQuotient : List ℕ → FiniteAlgebra → Partition → Result FiniteAlgebra ProdError → Type 0
MayQuotient name a p (Ok c) = IsCongruence a p × (c ≡ quotient_of name a p)
MayQuotient name a p (Err (NotCongruence clash)) = IsFirstClash a p clash
MayQuotient name a p (Err OutOfMemory) = Unit {0}
MayQuotient name a p (Err error) = ⊥

-- the product of algebras of one signature that is within the limits, unless memory runs out
abbrev pub MayProduct : List ℕ → FiniteAlgebra → FiniteAlgebra → Result FiniteAlgebra ProdError → Type 0
MayProduct name a b (Ok c) = (signature a ≡ signature b) × (is_too_large (a.size * b.size) (arities_of a) ≡ false) × (c ≡ product_of name a b)
MayProduct name a b (Err Signature) = signature a ≢ signature b
MayProduct name a b (Err Size) = (signature a ≡ signature b) × IsTrue (is_too_large (a.size * b.size) (arities_of a))
MayProduct name a b (Err OutOfMemory) = Unit {0}
MayProduct name a b (Err error) = ⊥

-- the algebra that is drawn at state s, with the state after its values; where it is beyond the limits, nothing is drawn
abbrev pub MayDraw : List ℕ → ℕ → List ℕ → ℕ → ℕ → Result FiniteAlgebra ProdError → Type 0
MayDraw name size arities s after (Ok c) = (is_too_large size arities ≡ false) × (c ≡ drawn_algebra name size s arities) × (after ≡ state_after s (values_needed size arities))
MayDraw name size arities s after (Err Size) = IsTrue (is_too_large size arities) × (after ≡ s)
MayDraw name size arities s after (Err OutOfMemory) = Unit {0}
MayDraw name size arities s after (Err error) = ⊥
