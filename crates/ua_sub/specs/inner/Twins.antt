-- Elements that are found to generate the same.
use Rattle.std.specs.Prelude.{◌≡◌, ℕ, ◌<◌, ◌≤◌, List, [], ◌∷◌, length, Contains, slice_index_or, IfSome}
use Rattle.std.specs.List.{AllByRecursion, AllZip}
use Rattle.ua_table.specs.Algebras.{FiniteAlgebra}
use Rattle.ua_table.specs.Counting.{numbers_below}
use Rattle.ua_table.specs.Generated.{Sg}
use Rattle.ua_sub.specs.declared.twins.Question.{Question}
use Rattle.ua_sub.specs.declared.twins.Found.{Found}
use Rattle.ua_sub.specs.Members.{singles, contents, AreMembers}

-- x generates y
abbrev pub Generates : FiniteAlgebra → ℕ → ℕ → Type 0
Generates a x y = Sg (a ∷ []) (singles (x ∷ [])) (y ∷ [])

-- an element that the element of the question generates
abbrev pub IsFound : Question → ℕ → Type 0
IsFound question y = (y < question.algebra.now.size) × Generates question.algebra.now question.element y

-- an element that it generates, and whose list has it
pub record IsTwin (question : Question) (y : ℕ) : Type 0 where
  pub listed : y < length question.lists.now
  pub generated : Generates question.algebra.now question.element y
  pub generates : Contains (slice_index_or (contents question.lists.now) y []) question.element

-- the members are found, and the twin is one
pub record AreFound (question : Question) (found : Found) : Type 0 where
  pub members : AllByRecursion (IsFound question) found.members.items
  pub count : length found.is_member.items ≡ question.algebra.now.size
  pub twin : IfSome found.twin (IsTwin question)

-- the same with no fewer members
pub record HasGrown (question : Question) (old new : Found) : Type 0 where
  pub found : AreFound question new
  pub more : length old.members.items ≤ length new.members.items

-- what each element below the number generates
abbrev pub AreOnesBelow : FiniteAlgebra → ℕ → List (List ℕ) → Type 0
AreOnesBelow a n lists = AllZip (λ x members. AreMembers a (x ∷ []) members) (numbers_below n) lists
