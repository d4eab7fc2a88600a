-- The command `make`: where its operands fail, what it is answered, and the session that it leaves.
use Rattle.std.specs.Prelude.{◌≡◌, ℕ, ◌==◌, not, List, [], ◌∷◌, ◌++◌, map, Option, None, Some, Result, Ok, Err, MatchOption, ◌≤◌, length, IfSome}
use Rattle.std.specs.List.{list_any}
use Rattle.ua_table.specs.Algebras.{FiniteAlgebra}
use Rattle.ua_table.specs.declared.limits.TheConstants.{SCRIPT}
use Rattle.ua_answer_algebras.specs.declared.answered.Made.{Made}
use Rattle.ua_part.specs.Partitions.{Partition}
use Rattle.ua_part.specs.Blocks.{HasBlocks}
use Rattle.ua_prod.specs.declared.errors.ProdError.{ProdError}
use Rattle.ua_prod.specs.declared.errors.ProdError.TheVariants as errors
use Rattle.ua_prod.specs.Permitted.{MayProduct, MayQuotient, MaySub, MayReduct}
use Rattle.ua_sub.specs.Members.{AreMembers}
use Rattle.ua_term.specs.Meanings.{has_operation, operation_number}
use Rattle.ua_text.specs.declared.tokens.Place.{Place}
use Rattle.ua_text.specs.declared.named.Block.{Block}
use Rattle.ua_text.specs.Signs.{printed}
use Rattle.ua_text.specs.Blocks.{block, unnamed}
use Rattle.ua_operands.specs.declared.written.Word.{Word}
use Rattle.ua_operands.specs.declared.written.Items.{Items}
use Rattle.ua_operands.specs.declared.written.PartText.{PartText}
use Rattle.ua_script.specs.declared.script.MakeForm.{MakeForm}
use Rattle.ua_script.specs.declared.script.MakeForm.TheVariants.{Product, Quotient, Sub, Reduct}
use Rattle.ua_reply.specs.declared.refusals.Refusal.TheVariants.{Signature, Size}
use Rattle.ua_reply.specs.Sessions.{lookup}
use Rattle.ua_reply.specs.Checks.{Checks, passed, unknown_at, shape_at, unless, ◌and◌, all_in, checks_in, first_error}
use Rattle.ua_reply.specs.Operands.{values_of, elements_in}
use Rattle.ua_reply.specs.Parts.{blocks_of, part_in}
use Rattle.ua_reply.specs.Refusals.{refusal_text, congruence_text}

-- ---- the operations of a reduct

-- a name is that of an operation
abbrev pub operation_in : Block → Word → Checks
operation_in k w = unknown_at (unless (has_operation k.algebra w.name) w.place)

-- the number of the operation
abbrev pub number_of : Block → Word → ℕ
number_of k w = operation_number k.algebra w.name

abbrev pub numbers_of : Block → List Word → List ℕ
numbers_of k ws = map (number_of k) ws

-- the places of operations that stand before, or are among these
abbrev pub repeated : Block → List ℕ → List Word → List Place
repeated k before [] = []
repeated k before (w ∷ ws) = unless (not (list_any (λ f. f == number_of k w) before)) w.place ++ repeated k (number_of k w ∷ before) ws

-- operations of the algebra, none of them twice
abbrev pub operations_in : Block → List Word → Checks
operations_in k ws = all_in (operation_in k) ws and shape_at (repeated k [] ws)

-- ---- the command

-- what holds of what the session knows of a name
abbrev pub Of : Option Block → (Block → Type 0) → Type 0
Of None P = ⊥
Of (Some k) P = P k

abbrev pub make_checks : List Block → MakeForm → Checks
make_checks s (Product a b) = checks_in (lookup s a.name) a.place (λ k. checks_in (lookup s b.name) b.place (λ l. passed))
make_checks s (Quotient a p) = checks_in (lookup s a.name) a.place (λ k. part_in k p)
make_checks s (Sub a v) = checks_in (lookup s a.name) a.place (λ k. elements_in k v.values)
make_checks s (Reduct a ops) = checks_in (lookup s a.name) a.place (λ k. operations_in k ops)

-- the quotient by the partition that is written
pub record MayQuotientBy (k : Block) (name : List ℕ) (p : PartText) (answer : Result FiniteAlgebra ProdError) : Type 0 where
  pub partition : Partition
  pub blocks : HasBlocks (blocks_of p) partition
  pub permitted : MayQuotient name k.algebra partition answer

-- the subalgebra on what the elements generate
pub record MayGenerate (k : Block) (name : List ℕ) (v : Items) (answer : Result FiniteAlgebra ProdError) : Type 0 where
  pub members : List ℕ
  pub generated : AreMembers k.algebra (values_of k v) members
  pub permitted : MaySub name k.algebra members answer

abbrev pub MayMake : List Block → List ℕ → MakeForm → Result FiniteAlgebra ProdError → Type 0
MayMake s name (Product a b) answer = Of (lookup s a.name) (λ k. Of (lookup s b.name) (λ l. MayProduct name k.algebra l.algebra answer))
MayMake s name (Quotient a p) answer = Of (lookup s a.name) (λ k. MayQuotientBy k name p answer)
MayMake s name (Sub a v) answer = Of (lookup s a.name) (λ k. MayGenerate k name v answer)
MayMake s name (Reduct a ops) answer = Of (lookup s a.name) (λ k. MayReduct name k.algebra (numbers_of k ops) answer)

-- why nothing is made: at the second algebra, at the partition, or at the word `make`
abbrev pub refused_text : List Block → Place → MakeForm → ProdError → Option (List ℕ)
refused_text s place (Product a b) errors.Signature = Some (refusal_text (Signature b.place))
refused_text s place (Quotient a p) (errors.NotCongruence clash) = clash_text (lookup s a.name) where
  clash_text : Option Block → Option (List ℕ)
  clash_text None = None
  clash_text (Some k) = Some (congruence_text k p.place clash)
refused_text s place what errors.Size = Some (refusal_text (Size place))
refused_text s place what error = None

-- the block of what is made, or why nothing is
abbrev pub make_text : List Block → Place → MakeForm → Result FiniteAlgebra ProdError → Option (List ℕ)
make_text s place what (Ok made) = Some (printed (block (unnamed made)))
make_text s place what (Err error) = refused_text s place what error

-- the session with what is made
abbrev pub with_made : List Block → Result FiniteAlgebra ProdError → List Block
with_made s (Ok made) = s ++ unnamed made ∷ []
with_made s (Err error) = s

-- an answer that is permitted has this text, and leaves this session
pub record Makes (s : List Block) (name : List ℕ) (place : Place) (what : MakeForm) (bytes : List ℕ) (t : List Block) : Type 0 where
  pub answer : Result FiniteAlgebra ProdError
  pub permitted : MayMake s name what answer
  pub told : make_text s place what answer ≡ Some bytes
  pub left : t ≡ with_made s answer

-- make NAME ..: the first error alone, which leaves the session as it was; or what is made
abbrev pub MakeReply : List Block → Place → Word → MakeForm → List ℕ → List Block → Type 0
MakeReply s place name what bytes t =
    MatchOption (first_error (make_checks s what)) (Makes s name.name place what bytes t) (λ r. (bytes ≡ refusal_text r) × (t ≡ s))

-- there are such bytes, and such a session
pub record HasReply (Are : List ℕ → List Block → Type 0) : Type 0 where
  pub bytes : List ℕ
  pub left : List Block
  pub are : Are bytes left

-- the constructions, with no more elements than a script has bytes
abbrev pub IsConstructionBuilt : MakeForm → Type 0
IsConstructionBuilt (Sub w set) = length set.values ≤ SCRIPT
IsConstructionBuilt _ = Unit {0}

-- the session with what a command made, if it made an algebra
abbrev pub left_by : List Block → Option Made → List Block
left_by s None = s
left_by s (Some made) = s ++ unnamed made.algebra ∷ []

-- what a command made has the name that the command gives it
abbrev pub IsNamedRight : Option Made → Type 0
IsNamedRight made = IfSome made (λ m. m.name.now ≡ m.algebra.name)
