-- The command `types`: what it is answered.
use Rattle.std.specs.Prelude.{ℕ, List, ◌∷◌, ◌++◌, length, codes}
use Rattle.std.specs.Fmt.{decimal}
use Rattle.ua_type.specs.declared.typings.Typed.{Typed}
use Rattle.ua_type.specs.declared.typings.Typed.TheVariants as typings
use Rattle.ua_type.specs.declared.tables.Types.{Types}
use Rattle.ua_type.specs.declared.tables.Types.TheVariants.{Table, Exceeds}
use Rattle.ua_type.specs.Permitted.{MayTypes}
use Rattle.ua_text.specs.declared.named.Block.{Block}
use Rattle.ua_operands.specs.declared.written.Word.{Word}
use Rattle.ua_reply.specs.Sessions.{Bounds}
use Rattle.ua_reply.specs.Checks.{passed}
use Rattle.ua_reply.specs.Closures.{told}
use Rattle.ua_reply.specs.Replies.{Says, AnsweredOn}
use Rattle.ua_reply.specs.Texts.{line, lines, counted, pair_text}

-- type 3 pair 0 1: the type, and the pair at which it is read
abbrev pub typed_text : Typed → List ℕ
typed_text (typings.Found number low high) = codes "type " ++ decimal number ++ codes " pair " ++ pair_text (low, high)
typed_text typings.Exceeds = codes "exceeds"

-- the same, behind the places of the two congruences
abbrev pub cover_text : ℕ × ℕ × Typed → List ℕ
cover_text x = pair_text (x.0, x.1) ++ 32 ∷ typed_text x.2

-- a line for each cover, or that there are more congruences than the budget
abbrev pub types_text : ℕ → Types → List ℕ
types_text budget (Table rows) = line (counted (codes "types") (length rows.items)) ++ lines cover_text rows.items
types_text budget (Exceeds list) = line (counted (codes "exceeds") budget)

abbrev pub TypesAnswer : Block → Bounds → List ℕ → Type 0
TypesAnswer k b bytes = Says (MayTypes k.algebra b.budget) (told (types_text b.budget)) bytes

-- types NAME
abbrev pub TypesReply : List Block → Bounds → Word → List ℕ → Type 0
TypesReply s b w bytes = AnsweredOn s w (λ k. passed) (λ k. TypesAnswer k b) bytes
