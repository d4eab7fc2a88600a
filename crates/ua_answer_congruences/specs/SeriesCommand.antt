-- The command `series`: what it is answered.
use Rattle.std.specs.Prelude.{ℕ, List, ◌++◌, length, codes}
use Rattle.ua_part.specs.Blocks.{partition_text}
use Rattle.ua_comm.specs.declared.members.Kind.{Kind}
use Rattle.ua_comm.specs.declared.members.Kind.TheVariants as kinds
use Rattle.ua_comm.specs.declared.members.Series.{Series}
use Rattle.ua_comm.specs.declared.members.Series.TheVariants.{Whole, Exceeds}
use Rattle.ua_comm.specs.Permitted.{MayDescend}
use Rattle.ua_text.specs.declared.named.Block.{Block}
use Rattle.ua_operands.specs.declared.written.Word.{Word}
use Rattle.ua_operands.specs.declared.written.SeriesWord.{SeriesWord}
use Rattle.ua_operands.specs.declared.written.SeriesWord.TheVariants.{Derived, Lower}
use Rattle.ua_reply.specs.Sessions.{Bounds}
use Rattle.ua_reply.specs.Checks.{passed}
use Rattle.ua_reply.specs.Closures.{told}
use Rattle.ua_reply.specs.Replies.{Says, AnsweredOn}
use Rattle.ua_reply.specs.Texts.{line, lines, counted}

-- the series of this word
abbrev pub kind_of : SeriesWord → Kind
kind_of Derived = kinds.Derived
kind_of Lower = kinds.Lower

-- the members, or those before one whose matrices are more than the budget
abbrev pub series_text : ℕ → Series → List ℕ
series_text budget (Whole members) = line (counted (codes "series") (length members.items)) ++ lines partition_text members.items
series_text budget (Exceeds members) = line (counted (codes "exceeds") budget) ++ lines partition_text members.items

abbrev pub SeriesAnswer : Block → Bounds → SeriesWord → List ℕ → Type 0
SeriesAnswer k b kind bytes = Says (MayDescend k.algebra (kind_of kind) b.budget) (told (series_text b.budget)) bytes

-- series NAME derived, or series NAME lower
abbrev pub SeriesReply : List Block → Bounds → Word → SeriesWord → List ℕ → Type 0
SeriesReply s b w kind bytes = AnsweredOn s w (λ k. passed) (λ k. SeriesAnswer k b kind) bytes
