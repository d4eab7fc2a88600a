-- The command `holds`: where its operands fail, and what it is answered.
use Rattle.std.specs.Prelude.{ℕ, List, ◌++◌, Option, None, Some, Result, Ok, Err, Vec, codes}
use Rattle.std.specs.declared.alloc.Global.{Global}
use Rattle.ua_table.specs.declared.limits.TheConstants.{VARIABLES}
use Rattle.ua_table.specs.Terms.{Tree}
use Rattle.ua_term.specs.Phrases.{Phrase}
use Rattle.ua_term.specs.Meanings.{tree_in}
use Rattle.ua_free.specs.Permitted.{MayHold}
use Rattle.ua_free.specs.declared.identities.HoldsError.{HoldsError}
use Rattle.ua_free.specs.declared.identities.HoldsError.TheVariants as causes
use Rattle.ua_operands.specs.declared.written.Word.{Word}
use Rattle.ua_text.specs.declared.named.Block.{Block}
use Rattle.ua_reply.specs.declared.refusals.Refusal.TheVariants.{Wide}
use Rattle.ua_reply.specs.Checks.{Checks, ◌and◌}
use Rattle.ua_reply.specs.Operands.{term_in}
use Rattle.ua_reply.specs.Refusals.{refusal_text}
use Rattle.ua_reply.specs.Replies.{Says, AnsweredOn}
use Rattle.ua_reply.specs.Texts.{line, vector_text}

-- holds NAME TERM = TERM
abbrev pub holds_checks : Block → Phrase → Phrase → Checks
holds_checks k left right = term_in k VARIABLES left and term_in k VARIABLES right

-- that the identity holds, or the assignment at which it fails; what is too wide is refused
abbrev pub holds_text : Block → Result (Option (Vec ℕ Global)) HoldsError → Option (List ℕ)
holds_text k (Ok None) = Some (line (codes "holds"))
holds_text k (Ok (Some xs)) = Some (line (codes "fails " ++ vector_text k xs.items))
holds_text k (Err (causes.Wide n)) = Some (refusal_text (Wide 0 n))
holds_text k (Err causes.OutOfMemory) = None

abbrev pub HoldsAnswer : Block → Tree → Tree → List ℕ → Type 0
HoldsAnswer k s t bytes = Says (MayHold k.algebra s t) (holds_text k) bytes

abbrev pub HoldsReply : List Block → Word → Phrase → Phrase → List ℕ → Type 0
HoldsReply s w left right bytes =
    AnsweredOn s w (λ k. holds_checks k left right) (λ k. HoldsAnswer k (tree_in k.algebra left) (tree_in k.algebra right)) bytes
