-- A reply, where the session knows the name and nothing fails.
use Rattle.std.proofs.Common.{◌≡◌, ℕ, List, Option, Some, None, sym, subst}
use Rattle.std.specs.Option.{MatchOption}
use Rattle.ua_operands.specs.declared.written.Word.{Word}
use Rattle.ua_text.specs.declared.named.Block.{Block}
use Rattle.ua_reply.specs.Sessions.{lookup}
use Rattle.ua_reply.specs.Checks.{Checks, checks_in, first_error}
use Rattle.ua_reply.specs.Refusals.{refusal_text}
use Rattle.ua_reply.specs.Replies.{Answered, AnsweredOn}

abbrev Reply : Word → (Block → Checks) → (Block → List ℕ → Type 0) → List ℕ → Option Block → Type 0
Reply w checks Answer bytes found = Answered (checks_in found w.place checks) found Answer bytes

pub known_answered : (s : List Block) (w : Word) (checks : Block → Checks) (Answer : Block → List ℕ → Type 0) (k : Block) (bytes : List ℕ)
    → lookup s w.name ≡ Some k → first_error (checks k) ≡ None → Answer k bytes → AnsweredOn s w checks Answer bytes
known_answered s w checks Answer k bytes known none answer =
    subst (Reply w checks Answer bytes) (sym known) (subst (λ found. MatchOption found (Answer k bytes) (λ r. bytes ≡ refusal_text r)) (sym none) answer)
