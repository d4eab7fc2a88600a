-- What a command is answered: its first error, or the text of an answer that its call permits.
use Rattle.std.specs.Prelude.{◌≡◌, ℕ, List, Option, None, Some, MatchOption}
use Rattle.ua_operands.specs.declared.written.Word.{Word}
use Rattle.ua_text.specs.declared.named.Block.{Block}
use Rattle.ua_reply.specs.Sessions.{lookup}
use Rattle.ua_reply.specs.Checks.{Checks, checks_in, first_error}
use Rattle.ua_reply.specs.Refusals.{refusal_text}

-- there are such bytes
pub record HasBytes (Are : List ℕ → Type 0) : Type 0 where
  pub bytes : List ℕ
  pub are : Are bytes

-- the bytes are the text of some answer that is permitted
pub record Says {A : Type 0} (May : A → Type 0) (text : A → Option (List ℕ)) (bytes : List ℕ) : Type 0 where
  pub answer : A
  pub permitted : May answer
  pub told : text answer ≡ Some bytes

-- what is said of what the session knows of a name
abbrev pub SaysOf : Option Block → (Block → List ℕ → Type 0) → List ℕ → Type 0
SaysOf None Answer bytes = ⊥
SaysOf (Some k) Answer bytes = Answer k bytes

-- the first error alone, where there is one; else an answer for what the session knows
abbrev pub Answered : Checks → Option Block → (Block → List ℕ → Type 0) → List ℕ → Type 0
Answered checks known Answer bytes = MatchOption (first_error checks) (SaysOf known Answer bytes) (λ r. bytes ≡ refusal_text r)

-- the reply to a command on the algebra of one name
abbrev pub AnsweredOn : List Block → Word → (Block → Checks) → (Block → List ℕ → Type 0) → List ℕ → Type 0
AnsweredOn s w checks Answer bytes = Answered (checks_in (lookup s w.name) w.place checks) (lookup s w.name) Answer bytes

-- the reply to a command on the algebras of two names
abbrev pub AnsweredOnBoth : List Block → Word → Word → (Block → Block → Checks) → (Block → Block → List ℕ → Type 0) → List ℕ → Type 0
AnsweredOnBoth s v w checks Answer bytes =
    AnsweredOn s v (λ k. checks_in (lookup s w.name) w.place (checks k)) (λ k. SaysOf (lookup s w.name) (Answer k)) bytes
