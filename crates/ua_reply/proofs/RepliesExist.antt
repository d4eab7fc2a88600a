-- That there is a reply: the first error, or an answer where no operand fails.
use Rattle.std.proofs.Common.{◌≡◌, ℕ, Bool, true, false, cond, List, [], ◌∷◌, ◌++◌, map, Option, Some, None, Result, Ok, Err, refl, subst}
use Rattle.std.specs.Prelude.{nat_eq, find}
use Rattle.std.specs.List.{AllByRecursion}
use Rattle.std.specs.Option.{MatchOption}
use Rattle.std.specs.Cmp.Lexicographic.{pointwise}
use Rattle.ua_table.specs.Algebras.{IsAlgebra}
use Rattle.ua_table.specs.Tables.{IsAlgebraTable}
use Rattle.ua_text.specs.declared.tokens.Place.{Place}
use Rattle.ua_text.specs.declared.named.Block.{Block}
use Rattle.ua_operands.specs.declared.written.Word.{Word}
use Rattle.ua_close.specs.declared.close.CloseError.{CloseError}
use Rattle.ua_close.specs.declared.close.CloseError.TheVariants.{Wide, OutOfMemory}
use Rattle.ua_close.specs.Permitted.{IsAnswerable}
use Rattle.ua_reply.specs.declared.refusals.Refusal.{Refusal}
use Rattle.ua_reply.specs.declared.refusals.Refusal.TheVariants as refusals
use Rattle.ua_reply.specs.Sessions.{AreAlgebras, lookup}
use Rattle.ua_reply.specs.Checks.{Checks, Passes, errors, first_refusal, first_error, checks_in}
use Rattle.ua_reply.specs.Closures.{told}
use Rattle.ua_reply.specs.Refusals.{refusal_text}
use Rattle.ua_reply.proofs.CheckLaws.{none_left}
use Rattle.ua_reply.specs.Replies.{HasBytes, Says, SaysOf, Answered, AnsweredOn, AnsweredOnBoth}

-- ---- an answer with a text

-- some answer that is permitted is said, where each but the one error has a text
pub some_said : {A E : Type 0} (May : Result A E → Type 0) (error : E) (text : Result A E → Option (List ℕ)) → IsAnswerable May error
    → ((answer : Result A E) → (answer ≡ Err error → ⊥) → (bytes : List ℕ) × (text answer ≡ Some bytes)) → HasBytes (Says May text)
some_said May error text h each = let t = each h.answer h.told in record { bytes = t.0; are = record { answer = h.answer; permitted = h.permitted; told = t.1 } }

-- what is not want of memory has a text
answer_told : {A : Type 0} (text : A → List ℕ) (answer : Result A CloseError) → (answer ≡ Err OutOfMemory → ⊥) → (bytes : List ℕ) × (told text answer ≡ Some bytes)
answer_told text (Ok x) h = (text x, refl)
answer_told text (Err (Wide r c)) h = (refusal_text (refusals.Wide r c), refl)
answer_told text (Err OutOfMemory) h = absurd (h refl)

pub says_exists : {A : Type 0} (May : Result A CloseError → Type 0) (text : A → List ℕ) → IsAnswerable May OutOfMemory → HasBytes (Says May (told text))
says_exists May text h = some_said May OutOfMemory (told text) h (answer_told text)

-- ---- checks

-- where there is no first error, no operand fails
nothing_first : (rs : List Refusal) → first_refusal rs ≡ None → rs ≡ []
nothing_first [] e = refl
nothing_first (r ∷ rs) e = cc

unmapped : (f : Place → Refusal) (places : List Place) → map f places ≡ [] → places ≡ []
unmapped f [] e = refl
unmapped f (p ∷ ps) e = cc

pub passes_from : (c : Checks) → first_error c ≡ None → Passes c
passes_from c e =
    let all = nothing_first (errors c) e in
    let u = none_left (map refusals.Unknown c.unknown ++ map refusals.Range c.range) (map refusals.Shape c.shape) all in
    let r = none_left (map refusals.Unknown c.unknown) (map refusals.Range c.range) u.0 in
    record { unknown = unmapped refusals.Unknown c.unknown r.0; range = unmapped refusals.Range c.range r.1; shape = unmapped refusals.Shape c.shape u.1 }

-- ---- what a session knows

found_among : {X : Type 0} (P : X → Type 0) (p : X → Bool) (xs : List X) (x : X) → AllByRecursion P xs → find p xs ≡ Some x → P x
found_among P p [] x h e = cc
found_among {X} P p (y ∷ ys) x h e = at (p y) e (found_among P p ys x h.1)
  where
    at : (b : Bool) → cond b (Some y) (find p ys) ≡ Some x → (find p ys ≡ Some x → P x) → P x
    at true is rest = let same : y ≡ x = cc in subst P same h.0
    at false is rest = rest is

-- the algebra of a name that is known
pub known_table : (s : List Block) (name : List ℕ) (k : Block) → AreAlgebras s → lookup s name ≡ Some k → IsAlgebraTable k.algebra
known_table s name k h e = found_among (λ (k : Block). IsAlgebraTable k.algebra) (λ (k : Block). pointwise nat_eq k.algebra.name name) s k h e

pub known_algebra : (s : List Block) (name : List ℕ) (k : Block) → AreAlgebras s → lookup s name ≡ Some k → IsAlgebra k.algebra
known_algebra s name k h e = (known_table s name k h e).algebra

-- where nothing fails, the name is known
pub known_passes : (known : Option Block) (place : Place) (checks : Block → Checks) → Passes (checks_in known place checks) → (k : Block) × (known ≡ Some k) × Passes (checks k)
known_passes None place checks h = absurd (let bad : (place ∷ []) ≡ [] = h.unknown in cc)
known_passes (Some k) place checks h = (k, refl, h)

-- ---- a reply

-- the error, or what is answered where there is none
by_error : (known : Option Block) (Answer : Block → List ℕ → Type 0) (e : Option Refusal) → (e ≡ None → HasBytes (SaysOf known Answer)) → HasBytes (λ bytes. MatchOption e (SaysOf known Answer bytes) (λ r. bytes ≡ refusal_text r))
by_error known Answer None h = let answer = h refl in record { bytes = answer.bytes; are = answer.are }
by_error known Answer (Some r) h = record { bytes = refusal_text r; are = refl }

answered : (known : Option Block) (place : Place) (checks : Block → Checks) (Answer : Block → List ℕ → Type 0)
    → ((k : Block) → known ≡ Some k → Passes (checks k) → HasBytes (Answer k)) → HasBytes (Answered (checks_in known place checks) known Answer)
answered None place checks Answer each = record { bytes = refusal_text (refusals.Unknown place); are = refl }
answered (Some k) place checks Answer each = by_error (Some k) Answer (first_error (checks k)) (λ none. each k refl (passes_from (checks k) none))

-- a command on one algebra has a reply, if it has an answer wherever the session knows the name and no operand fails
pub answered_on : (s : List Block) (w : Word) (checks : Block → Checks) (Answer : Block → List ℕ → Type 0)
    → ((k : Block) → lookup s w.name ≡ Some k → Passes (checks k) → HasBytes (Answer k)) → HasBytes (AnsweredOn s w checks Answer)
answered_on s w checks Answer each = answered (lookup s w.name) w.place checks Answer each

-- and one on two algebras
pub answered_on_both : (s : List Block) (v w : Word) (checks : Block → Block → Checks) (Answer : Block → Block → List ℕ → Type 0)
    → ((k l : Block) → lookup s v.name ≡ Some k → lookup s w.name ≡ Some l → Passes (checks k l) → HasBytes (Answer k l)) → HasBytes (AnsweredOnBoth s v w checks Answer)
answered_on_both s v w checks Answer each =
    answered_on s v (λ k. checks_in (lookup s w.name) w.place (checks k)) (λ k. SaysOf (lookup s w.name) (Answer k)) (λ k known passes. second k known (lookup s w.name) refl passes)
  where
    second : (k : Block) → lookup s v.name ≡ Some k → (other : Option Block) → lookup s w.name ≡ other → Passes (checks_in other w.place (checks k)) → HasBytes (SaysOf other (Answer k))
    second k known None is passes = absurd (let bad : (w.place ∷ []) ≡ [] = passes.unknown in cc)
    second k known (Some l) is passes = each k l known is passes
