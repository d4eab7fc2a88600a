-- What a `make` is answered, from what it makes.
use Rattle.std.proofs.Common.{◌≡◌, ℕ, List, Some, None, sym, ap, ◌∙◌, subst}
use Rattle.std.specs.Prelude.{Option, Result, Ok, Err, IfOk}
use Rattle.std.specs.Option.{MatchOption}
use Rattle.ua_table.specs.Algebras.{FiniteAlgebra}
use Rattle.ua_prod.specs.declared.errors.ProdError.{ProdError}
use Rattle.ua_text.specs.declared.tokens.Place.{Place}
use Rattle.ua_text.specs.declared.named.Block.{Block}
use Rattle.ua_operands.specs.declared.written.Word.{Word}
use Rattle.ua_script.specs.declared.script.MakeForm.{MakeForm}
use Rattle.ua_reply.specs.Checks.{Checks, checks_in, first_error}
use Rattle.ua_reply.specs.Refusals.{refusal_text}
use Rattle.ua_answer_algebras.specs.MakeCommand.{Of, MayMake, make_checks, make_text, with_made, Makes, MakeReply}

-- nothing fails
pub makes : (s : List Block) (place : Place) (name : Word) (what : MakeForm) (answer : Result FiniteAlgebra ProdError) (bytes : List ℕ) (t : List Block)
    → first_error (make_checks s what) ≡ None → MayMake s name.name what answer → make_text s place what answer ≡ Some bytes → t ≡ with_made s answer → MakeReply s place name what bytes t
makes s place name what answer bytes t none may text left =
    subst (λ found. MatchOption found (Makes s name.name place what bytes t) (λ r. (bytes ≡ refusal_text r) × (t ≡ s))) (sym none) (record { answer = answer; permitted = may; told = text; left = left })

-- what holds of a value one by one holds of it together
pub both_ok : {A E : Type 0} (P Q : A → Type 0) (r : Result A E) → IfOk r P → IfOk r Q → IfOk r (λ a. P a × Q a)
both_ok P Q (Ok a) p q = (p, q)
both_ok P Q (Err e) p q = tt

-- what is known of a name
pub found_of : (found : Option Block) (k : Block) (P : Block → Type 0) → found ≡ Some k → P k → Of found P
found_of found k P e h = subst (λ o. Of o P) (sym e) h

pub found_passes : (found : Option Block) (k : Block) (place : Place) (checks : Block → Checks) → found ≡ Some k → first_error (checks k) ≡ None → first_error (checks_in found place checks) ≡ None
found_passes found k place checks e h = ap (λ o. first_error (checks_in o place checks)) e ∙ h
