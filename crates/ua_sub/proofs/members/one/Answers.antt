use Rattle.std.proofs.Common.{ℕ, Option, [], ◌∷◌, sym, ◌∙◌, subst}
use Rattle.std.specs.Prelude.{IfSome}
use Rattle.std.proofs.lemmas.Result.{IfOk-weaker}
use Rattle.ua_sub.specs.declared.twins.Question.{Question}
use Rattle.ua_sub.specs.Members.{AreMembers}
use Rattle.ua_sub.specs.inner.Twins.{IsTwin}
use Rattle.ua_sub.proofs.TwinLaws.{twin_members}
use Rattle.ua_sub.proofs.members.one.Goals as goal

pub returns-in-Some : goal.returns-in-Some
returns-in-Some g c =
    let question : Question = record { algebra = c.args.algebra; lists = c.args.lists; element = c.args.x } in
    let twin = subst (λ (found : Option ℕ). IfSome found (IsTwin question)) c.in-Some.is c.in_ok-y.ensures in
    let here = twin_members question c.in-Some.y c.index-lists-y.result c.requires.lists twin c.index-lists-y.is in
    IfOk-weaker c.from_slice.result _ _ (λ copy same. subst (AreMembers c.args.algebra.now (c.args.x ∷ [])) (sym (same ∙ c.as_slice.ensures.value)) here) c.from_slice.ensures.items
