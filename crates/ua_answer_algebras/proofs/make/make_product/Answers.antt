use Rattle.std.proofs.Common.{◌≡◌, ◌++◌, ◌∷◌, [], ℕ, List, Some, Ok, refl, sym, ap, ◌∙◌, subst}
use Rattle.std.proofs.lemmas.Result.{IfOk-weaker}
use Rattle.ua_table.specs.Algebras.{FiniteAlgebra}
use Rattle.ua_prod.specs.Permitted.{MayProduct}
use Rattle.ua_text.specs.Signs.{printed}
use Rattle.ua_text.specs.Blocks.{block, unnamed}
use Rattle.ua_script.specs.declared.script.MakeForm.TheVariants.{Product}
use Rattle.ua_reply.specs.Sessions.{lookup}
use Rattle.ua_reply.specs.Checks.{passed, checks_in}
use Rattle.ua_answer_algebras.specs.declared.answered.Answered.{Answered}
use Rattle.ua_answer_algebras.specs.MakeCommand.{Of, left_by}
use Rattle.ua_answer_algebras.proofs.Making.{makes, both_ok, found_of, found_passes}
use Rattle.ua_answer_algebras.proofs.make.make_product.Goals as goal

pub returns-in-Ok-clause-reply : goal.returns-in-Ok-clause-reply
returns-in-Ok-clause-reply g c =
    let s = c.args.context.now.session.now in
    let first = c.args.first.now in
    let second = c.args.second.now in
    let name = c.args.name.now in
    let k = c.in-Some.left.now in
    let l = c.in-Some-find.right.now in
    let made = c.in-Ok.algebra in
    let left : lookup s first.name ≡ Some k = sym (c.in-Some.ensures ∙ ap (lookup s) c.text.ensures.text) in
    let right : lookup s second.name ≡ Some l = sym (c.in-Some-find.ensures ∙ ap (lookup s) c.text-2.ensures.text) in
    let none = found_passes (lookup s first.name) k first.place (λ k. checks_in (lookup s second.name) second.place (λ l. passed)) left (found_passes (lookup s second.name) l second.place (λ l. passed) right refl) in
    let product = subst (λ (q : List ℕ × FiniteAlgebra × FiniteAlgebra). MayProduct q.0 q.1 q.2 (Ok made)) (λ i. (c.in_ok-copy.ensures i, c.algebra.ensures i, c.algebra-2.ensures i)) c.in-Ok.ensures in
    let inner = found_of (lookup s second.name) l (λ l. MayProduct name.name k.algebra l.algebra (Ok made)) right product in
    let may = found_of (lookup s first.name) k (λ k. Of (lookup s second.name) (λ l. MayProduct name.name k.algebra l.algebra (Ok made))) left inner in
    IfOk-weaker c.introduced.result _ _
    (λ v both. makes s c.args.place name (Product first second) (Ok made) v.reply.items (left_by s v.made) none may (ap Some (sym both.0)) both.1)
    (both_ok (λ (v : Answered). v.reply.items ≡ printed (block (unnamed made))) (λ (v : Answered). left_by s v.made ≡ s ++ unnamed made ∷ []) c.introduced.result c.introduced.ensures.reply (c.introduced.ensures.made s))
