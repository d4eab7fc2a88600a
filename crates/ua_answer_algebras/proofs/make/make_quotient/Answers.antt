use Rattle.std.proofs.Common.{◌≡◌, ◌++◌, ◌∷◌, [], ℕ, List, Some, Ok, sym, ap, ◌∙◌, subst}
use Rattle.std.proofs.lemmas.Result.{IfOk-weaker}
use Rattle.ua_table.specs.Algebras.{FiniteAlgebra}
use Rattle.ua_prod.specs.Permitted.{MayQuotient}
use Rattle.ua_text.specs.Signs.{printed}
use Rattle.ua_text.specs.Blocks.{block, unnamed}
use Rattle.ua_reply.specs.Sessions.{lookup}
use Rattle.ua_answer_algebras.specs.declared.answered.Answered.{Answered}
use Rattle.ua_answer_algebras.specs.MakeCommand.{left_by, MayQuotientBy}
use Rattle.ua_script.specs.declared.script.MakeForm.TheVariants.{Quotient}
use Rattle.ua_reply.specs.Parts.{part_in}
use Rattle.ua_answer_algebras.proofs.Making.{makes, both_ok, found_of, found_passes}
use Rattle.ua_answer_algebras.proofs.make.make_quotient.Goals as goal

pub returns-in-Ok-clause-reply : goal.returns-in-Ok-clause-reply
returns-in-Ok-clause-reply g c =
    let s = c.args.context.now.session.now in
    let a = c.args.algebra.now in
    let p = c.args.blocks.now in
    let name = c.args.name.now in
    let k = c.in-Some.known.now in
    let made = c.in-Ok.algebra in
    let known : lookup s a.name ≡ Some k = sym (c.in-Some.ensures ∙ ap (lookup s) c.text.ensures.text) in
    let passes = sym (c.in_default-refusal.ensures.first (part_in k p) c.in_ok-part_in.ensures) in
    let none = found_passes (lookup s a.name) k a.place (λ k. part_in k p) known passes in
    let quotient = subst (λ (q : List ℕ × FiniteAlgebra). MayQuotient q.0 q.1 c.in_ok-partition.partition (Ok made)) (λ i. (c.in_ok-copy.ensures i, c.algebra.ensures i)) c.in-Ok.ensures in
    let may = found_of (lookup s a.name) k (λ k. MayQuotientBy k name.name p (Ok made)) known (record { partition = c.in_ok-partition.partition; blocks = c.in_ok-partition.ensures.blocks; permitted = quotient }) in
    IfOk-weaker c.introduced.result _ _
    (λ v both. makes s c.args.place name (Quotient a p) (Ok made) v.reply.items (left_by s v.made) none may (ap Some (sym both.0)) both.1)
    (both_ok (λ (v : Answered). v.reply.items ≡ printed (block (unnamed made))) (λ (v : Answered). left_by s v.made ≡ s ++ unnamed made ∷ []) c.introduced.result c.introduced.ensures.reply (c.introduced.ensures.made s))
