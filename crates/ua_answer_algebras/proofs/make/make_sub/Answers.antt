use Rattle.std.proofs.Common.{◌≡◌, ◌<◌, ◌++◌, ◌∷◌, [], ℕ, List, Some, None, Ok, Err, sym, ap, ◌∙◌, subst}
use Rattle.std.specs.List.{AllByRecursion}
use Rattle.std.proofs.lemmas.Result.{IfOk-weaker}
use Rattle.ua_table.specs.Algebras.{FiniteAlgebra}
use Rattle.ua_prod.specs.Permitted.{MaySub}
use Rattle.ua_prod.specs.declared.errors.ProdError.{ProdError}
use Rattle.ua_prod.specs.Escapes.{IsFirstEscape, arguments_at}
use Rattle.ua_sub.specs.Members.{AreMembers}
use Rattle.ua_text.specs.Signs.{printed}
use Rattle.ua_text.specs.Blocks.{block, unnamed}
use Rattle.ua_reply.specs.Sessions.{lookup}
use Rattle.ua_answer_algebras.specs.declared.answered.Answered.{Answered}
use Rattle.ua_answer_algebras.specs.MakeCommand.{left_by, MayGenerate}
use Rattle.ua_operands.specs.declared.written.Entry.{Entry}
use Rattle.ua_script.specs.declared.script.MakeForm.TheVariants.{Sub}
use Rattle.ua_reply.specs.Checks.{first_error}
use Rattle.ua_reply.specs.Operands.{elements_in}
use Rattle.ua_answer_algebras.proofs.Making.{makes, both_ok, found_of, found_passes}
use Rattle.ua_answer_algebras.proofs.make.make_sub.Goals as goal

pub subalgebra-requires-clause-range : goal.subalgebra-requires-clause-range
subalgebra-requires-clause-range g c =
    let a = c.algebra-whole.result.now in
    let size = ap (λ (a : FiniteAlgebra). a.size) (sym c.algebra-whole.ensures) in
    let below = subst (λ n. AllByRecursion (λ x. x < n) c.deref.result.now) size (subst (λ (xs : List ℕ). AllByRecursion (λ x. x < c.in-Some.known.now.algebra.size) xs) (sym c.deref.ensures.value) c.in_ok-gens.ensures.below) in
    subst (AllByRecursion (λ x. x < a.size)) (sym c.deref-2.ensures.value) (c.members.ensures.below a c.deref.result.now c.in_ok-members.members.items c.size-size.ensures.algebra.algebra below c.in_ok-members.ensures)

pub returns-in-Ok-clause-reply : goal.returns-in-Ok-clause-reply
returns-in-Ok-clause-reply g c =
    let s = c.args.context.now.session.now in
    let a = c.args.algebra.now in
    let set = c.args.set.now in
    let name = c.args.name.now in
    let k = c.in-Some.known.now in
    let made = c.in-Ok.algebra in
    let members = c.in_ok-members.members.items in
    let known : lookup s a.name ≡ Some k = sym (c.in-Some.ensures ∙ ap (lookup s) c.text.ensures.text) in
    let first = sym (c.in_default-refusal.ensures.first (elements_in k c.as_slice.result.now) c.elements_in.ensures) in
    let passes = subst (λ (es : List Entry). first_error (elements_in k es) ≡ None) c.as_slice.ensures first in
    let none = found_passes (lookup s a.name) k a.place (λ k. elements_in k set.values) known passes in
    let generated = subst (λ (q : FiniteAlgebra × List ℕ). AreMembers q.0 q.1 members) (λ i. (c.algebra-whole.ensures i, (c.deref.ensures.value ∙ c.in_ok-gens.ensures.values) i)) c.in_ok-members.ensures in
    let sub = subst (λ (q : List ℕ × FiniteAlgebra × List ℕ). MaySub q.0 q.1 q.2 (Ok made)) (λ i. (c.in_ok-copy.ensures i, c.algebra-whole.ensures i, c.deref-2.ensures.value i)) c.in-Ok.ensures in
    let may = found_of (lookup s a.name) k (λ k. MayGenerate k name.name set (Ok made)) known (record { members = members; generated = generated; permitted = sub }) in
    IfOk-weaker c.introduced.result _ _
    (λ v both. makes s c.args.place name (Sub a set) (Ok made) v.reply.items (left_by s v.made) none may (ap Some (sym both.0)) both.1)
    (both_ok (λ (v : Answered). v.reply.items ≡ printed (block (unnamed made))) (λ (v : Answered). left_by s v.made ≡ s ++ unnamed made ∷ []) c.introduced.result c.introduced.ensures.reply (c.introduced.ensures.made s))

pub unreachable-requires-in-Err-NotClosed : goal.unreachable-requires-in-Err-NotClosed
unreachable-requires-in-Err-NotClosed g c =
    let a = c.algebra-whole.result.now in
    let members = c.in_ok-members.members.items in
    let op = c.in-Err-NotClosed.field-0-0 in
    let args = c.in-Err-NotClosed.field-0-1 in
    let may = subst (λ (e : ProdError). MaySub c.in_ok-copy.field-0 a c.deref-2.result.now (Err e)) c.in-Err-NotClosed.field-0-is c.in-Err-NotClosed.ensures in
    let escape = subst (λ (xs : List ℕ). IsFirstEscape a xs op args) c.deref-2.ensures.value may.1 in
    escape.escape.outside (c.members.ensures.closed a c.deref.result.now members op (arguments_at a op args) c.in_ok-members.ensures escape.escape.application.operation escape.escape.application.count escape.escape.members)
