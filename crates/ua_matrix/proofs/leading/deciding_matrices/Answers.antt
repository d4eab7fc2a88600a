use Rattle.std.proofs.Common.{ℕ, length, sym, ap, ◌∙◌, subst, arith, Option}
use Rattle.std.specs.Prelude.{IfSome}
use Rattle.ua_matrix.specs.declared.deltas.Delta.{Delta}
use Rattle.ua_matrix.specs.Matrices.{matrix_generators}
use Rattle.ua_matrix.specs.inner.Deltas.{leading_matrices}
use Rattle.ua_matrix.specs.inner.Squares.{left_of, right_of, IsDeltaOf}
use Rattle.ua_matrix.proofs.AllMatrices.{leading_decide}
use Rattle.ua_matrix.proofs.leading.deciding_matrices.Goals as goal

pub related_count-requires : goal.related_count-requires
related_count-requires c =
    let h = subst (λ (o : Option Delta). IfSome o (IsDeltaOf c.args.a.now c.args.alpha.now c.args.beta.now)) c.in-Some.is c.in_ok-delta.ensures in
    let n = h.is.generated.congruence.size in
    let size = h.size in
    let few = h.few in
    omega (arith, n, size, few)

pub leading_matrices-requires-clause-few : goal.leading_matrices-requires-clause-few
leading_matrices-requires-clause-few c =
    let h = subst (λ (o : Option Delta). IfSome o (IsDeltaOf c.args.a.now c.args.alpha.now c.args.beta.now)) c.in-Some.is c.in_ok-delta.ensures in
    h.few

pub leading_matrices-requires-clause-places : goal.leading_matrices-requires-clause-places
leading_matrices-requires-clause-places c =
    let h = subst (λ (o : Option Delta). IfSome o (IsDeltaOf c.args.a.now c.args.alpha.now c.args.beta.now)) c.in-Some.is c.in_ok-delta.ensures in
    h.is.generated.congruence.size ∙ h.size

pub returns : goal.returns
returns c =
    let a = c.args.a.now in
    let alpha = c.args.alpha.now in
    let beta = c.args.beta.now in
    let delta = c.in-Some.delta in
    let h = subst (λ (o : Option Delta). IfSome o (IsDeltaOf c.args.a.now c.args.alpha.now c.args.beta.now)) c.in-Some.is c.in_ok-delta.ensures in
    let narrow = c.is_narrow.ensures c.if-not-is_narrow.false (matrix_generators alpha beta) (sym (c.len.ensures ∙ ap length c.in_ok-gens.ensures.items)) in
    leading_decide a alpha beta c.size.ensures.algebra.algebra c.requires.alpha c.requires.beta delta c.args.budget c.in_ok-leading_matrices.field-0.items h narrow (omega (arith, c.related_count.ensures, c.if-related_count-budget.false))
    (c.in_ok-leading_matrices.ensures.items ∙ ap (λ (n : ℕ). leading_matrices (left_of n delta.pairs.items) (right_of n delta.pairs.items) delta.blocks) c.size-2.ensures.size)
