use Rattle.std.proofs.Common.{ℕ, sym, ◌∙◌, subst}
use Rattle.ua_bases.specs.Bases.{IsComplete}
use Rattle.ua_bases.proofs.ClosedBases.{closed_by_bases}
use Rattle.ua_work.specs.inner.Completions.{IsBasisOf}
use Rattle.ua_work.specs.inner.Bases.{IsKnown}
use Rattle.ua_work.proofs.bases.Bases.is_closed.Goals as goal

pub returns-then-self-eq1 : goal.returns-then-self-eq1
returns-then-self-eq1 c = λ r replica h count t.
    let f = c.args.op in
    let basis = c.in-Associative.basis in
    let known : IsBasisOf r f basis = subst (IsKnown r f) (sym c.index.ensures ∙ c.in-Associative.is) (h.each f c.index.result.now c.requires) in
    let complete = subst (λ (n : ℕ). IsComplete n basis) (sym count) (c.is_complete.ensures t) in
    (known.associative.binary, closed_by_bases r.operations f r.rows.items basis known.associative replica.vectors known.basis complete)
