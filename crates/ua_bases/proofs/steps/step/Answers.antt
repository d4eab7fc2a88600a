use Rattle.std.proofs.Common.{ap, ◌∙◌}
use Rattle.ua_bases.specs.Bases.{BasisView}
use Rattle.ua_bases.proofs.BasisLaws.{basis_same}
use Rattle.ua_bases.proofs.steps.step.Goals as goal

pub returns-else-len-reached-clause-basis : goal.returns-else-len-reached-clause-basis
returns-else-len-reached-clause-basis c =
    let p = c.args.operations.now in
    let rows = c.args.rows.now.items in
    let same = c.next.ensures.same in
    let queue = ap (λ (v : BasisView). v.queue) same ∙ c.reserve.ensures.queue in
    let bases = ap (λ (v : BasisView). v.bases) same ∙ c.reserve.ensures.bases in
    let basis = basis_same p c.args.op rows c.args.basis.now c.next.new.self queue bases c.requires.basis in
    c.add.ensures.basis p c.args.op rows c.choose.ensures.low basis
