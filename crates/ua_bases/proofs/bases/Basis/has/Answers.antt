use Rattle.std.proofs.Common.{◌<◌, false, length, sym, ap, ◌∙◌, subst, nat_eq}
use Rattle.std.specs.List.{list_any}
use Rattle.std.proofs.lemmas.List.{get_or_default}
use Rattle.ua_bases.specs.Bases.{BasisView}
use Rattle.ua_bases.proofs.KeptLaws.{contains_tested, tested_contains}
use Rattle.ua_bases.proofs.bases.Basis.has.Goals as goal

pub returns : goal.returns
returns c =
    let queue = c.args.self.now.queue in
    let row = c.args.row in
    let low : row < length c.self.inside.marks.items = subst (λ (v : BasisView). row < v.room) (sym c.self.view_is) c.requires in
    let mark = c.index.ensures ∙ get_or_default c.self.inside.marks.items row c.index.result.now false low ∙ c.self.invariant.marked row ∙ ap (λ (v : BasisView). list_any (nat_eq row) v.queue) c.self.view_is in
    (λ t. contains_tested queue row (sym mark ∙ t), λ h. mark ∙ tested_contains queue row h)
