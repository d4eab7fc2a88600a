use Rattle.std.proofs.Common.{nat_eq, ◌∙◌, subst}
use Rattle.std.specs.List.{IsDistinct}
use Rattle.std.specs.Cmp.Lexicographic.{pointwise}
use Rattle.ua_listing.proofs.RecordsLaws.{rows_inside, length_inside}
use Rattle.ua_listing.proofs.records.Records.len.Goals as goal

pub returns-clause-len : goal.returns-clause-len
returns-clause-len c = c.len.ensures.len ∙ length_inside c.self.inside.rows.items c.self.inside.origins.items c.args.self.now c.self.invariant c.self.view_is

pub returns-clause-different : goal.returns-clause-different
returns-clause-different c = subst (IsDistinct (pointwise nat_eq)) (rows_inside c.self.inside.rows.items c.self.inside.origins.items c.args.self.now c.self.invariant c.self.view_is) c.len.ensures.rows.different
