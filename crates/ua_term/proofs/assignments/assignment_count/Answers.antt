use Rattle.std.proofs.Common.{◌≡◌, ◌^◌, ◌∙◌, arith}
use Rattle.ua_table.specs.declared.limits.TheConstants.{VARIABLES}
use Rattle.ua_term.proofs.AssignmentLaws.{few_assignments}
use Rattle.ua_term.proofs.assignments.assignment_count.Goals as goal

pub pow-requires : goal.pow-requires
pow-requires c =
    let few = few_assignments c.args.size c.args.variables VARIABLES c.requires.size c.requires.variables in
    let same : c.from.result ^ c.from-2.result ≡ c.args.size ^ c.args.variables = (λ i. c.from.ensures i ^ c.from-2.ensures i) in
    omega (arith, few, same)

pub returns-clause-small : goal.returns-clause-small
returns-clause-small c =
    let few = few_assignments c.args.size c.args.variables VARIABLES c.requires.size c.requires.variables in
    let same : c.pow.result ≡ c.args.size ^ c.args.variables = c.pow.ensures ∙ (λ i. c.from.ensures i ^ c.from-2.ensures i) in
    omega (arith, few, same)
