use Rattle.std.proofs.Common.{◌≡◌, ap, ◌∙◌, subst}
use Rattle.ua_table.specs.Algebras.{power}
use Rattle.ua_close.specs.declared.close.Closure.TheVariants as closures
use Rattle.ua_close.specs.Answers.{Answers}
use Rattle.ua_check.specs.Checking.{flaw_of}
use Rattle.ua_certify.proofs.Flawless.{closed_power}
use Rattle.ua_certify.proofs.answers.certify_closure.Goals as goal

pub returns-in_ok-listed-in-Closed-clause-flawless : goal.returns-in_ok-listed-in-Closed-clause-flawless
returns-in_ok-listed-in-Closed-clause-flawless c = λ b wide admitted h.
    let a = c.args.a.now in let gens = c.args.gens.now.items in let rows = c.in-Closed.rows in let table = c.size-size.ensures.algebra in
    let is : c.args.closure.now ≡ closures.Closed rows = let e = c.in-Closed.is in cc in
    let closed = subst (Answers (power a c.args.width) gens b) is h in
    ap (flaw_of a) c.in_ok-listed-in-Closed.ensures ∙ c.flawless.ensures.listing a gens rows c.args.width table (closed_power a c.args.width b gens rows c.kinds.ensures.vectors table wide admitted closed)
