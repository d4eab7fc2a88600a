use Rattle.std.proofs.Common.{map, ap, ◌∙◌, subst, Ok}
use Rattle.ua_work.specs.declared.goals.Goal.TheVariants as goals
use Rattle.ua_close.specs.declared.reaches.Reach.{Reach}
use Rattle.ua_close.specs.Permitted.{MayReach}
use Rattle.ua_sub.specs.Homs.{two, IsExceedingGraph}
use Rattle.ua_sub.proofs.HomLaws.{widths, map_is}
use Rattle.ua_sub.proofs.homs.map_pairs.Goals as goal

pub pairs_of-requires : goal.pairs_of-requires
pairs_of-requires g c =
    let p = c.args.frame.now in
    let gens = c.args.pairs.now.items in
    let may = subst (λ (answer : Reach). MayReach p gens goals.Clash c.args.run.now.budget c.args.run.now.workers (Ok answer)) c.in-Ok-Closed.field-0-is c.in-Ok-Closed.ensures.permitted in
    widths p gens c.in-Ok-Closed.list c.requires.width (λ v s. c.kinds.ensures.vectors p gens v c.width-width.ensures.product c.requires.admitted s) may.1.0.listing

pub returns-in-Ok-Closed : goal.returns-in-Ok-Closed
returns-in-Ok-Closed g c =
    let p = c.args.frame.now in
    let gens = c.args.pairs.now.items in
    let b = c.args.run.now.budget in
    let may = subst (λ (answer : Reach). MayReach p gens goals.Clash b c.args.run.now.workers (Ok answer)) c.in-Ok-Closed.field-0-is c.in-Ok-Closed.ensures.permitted in
    record { permitted = (may.0, map_is p gens b c.in-Ok-Closed.list c.new.result may.1.0 may.1.1 (ap (map two) c.new.ensures ∙ c.in_ok-pairs_of-in-Ok-Closed.ensures), λ one. tt) }

pub clash_in-requires-clause-widths : goal.clash_in-requires-clause-widths
clash_in-requires-clause-widths g c =
    let p = c.args.frame.now in
    let gens = c.args.pairs.now.items in
    let may = subst (λ (answer : Reach). MayReach p gens goals.Clash c.args.run.now.budget c.args.run.now.workers (Ok answer)) c.in-Ok-Met.field-0-is c.in-Ok-Met.ensures.permitted in
    widths p gens c.in-Ok-Met.list c.requires.width (λ v s. c.kinds.ensures.vectors p gens v c.width-width.ensures.product c.requires.admitted s) may.1.listing

pub returns-in-Ok-Exceeds : goal.returns-in-Ok-Exceeds
returns-in-Ok-Exceeds g c =
    let p = c.args.frame.now in
    let gens = c.args.pairs.now.items in
    let b = c.args.run.now.budget in
    let may = subst (λ (answer : Reach). MayReach p gens goals.Clash b c.args.run.now.workers (Ok answer)) c.in-Ok-Exceeds.field-0-is c.in-Ok-Exceeds.ensures.permitted in
    let rows = c.in-Ok-Exceeds.field-0-0 in
    let beyond : IsExceedingGraph p gens b rows = record { listing = may.1.0; graph = may.1.1 } in
    record { permitted = (may.0, (rows, beyond), λ one. (rows, beyond, (may.2 one).0)) }
