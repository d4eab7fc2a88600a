use Rattle.std.proofs.Common.{◌≡◌, ◌<◌, length, sym, ap, ◌∙◌, arith}
use Rattle.std.specs.Prelude.{slice_index}
use Rattle.std.proofs.lemmas.Bool.{eqb-true, eq-eqb}
use Rattle.std.proofs.lemmas.List.{get_or_default}
use Rattle.ua_prod.specs.Constructions.{place_among}
use Rattle.ua_prod.proofs.EscapeLaws.{place_below, member_at, number_read}
use Rattle.ua_prod.proofs.escapes.is_member.Goals as goal

pub index-requires : goal.index-requires
index-requires c =
    let set = c.args.renumbering.now.members.items in
    let place = c.index-number.ensures ∙ number_read set c.args.renumbering.now.numbers.items c.args.x c.index-number.result.now c.requires.numbers c.requires.element in
    let below = place_below set c.args.x c.requires.some in
    let count = c.args.renumbering.now.members.ok.0 in
    omega (arith, place, below, count)

pub returns : goal.returns
returns c =
    let set = c.args.renumbering.now.members.items in
    let place = c.index-number.ensures ∙ number_read set c.args.renumbering.now.numbers.items c.args.x c.index-number.result.now c.requires.numbers c.requires.element in
    let below : c.index-number.result.now < length c.args.renumbering.now.members.items = (let w = place_below set c.args.x c.requires.some in omega (arith, place, w)) in
    let read : c.index.result.now ≡ slice_index c.args.renumbering.now.members.items (place_among c.args.renumbering.now.members.items c.args.x) =
    c.index.ensures ∙ get_or_default set c.index-number.result.now c.index.result.now 0 below ∙ ap (slice_index set) place in
    let member = member_at set c.args.x c.requires.some in
    (λ e. member.0 (sym read ∙ eqb-true c.index.result.now c.args.x e), λ k. eq-eqb c.index.result.now c.args.x (read ∙ member.1 k))
