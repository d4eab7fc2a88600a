use Rattle.std.proofs.Common.{◌≡◌, [], sym, ap, ◌∙◌, subst, arith}
use Rattle.std.specs.Prelude.{slice_index}
use Rattle.std.proofs.lemmas.Option.{get_or_from_slice_get}
use Rattle.ua_part.specs.Partitions.{Partition, SameBlock}
use Rattle.ua_cong.proofs.HintLaws.{place_of_hint}
use Rattle.ua_cong.proofs.settling.settled_place.Goals as goal

pub returns : goal.returns
returns c =
    let known = c.args.known.now in
    let row = c.row-row.result.now in
    let n = c.row-row.ensures.width in
    let width = c.requires.known.width in
    let same : slice_index row c.args.first ≡ slice_index row c.args.second = ap (slice_index row) (sym c.from.ensures) ∙ c.if-row-from.false ∙ ap (slice_index row) c.from-2.ensures in
    let s : SameBlock c.row-row.result.now c.args.first c.args.second = record { left = (let w = c.requires.elements.0 in omega (arith, w, n, width)); right = (let w = c.requires.elements.1 in omega (arith, w, n, width)); same = same } in
    place_of_hint c.args.a.now known c.args.first c.args.second c.in_ok-place.place c.in_ok-place.ensures
    (subst (λ (p : Partition). SameBlock p c.args.first c.args.second) (sym (get_or_from_slice_get known.rows.items c.in_ok-place.place row [] c.row-row.ensures.row)) s)
