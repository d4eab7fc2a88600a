use Rattle.std.specs.Prelude.{codes}
use Rattle.serde_json.specs.View.{view}
use Rattle.ua_cert.specs.Reading.{both, field, number_of}
use Rattle.ua_cert.specs.Certificates.{numbers, steps, vectors}
use Rattle.ua_cert.proofs.certificates.listing.Goals as goal

pub returns : goal.returns
returns c =
    let d = view c.args.object.now in
    let gens_is = vectors (codes "gens") d in
    let origins_is = steps (codes "origins") d in
    let ranks_is = numbers (codes "ranks") d in
    let rows_is = vectors (codes "rows") d in
    let width_is = field number_of (codes "width") d in
    c.listing_with.ensures (both gens_is (both origins_is (both ranks_is (both rows_is width_is))))
    (c.both-4.ensures gens_is (both origins_is (both ranks_is (both rows_is width_is))) c.field-gens.ensures
    (c.both-3.ensures origins_is (both ranks_is (both rows_is width_is)) c.field-origins.ensures
    (c.both-2.ensures ranks_is (both rows_is width_is) c.field-ranks.ensures
    (c.both.ensures rows_is width_is c.field-rows.ensures c.field-width.ensures))))
