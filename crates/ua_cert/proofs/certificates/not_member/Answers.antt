use Rattle.std.specs.Prelude.{codes}
use Rattle.serde_json.specs.View.{view}
use Rattle.ua_cert.specs.Reading.{both, field, number_of}
use Rattle.ua_cert.specs.Certificates.{numbers, vectors}
use Rattle.ua_cert.proofs.certificates.not_member.Goals as goal

pub returns : goal.returns
returns c =
    let d = view c.args.object.now in
    let gens_is = vectors (codes "gens") d in
    let rows_is = vectors (codes "rows") d in
    let target_is = numbers (codes "target") d in
    let width_is = field number_of (codes "width") d in
    c.not_member_with.ensures (both gens_is (both rows_is (both target_is width_is)))
    (c.both-3.ensures gens_is (both rows_is (both target_is width_is)) c.field-gens.ensures
    (c.both-2.ensures rows_is (both target_is width_is) c.field-rows.ensures
    (c.both.ensures target_is width_is c.field-target.ensures c.field-width.ensures)))
