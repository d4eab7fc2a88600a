use Rattle.std.specs.Prelude.{codes}
use Rattle.serde_json.specs.View.{view}
use Rattle.ua_cert.specs.Reading.{both, condition_name, field, number_of}
use Rattle.ua_cert.specs.Certificates.{vectors}
use Rattle.ua_cert.proofs.certificates.no_condition.Goals as goal

pub returns : goal.returns
returns c =
    let d = view c.args.object.now in
    let k_is = field number_of (codes "k") d in
    let name_is = field condition_name (codes "name") d in
    let rows_is = vectors (codes "rows") d in
    c.no_condition_with.ensures (both k_is (both name_is rows_is)) (c.both-2.ensures k_is (both name_is rows_is) c.field-k.ensures (c.both.ensures name_is rows_is c.field-name.ensures c.field-rows.ensures))
