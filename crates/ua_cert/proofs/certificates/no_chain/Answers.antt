use Rattle.std.specs.Prelude.{codes}
use Rattle.serde_json.specs.View.{view}
use Rattle.ua_cert.specs.Reading.{both, chain_name, field}
use Rattle.ua_cert.specs.Certificates.{numbers, vectors}
use Rattle.ua_cert.proofs.certificates.no_chain.Goals as goal

pub returns : goal.returns
returns c =
    let d = view c.args.object.now in
    let even_is = numbers (codes "even") d in
    let name_is = field chain_name (codes "name") d in
    let odd_is = numbers (codes "odd") d in
    let rows_is = vectors (codes "rows") d in
    c.no_chain_with.ensures (both even_is (both name_is (both odd_is rows_is)))
    (c.both-3.ensures even_is (both name_is (both odd_is rows_is)) c.field-even.ensures
    (c.both-2.ensures name_is (both odd_is rows_is) c.field-name.ensures
    (c.both.ensures odd_is rows_is c.field-odd.ensures c.field-rows.ensures)))
