use Rattle.std.specs.Prelude.{codes}
use Rattle.serde_json.specs.View.{view}
use Rattle.ua_cert.specs.Reading.{both, chain_name, field, list_of, step_of}
use Rattle.ua_cert.proofs.certificates.chain.Goals as goal

pub returns : goal.returns
returns c =
    let d = view c.args.object.now in
    let name_is = field chain_name (codes "name") d in
    let terms_is = field (list_of (list_of step_of)) (codes "terms") d in
    c.chain_with.ensures (both name_is terms_is) (c.both.ensures name_is terms_is c.field-name.ensures c.field-terms.ensures)
