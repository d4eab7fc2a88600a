use Rattle.std.proofs.Common.{◌∙◌, subst}
use Rattle.serde_json.specs.View.{view}
use Rattle.ua_cert.specs.Reading.{under}
use Rattle.ua_cert.specs.inner.Reading.{Reads}
use Rattle.ua_cert.proofs.reading.item.Goals as goal

pub returns : goal.returns
returns g c =
    let want = g.T.Readable.reads (view c.args.value.now) in
    subst (λ path. Reads (under path want) c.under.result) (c.as_slice.ensures.value ∙ c.in_ok-path.ensures) (c.under.ensures want c.read.ensures)
