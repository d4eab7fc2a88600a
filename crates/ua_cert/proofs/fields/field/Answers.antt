use Rattle.std.proofs.Common.{◌≡◌, None, Some, Err, [], refl, sym, subst}
use Rattle.serde_json.specs.View.{view}
use Rattle.serde_json.specs.Find.{get}
use Rattle.ua_cert.specs.declared.faults.FieldError.TheVariants as fault
use Rattle.ua_cert.specs.Reading.{under, found}
use Rattle.ua_cert.specs.inner.Reading.{Reads}
use Rattle.ua_cert.proofs.fields.field.Goals as goal

pub returns-in_default : goal.returns-in_default
returns-in_default g c =
    let reads = g.T.Readable.reads in
    let none : get c.args.key.now (view c.args.object.now) ≡ None = sym c.in_default.ensures in
    subst (λ k. Reads (under k (found reads (get c.args.key.now (view c.args.object.now)))) c.under.result) c.as_bytes.ensures.value
    (subst (λ o. Reads (under c.as_bytes.result.now (found reads o)) c.under.result) (sym none)
    (c.under.ensures (Err (fault.Shape [])) (subst (λ f. Reads (Err (fault.Shape [])) (Err f)) (sym c.misshapen.ensures) refl)))

pub returns : goal.returns
returns g c =
    let reads = g.T.Readable.reads in
    let some : get c.args.key.now (view c.args.object.now) ≡ Some (view c.in-Some.value.now) = sym c.in-Some.ensures in
    subst (λ k. Reads (under k (found reads (get c.args.key.now (view c.args.object.now)))) c.under-2.result) c.as_bytes-2.ensures.value
    (subst (λ o. Reads (under c.as_bytes-2.result.now (found reads o)) c.under-2.result) (sym some)
    (c.under-2.ensures (reads (view c.in-Some.value.now)) c.read.ensures))
