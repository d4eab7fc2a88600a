use Rattle.std.proofs.Common.{◌≡◌, ℕ, ◌≤◌, false, Vec, Ok, Err, Some, sym, ap, subst, ◌∙◌}
use Rattle.std.specs.Prelude.{IfOk, Result}
use Rattle.std.specs.Str.{IsUtf8}
use Rattle.std.specs.declared.alloc.Global.{Global}
use Rattle.std.specs.declared.alloc.AllocError.{AllocError}
use Rattle.serde_json.specs.Data.{Data, depth}
use Rattle.serde_json.specs.Read.{read, max_depth}
use Rattle.serde_json.specs.View.{view}
use Rattle.serde_json.specs.Written.{has_float, compact_text}
use Rattle.ua_cert.specs.declared.certs.Cert.{Cert}
use Rattle.ua_cert.specs.Certificates.{IsReadAs, cert_of}
use Rattle.ua_cert.specs.Writing.{written, data_of}
use Rattle.ua_cert.specs.inner.Writing.{IsReadBack}
use Rattle.ua_cert.proofs.WriteLaws.{shallow, whole}
use Rattle.ua_cert.proofs.certs.Cert.write.Goals as goal

text_of : (r : Result (Vec ℕ Global) AllocError) (d : Data) (c : Cert) → d ≡ data_of c → IfOk r (λ b. has_float d ≡ false → b.items ≡ compact_text d) → IfOk r (λ b. b.items ≡ written c)
text_of (Ok b) d c e text = text (ap has_float e ∙ whole c) ∙ ap compact_text e
text_of (Err x) d c e text = tt

read_of : (r : Result (Vec ℕ Global) AllocError) (d : Data) (c : Cert) → d ≡ data_of c → IsReadBack c → IfOk r (λ b. IsUtf8 b.items) → IfOk r (λ b. depth d ≤ max_depth → read b.items ≡ Some d) → IfOk r (λ b. IsReadAs b.items (Ok c))
read_of (Ok b) d c e back utf8 text = record { utf8 = utf8; value = d; json = text (subst (λ v. depth v ≤ max_depth) (sym e) (shallow c)); read = ap cert_of e ∙ back }
read_of (Err x) d c e back utf8 text = tt

pub returns-clause-text : goal.returns-clause-text
returns-clause-text c = text_of c.to_vec.result (view c.in_ok-object.field-0) c.args.self.now c.in_ok-object.ensures.value c.to_vec.ensures.text

pub returns-clause-read_back : goal.returns-clause-read_back
returns-clause-read_back c = read_of c.to_vec.result (view c.in_ok-object.field-0) c.args.self.now c.in_ok-object.ensures.value c.in_ok-object.ensures.read_back c.to_vec.ensures.utf8 c.to_vec.ensures.reads_back
