-- That what is written is read back.
use Rattle.std.specs.Prelude.{◌≡◌, Ok}
use Rattle.serde_json.specs.Data as json
use Rattle.ua_cert.specs.declared.certs.Cert.{Cert}
use Rattle.ua_cert.specs.declared.kinds.Kind.TheVariants as kind
use Rattle.ua_cert.specs.Certificates.{cert_of}
use Rattle.ua_cert.specs.Writing.{data_of}

-- the value is read as the same certificate
abbrev pub IsReadBack : Cert → Type 0
IsReadBack c = cert_of (data_of c) ≡ Ok c
