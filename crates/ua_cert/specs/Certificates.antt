-- The certificate that a JSON value is, or the first field that is none.
use Rattle.std.specs.Prelude.{◌≡◌, ◌≢◌, ℕ, Option, Some, None, Result, Ok, Err, List, [], ◌∷◌, map, codes}
use Rattle.serde_json.specs.Data.{Data, Members}
use Rattle.std.specs.Str.{IsUtf8}
use Rattle.serde_json.specs.Find.{as_object}
use Rattle.serde_json.specs.Read.{read as read_text}
use Rattle.ua_cert.specs.declared.certs.CertStep.{CertStep}
use Rattle.ua_cert.specs.declared.certs.CondName.{CondName}
use Rattle.ua_cert.specs.declared.certs.ChainName.{ChainName}
use Rattle.ua_cert.specs.declared.certs.Cert.{Cert}
use Rattle.ua_cert.specs.declared.certs.Cert.TheVariants as cert
use Rattle.ua_cert.specs.declared.kinds.Kind.{Kind}
use Rattle.ua_cert.specs.declared.kinds.Kind.TheVariants as kind
use Rattle.ua_cert.specs.declared.faults.CertError.{CertError}
use Rattle.ua_cert.specs.declared.faults.CertError.TheVariants as error
use Rattle.ua_cert.specs.declared.faults.FieldError.{FieldError}
use Rattle.ua_cert.specs.declared.faults.FieldError.TheVariants as fault
use Rattle.ua_cert.specs.Reading.{Reading, both, mapped, after, field, named, number_of, text_of, list_of, step_of, condition_name, chain_name, keys_of, first_unlike}

-- ---- kinds

-- their names
abbrev pub kind_text : Kind → List ℕ
kind_text kind.Member = codes "member"
kind_text kind.NotMember = codes "not_member"
kind_text kind.Listing = codes "listing"
kind_text kind.Condition = codes "condition"
kind_text kind.NoCondition = codes "no_condition"
kind_text kind.Chain = codes "chain"
kind_text kind.NoChain = codes "no_chain"

abbrev pub kind_names : List (List ℕ × Kind)
kind_names = map (λ k. (kind_text k, k)) (kind.Member ∷ kind.NotMember ∷ kind.Listing ∷ kind.Condition ∷ kind.NoCondition ∷ kind.Chain ∷ kind.NoChain ∷ [])

abbrev pub kind_name : Data → Reading Kind
kind_name d = after (text_of d) (named kind_names)

-- the keys of a certificate of each kind, ascending
abbrev pub keys_for : Kind → List (List ℕ)
keys_for kind.Member = codes "gens" ∷ codes "kind" ∷ codes "steps" ∷ codes "target" ∷ codes "width" ∷ []
keys_for kind.NotMember = codes "gens" ∷ codes "kind" ∷ codes "rows" ∷ codes "target" ∷ codes "width" ∷ []
keys_for kind.Listing = codes "gens" ∷ codes "kind" ∷ codes "origins" ∷ codes "ranks" ∷ codes "rows" ∷ codes "width" ∷ []
keys_for kind.Condition = codes "k" ∷ codes "kind" ∷ codes "name" ∷ codes "steps" ∷ []
keys_for kind.NoCondition = codes "k" ∷ codes "kind" ∷ codes "name" ∷ codes "rows" ∷ []
keys_for kind.Chain = codes "kind" ∷ codes "name" ∷ codes "terms" ∷ []
keys_for kind.NoChain = codes "even" ∷ codes "kind" ∷ codes "name" ∷ codes "odd" ∷ codes "rows" ∷ []

-- ---- fields, by ascending keys

abbrev pub numbers : List ℕ → Data → Reading (List ℕ)
numbers = field (list_of number_of)

abbrev pub vectors : List ℕ → Data → Reading (List (List ℕ))
vectors = field (list_of (list_of number_of))

abbrev pub steps : List ℕ → Data → Reading (List CertStep)
steps = field (list_of step_of)

abbrev pub member_with : List (List ℕ) × (List CertStep × (List ℕ × ℕ)) → Cert
member_with p = cert.Member p.0 p.1.0 p.1.1.0 p.1.1.1

abbrev pub member_of : Data → Reading Cert
member_of d = mapped member_with (both (vectors (codes "gens") d) (both (steps (codes "steps") d) (both (numbers (codes "target") d) (field number_of (codes "width") d))))

abbrev pub not_member_with : List (List ℕ) × (List (List ℕ) × (List ℕ × ℕ)) → Cert
not_member_with p = cert.NotMember p.0 p.1.0 p.1.1.0 p.1.1.1

abbrev pub not_member_of : Data → Reading Cert
not_member_of d = mapped not_member_with (both (vectors (codes "gens") d) (both (vectors (codes "rows") d) (both (numbers (codes "target") d) (field number_of (codes "width") d))))

abbrev pub listing_with : List (List ℕ) × (List CertStep × (List ℕ × (List (List ℕ) × ℕ))) → Cert
listing_with p = cert.Listing p.0 p.1.0 p.1.1.0 p.1.1.1.0 p.1.1.1.1

abbrev pub listing_of : Data → Reading Cert
listing_of d = mapped listing_with (both (vectors (codes "gens") d) (both (steps (codes "origins") d) (both (numbers (codes "ranks") d) (both (vectors (codes "rows") d) (field number_of (codes "width") d)))))

abbrev pub condition_with : ℕ × (CondName × List CertStep) → Cert
condition_with p = cert.Condition p.1.0 p.0 p.1.1

abbrev pub condition_of : Data → Reading Cert
condition_of d = mapped condition_with (both (field number_of (codes "k") d) (both (field condition_name (codes "name") d) (steps (codes "steps") d)))

abbrev pub no_condition_with : ℕ × (CondName × List (List ℕ)) → Cert
no_condition_with p = cert.NoCondition p.1.0 p.0 p.1.1

abbrev pub no_condition_of : Data → Reading Cert
no_condition_of d = mapped no_condition_with (both (field number_of (codes "k") d) (both (field condition_name (codes "name") d) (vectors (codes "rows") d)))

abbrev pub chain_with : ChainName × List (List CertStep) → Cert
chain_with p = cert.Chain p.0 p.1

abbrev pub chain_of : Data → Reading Cert
chain_of d = mapped chain_with (both (field chain_name (codes "name") d) (field (list_of (list_of step_of)) (codes "terms") d))

abbrev pub no_chain_with : List ℕ × (ChainName × (List ℕ × List (List ℕ))) → Cert
no_chain_with p = cert.NoChain p.1.0 p.1.1.1 p.0 p.1.1.0

abbrev pub no_chain_of : Data → Reading Cert
no_chain_of d = mapped no_chain_with (both (numbers (codes "even") d) (both (field chain_name (codes "name") d) (both (numbers (codes "odd") d) (vectors (codes "rows") d))))

abbrev pub fields_of : Kind → Data → Reading Cert
fields_of kind.Member d = member_of d
fields_of kind.NotMember d = not_member_of d
fields_of kind.Listing d = listing_of d
fields_of kind.Condition d = condition_of d
fields_of kind.NoCondition d = no_condition_of d
fields_of kind.Chain d = chain_of d
fields_of kind.NoChain d = no_chain_of d

-- ---- the whole

-- a key that is missing or unknown, else what is read
abbrev pub keyed : Option (List ℕ) → Reading Cert → Reading Cert
keyed None r = r
keyed (Some key) r = Err (fault.Shape key)

abbrev pub object_of : Option Members → Data → Reading Cert
object_of None d = Err (fault.Shape [])
object_of (Some ms) d = after (field kind_name (codes "kind") d) (λ k. keyed (first_unlike (keys_for k) (keys_of ms)) (fields_of k d))

-- the certificate that the value is: its kind is looked for first, then its keys, then what stands under them
abbrev pub cert_of : Data → Reading Cert
cert_of d = object_of (as_object d) d

-- ---- texts

abbrev pub fault_of : FieldError → CertError
fault_of (fault.Shape path) = error.Shape path
fault_of (fault.Range path) = error.Range path
fault_of fault.OutOfMemory = error.OutOfMemory

-- what the text is read as: a certificate, or its first fault
pub record IsReadAs (bytes : List ℕ) (r : Reading Cert) : Type 0 where
  pub utf8 : IsUtf8 bytes
  pub value : Data
  pub json : read_text bytes ≡ Some value
  pub read : cert_of value ≡ r

-- the certificate that the text writes, or its first fault, or that there is no memory
abbrev pub TellsCert : List ℕ → Result Cert CertError → Type 0
TellsCert bytes (Ok c) = IsReadAs bytes (Ok c)
TellsCert bytes (Err error.Json) = IsUtf8 bytes → read_text bytes ≡ None
TellsCert bytes (Err (error.Shape path)) = IsReadAs bytes (Err (fault.Shape path))
TellsCert bytes (Err (error.Range path)) = IsReadAs bytes (Err (fault.Range path))
TellsCert bytes (Err error.OutOfMemory) = Unit {0}

-- something is told of the text, and not that there is no memory
pub record IsTold (bytes : List ℕ) : Type 0 where
  pub result : Result Cert CertError
  pub tells : TellsCert bytes result
  pub told : result ≢ Err error.OutOfMemory
