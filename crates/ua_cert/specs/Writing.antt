-- The JSON value that a certificate is written as, and its text.
use Rattle.std.specs.Prelude.{ℕ, List, [], ◌∷◌, map, codes}
use Rattle.serde_json.specs.Data.{unsigned, Data, Members, no_members, member}
use Rattle.serde_json.specs.Data as json
use Rattle.serde_json.specs.View.{items_of}
use Rattle.serde_json.specs.Written.{compact_text}
use Rattle.ua_cert.specs.declared.certs.CertStep.{CertStep}
use Rattle.ua_cert.specs.declared.certs.CondName.{CondName}
use Rattle.ua_cert.specs.declared.certs.ChainName.{ChainName}
use Rattle.ua_cert.specs.declared.certs.Cert.{Cert}
use Rattle.ua_cert.specs.declared.certs.Cert.TheVariants.{Member, NotMember, Listing, Condition, NoCondition, Chain, NoChain}
use Rattle.ua_cert.specs.declared.kinds.Kind.{Kind}
use Rattle.ua_cert.specs.declared.kinds.Kind.TheVariants as kind
use Rattle.ua_cert.specs.Reading.{condition_text, chain_text}
use Rattle.ua_cert.specs.Certificates.{kind_text}

-- ---- values

abbrev pub number : ℕ → Data
number n = json.number (unsigned n)

abbrev pub list : {X : Type 0} → (X → Data) → List X → Data
list writes xs = json.array (items_of (map writes xs))

-- a step: its text, and its numbers behind it
abbrev pub step : CertStep → Data
step s = json.array (items_of (json.string s.word ∷ map number s.args))

abbrev pub condition_name : CondName → Data
condition_name name = json.string (condition_text name)

abbrev pub chain_name : ChainName → Data
chain_name name = json.string (chain_text name)

abbrev pub kind_name : Kind → Data
kind_name k = json.string (kind_text k)

abbrev pub vectors : List (List ℕ) → Data
vectors = list (list number)

abbrev pub steps : List CertStep → Data
steps = list step

-- ---- certificates

-- an object of these fields, which stand in ascending order of their keys
abbrev pub members : List (List ℕ × Data) → Members
members [] = no_members
members (f ∷ fs) = member f.0 f.1 (members fs)

-- the fields of a certificate, by ascending keys
abbrev pub fields : Cert → List (List ℕ × Data)
fields (Member gens ss target width) = (codes "gens", vectors gens) ∷ (codes "kind", kind_name kind.Member) ∷ (codes "steps", steps ss) ∷ (codes "target", list number target) ∷ (codes "width", number width) ∷ []
fields (NotMember gens rows target width) = (codes "gens", vectors gens) ∷ (codes "kind", kind_name kind.NotMember) ∷ (codes "rows", vectors rows) ∷ (codes "target", list number target) ∷ (codes "width", number width) ∷ []
fields (Listing gens origins ranks rows width) =
    (codes "gens", vectors gens) ∷ (codes "kind", kind_name kind.Listing) ∷ (codes "origins", steps origins) ∷ (codes "ranks", list number ranks)
    ∷ (codes "rows", vectors rows) ∷ (codes "width", number width) ∷ []
fields (Condition name k ss) = (codes "k", number k) ∷ (codes "kind", kind_name kind.Condition) ∷ (codes "name", condition_name name) ∷ (codes "steps", steps ss) ∷ []
fields (NoCondition name k rows) = (codes "k", number k) ∷ (codes "kind", kind_name kind.NoCondition) ∷ (codes "name", condition_name name) ∷ (codes "rows", vectors rows) ∷ []
fields (Chain name terms) = (codes "kind", kind_name kind.Chain) ∷ (codes "name", chain_name name) ∷ (codes "terms", list steps terms) ∷ []
fields (NoChain name rows even odd) = (codes "even", list number even) ∷ (codes "kind", kind_name kind.NoChain) ∷ (codes "name", chain_name name) ∷ (codes "odd", list number odd) ∷ (codes "rows", vectors rows) ∷ []

-- the value that a certificate is written as
abbrev pub data_of : Cert → Data
data_of c = json.object (members (fields c))

-- its text, on one line without blanks
abbrev pub written : Cert → List ℕ
written c = compact_text (data_of c)
