-- How long the lists of a certificate are.
use Rattle.std.specs.Prelude.{ℕ, ◌<◌, ◌^◌, List, length}
use Rattle.std.specs.List.{AllByRecursion}
use Rattle.ua_cert.specs.declared.certs.CertStep.{CertStep}
use Rattle.ua_cert.specs.declared.certs.Cert.{Cert}
use Rattle.ua_cert.specs.declared.certs.Cert.TheVariants.{Member, NotMember, Listing, Condition, NoCondition, Chain, NoChain}

-- a list whose items can be numbered in 32 bits
abbrev pub IsShort : {X : Type 0} → List X → Type 0
IsShort xs = length xs < 2 ^ 32

-- the lists of the certificate can be so numbered
abbrev pub HasShortLists : Cert → Type 0
HasShortLists (Member gens steps target width) = IsShort gens × IsShort steps
HasShortLists (NotMember gens rows target width) = IsShort gens × IsShort rows
HasShortLists (Listing gens origins ranks rows width) = IsShort gens × IsShort origins × IsShort ranks × IsShort rows
HasShortLists (Condition name k steps) = IsShort steps
HasShortLists (NoCondition name k rows) = IsShort rows
HasShortLists (Chain name terms) = IsShort terms × AllByRecursion IsShort terms
HasShortLists (NoChain name rows even odd) = IsShort rows × IsShort even × IsShort odd

-- ---- all lists, inner lists included

-- a list of fewer than n items
abbrev pub IsBelow : ℕ → {X : Type 0} → List X → Type 0
IsBelow n xs = length xs < n

-- so are a list of vectors, and each of them
abbrev pub AreBelow : ℕ → List (List ℕ) → Type 0
AreBelow n vs = IsBelow n vs × AllByRecursion (IsBelow n) vs

-- so are a list of steps, and the numbers of each of them
abbrev pub StepsBelow : ℕ → List CertStep → Type 0
StepsBelow n steps = IsBelow n steps × AllByRecursion (λ s. IsBelow n s.args) steps

-- so are a list of terms, and the steps of each of them
abbrev pub TermsBelow : ℕ → List (List CertStep) → Type 0
TermsBelow n terms = IsBelow n terms × AllByRecursion (StepsBelow n) terms

-- so is each list in the certificate
abbrev pub HasListsBelow : ℕ → Cert → Type 0
HasListsBelow n (Member gens steps target width) = AreBelow n gens × StepsBelow n steps × IsBelow n target
HasListsBelow n (NotMember gens rows target width) = AreBelow n gens × AreBelow n rows × IsBelow n target
HasListsBelow n (Listing gens origins ranks rows width) = AreBelow n gens × StepsBelow n origins × IsBelow n ranks × AreBelow n rows
HasListsBelow n (Condition name k steps) = StepsBelow n steps
HasListsBelow n (NoCondition name k rows) = AreBelow n rows
HasListsBelow n (Chain name terms) = TermsBelow n terms
HasListsBelow n (NoChain name rows even odd) = AreBelow n rows × IsBelow n even × IsBelow n odd
