-- What a certificate of any kind says, and its first flaw.
use Rattle.std.specs.Prelude.{Option}
use Rattle.ua_table.specs.Algebras.{FiniteAlgebra}
use Rattle.ua_cert.specs.declared.certs.Cert.{Cert}
use Rattle.ua_cert.specs.declared.certs.Cert.TheVariants.{Member, NotMember, Listing, Condition, NoCondition, Chain, NoChain}
use Rattle.ua_flaws.specs.declared.flaws.Flaw.{Flaw}
use Rattle.ua_flaws.specs.Flaws.{member_flaw, not_member_flaw, listing_flaw}
use Rattle.ua_flaws.specs.Properties.{WritesMember, IsNoMember, ListsAll}
use Rattle.ua_check.specs.Conditions.{condition_flaw, no_condition_flaw, WritesTerm, HasNoTerm}
use Rattle.ua_check.specs.Chains.{chain_flaw, WritesChain, HasNoChain}
use Rattle.ua_check.specs.Reached.{no_chain_flaw}

-- what the certificate says of the algebra
abbrev pub Holds : FiniteAlgebra → Cert → Type 0
Holds a (Member gens steps target width) = WritesMember a gens steps target width
Holds a (NotMember gens rows target width) = IsNoMember a gens target width
Holds a (Listing gens origins ranks rows width) = ListsAll a gens origins ranks rows width
Holds a (Condition name k steps) = WritesTerm a name k steps
Holds a (NoCondition name k rows) = HasNoTerm a name k
Holds a (Chain name terms) = WritesChain a name terms
Holds a (NoChain name rows even odd) = HasNoChain a name

-- its first flaw, where there is one
abbrev pub flaw_of : FiniteAlgebra → Cert → Option Flaw
flaw_of a (Member gens steps target width) = member_flaw a gens steps target width
flaw_of a (NotMember gens rows target width) = not_member_flaw a gens rows target width
flaw_of a (Listing gens origins ranks rows width) = listing_flaw a gens origins ranks rows width
flaw_of a (Condition name k steps) = condition_flaw a name k steps
flaw_of a (NoCondition name k rows) = no_condition_flaw a name k rows
flaw_of a (Chain name terms) = chain_flaw a name terms
flaw_of a (NoChain name rows even odd) = no_chain_flaw a name rows even odd
