-- The kinds of chains that have names.
use Rattle.ua_identity.specs.Chains.{ChainKind}
use Rattle.ua_identity.specs.Kinds as kinds
use Rattle.ua_chain.specs.declared.least_chains.NamedKind.{NamedKind}
use Rattle.ua_chain.specs.declared.least_chains.NamedKind.TheVariants.{Jonsson, HagemannMitschke, Day}

-- the kind of this name
abbrev pub kind_named : NamedKind → ChainKind
kind_named Jonsson = kinds.jonsson
kind_named HagemannMitschke = kinds.hagemann_mitschke
kind_named Day = kinds.day
