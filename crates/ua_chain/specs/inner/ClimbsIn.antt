-- Climbs over the rows of a closed listing.
use Rattle.std.specs.Prelude.{◌≡◌, ℕ, ◌<◌, Bool, List, length}
use Rattle.ua_table.specs.Algebras.{Vector}
use Rattle.ua_climb.specs.declared.ladders.Climb.{Climb}
use Rattle.ua_climb.specs.Ladders.{LinkLists}
use Rattle.ua_climb.specs.Climbs.{TellsClimb}
use Rattle.ua_identity.specs.Chains.{ChainKind}
use Rattle.ua_identity.specs.declared.kinds.PatternPair.{PatternPair}
use Rattle.ua_identity.specs.KindTables.{link_of}
use Rattle.ua_chain.specs.inner.RowsOf.{AreOwnRows, AreLinksAt}

-- the answer of a search over the rows that have what each term of the kind has, with the links of the kind
pub record IsClimbIn (n : ℕ) (kind : ChainKind) (vectors : List Vector) (start end : ℕ) (climb : Climb) : Type 0 where
  pub allowed : List Bool
  pub even : LinkLists
  pub odd : LinkLists
  pub even_pair : PatternPair
  pub odd_pair : PatternPair
  pub own : AreOwnRows n kind vectors allowed
  pub even_is : kind.even ≡ link_of kind.patterns even_pair
  pub odd_is : kind.odd ≡ link_of kind.patterns odd_pair
  pub even_links : AreLinksAt n kind.patterns even_pair vectors even
  pub odd_links : AreLinksAt n kind.patterns odd_pair vectors odd
  pub even_first : even_pair.first < length kind.patterns
  pub even_second : even_pair.second < length kind.patterns
  pub odd_first : odd_pair.first < length kind.patterns
  pub odd_second : odd_pair.second < length kind.patterns
  pub climbs : TellsClimb allowed even odd start end climb
