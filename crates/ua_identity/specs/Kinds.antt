-- The kinds of chains.
use Rattle.std.specs.Prelude.{◌≡◌, ◌≢◌, ℕ, ◌<◌, true, false, [], ◌∷◌, length, Contains, List, slice_index}
use Rattle.std.specs.List.{AllByRecursion}
use Rattle.ua_table.specs.Counting.{numbers_below}
use Rattle.ua_identity.specs.Identities.{VariablePattern, TermIdentity, xxy, xyx, xyy}
use Rattle.ua_identity.specs.Chains.{Link, ChainKind}

-- the same pattern of a term and the next
abbrev pub alike : VariablePattern → Link
alike p = record { pattern = p; next = p }

-- d(x,y,x) = x; d(x,x,y) = e(x,x,y) from an even index on; d(x,y,y) = e(x,y,y) from an odd one (B. Jónsson, Algebras whose congruence lattices are distributive, 1967)
abbrev pub jonsson : ChainKind
jonsson = record {
  places = 3;
  end = 2;
  own = record { pattern = xyx; value = 0 } ∷ [];
  even = alike xxy;
  odd = alike xyy;
  patterns = xyx ∷ xxy ∷ xyy ∷ [];
  by_parity = true;
}

-- p(x,x,y) = q(x,y,y) (J. Hagemann and A. Mitschke, On n-permutable congruences, 1973)
abbrev pub hagemann_mitschke : ChainKind
hagemann_mitschke = record {
  places = 3;
  end = 2;
  own = [];
  even = record { pattern = xxy; next = xyy };
  odd = record { pattern = xxy; next = xyy };
  patterns = xxy ∷ xyy ∷ [];
  by_parity = false;
}

-- (x,y,y,x), (x,x,w,w) and (x,y,y,w)
abbrev pub xyyx : VariablePattern
xyyx = record { variables = 2; places = 0 ∷ 1 ∷ 1 ∷ 0 ∷ [] }

abbrev pub xxww : VariablePattern
xxww = record { variables = 2; places = 0 ∷ 0 ∷ 1 ∷ 1 ∷ [] }

abbrev pub xyyw : VariablePattern
xyyw = record { variables = 3; places = 0 ∷ 1 ∷ 1 ∷ 2 ∷ [] }

-- m(x,y,y,x) = x; m(x,x,w,w) = m'(x,x,w,w) from an even index on; m(x,y,y,w) = m'(x,y,y,w) from an odd one (A. Day, A characterization of modularity for congruence lattices of algebras, 1969)
abbrev pub day : ChainKind
day = record {
  places = 4;
  end = 3;
  own = record { pattern = xyyx; value = 0 } ∷ [];
  even = alike xxww;
  odd = alike xyyw;
  patterns = xyyx ∷ xxww ∷ xyyw ∷ [];
  by_parity = true;
}

-- a pattern fills so many places with its variables
pub record IsPatternOf (places : ℕ) (p : VariablePattern) : Type 0 where
  pub count : length p.places ≡ places
  pub named : AllByRecursion (λ v. v < p.variables) p.places

-- an identity that place 0 and the end satisfy
pub record IsOwnIdentity (kind : ChainKind) (i : TermIdentity) : Type 0 where
  pub pattern : IsPatternOf kind.places i.pattern
  pub value : i.value < i.pattern.variables
  pub first : slice_index i.pattern.places 0 ≡ i.value
  pub last : slice_index i.pattern.places kind.end ≡ i.value

-- a link between patterns of the same variables
pub record IsLink (places : ℕ) (l : Link) : Type 0 where
  pub pattern : IsPatternOf places l.pattern
  pub next : IsPatternOf places l.next
  pub same : l.pattern.variables ≡ l.next.variables

-- at some pattern different variables stand at the two places
pub record AreApart (ps : List VariablePattern) (i j : ℕ) : Type 0 where
  pub pattern : VariablePattern
  pub there : Contains ps pattern
  pub apart : slice_index pattern.places i ≢ slice_index pattern.places j

-- a kind whose parts fit together: place 0 and the end satisfy what each term does, and no earlier place is like the end at all patterns
pub record IsKind (kind : ChainKind) : Type 0 where
  pub some : 0 < kind.end
  pub end : kind.end < kind.places
  pub own : AllByRecursion (IsOwnIdentity kind) kind.own
  pub even : IsLink kind.places kind.even
  pub odd : IsLink kind.places kind.odd
  pub patterns : AllByRecursion (IsPatternOf kind.places) kind.patterns
  pub apart : AllByRecursion (λ j. AreApart kind.patterns j kind.end) (numbers_below kind.end)
