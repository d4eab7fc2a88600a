-- A kind of chain by the numbers of its patterns.
use Rattle.std.specs.Prelude.{◌≡◌, ℕ, suc, ◌+◌, ◌-◌, ◌<◌, ◌≤◌, ◌==◌, ◌&&◌, if◌then◌else◌, nat_eq, Bool, Option, Some, None, List, [], ◌∷◌, length, slice_index, slice_index_or}
use Rattle.std.specs.Option.{IfSome}
use Rattle.std.specs.Cmp.Lexicographic.{pointwise}
use Rattle.ua_identity.specs.Identities.{VariablePattern, TermIdentity}
use Rattle.ua_identity.specs.Chains.{Link, ChainKind}
use Rattle.ua_identity.specs.Kinds.{IsKind}
use Rattle.ua_identity.specs.Patterns.{start_of}
use Rattle.ua_identity.specs.declared.kinds.PatternPair.{PatternPair}
use Rattle.ua_identity.specs.declared.kinds.CoordinateRange.{CoordinateRange}

-- no pattern
abbrev pub blank : VariablePattern
blank = record { variables = 0; places = [] }

-- pattern m
abbrev pub pattern_at : List VariablePattern → ℕ → VariablePattern
pattern_at ps m = slice_index_or ps m blank

-- the number of a pattern among these
abbrev pub number_of : List VariablePattern → VariablePattern → ℕ
number_of [] p = 0
number_of (q ∷ ps) p = if (q.variables == p.variables) && pointwise nat_eq q.places p.places then 0 else suc (number_of ps p)

-- each term is at pattern m what stands at its place 0
abbrev pub own_of : List VariablePattern → Option ℕ → List TermIdentity
own_of ps None = []
own_of ps (Some m) = record { pattern = pattern_at ps m; value = slice_index (pattern_at ps m).places 0 } ∷ []

abbrev pub link_of : List VariablePattern → PatternPair → Link
link_of ps l = record { pattern = pattern_at ps l.first; next = pattern_at ps l.second }

-- the kind of these patterns and numbers, which ends at the last place
abbrev pub kind_of : ℕ → List VariablePattern → Option ℕ → PatternPair → PatternPair → Bool → ChainKind
kind_of places ps own even odd by_parity = record {
  places = places;
  end = places - 1;
  own = own_of ps own;
  even = link_of ps even;
  odd = link_of ps odd;
  patterns = ps;
  by_parity = by_parity;
}

-- the coordinates of pattern m: from where they begin to where those of the next would
pub record IsPartOf (n : ℕ) (ps : List VariablePattern) (m : ℕ) (part : CoordinateRange) : Type 0 where
  pub from_is : part.from ≡ start_of n ps m
  pub to_is : part.to ≡ start_of n ps (m + 1)

-- the numbers are those of patterns, which are few and different, and the kind's parts fit together
pub record IsKindTable (places : ℕ) (ps : List VariablePattern) (own : Option ℕ) (even odd : PatternPair) (by_parity : Bool) : Type 0 where
  pub kind : IsKind (kind_of places ps own even odd by_parity)
  pub few : length ps ≤ 3
  pub different : (m : ℕ) → m < length ps → number_of ps (pattern_at ps m) ≡ m
  pub own_named : IfSome own (λ m. m < length ps)
  pub even_first : even.first < length ps
  pub even_second : even.second < length ps
  pub odd_first : odd.first < length ps
  pub odd_second : odd.second < length ps
