-- Rows by their parts at the patterns of a kind.
use Rattle.std.specs.Prelude.{◌≡◌, ◌↔◌, ℕ, ◌<◌, ◌≤◌, ◌+◌, Bool, Option, Some, None, List, length, slice_get, slice_index}
use Rattle.std.specs.Option.{IfSome}
use Rattle.std.specs.List.{AllByRecursion}
use Rattle.ua_table.specs.Algebras.{Vector}
use Rattle.ua_climb.specs.Ladders.{LinkLists, Joins, IsAllowed}
use Rattle.ua_identity.specs.Identities.{VariablePattern}
use Rattle.ua_identity.specs.Chains.{ChainKind}
use Rattle.ua_term.specs.Assignments.{projection}
use Rattle.ua_identity.specs.Patterns.{all_fillings, part_of}
use Rattle.ua_identity.specs.declared.kinds.PatternPair.{PatternPair}
use Rattle.ua_identity.specs.KindTables.{pattern_at, own_of}

-- the part of a vector at pattern m
abbrev pub part_at : ℕ → List VariablePattern → ℕ → Vector → Vector
part_at n ps m v = part_of n ps m (pattern_at ps m) v

-- at pattern m, if one is named, the vector has what stands at place 0
abbrev pub HasOwnAt : ℕ → List VariablePattern → Option ℕ → Vector → Type 0
HasOwnAt n ps None v = Unit {0}
HasOwnAt n ps (Some m) v = part_at n ps m v ≡ projection n (pattern_at ps m).variables (slice_index (pattern_at ps m).places 0)

-- the allowed rows are those with what each term of the kind has
pub record AreOwnRows (n : ℕ) (kind : ChainKind) (vectors : List Vector) (allowed : List Bool) : Type 0 where
  pub number : Option ℕ
  pub own_is : kind.own ≡ own_of kind.patterns number
  pub named : IfSome number (λ m. m < length kind.patterns)
  pub count : length allowed ≡ length vectors
  pub rows : (i : ℕ) (v : Vector) → slice_get vectors i ≡ Some v → IsAllowed allowed i ↔ HasOwnAt n kind.patterns number v

-- a row leads to those of which the part at the second pattern is its part at the first
pub record AreLinksAt (n : ℕ) (ps : List VariablePattern) (pair : PatternPair) (vectors : List Vector) (links : LinkLists) : Type 0 where
  pub count : length links.leads ≡ length vectors
  pub few : links.classes ≤ length vectors + length vectors
  pub joins : (i j : ℕ) (v w : Vector) → slice_get vectors i ≡ Some v → slice_get vectors j ≡ Some w → Joins links i j ↔ (part_at n ps pair.first v ≡ part_at n ps pair.second w)

-- each vector has an entry for each filling
abbrev pub HaveWidth : ℕ → List VariablePattern → List Vector → Type 0
HaveWidth n ps vectors = AllByRecursion (λ (v : Vector). length v ≡ length (all_fillings n ps)) vectors
