-- A source and a sink in memory: what they still have to give or have taken, and what one call changes.
use Rattle.std.specs.Prelude.{ℕ, List}

-- a source in memory: the bytes not yet given, the most that one call gives, the calls that fail, how many calls there were, and how many failed
pub record Supply : Type 0 where
  pub left : List ℕ
  pub most : ℕ
  pub fails : List ℕ
  pub calls : ℕ
  pub faults : ℕ

-- a sink in memory: the bytes written, how many more there is room for, the most that one call takes, the calls that fail, how many calls there were, and how many failed
pub record Store : Type 0 where
  pub written : List ℕ
  pub room : ℕ
  pub most : ℕ
  pub fails : List ℕ
  pub calls : ℕ
  pub faults : ℕ
