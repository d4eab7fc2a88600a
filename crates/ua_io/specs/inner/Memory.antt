-- A source and a sink in memory: what they still have to give or have taken, and what one call changes: what private functions say.
use Rattle.std.specs.Prelude.{◌≡◌, ◌⊎◌, ℕ, ◌+◌, ◌-◌, ◌^◌, ◌<◌, min, List, length, Result, Ok, Err, Contains}
use Rattle.ua_io.specs.Memory.{Supply, Store}

-- one more, up to the last value of a `u64`
abbrev pub counted_on : ℕ → ℕ
counted_on n = min (n + 1) (2 ^ 64 - 1)

-- one call later, with the same plan
pub record IsNextSupply (old new : Supply) : Type 0 where
  pub calls : new.calls ≡ counted_on old.calls
  pub fails : new.fails ≡ old.fails
  pub most : new.most ≡ old.most

pub record IsNextStore (old new : Store) : Type 0 where
  pub calls : new.calls ≡ counted_on old.calls
  pub fails : new.fails ≡ old.fails
  pub most : new.most ≡ old.most

-- the call of this number is one of those that fail
abbrev pub SupplyFails : Supply → Type 0
SupplyFails s = Contains s.fails s.calls

-- the call of this number is one of those that fail, or there is a byte to write and no room for it
abbrev pub StoreFails : Store → List ℕ → Type 0
StoreFails s piece = Contains s.fails s.calls ⊎ ((s.room ≡ 0) × (0 < length piece))

-- the count of faults goes on by an error, and stands still without one
abbrev pub IsCounted : {T E : Type 0} → ℕ → ℕ → Result T E → Type 0
IsCounted before after (Ok x) = after ≡ before
IsCounted before after (Err e) = after ≡ counted_on before

-- the room is as before, less what was taken
abbrev pub IsRoomLeft : {E : Type 0} → ℕ → ℕ → Result ℕ E → Type 0
IsRoomLeft before after (Ok n) = after + n ≡ before
IsRoomLeft before after (Err e) = after ≡ before
