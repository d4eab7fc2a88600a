-- Buckets that are free, and buckets that are entered.
use Rattle.std.specs.Prelude.{◌≡◌, ℕ, ◌+◌, ◌-◌, ◌<◌, List, length, slice_get, Some}
use Rattle.ua_rows.specs.declared.index.Entry.{Entry}
use Rattle.ua_rows.specs.Indexing.{IsBehind, IsFree, free_in, AreTaken, Has, IsEntryOf, AllTaken}

-- a bucket is the first free one from bucket s on
pub record IsFirstFree (buckets : List Entry) (s bucket : ℕ) : Type 0 where
  pub steps : ℕ
  pub old : Entry
  pub few : steps < length buckets
  pub behind : IsBehind (length buckets) s steps bucket
  pub there : slice_get buckets bucket ≡ Some old
  pub free : IsFree old
  pub before : AreTaken buckets s steps

-- the buckets hold one entry more
pub record IsEntered (before after : List Entry) (entry : Entry) : Type 0 where
  pub count : length after ≡ length before
  pub free : free_in after + 1 ≡ free_in before
  pub entered : Has after entry
  pub kept : (e : Entry) → ¬ IsFree e → Has before e → Has after e
  pub entries : (hashes : List ℕ) → IsEntryOf hashes entry → AllTaken (IsEntryOf hashes) before → AllTaken (IsEntryOf hashes) after
