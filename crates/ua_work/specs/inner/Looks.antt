-- What a worker's looks for the next record tell.
use Rattle.std.specs.Prelude.{◌≡◌, ℕ, ◌<◌, Bool, true, false, List, length, Option, None, Some}
use Rattle.ua_table.specs.declared.origins.Origin.{Origin}
use Rattle.ua_log.specs.declared.views.Plan.{Plan}
use Rattle.ua_log.specs.Rule.{MayStand}
use Rattle.ua_log.specs.Moves.{sees}
use Rattle.ua_log.specs.Seats.{SeatView, with_worker}

-- the seat that was s is as it was, but for the places that it found empty
pub record HasMissed (s t : SeatView) : Type 0 where
  pub misses : List ℕ
  pub same : t ≡ with_worker s (record s.own { misses = misses })

-- what looks for the next record answer, where the seat was s and is t
abbrev pub LooksTell : Plan → SeatView → Option Origin → SeatView → Type 0
LooksTell p s None t = HasMissed s t
LooksTell p s (Some o) t = MayStand p (length s.own.seen) o × HasMissed (with_worker s (sees s.own o)) t

-- and what they come to, where the worker goes on: it has seen a record more, which stands below the budget, or none
abbrev pub HasLooked : ℕ → SeatView → SeatView → Bool → Type 0
HasLooked budget s t true = (length s.own.seen < length t.own.seen) × (length s.own.seen < budget)
HasLooked budget s t false = HasMissed s t
