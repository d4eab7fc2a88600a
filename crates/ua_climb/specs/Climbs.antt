-- What a search for a climb answers.
use Rattle.std.specs.Prelude.{ℕ, Bool, List}
use Rattle.ua_climb.specs.declared.ladders.Climb.{Climb}
use Rattle.ua_climb.specs.declared.ladders.Climb.TheVariants.{Rows, Reached}
use Rattle.ua_climb.specs.Ladders.{LinkLists, IsLeastClimb, HasNoClimb}

-- the rows of a least climb; or, where none leads to the end, the rows that are reached
abbrev pub TellsClimb : List Bool → LinkLists → LinkLists → ℕ → ℕ → Climb → Type 0
TellsClimb allowed even odd start end (Rows rows) = IsLeastClimb allowed even odd start end rows.items
TellsClimb allowed even odd start end (Reached at_even at_odd) = HasNoClimb allowed even odd start end at_even.items at_odd.items
