-- What a search answers.
use Rattle.std.specs.Prelude.{ℕ, List}
use Rattle.ua_climb.specs.declared.searches.Found.{Found}
use Rattle.ua_climb.specs.declared.searches.Found.TheVariants.{Walk, Reached}
use Rattle.ua_climb.specs.Networks.{Network}
use Rattle.ua_climb.specs.inner.Networks.{IsLeastWalk, HasNoWalk}

-- a least walk to one of the ends; or, where none is reached, the states that are
abbrev pub TellsWalk : Network → ℕ → List ℕ → Found → Type 0
TellsWalk g start ends (Walk states) = IsLeastWalk g start ends states.items
TellsWalk g start ends (Reached marks) = HasNoWalk g start ends marks.items
