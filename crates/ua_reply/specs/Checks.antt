-- The places where operands fail, as one value, and the errors that they are.
use Rattle.std.specs.Prelude.{◌≡◌, Bool, true, false, List, [], ◌∷◌, ◌++◌, map, Option, None, Some}
use Rattle.ua_text.specs.declared.tokens.Place.{Place}
use Rattle.ua_term.specs.Meanings.{first_place}
use Rattle.ua_text.specs.declared.named.Block.{Block}
use Rattle.ua_reply.specs.declared.checks.FirstErrors.{FirstErrors}
use Rattle.ua_reply.specs.declared.refusals.Refusal.{Refusal}
use Rattle.ua_reply.specs.declared.refusals.Refusal.TheVariants.{Unknown, Range, Shape}

-- the places of each kind of error, in the order of the text
pub record Checks : Type 0 where
  pub unknown : List Place
  pub range : List Place
  pub shape : List Place

-- nothing fails
abbrev pub passed : Checks
passed = record { unknown = []; range = []; shape = [] }

abbrev pub unknown_at : List Place → Checks
unknown_at places = record passed { unknown = places }

abbrev pub range_at : List Place → Checks
range_at places = record passed { range = places }

abbrev pub shape_at : List Place → Checks
shape_at places = record passed { shape = places }

-- the place, where the test fails
abbrev pub unless : Bool → Place → List Place
unless true place = []
unless false place = place ∷ []

-- the places of some operands, and then those of the operands behind them
infixl 5 ◌and◌
unfoldable pub ◌and◌ : Checks → Checks → Checks
a and b = record { unknown = a.unknown ++ b.unknown; range = a.range ++ b.range; shape = a.shape ++ b.shape }

-- what fails in each, in their order
abbrev pub all_in : {X : Type 0} → (X → Checks) → List X → Checks
all_in check [] = passed
all_in check (x ∷ xs) = check x and all_in check xs

-- the place of a name that the session lacks; else what fails in what it knows
abbrev pub checks_in : Option Block → Place → (Block → Checks) → Checks
checks_in None place checks = unknown_at (place ∷ [])
checks_in (Some k) place checks = checks k

-- no operand fails
pub record Passes (c : Checks) : Type 0 where
  pub unknown : c.unknown ≡ []
  pub range : c.range ≡ []
  pub shape : c.shape ≡ []

-- the errors, in the order in which they are tried
abbrev pub errors : Checks → List Refusal
errors c = map Unknown c.unknown ++ map Range c.range ++ map Shape c.shape

-- the first, where there is one
abbrev pub first_refusal : List Refusal → Option Refusal
first_refusal [] = None
first_refusal (r ∷ rs) = Some r

abbrev pub first_error : Checks → Option Refusal
first_error c = first_refusal (errors c)

-- the first place of each kind
pub record AreFirst (c : Checks) (e : FirstErrors) : Type 0 where
  pub unknown : e.unknown ≡ first_place c.unknown
  pub range : e.range ≡ first_place c.range
  pub shape : e.shape ≡ first_place c.shape
