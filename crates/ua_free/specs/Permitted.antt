-- What the calls may answer, with their refusals.
use Rattle.std.specs.Prelude.{◌≡◌, ℕ, ◌^◌, ◌<◌, ◌≤◌, Option, Some, None, Result, Ok, Err, Vec}
use Rattle.std.specs.declared.alloc.Global.{Global}
use Rattle.ua_table.specs.declared.limits.TheConstants.{ASSIGNMENTS}
use Rattle.ua_table.specs.Algebras.{FiniteAlgebra}
use Rattle.ua_table.specs.Terms.{Tree}
use Rattle.ua_term.specs.Assignments.{projections, power_of_assignments}
use Rattle.ua_close.specs.declared.close.Closure.{Closure}
use Rattle.ua_close.specs.declared.close.CloseError.{CloseError}
use Rattle.ua_close.specs.Permitted.{MayClose}
use Rattle.ua_free.specs.declared.identities.HoldsError.{HoldsError}
use Rattle.ua_free.specs.declared.identities.HoldsError.TheVariants.{Wide, OutOfMemory}
use Rattle.ua_free.specs.Identities.{variables_in, Holds, FailsFirst}

-- what the closure of the projections to k variables may answer, in the power with a coordinate for each assignment
abbrev pub MayFree : FiniteAlgebra → ℕ → ℕ → ℕ → Result Closure CloseError → Type 0
MayFree a k b w result = MayClose (power_of_assignments a k) (projections a.size k) b w result

-- how many assignments an identity has
abbrev pub assignments_of : FiniteAlgebra → Tree → Tree → ℕ
assignments_of a s t = a.size ^ variables_in s t

-- that the identity holds, or the first assignment that fails; an identity with too many assignments is refused
abbrev pub MayHold : FiniteAlgebra → Tree → Tree → Result (Option (Vec ℕ Global)) HoldsError → Type 0
MayHold a s t (Ok None) = (assignments_of a s t ≤ ASSIGNMENTS) × Holds a (variables_in s t) s t
MayHold a s t (Ok (Some xs)) = (assignments_of a s t ≤ ASSIGNMENTS) × FailsFirst a (variables_in s t) s t xs.items
MayHold a s t (Err (Wide n)) = (ASSIGNMENTS < n) × (n ≡ assignments_of a s t)
MayHold a s t (Err OutOfMemory) = Unit {0}
