-- What the calls of a closure may answer: with the refusals, for a product, generators, a budget and a number of workers.
use Rattle.std.specs.Prelude.{◌≡◌, ◌≢◌, ℕ, List, Result, Ok, Err}
use Rattle.ua_table.specs.Algebras.{Vector, Product}
use Rattle.ua_close.specs.declared.close.Closure.{Closure}
use Rattle.ua_close.specs.declared.close.CloseError.{CloseError}
use Rattle.ua_work.specs.declared.goals.Goal.{Goal}
use Rattle.ua_close.specs.declared.memberships.Answer.{Answer}
use Rattle.ua_close.specs.declared.reaches.Reach.{Reach}
use Rattle.ua_close.specs.declared.sizes.Size.{Size}
use Rattle.ua_close.specs.Answers.{Answers, IsSerialAnswer, IsWide, IsCause}
use Rattle.ua_close.specs.Memberships.{Tells, IsSerialMembership}
use Rattle.ua_close.specs.Reaches.{Reaches, IsSerialReach, IsJustMet}
use Rattle.ua_close.specs.Sizes.{IsSize}

-- a closed or an exceeding listing, serial with one worker; a closure that is too wide is refused
abbrev pub MayClose : Product → List Vector → ℕ → ℕ → Result Closure CloseError → Type 0
MayClose p gens b w (Ok closure) = (¬ IsWide p gens b) × Answers p gens b closure × (w ≡ 1 → IsSerialAnswer p gens closure)
MayClose p gens b w (Err error) = IsCause p gens b error

-- a listing that meets the goal, or a closed or an exceeding one that does not; with one worker it is serial, and no shorter one meets the goal
abbrev pub MayReach : Product → List Vector → Goal → ℕ → ℕ → Result Reach CloseError → Type 0
MayReach p gens goal b w (Ok reach) = (¬ IsWide p gens b) × Reaches p gens goal b reach × (w ≡ 1 → IsSerialReach p gens reach × IsJustMet goal reach)
MayReach p gens goal b w (Err error) = IsCause p gens b error

-- steps to the vector, or a listing that lacks it; with one worker its rows or steps are serial
abbrev pub MayMember : Product → List Vector → Vector → ℕ → ℕ → Result Answer CloseError → Type 0
MayMember p gens v b w (Ok answer) = (¬ IsWide p gens b) × Tells p gens v b answer × (w ≡ 1 → IsSerialMembership p gens v b answer)
MayMember p gens v b w (Err error) = IsCause p gens b error

-- the size of some closure that may be answered
abbrev pub MayCount : Product → List Vector → ℕ → ℕ → Result Size CloseError → Type 0
MayCount p gens b w (Ok size) = (¬ IsWide p gens b) × IsSize p gens b w size
MayCount p gens b w (Err error) = IsCause p gens b error

-- the call may be answered otherwise than by this error
pub record IsAnswerable {A E : Type 0} (May : Result A E → Type 0) (error : E) : Type 0 where
  pub answer : Result A E
  pub permitted : May answer
  pub told : answer ≢ Err error
