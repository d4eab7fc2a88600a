-- The parts of a state, and what they hold on the way.
use Rattle.std.specs.Prelude.{◌≡◌, ℕ, ◌<◌, false, map, vec_capacity, vec_len, Some, slice_get}
use Rattle.ua_core.specs.declared.hands.Hand.{Hand}
use Rattle.ua_core.specs.declared.parts.Parts.{Parts}
use Rattle.ua_core.specs.Machines.{Task, Worker}
use Rattle.ua_core.specs.States.{IsStateOf, worker_of, state_of, HasScratch}

-- it has room for one more place
abbrev pub HasRoom : Hand → Type 0
HasRoom h = vec_len h.puts < vec_capacity h.puts

-- the parts of a state of this task
pub record IsReady (t : Task) (a : Parts) : Type 0 where
  pub state : IsStateOf t (state_of a)
  pub scratch : HasScratch a

-- or of some task
pub record IsOfTask (a : Parts) : Type 0 where
  pub task : Task
  pub ready : IsReady task a

-- the n-th worker was made, and not taken in
pub record IsLive (a : Parts) (n : ℕ) : Type 0 where
  pub worker : Worker
  pub stands : slice_get (map worker_of a.hands.items) n ≡ Some worker
  pub live : worker.joined ≡ false

-- all but the machine is the same
pub record SameFrame (a new : Parts) : Type 0 where
  pub width : new.rows.width ≡ a.rows.width
  pub shape : new.shape ≡ a.shape
  pub budget : new.budget ≡ a.budget
  pub scratch : HasScratch a → HasScratch new
