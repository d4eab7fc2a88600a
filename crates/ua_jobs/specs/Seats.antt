-- What contracts see of a queue of job numbers and of a pass.
use Rattle.std.specs.Prelude.{ℕ}
use Rattle.atomic_table.specs.Seated.{TableId}
use Rattle.ua_jobs.specs.declared.views.View.{View}
use Rattle.ua_jobs.specs.Rule.{first_view}

-- a pass: which queue it is of, and what it knows
pub record PassView : Type 0 where
  pub queue : TableId
  pub own : View

-- the first pass of a queue, in a batch of so many jobs
abbrev pub first_pass : TableId → ℕ → PassView
first_pass id jobs = record { queue = id; own = first_view jobs }

-- the pass with another view
abbrev pub with_view : PassView → View → PassView
with_view p v = record p { own = v }
