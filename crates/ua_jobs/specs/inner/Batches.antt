-- The passes of a batch.
use Rattle.std.specs.Prelude.{◌≡◌, ℕ, suc, ◌<◌, List, [], length, slice_index_or}
use Rattle.atomic_table.specs.Seated.{TableId}
use Rattle.ua_table.specs.Counting.{times, total}
use Rattle.ua_jobs.specs.declared.views.View.{View}
use Rattle.ua_jobs.specs.declared.serving.Served.{Served}
use Rattle.ua_jobs.specs.Seats.{PassView}
use Rattle.ua_jobs.specs.declared.batches.Turn.{Turn}
use Rattle.ua_jobs.specs.Harvests.{IsHarvest, AreAnswers}

-- a pass other than the first, which has taken nothing
pub record IsUnused (queue : TableId) (jobs : ℕ) (p : PassView) : Type 0 where
  pub queue_is : p.queue ≡ queue
  pub jobs_are : p.own.jobs ≡ jobs
  pub taken : p.own.taken ≡ []
  pub other : p.own.made ≡ 0

-- the first pass, which has taken nothing itself, and made so many others
pub record IsReady (queue : TableId) (jobs others : ℕ) (p : PassView) : Type 0 where
  pub queue_is : p.queue ≡ queue
  pub jobs_are : p.own.jobs ≡ jobs
  pub taken : p.own.taken ≡ []
  pub made : p.own.made ≡ suc others

-- the harvest of a worker whose pass was not the first
pub record IsOtherHarvest {O : Type 0} (queue : TableId) (jobs : ℕ) (served : Served O) : Type 0 where
  pub began : PassView
  pub unused : IsUnused queue jobs began
  pub harvest : IsHarvest began served

-- the harvest of a run of this pass, of which each answer is permitted
abbrev pub IsPermittedHarvest : {O : Type 0} → (ℕ → O → Type 0) → PassView → Served O → Type 0
IsPermittedHarvest {O} permits pass served = IsHarvest pass served × AreAnswers permits served.answers.items

-- so are these, of the turns in order
abbrev pub ArePermittedHarvests : {O : Type 0} → (ℕ → O → Type 0) → List Turn → List (Served O) → Type 0
ArePermittedHarvests {O} permits turns harvests = (i : ℕ) (t : Turn) (d : Served O) → i < length turns
    → IsPermittedHarvest permits (slice_index_or turns i t).pass (slice_index_or harvests i d)

-- how often a job number stands in the taken lists of the passes that were joined
abbrev pub joined_times : ℕ → View → ℕ
joined_times x v = total (λ t. times x t.taken) v.joined
