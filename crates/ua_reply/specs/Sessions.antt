-- What a session knows of the names that a script has introduced, and the bounds of a run.
use Rattle.std.specs.Prelude.{◌≡◌, ℕ, ◌<◌, nat_eq, List, length, take, find, slice_get, Option, None, MatchOption, ◌≤◌}
use Rattle.std.specs.List.{AllByRecursion}
use Rattle.std.specs.Cmp.Lexicographic.{pointwise}
use Rattle.ua_table.specs.Tables.{IsAlgebraTable}
use Rattle.ua_table.specs.declared.limits.TheConstants.{BUDGET}
use Rattle.ua_table.specs.declared.runs.Run.{Run}
use Rattle.ua_text.specs.declared.named.Block.{Block}
use Rattle.ua_reply.specs.declared.context.Context.{Context}
use Rattle.ua_reply.specs.declared.known.Holder.{Holder}
use Rattle.ua_reply.specs.declared.known.Holder.TheVariants.{Written, Made}

-- the block that is held
abbrev pub held : Holder → Block
held (Written block) = block.now
held (Made block) = block

-- what stands in each block is an algebra within the limits
abbrev pub AreAlgebras : List Block → Type 0
AreAlgebras s = AllByRecursion (λ (k : Block). IsAlgebraTable k.algebra) s

-- what the session knows of this name
abbrev pub lookup : List Block → List ℕ → Option Block
lookup s name = find (λ (k : Block). pointwise nat_eq k.algebra.name name) s

-- the first place of this name, or None where the session lacks it
abbrev pub IsPlace : List Block → List ℕ → Option ℕ → Type 0
IsPlace s name place = MatchOption place (lookup s name ≡ None) (λ i. (i < length s) × (slice_get s i ≡ lookup s name) × (lookup (take i s) name ≡ None))

-- so it is for each name
abbrev pub ArePlaces : List Block → (List ℕ → Option ℕ) → Type 0
ArePlaces s place = (name : List ℕ) → IsPlace s name (place name)

-- the budget and the number of workers of a run
pub record Bounds : Type 0 where
  pub budget : ℕ
  pub workers : ℕ

abbrev pub bounds_of : {G : Type 0} → Run G → Bounds
bounds_of run = record { budget = run.budget; workers = run.workers }

-- the bounds of the run that a command is answered in
abbrev pub run_bounds : {R G : Type 0} → Context R G → Bounds
run_bounds context = bounds_of context.run.now

-- a budget that a run may have
pub record AreBounds (b : Bounds) : Type 0 where
  pub some : 1 ≤ b.budget
  pub few : b.budget ≤ BUDGET
