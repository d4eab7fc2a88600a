-- What a worker has at the end of its run, and what a batch answers.
use Rattle.std.specs.Prelude.{◌≡◌, ◌⊎◌, ℕ, suc, List, [], ◌∷◌, ◌++◌, map, Result, Ok, Some, slice_get}
use Rattle.std.specs.List.{AllByRecursion}
use Rattle.ua_jobs.specs.declared.serving.ServeEnd.{ServeEnd}
use Rattle.ua_jobs.specs.declared.serving.ServeEnd.TheVariants as ends
use Rattle.ua_jobs.specs.declared.serving.Served.{Served}
use Rattle.ua_jobs.specs.Moves.{HasAll, IsLeft}
use Rattle.ua_jobs.specs.Seats.{PassView, with_view}

-- ---- answers

-- the numbers of the jobs that were answered
abbrev pub numbers_of : {O : Type 0} → List (ℕ × O) → List ℕ
numbers_of {O} answers = map (λ (a : ℕ × O). a.0) answers

-- answers in the order of the jobs, each with the number of its job, from this number on
abbrev pub numbered : {O : Type 0} → ℕ → List O → List (ℕ × O)
numbered number [] = []
numbered number (o ∷ os) = (number, o) ∷ numbered (suc number) os

-- each answer is one that the job with its number may get
abbrev pub AreAnswers : {O : Type 0} → (ℕ → O → Type 0) → List (ℕ × O) → Type 0
AreAnswers {O} permits answers = AllByRecursion (λ (a : ℕ × O). permits a.0 a.1) answers

-- what a call of the work with a number may answer
abbrev pub MayGive : {F O E : Type 0} → (F → ℕ → Result O E → Type 0) → F → ℕ → O → Type 0
MayGive post work number out = post work number (Ok out)

-- what the job with this number may be answered
pub record IsAnswer {J O : Type 0} (permits : J → O → Type 0) (jobs : List J) (number : ℕ) (out : O) : Type 0 where
  pub job : J
  pub there : slice_get jobs number ≡ Some job
  pub permitted : permits job out

-- as many answers as jobs, each one that its job may get
abbrev pub AnswerEach : {J O : Type 0} → (J → O → Type 0) → List J → List O → Type 0
AnswerEach permits [] [] = Unit {0}
AnswerEach permits [] (o ∷ os) = ⊥
AnswerEach permits (j ∷ js) [] = ⊥
AnswerEach permits (j ∷ js) (o ∷ os) = permits j o × AnswerEach permits js os

-- ---- the end of a run

-- the answers are those of all numbers that the pass took, in order
abbrev pub AnswersAll : {O : Type 0} → List (ℕ × O) → PassView → Type 0
AnswersAll answers p = numbers_of answers ≡ p.own.taken

-- the answers are those of all numbers that the pass took, in order, but for the last
pub record LacksLast {O : Type 0} (answers : List (ℕ × O)) (p : PassView) : Type 0 where
  pub last : ℕ
  pub taken : p.own.taken ≡ numbers_of answers ++ last ∷ []

-- what the end of a run tells, by the pass handed in
abbrev pub EndTells : {O : Type 0} → PassView → ServeEnd → List (ℕ × O) → PassView → Type 0
-- the queue was found empty: the first pass, where no pass but those that it joined was made, has taken each number that it pushed, once
EndTells old ends.Empty answers new = AnswersAll answers new × (HasAll old.own → IsLeft new.own [])
-- memory ran out: the last number taken may lack its answer
EndTells old ends.OutOfMemory answers new = AnswersAll answers new ⊎ LacksLast answers new

-- a harvest: the pass is the one handed in but for what it took, and the answers are those of the jobs that it took
pub record IsHarvest {O : Type 0} (old : PassView) (served : Served O) : Type 0 where
  pub pass : served.pass ≡ with_view old (record old.own { taken = served.pass.own.taken })
  pub told : EndTells old served.end served.answers.items served.pass
