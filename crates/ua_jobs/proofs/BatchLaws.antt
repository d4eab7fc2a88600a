-- What the pushes, the harvests and the answers of a batch make together.
use Rattle.std.proofs.Common.{◌≡◌, ℕ, suc, ◌+◌, ◌<◌, List, [], ◌∷◌, ◌++◌, length, sym, ap, ◌∙◌, subst, arith, add-one}
use Rattle.std.specs.Prelude.{slice_index_or}
use Rattle.std.specs.List.{AllByRecursion, flat_map}
use Rattle.std.proofs.lemmas.List.{map-append}
use Rattle.atomic_table.specs.Seated.{TableId}
use Rattle.ua_table.specs.Counting.{total, times, once_below, EachOnceBelow}
use Rattle.ua_table.proofs.Counts.{once-suc, once_within, times-append, times_push, total_push}
use Rattle.ua_table.proofs.Lists.{all_append, all_weaker, all_push}
use Rattle.ua_jobs.specs.declared.views.View.{View}
use Rattle.ua_jobs.specs.declared.views.Taking.{Taking}
use Rattle.ua_jobs.specs.declared.batches.Turn.{Turn}
use Rattle.ua_jobs.specs.declared.serving.ServeEnd.{ServeEnd}
use Rattle.ua_jobs.specs.declared.serving.ServeEnd.TheVariants as ends
use Rattle.ua_jobs.specs.declared.serving.Served.{Served}
use Rattle.ua_jobs.specs.Rule.{taken_times}
use Rattle.ua_jobs.specs.Moves.{HasAll, pushed, joined}
use Rattle.ua_jobs.specs.Seats.{PassView, with_view}
use Rattle.ua_jobs.specs.Harvests.{AreAnswers, IsHarvest, EndTells, numbers_of}
use Rattle.ua_jobs.specs.inner.Batches.{IsUnused, IsReady, IsOtherHarvest, joined_times}
use Rattle.ua_jobs.proofs.Places.{all_from_times}

-- ---- the pushes

-- the next number was pushed, or kept
pub pushed_next : (n : ℕ) (xs kept : List ℕ) → EachOnceBelow n (xs ++ kept) → EachOnceBelow (n + 1) ((xs ++ n ∷ []) ++ kept)
pushed_next n xs kept h k =
    let next = once-suc n k in
    let e = ap (λ m. once_below m k) (add-one n) in
    omega (arith, h k, next, e, times-append k (xs ++ n ∷ []) kept, times_push k xs n, times-append k xs kept)

pub kept_next : (n : ℕ) (xs kept : List ℕ) → EachOnceBelow n (xs ++ kept) → EachOnceBelow (n + 1) (xs ++ (kept ++ n ∷ []))
kept_next n xs kept h k =
    let next = once-suc n k in
    let e = ap (λ m. once_below m k) (add-one n) in
    omega (arith, h k, next, e, times-append k xs (kept ++ n ∷ []), times_push k kept n, times-append k xs kept)

pub above_next : (n : ℕ) (xs : List ℕ) → AllByRecursion (λ x. x < n) xs → AllByRecursion (λ x. x < n + 1) xs
above_next n xs a = all_weaker (λ x. x < n) (λ x. x < n + 1) (λ x h. omega (arith, h)) xs a

pub above_pushed : (n : ℕ) (xs : List ℕ) → AllByRecursion (λ x. x < n) xs → AllByRecursion (λ x. x < n + 1) (xs ++ n ∷ [])
above_pushed n xs a = all_push (λ x. x < n + 1) xs n (above_next n xs a) (omega arith)

-- what was kept are numbers of jobs
pub kept_below : (n : ℕ) (xs kept : List ℕ) → EachOnceBelow n (xs ++ kept) → AllByRecursion (λ x. x < n) kept
kept_below n xs kept h = all_from_times (λ x. x < n) kept (λ y p. once_within n y (omega (arith, p, h y, times-append y xs kept)))

-- ---- the harvests

-- a worker that found the queue empty has answered all that it took
pub taken_of_harvest : {O : Type 0} (old : PassView) (served : Served O) → IsHarvest old served → served.end ≡ ends.Empty → numbers_of served.answers.items ≡ served.pass.own.taken
taken_of_harvest old served h empty = (subst (λ (e : ServeEnd). EndTells old e served.answers.items served.pass) empty h.told).0

module _ {O : Type 0} (queue : TableId) (jobs : ℕ) (permits : ℕ → O → Type 0) where
  -- what each worker brings, by its place
  abbrev pub Brings : List Turn → List (Served O) → Type 0
  Brings turns hs = (i : ℕ) (t : Turn) (d : Served O) → i < length turns → IsHarvest (slice_index_or turns i t).pass (slice_index_or hs i d) × AreAnswers permits (slice_index_or hs i d).answers.items

  pub other_harvests : (turns : List Turn) (hs : List (Served O)) → length hs ≡ length turns → AllByRecursion (λ (t : Turn). IsUnused queue jobs t.pass) turns → Brings turns hs → AllByRecursion (IsOtherHarvest queue jobs) hs
  other_harvests [] [] e a h = tt
  other_harvests [] (d ∷ ds) e a h = absurd (omega (arith, e))
  other_harvests (t ∷ ts) [] e a h = tt
  other_harvests (t ∷ ts) (d ∷ ds) e a h = (
    record { began = t.pass; unused = a.0; harvest = (h 0 t d (omega arith)).0 },
    other_harvests ts ds (omega (arith, e)) a.1 (λ i u f l. h (suc i) u f (omega (arith, l))),
  )

  pub answers_together : (turns : List Turn) (hs : List (Served O)) → length hs ≡ length turns → Brings turns hs → AreAnswers permits (flat_map (λ (s : Served O). s.answers.items) hs)
  answers_together [] [] e h = tt
  answers_together [] (d ∷ ds) e h = absurd (omega (arith, e))
  answers_together (t ∷ ts) [] e h = tt
  answers_together (t ∷ ts) (d ∷ ds) e h =
      all_append _ d.answers.items (flat_map (λ (s : Served O). s.answers.items) ds) (h 0 t d (omega arith)).1 (answers_together ts ds (omega (arith, e)) (λ i u f l. h (suc i) u f (omega (arith, l))))

-- the numbers in the taken lists, with those that were kept, are those of all jobs, each once
pub all_once : {O : Type 0} (queue : TableId) (first : PassView) (kept : List ℕ) (served : Served O) → IsReady queue first.own.jobs (length first.own.joined) first → EachOnceBelow first.own.jobs (first.own.pushed ++ kept)
    → IsHarvest first served → served.end ≡ ends.Empty → (x : ℕ) → taken_times x served.pass.own + times x kept ≡ once_below first.own.jobs x
all_once queue first kept served ready once h empty x =
    let told = subst (λ (e : ServeEnd). EndTells first e served.answers.items served.pass) empty h.told in
    let has : HasAll first.own = record { first = omega (arith, ready.made); all = ready.made } in
    let left = told.1 has x in
    let same = ap (λ (p : PassView). times x p.own.pushed) h.pass in
    omega (arith, left, same, once x, times-append x first.own.pushed kept)

-- a pass joined adds what it took
pub joined_more : {O : Type 0} (x : ℕ) (v w : View) (answers own : List (ℕ × O)) → times x (numbers_of answers) ≡ joined_times x v → numbers_of own ≡ w.taken
    → times x (numbers_of (answers ++ own)) ≡ joined_times x (joined v w)
joined_more {O} x v w answers own h e =
    let a = ap (times x) (map-append (λ (a : ℕ × O). a.0) answers own) in
    let new : Taking = record { number = w.number; taken = w.taken } in
    let b = ap (times x) e in
    omega (arith, a, b, h, times-append x (numbers_of answers) (numbers_of own), total_push (λ (t : Taking). times x t.taken) v.joined new)

-- the answers to all: those of the workers, of the first pass, and to what was kept
pub gathered_once : {O : Type 0} (n : ℕ) (v w : View) (kept : List ℕ) (joined_answers own all : List (ℕ × O)) → v.joined ≡ w.joined
    → ((x : ℕ) → times x (numbers_of joined_answers) ≡ joined_times x v) → numbers_of own ≡ w.taken
    → ((x : ℕ) → taken_times x w + times x kept ≡ once_below n x)
    → numbers_of all ≡ numbers_of (joined_answers ++ own) ++ kept
    → EachOnceBelow n (numbers_of all)
gathered_once {O} n v w kept answers own all same joined_are own_are once all_are x =
    let a = ap (times x) all_are in
    let b = ap (times x) (map-append (λ (a : ℕ × O). a.0) answers own) in
    let c = ap (times x) own_are in
    let d = ap (λ (ts : List Taking). total (λ (t : Taking). times x t.taken) ts) same in
    omega (arith, a, b, c, d, joined_are x, once x, times-append x (numbers_of (answers ++ own)) kept, times-append x (numbers_of answers) (numbers_of own))

-- ---- what a pass keeps over the steps of a loop

pub pushed_pass : (old p new : PassView) (x : ℕ) → p ≡ with_view old (record old.own { pushed = p.own.pushed }) → new ≡ with_view p (pushed p.own x) → new ≡ with_view old (record old.own { pushed = new.own.pushed })
pushed_pass old p new x i e =
    e ∙ ap (λ (q : PassView). with_view q (record q.own { pushed = p.own.pushed ++ x ∷ [] })) i ∙ ap (λ (l : List ℕ). with_view old (record old.own { pushed = l })) (sym (ap (λ (q : PassView). q.own.pushed) e))

pub same_pass : (old p new : PassView) → p ≡ with_view old (record old.own { pushed = p.own.pushed }) → new ≡ p → new ≡ with_view old (record old.own { pushed = new.own.pushed })
same_pass old p new i e = e ∙ i ∙ ap (λ (q : PassView). with_view old (record old.own { pushed = q.own.pushed })) (sym e)

pub joined_pass : (old p new other : PassView) → p ≡ with_view old (record old.own { joined = p.own.joined }) → new ≡ with_view p (joined p.own other.own) → new ≡ with_view old (record old.own { joined = new.own.joined })
joined_pass old p new other i e =
    let more : List Taking = p.own.joined ++ record { number = other.own.number; taken = other.own.taken } ∷ [] in
    e ∙ ap (λ (q : PassView). with_view q (record q.own { joined = more })) i ∙ ap (λ (l : List Taking). with_view old (record old.own { joined = l })) (sym (ap (λ (q : PassView). q.own.joined) e))
