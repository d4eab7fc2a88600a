-- What the rule tells of one view.
use Rattle.std.proofs.Common.{◌≡◌, ℕ, ◌<◌, true, false, true≢false, Bool, List, refl, sym, ap, ◌∙◌, subst, arith, ⊎_elim}
use Rattle.std.proofs.lemmas.Bool.{cases_lt}
use mathlib.Core.Option.{some}
use lib.ListN.{get_elem?}
use Rattle.ua_table.specs.Counting.{one_if, total, times}
use Rattle.ua_table.proofs.Counts.{one_has, once_in, once_out}
use Rattle.ua_jobs.specs.declared.views.View.{View}
use Rattle.ua_jobs.specs.Rule.{IsView, IsOrderly, spent, first_one, passes_of, taken_times}
use Rattle.ua_jobs.specs.Moves.{IsFirst, HasAll, IsLeft}
use Rattle.ua_jobs.proofs.Places.{at_all, total_alone, holds_of}

one_if_none : (b : Bool) → one_if b ≡ 0 → b ≡ false
one_if_none true e = absurd (omega (arith, e))
one_if_none false e = refl

pub first_yes : (v : View) → 0 < v.made → first_one v ≡ 1
first_yes v h = once_in v.made 0 h

pub first_no : (v : View) → v.made ≡ 0 → first_one v ≡ 0
first_no v e = once_out v.made 0 (omega (arith, e))

made_none : (v : View) → first_one v ≡ 0 → v.made ≡ 0
made_none v e = ⊎_elim (λ some_made. absurd (omega (arith, e, first_yes v some_made))) (λ none. omega (arith, none)) (cases_lt 0 v.made)

-- a view that holds no pass is spent
pub spent_of : (jobs : ℕ) (v : View) → IsView jobs v → passes_of v ≡ 0 → v ≡ spent
spent_of jobs v is none = is.spent_is (one_if_none v.live (omega (arith, none)))

-- and a spent view is one in every batch
pub spent_view : (jobs : ℕ) (v : View) → v ≡ spent → IsView jobs v
spent_view jobs v e = subst (IsView jobs) (sym e) (record {
  jobs_is = λ l. absurd (true≢false (sym l));
  below = tt;
  ascending = tt;
  first = λ p. absurd (omega (arith, p));
  other = λ _. (refl, refl);
  spent_is = λ _. refl;
})

module _ (jobs : ℕ) (items : List ℕ) (views : List View) (o : IsOrderly jobs items views) (port : ℕ) (v : View) (at : get_elem? views port ≡ some v) where
  pub view_at : IsView jobs v
  view_at = at_all (IsView jobs) views port v o.each at

  -- a number in the queue is the number of a job
  pub below_jobs : (x : ℕ) → 0 < times x items → x < jobs
  below_jobs x h =
      let u = one_has (IsView jobs) (λ w. times x w.pushed) views o.each (omega (arith, h, o.pushed_once x)) in
      holds_of (λ y. y < jobs) u.0.pushed x u.1.below u.2

  -- the first pass has the whole count of passes made, and all that was pushed
  pub made_of_first : IsFirst v → total (λ (w : View). w.made) views ≡ v.made
  made_of_first first = total_alone (λ (w : View). w.made) first_one (IsView jobs) views port v (o.one_first ∙ sym (first_yes v first)) at o.each (λ u _ none. made_none u none)

  pub pushed_of_first : IsFirst v → (x : ℕ) → total (λ (w : View). times x w.pushed) views ≡ times x v.pushed
  pushed_of_first first x =
      total_alone (λ (w : View). times x w.pushed) first_one (IsView jobs) views port v (o.one_first ∙ sym (first_yes v first)) at o.each
      (λ u is none. ap (times x) (is.other (made_none u none)).0)

  -- and where it has joined all others, all passes
  pub passes_of_first : HasAll v → total passes_of views ≡ passes_of v
  passes_of_first has =
      let live = ap one_if (view_at.first has.first).0 in
      omega (arith, o.passes, made_of_first has.first, has.all, live)

  pub taken_of_first : HasAll v → (x : ℕ) → total (taken_times x) views ≡ taken_times x v
  taken_of_first has x =
      total_alone (taken_times x) passes_of (IsView jobs) views port v (passes_of_first has) at o.each
      (λ u is none. ap (taken_times x) (spent_of jobs u is none))

  pub left_of_first : HasAll v → IsLeft v items
  left_of_first has x = omega (arith, o.pushed_once x, pushed_of_first has.first x, taken_of_first has x)
