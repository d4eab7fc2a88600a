-- Each step keeps the rule.
use Rattle.std.proofs.Common.{◌≡◌, ℕ, suc, ◌+◌, ◌<◌, ◌==◌, ◌&&◌, true, true≢false, List, [], ◌∷◌, ◌++◌, length, set, refl, sym, ap, ◌∙◌, subst, arith, length-append}
use Rattle.std.specs.List.{AllByRecursion}
use Rattle.std.proofs.lemmas.Bool.Decides.{nat_tests}
use Rattle.crossbeam_queue.specs.Fifo.{Pushes, Pops, Forks, Merges, Learns}
use Rattle.ua_table.specs.Counting.{one_if, total, times, once_below}
use Rattle.ua_table.proofs.Counts.{one_if-same, once-suc, times_push, total_push}
use Rattle.ua_table.proofs.Lists.{all_push, all_set}
use Rattle.ua_jobs.specs.declared.views.View.{View}
use Rattle.ua_jobs.specs.declared.views.Taking.{Taking}
use Rattle.ua_jobs.specs.Rule.{Rule, IsView, spent, first_view, first_one, passes_of, taken_times, number_times}
use Rattle.ua_jobs.specs.Moves.{IsFirst, HasAll, IsLeft, told, untold, pushed, took, split_first, split_new, joined}
use Rattle.ua_jobs.proofs.Places.{total_moved, total_kept, at_all, all_alone, holds_of, all_from_times, ascending_more}
use Rattle.ua_jobs.proofs.ViewLaws.{view_at, below_jobs, made_of_first, pushed_of_first, passes_of_first, left_of_first, spent_of, spent_view, first_no, first_yes}

-- a view with another list of taken numbers is a view
took_view : (jobs : ℕ) (v : View) (x : ℕ) → v.live ≡ true → IsView jobs v → IsView jobs (took v x)
took_view jobs v x live is = record {
  jobs_is = is.jobs_is;
  below = is.below;
  ascending = is.ascending;
  first = is.first;
  other = is.other;
  spent_is = λ e. absurd (true≢false (sym live ∙ e));
}

pub takes : (port : ℕ) (v : View) → v.live ≡ true → Pops Rule port v (λ x w. (x < v.jobs) × (w ≡ took v x))
takes port v live x items views h at =
    let o = h.orderly in
    let jobs = h.jobs in
    let w = took v x in
    let is = view_at jobs (x ∷ items) views o port v at in
    let below : x < jobs = below_jobs jobs (x ∷ items) views o port v at x (omega (arith, one_if-same x x refl)) in (
      w,
      record {
        jobs = jobs;
        orderly = record {
          each = all_set (IsView jobs) views port w (took_view jobs v x live is) o.each;
          one_first = total_kept first_one views port v w at refl ∙ o.one_first;
          numbers_once = λ k. total_kept (number_times k) views port v w at refl ∙ o.numbers_once k ∙ ap (λ n. once_below n k) (sym (total_kept (λ (u : View). u.made) views port v w at refl));
          passes = total_kept passes_of views port v w at refl ∙ o.passes ∙ sym (total_kept (λ (u : View). u.made) views port v w at refl);
          pushed_once = λ y.
              let kept = total_kept (λ (u : View). times y u.pushed) views port v w at refl in
              let more = total_moved (taken_times y) views port v w at in
              omega (arith, kept, more, o.pushed_once y, times_push y v.taken x);
          ascending = o.ascending.1;
        };
      },
      (omega (arith, below, is.jobs_is live), refl),
    )

-- a first view that pushed a greater number is a view
pushed_view : (jobs : ℕ) (v : View) (x : ℕ) → IsFirst v → x < jobs → AllByRecursion (λ y. y < x) v.pushed → IsView jobs v → IsView jobs (pushed v x)
pushed_view jobs v x first low above is = record {
  jobs_is = is.jobs_is;
  below = all_push (λ y. y < jobs) v.pushed x is.below low;
  ascending = ascending_more v.pushed x is.ascending above;
  first = is.first;
  other = λ e. absurd (omega (arith, first, e));
  spent_is = λ e. absurd (true≢false (sym (is.first first).0 ∙ e));
}

pub puts : (n port : ℕ) (v : View) (x : ℕ) → IsFirst v → x < v.jobs → AllByRecursion (λ y. y < x) v.pushed → Pushes Rule n port v x (λ w. w ≡ pushed v x)
puts n port v x first low above items views room h at =
    let o = h.orderly in
    let jobs = h.jobs in
    let w = pushed v x in
    let is = view_at jobs items views o port v at in
    let below : x < jobs = omega (arith, low, is.jobs_is (is.first first).0) in
    let queued : (y : ℕ) → 0 < times y items → y < x =
    λ y p. holds_of (λ z. z < x) v.pushed y above (omega (arith, p, o.pushed_once y, pushed_of_first jobs items views o port v at first y)) in (
      w,
      record {
        jobs = jobs;
        orderly = record {
          each = all_set (IsView jobs) views port w (pushed_view jobs v x first below above is) o.each;
          one_first = total_kept first_one views port v w at refl ∙ o.one_first;
          numbers_once = λ k. total_kept (number_times k) views port v w at refl ∙ o.numbers_once k ∙ ap (λ n. once_below n k) (sym (total_kept (λ (u : View). u.made) views port v w at refl));
          passes = total_kept passes_of views port v w at refl ∙ o.passes ∙ sym (total_kept (λ (u : View). u.made) views port v w at refl);
          pushed_once = λ y.
              let kept = total_kept (taken_times y) views port v w at refl in
              let more = total_moved (λ (u : View). times y u.pushed) views port v w at in
              omega (arith, kept, more, o.pushed_once y, times_push y v.pushed x, times_push y items x);
          ascending = ascending_more items x o.ascending (all_from_times (λ y. y < x) items queued);
        };
      },
      refl,
    )

pub learns : (port : ℕ) (v : View) → Learns Rule port v (λ items. HasAll v → IsLeft v items)
learns port v items views h at has = left_of_first h.jobs items views h.orderly port v at has

-- ---- a pass more

split_first_view : (jobs : ℕ) (v : View) → IsFirst v → IsView jobs v → IsView jobs (split_first v)
split_first_view jobs v first is = record {
  jobs_is = is.jobs_is;
  below = is.below;
  ascending = is.ascending;
  first = λ _. is.first first;
  other = λ e. absurd (omega (arith, e));
  spent_is = λ e. absurd (true≢false (sym (is.first first).0 ∙ e));
}

split_new_view : (jobs : ℕ) (v : View) → IsFirst v → IsView jobs v → IsView jobs (split_new v)
split_new_view jobs v first is = record {
  jobs_is = λ _. is.jobs_is (is.first first).0;
  below = tt;
  ascending = tt;
  first = λ p. absurd (omega (arith, p));
  other = λ _. (refl, refl);
  spent_is = λ e. absurd (true≢false e);
}

first_still : (v : View) → IsFirst v → first_one (split_first v) ≡ first_one v
first_still v first = first_yes (split_first v) (omega arith) ∙ sym (first_yes v first)

pub forks : (port : ℕ) (v : View) → IsFirst v → Forks Rule port v (split_first v) (split_new v)
forks port v first items views h at =
    let o = h.orderly in
    let jobs = h.jobs in
    let w = split_first v in
    let new = split_new v in
    let is = view_at jobs items views o port v at in
    let made : total (λ (u : View). u.made) (set views port w ++ new ∷ []) ≡ suc (total (λ (u : View). u.made) views) =
    omega (arith, total_push (λ (u : View). u.made) (set views port w) new, total_moved (λ (u : View). u.made) views port v w at) in
    record {
      jobs = jobs;
      orderly = record {
        each = all_push (IsView jobs) (set views port w) new (all_set (IsView jobs) views port w (split_first_view jobs v first is) o.each) (split_new_view jobs v first is);
        one_first = omega (arith, total_push first_one (set views port w) new, total_kept first_one views port v w at (first_still v first), o.one_first, first_no new refl);
        numbers_once = λ k.
            let count = made_of_first jobs items views o port v at first in
            let more = total_push (number_times k) (set views port w) new in
            let kept = total_kept (number_times k) views port v w at refl in
            let next = once-suc v.made k in
            let same = ap (λ n. once_below n k) made in
            let same_old = ap (λ n. once_below n k) count in
            let same_new = ap (λ n. once_below (suc n) k) count in
            omega (arith, more, kept, next, same, same_old, same_new, o.numbers_once k);
        passes = omega (arith, made, total_push passes_of (set views port w) new, total_kept passes_of views port v w at refl, o.passes);
        pushed_once = λ y.
            let kept = total_kept (λ (u : View). times y u.pushed) views port v w at refl in
            let more = total_push (λ (u : View). times y u.pushed) (set views port w) new in
            let kept_taken = total_kept (taken_times y) views port v w at refl in
            let more_taken = total_push (taken_times y) (set views port w) new in
            omega (arith, kept, more, kept_taken, more_taken, o.pushed_once y);
        ascending = o.ascending;
      };
    }

-- ---- a pass joined

joined_view : (jobs : ℕ) (v w : View) → IsFirst v → IsView jobs v → IsView jobs (joined v w)
joined_view jobs v w first is = record {
  jobs_is = is.jobs_is;
  below = is.below;
  ascending = is.ascending;
  first = is.first;
  other = λ e. absurd (omega (arith, first, e));
  spent_is = λ e. absurd (true≢false (sym (is.first first).0 ∙ e));
}

-- what a pass other than the first adds
module _ (u : View) (live : u.live ≡ true) (none : u.joined ≡ []) where
  number_of_other : (k : ℕ) → number_times k u ≡ one_if (u.number == k)
  number_of_other k =
      let e : number_times k u ≡ one_if (u.number == k) + 0 = λ i. one_if (live i && (u.number == k)) + total (λ (t : Taking). one_if (t.number == k)) (none i) in
      omega (arith, e)

  passes_of_other : passes_of u ≡ 1
  passes_of_other = let a = ap one_if live in let b = ap length none in omega (arith, a, b)

  taken_of_other : (x : ℕ) → taken_times x u ≡ times x u.taken
  taken_of_other x =
      let e : taken_times x u ≡ times x u.taken + 0 = λ i. times x u.taken + total (λ (t : Taking). times x t.taken) (none i) in
      omega (arith, e)

pub merges : (port : ℕ) (v : View) (other : ℕ) (u : View) → IsFirst v → u.made ≡ 0 → u.live ≡ true → Merges Rule port v other u (joined v u) spent
merges port v other u first none live items views h at apart there =
    let o = h.orderly in
    let jobs = h.jobs in
    let w = joined v u in
    let is = view_at jobs items views o port v at in
    let each : AllByRecursion (IsView jobs) (set views port w) = all_set (IsView jobs) views port w (joined_view jobs v u first is) o.each in
    let theirs = at_all (IsView jobs) (set views port w) other u each there in
    let no_joined = (theirs.other none).1 in
    let no_pushed = (theirs.other none).0 in
    let new : Taking = record { number = u.number; taken = u.taken } in
    let made : total (λ (y : View). y.made) (set (set views port w) other spent) ≡ total (λ (y : View). y.made) views =
    omega (arith, none, total_moved (λ (y : View). y.made) views port v w at, total_moved (λ (y : View). y.made) (set views port w) other u spent there) in
    record {
      jobs = jobs;
      orderly = record {
        each = all_set (IsView jobs) (set views port w) other spent (spent_view jobs spent refl) each;
        one_first = omega (arith, o.one_first, first_no u none, total_kept first_one views port v w at refl, total_moved first_one (set views port w) other u spent there);
        numbers_once = λ k.
            let a = total_moved (number_times k) views port v w at in
            let b = total_moved (number_times k) (set views port w) other u spent there in
            let c = number_of_other u live no_joined k in
            let d = total_push (λ (t : Taking). one_if (t.number == k)) v.joined new in
            let same = ap (λ n. once_below n k) made in
            omega (arith, a, b, c, d, same, o.numbers_once k);
        passes =
            let a = total_moved passes_of views port v w at in
            let b = total_moved passes_of (set views port w) other u spent there in
            omega (arith, a, b, passes_of_other u live no_joined, length-append v.joined (new ∷ []), made, o.passes);
        pushed_once = λ y.
            let a = total_kept (λ (z : View). times y z.pushed) views port v w at refl in
            let b = total_moved (λ (z : View). times y z.pushed) (set views port w) other u spent there in
            let c = ap (times y) no_pushed in
            let d = total_moved (taken_times y) views port v w at in
            let e = total_moved (taken_times y) (set views port w) other u spent there in
            let f = total_push (λ (t : Taking). times y t.taken) v.joined new in
            omega (arith, a, b, c, d, e, f, taken_of_other u live no_joined y, o.pushed_once y);
        ascending = o.ascending;
      };
    }

-- ---- how the first pass is told of the jobs

told_view : (x : ℕ) → IsView (suc x) (told (first_view 0) x)
told_view x = record {
  jobs_is = λ _. refl;
  below = (omega arith, tt);
  ascending = (tt, tt);
  first = λ _. (refl, refl);
  other = λ e. absurd (omega (arith, e));
  spent_is = λ e. absurd (true≢false e);
}

tells_first : (n port x : ℕ) → Pushes Rule n port (first_view 0) x (λ w. w ≡ told (first_view 0) x)
tells_first n port x items views room h at =
    let o = h.orderly in
    let v = first_view 0 in
    let w = told v x in
    let has : HasAll v = record { first = omega arith; all = refl } in
    let left : (y : ℕ) → times y items ≡ 0 = λ y. let l = left_of_first h.jobs items views o port v at has y in omega (arith, l) in (
      w,
      record {
        jobs = suc x;
        orderly = record {
          each = all_alone passes_of (IsView h.jobs) (IsView (suc x)) views port v w (passes_of_first h.jobs items views o port v at has) at o.each
              (λ u is none. spent_view (suc x) u (spent_of h.jobs u is none)) (told_view x);
          one_first = total_kept first_one views port v w at refl ∙ o.one_first;
          numbers_once = λ k. total_kept (number_times k) views port v w at refl ∙ o.numbers_once k ∙ ap (λ n. once_below n k) (sym (total_kept (λ (u : View). u.made) views port v w at refl));
          passes = total_kept passes_of views port v w at refl ∙ o.passes ∙ sym (total_kept (λ (u : View). u.made) views port v w at refl);
          pushed_once = λ y.
              let kept = total_kept (taken_times y) views port v w at refl in
              let more = total_moved (λ (u : View). times y u.pushed) views port v w at in
              omega (arith, kept, more, o.pushed_once y, times_push y items x);
          ascending = ascending_more items x o.ascending (all_from_times (λ y. y < x) items (λ y p. absurd (omega (arith, p, left y))));
        };
      },
      refl,
    )

pub tells : (n port : ℕ) (v : View) (x : ℕ) → v ≡ first_view 0 → Pushes Rule n port v x (λ w. w ≡ told v x)
tells n port v x e = subst (λ (u : View). Pushes Rule n port u x (λ w. w ≡ told u x)) (sym e) (tells_first n port x)

-- of one number alone nothing is left behind another
alone_left : (x y : ℕ) (items : List ℕ) → ((k : ℕ) → one_if (x == k) ≡ one_if (y == k) + times k items) → (k : ℕ) → times k items ≡ 0
alone_left x y items h k =
    let at_y = h y in
    let one = one_if-same y y refl in
    let same : x ≡ y = equal x y (omega (arith, at_y, one)) in
    let at_k = h k in
    let e = ap (λ n. one_if (n == k)) same in
    omega (arith, at_k, e)
  where
    equal : (x y : ℕ) → 0 < one_if (x == y) → x ≡ y
    equal x y w = grind (arith, nat_tests)

untold_view : (x : ℕ) → IsView (suc x) (first_view (suc x))
untold_view x = record {
  jobs_is = λ _. refl;
  below = tt;
  ascending = tt;
  first = λ _. (refl, refl);
  other = λ e. absurd (omega (arith, e));
  spent_is = λ e. absurd (true≢false e);
}

untells_first : (port x : ℕ) → Pops Rule port (told (first_view 0) x) (λ y w. w ≡ first_view (suc x))
untells_first port x y items views h at =
    let o = h.orderly in
    let jobs = h.jobs in
    let v = told (first_view 0) x in
    let w = first_view (suc x) in
    let has : HasAll v = record { first = omega arith; all = refl } in
    let is = view_at jobs (y ∷ items) views o port v at in
    let jobs_is : suc x ≡ jobs = is.jobs_is refl in
    let left : (k : ℕ) → times k items ≡ 0 =
    alone_left x y items (λ k. let l = left_of_first jobs (y ∷ items) views o port v at has k in omega (arith, l)) in (
      w,
      record {
        jobs = jobs;
        orderly = record {
          each = all_set (IsView jobs) views port w (subst (λ n. IsView n (first_view (suc x))) jobs_is (untold_view x)) o.each;
          one_first = total_kept first_one views port v w at refl ∙ o.one_first;
          numbers_once = λ k. total_kept (number_times k) views port v w at refl ∙ o.numbers_once k ∙ ap (λ n. once_below n k) (sym (total_kept (λ (u : View). u.made) views port v w at refl));
          passes = total_kept passes_of views port v w at refl ∙ o.passes ∙ sym (total_kept (λ (u : View). u.made) views port v w at refl);
          pushed_once = λ k.
              let l = left_of_first jobs (y ∷ items) views o port v at has k in
              let kept = total_kept (taken_times k) views port v w at refl in
              let more = total_moved (λ (u : View). times k u.pushed) views port v w at in
              omega (arith, kept, more, o.pushed_once k, left k, l);
          ascending = o.ascending.1;
        };
      },
      refl,
    )

pub untells : (port : ℕ) (v : View) (x : ℕ) → v ≡ told (first_view 0) x → Pops Rule port v (λ y w. w ≡ untold v)
untells port v x e = subst (λ (u : View). Pops Rule port u (λ y w. w ≡ untold u)) (sym e) (untells_first port x)
