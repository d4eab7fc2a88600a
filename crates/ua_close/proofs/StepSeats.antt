-- A split and a join are events of the first worker.
use Rattle.std.proofs.Common.{◌≡◌, ◌≢◌, ⊎_elim, ℕ, zero, suc, ◌+◌, ◌<◌, ◌≤◌, max, Bool, true, false, List, [], ◌∷◌, ◌++◌, length, map, set, Option, Some, None, refl, sym, ap, ◌∙◌, subst, arith, length-append}
use Rattle.std.proofs.lemmas.Bool.{lt-ltb, le-ltb, cases_lt}
use Rattle.std.specs.Prelude.{if◌then◌else◌, MatchOption, slice_get, Contains}
use Rattle.std.proofs.lemmas.List.Elements.{Contains-append_left, Contains-append_right}
use Rattle.std.proofs.lemmas.List.{length-map, map-append}
use mathlib.Core.Option.{some, some-ne-none, some-injective}
use mathlib.Core.Logic.{dite}
use native.Mathlib.Decide.{ℕ_discrete}
use lib.ListN.{get_elem?}
use Rattle.atomic_table.proofs.Lists.{set_else}
use Rattle.ua_table.specs.declared.origins.Origin.{Origin}
use Rattle.ua_table.specs.Algebras.{Vector, Product}
use Rattle.ua_table.specs.Counting.{total, numbers_below}
use Rattle.ua_table.proofs.Counts.{total-append, total_push, length-total, length-numbers_below, one_if-same, once_in, once_out}
use Rattle.ua_table.proofs.Lists.{Contains-head, Contains-tail, Contains-cases}
use Rattle.ua_core.specs.declared.events.EventKind.TheVariants.{Split, Join}
use Rattle.ua_core.specs.Machines as machines
use Rattle.ua_core.specs.Machines.{Machine, Asks, joined_by, effect}
use Rattle.ua_core.specs.States.{task_of}
use Rattle.ua_log.specs.declared.views.Plan.{Plan}
use Rattle.ua_log.specs.declared.views.Worker.{Worker}
use Rattle.ua_log.specs.declared.views.View.{View}
use Rattle.ua_log.specs.Boards.{workers, fresh, IsHeaded}
use Rattle.ua_log.specs.Moves.{kept_of, longer, joined, split_first, split_new, join_first, spent_view, Token}
use Rattle.ua_log.proofs.ViewTotals.{total_moved, part_two}
use Rattle.ua_work.specs.Harvests.{IsPlanOf}
use Rattle.ua_close.specs.Steps.{Numbered, read, read_all, numbered, worker_at, in_order, machine_from, machine_in, Table, plain, erased, IsSame, IsAt, own, after_split, after_join, SeatSplit, SeatJoin}
use Rattle.ua_close.proofs.StepViews.{by_number, by_number_same, map_more, has, number_is, entry_of, worker_is, worker_here, worker_else, worker_more, total_read, length_read, entries_in, entries_moved, numbered_more}
use Rattle.ua_close.proofs.StepEvents.{same_parts, becomes, may_be, machine_is, plain_set, words_read, once, at_most, own_stands}

-- a view with the same workers
numbered_same : (vs : List View) (i : ℕ) (v w : View) → get_elem? vs i ≡ some v → w.all ≡ v.all → numbered (set vs i w) ≡ numbered vs
numbered_same [] i v w at e = refl
numbered_same (u ∷ vs) zero v w at e = ap (λ (l : List Worker). read_all l ++ numbered vs) (e ∙ ap (λ (x : View). x.all) (sym (some-injective u v at)))
numbered_same (u ∷ vs) (suc i) v w at e = ap (λ l. read_all u.all ++ l) (numbered_same vs i v w at e)

-- the workers in order are as many as they are
pub count_in_order : (es : List Numbered) → length (in_order es) ≡ length es
count_in_order es = length-map (numbers_below (length es)) (worker_at es) ∙ length-numbers_below (length es)

-- one worker more, whose number is how many there were
in_order_more : (es : List Numbered) (e : Numbered) → e.number ≡ length es → total (has e.number) es ≡ 0 → in_order (es ++ e ∷ []) ≡ in_order es ++ e.worker ∷ []
in_order_more es e is none =
    let es' = es ++ e ∷ [] in
    let count : length es' ≡ suc (length es) = omega (arith, length-append es (e ∷ [])) in
    let once : total (has e.number) es' ≤ 1 = let t = total_push (has e.number) es e in let o = one_if-same e.number e.number refl in omega (arith, t, none, o) in
    let last : worker_at es' (length es) ≡ e.worker = ap (worker_at es') (sym is) ∙ worker_is es' e (Contains-append_right es (e ∷ []) e (Contains-head e [])) once in
    ap (λ (n : ℕ). map (worker_at es') (numbers_below n)) count ∙ map_more (worker_at es') (length es) ∙
    ap (λ (l : List machines.Worker). l ++ worker_at es' (length es) ∷ []) (by_number_same (worker_at es) (worker_at es') (length es) (λ j lt. worker_more es e j (λ same. absurd (omega (arith, same, is, lt))))) ∙
    ap (λ (x : machines.Worker). in_order es ++ x ∷ []) last

-- the longer of two lists is as long as the greater length
length-longer : (xs ys : List Origin) → length (longer xs ys) ≡ max (length xs) (length ys)
length-longer xs ys = ⊎_elim
    (λ lt. ap (λ (b : Bool). length (if b then ys else xs)) (lt-ltb (length xs) (length ys) lt) ∙ omega (arith, lt))
    (λ ge. ap (λ (b : Bool). length (if b then ys else xs)) (le-ltb (length xs) (length ys) (omega (arith, ge))) ∙ omega (arith, ge))
    (cases_lt (length xs) (length ys))

-- ---- the first seat takes another in

module _ (plan : Plan) (s : Table) (id other : ℕ) (me it : Token) (a : IsAt plan s id me) (b : IsAt plan s other it) (apart : other ≢ id) (first : (own me).number ≡ 0) where
  abbrev kept : List Worker
  kept = kept_of me.0.all

  abbrev new : Worker
  new = joined kept (own me) (own it)

  abbrev both : View
  both = join_first me.0 it.0

  abbrev mid : List View
  mid = set s.views id both

  abbrev views' : List View
  views' = set mid other spent_view

  abbrev es : List Numbered
  es = numbered s.views

  abbrev es' : List Numbered
  es' = numbered views'

  there : get_elem? mid other ≡ some it.0
  there = set_else s.views id other both apart ∙ b.there

  not_first : (own it).number ≢ 0
  not_first e =
      let two = part_two (number_is 0) s.views id other me.0 it.0 a.there b.there apart in
      let x : total (number_is 0) me.0.all ≡ number_is 0 (own me) + total (number_is 0) kept = ap (total (number_is 0)) a.live in
      let y : total (number_is 0) it.0.all ≡ number_is 0 (own it) + total (number_is 0) (kept_of it.0.all) = ap (total (number_is 0)) b.live in
      let x1 = one_if-same 0 (own me).number first in
      let y1 = one_if-same 0 (own it).number e in
      let most = at_most plan s id me a 0 in
      let r = total_read 0 s.views in
      absurd (omega (arith, two, x, y, x1, y1, most, r))

  same_total : (f : Worker → ℕ) → f new ≡ f (own me) → total f (workers views') ≡ total f (workers s.views)
  same_total f e =
      let m = total_moved f mid other it.0 spent_view there in
      let n = total_moved f s.views id me.0 both a.there in
      let x : total f me.0.all ≡ f (own me) + total f kept = ap (total f) a.live in
      let d = total-append f kept it.0.all in
      omega (arith, m, n, x, d, e)

  same_count : length es' ≡ length es
  same_count = let t = same_total (λ (x : Worker). 1) refl in
      length_read views' ∙ length-total (workers views') ∙ t ∙ sym (length-total (workers s.views)) ∙ sym (length_read s.views)

  at_most_after : (n : ℕ) → total (has n) es' ≤ 1
  at_most_after n = let t = same_total (number_is n) refl in
      let x = total_read n views' in let y = total_read n s.views in let z = at_most plan s id me a n in
      omega (arith, t, x, y, z)

  -- what the first view has stands there afterwards
  both_there : get_elem? mid id ≡ some both
  both_there = here s.views id me.0 a.there
    where
      here : (vs : List View) (i : ℕ) (u : View) → get_elem? vs i ≡ some u → get_elem? (set vs i both) i ≡ some both
      here [] i u e = absurd (some-ne-none u (sym e))
      here (x ∷ xs) zero u e = refl
      here (x ∷ xs) (suc i) u e = here xs i u e

  in_both : (e : Numbered) → Contains (read_all both.all) e → Contains es' e
  in_both e c = entries_in views' id both e (set_else mid other id spent_view (λ same. apart (sym same)) ∙ both_there) c

  in_kept : (e : Numbered) → Contains (map (read true) kept) e → Contains es' e
  in_kept e c = in_both e (Contains-tail (read false new) e (map (read true) (kept ++ it.0.all))
      (subst (λ (l : List Numbered). Contains l e) (sym (map-append (read true) kept it.0.all)) (Contains-append_left (map (read true) kept) (map (read true) it.0.all) e c)))

  in_taken : (e : Numbered) → Contains (map (read true) it.0.all) e → Contains es' e
  in_taken e c = in_both e (Contains-tail (read false new) e (map (read true) (kept ++ it.0.all))
      (subst (λ (l : List Numbered). Contains l e) (sym (map-append (read true) kept it.0.all)) (Contains-append_right (map (read true) kept) (map (read true) it.0.all) e c)))

  in_rest : (e : Numbered) → Contains (map (read true) (kept_of it.0.all)) e → Contains es' e
  in_rest e c = in_taken e (subst (λ (l : List Worker). Contains (map (read true) l) e) (sym b.live) (Contains-tail (read true (own it)) e (map (read true) (kept_of it.0.all)) c))

  -- each other worker stands there as before
  others_stay : (e : Numbered) → e.number ≢ (own me).number → e.number ≢ (own it).number → Contains es e → Contains es' e
  others_stay e not_own not_it c = ⊎_elim
      (λ mine. ⊎_elim
      (λ (same : read false (own me) ≡ e). absurd (not_own (ap (λ (x : Numbered). x.number) (sym same))))
      (λ rest. in_kept e rest)
      (Contains-cases (read false (own me)) e (map (read true) kept) (subst (λ (l : List Worker). Contains (read_all l) e) a.live mine)))
      (λ stays. ⊎_elim
      (λ its. ⊎_elim
      (λ (same : read false (own it) ≡ e). absurd (not_it (ap (λ (x : Numbered). x.number) (sym same))))
      (λ rest. in_rest e rest)
      (Contains-cases (read false (own it)) e (map (read true) (kept_of it.0.all)) (subst (λ (l : List Worker). Contains (read_all l) e) b.live its)))
      (λ rest. rest)
      (entries_moved mid other it.0 spent_view e there stays))
      (entries_moved s.views id me.0 both e a.there c)

  first_stands : worker_at es' (own me).number ≡ (read false new).worker
  first_stands = worker_is es' (read false new) (in_both (read false new) (Contains-head (read false new) (map (read true) (kept ++ it.0.all)))) (at_most_after (own me).number)

  taken_stands : worker_at es' (own it).number ≡ (read true (own it)).worker
  taken_stands = worker_is es' (read true (own it))
      (in_taken (read true (own it)) (subst (λ (l : List Worker). Contains (map (read true) l) (read true (own it))) (sym b.live) (Contains-head (read true (own it)) (map (read true) (kept_of it.0.all)))))
      (at_most_after (own it).number)

  other_stands : (j : ℕ) → j < length es → j ≢ (own me).number → j ≢ (own it).number → worker_at es' j ≡ worker_at es j
  other_stands j lt not_own not_it =
      let e : Numbered = record { number = j; worker = worker_at es j } in
      let some : 0 < total (has j) es = let o = once plan s id me a j in let i = once_in (length es) j lt in omega (arith, o, i) in
      worker_is es' e (others_stay e not_own not_it (entry_of es j some)) (at_most_after j)

  -- the workers in order afterwards
  pub join_moves : in_order es' ≡ set (set (in_order es) (own it).number (read true (own it)).worker) (own me).number (read false new).worker
  join_moves =
      let f : ℕ → machines.Worker = worker_at (read true (own it) ∷ es) in
      ap (λ (n : ℕ). map (worker_at es') (numbers_below n)) same_count ∙
      by_number f (worker_at es') (length es) (own me).number (read false new).worker
      (λ j lt not_own. dite (ℕ_discrete j (own it).number)
      (λ is. ap (worker_at es') is ∙ taken_stands ∙ sym (worker_here (read true (own it)) es j (sym is)))
      (λ not_it. other_stands j lt not_own not_it ∙ sym (worker_else (read true (own it)) es j (λ same. not_it (sym same)))))
      first_stands ∙
      ap (λ (l : List machines.Worker). set l (own me).number (read false new).worker)
      (by_number (worker_at es) f (length es) (own it).number (read true (own it)).worker
      (λ j lt not_it. worker_else (read true (own it)) es j (λ same. not_it (sym same)))
      (worker_here (read true (own it)) es (own it).number refl))

joined_by_first : (taken : List Worker) (w o : Worker) → plain (read false (joined taken w o)).worker ≡ plain (record (read false w).worker { seen = max (length w.seen) (length o.seen) })
joined_by_first taken w o = λ i. record { seen = length-longer w.seen o.seen i; slices = w.slices; puts = w.puts; busy = None; known = w.known; idle = false; joined = false }

module _ (p : Product) (gens : List Vector) (plan : Plan) (of : IsPlanOf p gens plan) where
  -- the first seat counts all
  counts : (s : Table) (id : ℕ) (me : Token) (a : IsAt plan s id me) → (own me).number ≡ 0 → me.0.made ≡ length (numbered s.views)
  counts s id me a first =
      let headed = subst (λ (l : List Worker). IsHeaded a.rule.log a.rule.claims a.rule.halted (length (workers s.views)) me.0.made l) a.live (a.rule.views id me.0 a.there).headed in
      (headed.1 first).0 ∙ sym (length_read s.views)

  pub seat_split : SeatSplit p gens plan
  seat_split s id me a first few =
      let es = numbered s.views in
      let e = read false (fresh me.0.made (own me).seen (own me).known) in
      let made = counts s id me a first in
      let views : numbered (after_split s id me.0).views ≡ es ++ e ∷ [] =
      numbered_more (set s.views id (split_first me.0)) (split_new me.0) ∙ ap (λ (l : List Numbered). l ++ e ∷ []) (numbered_same s.views id me.0 (split_first me.0) a.there refl) in
      let none : total (has me.0.made) es ≡ 0 = once plan s id me a me.0.made ∙ once_out (length es) me.0.made (omega (arith, made)) in
      let order : in_order (numbered (after_split s id me.0).views) ≡ in_order es ++ machines.fresh (length (own me).seen) (own me).known ∷ [] = ap in_order views ∙ in_order_more es e made none in
      let M = machine_from p gens a.rule.log a.rule.claims a.rule.halted es in
      let M' : Machine = record M { workers = in_order es ++ machines.fresh (length (own me).seen) (own me).known ∷ [] } in
      let before = machine_is p gens plan s a.rule.log a.rule.claims a.rule.halted (words_read plan s id me a) in
      let after_is : machine_in p gens plan (after_split s id me.0) ≡ M' =
      machine_is p gens plan (after_split s id me.0) a.rule.log a.rule.claims a.rule.halted (words_read plan s id me a) ∙
      (λ j. record { rows = M.rows; origins = M.origins; claims = M.claims; halted = M.halted; workers = order j }) in (
        becomes (task_of p gens plan.budget) (machine_in p gens plan s) (machine_in p gens plan (after_split s id me.0)) M M' (own me).number (read false (own me)).worker Split before after_is (own_stands plan s id me a) refl,
        may_be (task_of p gens plan.budget) (machine_in p gens plan s) M (own me).number (read false (own me)).worker Split before (own_stands plan s id me a) refl (first, (let l = count_in_order es in omega (arith, l, made, few))),
      )

  pub seat_join : SeatJoin p gens plan
  seat_join s id other me it a b apart first =
      let t = after_join s id me.0 other it.0 in
      let k = (own me).number in
      let no = (own it).number in
      let ws = in_order (numbered s.views) in
      let x = (read false (own me)).worker in
      let y : machines.Worker = (read false (joined (kept_of me.0.all) (own me) (own it))).worker in
      let z : machines.Worker = record x { seen = max (length (own me).seen) (length (own it).seen) } in
      let taken = (read true (own it)).worker in
      let M = machine_from p gens a.rule.log a.rule.claims a.rule.halted (numbered s.views) in
      let M' : Machine = record M { workers = set (set ws no taken) k y } in
      let before = machine_is p gens plan s a.rule.log a.rule.claims a.rule.halted (words_read plan s id me a) in
      let after_is : machine_in p gens plan t ≡ M' =
      machine_is p gens plan t a.rule.log a.rule.claims a.rule.halted (words_read plan s id me a) ∙
      (λ j. record { rows = M.rows; origins = M.origins; claims = M.claims; halted = M.halted; workers = join_moves plan s id other me it a b apart first j }) in
      let theirs : slice_get ws no ≡ Some (read false (own it)).worker = own_stands plan s other it b in
      let does : effect (task_of p gens plan.budget) M k x (Join no) ≡ record M { workers = set (set ws no taken) k z } = ap (joined_by M k x no) theirs in
      let core : IsSame M' (effect (task_of p gens plan.budget) M k x (Join no)) =
      same_parts M' (record M { workers = set (set ws no taken) k z }) refl refl refl refl (plain_set (set ws no taken) k y z (joined_by_first (kept_of me.0.all) (own me) (own it))) ∙ sym (ap erased does) in (
        becomes (task_of p gens plan.budget) (machine_in p gens plan s) (machine_in p gens plan t) M M' k x (Join no) before after_is (own_stands plan s id me a) core,
        may_be (task_of p gens plan.budget) (machine_in p gens plan s) M k x (Join no) before (own_stands plan s id me a) refl
            (first, not_first plan s id other me it a b apart first, subst (λ (o : Option machines.Worker). MatchOption o ⊥ (λ w. (w.joined ≡ false) × (w.busy ≡ None))) (sym theirs) (refl, refl)),
      )
