-- A seat that has looked for a record, and is else as it was.
use Rattle.std.proofs.Common.{◌≡◌, ℕ, List, [], ◌∷◌, ◌++◌, length, refl, sym, ap, ◌∙◌, subst}
use Rattle.ua_table.specs.declared.origins.Origin.{Origin}
use Rattle.ua_log.specs.declared.views.Plan.{Plan}
use Rattle.ua_log.specs.Rule.{MayStand}
use Rattle.ua_log.specs.Moves.{sees, missed, IsAlone}
use Rattle.ua_log.specs.Seats.{SeatView, IsOwn, with_worker}
use Rattle.ua_log.proofs.Words.{prefix_self}
use Rattle.ua_work.specs.declared.puts.Job.{Job}
use Rattle.ua_work.specs.declared.replicas.Replica.{Replica}
use Rattle.ua_work.specs.inner.Looks.{HasMissed}
use Rattle.ua_work.specs.Goals.{Meets}
use Rattle.ua_work.specs.inner.Replicas.{values_in, value_in, IsReplica, SameClosure, SameRecords}
use Rattle.ua_work.specs.Beginnings.{IsFurther}
use Rattle.ua_work.specs.inner.Workings.{IsWorking, IsAtWork, HasWorked}
use Rattle.ua_work.proofs.WorkLaws.{same_trans, further_trans, further_sees, working_sees, still_at_work}

pub missed_self : (s : SeatView) → HasMissed s s
missed_self s = record { misses = s.own.misses; same = refl }

-- one look more that found nothing
pub missed_more : (s u t : SeatView) → HasMissed s u → t ≡ with_worker u (missed u.own) → HasMissed s t
missed_more s u t h e =
    let more : List ℕ = u.own.misses ++ length u.own.seen ∷ [] in
    record { misses = more; same = e ∙ ap (λ (x : SeatView). with_worker x (record x.own { misses = more })) h.same }

-- and then one that found a record
pub missed_sees : (s u t : SeatView) (o : Origin) → HasMissed s u → t ≡ with_worker u (sees u.own o) → HasMissed (with_worker s (sees s.own o)) t
missed_sees s u t o h e = record { misses = h.misses; same = e ∙ ap (λ (x : SeatView). with_worker x (sees x.own o)) h.same }

pub missed_stands : (p : Plan) (s u : SeatView) (o : Origin) → HasMissed s u → MayStand p (length u.own.seen) o → MayStand p (length s.own.seen) o
missed_stands p s u o h may = subst (λ (x : SeatView). MayStand p (length x.own.seen) o) h.same may

pub missed_alone : (s t : SeatView) → HasMissed s t → IsAlone s.made s.own → IsAlone t.made t.own
missed_alone s t h a = (ap (λ (x : SeatView). x.made) h.same ∙ a.0, ap (λ (x : SeatView). x.own.number) h.same ∙ a.1)

pub missed_working : (r : Replica) (s t : SeatView) → HasMissed s t → IsWorking r s.own → IsWorking r t.own
missed_working r s t h k = subst (λ (x : SeatView). IsWorking r x.own) (sym h.same) record { replica = k.replica; values_are = k.values_are; puts = k.puts; note = k.note }

-- the worker has entered the record that was found
pub found_working : {r new : Replica} {s t : SeatView} → IsWorking r s.own → SameClosure r new → IsReplica new → IsOwn s.made s.kept s.own → (x : Origin)
    → values_in new ≡ values_in r ++ value_in r x ∷ [] → HasMissed (with_worker s (sees s.own x)) t → IsWorking new t.own
found_working {r} {new} {s} {t} k same replica own x more h =
    let seen : SeatView = with_worker s (sees s.own x) in
    missed_working new seen t h (working_sees r new s seen x k same replica own more refl)

pub missed_work : {j : Job} {r : Replica} {s t : SeatView} → HasMissed s t → IsAtWork j r s → IsAtWork j r t
missed_work {j} {r} {s} {t} h k = record { home = ap (λ (x : SeatView). x.home) h.same ∙ k.home; job = k.job; goes = record { working = missed_working r s t h k.goes.working; unmet = k.goes.unmet } }

pub missed_further : (s t : SeatView) → HasMissed s t → IsFurther s t
missed_further s t h = subst (IsFurther s) (sym h.same) record {
  home = refl;
  made = refl;
  kept = refl;
  number = refl;
  slices = refl;
  known = refl;
  mark = refl;
  seen = prefix_self s.own.seen;
  puts = prefix_self s.own.puts;
}

pub found_further : (s t : SeatView) (o : Origin) → HasMissed (with_worker s (sees s.own o)) t → IsFurther s t
found_further s t o h =
    let seen : SeatView = with_worker s (sees s.own o) in
    further_trans s seen t (further_sees s seen o refl) (missed_further seen t h)

-- so the worker has worked, where its replica is of the same records, or has that one more
pub missed_worked : {r new : Replica} {s t : SeatView} → SameRecords r new → HasMissed s t → HasWorked s r t new
missed_worked {r} {new} {s} {t} same h = record { closure = same.closure; seat = missed_further s t h }

pub found_worked : {r two new : Replica} {s t : SeatView} → SameRecords r two → SameClosure two new → (o : Origin) → HasMissed (with_worker s (sees s.own o)) t → HasWorked s r t new
found_worked {r} {two} {new} {s} {t} same closure o h = record { closure = same_trans r two new same.closure closure; seat = found_further s t o h }

-- and is at work, where its rows do not meet the goal
pub found_work : {j : Job} {r new : Replica} {s t : SeatView} → IsAtWork j r s → SameClosure r new → IsReplica new → IsOwn s.made s.kept s.own → (x : Origin)
    → values_in new ≡ values_in r ++ value_in r x ∷ [] → ¬ Meets j.goal.now new.rows.items → HasMissed (with_worker s (sees s.own x)) t → IsAtWork j new t
found_work {j} {r} {new} {s} {t} work closure replica own x more unmet h =
    let worked : HasWorked s r t new = record { closure = closure; seat = found_further s t x h } in
    still_at_work work worked record { working = found_working work.goes.working closure replica own x more h; unmet = unmet }
