use Rattle.std.proofs.Common.{◌∷◌, [], ◌++◌, List, ℕ, length, ap, sym, ◌∙◌, subst, arith, length-append, append_assoc}
use Rattle.std.specs.List.{AllByRecursion, flat_map}
use Rattle.std.specs.Vec.Iter.{into_iter_items}
use Rattle.ua_table.specs.Counting.{times}
use Rattle.ua_jobs.specs.declared.serving.Served.{Served}
use Rattle.ua_jobs.specs.declared.views.Taking.{Taking}
use Rattle.ua_jobs.specs.Seats.{PassView}
use Rattle.ua_jobs.specs.Harvests.{numbers_of}
use Rattle.ua_jobs.specs.inner.Batches.{IsOtherHarvest, joined_times}
use Rattle.ua_jobs.proofs.BatchLaws.{taken_of_harvest, joined_more, joined_pass}
use Rattle.ua_jobs.proofs.gathering.join_all.Goals as goal

pub harvests-preserved : goal.harvests-preserved
harvests-preserved g c =
    let i = c.harvests.invariant in
    let served = c.in-Some.served in
    let items = c.in-Some.ensures.items in
    let rest = subst (AllByRecursion (IsOtherHarvest c.args.queue.now c.args.first.now.own.jobs)) items i.rest in
    let appended = c.in_ok-append.ensures.items in
    let together : List (Served g.row.O.Denot) → List (ℕ × g.row.O.Denot) = λ l. flat_map (λ (s : Served g.row.O.Denot). s.answers.items) l in
    let old = c.harvests.first in
    let other = served.pass in
    let new : Taking = record { number = other.own.number; taken = other.own.taken } in
    record {
      pass = joined_pass c.args.first.now old c.join.new.pass other i.pass c.join.ensures;
      count =
          let e = ap length items in
          let j = ap (λ (p : PassView). length p.own.joined) c.join.ensures in
          omega (arith, e, j, length-append old.own.joined (new ∷ []), i.count);
      answers =
          ap (λ (l : List (ℕ × g.row.O.Denot)). l ++ together (into_iter_items c.next.new.self)) appended
          ∙ append_assoc c.harvests.answers.items served.answers.items (together (into_iter_items c.next.new.self))
          ∙ ap (λ (l : List (Served g.row.O.Denot)). c.harvests.answers.items ++ together l) (sym items)
          ∙ i.answers;
      numbers = λ x.
          ap (λ l. times x (numbers_of l)) appended
          ∙ joined_more x old.own other.own c.harvests.answers.items served.answers.items (i.numbers x) (taken_of_harvest rest.0.began served rest.0.harvest c.in-Empty.is)
          ∙ ap (λ (p : PassView). joined_times x p.own) (sym c.join.ensures);
      rest = rest.1;
    }
