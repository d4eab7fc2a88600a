use Rattle.std.proofs.Common.{[], ◌∙◌, ℕ, List, eqb, sym, subst}
use Rattle.std.specs.Prelude.{Contains}
use Rattle.std.specs.List.Sorted.{IsStrictlyIncreasing}
use Rattle.std.proofs.lemmas.List.{get_or_default}
use Rattle.std.proofs.lemmas.List.Elements.{All-from_recursion}
use Rattle.std.proofs.lemmas.List.Filters.{dedup_is}
use Rattle.std.proofs.lemmas.List.Sorted.{Contains-permutation, IsPermutation-sym}
use Rattle.std.proofs.lemmas.List.Kept.{Contains-dedup_nat, Contains-from_dedup}
use Rattle.std.proofs.lemmas.Map.Keys.{IsStrictlyIncreasing-dedup}
use Rattle.ua_part.specs.Partitions.{Partition}
use Rattle.ua_lattice.specs.inner.Joins.{HasJoins}
use Rattle.ua_lattice.specs.inner.Places.{AreJoinPushed}
use Rattle.ua_lattice.proofs.CoverLaws.{places_more, places_all, places_moved}
use Rattle.ua_lattice.proofs.covers.joins_above.Goals as goal

pub push_join-requires-clause-joins : goal.push_join-requires-clause-joins
push_join-requires-clause-joins c =
    let rows = c.args.rows.now.items in
    let generators = c.args.generators.now in
    subst (λ (q : Partition). HasJoins rows q rows) (sym c.index-generators-k.is) (All-from_recursion (λ q. HasJoins rows q rows) generators c.requires.joins c.loop-k.k c.index-generators-k.result c.loop-k-test.true)

pub loop-k-preserved : goal.loop-k-preserved
loop-k-preserved c =
    let rows = c.args.rows.now.items in
    let generators = c.args.generators.now in
    let k = c.loop-k.k in
    let generator = c.index-generators-k.is ∙ get_or_default generators k c.index-generators-k.result [] c.loop-k-test.true in
    let old = c.loop-k.places.items in
    let new = c.push_join.new.places.items in
    record {
      places = places_more rows generators c.args.i k old new c.loop-k-test.true (subst (λ (q : Partition). AreJoinPushed rows c.args.i q old new) generator c.in_ok-push_join.ensures.pushed) c.loop-k.invariant.places;
      joiner = c.in_ok-push_join.ensures.joiner ∙ c.loop-k.invariant.joiner;
    }

pub returns-clause-places : goal.returns-clause-places
returns-clause-places c =
    let rows = c.args.rows.now.items in
    let generators = c.args.generators.now in
    let old = c.loop-k.places.items in
    let sorted = c.sort_unstable.new.self.items in
    let new = c.dedup.new.self.items in
    let is = dedup_is eqb sorted new c.dedup.ensures.filtered in
    let order = c.sort_unstable.ensures.permutation in
    places_moved rows generators c.args.i old new
    (λ j k. Contains-permutation sorted old j (IsPermutation-sym old sorted order) (Contains-from_dedup eqb sorted j (subst (λ (js : List ℕ). Contains js j) is k)))
    (λ j k. subst (λ (js : List ℕ). Contains js j) (sym is) (Contains-dedup_nat sorted j (Contains-permutation old sorted j order k)))
    (places_all rows generators c.args.i c.loop-k.k old c.loop-k-test.false c.loop-k.invariant.places)

pub returns-clause-in_order : goal.returns-clause-in_order
returns-clause-in_order c =
    subst IsStrictlyIncreasing (sym (dedup_is eqb c.sort_unstable.new.self.items c.dedup.new.self.items c.dedup.ensures.filtered)) (IsStrictlyIncreasing-dedup c.sort_unstable.new.self.items c.sort_unstable.ensures.sorted)
