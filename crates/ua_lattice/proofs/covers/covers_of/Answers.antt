use Rattle.std.proofs.Common.{◌≡◌, ◌+◌, ◌<◌, ◌++◌, ◌∙◌, ℕ, List, length, sym, ap, subst, arith}
use Rattle.std.specs.List.{AllByRecursion}
use Rattle.ua_table.proofs.Lists.{all_weaker}
use Rattle.ua_part.specs.Partitions.{Partition}
use Rattle.ua_lattice.specs.inner.Joins.{HasJoins}
use Rattle.ua_lattice.specs.inner.Places.{AreJoinPlaces, IsJoinPlace, AreLeast, AreCoversOfFirst, pairs_from}
use Rattle.ua_lattice.proofs.CoverLaws.{list_ordered, generators_join, generators_size, upper_covers}
use Rattle.ua_lattice.proofs.PairLaws.{covers_none, covers_more, covers_all}
use Rattle.ua_lattice.proofs.covers.covers_of.Goals as goal

pub loop-i-init : goal.loop-i-init
loop-i-init c = record { covers = covers_none c.args.algebra.now c.args.list.now c.new-covers.result.items c.new-covers.ensures.items; joiner = c.in_ok-rows.ensures.joiner }

pub joins_above-requires-clause-joins : goal.joins_above-requires-clause-joins
joins_above-requires-clause-joins c =
    let a = c.args.algebra.now in
    let generators = c.args.generators.now in
    subst (λ (rows : List Partition). AllByRecursion (λ q. HasJoins rows q rows) generators) (sym c.in_ok-rows.ensures.rows) (generators_join a generators c.args.list.now c.requires.list c.requires.spanned)

pub joins_above-requires-clause-sizes : goal.joins_above-requires-clause-sizes
joins_above-requires-clause-sizes c =
    let a = c.args.algebra.now in
    let generators = c.args.generators.now in
    subst (λ n. AllByRecursion (λ (q : Partition). length q ≡ n) generators) (sym (c.in_ok-rows.ensures.width ∙ c.size.ensures.size)) (generators_size a generators c.args.list.now c.requires.list c.requires.spanned)

pub keep_least-requires-clause-list : goal.keep_least-requires-clause-list
keep_least-requires-clause-list c = list_ordered c.args.algebra.now c.args.generators.now c.args.list.now c.requires.list c.requires.spanned

pub keep_least-requires-clause-within : goal.keep_least-requires-clause-within
keep_least-requires-clause-within c =
    let list = c.args.list.now in
    let generators = c.args.generators.now in
    let places = c.joins_above.new.places.items in
    let h : AreJoinPlaces list generators c.loop-i.i places = subst (λ (rows : List Partition). AreJoinPlaces rows generators c.loop-i.i places) c.in_ok-rows.ensures.rows c.in_ok-joins_above.ensures.places in
    subst (AllByRecursion (λ j. j < length list)) (sym c.as_slice.ensures.value) (all_weaker (IsJoinPlace list generators c.loop-i.i) (λ j. j < length list) (λ j p. p.within) places h.joins)

pub loop-i-preserved : goal.loop-i-preserved
loop-i-preserved c =
    let a = c.args.algebra.now in
    let list = c.args.list.now in
    let generators = c.args.generators.now in
    let i = c.loop-i.i in
    let places = c.joins_above.new.places.items in
    let least = c.keep_least.new.least.items in
    let h : AreJoinPlaces list generators i places = subst (λ (rows : List Partition). AreJoinPlaces rows generators i places) c.in_ok-rows.ensures.rows c.in_ok-joins_above.ensures.places in
    let l : AreLeast list places least = subst (λ (js : List ℕ). AreLeast list js least) c.as_slice.ensures.value c.in_ok-keep_least.ensures in
    let within : i < length list = omega (arith, c.loop-i-test.true, c.len-i-end.ensures.len, ap length c.in_ok-rows.ensures.rows) in
    let upper = upper_covers a generators list c.requires.list c.requires.spanned i within places h least l in
    let new = c.in_ok-push_pairs.ensures ∙ ap (λ (js : List ℕ). c.loop-i.covers.items ++ pairs_from i js) c.as_slice-in-loop-i.ensures.value in
    record {
      covers = subst (AreCoversOfFirst a list (i + 1)) (sym new) (covers_more a list i c.loop-i.covers.items least c.loop-i.invariant.covers upper);
      joiner = c.in_ok-joins_above.ensures.joiner ∙ c.loop-i.invariant.joiner;
    }

pub returns : goal.returns
returns c =
    let all : length c.args.list.now ≡ c.loop-i.i = (let rows = ap length c.in_ok-rows.ensures.rows in let end = c.len-i-end.ensures.len in omega arith) in
    covers_all c.args.algebra.now c.args.list.now c.loop-i.i c.loop-i.covers.items all c.loop-i.invariant.covers
