use Rattle.std.proofs.Common.{◌≡◌, ◌∷◌, [], ◌++◌, ◌∙◌, List, length, ap, sym, subst, arith}
use Rattle.std.specs.Prelude.{Contains}
use Rattle.ua_table.proofs.Lists.{all_weaker}
use Rattle.ua_part.specs.Partitions.{Partition, IsPartition}
use Rattle.ua_prod.specs.Congruences.{IsCongruence}
use Rattle.ua_lattice.specs.inner.Joins.{IsSpannedLattice}
use Rattle.ua_lattice.proofs.FoundLaws.{contains_found, old_among, goes_congruences, generator_there, lattice_more}
use Rattle.ua_lattice.proofs.joins.take_in.Goals as goal

pub copy-requires-clause-size : goal.copy-requires-clause-size
copy-requires-clause-size c = c.requires.congruence.size ∙ sym c.requires.found.row

pub copy-requires-clause-few : goal.copy-requires-clause-few
copy-requires-clause-few c = omega (arith, c.requires.congruence.size, c.requires.found.algebra.small)

pub returns-then-is_some-clause-found : goal.returns-then-is_some-clause-found
returns-then-is_some-clause-found c = λ _. record {
  algebra = c.requires.found.algebra;
  spanned = c.requires.found.spanned;
  within = c.requires.found.within;
  room = c.requires.found.room;
  width = c.requires.found.width;
  row = ap length c.copy.ensures ∙ c.requires.congruence.size;
}

pub returns-then-is_some-clause-congruences : goal.returns-then-is_some-clause-congruences
returns-then-is_some-clause-congruences c = c.requires.found.spanned.congruences

pub returns-then-is_some-clause-there : goal.returns-then-is_some-clause-there
returns-then-is_some-clause-there c = λ _.
    let rows = c.args.found.now.rows.items in
    let is = c.as_slice.ensures.value ∙ c.copy.ensures in
    subst (Contains rows) is (contains_found rows c.as_slice.result.now c.find.result (sym c.is_some.ensures ∙ c.if-is_some.true) c.find.ensures.found)

pub enter_joins-requires-clause-within : goal.enter_joins-requires-clause-within
enter_joins-requires-clause-within c = c.requires.found.within

pub enter_joins-requires-clause-room : goal.enter_joins-requires-clause-room
enter_joins-requires-clause-room c = omega (arith, c.requires.found.room)

pub enter_joins-requires-clause-partitions : goal.enter_joins-requires-clause-partitions
enter_joins-requires-clause-partitions c =
    all_weaker (IsCongruence c.args.search.now.algebra.now) IsPartition (λ p h. h.partition) c.args.found.now.rows.items c.requires.found.spanned.congruences

pub enter_joins-requires-clause-width : goal.enter_joins-requires-clause-width
enter_joins-requires-clause-width c = c.requires.found.width ∙ sym c.requires.congruence.size

pub enter_joins-requires-clause-joiner : goal.enter_joins-requires-clause-joiner
enter_joins-requires-clause-joiner c = ap length c.copy.ensures

pub enter_joins-requires-clause-few : goal.enter_joins-requires-clause-few
enter_joins-requires-clause-few c = omega (arith, c.requires.congruence.size, c.requires.found.algebra.small)

pub returns-clause-found : goal.returns-clause-found
returns-clause-found c = λ whole.
    let a = c.args.search.now.algebra.now in
    let old = c.args.found.now in
    let new = c.enter_joins.new.rows.items in
    let generators : c.push.new.self.items ≡ old.generators.items ++ c.args.part.now ∷ [] = c.in_ok-push.ensures.items ∙ ap (λ (p : Partition). old.generators.items ++ p ∷ []) c.in_ok-copy.ensures in
    record {
      algebra = c.requires.found.algebra;
      spanned = subst (λ (gens : List Partition). IsSpannedLattice a gens new) (sym generators)
          (lattice_more a old.generators.items old.rows.items c.args.part.now new c.requires.found.algebra.algebra c.requires.found.spanned c.requires.congruence c.in_ok-whole.ensures.joins (c.in_ok-whole.ensures.all whole));
      within = c.in_ok-whole.ensures.within whole;
      room = c.requires.found.room;
      width = c.in_ok-whole.ensures.width ∙ c.requires.found.width;
      row = c.in_ok-whole.ensures.joiner ∙ ap length c.copy.ensures ∙ c.requires.congruence.size;
    }

pub returns-clause-kept : goal.returns-clause-kept
returns-clause-kept c = λ _. old_among c.args.found.now.rows.items c.args.part.now c.enter_joins.new.rows.items c.in_ok-whole.ensures.joins

pub returns-clause-there : goal.returns-clause-there
returns-clause-there c = λ whole.
    let old = c.args.found.now in
    generator_there c.args.search.now.algebra.now old.generators.items old.rows.items c.args.part.now c.enter_joins.new.rows.items
    c.requires.found.algebra.algebra c.requires.found.spanned c.requires.congruence c.in_ok-whole.ensures.joins (c.in_ok-whole.ensures.all whole)

pub returns-clause-congruences : goal.returns-clause-congruences
returns-clause-congruences c =
    let old = c.args.found.now in
    goes_congruences c.args.search.now.algebra.now old.generators.items old.rows.items c.args.part.now c.enter_joins.new.rows.items c.requires.found.algebra.algebra c.requires.found.spanned c.requires.congruence c.in_ok-whole.ensures.joins
