use Rattle.std.proofs.Common.{◌≡◌, ◌<◌, ◌≤◌, ℕ, List, length, sym, ap, subst, arith, ◌∙◌}
use Rattle.std.specs.List.{AllByRecursion}
use Rattle.std.specs.List.Sorted.{IsStrictlySortedBy}
use Rattle.ua_table.proofs.Lists.{all_weaker}
use Rattle.ua_part.specs.Partitions.{Partition, IsPart}
use Rattle.ua_prod.specs.Congruences.{IsCongruence}
use Rattle.ua_lattice.specs.Lattices.{by_blocks, IsCongruenceList, AreCovers, AreIrreducible}
use Rattle.ua_lattice.specs.inner.Joins.{IsSpannedLattice, AreAmong}
use Rattle.ua_lattice.proofs.OrderLaws.{length_from_members}
use Rattle.ua_lattice.proofs.PrincipalLaws.{congruence_part}
use Rattle.ua_lattice.proofs.WholeLaws.{arranged_length, exceeding_list, spanned_list, congruence_list, covers_within}
use Rattle.ua_lattice.proofs.lattice.congruences.Goals as goal

-- different partitions are no more than those among which they are
few_parts : (parts rows : List Partition) (budget : ℕ) → IsStrictlySortedBy by_blocks parts → AreAmong parts rows → length rows ≤ budget → length parts ≤ budget
few_parts parts rows budget up among few = let long = length_from_members parts rows up among in omega (arith, long, few)

pub returns-then-not-whole : goal.returns-then-not-whole
returns-then-not-whole g c =
    exceeding_list c.take_in_all.new.found.rows.items c.in_ok-list.list.items c.in_ok-list.ensures c.args.a.now c.args.run.now.budget c.in_ok-whole.ensures.congruences (c.in_ok-whole.ensures.exceeds c.if-not-whole.true)

pub take_in_all-requires-clause-found : goal.take_in_all-requires-clause-found
take_in_all-requires-clause-found g c =
    let budget = c.args.run.now.small_budget in
    record {
      algebra = c.size.ensures.algebra;
      spanned = c.in_ok-found.ensures.found;
      within = (let one = ap length c.in_ok-found.ensures.one in let some = c.args.run.now.some_budget in omega (arith, one, some));
      room = omega (arith, budget);
      width = c.in_ok-found.ensures.width;
      row = c.identity_found.ensures.joiner ∙ c.in_ok-joiner.ensures ∙ c.size.ensures.size;
    }

pub take_in_all-requires-clause-parts : goal.take_in_all-requires-clause-parts
take_in_all-requires-clause-parts g c = subst (AllByRecursion (IsCongruence c.args.a.now)) (sym c.as_slice.ensures.value) c.in_ok-parts.ensures.congruences

pub in_order-requires : goal.in_order-requires
in_order-requires g c =
    let a = c.args.a.now in
    all_weaker (IsCongruence a) IsPart (λ p k. congruence_part a p c.size.ensures.algebra.small k) c.take_in_all.new.found.rows.items c.in_ok-whole.ensures.congruences

-- what is found, where it is whole
pub covers_of-requires-clause-list : goal.covers_of-requires-clause-list
covers_of-requires-clause-list g c =
    let a = c.args.a.now in
    let rows = c.take_in_all.new.found.rows.items in
    let whole = c.if-not-whole.false in
    let parts = subst (λ (ps : List Partition). AreAmong ps rows) c.as_slice.ensures.value (c.in_ok-whole.ensures.there whole) in
    subst (IsCongruenceList a) (sym c.as_slice-2.ensures.value)
    (congruence_list rows c.in_ok-list.list.items c.in_ok-list.ensures a c.take_in_all.new.found.generators.items
    (c.in_ok-whole.ensures.found whole).spanned c.in_ok-parts.parts.items
    (c.in_ok-parts.ensures.all
    (few_parts c.in_ok-parts.parts.items rows c.args.run.now.budget c.in_ok-parts.ensures.in_order parts
    (c.in_ok-whole.ensures.found whole).within))
    parts)

pub covers_of-requires-clause-spanned : goal.covers_of-requires-clause-spanned
covers_of-requires-clause-spanned g c =
    let a = c.args.a.now in
    let rows = c.take_in_all.new.found.rows.items in
    let generators = c.take_in_all.new.found.generators.items in
    let spanned = spanned_list rows c.in_ok-list.list.items c.in_ok-list.ensures a generators (c.in_ok-whole.ensures.found c.if-not-whole.false).spanned in
    subst (λ (gens : List Partition). IsSpannedLattice a gens c.as_slice-2.result.now) (sym c.as_slice-generators.ensures.value) (subst (IsSpannedLattice a generators) (sym c.as_slice-2.ensures.value) spanned)

pub covers_of-requires-clause-count : goal.covers_of-requires-clause-count
covers_of-requires-clause-count g c =
    let long = arranged_length c.take_in_all.new.found.rows.items c.in_ok-list.list.items c.in_ok-list.ensures in
    let few = (c.in_ok-whole.ensures.found c.if-not-whole.false).within in
    let small = c.args.run.now.small_budget in
    omega (arith, long, few, small, ap length c.as_slice-2.ensures.value)

pub irreducibles_of-requires-clause-within : goal.irreducibles_of-requires-clause-within
irreducibles_of-requires-clause-within g c =
    let list = c.in_ok-list.list.items in
    let covers = c.in_ok-covers.covers.items in
    let h = subst (λ (ps : List Partition). AreCovers c.args.a.now ps covers) c.as_slice-2.ensures.value c.in_ok-covers.ensures in
    let n : length list ≡ c.len.result = (let l = c.len.ensures in let k = c.in_ok-list.list.ok.0 in omega (arith, l, k)) in
    subst (λ (ps : List (ℕ × ℕ)). AllByRecursion (λ (pair : ℕ × ℕ). pair.1 < c.len.result) ps) (sym c.as_slice-3.ensures.value) (subst (λ m. AllByRecursion (λ (pair : ℕ × ℕ). pair.1 < m) covers) n (covers_within c.args.a.now list covers h))

pub irreducibles_of-requires-clause-count : goal.irreducibles_of-requires-clause-count
irreducibles_of-requires-clause-count g c =
    let long = arranged_length c.take_in_all.new.found.rows.items c.in_ok-list.list.items c.in_ok-list.ensures in
    let few = (c.in_ok-whole.ensures.found c.if-not-whole.false).within in
    let small = c.args.run.now.small_budget in
    let l = c.len.ensures in
    let k = c.in_ok-list.list.ok.0 in
    omega (arith, long, few, small, l, k)

pub returns : goal.returns
returns g c =
    let a = c.args.a.now in
    let rows = c.take_in_all.new.found.rows.items in
    let list = c.in_ok-list.list.items in
    let covers = c.in_ok-covers.covers.items in
    let irreducibles = c.in_ok-irreducibles.irreducibles.items in
    let whole = c.if-not-whole.false in
    let parts = subst (λ (ps : List Partition). AreAmong ps rows) c.as_slice.ensures.value (c.in_ok-whole.ensures.there whole) in
    let long = arranged_length rows list c.in_ok-list.ensures in
    let few = (c.in_ok-whole.ensures.found whole).within in
    record {
      all_of_them =
          congruence_list rows list c.in_ok-list.ensures a c.take_in_all.new.found.generators.items (c.in_ok-whole.ensures.found whole).spanned
          c.in_ok-parts.parts.items
          (c.in_ok-parts.ensures.all
          (few_parts c.in_ok-parts.parts.items rows c.args.run.now.budget c.in_ok-parts.ensures.in_order parts
          (c.in_ok-whole.ensures.found whole).within))
          parts;
      within = omega (arith, long, few);
      covering = subst (λ (ps : List Partition). AreCovers a ps covers) c.as_slice-2.ensures.value c.in_ok-covers.ensures;
      irreducible = subst (λ (ps : List (ℕ × ℕ)). AreIrreducible ps irreducibles) c.as_slice-3.ensures.value c.in_ok-irreducibles.ensures;
    }
