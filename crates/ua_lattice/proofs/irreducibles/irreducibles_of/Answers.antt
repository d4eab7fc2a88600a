use Rattle.std.proofs.Common.{◌≡◌, ◌+◌, ◌<◌, ◌∙◌, ℕ, List, Vec, Global, length, get_or, sym, ap, arith, subst}
use Rattle.std.specs.List.{AllByRecursion}
use Rattle.std.proofs.lemmas.List.FromFn.{length-map-range_with_len, get_or-map-range_with_len}
use Rattle.ua_lattice.specs.Lattices.{lower_covers}
use Rattle.ua_lattice.proofs.CountLaws.{AreIrreducibleOfFirst, irreducible_yes, irreducible_no, irreducible_all}
use Rattle.ua_lattice.proofs.irreducibles.irreducibles_of.Goals as goal
use Rattle.ua_lattice.proofs.irreducibles.irreducibles_of.Goals.{then-index-eq1+in_ok-push, else-index-eq1}

pub index-requires : goal.index-requires
index-requires c =
    let n = ap length c.in_ok-counts.ensures in
    omega (arith, n, length-map-range_with_len (lower_covers c.args.covers.now) 0 c.args.count, c.loop-j-test.true, c.in_ok-counts.counts.ok.0)

pub loop-j-preserved : goal.loop-j-preserved
loop-j-preserved c =
    let covers = c.args.covers.now in
    let j = c.loop-j.j in
    let h = c.loop-j.invariant in
    let count : c.index.result.now ≡ lower_covers covers j =
    c.index.ensures ∙ ap (λ (xs : List ℕ). get_or xs j c.index.result.now) c.in_ok-counts.ensures
    ∙ get_or-map-range_with_len (lower_covers covers) 0 c.args.count j j c.index.result.now c.loop-j-test.true (omega arith) in
    elim c.if-index-eq1.branch [
      | then-index-eq1+in_ok-push w ↦
          let one = sym count ∙ w.if-index-eq1.true in
          subst (AreIrreducibleOfFirst covers (j + 1)) (sym (ap (λ (v : Vec ℕ Global). v.items) w.places-is ∙ w.in_ok-push.ensures.items)) (irreducible_yes covers j c.loop-j.places.items h one)
      | else-index-eq1 w ↦
          subst (AreIrreducibleOfFirst covers (j + 1)) (sym (ap (λ (v : Vec ℕ Global). v.items) w.places-is)) (irreducible_no covers j c.loop-j.places.items h (λ e. w.if-index-eq1.false (count ∙ e)))
    ]

pub returns : goal.returns
returns c =
    let all : c.loop-j.j ≡ c.args.count = omega arith in
    irreducible_all c.args.covers.now c.loop-j.j c.loop-j.places.items c.loop-j.invariant (subst (λ n. AllByRecursion (λ (pair : ℕ × ℕ). pair.1 < n) c.args.covers.now) (sym all) c.requires.within)
