use Rattle.std.proofs.Common.{◌≡◌, ◌<◌, ◌*◌, ℕ, List, length, sym, ap, ◌∙◌, subst, arith, Option}
use Rattle.std.specs.Prelude.{IfSome}
use Rattle.std.specs.List.{AllByRecursion}
use Rattle.std.specs.List.Sorted.{IsStrictlyIncreasing}
use Rattle.ua_table.specs.Algebras.{FiniteAlgebra}
use Rattle.ua_prod.specs.Congruences.{IsCg}
use Rattle.ua_prod.proofs.EscapeLaws.{set_few}
use Rattle.ua_cong.specs.Closings.{AreElements}
use Rattle.ua_matrix.specs.Deltas.{diagonal_pairs}
use Rattle.ua_matrix.specs.Squares.{number_of}
use Rattle.ua_matrix.specs.inner.Squares.{IsSubsquare}
use Rattle.ua_matrix.proofs.SquareLaws.{pairs_increasing, pairs_low, diagonal_elements, subsquare_is}
use Rattle.ua_matrix.proofs.deltas.delta_of.Goals as goal

pub subsquare-requires-clause-increasing : goal.subsquare-requires-clause-increasing
subsquare-requires-clause-increasing c = subst IsStrictlyIncreasing (sym (c.as_slice.ensures.value ∙ c.in_ok-pairs.ensures)) (pairs_increasing c.args.beta.now)

pub subsquare-requires-clause-range : goal.subsquare-requires-clause-range
subsquare-requires-clause-range c =
    let n = c.args.a.now.size in
    subst (AllByRecursion (λ k. k < n * n)) (sym (c.as_slice.ensures.value ∙ c.in_ok-pairs.ensures)) (pairs_low c.args.beta.now n c.requires.beta.size)

pub cg-requires : goal.cg-requires
cg-requires c =
    let h = subst (λ (o : Option FiniteAlgebra). IfSome o (IsSubsquare c.args.a.now c.as_slice.result.now)) c.in-Some.is c.in_ok-b.ensures in
    let same = c.as_slice.ensures.value ∙ sym c.as_slice-2.ensures.value in
    let k = subst (λ (ps : List ℕ). IsSubsquare c.args.a.now ps c.in-Some.b) same h in
    subst (AllByRecursion (AreElements c.in-Some.b)) (sym (c.as_slice-3.ensures.value ∙ c.in_ok-gens.ensures)) (diagonal_elements c.args.a.now c.as_slice-2.result.now c.in-Some.b (length c.args.alpha.now) c.args.alpha.now k)

pub returns : goal.returns
returns c =
    let a = c.args.a.now in
    let alpha = c.args.alpha.now in
    let beta = c.args.beta.now in
    let b = c.in-Some.b in
    let pairs = c.in_ok-pairs.pairs.items in
    let h = subst (λ (o : Option FiniteAlgebra). IfSome o (IsSubsquare c.args.a.now c.as_slice.result.now)) c.in-Some.is c.in_ok-b.ensures in
    let k = subst (λ (ps : List ℕ). IsSubsquare a ps b) c.as_slice.ensures.value h in
    let up = subst IsStrictlyIncreasing (sym c.in_ok-pairs.ensures) (pairs_increasing beta) in
    let low = subst (AllByRecursion (λ j. j < a.size * a.size)) (sym c.in_ok-pairs.ensures) (pairs_low beta a.size c.requires.beta.size) in
    let many = set_few pairs (a.size * a.size) up low in
    let square : c.size-size.result * c.size-size.result ≡ a.size * a.size = (λ i. c.size-size.ensures.size i * c.size-size.ensures.size i) in
    record {
      algebra = b;
      pairs = c.in_ok-pairs.ensures;
      size = ap (λ (d : FiniteAlgebra). d.size) k.is;
      few = omega (arith, many, square, c.if-size-gt-SIZE.false);
      is = record {
        pairs = subsquare_is a c.size-size.ensures.algebra.algebra beta c.requires.beta pairs c.in_ok-pairs.ensures up b k;
        generated = subst (λ (ps : List (ℕ × ℕ)). IsCg b ps c.in_ok-blocks.blocks)
            (c.as_slice-3.ensures.value ∙ c.in_ok-gens.ensures ∙ (λ i. diagonal_pairs (number_of (c.requires.alpha.size i) (c.as_slice-2.ensures.value i)) alpha))
            c.in_ok-blocks.ensures;
      };
    }
