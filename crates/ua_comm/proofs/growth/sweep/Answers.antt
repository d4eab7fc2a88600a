use Rattle.std.proofs.Common.{◌≡◌, ◌<◌, [], length, sym, subst, arith, ⊎_elim}
use Rattle.std.specs.Prelude.{slice_index_or}
use Rattle.std.proofs.lemmas.Bool.{cases_lt}
use Rattle.std.proofs.lemmas.List.Elements.{All-from_recursion}
use Rattle.std.proofs.lemmas.Option.{get_or_from_slice_get}
use Rattle.ua_matrix.specs.Matrices.{AreFour, Fails}
use Rattle.ua_comm.specs.inner.Growths.{IsTakenIn, IsLower}
use Rattle.ua_comm.proofs.GrowthLaws.{swept_growing, swept_above, swept_lower}
use Rattle.ua_comm.proofs.growth.sweep.Goals as goal

pub take_in-requires-clause-matrix : goal.take_in-requires-clause-matrix
take_in-requires-clause-matrix c =
    let matrices = c.args.matrices.now.items in
    let w : c.loop-i.i < length matrices = omega (arith, c.loop-i-test.true, c.len-i-end.ensures) in
    subst (AreFour c.args.a.now.size) (get_or_from_slice_get matrices c.loop-i.i c.get.result.now [] c.get.ensures.vector)
    (All-from_recursion (AreFour c.args.a.now.size) matrices c.requires.matrices c.loop-i.i [] w)

pub loop-i-preserved : goal.loop-i-preserved
loop-i-preserved c =
    let a = c.args.a.now in
    let matrices = c.args.matrices.now.items in
    let i = c.loop-i.i in
    let old = c.loop-i.grown in
    let new = c.in_ok-grown.grown in
    let start = c.args.delta in
    let w : i < length matrices = omega (arith, c.loop-i-test.true, c.len-i-end.ensures) in
    let here = get_or_from_slice_get matrices i c.get.result.now [] c.get.ensures.vector in
    let taken : IsTakenIn a old (slice_index_or matrices i []) new = subst (λ m. IsTakenIn a old m new) (sym here) c.in_ok-grown.ensures in
    let inv = c.loop-i.invariant in
    record {
      growing = swept_growing a matrices start old new i w inv.growing inv.above taken;
      above = swept_above a matrices start old new i w inv.growing inv.above taken;
      same = λ e. absurd (omega (arith, e, c.loop-i.auto.i));
      lower = λ _. ⊎_elim
          (λ less. swept_lower a matrices start old new i w inv.growing inv.above taken (inv.lower less))
          (λ more.
          let is : i ≡ c.args.from = omega (arith, more, c.loop-i.auto.i) in
          let e = inv.same is in
          subst (IsLower new) e (taken.lower (subst (λ p. Fails p (slice_index_or matrices i [])) (sym e) (subst (λ k. Fails start (slice_index_or matrices k [])) (sym is) c.requires.fails))))
          (cases_lt c.args.from i);
    }
