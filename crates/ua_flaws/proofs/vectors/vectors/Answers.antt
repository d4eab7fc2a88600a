use Rattle.std.proofs.Common.{◌≡◌, ℕ, true, ◌∙◌, sym, ap, arith}
use Rattle.ua_table.specs.Algebras.{Vector}
use Rattle.ua_flaws.specs.Shapes.{is_vector, IsOver}
use Rattle.ua_flaws.proofs.FirstLaws.{bad_later, good_more}
use Rattle.ua_flaws.proofs.ShapeLaws.{is_over}
use Rattle.ua_flaws.proofs.vectors.vectors.Goals as goal

pub loop-i-preserved : goal.loop-i-preserved
loop-i-preserved c =
    let v : Vector = c.index-vs-i.result in
    let fine : is_vector c.args.size c.args.width v ≡ true = ap (is_vector c.args.size c.args.width) (sym c.as_slice.ensures) ∙ sym c.is_vector.ensures ∙ c.if-not-is_vector.false in
    let l = c.loop-i-test.true in
    record {
      rest = c.loop-i.invariant.rest ∙ bad_later (λ (i : ℕ) (w : Vector). is_vector c.args.size c.args.width w) c.args.vs.now c.loop-i.i v v (omega arith) c.index-vs-i.is fine;
      done = good_more (IsOver c.args.size c.args.width) c.args.vs.now c.loop-i.i v (omega arith) c.index-vs-i.is c.loop-i.invariant.done (is_over c.args.size c.args.width v fine);
    }
