use Rattle.std.proofs.Common.{◌≡◌, ◌*◌, ◌≤◌, sym, ap, ◌∙◌, arith}
use Rattle.std.proofs.Math.Nat.{mul-le-mul_left}
use Rattle.ua_close.proofs.EnoughLaws.{cardinality_more}
use Rattle.ua_close.proofs.widths.records_for.Goals as goal

pub loop-i-preserved : goal.loop-i-preserved
loop-i-preserved c =
    let a = c.algebra_at.result.now in
    let i = c.loop-i.invariant in
    let vectors = c.from.ensures in
    let size : c.from-in-loop-i.result ≡ a.size = c.from-in-loop-i.ensures ∙ c.size.ensures.size in
    let inhabited = c.size.ensures.algebra.algebra.inhabited in
    let low = c.if-more-from.false in
    let budget = c.from-in-loop-i-2.ensures in
    let some = i.some in
    record {
      some = (let one : 1 ≤ c.from-in-loop-i.result = omega (arith, size, inhabited) in let m = mul-le-mul_left c.from.result one in omega (arith, m, vectors, some));
      within = omega (arith, low, budget);
      are = cardinality_more c.args.frame.now c.loop-i.i a c.algebra_at.ensures.algebra ∙ ap (λ k. k * a.size) i.are ∙ (λ j. sym vectors j * sym size j);
    }
