use Rattle.std.proofs.Common.{◌≡◌, ℕ, length, arith, ap, ◌∙◌, sym}
use Rattle.std.specs.Prelude.{slice_index, ◌==◌, filter}
use Rattle.std.specs.List.{range_with_len}
use Rattle.std.proofs.lemmas.Bool.Decides.{nat_tests}
use Rattle.std.proofs.lemmas.List.{length-map}
use Rattle.ua_part.specs.Blocks.{block_of}
use Rattle.ua_part.proofs.BlockLaws.{counted_more}
use Rattle.ua_matrix.proofs.leading.block_len.Goals as goal
use Rattle.ua_matrix.proofs.leading.block_len.Goals.{then-rep, else-rep}

pub loop-y-preserved : goal.loop-y-preserved
loop-y-preserved c =
    let more = counted_more (λ b. slice_index c.args.part.now b == slice_index c.args.part.now c.args.x) c.loop-y.y in
    elim c.if-rep.branch [
      | then-rep w ↦ record { counted = grind (arith, nat_tests); low = omega arith }
      | else-rep w ↦ record { counted = grind (arith, nat_tests); low = omega arith }
    ]

pub returns : goal.returns
returns c =
    let p = c.args.part.now in
    let x = c.args.x in
    let all : c.loop-y.y ≡ length p = (let n = c.size-y-end.ensures.size in omega (arith, n, c.loop-y-test.false, c.loop-y.auto.y-end)) in
    let low = c.loop-y.invariant.low in
    record {
      count = c.loop-y.invariant.counted ∙ ap (λ (n : ℕ). length (filter (λ b. slice_index p b == slice_index p x) (range_with_len 0 n))) all ∙ sym (length-map (block_of p (slice_index p x)) (λ (b : ℕ). (x, b)));
      few = omega (arith, low, all);
    }
