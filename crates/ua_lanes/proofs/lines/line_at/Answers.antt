use Rattle.std.proofs.Common.{◌≡◌, ◌+◌, ◌*◌, ◌≤◌, take, replicate, ap, ◌∙◌, arith}
use Rattle.std.specs.Prelude.{slice_index, slice_set}
use Rattle.std.proofs.Math.Nat.{mul-le-mul_right}
use Rattle.std.proofs.lemmas.Simd.{length-replicate}
use Rattle.ua_table.specs.Algebras.{numeral}
use Rattle.ua_columns.specs.inner.Tiles.{value_across}
use Rattle.ua_columns.proofs.TileLaws.{one_more}
use Rattle.ua_lanes.proofs.LineLaws.{zeros_low, zeros_across}
use Rattle.ua_lanes.proofs.lines.line_at.Goals as goal

pub loop-y-init : goal.loop-y-init
loop-y-init g c = record {
  long = length-replicate g.row.PARTS (replicate 16 0);
  bytes = zeros_low 256 g.row.PARTS (omega arith);
  values = λ k less. absurd (omega (arith, less));
  zeros = λ k low. zeros_across g.row.PARTS k;
}

pub overflow_mul-value : goal.overflow_mul-value
overflow_mul-value g c =
    let value = c.value_in-value.result in
    let low = c.value_in-value.ensures.element in
    let next : value + 1 ≤ c.args.table.now.size = omega (arith, low) in
    let times = mul-le-mul_right c.args.scale next in
    let spread : (value + 1) * c.args.scale ≡ value * c.args.scale + c.args.scale = search arith in
    let most = c.requires.scale in
    let some = c.requires.some in
    omega (arith, times, spread, most, some)

pub loop-y-preserved : goal.loop-y-preserved
loop-y-preserved g c =
    let i = c.loop-y.invariant in
    let y = c.loop-y.y in
    let line = c.set_value.new.line in
    let e = c.set_value.ensures in
    let turn : c.value_in-value.result * c.args.scale ≡ c.args.scale * c.value_in-value.result = search arith in
    record {
      long = e.parts;
      bytes = e.bytes;
      values = one_more (λ k. value_across line k ≡ c.args.scale * slice_index c.args.table.now.values (numeral c.args.table.now.size (slice_set (take c.args.arity c.args.args) c.args.free k))) y
          (λ k less. e.others k (λ e. omega (arith, e, less)) ∙ i.values k less)
          (e.value ∙ turn ∙ ap (λ n. c.args.scale * n) (c.value_in-value.ensures.value ∙ ap (slice_index c.args.table.now.values) (c.line_in-start.ensures.numbers y)));
      zeros = λ k more. e.others k (λ e. omega (arith, e, more)) ∙ i.zeros k (omega (arith, more));
    }
