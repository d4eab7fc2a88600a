use Rattle.std.proofs.Common.{◌≡◌, map, take, sym, ap, ◌∙◌, arith}
use Rattle.std.proofs.lemmas.List.{take_min, take-map}
use Rattle.ua_reply.specs.Operands.{value_of}
use Rattle.ua_answer_conditions.proofs.clone.arguments_of.Goals as goal

pub returns : goal.returns
returns c =
    let f = value_of c.args.known.now in
    let values = c.args.v.now.values in
    let slice = c.as_slice-entries.ensures in
    let end = c.min-i-end.ensures in
    let same : c.loop-i.i ≡ c.min-i-end.result = omega (arith, c.loop-i-test.false, c.loop-i.auto.i-end) in
    c.loop-i.invariant ∙ ap (λ n. map f (take n c.as_slice-entries.result.now)) (same ∙ end) ∙ ap (map f) (take_min c.args.k c.as_slice-entries.result.now) ∙ ap (λ vs. map f (take c.args.k vs)) slice ∙ sym (take-map f c.args.k values)
