use Rattle.std.proofs.Common.{◌≡◌, ◌+◌, ◌-◌, ◌*◌, ◌<◌, ◌≤◌, ◌^◌, arith, sym, ap, ◌∙◌, subst, length, take}
use Rattle.std.specs.Prelude.{slice_set}
use Rattle.std.specs.List.{AllByRecursion}
use Rattle.std.proofs.Math.Nat.{pow-le-pow_right}
use Rattle.std.proofs.Math.Seq.{take-set-lt}
use Rattle.std.proofs.lemmas.List.{length-take-le}
use Rattle.ua_table.specs.Algebras.{numeral}
use Rattle.ua_table.proofs.Lists.{all_set, all_get_or}
use Rattle.ua_lanes.proofs.LineLaws.{numeral_set, numeral_within}
use Rattle.ua_lanes.proofs.lines.line_in.Goals as goal

pub number_of-start-requires-clause-below : goal.number_of-start-requires-clause-below
number_of-start-requires-clause-below c =
    let xs = take c.args.arity c.args.args in
    let few = c.requires.few in
    let low = c.requires.free in
    let long : length xs ≡ c.args.arity = length-take-le c.args.arity c.args.args (omega (arith, few)) in
    let there = all_get_or (λ x. x < c.args.table.now.size) xs c.args.free 0 (omega (arith, low, long)) c.requires.below in
    subst (AllByRecursion (λ x. x < c.args.table.now.size)) (sym (take-set-lt c.args.arity c.args.args c.args.free 0 c.requires.free))
    (all_set (λ x. x < c.args.table.now.size) (take c.args.arity c.args.args) c.args.free 0 (omega (arith, there)) c.requires.below)

pub pow-step-requires : goal.pow-step-requires
pow-step-requires c =
    let table = c.size.ensures.table in
    let size = c.size.ensures.size in
    let less : c.args.table.now.size ^ (c.args.arity - c.args.free - 1) ≤ c.args.table.now.size ^ c.args.arity = pow-le-pow_right table.inhabited (omega arith) in
    let all : c.args.table.now.size ^ c.args.arity ≡ length c.args.table.now.values = ap (λ k. c.args.table.now.size ^ k) c.requires.arity ∙ sym table.operation.total in
    let few = table.values in
    let e : c.size.result ^ (c.args.arity - c.args.free - 1) ≡ c.args.table.now.size ^ (c.args.arity - c.args.free - 1) = ap (λ n. n ^ (c.args.arity - c.args.free - 1)) size in
    omega (arith, less, all, few, e)

pub returns-clause-numbers : goal.returns-clause-numbers
returns-clause-numbers c y =
    let xs = take c.args.arity c.args.args in
    let few = c.requires.few in
    let long : length xs ≡ c.args.arity = length-take-le c.args.arity c.args.args (omega (arith, few)) in
    let low = c.requires.free in
    let start : c.number_of-start.result ≡ numeral c.args.table.now.size (slice_set xs c.args.free 0) =
    c.number_of-start.ensures.number ∙ ap (numeral c.args.table.now.size) (take-set-lt c.args.arity c.args.args c.args.free 0 c.requires.free) in
    let step : c.pow-step.result ≡ c.args.table.now.size ^ (length xs - c.args.free - 1) = c.pow-step.ensures ∙ (λ i. c.size.ensures.size i ^ (sym long i - c.args.free - 1)) in
    (λ i. start i + y * step i) ∙ sym (numeral_set c.args.table.now.size xs c.args.free y (omega (arith, low, long)))

pub returns-clause-within : goal.returns-clause-within
returns-clause-within c y small =
    let xs = take c.args.arity c.args.args in
    let few = c.requires.few in
    let long : length xs ≡ c.args.arity = length-take-le c.args.arity c.args.args (omega (arith, few)) in
    let low = c.requires.free in
    let start : c.number_of-start.result ≡ numeral c.args.table.now.size (slice_set xs c.args.free 0) =
    c.number_of-start.ensures.number ∙ ap (numeral c.args.table.now.size) (take-set-lt c.args.arity c.args.args c.args.free 0 c.requires.free) in
    let step : c.pow-step.result ≡ c.args.table.now.size ^ (length xs - c.args.free - 1) = c.pow-step.ensures ∙ (λ i. c.size.ensures.size i ^ (sym long i - c.args.free - 1)) in
    subst (λ n. n < length c.args.table.now.values) (sym ((λ i. start i + y * step i) ∙ sym (numeral_set c.args.table.now.size xs c.args.free y (omega (arith, low, long)))))
    (numeral_within c.args.table.now xs c.args.free y c.size.ensures.table (long ∙ c.requires.arity) c.requires.below small)
