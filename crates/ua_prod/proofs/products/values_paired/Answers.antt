use Rattle.std.proofs.Common.{◌+◌, ◌*◌, ◌^◌, ◌<◌, ◌∷◌, [], ◌++◌, length, map, ap, sym, subst, ◌∙◌, arith}
use Rattle.std.specs.List.{AllByRecursion, range_with_len}
use Rattle.std.proofs.lemmas.List.{length-map, take_all}
use Rattle.ua_table.specs.Algebras.{numeral}
use Rattle.ua_prod.specs.Constructions.{tuples_among, first_of, second_of}
use Rattle.ua_prod.proofs.ProductLaws.{firsts_below, seconds_below, numbers_mapped, number_within, value_mapped, tuples_of_pairs, paired_value, paired_more}
use Rattle.ua_prod.proofs.products.values_paired.Goals as goal

pub tuple_numbers-requires-clause-below : goal.tuple_numbers-requires-clause-below
tuple_numbers-requires-clause-below c =
    let o = c.args.o.now in
    let p = c.args.p.now in
    let digits = c.as_slice.ensures.value ∙ c.requires.firsts in
    subst (λ n. AllByRecursion (λ x. x < n) c.as_slice.result.now) (sym c.size.ensures.size) (subst (AllByRecursion (λ x. x < o.size)) (sym digits) (firsts_below o.size p.size c.size-size.ensures.table.inhabited))

pub tuple_numbers-requires-2-clause-below : goal.tuple_numbers-requires-2-clause-below
tuple_numbers-requires-2-clause-below c =
    let o = c.args.o.now in
    let p = c.args.p.now in
    let digits = c.as_slice-2.ensures.value ∙ c.requires.seconds in
    subst (λ n. AllByRecursion (λ x. x < n) c.as_slice-2.result.now) (sym c.size-size.ensures.size) (subst (AllByRecursion (λ x. x < p.size)) (sym digits) (seconds_below o.size p.size c.size-size.ensures.table.inhabited))

pub index-requires-in-loop-i : goal.index-requires-in-loop-i
index-requires-in-loop-i c =
    let o = c.args.o.now in
    let p = c.args.p.now in
    let pairs = range_with_len 0 (o.size * p.size) in
    let lefts = numbers_mapped (first_of p.size) o.size pairs c.args.pairs.now.firsts.items c.in_ok-lefts.lefts.items o.arity c.requires.firsts
    (c.in_ok-lefts.ensures.numbers ∙ (λ j. map (numeral (c.size.ensures.size j)) (tuples_among (c.as_slice.ensures.value j) (c.arity.ensures.arity j)))) in
    let rights = numbers_mapped (second_of p.size) p.size pairs c.args.pairs.now.seconds.items c.in_ok-rights.rights.items o.arity c.requires.seconds
    (c.in_ok-rights.ensures.numbers ∙ (λ j. map (numeral (c.size-size.ensures.size j)) (tuples_among (c.as_slice-2.ensures.value j) ((c.arity-2.ensures.arity ∙ sym c.requires.arity) j)))) in
    let within : c.loop-i.i < length (tuples_of_pairs c.args.o.now c.args.p.now) =
    (let n = ap length lefts ∙ length-map (tuples_of_pairs o p) (λ t. numeral o.size (map (first_of p.size) t)) in
    let m = c.in_ok-lefts.lefts.ok.0 in let k = c.len-i-end.ensures in let w = c.loop-i-test.true in omega (arith, n, m, k, w)) in
    let there : c.loop-i.i < length c.in_ok-rights.rights.items = (let n = ap length rights ∙ length-map (tuples_of_pairs o p) (λ t. numeral p.size (map (second_of p.size) t)) in omega (arith, n, within)) in
    let count = c.in_ok-rights.rights.ok.0 in
    omega (arith, there, count)

pub bounds-values-index-in-loop-i : goal.bounds-values-index-in-loop-i
bounds-values-index-in-loop-i c =
    let o = c.args.o.now in
    let p = c.args.p.now in
    let pairs = range_with_len 0 (o.size * p.size) in
    let lefts = numbers_mapped (first_of p.size) o.size pairs c.args.pairs.now.firsts.items c.in_ok-lefts.lefts.items o.arity c.requires.firsts
    (c.in_ok-lefts.ensures.numbers ∙ (λ j. map (numeral (c.size.ensures.size j)) (tuples_among (c.as_slice.ensures.value j) (c.arity.ensures.arity j)))) in
    let rights = numbers_mapped (second_of p.size) p.size pairs c.args.pairs.now.seconds.items c.in_ok-rights.rights.items o.arity c.requires.seconds
    (c.in_ok-rights.ensures.numbers ∙ (λ j. map (numeral (c.size-size.ensures.size j)) (tuples_among (c.as_slice-2.ensures.value j) ((c.arity-2.ensures.arity ∙ sym c.requires.arity) j)))) in
    let within : c.loop-i.i < length (tuples_of_pairs c.args.o.now c.args.p.now) =
    (let n = ap length lefts ∙ length-map (tuples_of_pairs o p) (λ t. numeral o.size (map (first_of p.size) t)) in
    let m = c.in_ok-lefts.lefts.ok.0 in let k = c.len-i-end.ensures in let w = c.loop-i-test.true in omega (arith, n, m, k, w)) in
    let there : c.loop-i.i < length c.in_ok-rights.rights.items = (let n = ap length rights ∙ length-map (tuples_of_pairs o p) (λ t. numeral p.size (map (second_of p.size) t)) in omega (arith, n, within)) in
    let number =
    number_within p c.in_ok-rights.rights.items c.loop-i.i c.index-in-loop-i.result.now c.values-in-loop-i.ensures.table
    (subst (λ b. AllByRecursion (λ m. m < b) c.in_ok-rights.rights.items) (λ j. c.size-size.ensures.size j ^ c.arity-2.ensures.arity j)
    c.in_ok-rights.ensures.below)
    there c.index-in-loop-i.ensures in
    let values = ap length c.values-in-loop-i.ensures.values in
    omega (arith, number, values)

pub loop-i-preserved : goal.loop-i-preserved
loop-i-preserved c =
    let o = c.args.o.now in
    let p = c.args.p.now in
    let pairs = range_with_len 0 (o.size * p.size) in
    let lefts = numbers_mapped (first_of p.size) o.size pairs c.args.pairs.now.firsts.items c.in_ok-lefts.lefts.items o.arity c.requires.firsts
    (c.in_ok-lefts.ensures.numbers ∙ (λ j. map (numeral (c.size.ensures.size j)) (tuples_among (c.as_slice.ensures.value j) (c.arity.ensures.arity j)))) in
    let rights = numbers_mapped (second_of p.size) p.size pairs c.args.pairs.now.seconds.items c.in_ok-rights.rights.items o.arity c.requires.seconds
    (c.in_ok-rights.ensures.numbers ∙ (λ j. map (numeral (c.size-size.ensures.size j)) (tuples_among (c.as_slice-2.ensures.value j) ((c.arity-2.ensures.arity ∙ sym c.requires.arity) j)))) in
    let within : c.loop-i.i < length (tuples_of_pairs c.args.o.now c.args.p.now) =
    (let n = ap length lefts ∙ length-map (tuples_of_pairs o p) (λ t. numeral o.size (map (first_of p.size) t)) in
    let m = c.in_ok-lefts.lefts.ok.0 in let k = c.len-i-end.ensures in let w = c.loop-i-test.true in omega (arith, n, m, k, w)) in
    let left = value_mapped (first_of p.size) o c.values.result.now c.in_ok-lefts.lefts.items (tuples_of_pairs o p) c.loop-i.i c.index.result.now c.from.result c.values.ensures.values lefts within c.index.ensures c.from.ensures in
    let right =
    value_mapped (second_of p.size) p c.values-in-loop-i.result.now c.in_ok-rights.rights.items (tuples_of_pairs o p) c.loop-i.i
    c.index-in-loop-i.result.now c.from-in-loop-i.result c.values-in-loop-i.ensures.values rights within c.index-in-loop-i.ensures
    c.from-in-loop-i.ensures in
    paired_more o p c.loop-i.values.items c.push.new.self.items c.loop-i.i c.from.result c.from-in-loop-i.result within c.loop-i.invariant
    (c.in_ok-push.ensures.items ∙ (λ j. c.loop-i.values.items ++ (c.from.result * c.size-size.ensures.size j + c.from-in-loop-i.result) ∷ []))
    left right

pub returns : goal.returns
returns c =
    let o = c.args.o.now in
    let p = c.args.p.now in
    let pairs = range_with_len 0 (o.size * p.size) in
    let lefts = numbers_mapped (first_of p.size) o.size pairs c.args.pairs.now.firsts.items c.in_ok-lefts.lefts.items o.arity c.requires.firsts
    (c.in_ok-lefts.ensures.numbers ∙ (λ j. map (numeral (c.size.ensures.size j)) (tuples_among (c.as_slice.ensures.value j) (c.arity.ensures.arity j)))) in
    let all =
    take_all c.loop-i.i (tuples_of_pairs o p)
    (let n = ap length lefts ∙ length-map (tuples_of_pairs o p) (λ t. numeral o.size (map (first_of p.size) t)) in
    let m = c.in_ok-lefts.lefts.ok.0 in let k = c.len-i-end.ensures in let w = c.loop-i-test.false in omega (arith, n, m, k, w)) in
    c.loop-i.invariant ∙ ap (map (paired_value o p)) all
