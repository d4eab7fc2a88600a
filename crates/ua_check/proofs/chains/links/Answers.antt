use Rattle.std.proofs.Common.{◌<◌, [], length, map, get_or, sym, ap, ◌∙◌, arith}
use Rattle.std.specs.Option.{option_map}
use Rattle.std.proofs.lemmas.List.{length-map, get_or-map}
use Rattle.ua_table.specs.Algebras.{arities_of}
use Rattle.ua_table.specs.Terms.{Generator}
use Rattle.ua_term.specs.Steps.{written_term}
use Rattle.ua_flaws.specs.declared.flaws.Flaw.TheVariants as flaw
use Rattle.ua_check.specs.Chains.{is_in_chain}
use Rattle.ua_flaws.proofs.FirstLaws.{bad_here, bad_later}
use Rattle.ua_check.proofs.chains.links.Goals as goal

pub returns-then-not-is_in_chain : goal.returns-then-not-is_in_chain
returns-then-not-is_in_chain c =
    let tree = written_term (arities_of c.args.a.now) in
    let trees = map tree c.args.terms.now in
    let l = c.loop-i-test.true in let long = length-map c.args.terms.now tree in
    let low : c.loop-i.i < length c.args.terms.now = omega arith in
    ap (option_map flaw.Link) (c.loop-i.invariant.rest ∙ bad_here (is_in_chain c.args.a.now c.args.kind.now trees) trees c.loop-i.i (tree (get_or c.args.terms.now c.loop-i.i [])) (Generator 0) (omega (arith, low, long))
    (sym (get_or-map tree c.args.terms.now c.loop-i.i [] (Generator 0) low)) (sym c.is_in_chain.ensures ∙ c.if-not-is_in_chain.true))

pub loop-i-preserved : goal.loop-i-preserved
loop-i-preserved c =
    let tree = written_term (arities_of c.args.a.now) in
    let trees = map tree c.args.terms.now in
    let l = c.loop-i-test.true in let long = length-map c.args.terms.now tree in
    let low : c.loop-i.i < length c.args.terms.now = omega arith in
    record {
      room = c.is_in_chain.auto.values ∙ c.loop-i.invariant.room;
      rest = c.loop-i.invariant.rest ∙ bad_later (is_in_chain c.args.a.now c.args.kind.now trees) trees c.loop-i.i (tree (get_or c.args.terms.now c.loop-i.i [])) (Generator 0) (omega (arith, low, long))
          (sym (get_or-map tree c.args.terms.now c.loop-i.i [] (Generator 0) low)) (sym c.is_in_chain.ensures ∙ c.if-not-is_in_chain.false);
    }
