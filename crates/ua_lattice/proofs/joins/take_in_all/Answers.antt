use Rattle.std.proofs.Common.{◌≡◌, ◌∙◌, [], subst, arith, below_more}
use Rattle.std.specs.Prelude.{Contains, slice_index_or}
use Rattle.std.proofs.lemmas.List.{get_or_default}
use Rattle.ua_lattice.proofs.joins.take_in_all.Goals as goal

pub loop-i-preserved : goal.loop-i-preserved
loop-i-preserved c =
    let parts = c.args.parts.now in
    let new = c.take_in.new.found.rows.items in
    let whole = c.if-not-branch.false in
    let here : c.index-parts-i.result ≡ slice_index_or parts c.loop-i.i [] = c.index-parts-i.is ∙ get_or_default parts c.loop-i.i c.index-parts-i.result [] c.loop-i-test.true in
    record {
      found = c.in_ok-take_in.ensures.found whole;
      there = below_more _ _
          (λ k low. c.in_ok-take_in.ensures.kept whole (slice_index_or parts k []) (c.loop-i.invariant.there k low))
          (subst (Contains new) here (c.in_ok-take_in.ensures.there whole));
    }

pub returns-clause-there : goal.returns-clause-there
returns-clause-there c = λ _ p k.
    let parts = c.args.parts.now in
    let low = k.1 in
    let there = c.loop-i.invariant.there k.0 (omega (arith, low, c.loop-i-test.false)) in
    subst (Contains c.loop-i.found.rows.items) (get_or_default parts k.0 [] p k.1 ∙ k.2) there

pub returns-clause-congruences : goal.returns-clause-congruences
returns-clause-congruences c = c.loop-i.invariant.found.spanned.congruences
