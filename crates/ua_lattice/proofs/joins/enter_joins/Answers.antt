use Rattle.std.proofs.Common.{◌<◌, ◌≤◌, length, arith, ◌∙◌}
use Rattle.ua_lattice.proofs.FoundLaws.{goes_more, first_joins_more, first_joins_all}
use Rattle.ua_lattice.proofs.joins.enter_joins.Goals as goal

pub returns-then-len-budget-clause-joins : goal.returns-then-len-budget-clause-joins
returns-then-len-budget-clause-joins c =
    let old = c.args.rows.now.items in
    let within : c.loop-i.i < length old = omega (arith, c.loop-i-test.true, c.len-i-end.ensures.len) in
    goes_more old c.args.part.now c.loop-i.rows.items c.loop-i.invariant.goes c.loop-i.i c.enter_join.new.rows.items within c.in_ok-enter_join.ensures.entered

pub loop-i-preserved : goal.loop-i-preserved
loop-i-preserved c =
    let old = c.args.rows.now.items in
    let p = c.args.part.now in
    let now = c.loop-i.rows.items in
    let new = c.enter_join.new.rows.items in
    let goes = c.loop-i.invariant.goes in
    let entered = c.in_ok-enter_join.ensures.entered in
    let within : c.loop-i.i < length old = omega (arith, c.loop-i-test.true, c.len-i-end.ensures.len) in
    let few : length new ≤ c.args.budget = omega (arith, c.len.ensures.len, c.if-len-budget.false) in
    record {
      goes = goes_more old p now goes c.loop-i.i new within entered;
      joins = first_joins_more old p c.loop-i.i now new within goes entered c.loop-i.invariant.joins;
      within = few;
      width = c.in_ok-enter_join.ensures.width ∙ c.loop-i.invariant.width;
      joiner = c.in_ok-enter_join.ensures.joiner ∙ c.loop-i.invariant.joiner;
    }

pub returns-clause-all : goal.returns-clause-all
returns-clause-all c = λ _.
    let old = c.args.rows.now.items in
    let all : length old ≤ c.loop-i.i = omega (arith, c.loop-i-test.false, c.len-i-end.ensures.len) in
    first_joins_all old c.args.part.now c.loop-i.i c.loop-i.rows.items all c.loop-i.invariant.joins
