use Rattle.ua_prod.proofs.DrawLaws.{drawn_more, state_behind, drawn_all}
use Rattle.ua_prod.proofs.generator.tables_drawn.Goals as goal

pub loop-f-preserved : goal.loop-f-preserved
loop-f-preserved c =
    let s = c.args.lcg.now in
    let n = c.args.size in
    let ks = c.args.arities.now in
    let f = c.loop-f.f in
    record {
      tables =
          drawn_more n s f c.loop-f.lcg ks c.in_ok-table_drawn.field-0 c.loop-f.tables.items c.push.new.self.items c.loop-f-test.true
          c.loop-f.invariant.tables c.loop-f.invariant.state c.in_ok-push.ensures.items c.in_ok-table_drawn.ensures.table;
      state = state_behind n s f c.loop-f.lcg c.table_drawn.new.lcg ks c.loop-f-test.true c.loop-f.invariant.state c.in_ok-table_drawn.ensures.state;
    }

pub returns-clause-tables : goal.returns-clause-tables
returns-clause-tables c = drawn_all c.args.size c.args.lcg.now c.loop-f.f c.args.arities.now c.loop-f.tables.items c.loop-f-test.false c.loop-f.invariant.tables
