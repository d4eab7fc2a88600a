use Rattle.std.proofs.Common.{◌<◌, length, take, sym, ap, ◌∙◌, arith}
use Rattle.std.specs.Option.{option_map}
use Rattle.ua_cert.specs.declared.certs.CertStep.{CertStep}
use Rattle.ua_flaws.specs.declared.flaws.Flaw.TheVariants as flaw
use Rattle.ua_flaws.specs.Flaws.{is_made, first_or_short}
use Rattle.ua_flaws.proofs.FirstLaws.{bad_here, bad_later, taken_is, taken_long}
use Rattle.ua_flaws.proofs.origins.origins.Goals as goal

pub returns-then-not-is_made : goal.returns-then-not-is_made
returns-then-not-is_made c =
    let b = c.min-both.ensures in let l = c.loop-i-test.true in let n = c.len-rows.ensures.len in
    let low : c.loop-i.i < length c.args.table.now.rows.now.items = omega arith in
    let there : c.loop-i.i < length c.args.list.now = omega arith in
    let s : CertStep = c.index-list-i.result in
    let here =
    bad_here (is_made c.args.a.now c.args.table.now.rows.now.width c.args.gens.now.items c.args.table.now.rows.now.items c.args.ranks.now)
    (take (length c.args.table.now.rows.now.items) c.args.list.now) c.loop-i.i s s
    (taken_long (length c.args.table.now.rows.now.items) c.args.list.now c.loop-i.i low there)
    (taken_is (length c.args.table.now.rows.now.items) c.args.list.now c.loop-i.i s low c.index-list-i.is)
    (sym c.is_made.ensures.made ∙ c.if-not-is_made.true) in
    ap (λ o. option_map flaw.Origin (first_or_short o (length c.args.table.now.rows.now.items) (length c.args.list.now))) (c.loop-i.invariant.rest ∙ here)

pub loop-i-preserved : goal.loop-i-preserved
loop-i-preserved c =
    let b = c.min-both.ensures in let l = c.loop-i-test.true in let n = c.len-rows.ensures.len in
    let low : c.loop-i.i < length c.args.table.now.rows.now.items = omega arith in
    let there : c.loop-i.i < length c.args.list.now = omega arith in
    let s : CertStep = c.index-list-i.result in
    record {
      scratch = c.is_made.ensures.width;
      rest =
          c.loop-i.invariant.rest
          ∙ bad_later (is_made c.args.a.now c.args.table.now.rows.now.width c.args.gens.now.items c.args.table.now.rows.now.items c.args.ranks.now)
          (take (length c.args.table.now.rows.now.items) c.args.list.now) c.loop-i.i s s
          (taken_long (length c.args.table.now.rows.now.items) c.args.list.now c.loop-i.i low there)
          (taken_is (length c.args.table.now.rows.now.items) c.args.list.now c.loop-i.i s low c.index-list-i.is)
          (sym c.is_made.ensures.made ∙ c.if-not-is_made.false);
    }
