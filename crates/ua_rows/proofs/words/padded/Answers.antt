use Rattle.std.proofs.Common.{◌≡◌, ◌-◌, ◌++◌, length, ap, ◌∙◌, arith}
use Rattle.std.specs.Prelude.{replicate}
use Rattle.std.proofs.lemmas.List.{take_all}
use Rattle.ua_rows.proofs.WordLaws.{filled}
use Rattle.ua_rows.proofs.words.padded.Goals as goal

pub loop-i-init : goal.loop-i-init
loop-i-init g c = ap (λ n. replicate n 0) (let e : g.row.N ≡ g.row.N - 0 = omega arith in e)

pub loop-i-preserved : goal.loop-i-preserved
loop-i-preserved g c = filled c.args.part.now c.loop-i.whole g.row.N c.loop-i.i c.loop-i-test.true c.requires c.loop-i.invariant

pub returns : goal.returns
returns g c =
    let end = c.loop-i-test.false in
    let low = c.loop-i.auto.i-end in
    c.loop-i.invariant ∙ (λ j. take_all c.loop-i.i c.args.part.now (omega (arith, end)) j ++ replicate (g.row.N - (let e : c.loop-i.i ≡ length c.args.part.now = omega (arith, end, low) in e) j) 0)
