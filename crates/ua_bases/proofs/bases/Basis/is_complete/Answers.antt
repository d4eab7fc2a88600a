use Rattle.std.proofs.Common.{◌≤◌, length, take, subst, arith}
use Rattle.std.specs.List.{AllByRecursion}
use Rattle.std.proofs.lemmas.Bool.{leb-true}
use Rattle.std.proofs.lemmas.List.{take_all}
use Rattle.ua_table.proofs.Lists.{all_weaker}
use Rattle.ua_bases.specs.declared.bases.Base.{Base}
use Rattle.ua_bases.specs.Bases.{BasisView, IsComplete}
use Rattle.ua_bases.proofs.KeptLaws.{contains_tested}
use Rattle.ua_bases.proofs.bases.Basis.is_complete.Goals as goal

pub returns : goal.returns
returns c = λ t.
    let inside = c.self.inside in
    let bases = inside.bases.items in
    let kept = c.self.invariant in
    let enough = leb-true c.args.rows inside.first t in
    let all : length bases ≤ inside.turn = omega arith in
    let queue = inside.queue.items in
    let end : length queue ≤ inside.end = omega arith in
    let swept = subst (AllByRecursion (λ (b : Base). inside.end ≤ b.next)) (take_all inside.turn bases all) kept.swept in
    subst (IsComplete c.args.rows) c.self.view_is record {
      all = λ r low. contains_tested queue r (kept.low r (omega (arith, low, enough)));
      done = all_weaker (λ (b : Base). inside.end ≤ b.next) (λ (b : Base). length queue ≤ b.next) (λ b le. omega (arith, le, end)) bases swept;
    }
