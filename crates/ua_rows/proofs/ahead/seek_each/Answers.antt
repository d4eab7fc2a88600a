use Rattle.std.proofs.Common.{◌<◌, [], length, get_or, subst, ◌∙◌, arith}
use Rattle.std.specs.Prelude.{Contains}
use Rattle.std.proofs.lemmas.List.{length-set, get_or_default}
use Rattle.ua_rows.proofs.AppliedLaws.{contains_by, found_more}
use Rattle.ua_rows.proofs.ahead.seek_each.Goals as goal

pub loop-k-preserved : goal.loop-k-preserved
loop-k-preserved c =
    let k = c.loop-k.k in
    let rows = c.args.rows.now.items in
    let vectors = c.apply_unary_at_each.new.out in
    let v = get_or vectors k c.index-vectors-k.result in
    let before = c.loop-k.invariant in
    let here : k < length c.args.args.now = c.loop-k-test.true in
    let low : k < length c.loop-k.found = (let few = c.requires.few in let long = before.long in omega (arith, here, few, long)) in
    let within : k < length vectors = (let room = c.apply_unary_at_each.ensures.room in let long = c.requires.room in omega (arith, here, room, long)) in
    let found = contains_by c.find_scratch.result c.is_some.result rows v c.is_some.ensures c.find_scratch.ensures.found c.find_scratch.ensures.absent in
    record {
      long = length-set c.loop-k.found k c.is_some.result ∙ before.long;
      found = found_more c.args.operations.now c.args.op rows c.args.args.now k c.loop-k.found c.is_some.result low before.found
          (λ yes. subst (Contains rows) (get_or_default vectors k c.index-vectors-k.result [] within ∙ c.apply_unary_at_each.ensures.values k here) (found.0 yes));
    }
