use Rattle.std.proofs.Common.{◌<◌, ◌∷◌, [], length, take, rules, sym, ap, ◌∙◌, subst, arith}
use Rattle.std.specs.List.{AllByRecursion}
use Rattle.std.proofs.lemmas.List.{take-append-le}
use Rattle.ua_table.proofs.Lists.{all_append}
use Rattle.ua_columns.specs.Columns.{AreBelow}
use Rattle.ua_columns.proofs.tiles.push_tiles.Goals as goal

pub returns-in_err-push-clause-low : goal.returns-in_err-push-clause-low
returns-in_err-push-clause-low c n some low = subst (AreBelow n) (sym c.in_err-push.ensures.items) (c.loop.invariant.low n some low)

pub loop-preserved : goal.loop-preserved
loop-preserved c = record {
  front =
      ap (take (length c.args.tiles.now.items)) c.in_ok-push.ensures.items
      ∙ take-append-le (length c.args.tiles.now.items) c.loop.tiles.items (c.zero_tile.result ∷ [])
      (let l = c.loop.invariant.long in omega (arith, l))
      ∙ c.loop.invariant.front;
  long = search rules;
  low = λ n some low.
      subst (AreBelow n) (sym c.in_ok-push.ensures.items)
      (all_append (AllByRecursion (AllByRecursion (λ x. x < n))) c.loop.tiles.items (c.zero_tile.result ∷ []) (c.loop.invariant.low n some low) (c.zero_tile.ensures n some, tt));
}
