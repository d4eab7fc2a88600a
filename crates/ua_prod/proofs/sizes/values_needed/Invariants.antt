use Rattle.std.proofs.Common.{◌≡◌, ◌*◌, ◌≤◌, take}
use Rattle.ua_prod.specs.Sizes.{values_needed}
use Rattle.ua_prod.proofs.sizes.values_needed.Given as goal

abbrev pub invariant-loop-arity : goal.invariant-loop-arity
invariant-loop-arity l = record {
  needed : l.needed ≡ values_needed l.size (take l.arity-index l.arities);
  small : l.needed ≤ l.arity-index * 1000000000000;
}
