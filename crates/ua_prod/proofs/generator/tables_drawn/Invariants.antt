use Rattle.std.proofs.Common.{◌≡◌, take}
use Rattle.ua_prod.specs.Sizes.{values_needed}
use Rattle.ua_prod.specs.Draws.{state_after}
use Rattle.ua_prod.proofs.DrawLaws.{drawn_before}
use Rattle.ua_prod.proofs.generator.tables_drawn.Given as goal

abbrev pub invariant-loop-f : goal.invariant-loop-f
invariant-loop-f l = record {
  tables : l.tables.items ≡ drawn_before l.size l.fn.lcg l.arities l.f;
  state : l.lcg ≡ state_after l.fn.lcg (values_needed l.size (take l.f l.arities));
}
