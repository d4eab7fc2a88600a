use Rattle.std.proofs.Common.{Option, Some, None}
use Rattle.std.specs.Prelude.{ℕ, IfSome}
use Rattle.ua_table.specs.Algebras.{FiniteAlgebra}
use Rattle.ua_part.proofs.PartitionLaws.{same_back}
use Rattle.ua_cong.specs.declared.known.Known.{Known}
use Rattle.ua_cong.specs.inner.Known.{IsPlaceOf}
use Rattle.ua_cong.proofs.closing.place_of.Goals as goal

-- the principal congruence of a pair is that of the pair turned round
turned : (a : FiniteAlgebra) (known : Known) (x y : ℕ) (place : Option ℕ) → IfSome place (IsPlaceOf a known x y) → IfSome place (IsPlaceOf a known y x)
turned a known x y None h = tt
turned a known x y (Some k) h = record {
  within = h.within;
  principal = record {
    congruence = h.principal.congruence;
    relates = (same_back _ x y h.principal.relates.0, tt);
    least = λ q cq rel. h.principal.least q cq (same_back q y x rel.0, tt);
  };
}

pub returns-then-y-x : goal.returns-then-y-x
returns-then-y-x c = turned c.args.algebra.now c.args.known.now c.args.y c.args.x c.known_at-then-y-x.result c.known_at-then-y-x.ensures
