use Rattle.std.proofs.Common.{◌≡◌, length, take, map}
use Rattle.ua_term.specs.Trees.{node_count}
use Rattle.ua_clone.specs.declared.polynomials.Poly.{Poly}
use Rattle.ua_clone.specs.Polynomials.{polynomial_value, polynomial_of}
use Rattle.ua_clone.proofs.polynomials.+poly_value.Given as goal

-- the values of the arguments so far
abbrev pub invariant-loop-i : goal.invariant-loop-i
invariant-loop-i l = record {
  four : length l.values ≡ 4;
  done : take l.i l.values ≡ map (λ (p : Poly). polynomial_value l.a l.args (polynomial_of (length l.args) p)) (take l.i l.polys.items);
}

abbrev pub decreases-poly_value : goal.decreases-poly_value
decreases-poly_value l = node_count (polynomial_of (length l.args.now) l.p.now)
