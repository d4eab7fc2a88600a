use Rattle.std.proofs.Common.{◌≡◌, ◌≤◌, take, map}
use Rattle.std.specs.List.{AllByRecursion}
use Rattle.ua_term.specs.Trees.{tree_of, node_count}
use Rattle.ua_clone.specs.declared.polynomials.Poly.{Poly}
use Rattle.ua_clone.specs.Polynomials.{polynomial_of, variables_of}
use Rattle.ua_clone.proofs.polynomials.+poly_of.Given as goal

-- the polynomials of the arguments so far
abbrev pub invariant-loop-i : goal.invariant-loop-i
invariant-loop-i l = record {
  trees : map (polynomial_of l.k) l.polys.items ≡ map tree_of (take l.i l.terms.items);
  variables : AllByRecursion (λ (p : Poly). variables_of p ≤ l.k) l.polys.items;
}

abbrev pub decreases-poly_of : goal.decreases-poly_of
decreases-poly_of l = node_count (tree_of l.term.now)
