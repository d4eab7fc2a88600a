use Rattle.std.proofs.Common.{◌≡◌, ℕ, List, length, Option, Some, None, subst, arith}
use Rattle.std.specs.Prelude.{IfNone}
use Rattle.std.specs.List.{AllByRecursion}
use Rattle.std.proofs.lemmas.List.{length-map}
use Rattle.ua_table.specs.Algebras.{Vector}
use Rattle.ua_table.specs.Listings.{Row, vectors_of, ranks_of}
use Rattle.ua_part.specs.Partitions.{Partition}
use Rattle.ua_matrix.specs.Matrices.{AreFour, Goes}
use Rattle.ua_matrix.specs.inner.Matrices.{IsFirstOfFront}
use Rattle.ua_matrix.proofs.FailureLaws.{all_go}
use Rattle.ua_matrix.proofs.failures.first_failure.Goals as goal

if_none : (delta : Partition) (matrices : List Vector) (ranks : List ℕ) (first : Option ℕ) → AllByRecursion (AreFour (length delta)) matrices
    → IsFirstOfFront delta matrices ranks (length matrices) first → IfNone first (AllByRecursion (Goes delta) matrices)
if_none delta matrices ranks None four h = all_go delta matrices four h
if_none delta matrices ranks (Some i) four h = tt

pub returns-clause-none : goal.returns-clause-none
returns-clause-none c =
    let delta = c.args.delta.now in
    let matrices = vectors_of c.args.list.now in
    let all : c.loop-i.i ≡ length matrices = (let n = length-map c.args.list.now (λ (r : Row). r.vector) in omega (arith, c.loop-i-test.false, c.loop-i.auto.i-end, c.len-i-end.ensures, n)) in
    if_none delta matrices (ranks_of c.args.list.now) c.loop-i.first c.requires.matrices
    (subst (λ n. IsFirstOfFront delta matrices (ranks_of c.args.list.now) n c.loop-i.first) all c.loop-i.invariant)
