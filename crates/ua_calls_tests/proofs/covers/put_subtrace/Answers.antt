use Rattle.std.proofs.Common.{◌≡◌, ◌<◌, ℕ, List, [], length, get_or, sym, ◌∙◌, subst}
use Rattle.std.specs.Prelude.{Contains}
use Rattle.std.proofs.lemmas.List.{get_or_default}
use Rattle.ua_table.specs.Algebras.{FiniteAlgebra}
use Rattle.ua_part.specs.Partitions.{Partition}
use Rattle.ua_lattice.specs.Lattices.{at, IsCover}
use Rattle.ua_calls_tests.proofs.covers.put_subtrace.Goals as goal

contained : (covers : List (ℕ × ℕ)) (k : ℕ) → k < length covers → Contains covers (get_or covers k (0, 0))
contained covers k w = (k, w, get_or_default covers k (get_or covers k (0, 0)) (0, 0) w)

-- a cover of partitions that are read at places of the list
read : (a : FiniteAlgebra) (list : List Partition) (i j : ℕ) (p q : Partition) → i < length list → j < length list → p ≡ get_or list i p → q ≡ get_or list j q → IsCover a (at list i) (at list j) → IsCover a p q
read a list i j p q iw jw p_is q_is h =
    let first : at list i ≡ p = get_or_default list i [] p iw ∙ sym p_is in
    let second : at list j ≡ q = get_or_default list j [] q jw ∙ sym q_is in
    subst (λ r. IsCover a r q) first (subst (IsCover a (at list i)) second h)

pub bounds-list-i : goal.bounds-list-i
bounds-list-i g c =
    let cover = get_or c.args.covers.now c.args.k (0, 0) in
    ((c.requires.covers.all cover.0 cover.1).0 (contained c.args.covers.now c.args.k c.requires.within)).0

pub bounds-list-j : goal.bounds-list-j
bounds-list-j g c =
    let cover = get_or c.args.covers.now c.args.k (0, 0) in
    ((c.requires.covers.all cover.0 cover.1).0 (contained c.args.covers.now c.args.k c.requires.within)).1

pub subtrace-requires-after_bounds : goal.subtrace-requires-after_bounds
subtrace-requires-after_bounds g c _ _ =
    let a = c.args.a.now in
    let list = c.args.list.now in
    let covers = c.args.covers.now in
    let cover = get_or covers c.args.k (0, 0) in
    let places = (c.requires.covers.all cover.0 cover.1).0 (contained covers c.args.k c.requires.within) in
    read a list cover.0 cover.1 c.index-list-i.result c.index-list-j.result places.0 places.1 c.index-list-i.is c.index-list-j.is places.2
