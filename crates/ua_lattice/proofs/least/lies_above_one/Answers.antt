use Rattle.std.proofs.Common.{◌≡◌, [], sym, ◌∙◌, subst, arith, below_more}
use Rattle.std.specs.Prelude.{slice_index}
use Rattle.std.proofs.lemmas.Bool.{false≢true, iff_false}
use Rattle.std.proofs.lemmas.List.Elements.{All-from_recursion}
use Rattle.std.proofs.lemmas.List.{get_or_default}
use Rattle.ua_part.specs.Partitions.{Partition, LiesBelow}
use Rattle.ua_lattice.specs.Lattices.{at}
use Rattle.ua_lattice.proofs.LeastLaws.{place_of}
use Rattle.ua_lattice.proofs.least.lies_above_one.Goals as goal

pub loop-k-preserved : goal.loop-k-preserved
loop-k-preserved c =
    let list = c.args.list.now in
    let places = c.args.places.now in
    let low = All-from_recursion _ places c.requires.within c.loop-k.k 0 c.loop-k-test.true in
    let left : at list (slice_index places c.loop-k.k) ≡ c.index-list-places.result = get_or_default list _ [] c.index-list-places.result low ∙ sym c.index-list-places.is in
    let right : at list c.args.place ≡ c.index-list-place.result = get_or_default list _ [] c.index-list-place.result c.requires.place ∙ sym c.index-list-place.is in
    below_more _ _ c.loop-k.invariant (λ below. iff_false c.le.ensures c.if-le.false (subst (λ (p : Partition). LiesBelow p c.index-list-place.result) left (subst (LiesBelow (at list (slice_index places c.loop-k.k))) right below)))

pub returns : goal.returns
returns c = (
  (λ e. absurd (false≢true e)),
  (λ l.
      let m = place_of c.args.places.now l.lower l.inside in
      let w = m.1 in
      absurd (c.loop-k.invariant m.0 (omega (arith, w, c.loop-k-test.false)) (subst (λ i. LiesBelow (at c.args.list.now i) (at c.args.list.now c.args.place)) (sym m.2) l.below))),
)
