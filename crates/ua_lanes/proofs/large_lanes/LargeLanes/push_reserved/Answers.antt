use Rattle.std.proofs.Common.{◌<◌, ◌∷◌, [], sym, ap, ◌∙◌, subst}
use Rattle.ua_table.specs.Algebras.{FiniteAlgebra, Product, IsVector}
use Rattle.ua_table.proofs.Lists.{AllZip-length}
use Rattle.ua_lanes.specs.LaneLists.{LaneList}
use Rattle.ua_lanes.proofs.WindowLaws.{entries_low}
use Rattle.ua_lanes.proofs.LongLaws.{window_grown, vectors_grown}
use Rattle.ua_lanes.proofs.large_lanes.LargeLanes.push_reserved.Goals as goal

pub push_reserved-requires-clause-width : goal.push_reserved-requires-clause-width
push_reserved-requires-clause-width c =
    let here = c.self.inside in
    let vector : IsVector here.frame.now c.args.v.now = subst (λ (p : Product). IsVector p c.args.v.now) (sym (ap (λ (l : LaneList). l.product) c.self.view_is)) c.requires.vector in
    sym (AllZip-length (λ (a : FiniteAlgebra) x. x < a.size) here.frame.now c.args.v.now vector) ∙ sym c.self.invariant.vectors.width

pub push_reserved-requires-clause-entries : goal.push_reserved-requires-clause-entries
push_reserved-requires-clause-entries c =
    let here = c.self.inside in
    let vector : IsVector here.frame.now c.args.v.now = subst (λ (p : Product). IsVector p c.args.v.now) (sym (ap (λ (l : LaneList). l.product) c.self.view_is)) c.requires.vector in
    entries_low here.frame.now here.quads.size c.args.v.now c.self.invariant.vectors.sizes vector

pub invariant_of-self : goal.invariant_of-self
invariant_of-self c =
    let here = c.self.inside in
    let e = c.push_reserved.ensures in
    let h = c.self.invariant in
    let vector : IsVector here.frame.now c.args.v.now = subst (λ (p : Product). IsVector p c.args.v.now) (sym (ap (λ (l : LaneList). l.product) c.self.view_is)) c.requires.vector in
    record {
      vectors = vectors_grown here.frame.now here.quads c.push_reserved.new.self (c.args.v.now ∷ []) e.width e.size e.items h.vectors (vector, tt);
      window = window_grown here.frame.now here.quads c.push_reserved.new.self (c.args.v.now ∷ []) e.width e.size e.items here.window h.window;
    }
