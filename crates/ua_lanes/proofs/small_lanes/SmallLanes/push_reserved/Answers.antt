use Rattle.std.proofs.Common.{◌<◌, ◌∷◌, ◌++◌, [], Bool, List, sym, ap, ◌∙◌, subst}
use Rattle.std.specs.List.{AllByRecursion}
use Rattle.ua_table.specs.Algebras.{Vector, FiniteAlgebra, Product, IsVector}
use Rattle.ua_table.proofs.Lists.{AllZip-length, all_append, all_weaker}
use Rattle.ua_lanes.specs.LaneLists.{LaneList}
use Rattle.ua_columns.specs.Columns.{limit}
use Rattle.ua_lanes.specs.Lines.{AreSizesAtMost}
use Rattle.ua_lanes.specs.Windows.{IsWindow}
use Rattle.ua_lanes.proofs.WindowLaws.{window_more, entries_low}
use Rattle.ua_lanes.proofs.small_lanes.SmallLanes.push_reserved.Goals as goal

pub push_reserved-requires-clause-width : goal.push_reserved-requires-clause-width
push_reserved-requires-clause-width c =
    let here = c.self.inside in
    let vector : IsVector here.frame.now c.args.v.now = subst (λ (p : Product). IsVector p c.args.v.now) (sym (ap (λ (l : LaneList). l.product) c.self.view_is)) c.requires.vector in
    sym (AllZip-length (λ (a : FiniteAlgebra) x. x < a.size) here.frame.now c.args.v.now vector) ∙ sym c.self.invariant.vectors.width

pub push_reserved-requires-clause-entries : goal.push_reserved-requires-clause-entries
push_reserved-requires-clause-entries c =
    let here = c.self.inside in
    let vector : IsVector here.frame.now c.args.v.now = subst (λ (p : Product). IsVector p c.args.v.now) (sym (ap (λ (l : LaneList). l.product) c.self.view_is)) c.requires.vector in
    entries_low here.frame.now (limit here.columns.in_bytes) c.args.v.now c.self.invariant.vectors.sizes vector

pub invariant_of-self : goal.invariant_of-self
invariant_of-self c =
    let here = c.self.inside in
    let h = c.self.invariant in
    let e = c.push_reserved.ensures in
    let vector : IsVector here.frame.now c.args.v.now = subst (λ (p : Product). IsVector p c.args.v.now) (sym (ap (λ (l : LaneList). l.product) c.self.view_is)) c.requires.vector in
    record {
      vectors = record {
        product = h.vectors.product;
        sizes = subst (λ b. AreSizesAtMost (limit b) here.frame.now) (sym e.in_bytes) h.vectors.sizes;
        width = e.width ∙ h.vectors.width;
        vectors = subst (AllByRecursion (IsVector here.frame.now)) (sym e.items) (all_append (IsVector here.frame.now) here.columns.items (c.args.v.now ∷ []) h.vectors.vectors (vector, tt));
      };
      many = h.many;
      windows = subst (λ (q : Bool × List Vector). AllByRecursion (IsWindow here.frame.now q.0 q.1) here.windows.items) (λ i. (sym e.in_bytes i, sym e.items i))
          (all_weaker (IsWindow here.frame.now here.columns.in_bytes here.columns.items)
          (IsWindow here.frame.now here.columns.in_bytes (here.columns.items ++ c.args.v.now ∷ []))
          (window_more here.frame.now here.columns.in_bytes here.columns.items (c.args.v.now ∷ [])) here.windows.items h.windows);
    }
