use Rattle.std.proofs.Common.{Bool, List, sym, ◌∙◌, subst}
use Rattle.std.specs.List.{AllByRecursion}
use Rattle.ua_table.specs.Algebras.{Vector, IsVector}
use Rattle.ua_columns.specs.Columns.{limit}
use Rattle.ua_lanes.specs.Lines.{AreSizesAtMost}
use Rattle.ua_lanes.specs.Windows.{IsWindow}
use Rattle.ua_lanes.proofs.small_lanes.SmallLanes.new.Goals as goal

pub invariant_of-result : goal.invariant_of-result
invariant_of-result c =
    let p = c.args.frame.now in
    let e = c.in_ok-new.ensures in
    let empty = e.empty in
    record {
      vectors = record {
        product = c.width-width.ensures.product;
        sizes = subst (λ b. AreSizesAtMost (limit b) p) (sym e.in_bytes) c.requires;
        width = e.width ∙ c.width-width.ensures.width;
        vectors = subst (AllByRecursion (IsVector p)) (sym empty) tt;
      };
      many = c.in_ok-windows_for.ensures.many;
      windows = subst (λ (q : Bool × List Vector). AllByRecursion (IsWindow p q.0 q.1) c.in_ok-windows_for.field-0.items) (λ i. (sym e.in_bytes i, sym empty i)) c.in_ok-windows_for.ensures.windows;
    }
