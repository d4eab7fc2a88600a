use Rattle.std.proofs.Common.{sym, ◌∙◌, subst, arith}
use Rattle.std.specs.List.{AllByRecursion}
use Rattle.ua_table.specs.Algebras.{IsVector}
use Rattle.ua_lanes.specs.Lines.{AreSizesAtMost}
use Rattle.ua_lanes.proofs.large_lanes.LargeLanes.new.Goals as goal

pub invariant_of-result : goal.invariant_of-result
invariant_of-result c =
    let p = c.args.frame.now in
    let e = c.in_ok-new.ensures in
    let quads = c.in_ok-new.field-0 in
    record {
      vectors = record {
        product = c.width-width.ensures.product;
        sizes = subst (λ n. AreSizesAtMost n p) (sym e.size) c.requires.sizes;
        size = (let s = c.requires.small in let z = e.size in omega (arith, s, z));
        width = e.width ∙ c.width-width.ensures.width;
        vectors = subst (AllByRecursion (IsVector p)) (sym e.empty) tt;
      };
      window = c.in_ok-new-2.ensures p quads (sym e.width) (sym e.size);
    }
