use Rattle.std.proofs.Common.{◌≡◌, ◌<◌, ℕ, List, length, map, sym, ◌∙◌, subst}
use Rattle.std.specs.Prelude.{slice_index}
use Rattle.std.specs.List.{AllByRecursion}
use Rattle.ua_part.specs.Partitions.{IsByLabels}
use Rattle.ua_part.specs.Blocks.{leaders}
use Rattle.ua_prod.specs.Congruences.{IsCongruence}
use Rattle.ua_prod.proofs.BlockNumbers.{all_leaders_below}
use Rattle.ua_type.specs.Quotients.{quotient_by, image_of}
use Rattle.ua_type.specs.inner.Images.{RelatesTwo}
use Rattle.ua_type.proofs.QuotientLaws.{image-IsByLabels, one_partition}
use Rattle.ua_type.proofs.ImageLaws.{image-IsCongruence, image_differs}
use Rattle.ua_type.proofs.quotients.quotient_of.Goals as goal

pub related_places-requires-clause-elements : goal.related_places-requires-clause-elements
related_places-requires-clause-elements c =
    let p = c.args.lower.now in
    let q = c.args.upper.now in
    let n : length p ≡ length q = c.requires.lower.size ∙ sym c.requires.upper.size in
    subst (AllByRecursion (λ x. x < length q)) (sym (c.as_slice.ensures.value ∙ c.in_ok-leaders.ensures.members)) (subst (λ m. AllByRecursion (λ x. x < m) (leaders p)) n (all_leaders_below p))

pub returns : goal.returns
returns c =
    let a = c.args.a.now in
    let p = c.args.lower.now in
    let q = c.args.upper.now in
    let h = c.requires in
    let labels = map (slice_index q) (leaders p) in
    let made : IsByLabels labels c.in_ok-theta.theta = subst (λ (ls : List ℕ). IsByLabels (map (slice_index q) ls) c.in_ok-theta.theta) (c.as_slice.ensures.value ∙ c.in_ok-leaders.ensures.members) c.in_ok-theta.ensures in
    let is : c.in_ok-theta.theta ≡ image_of p q = one_partition labels c.in_ok-theta.theta (image_of p q) made (image-IsByLabels a p q h.lower h.upper h.below) in
    record {
      algebra_is = c.in_ok-algebra.ensures;
      theta_is = is;
      leaders_are = c.in_ok-leaders.ensures.members;
      congruence = subst (λ b. IsCongruence b c.in_ok-theta.theta) (sym c.in_ok-algebra.ensures) (subst (IsCongruence (quotient_by a p)) (sym is) (image-IsCongruence a p q c.size-size.ensures.algebra.algebra h.lower h.upper h.below));
      relates_two = subst RelatesTwo (sym is) (image_differs a p q h.lower h.upper h.below h.differ);
    }
