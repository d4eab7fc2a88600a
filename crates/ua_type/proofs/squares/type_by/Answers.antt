use Rattle.std.proofs.Common.{[], ◌∷◌, replicate, arith}
use Rattle.ua_close.proofs.KindLaws.{members_vectors}
use Rattle.ua_type.specs.Types.{square_generators}
use Rattle.ua_type.proofs.SquareLaws.{fourth-IsProduct, square_vectors}
use Rattle.ua_type.proofs.squares.type_by.Goals as goal

pub returns : goal.returns
returns c =
    let b = c.args.b.now in
    let x = c.args.pair.low in
    let y = c.args.pair.high in
    let closed = c.requires.closed.1 in
    let size = c.size.ensures.size in
    record {
      swap = c.args.pair.swap;
      meet = c.has_square.result;
      join = c.has_square-2.result;
      affine = c.is_affine.result;
      swaps = c.requires.swap;
      meets = (λ t. (closed.exact (x ∷ x ∷ x ∷ y ∷ [])).0 (c.has_square.ensures.0 t), λ made. c.has_square.ensures.1 ((closed.exact (x ∷ x ∷ x ∷ y ∷ [])).1 made));
      joins = (λ t. (closed.exact (x ∷ y ∷ y ∷ y ∷ [])).0 (c.has_square-2.ensures.0 t), λ made. c.has_square-2.ensures.1 ((closed.exact (x ∷ y ∷ y ∷ y ∷ [])).1 made));
      is_affine = (
        λ t. (let some = c.is_affine.ensures.0 t in (some.0, (closed.exact (x ∷ y ∷ y ∷ some.0 ∷ [])).0 some.2)),
        λ some.
            let v = members_vectors (replicate 4 b) (square_generators b x y) (fourth-IsProduct b c.size.ensures.algebra.algebra) (square_vectors b x y c.requires.first c.requires.second) (x ∷ y ∷ y ∷ some.0 ∷ []) some.1 in
            let w = v.1.1.1.0 in
            c.is_affine.ensures.1 (some.0, omega (arith, w, size), (closed.exact (x ∷ y ∷ y ∷ some.0 ∷ [])).1 some.1),
      );
      number_is = c.type_number.ensures;
    }
