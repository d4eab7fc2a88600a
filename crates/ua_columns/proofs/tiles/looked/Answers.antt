use Rattle.std.proofs.Common.{◌≡◌, ◌<◌, length, refl, sym, subst, ◌∙◌, arith, w8}
use Rattle.std.specs.List.{AllByRecursion}
use Rattle.std.proofs.lemmas.Simd.{SwzOk-from_below, length-swz_l}
use Rattle.ua_columns.proofs.TileLaws.{each_from_all, swizzled, looked_small}
use Rattle.ua_columns.proofs.tiles.looked.Goals as goal

pub swizzle : goal.swizzle
swizzle c =
    let v = c.args.column in
    let long : length v ≡ 16 = omega arith in
    SwzOk-from_below w8 16 1 16 0 v refl (omega arith) (each_from_all (λ j. j < 16) v c.requires.column)

pub returns-clause-value : goal.returns-clause-value
returns-clause-value c = swizzled c.args.line.now 0 c.args.column (omega arith) c.requires.column

pub returns-clause-bytes : goal.returns-clause-bytes
returns-clause-bytes c =
    let line = c.args.line.now in
    let js = c.args.column in
    let is = swizzled line 0 js (omega arith) c.requires.column in
    (length-swz_l w8 16 line 0 js ∙ omega arith, subst (AllByRecursion (λ x. x < 256)) (sym is) (looked_small 256 line js (omega arith) c.requires.line))
