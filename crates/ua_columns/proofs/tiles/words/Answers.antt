use Rattle.std.proofs.Common.{◌<◌, [], ◌∷◌, refl, arith}
use Rattle.std.proofs.lemmas.Simd.{get_or_wider}
use Rattle.ua_columns.proofs.TileLaws.{each_from_all}
use Rattle.ua_columns.proofs.tiles.words.Goals as goal

pub returns : goal.returns
returns c =
    let v = c.args.bytes in
    let bytes = each_from_all (λ x. x < 256) v c.requires.1 in
    let low = get_or_wider 256 8 18446744073709551616 2 v 0 refl bytes (omega arith) in
    let high = get_or_wider 256 8 18446744073709551616 2 v 1 refl bytes (omega arith) in
    λ l. low l ∷ high l ∷ []
