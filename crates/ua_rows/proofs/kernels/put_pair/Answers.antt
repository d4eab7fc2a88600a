use Rattle.std.proofs.Common.{◌≡◌, ◌+◌, ◌*◌, [], ◌∷◌, ap, ◌∙◌, arith}
use Rattle.std.specs.Simd.Lanes.{number_l, digits_l}
use Rattle.std.proofs.lemmas.Simd.{put_chunk_whole}
use Rattle.ua_rows.proofs.LaneLaws.{lanes_of_two}
use Rattle.ua_rows.proofs.kernels.put_pair.Goals as goal

pub returns : goal.returns
returns c =
    let first = c.args.first in
    let second = c.args.second in
    let number = number_l 256 (digits_l 256 16 (number_l 18446744073709551616 (first ∷ second ∷ []))) in
    let low = c.ranges.first.fits in
    let also = c.ranges.second.fits in
    let whole : number ≡ first + 18446744073709551616 * second = omega (arith, low, also) in
    put_chunk_whole c.args.out.now (digits_l 65536 8 number) c.requires
    ∙ ap (digits_l 65536 8) whole
    ∙ lanes_of_two first second low
