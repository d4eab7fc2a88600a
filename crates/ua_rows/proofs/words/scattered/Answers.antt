use Rattle.std.proofs.Common.{◌≡◌, ◌*◌, ◌%◌, ◌^◌, ◌<◌, ap, ◌∙◌, arith}
use Rattle.std.proofs.Math.Nat.{mod-lt}
use Rattle.ua_rows.specs.declared.words.TheConstants.{ODD, ALSO_ODD}
use Rattle.ua_rows.specs.Words.{swapped}
use Rattle.ua_rows.proofs.WordLaws.{rotated}
use Rattle.ua_rows.proofs.words.scattered.Goals as goal

pub returns : goal.returns
returns c =
    let some : 0 < 2 ^ 32 = omega arith in
    let number = c.args.number in
    let first : c.rotate_left.result ≡ swapped (number * ODD % 2 ^ 32) = c.rotate_left.ensures ∙ rotated (number * ODD % 2 ^ 32) (mod-lt (number * ODD) some) in
    let again = c.rotate_left.result * ALSO_ODD in
    c.rotate_left-2.ensures ∙ rotated (again % 2 ^ 32) (mod-lt again some) ∙ ap (λ n. swapped (n * ALSO_ODD % 2 ^ 32)) first
