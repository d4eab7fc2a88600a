use Rattle.std.proofs.Common.{◌≡◌, ◌*◌, ◌/◌, ◌%◌, ◌^◌, sym, ap, ◌∙◌, arith}
use Rattle.std.proofs.lemmas.Nat.{one_shl}
use Rattle.ua_columns.proofs.ListLaws.{bit_of_first}
use Rattle.ua_columns.proofs.fronts.first_bits.Goals as goal

pub returns : goal.returns
returns c r bit =
    let power : 1 * 2 ^ c.args.count % 2 ^ 32 ≡ 2 ^ c.args.count = one_shl c.args.count 32 (omega arith) in
    bit_of_first c.args.bits c.args.count r (sym (ap (λ n. c.args.bits % n / 2 ^ r % 2) power) ∙ bit)
