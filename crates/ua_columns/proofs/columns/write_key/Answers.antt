use Rattle.std.proofs.Common.{ℕ, ◌*◌, length, sym, ◌∙◌, arith}
use Rattle.std.proofs.lemmas.Grind.{same_number_lists}
use Rattle.std.proofs.lemmas.List.FromFn.{length-map-range_with_len, get_or-map-range_with_len}
use Rattle.ua_columns.specs.Columns.{digits, base, word_of, key_of}
use Rattle.ua_columns.proofs.columns.write_key.Goals as goal

pub returns : goal.returns
returns c =
    let words : ℕ → ℕ = λ j. word_of (base c.args.in_bytes) (digits c.args.in_bytes) c.args.block.now c.args.lane (digits c.args.in_bytes * j) in
    let count = length c.args.key.now in
    let i = c.loop-j.invariant in
    same_number_lists c.loop-j.key (key_of c.args.in_bytes count c.args.block.now c.args.lane) (i.long ∙ sym (length-map-range_with_len words 0 count))
    (λ k low. (let l = i.long in i.words k (omega (arith, low, l)) ∙ sym (get_or-map-range_with_len words 0 count k k 0 (omega (arith, low, l)) (omega arith))))
