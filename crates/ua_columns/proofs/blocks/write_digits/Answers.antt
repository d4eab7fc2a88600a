use Rattle.std.proofs.Common.{◌≡◌, ◌*◌, ◌≤◌, length, sym, ap, ◌∙◌, subst, arith}
use Rattle.ua_columns.specs.Columns.{limit, tables, AreBelow, AreLinesOf}
use Rattle.ua_columns.specs.inner.Columns.{AreDigits}
use Rattle.ua_columns.proofs.KnownLaws.{half_digits, byte_digits}
use Rattle.ua_columns.proofs.blocks.write_digits.Goals as goal

pub write_byte_words-requires-clause-tiles : goal.write_byte_words-requires-clause-tiles
write_byte_words-requires-clause-tiles c = subst (λ b. AreBelow (limit b) c.args.tiles.now) c.if-in_bytes.true c.requires.low

pub write_words-requires-clause-tiles : goal.write_words-requires-clause-tiles
write_words-requires-clause-tiles c = subst (λ b. AreBelow (limit b) c.args.tiles.now) c.if-in_bytes.false c.requires.low

pub returns-then-in_bytes : goal.returns-then-in_bytes
returns-then-in_bytes c f are =
    let is = c.if-in_bytes.true in
    let lines = c.args.lines.now in
    let tiles = c.args.tiles.now in
    let out = c.write_byte_words.new.out in
    let long : length out ≤ 2 * length tiles = (let l = c.write_byte_words.auto.out in let w = c.requires.within in omega (arith, l, w)) in
    subst (λ b. AreDigits b f tiles out) (sym is)
    (byte_digits f lines tiles out (subst (λ b. AreLinesOf b f lines) is are) (c.requires.lines ∙ ap (λ b. tables b * length tiles) is) long (subst (λ b. AreBelow (limit b) tiles) is c.requires.low) c.write_byte_words.ensures)

pub returns-else-in_bytes : goal.returns-else-in_bytes
returns-else-in_bytes c f are =
    let is = c.if-in_bytes.false in
    let lines = c.args.lines.now in
    let tiles = c.args.tiles.now in
    let out = c.write_words.new.out in
    let few : length lines ≡ 1 * length tiles = c.requires.lines ∙ ap (λ b. tables b * length tiles) is in
    let words = c.requires.words is in
    let long : length lines ≡ length out = (let l = c.write_words.auto.out in omega (arith, few, words, l)) in
    subst (λ b. AreDigits b f tiles out) (sym is)
    (half_digits f lines tiles out (subst (λ b. AreLinesOf b f lines) is are) long (subst (λ b. AreBelow (limit b) tiles) is c.requires.low) c.write_words.ensures)
