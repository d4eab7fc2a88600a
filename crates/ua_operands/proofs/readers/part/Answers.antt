use Rattle.ua_operands.proofs.Vocabulary.{sign_at, tokens_left, part_blocks}
use Rattle.std.proofs.Common.{rules, [], ◌++◌, codes, sym, ◌∙◌}
use Rattle.ua_text.specs.declared.symbols.Role.TheVariants as roles
use Rattle.ua_operands.proofs.ReadLaws.{blocks_front, part_is}
use Rattle.ua_operands.proofs.readers.part.Goals as goal

pub returns-in_err-bar-clause-only : goal.returns-in_err-bar-clause-only
returns-in_err-bar-clause-only c = λ p ws a n f.
    let e = c.in_err-bar.ensures.only (sign_at roles.Bar (codes "|") p.place) (part_blocks roles.Inner p.blocks ++ ws) [] f in search rules

pub returns-in_err-blocks-clause-only : goal.returns-in_err-blocks-clause-only
returns-in_err-blocks-clause-only c = λ p ws a n f.
    let s0 = c.in_ok-bar.ensures.only (sign_at roles.Bar (codes "|") p.place) (part_blocks roles.Inner p.blocks ++ ws) [] f in
    let e = c.in_err-blocks.ensures.only p.blocks ws a n (blocks_front p.blocks (tokens_left c.next.new.tokens) ws s0.2) in search rules

pub returns-clause-only : goal.returns-clause-only
returns-clause-only c = λ p ws a n f.
    let s0 = c.in_ok-bar.ensures.only (sign_at roles.Bar (codes "|") p.place) (part_blocks roles.Inner p.blocks ++ ws) [] f in
    let s1 = c.in_ok-blocks.ensures.only p.blocks ws a n (blocks_front p.blocks (tokens_left c.next.new.tokens) ws s0.2) in
    (part_is {p = p} c.new.result c.place_of.result (c.new.ensures ∙ s1.0) (c.place_of.ensures ∙ sym s0.1), s1.1)
