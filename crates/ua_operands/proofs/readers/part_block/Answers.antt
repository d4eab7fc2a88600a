use Rattle.ua_operands.proofs.Vocabulary.{sign, tokens_left}
use Rattle.std.proofs.Common.{rules, [], refl, codes, ◌∙◌}
use Rattle.ua_text.specs.declared.symbols.Role.TheVariants as roles
use Rattle.ua_operands.proofs.ReadLaws.{block_front}
use Rattle.ua_operands.proofs.readers.part_block.Goals as goal

pub returns-in_err-numbers-clause-only : goal.returns-in_err-numbers-clause-only
returns-in_err-numbers-clause-only c = λ role b ws a f.
    let e = c.in_err-numbers.ensures.only b ws a (block_front role b (tokens_left c.args.tokens.now) ws f) in search rules

pub returns-in_err-exact-clause-only : goal.returns-in_err-exact-clause-only
returns-in_err-exact-clause-only c = λ role b ws a f.
    let s0 = c.in_ok-numbers.ensures.only b ws a (block_front role b (tokens_left c.args.tokens.now) ws f) in
    let e = c.in_err-exact.ensures.only (sign roles.Bar (codes "|")) ws [] refl s0.1 in search rules

pub returns-clause-only : goal.returns-clause-only
returns-clause-only c = λ role b ws a f.
    let s0 = c.in_ok-numbers.ensures.only b ws a (block_front role b (tokens_left c.args.tokens.now) ws f) in
    let s1 = c.in_ok-exact.ensures.only (sign roles.Bar (codes "|")) ws [] refl s0.1 in
    (c.new.ensures ∙ s0.0, s1)
