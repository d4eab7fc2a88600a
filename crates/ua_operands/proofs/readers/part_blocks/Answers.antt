use Rattle.std.proofs.Common.{sym, ◌∙◌, rules}
use Rattle.std.proofs.lemmas.Bool.{false≢true}
use Rattle.ua_text.specs.declared.symbols.Role.TheVariants as roles
use Rattle.ua_operands.proofs.ReadLaws.{block_kind, none_read, one_more, missed_more, no_more, tail_number, block_number}
use Rattle.ua_operands.proofs.readers.part_blocks.Goals as goal

pub loop-alloc-init : goal.loop-alloc-init
loop-alloc-init c = none_read block_kind c.args.tokens.now c.new-blocks.ensures.items

pub returns-in_err-block-clause-only : goal.returns-in_err-block-clause-only
returns-in_err-block-clause-only c = λ xs ws a h f.
    let e = missed_more block_kind c.loop-alloc.invariant (λ b others g. c.in_err-block.ensures.only roles.More b others g.1) (λ ws h f. false≢true (sym (tail_number _ ws h f) ∙ sym c.loop-alloc-test.ensures)) xs ws a h f in search rules

pub loop-alloc-preserved : goal.loop-alloc-preserved
loop-alloc-preserved c =
    one_more block_kind c.loop-alloc.invariant (λ b others g. c.in_ok-block.ensures.only roles.More b others g.1) (λ ws h f. false≢true (sym (tail_number _ ws h f) ∙ sym c.loop-alloc-test.ensures))
    c.in_ok-push.ensures.items c.in_ok-block.ensures.progress c.in_ok-block.ensures.source

pub returns-clause-only : goal.returns-clause-only
returns-clause-only c = λ xs ws a h f.
    no_more block_kind c.loop-alloc.invariant (λ b others g f. false≢true (c.loop-alloc-test.ensures ∙ block_number _ b others g f)) xs ws a h f
