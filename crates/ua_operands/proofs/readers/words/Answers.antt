use Rattle.ua_operands.proofs.Vocabulary.{sign, word, IsNamed}
use Rattle.std.proofs.Common.{◌∷◌, codes, refl, rules}
use Rattle.ua_text.specs.declared.symbols.Role.TheVariants as roles
use Rattle.ua_operands.proofs.ReadLaws.{word_kind, none_read, one_more, missed_more, no_more, at_mark, behind_mark, word_apart}
use Rattle.ua_operands.proofs.readers.words.Goals as goal

pub loop-alloc-init : goal.loop-alloc-init
loop-alloc-init c = none_read word_kind c.args.tokens.now c.new-words.ensures.items

pub returns-in_err-read-clause-only : goal.returns-in_err-read-clause-only
returns-in_err-read-clause-only c = λ xs ws a f.
    let e = missed_more word_kind c.loop-alloc.invariant c.in_err-read.ensures.only (at_mark c.loop-alloc.tokens (codes ")") c.loop-alloc-test.ensures.yes) xs (sign roles.Closes (codes ")") ∷ ws) a refl f in search rules

pub loop-alloc-preserved : goal.loop-alloc-preserved
loop-alloc-preserved c =
    one_more word_kind c.loop-alloc.invariant c.in_ok-read.ensures.only (at_mark c.loop-alloc.tokens (codes ")") c.loop-alloc-test.ensures.yes)
    c.in_ok-push.ensures.items c.in_ok-read.ensures.progress c.in_ok-read.ensures.source

pub returns-clause-only : goal.returns-clause-only
returns-clause-only c = λ xs ws a f.
    no_more word_kind c.loop-alloc.invariant (behind_mark c.loop-alloc.tokens IsNamed word (codes ")") word_apart c.loop-alloc-test.ensures.no) xs (sign roles.Closes (codes ")") ∷ ws) a refl f
