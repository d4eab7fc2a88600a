use Rattle.ua_operands.proofs.Vocabulary.{sign_at, identity_behind}
use Rattle.std.proofs.Common.{◌++◌, [], codes, refl, sym, ◌∙◌, rules}
use Rattle.std.proofs.lemmas.Bool.{false≢true, true≢false}
use Rattle.ua_text.specs.declared.symbols.Role.TheVariants as roles
use Rattle.ua_operands.proofs.ReadLaws.{identity_kind, none_read, one_more, missed_more, no_more, all_units}
use Rattle.ua_operands.proofs.identities.identities.Goals as goal

pub loop-alloc-init : goal.loop-alloc-init
loop-alloc-init c = none_read identity_kind c.args.tokens.now c.new-identities.ensures.items

pub returns-in_err-read-clause-only : goal.returns-in_err-read-clause-only
returns-in_err-read-clause-only c = λ xs ws h f.
    let e = missed_more identity_kind c.loop-alloc.invariant (λ i others g. c.in_err-read.ensures.only i others) (λ ws h f. false≢true (sym (c.loop-alloc-test.ensures.other ws h f))) xs ws (all_units xs) h f in search rules

pub loop-alloc-preserved : goal.loop-alloc-preserved
loop-alloc-preserved c =
    one_more identity_kind c.loop-alloc.invariant (λ i others g. c.in_ok-read.ensures.only i others) (λ ws h f. false≢true (sym (c.loop-alloc-test.ensures.other ws h f)))
    c.in_ok-push.ensures.items c.in_ok-read.ensures.progress c.in_ok-read.ensures.source

pub returns-clause-only : goal.returns-clause-only
returns-clause-only c = λ xs ws h f.
    let m = no_more identity_kind c.loop-alloc.invariant (λ i others g f. true≢false (sym (c.loop-alloc-test.ensures.yes (sign_at roles.Opens (codes "(") i.place) (identity_behind i ++ others) [] refl f))) xs ws (all_units xs) h f in
    (c.new.ensures ∙ m.0, m.1)
