use Rattle.ua_operands.proofs.Vocabulary.{sign, variable}
use Rattle.std.proofs.Common.{◌∷◌, codes, refl, rules}
use Rattle.ua_text.specs.declared.symbols.Role.TheVariants as roles
use Rattle.ua_operands.proofs.ReadLaws.{variable_kind, none_read, one_more, missed_more, no_more, at_mark, behind_mark, variable_apart, all_units}
use Rattle.ua_operands.proofs.identities.variables.Goals as goal

pub loop-tokens-init : goal.loop-tokens-init
loop-tokens-init c = none_read variable_kind c.args.tokens.now c.new-variables.ensures.items

pub returns-in_err-read-clause-only : goal.returns-in_err-read-clause-only
returns-in_err-read-clause-only c = λ xs ws f.
    let e = missed_more variable_kind c.loop-tokens.invariant (λ v others g. c.in_err-read.ensures.only v others) (at_mark c.loop-tokens.tokens (codes ")") c.loop-tokens-test.ensures.yes)
    xs (sign roles.Closes (codes ")") ∷ ws) (all_units xs) refl f in
    search rules

pub loop-tokens-preserved : goal.loop-tokens-preserved
loop-tokens-preserved c =
    one_more variable_kind c.loop-tokens.invariant (λ v others g. c.in_ok-read.ensures.only v others) (at_mark c.loop-tokens.tokens (codes ")") c.loop-tokens-test.ensures.yes)
    c.in_ok-push.ensures.items c.in_ok-read.ensures.progress c.in_ok-read.ensures.source

pub returns-clause-only : goal.returns-clause-only
returns-clause-only c = λ xs ws f.
    no_more variable_kind c.loop-tokens.invariant (behind_mark c.loop-tokens.tokens (λ v. Unit {0}) variable (codes ")") variable_apart c.loop-tokens-test.ensures.no) xs (sign roles.Closes (codes ")") ∷ ws) (all_units xs) refl f
