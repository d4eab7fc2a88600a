use Rattle.std.proofs.Common.{rules, [], sym}
use Rattle.ua_operands.specs.declared.written.Variable.TheVariants.{X, Y, Z, W}
use Rattle.ua_operands.specs.Written.{variable}
use Rattle.ua_operands.proofs.ReadLaws.{variable_is, some_variable}
use Rattle.ua_operands.proofs.identities.variable.Goals as goal

pub returns-in_err-token-clause-only : goal.returns-in_err-token-clause-only
returns-in_err-token-clause-only c = λ k ws f. let e = c.in_err-token.ensures.only (variable k) ws [] f in search rules

pub returns-then-is_word-clause-only : goal.returns-then-is_word-clause-only
returns-then-is_word-clause-only c = λ k ws f.
    let s = c.in_ok-token.ensures.only (variable k) ws [] f in
    (variable_is k X c.in_ok-token.token.text.now s.0 (sym c.if-is_word.ensures), s.2)

pub returns-then-is_word-2-clause-only : goal.returns-then-is_word-2-clause-only
returns-then-is_word-2-clause-only c = λ k ws f.
    let s = c.in_ok-token.ensures.only (variable k) ws [] f in
    (variable_is k Y c.in_ok-token.token.text.now s.0 (sym c.if-is_word-2.ensures), s.2)

pub returns-then-is_word-3-clause-only : goal.returns-then-is_word-3-clause-only
returns-then-is_word-3-clause-only c = λ k ws f.
    let s = c.in_ok-token.ensures.only (variable k) ws [] f in
    (variable_is k Z c.in_ok-token.token.text.now s.0 (sym c.if-is_word-3.ensures), s.2)

pub returns-then-is_word-4-clause-only : goal.returns-then-is_word-4-clause-only
returns-then-is_word-4-clause-only c = λ k ws f.
    let s = c.in_ok-token.ensures.only (variable k) ws [] f in
    (variable_is k W c.in_ok-token.token.text.now s.0 (sym c.if-is_word-4.ensures), s.2)

pub returns-clause-only : goal.returns-clause-only
returns-clause-only c = λ k ws f.
    let s = c.in_ok-token.ensures.only (variable k) ws [] f in
    some_variable k c.in_ok-token.token.text.now s.0 (sym c.if-is_word.ensures) (sym c.if-is_word-2.ensures) (sym c.if-is_word-3.ensures) (sym c.if-is_word-4.ensures)
