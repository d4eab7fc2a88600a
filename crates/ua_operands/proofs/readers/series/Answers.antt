use Rattle.ua_operands.proofs.Vocabulary.{sign, series_word}
use Rattle.std.proofs.Common.{rules, [], sym}
use Rattle.ua_text.specs.declared.symbols.Role.TheVariants as roles
use Rattle.ua_operands.specs.declared.written.SeriesWord.TheVariants.{Derived, Lower}
use Rattle.ua_operands.proofs.ReadLaws.{series_is, some_series}
use Rattle.ua_operands.proofs.readers.series.Goals as goal

pub returns-in_err-token-clause-only : goal.returns-in_err-token-clause-only
returns-in_err-token-clause-only c = λ k ws f. let e = c.in_err-token.ensures.only (sign roles.Exact (series_word k)) ws [] f in search rules

pub returns-then-is_word-clause-only : goal.returns-then-is_word-clause-only
returns-then-is_word-clause-only c = λ k ws f.
    let s = c.in_ok-token.ensures.only (sign roles.Exact (series_word k)) ws [] f in
    (series_is k Derived c.in_ok-token.token.text.now s.0 (sym c.if-is_word.ensures), s.2)

pub returns-then-is_word-2-clause-only : goal.returns-then-is_word-2-clause-only
returns-then-is_word-2-clause-only c = λ k ws f.
    let s = c.in_ok-token.ensures.only (sign roles.Exact (series_word k)) ws [] f in
    (series_is k Lower c.in_ok-token.token.text.now s.0 (sym c.if-is_word-2.ensures), s.2)

pub returns-clause-only : goal.returns-clause-only
returns-clause-only c = λ k ws f.
    let s = c.in_ok-token.ensures.only (sign roles.Exact (series_word k)) ws [] f in
    some_series k c.in_ok-token.token.text.now s.0 (sym c.if-is_word.ensures) (sym c.if-is_word-2.ensures)
