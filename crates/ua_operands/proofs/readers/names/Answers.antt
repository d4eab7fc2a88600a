use Rattle.ua_operands.proofs.Vocabulary.{sign, tokens_left, names}
use Rattle.std.proofs.Common.{rules, ◌∷◌, ◌++◌, [], refl, codes, ◌∙◌}
use Rattle.ua_text.specs.declared.symbols.Role.TheVariants as roles
use Rattle.ua_operands.proofs.ReadLaws.{names_front}
use Rattle.ua_operands.proofs.readers.names.Goals as goal

pub returns-in_err-exact-clause-only : goal.returns-in_err-exact-clause-only
returns-in_err-exact-clause-only c = λ ns ws a f.
    let e = c.in_err-exact.ensures.only (sign roles.Opens (codes "(")) (names ns ++ sign roles.Closes (codes ")") ∷ ws) [] refl f in search rules

pub returns-in_err-words-clause-only : goal.returns-in_err-words-clause-only
returns-in_err-words-clause-only c = λ ns ws a f.
    let s0 = c.in_ok-exact.ensures.only (sign roles.Opens (codes "(")) (names ns ++ sign roles.Closes (codes ")") ∷ ws) [] refl f in
    let e = c.in_err-words.ensures.only ns ws a (names_front (tokens_left c.exact.new.tokens) ns (sign roles.Closes (codes ")") ∷ ws) [] s0) in search rules

pub returns-in_err-exact-2-clause-only : goal.returns-in_err-exact-2-clause-only
returns-in_err-exact-2-clause-only c = λ ns ws a f.
    let s0 = c.in_ok-exact.ensures.only (sign roles.Opens (codes "(")) (names ns ++ sign roles.Closes (codes ")") ∷ ws) [] refl f in
    let s1 = c.in_ok-words.ensures.only ns ws a (names_front (tokens_left c.exact.new.tokens) ns (sign roles.Closes (codes ")") ∷ ws) [] s0) in
    let e = c.in_err-exact-2.ensures.only (sign roles.Closes (codes ")")) ws [] refl s1.1 in search rules

pub returns-clause-only : goal.returns-clause-only
returns-clause-only c = λ ns ws a f.
    let s0 = c.in_ok-exact.ensures.only (sign roles.Opens (codes "(")) (names ns ++ sign roles.Closes (codes ")") ∷ ws) [] refl f in
    let s1 = c.in_ok-words.ensures.only ns ws a (names_front (tokens_left c.exact.new.tokens) ns (sign roles.Closes (codes ")") ∷ ws) [] s0) in
    let s2 = c.in_ok-exact-2.ensures.only (sign roles.Closes (codes ")")) ws [] refl s1.1 in
    (c.new.ensures ∙ s1.0, s2)
