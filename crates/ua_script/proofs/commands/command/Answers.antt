use Rattle.ua_operands.proofs.Vocabulary.{tokens_left, sign}
use Rattle.ua_script.proofs.Vocabulary.{asked}
use Rattle.std.proofs.Common.{rules, ◌≡◌, ◌∷◌, ◌++◌, [], true, false, codes, refl, ◌∙◌}
use Rattle.ua_text.specs.declared.symbols.Role.TheVariants as roles
use Rattle.ua_text.specs.declared.readers.Miss.TheVariants as misses
use Rattle.ua_script.proofs.Certificates.{operands, word_at, by_certificate, beginning, no_certificate, certified_is, gives_plain}
use Rattle.ua_script.proofs.commands.command.Goals as goal

pub returns-in_err-exact-clause-only : goal.returns-in_err-exact-clause-only
returns-in_err-exact-clause-only c = λ v k ws r b f.
    let e : c.in_err-exact.field-0.0 ≡ misses.OutOfMemory = by_certificate (tokens_left c.args.tokens.now) ws k f
    (λ y h. c.in_err-exact.ensures.only (sign roles.Begins (codes "cert")) (word_at roles.Form k ∷ (operands k ++ ws)) [] refl h)
    (λ n h. let z : true ≡ false = c.if-is_next.ensures.other (word_at roles.Begins k ∷ (operands k ++ ws)) (no_certificate k (operands k ++ ws)) h in let no : ⊥ = cc in absurd no) in search rules

pub returns-in_err-plain-clause-only : goal.returns-in_err-plain-clause-only
returns-in_err-plain-clause-only c = λ v k ws r b f.
    let e : c.in_err-plain.field-0.0 ≡ misses.OutOfMemory = by_certificate (tokens_left c.args.tokens.now) ws k f
    (λ y h.
    c.in_err-plain.ensures.only (asked k).form (asked k).values (word_at roles.Form k) ws
    (beginning roles.Form (tokens_left c.exact.new.tokens) ws k r b
    (c.in_ok-exact.ensures.only (sign roles.Begins (codes "cert")) (word_at roles.Form k ∷ (operands k ++ ws)) [] refl h)))
    (λ n h. let z : true ≡ false = c.if-is_next.ensures.other (word_at roles.Begins k ∷ (operands k ++ ws)) (no_certificate k (operands k ++ ws)) h in let no : ⊥ = cc in absurd no) in search rules

pub returns-then-is_next-clause-only : goal.returns-then-is_next-clause-only
returns-then-is_next-clause-only c = λ v k ws r b f.
    by_certificate (tokens_left c.args.tokens.now) ws k f
    (λ y h.
    let s =
    c.in_ok-plain.ensures.only (asked k).form (asked k).values (word_at roles.Form k) ws
    (beginning roles.Form (tokens_left c.exact.new.tokens) ws k r b
    (c.in_ok-exact.ensures.only (sign roles.Begins (codes "cert")) (word_at roles.Form k ∷ (operands k ++ ws)) [] refl h)) in
    (c.certified.ensures ∙ certified_is k c.in_ok-plain.field-0 r.formed.0 y s.0, s.1))
    (λ n h. let z : true ≡ false = c.if-is_next.ensures.other (word_at roles.Begins k ∷ (operands k ++ ws)) (no_certificate k (operands k ++ ws)) h in let no : ⊥ = cc in absurd no)

pub returns-clause-only : goal.returns-clause-only
returns-clause-only c = λ v k ws r b f.
    by_certificate (tokens_left c.args.tokens.now) ws k f
    (λ y h. let z : false ≡ true = c.if-is_next.ensures.yes (sign roles.Begins (codes "cert")) (word_at roles.Form k ∷ (operands k ++ ws)) [] refl h in let no : ⊥ = cc in absurd no)
    (λ n h.
    gives_plain k r.formed.0 n (tokens_left c.plain-2.new.tokens) ws c.plain-2.result
    (c.plain-2.ensures.only (asked k).form (asked k).values (word_at roles.Begins k) ws
    (beginning roles.Begins (tokens_left c.args.tokens.now) ws k r b h)))
