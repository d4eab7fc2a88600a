use Rattle.ua_operands.proofs.Vocabulary.{sign, sign_at, tokens_left, variable, identity_behind}
use Rattle.std.proofs.Common.{rules, [], ◌∷◌, ◌++◌, codes, refl, sym, ◌∙◌}
use Rattle.ua_text.specs.declared.symbols.Role.TheVariants as roles
use Rattle.ua_operands.proofs.ReadLaws.{behind_then, identity_is}
use Rattle.ua_operands.proofs.identities.identity.Goals as goal

pub returns-in_err-parenthesis-clause-only : goal.returns-in_err-parenthesis-clause-only
returns-in_err-parenthesis-clause-only c = λ i ws f.
    let e = c.in_err-parenthesis.ensures.only (sign_at roles.Opens (codes "(") i.place) (identity_behind i ++ ws) [] f in search rules

pub returns-in_err-args-clause-only : goal.returns-in_err-args-clause-only
returns-in_err-args-clause-only c = λ i ws f.
    let s0 = c.in_ok-parenthesis.ensures.only (sign_at roles.Opens (codes "(") i.place) (identity_behind i ++ ws) [] f in
    let e = c.in_err-args.ensures.only i.args (sign roles.Exact (codes "=") ∷ variable i.value ∷ ws) (behind_then (tokens_left c.next.new.tokens) i ws s0.2) in search rules

pub returns-in_err-exact-clause-only : goal.returns-in_err-exact-clause-only
returns-in_err-exact-clause-only c = λ i ws f.
    let s0 = c.in_ok-parenthesis.ensures.only (sign_at roles.Opens (codes "(") i.place) (identity_behind i ++ ws) [] f in
    let s1 = c.in_ok-args.ensures.only i.args (sign roles.Exact (codes "=") ∷ variable i.value ∷ ws) (behind_then (tokens_left c.next.new.tokens) i ws s0.2) in
    let e = c.in_err-exact.ensures.only (sign roles.Closes (codes ")")) (sign roles.Exact (codes "=") ∷ variable i.value ∷ ws) [] refl s1.1 in search rules

pub returns-in_err-exact-2-clause-only : goal.returns-in_err-exact-2-clause-only
returns-in_err-exact-2-clause-only c = λ i ws f.
    let s0 = c.in_ok-parenthesis.ensures.only (sign_at roles.Opens (codes "(") i.place) (identity_behind i ++ ws) [] f in
    let s1 = c.in_ok-args.ensures.only i.args (sign roles.Exact (codes "=") ∷ variable i.value ∷ ws) (behind_then (tokens_left c.next.new.tokens) i ws s0.2) in
    let s2 = c.in_ok-exact.ensures.only (sign roles.Closes (codes ")")) (sign roles.Exact (codes "=") ∷ variable i.value ∷ ws) [] refl s1.1 in
    let e = c.in_err-exact-2.ensures.only (sign roles.Exact (codes "=")) (variable i.value ∷ ws) [] refl s2 in search rules

pub returns-in_err-value-clause-only : goal.returns-in_err-value-clause-only
returns-in_err-value-clause-only c = λ i ws f.
    let s0 = c.in_ok-parenthesis.ensures.only (sign_at roles.Opens (codes "(") i.place) (identity_behind i ++ ws) [] f in
    let s1 = c.in_ok-args.ensures.only i.args (sign roles.Exact (codes "=") ∷ variable i.value ∷ ws) (behind_then (tokens_left c.next.new.tokens) i ws s0.2) in
    let s2 = c.in_ok-exact.ensures.only (sign roles.Closes (codes ")")) (sign roles.Exact (codes "=") ∷ variable i.value ∷ ws) [] refl s1.1 in
    let s3 = c.in_ok-exact-2.ensures.only (sign roles.Exact (codes "=")) (variable i.value ∷ ws) [] refl s2 in
    let e = c.in_err-value.ensures.only i.value ws s3 in search rules

pub returns-clause-only : goal.returns-clause-only
returns-clause-only c = λ i ws f.
    let s0 = c.in_ok-parenthesis.ensures.only (sign_at roles.Opens (codes "(") i.place) (identity_behind i ++ ws) [] f in
    let s1 = c.in_ok-args.ensures.only i.args (sign roles.Exact (codes "=") ∷ variable i.value ∷ ws) (behind_then (tokens_left c.next.new.tokens) i ws s0.2) in
    let s2 = c.in_ok-exact.ensures.only (sign roles.Closes (codes ")")) (sign roles.Exact (codes "=") ∷ variable i.value ∷ ws) [] refl s1.1 in
    let s3 = c.in_ok-exact-2.ensures.only (sign roles.Exact (codes "=")) (variable i.value ∷ ws) [] refl s2 in
    let s4 = c.in_ok-value.ensures.only i.value ws s3 in
    (identity_is {i = i} c.new.result c.in_ok-value.value c.place_of.result (c.new.ensures ∙ s1.0) s4.0 (c.place_of.ensures ∙ sym s0.1), s4.1)
