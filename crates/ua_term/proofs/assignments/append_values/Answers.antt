use Rattle.std.proofs.Common.{◌≡◌, ◌++◌, ◌-◌, ◌<◌, ◌^◌, ℕ, sym, ap, ◌∙◌, subst, arith}
use Rattle.ua_term.proofs.RunLaws.{copies, round, projection_is, some_before, some_behind}
use Rattle.ua_term.proofs.assignments.append_values.Goals as goal

pub pow-often-requires : goal.pow-often-requires
pow-often-requires c = subst (λ (e : ℕ). c.args.size ^ e < 2 ^ 32) (sym c.from.ensures) (some_behind c.args.size c.args.variables c.args.variable c.requires.some c.requires.named c.requires.narrow)

pub pow-end-requires : goal.pow-end-requires
pow-end-requires c = subst (λ (e : ℕ). c.args.size ^ e < 2 ^ 32) (sym c.from-2.ensures) (some_before c.args.size c.args.variables c.args.variable c.requires.some c.requires.named c.requires.narrow)

pub returns : goal.returns
returns c =
    let n = c.args.size in
    let often : c.pow-often.result ≡ n ^ (c.args.variables - 1 - c.args.variable) = c.pow-often.ensures ∙ ap (λ (e : ℕ). n ^ e) c.from.ensures in
    let rounds : c.pow-end.result ≡ n ^ c.args.variable = c.pow-end.ensures ∙ ap (λ (e : ℕ). n ^ e) c.from-2.ensures in
    let end : c.loop.counter ≡ c.pow-end.result = (let low = c.loop-test.false in let high = c.loop.auto.counter-end in omega (arith, low, high)) in
    c.loop.invariant ∙ (λ i. c.args.row.now.items ++ copies ((end ∙ rounds) i) (round n (often i))) ∙ ap (λ ys. c.args.row.now.items ++ ys) (sym (projection_is n c.args.variables c.args.variable c.requires.named))
