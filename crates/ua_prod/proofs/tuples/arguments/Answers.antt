use Rattle.std.proofs.Common.{◌≡◌, ◌-◌, ◌<◌, ◌∷◌, [], ℕ, length, drop, replicate, ap, sym, ◌∙◌, subst, arith}
use Rattle.std.specs.List.{AllByRecursion}
use Rattle.std.proofs.lemmas.List.{take_at, drop_at, drop-replicate, length-take-le}
use Rattle.ua_table.specs.Algebras.{numeral}
use Rattle.ua_prod.proofs.tuples.arguments.Goals as goal

pub returns : goal.returns
returns c =
    let o = c.args.table.now in
    let t = c.arity.ensures.table in
    let k : c.from.result ≡ o.arity = c.from.ensures ∙ c.arity.ensures.arity in
    let digits = c.write_digits.new.digits in
    let long : length c.write_digits.new.digits ≡ o.arity = c.write_digits.auto.digits ∙ length-take-le c.from.result (0 ∷ 0 ∷ 0 ∷ 0 ∷ []) (omega (arith, k, t.arity)) ∙ k in
    let rest = drop c.from.result (0 ∷ 0 ∷ 0 ∷ 0 ∷ []) in
    let front = take_at digits rest o.arity long in
    record {
      count = ap length front ∙ long;
      below = subst (AllByRecursion (λ x. x < o.size)) (sym front) (subst (λ n. AllByRecursion (λ x. x < n) c.write_digits.new.digits) c.size.ensures.size c.write_digits.ensures.below);
      number_is = ap (numeral o.size) front ∙ ap (λ n. numeral n c.write_digits.new.digits) (sym c.size.ensures.size) ∙ c.write_digits.ensures.number;
      unused = drop_at digits rest o.arity long ∙ drop-replicate {X = ℕ} c.from.result 4 0 ∙ ap (λ n. replicate (4 - n) 0) k;
    }
