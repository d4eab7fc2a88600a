-- Lists of digits that are lexicographically less have smaller numbers.
use Rattle.std.proofs.Common.{◌≡◌, ℕ, suc, ◌+◌, ◌*◌, ◌^◌, ◌<◌, ◌≤◌, List, [], ◌∷◌, length, sym, ap, ◌∙◌, subst, arith, ⊎_elim}
use Rattle.std.specs.List.{AllByRecursion}
use Rattle.std.specs.Cmp.Lexicographic.{slice_cmp}
use Rattle.std.specs.Cmp.{nat_cmp_is}
use Rattle.std.specs.Ordering.{nat_cmp, ordering_then}
use Rattle.std.specs.declared.cmp.Ordering.TheVariants.{Less, Equal, Greater}
use Rattle.std.proofs.lemmas.Bool.{cases_lt, cases_eq}
use Rattle.std.proofs.Math.Nat.{mul-le-mul_right}
use Rattle.ua_table.specs.Algebras.{numeral}
use Rattle.ua_table.proofs.ApplyLaws.{numeral-below}
use Rattle.ua_table.proofs.Codes.{numeral-cons}

equal_less : Equal ≡ Less → ⊥
equal_less e = cc

greater_less : Greater ≡ Less → ⊥
greater_less e = cc

pub less_numeral : (n : ℕ) (ys xs : List ℕ) → AllByRecursion (λ y. y < n) ys → AllByRecursion (λ x. x < n) xs → length ys ≡ length xs → slice_cmp nat_cmp ys xs ≡ Less → numeral n ys < numeral n xs
less_numeral n [] [] h k e l = absurd (equal_less l)
less_numeral n [] (x ∷ xs) h k e l = absurd (omega (arith, e))
less_numeral n (y ∷ ys) [] h k e l = absurd (omega (arith, e))
less_numeral n (y ∷ ys) (x ∷ xs) h k e l =
    let same : length ys ≡ length xs = omega (arith, e) in
    let one : numeral n (y ∷ ys) ≡ y * n ^ length xs + numeral n ys = numeral-cons n y ys ∙ ap (λ m. y * n ^ m + numeral n ys) same in
    let two = numeral-cons n x xs in
    let bound : numeral n ys < n ^ length xs = subst (λ m. numeral n ys < n ^ m) same (numeral-below n ys h.1) in
    ⊎_elim
    (λ less.
    let up : suc y * n ^ length xs ≤ x * n ^ length xs = mul-le-mul_right (n ^ length xs) less in
    let z : suc y * n ^ length xs ≡ y * n ^ length xs + n ^ length xs = omega arith in
    omega (arith, one, two, bound, up, z))
    (λ more.
    ⊎_elim
    (λ equal.
    let first : nat_cmp y x ≡ Equal = sym (nat_cmp_is y x Equal equal) in
    let rest : slice_cmp nat_cmp ys xs ≡ Less = sym (ap (λ o. ordering_then o (slice_cmp nat_cmp ys xs)) first) ∙ l in
    let low = less_numeral n ys xs h.1 k.1 same rest in
    let product : y * n ^ length xs ≡ x * n ^ length xs = ap (λ m. m * n ^ length xs) equal in
    omega (arith, one, two, low, product))
    (λ apart.
    let first : nat_cmp y x ≡ Greater = sym (nat_cmp_is y x Greater (omega (arith, more, apart))) in
    absurd (greater_less (sym (ap (λ o. ordering_then o (slice_cmp nat_cmp ys xs)) first) ∙ l)))
    (cases_eq y x))
    (cases_lt y x)
