use Rattle.std.proofs.Common.{◌≡◌, ◌+◌, ◌-◌, ◌*◌, ◌<◌, ◌≤◌, ◌^◌, ℕ, List, suc, length, set, ap, ◌∙◌, length-set, arith}
use Rattle.std.specs.Prelude.{slice_index}
use Rattle.std.specs.List.{AllByRecursion}
use Rattle.std.proofs.Math.Nat.{pow-suc}
use Rattle.std.proofs.lemmas.List.Elements.{All-from_recursion, recursion_from_All, All-set}
use Rattle.ua_table.specs.Algebras.{numeral}
use Rattle.ua_table.proofs.Codes.{digit_changed}
use Rattle.ua_table.proofs.operations.next_tuple.Goals as goal

pub returns-then-from-size-clause-next : goal.returns-then-from-size-clause-next
returns-then-from-size-clause-next c more =
    let n = c.args.size in
    let xs = c.loop-place.xs in
    let place = c.loop-place.place in
    let x = slice_index xs (place - 1) in
    let k = length xs - place in
    let spread : (x + 1) * n ^ k ≡ x * n ^ k + n ^ k = omega arith in
    omega (arith, digit_changed n (place - 1) k (x + 1) xs (omega (arith, c.loop-place-test.true, c.loop-place.auto.place, c.loop-place.auto.xs)), spread, c.loop-place.invariant.number)

-- a place at its last element goes back to the first
goes_back : (n place k number : ℕ) (xs : List ℕ) → length xs ≡ suc (place + k) → AllByRecursion (λ x. x < n) xs → n ≤ slice_index xs place + 1 → numeral n xs + n ^ k ≡ number
    → AllByRecursion (λ x. x < n) (set xs place 0) × (numeral n (set xs place 0) + n ^ (length (set xs place 0) - place) ≡ number)
goes_back n place k number xs long below last is =
    let x = slice_index xs place in
    let each = All-from_recursion (λ x. x < n) xs below in
    let digit : x < n = each place 0 (omega (arith, long)) in
    let top : n ≡ x + 1 = omega (arith, digit, last) in
    let more : length (set xs place 0) - place ≡ suc k = omega (arith, length-set xs place 0, long) in
    let power : n ^ (length (set xs place 0) - place) ≡ n ^ k * (x + 1) = ap (λ m. n ^ m) more ∙ pow-suc n k ∙ ap (λ m. n ^ k * m) top in
    let spread : n ^ k * (x + 1) ≡ x * n ^ k + n ^ k = omega arith in
    let none : 0 * n ^ k ≡ 0 = omega arith in
    (recursion_from_All (λ x. x < n) (set xs place 0) (All-set (λ x. x < n) xs place 0 (omega (arith, top)) each), omega (arith, digit_changed n place k 0 xs long, power, spread, none, is))

pub loop-place-preserved : goal.loop-place-preserved
loop-place-preserved c =
    let place = c.loop-place.place in
    let behind = length c.loop-place.xs - place in
    let back =
    goes_back c.args.size (place - 1) behind _ c.loop-place.xs
    (omega (arith, c.loop-place-test.true, c.loop-place.auto.place, c.loop-place.auto.xs)) c.loop-place.invariant.below
    (omega (arith, c.if-from-size.false, c.from.ensures)) c.loop-place.invariant.number in
    record { below = back.0; number = back.1 }
