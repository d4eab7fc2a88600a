use Rattle.std.proofs.Common.{◌≡◌, ◌≢◌, ◌+◌, ◌<◌, ◌≤◌, ◌==◌, ℕ, suc, Bool, true, false, List, [], ◌∷◌, length, drop, set, get_or, ◌||◌, refl, sym, ap, ◌∙◌, subst, arith, drop-cons, add-one, length-set}
use Rattle.std.specs.List.{list_any}
use Rattle.std.proofs.lemmas.Bool.Decides.{nat_tests}
use Rattle.std.proofs.lemmas.Grind.{common_steps}
use Rattle.std.proofs.lemmas.List.{get_or-set_same, get_or-set_other, get_or-replicate}
use Rattle.ua_table.specs.declared.limits.TheConstants.{OPERATIONS}
use Rattle.ua_table.specs.Algebras.{FiniteAlgebra}
use Rattle.ua_term.specs.Meanings.{first_place}
use Rattle.ua_operands.specs.declared.written.Word.{Word}
use Rattle.ua_answer_algebras.specs.MakeCommand.{repeated}
use Rattle.ua_answer_algebras.proofs.Reducts.{repeated_here, repeated_later}
use Rattle.ua_answer_algebras.proofs.reduct.first_repeated.Goals as goal

pub loop-name-init : goal.loop-name-init
loop-name-init c = record { before = []; long = refl; marks = λ f low. get_or-replicate (OPERATIONS + 1) f false false (omega (arith, low)); rest = refl }

-- the names from a place on
from_here : (ws : List Word) (i : ℕ) (w : Word) → i < length ws → w ≡ get_or ws i w → drop i ws ≡ w ∷ drop (i + 1) ws
from_here ws i w low is = rw add-one (drop-cons ws i w low ∙ ap (λ x. x ∷ drop (suc i) ws) (sym is))

pub returns-then-seen-number : goal.returns-then-seen-number
returns-then-seen-number c =
    let k = c.args.known.now in
    let ws = c.args.names.now in
    let i = c.loop-name.name-index in
    let w = c.name-item.result in
    let before = c.loop-name.invariant.before in
    let most = c.number_of-number.ensures.most in
    let few = c.size-size.ensures.algebra.few in
    let same = ap (λ (a : FiniteAlgebra). length a.operations) c.algebra.ensures in
    let mark = sym (c.loop-name.invariant.marks c.number_of-number.result (omega (arith, most, few, same))) ∙ c.if-seen-number.true in
    let there = subst (λ n. list_any (λ g. g == n) before ≡ true) c.number_of-number.ensures.number mark in
    sym (c.loop-name.invariant.rest ∙ ap (λ v. first_place (repeated k before v)) (from_here ws i w c.loop-name-test.true c.name-item.is) ∙ repeated_here k before w (drop (i + 1) ws) there)

-- one mark more
marked : (seen : List Bool) (before : List ℕ) (n : ℕ) → length seen ≡ OPERATIONS + 1 → n ≤ OPERATIONS → ((f : ℕ) → f ≤ OPERATIONS → get_or seen f false ≡ list_any (λ g. g == f) before)
    → (f : ℕ) → f ≤ OPERATIONS → get_or (set seen n true) f false ≡ list_any (λ g. g == f) (n ∷ before)
marked seen before n long low marks f within = at (n == f) refl
  where
    at : (b : Bool) → (n == f) ≡ b → get_or (set seen n true) f false ≡ (b || list_any (λ g. g == f) before)
    at true e = let is : n ≡ f = grind (arith, nat_tests, e) in subst (λ m. get_or (set seen n true) m false ≡ true) is (get_or-set_same seen n true false (omega (arith, long, low)))
    at false e = let apart : f ≢ n = λ is. grind (arith, nat_tests, e, is) in get_or-set_other seen n f true false apart ∙ marks f within

pub loop-name-preserved : goal.loop-name-preserved
loop-name-preserved c =
    let k = c.args.known.now in
    let ws = c.args.names.now in
    let i = c.loop-name.name-index in
    let w = c.name-item.result in
    let n = c.number_of-number.result in
    let before = c.loop-name.invariant.before in
    let most = c.number_of-number.ensures.most in
    let few = c.size-size.ensures.algebra.few in
    let same = ap (λ (a : FiniteAlgebra). length a.operations) c.algebra.ensures in
    let low : n ≤ OPERATIONS = omega (arith, most, few, same) in
    let mark = sym (c.loop-name.invariant.marks n low) ∙ c.if-seen-number.false in
    let new = subst (λ n. list_any (λ g. g == n) before ≡ false) c.number_of-number.ensures.number mark in
    let here = c.loop-name.invariant.rest ∙ ap (λ v. first_place (repeated k before v)) (from_here ws i w c.loop-name-test.true c.name-item.is) ∙ repeated_later k before w (drop (i + 1) ws) new in
    record {
      before = n ∷ before;
      long = length-set c.loop-name.seen n true ∙ c.loop-name.invariant.long;
      marks = marked c.loop-name.seen before n c.loop-name.invariant.long low c.loop-name.invariant.marks;
      rest = here ∙ ap (λ m. first_place (repeated k (m ∷ before) (drop (i + 1) ws))) (sym c.number_of-number.ensures.number);
    }

pub returns : goal.returns
returns c =
    let ws = c.args.names.now in
    let over = c.loop-name-test.false in
    let none : drop c.loop-name.name-index ws ≡ [] = grind (arith, common_steps, over) in
    sym (c.loop-name.invariant.rest ∙ ap (λ v. first_place (repeated c.args.known.now c.loop-name.invariant.before v)) none)
