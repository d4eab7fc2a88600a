-- A walk through the assignments by their numbers, and an identity at those that were met.
use Rattle.std.proofs.Common.{◌≡◌, ℕ, ◌+◌, ◌^◌, ◌<◌, ◌≤◌, List, length, replicate, sym, ap, ◌∙◌, subst, arith, ⊎_elim}
use Rattle.std.proofs.lemmas.Bool.{cases_lt}
use Rattle.std.proofs.lemmas.List.{length-replicate}
use Rattle.ua_table.specs.Algebras.{FiniteAlgebra, numeral}
use Rattle.ua_table.specs.Terms.{Tree}
use Rattle.ua_table.proofs.Codes.{numeral_zeros, same_digits}
use Rattle.ua_table.proofs.Lists.{all_replicate}
use Rattle.ua_term.specs.Assignments.{IsAssignment}
use Rattle.ua_term.proofs.AssignmentLaws.{assignment_below}
use Rattle.ua_free.specs.Identities.{AgreeAt, Holds, FailsFirst}
use Rattle.ua_free.proofs.OrderLaws.{less_numeral}

-- ---- the walk

-- the assignment of this number, or any one behind the last
pub record IsNumbered (n k number : ℕ) (xs : List ℕ) : Type 0 where
  pub assignment : IsAssignment n k xs
  pub number_is : number < n ^ k → numeral n xs ≡ number

-- it begins with zeros
pub walk_begins : (n k : ℕ) → 0 < n → IsNumbered n k 0 (replicate k 0)
walk_begins n k some = record { assignment = record { count = length-replicate k 0; elements = all_replicate (λ x. x < n) k 0 some }; number_is = λ low. numeral_zeros n k }

-- and goes on from each to the next
pub walk_goes_on : (n k number : ℕ) (xs ys : List ℕ) → IsNumbered n k number xs → IsAssignment n k ys → (numeral n xs + 1 < n ^ length xs → numeral n ys ≡ numeral n xs + 1) → IsNumbered n k (number + 1) ys
walk_goes_on n k number xs ys h fine next =
    let power : n ^ length xs ≡ n ^ k = ap (λ m. n ^ m) h.assignment.count in
    record {
      assignment = fine;
      number_is = λ low.
          let here = h.number_is (omega (arith, low)) in
          next (omega (arith, low, here, power)) ∙ (let e : numeral n xs + 1 ≡ number + 1 = omega (arith, here) in e);
    }

-- ---- an identity

-- the identity holds at the assignments of smaller numbers
abbrev pub HoldsBelow : FiniteAlgebra → ℕ → Tree → Tree → ℕ → Type 0
HoldsBelow a k s t number = (ys : List ℕ) → IsAssignment a.size k ys → numeral a.size ys < number → AgreeAt a s t ys

module _ (a : FiniteAlgebra) (k : ℕ) (s t : Tree) (number : ℕ) (below : HoldsBelow a k s t number) where
  pub all_hold : a.size ^ k ≤ number → Holds a k s t
  all_hold whole xs h = let low = assignment_below a.size k xs h in below xs h (omega (arith, low, whole))

  module _ (xs : List ℕ) (h : IsNumbered a.size k number xs) (low : number < a.size ^ k) where
    pub one_more_holds : AgreeAt a s t xs → HoldsBelow a k s t (number + 1)
    one_more_holds agree ys fine less =
        ⊎_elim
        (λ before. below ys fine before)
        (λ here.
        let same : ys ≡ xs = same_digits a.size ys xs fine.elements h.assignment.elements (fine.count ∙ sym h.assignment.count) (let at = h.number_is low in omega (arith, less, here, at)) in
        subst (AgreeAt a s t) (sym same) agree)
        (cases_lt (numeral a.size ys) number)

    pub fails_first : ¬ AgreeAt a s t xs → FailsFirst a k s t xs
    fails_first fails = record {
      assignment = h.assignment;
      fails = fails;
      first = λ ys fine before.
          let less = less_numeral a.size ys xs fine.elements h.assignment.elements (fine.count ∙ sym h.assignment.count) before in
          below ys fine (let at = h.number_is low in omega (arith, less, at));
    }
