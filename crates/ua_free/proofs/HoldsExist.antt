-- That it is told whether an identity holds: the first assignment at which it fails, if there is one, is among all.
use Rattle.std.proofs.Common.{◌≡◌, ◌≢◌, ◌⊎◌, inl, inr, ⊎_elim, ℕ, ◌^◌, ◌<◌, ◌≤◌, true, false, List, length, Option, Some, None, Result, Ok, Err, Vec, refl, sym, ap, ◌∙◌, arith}
use Rattle.std.specs.Cmp.Lexicographic.{nat_list_cmp_total}
use Rattle.std.specs.Ordering.{ordering_reverse, is_gt}
use Rattle.std.specs.declared.alloc.Global.{Global}
use Rattle.std.proofs.lemmas.Bool.{cases_lt, cases_eq}
use denote.RawPtr.{null_ptr}
use Rattle.ua_table.specs.declared.limits.TheConstants.{ASSIGNMENTS, VARIABLES}
use Rattle.ua_table.specs.Algebras.{FiniteAlgebra}
use Rattle.ua_table.specs.Terms.{Tree, eval}
use Rattle.ua_term.specs.Assignments.{assignments}
use Rattle.ua_term.proofs.AssignmentLaws.{assignment_in, assignment_from}
use Rattle.ua_close.specs.Permitted.{IsAnswerable}
use Rattle.ua_table.proofs.Firsts.{IsFirstOf, first_of}
use Rattle.ua_free.specs.Identities.{variables_in, AgreeAt}
use Rattle.ua_free.specs.Permitted.{assignments_of, MayHold}
use Rattle.ua_free.specs.declared.identities.HoldsError.{HoldsError}
use Rattle.ua_free.specs.declared.identities.HoldsError.TheVariants.{Wide, OutOfMemory}

-- a list as it would lie in memory
abbrev vec_of : Global → (xs : List ℕ) → length xs < 2 ^ 63 → Vec ℕ Global
vec_of alloc xs small = record { ptr = null_ptr; len = length xs; cap = length xs; alloc = alloc; items = xs; ok = (refl, omega arith); small = small }

told_ok : (x : Option (Vec ℕ Global)) (r : Result (Option (Vec ℕ Global)) HoldsError) → r ≡ Ok x → r ≢ Err OutOfMemory
told_ok x r is e = cc

told_wide : (n : ℕ) (r : Result (Option (Vec ℕ Global)) HoldsError) → r ≡ Err (Wide n) → r ≢ Err OutOfMemory
told_wide n r is e = cc

module _ (alloc : Global) (a : FiniteAlgebra) (s t : Tree) (few : variables_in s t ≤ VARIABLES) where
  abbrev FailsAt : List ℕ → Type 0
  FailsAt xs = ¬ AgreeAt a s t xs

  fails_or : (xs : List ℕ) → FailsAt xs ⊎ (FailsAt xs → ⊥)
  fails_or xs = ⊎_elim (λ e. inr (λ no. no e)) (λ no. inl no) (cases_eq (eval a xs s) (eval a xs t))

  agrees : (xs : List ℕ) → (FailsAt xs → ⊥) → AgreeAt a s t xs
  agrees xs h = ⊎_elim (λ e. e) (λ no. absurd (h no)) (cases_eq (eval a xs s) (eval a xs t))

  narrow_told : assignments_of a s t ≤ ASSIGNMENTS → IsAnswerable (MayHold a s t) OutOfMemory
  narrow_told narrow = ⊎_elim
      (λ (r : IsFirstOf (λ (xs : List ℕ). xs) FailsAt all).
      let is = assignment_from a.size (variables_in s t) r.item r.among in
      let small : length r.item < 2 ^ 63 = let n = is.count in omega (arith, n, few) in
      let answer = Some (vec_of alloc r.item small) in
      record {
        answer = Ok answer;
        permitted = (
          narrow,
          record {
            assignment = is;
            fails = r.passes;
            first = λ ys other less. agrees ys (λ no.
                let bad : true ≡ false = sym (ap is_gt (nat_list_cmp_total.antisymm r.item ys ∙ ap ordering_reverse less)) ∙ r.first ys (assignment_in a.size (variables_in s t) ys other) no in cc);
          },
        );
        told = told_ok answer (Ok answer) refl;
      })
      (λ none. record { answer = Ok None; permitted = (narrow, λ xs is. agrees xs (none xs (assignment_in a.size (variables_in s t) xs is))); told = told_ok None (Ok None) refl })
      (first_of (λ (xs : List ℕ). xs) FailsAt fails_or all)
    where
      all : List (List ℕ)
      all = assignments a.size (variables_in s t)

  pub holds_told : IsAnswerable (MayHold a s t) OutOfMemory
  holds_told = ⊎_elim
      (λ wide. let n = assignments_of a s t in record { answer = Err (Wide n); permitted = (wide, refl); told = told_wide n (Err (Wide n)) refl })
      narrow_told
      (cases_lt ASSIGNMENTS (assignments_of a s t))
