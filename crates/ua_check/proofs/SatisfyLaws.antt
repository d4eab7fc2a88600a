-- Where no assignment fails, the identity or the link holds at all of them.
use Rattle.std.proofs.Common.{◌≡◌, ℕ, ◌+◌, true, Option, Some, None, List, [], ◌∷◌, map, refl, sym, ap, ◌∙◌, arith}
use Rattle.std.specs.Prelude.{slice_index, find, ◌==◌}
use Rattle.std.specs.List.{AllByRecursion, enumerate_from}
use Rattle.std.specs.Option.{is_none}
use Rattle.std.proofs.lemmas.Bool.Decides.{nat_tests}
use Rattle.ua_table.specs.Algebras.{FiniteAlgebra}
use Rattle.ua_table.specs.Terms.{Tree, eval}
use Rattle.ua_table.specs.Refusals.{first_refusal}
use Rattle.ua_term.specs.Assignments.{assignments}
use Rattle.ua_term.proofs.AssignmentLaws.{assignment_in, read_all}
use Rattle.ua_identity.specs.Identities.{TermIdentity, at_pattern, Satisfies}
use Rattle.ua_identity.specs.Chains.{Link, AreLinked, IsPlace}
use Rattle.ua_flaws.specs.declared.flaws.Flaw.TheVariants as flaw
use Rattle.ua_check.specs.Conditions.{fails, identity_failure, failure_flaw}
use Rattle.ua_check.specs.Chains.{place_identity, satisfies, satisfies_all, is_unlinked, are_linked}
use Rattle.ua_flaws.proofs.FirstLaws.{both, not_false, option_none, first_none, find_none}

equal : (m n : ℕ) → (m == n) ≡ true → m ≡ n
equal m n e = grind (arith, nat_tests)

pub none_is : {X : Type 0} (o : Option X) → is_none o ≡ true → o ≡ None
none_is None e = refl
none_is (Some x) e = cc

pub satisfied : (a : FiniteAlgebra) (t : Tree) (i : TermIdentity) → identity_failure a t i ≡ None → Satisfies a t i
satisfied a t i none xs h =
    equal (at_pattern a i.pattern t xs) (slice_index xs i.value)
    (not_false _ (find_none (fails a t i) (assignments a.size i.pattern.variables) xs none (assignment_in a.size i.pattern.variables xs h)))

-- no identity of the list fails
pub satisfied_from : (a : FiniteAlgebra) (t : Tree) (n : ℕ) (is : List TermIdentity) → first_refusal (map (failure_flaw a t) (enumerate_from n is)) ≡ None → AllByRecursion (Satisfies a t) is
satisfied_from a t n [] none = tt
satisfied_from a t n (i ∷ is) none =
    let h = first_none (failure_flaw a t (n, i)) (map (failure_flaw a t) (enumerate_from (n + 1) is)) none in
    (satisfied a t i (option_none (λ (xs : List ℕ). flaw.Identity n (slice_index xs 0) (slice_index xs 1)) (identity_failure a t i) h.0), satisfied_from a t (n + 1) is h.1)

pub satisfied_all : (a : FiniteAlgebra) (t : Tree) (is : List TermIdentity) → satisfies_all a is t ≡ true → AllByRecursion (Satisfies a t) is
satisfied_all a t [] e = tt
satisfied_all a t (i ∷ is) e =
    let h = both (satisfies a i t) (satisfies_all a is t) e in
    (satisfied a t i (none_is (identity_failure a t i) h.0), satisfied_all a t is h.1)

pub linked : (a : FiniteAlgebra) (l : Link) (d e : Tree) → are_linked a l d e ≡ true → AreLinked a l d e
linked a l d e test xs h =
    equal (at_pattern a l.pattern d xs) (at_pattern a l.next e xs)
    (not_false _ (find_none (is_unlinked a l d e) (assignments a.size l.pattern.variables) xs (none_is (find (is_unlinked a l d e) (assignments a.size l.pattern.variables)) test) (assignment_in a.size l.pattern.variables xs h)))

pub place : (a : FiniteAlgebra) (places j : ℕ) (t : Tree) → satisfies a (place_identity places j) t ≡ true → IsPlace a places j t
place a places j t e xs h =
    ap (λ ys. eval a ys t) (sym (read_all xs places h.count)) ∙ satisfied a t (place_identity places j) (none_is (identity_failure a t (place_identity places j)) e) xs h
