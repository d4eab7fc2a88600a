-- Rows in which no value is missing are closed under the operations.
use Rattle.std.proofs.Common.{◌≡◌, ℕ, None, List, [], ◌∷◌, length, get_or, refl, ◌∙◌, subst, arith}
use Rattle.std.specs.Prelude.{Contains, slice_index, find, replicate}
use Rattle.std.specs.List.{AllByRecursion, range_with_len}
use Rattle.std.proofs.lemmas.List.{get_or_default}
use Rattle.ua_table.specs.Algebras.{Vector, Product, arities, apply}
use Rattle.ua_table.specs.Generated.{IsClosed}
use Rattle.ua_table.proofs.Lists.{Contains-map}
use Rattle.ua_table.proofs.Choices.{IsChoice, chosen, in_range}
use Rattle.ua_term.specs.Assignments.{assignments}
use Rattle.ua_rows.specs.RowLists.{rows_at}
use Rattle.ua_flaws.specs.Closing.{is_missing, missing_of, missing}
use Rattle.ua_flaws.proofs.FirstLaws.{not_false, among_is, option_none, each_none, find_none}

-- where members stand
positions : (rows args : List Vector) → AllByRecursion (Contains rows) args → List ℕ
positions rows [] h = []
positions rows (v ∷ vs) h = h.0.0 ∷ positions rows vs h.1

positions_give : (rows args : List Vector) (h : AllByRecursion (Contains rows) args) → rows_at rows (positions rows args h) ≡ args
unfolding positions
positions_give rows [] h = refl
positions_give rows (v ∷ vs) h =
    let here : get_or rows h.0.0 [] ≡ v = get_or_default rows h.0.0 [] v h.0.1 ∙ h.0.2 in
    let rest = positions_give rows vs h.1 in
    λ i. here i ∷ rest i

positions_chosen : (rows args : List Vector) (h : AllByRecursion (Contains rows) args) → IsChoice (replicate (length args) (range_with_len 0 (length rows))) (positions rows args h)
unfolding positions
positions_chosen rows [] h = tt
positions_chosen rows (v ∷ vs) h = (in_range 0 (length rows) h.0.0 (omega arith) (let l = h.0.1 in omega (arith, l)), positions_chosen rows vs h.1)

-- no value is missing, so the value at members is a member
pub closed_from : (p : Product) (rows : List Vector) → missing p rows ≡ None → IsClosed p rows
closed_from p rows none f args low arity held =
    let f_in : Contains (range_with_len 0 (length (arities p))) f = in_range 0 (length (arities p)) f (omega arith) (omega (arith, low)) in
    let here : missing_of p rows f ≡ None = each_none _ _ none (Contains-map (missing_of p rows) f (range_with_len 0 (length (arities p))) f_in) in
    let nothing : find (is_missing p rows f) (assignments (length rows) (slice_index (arities p) f)) ≡ None =
    option_none (λ (tuple : List ℕ). (f, tuple)) (find (is_missing p rows f) (assignments (length rows) (slice_index (arities p) f))) here in
    let choice : IsChoice (replicate (slice_index (arities p) f) (range_with_len 0 (length rows))) (positions rows args held)
    = subst (λ k. IsChoice (replicate k (range_with_len 0 (length rows))) (positions rows args held)) arity (positions_chosen rows args held) in
    let stands = find_none (is_missing p rows f) (assignments (length rows) (slice_index (arities p) f)) (positions rows args held) nothing (chosen _ (positions rows args held) choice) in
    subst (λ vs. Contains rows (apply p f vs)) (positions_give rows args held) (among_is rows (apply p f (rows_at rows (positions rows args held))) (not_false _ stands))
