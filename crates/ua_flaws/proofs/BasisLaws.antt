-- Rows that a complete basis closes under an operation lack no value of it.
use Rattle.std.proofs.Common.{◌≡◌, ℕ, ◌-◌, ◌<◌, Bool, false, not, cond, Option, Some, None, List, [], ◌∷◌, length, take, sym, ap, ◌∙◌, subst, arith}
use Rattle.std.specs.Prelude.{Contains, slice_index, slice_index_or, find, replicate}
use Rattle.std.specs.List.{range_with_len}
use Rattle.std.specs.Option.{option_map}
use Rattle.std.specs.Cmp.Lexicographic.{nat_list_eq_equiv}
use Rattle.std.proofs.lemmas.Map.Views.{list_any-from_Contains}
use Rattle.std.proofs.lemmas.List.Elements.{Contains-get_or}
use Rattle.ua_table.specs.Algebras.{Vector, FiniteAlgebra, Product, IsAlgebra, arities, apply, power}
use Rattle.ua_table.proofs.Lists.{all_replicate, Contains-head, Contains-tail}
use Rattle.ua_table.proofs.Choices.{IsChoice, choice_from, range_low}
use Rattle.ua_table.proofs.AlgebraLaws.{power_product}
use Rattle.ua_term.specs.Assignments.{assignments}
use Rattle.ua_bases.specs.Associative.{IsAssociativeIn, IsAssociative}
use Rattle.ua_bases.specs.Bases.{IsClosedUnder}
use Rattle.ua_bases.proofs.ProductLaws.{associative_product}
use Rattle.ua_flaws.specs.inner.Firsts.{first_behind}
use Rattle.ua_flaws.specs.Closing.{Result, is_missing, missing_of}
use Rattle.ua_flaws.proofs.ResultLaws.{of_operation}

find_nothing : (test : List ℕ → Bool) (xs : List (List ℕ)) → ((t : List ℕ) → Contains xs t → test t ≡ false) → find test xs ≡ None
find_nothing test [] h = λ i. None
find_nothing test (t ∷ ts) h =
    ap (λ b. cond b (Some t) (find test ts)) (h t (Contains-head t ts)) ∙ find_nothing test ts (λ u c. h u (Contains-tail t u ts c))

module _ (p : Product) (rows : List Vector) (f : ℕ) (binary : slice_index (arities p) f ≡ 2) (closed : IsClosedUnder p f rows) where
  -- two positions below how many there are
  held : (tuple : List ℕ) → IsChoice (range_with_len 0 (length rows) ∷ range_with_len 0 (length rows) ∷ []) tuple → is_missing p rows f tuple ≡ false
  held [] h = absurd h
  held (i ∷ []) h = absurd h.1
  held (i ∷ j ∷ []) h =
      let v = slice_index_or rows i [] in
      let w = slice_index_or rows j [] in
      let one = range_low 0 (length rows) i h.0 in
      let two = range_low 0 (length rows) j h.1.0 in
      let there = closed v w (Contains-get_or rows i [] (let l = one.1 in omega (arith, l))) (Contains-get_or rows j [] (let l = two.1 in omega (arith, l))) in
      ap not (list_any-from_Contains nat_list_eq_equiv (apply p f (v ∷ w ∷ [])) rows there)
  held (i ∷ j ∷ k ∷ rest) h = absurd h.1.1

  pub none_missing : missing_of p rows f ≡ None
  none_missing =
      ap (λ k. option_map (λ (tuple : List ℕ). (f, tuple)) (find (is_missing p rows f) (assignments (length rows) k))) binary
      ∙ ap (option_map (λ (tuple : List ℕ). (f, tuple))) (find_nothing (is_missing p rows f) (assignments (length rows) 2) (λ t c. held t (choice_from (replicate 2 (range_with_len 0 (length rows))) t c)))

fused : (f k : ℕ) (o : Option (List ℕ)) → option_map {U = Result} (λ (tuple : List ℕ). (f, tuple)) (option_map {U = List ℕ} (λ (tuple : List ℕ). take k tuple) o) ≡ option_map {U = Result} (λ (tuple : List ℕ). (f, take k tuple)) o
fused f k None = λ i. None
fused f k (Some t) = λ i. Some (f, take k t)

-- what a walk through one operation finds
pub missing_found : (p : Product) (rows : List Vector) (f k : ℕ) (o : Option (List ℕ)) → k ≡ slice_index (arities p) f → option_map (λ (tuple : List ℕ). take k tuple) o ≡ first_behind (is_missing p rows f) (length rows) [] (k - 0)
    → missing_of p rows f ≡ option_map {U = Result} (λ (tuple : List ℕ). (f, take k tuple)) o
missing_found p rows f k o e first = of_operation p rows f k e ∙ ap (option_map {U = Result} (λ (tuple : List ℕ). (f, tuple))) (sym first) ∙ fused f k o

-- an operation that is associative in an algebra is so in its powers
pub associative_power : (a : FiniteAlgebra) (width f : ℕ) (p : Product) → IsAlgebra a → 0 < width → p ≡ power a width → IsAssociativeIn a f → IsAssociative p f
associative_power a width f p h some is associative =
    subst (λ (q : Product). IsAssociative q f) (sym is) (associative_product (power a width) f (power_product a width h some) (all_replicate (λ (b : FiniteAlgebra). IsAssociativeIn b f) width a associative))
