-- The operations that a reduct names.
use Rattle.std.proofs.Common.{◌≡◌, ℕ, ◌<◌, ◌==◌, Bool, true, false, not, nat_eq, List, [], ◌∷◌, ◌++◌, length, get_or, Some, refl, sym, ◌∙◌, subst, arith}
use Rattle.std.specs.Prelude.{Contains}
use Rattle.std.specs.List.{AllByRecursion, IsDistinct, list_any}
use Rattle.std.specs.Cmp.Lexicographic.{pointwise}
use Rattle.std.proofs.lemmas.Bool.{or_parts, ltb-true}
use Rattle.std.proofs.lemmas.List.{length-map}
use Rattle.std.proofs.lemmas.List.Sums.{position_or_len_is}
use Rattle.std.proofs.lemmas.List.Elements.{Contains-get_or}
use Rattle.ua_table.specs.Algebras.{Operation, FiniteAlgebra, names_of}
use Rattle.ua_text.proofs.WordLaws.{same-true}
use Rattle.ua_text.specs.declared.tokens.Place.{Place}
use Rattle.ua_text.specs.declared.named.Block.{Block}
use Rattle.ua_term.specs.Meanings.{operation_number, has_operation, first_place}
use Rattle.ua_operands.specs.declared.written.Word.{Word}
use Rattle.ua_reply.specs.Checks.{unless, Passes}
use Rattle.ua_reply.proofs.CheckLaws.{known_step}
use Rattle.ua_answer_algebras.specs.MakeCommand.{operation_in, number_of, numbers_of, repeated}

-- the number of a name that no operation has is that of the operations
pub absent_number : (a : FiniteAlgebra) (word : List ℕ) → (Contains (names_of a.operations) word → ⊥) → operation_number a word ≡ length a.operations
absent_number a word h =
    position_or_len_is (pointwise nat_eq word) (names_of a.operations) (length (names_of a.operations)) [] (omega arith) (λ k low. at k low (pointwise nat_eq word (get_or (names_of a.operations) k [])) refl) (λ l. absurd (omega (arith, l)))
    ∙ length-map a.operations (λ (o : Operation). o.name)
  where
    at : (k : ℕ) → k < length (names_of a.operations) → (b : Bool) → pointwise nat_eq word (get_or (names_of a.operations) k []) ≡ b → b ≡ false
    at k low false e = refl
    at k low true e =
        let is : get_or (names_of a.operations) k [] ≡ word = sym (same-true word (get_or (names_of a.operations) k []) e) in
        absurd (h (subst (Contains (names_of a.operations)) is (Contains-get_or (names_of a.operations) k [] low)))

-- nothing is told of a test that passes
told_step : (b : Bool) (place : Place) (rest : List Place) → (unless (not b) place ++ rest) ≡ [] → (b ≡ false) × (rest ≡ [])
told_step false place rest e = (refl, e)
told_step true place rest e = cc

-- names that pass are those of operations
pub numbers_below : (k : Block) (ws : List Word) → AllByRecursion (λ w. Passes (operation_in k w)) ws → AllByRecursion (λ f. f < length k.algebra.operations) (numbers_of k ws)
numbers_below k [] h = tt
numbers_below k (w ∷ ws) h = (ltb-true (number_of k w) (length k.algebra.operations) (known_step (has_operation k.algebra w.name) w.place h.0.unknown), numbers_below k ws h.1)

-- none of these is among those before
abbrev AreNew : Block → List ℕ → List Word → Type 0
AreNew k before ws = AllByRecursion (λ f. list_any (λ g. g == f) before ≡ false) (numbers_of k ws)

behind : (f : ℕ) (before ns : List ℕ) → AllByRecursion (λ g. list_any (λ h. h == g) (f ∷ before) ≡ false) ns → AllByRecursion (λ g. nat_eq f g ≡ false) ns × AllByRecursion (λ g. list_any (λ h. h == g) before ≡ false) ns
behind f before [] h = (tt, tt)
behind f before (n ∷ ns) h =
    let both = or_parts (f == n) (list_any (λ h. h == n) before) h.0 in
    let rest = behind f before ns h.1 in
    ((both.0, rest.0), (both.1, rest.1))

-- where none is repeated, they differ from each other and from those before
pub different : (k : Block) (before : List ℕ) (ws : List Word) → repeated k before ws ≡ [] → IsDistinct nat_eq (numbers_of k ws) × AreNew k before ws
unfolding IsDistinct
different k before [] e = (tt, tt)
different k before (w ∷ ws) e =
    let here = told_step (list_any (λ f. f == number_of k w) before) w.place (repeated k (number_of k w ∷ before) ws) e in
    let rest = different k (number_of k w ∷ before) ws here.1 in
    let split = behind (number_of k w) before (numbers_of k ws) rest.1 in
    ((split.0, rest.0), (here.0, split.1))

-- the first place is here, or further on
pub repeated_here : (k : Block) (before : List ℕ) (w : Word) (ws : List Word) → list_any (λ f. f == number_of k w) before ≡ true → first_place (repeated k before (w ∷ ws)) ≡ Some w.place
repeated_here k before w ws e = at (list_any (λ f. f == number_of k w) before) e
  where
    at : (b : Bool) → b ≡ true → first_place (unless (not b) w.place ++ repeated k (number_of k w ∷ before) ws) ≡ Some w.place
    at true e = refl
    at false e = cc

pub repeated_later : (k : Block) (before : List ℕ) (w : Word) (ws : List Word) → list_any (λ f. f == number_of k w) before ≡ false → first_place (repeated k before (w ∷ ws)) ≡ first_place (repeated k (number_of k w ∷ before) ws)
repeated_later k before w ws e = at (list_any (λ f. f == number_of k w) before) e
  where
    at : (b : Bool) → b ≡ false → first_place (unless (not b) w.place ++ repeated k (number_of k w ∷ before) ws) ≡ first_place (repeated k (number_of k w ∷ before) ws)
    at false e = refl
    at true e = cc
