-- Rows at positions, as loops read them.
use Rattle.std.proofs.Common.{◌≡◌, ℕ, ◌+◌, ◌<◌, Bool, true, false, cond, Some, None, List, [], ◌∷◌, length, drop, get_or, refl, sym, ap, ◌∙◌}
use Rattle.std.specs.Prelude.{slice_get}
use Rattle.std.specs.List.{AllByRecursion}
use Rattle.std.specs.Option.{option_map}
use Rattle.std.proofs.lemmas.Option.{get_or_from_slice_get}
use Rattle.ua_table.specs.Algebras.{Vector, FiniteAlgebra}
use Rattle.ua_table.specs.Refusals.{first_refusal}
use Rattle.ua_table.proofs.RefusalLaws.{passed}
use Rattle.ua_identity.specs.Chains.{ChainKind, generators_of}
use Rattle.ua_identity.specs.Kinds.{IsKind}
use Rattle.ua_identity.proofs.KindLaws.{is_jonsson, is_hagemann_mitschke}
use Rattle.ua_cert.specs.declared.certs.ChainName.{ChainName}
use Rattle.ua_cert.specs.declared.certs.ChainName.TheVariants.{Jonsson, Hm}
use Rattle.ua_flaws.specs.declared.flaws.Flaw.TheVariants as flaw
use Rattle.ua_flaws.specs.Firsts.{first_bad}
use Rattle.ua_check.specs.Chains.{kind_of}
use Rattle.ua_check.specs.Reached.{odd_positions, place_of, row_flaw, sides_flaw, reached_lines, reached_flaw}
use Rattle.ua_flaws.proofs.FirstLaws.{alone, bad_here, bad_later}

-- ---- row by row

pub row_refused : (good : ℕ → Vector → Bool) (rows : List Vector) (i : ℕ) → i < length rows → first_bad good 0 rows ≡ first_bad good i (drop i rows) → good i (get_or rows i []) ≡ false → Some (flaw.Reached i) ≡ row_flaw good rows
row_refused good rows i h rest bad = sym (ap (option_map flaw.Reached) (rest ∙ bad_here good rows i (get_or rows i []) [] h refl bad))

pub row_passed : (good : ℕ → Vector → Bool) (rows : List Vector) (i : ℕ) → i < length rows → first_bad good 0 rows ≡ first_bad good i (drop i rows)
    → good i (get_or rows i []) ≡ true → first_bad good 0 rows ≡ first_bad good (i + 1) (drop (i + 1) rows)
row_passed good rows i h rest fine = rest ∙ bad_later good rows i (get_or rows i []) [] h refl fine

-- ---- kinds

pub is_kind : (name : ChainName) → IsKind (kind_of name)
is_kind Jonsson = is_jonsson
is_kind Hm = is_hagemann_mitschke

-- the positions at odd indices are those of rows, as both lists are
pub odd_low : (n : ℕ) (kind : ChainKind) (even odd : List ℕ) → AllByRecursion (λ p. p < n) even → AllByRecursion (λ p. p < n) odd → AllByRecursion (λ p. p < n) (odd_positions kind even odd)
odd_low n kind even odd h k =
    elim kind.by_parity as (λ b. AllByRecursion (λ p. p < n) (cond b odd even)) [
      | true ↦ k
      | false ↦ h
    ]

place_at : (a : FiniteAlgebra) (kind : ChainKind) (places : List Vector) (j : ℕ) (v : Vector) → places ≡ generators_of a kind → slice_get places j ≡ Some v → v ≡ place_of a kind j
place_at a kind places j v e at = sym (get_or_from_slice_get places j v [] at) ∙ ap (λ (vs : List Vector). get_or vs j []) e

-- what is left where the positions are fine by themselves
pub reached_told : (a : FiniteAlgebra) (kind : ChainKind) (rows places : List Vector) (even odd odd' : List ℕ) (n : ℕ) (start end : Vector)
    → n ≡ a.size → places ≡ generators_of a kind → slice_get places 0 ≡ Some start → slice_get places kind.end ≡ Some end
    → odd' ≡ odd_positions kind even odd → sides_flaw kind (length rows) even odd ≡ None
    → first_refusal (reached_lines n kind start end rows even odd') ≡ first_refusal (sides_flaw kind (length rows) even odd ∷ reached_flaw a kind rows even (odd_positions kind even odd) ∷ [])
reached_told a kind rows places even odd odd' n start end size same first last is fine =
    let s = place_at a kind places 0 start same first in
    let e = place_at a kind places kind.end end same last in
    (λ i. first_refusal (reached_lines (size i) kind (s i) (e i) rows even (is i)))
    ∙ alone (reached_flaw a kind rows even (odd_positions kind even odd))
    ∙ sym (passed (sides_flaw kind (length rows) even odd) (reached_flaw a kind rows even (odd_positions kind even odd) ∷ []) fine)
