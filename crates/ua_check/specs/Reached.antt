-- Certificates that there is no chain: rows, with positions that hold all that beginnings of chains reach.
use Rattle.std.specs.Prelude.{ℕ, zero, suc, ◌==◌, ◌&&◌, ◌||◌, nat_lt, not, Bool, if◌then◌else◌, Option, List, [], ◌∷◌, slice_index, slice_index_or, length}
use Rattle.std.specs.List.{list_all, list_any}
use Rattle.std.specs.Option.{option_map}
use Rattle.ua_table.specs.declared.limits.TheConstants.{WIDTH}
use Rattle.ua_table.specs.Algebras.{Vector, FiniteAlgebra}
use Rattle.ua_table.specs.Refusals.{refusal_if, first_refusal}
use Rattle.ua_term.specs.Assignments.{projection}
use Rattle.ua_identity.specs.Identities.{VariablePattern, TermIdentity}
use Rattle.ua_identity.specs.Chains.{Link, ChainKind, generators_of}
use Rattle.ua_identity.specs.KindTables.{number_of}
use Rattle.ua_identity.specs.Patterns.{part_of}
use Rattle.ua_cert.specs.declared.certs.ChainName.{ChainName}
use Rattle.ua_flaws.specs.declared.flaws.ListName.TheVariants.{Rows}
use Rattle.ua_flaws.specs.declared.flaws.Flaw.{Flaw}
use Rattle.ua_flaws.specs.declared.flaws.Flaw.TheVariants as flaw
use Rattle.ua_flaws.specs.Firsts.{first_bad, is_same}
use Rattle.ua_flaws.specs.Flaws.{vectors_flaw, closed_flaw}
use Rattle.ua_check.specs.Chains.{kind_of, chain_width}

-- ---- rows by their parts

-- the entries of a row at a pattern, over n elements
abbrev pub part : ℕ → ChainKind → VariablePattern → Vector → Vector
part n kind p v = part_of n kind.patterns (number_of kind.patterns p) p v

-- a row with these entries may follow this one
abbrev pub leads : ℕ → ChainKind → Link → Vector → Vector → Bool
leads n kind l v w = is_same (part n kind l.pattern v) (part n kind l.next w)

-- the row has what each term of the chain has by itself
abbrev pub is_own_row : ℕ → ChainKind → Vector → Bool
is_own_row n kind v = list_all (λ (i : TermIdentity). is_same (part n kind i.pattern v) (projection n i.pattern.variables i.value)) kind.own

-- ---- positions

-- the positions hold this one
abbrev pub holds_position : List ℕ → ℕ → Bool
holds_position ps i = list_any (λ p. p == i) ps

-- the rows that are reached at odd indices, where they are told apart from the others
abbrev pub odd_positions : ChainKind → List ℕ → List ℕ → List ℕ
odd_positions kind even odd = if kind.by_parity then odd else even

-- the position is one of n, and above the one before it
abbrev pub is_position : ℕ → List ℕ → ℕ → ℕ → Bool
is_position n ps zero p = nat_lt p n
is_position n ps (suc i) p = nat_lt p n && nat_lt (slice_index ps i) p

-- the first position that is not
abbrev pub positions_flaw : ℕ → List ℕ → Option Flaw
positions_flaw n ps = option_map (λ i. flaw.Reached (slice_index ps i)) (first_bad (is_position n ps) 0 ps)

-- a position told to be reached at odd indices, where these are not told apart
abbrev pub parity_flaw : ChainKind → List ℕ → Option Flaw
parity_flaw kind odd = refusal_if (not (kind.by_parity || (length odd == 0))) (flaw.Reached (slice_index odd 0))

-- ---- what is reached

-- some row at one of the positions leads to this one
abbrev pub is_led_to : ℕ → ChainKind → Link → List Vector → List ℕ → Vector → Bool
is_led_to n kind l rows ps v = list_any (λ p. leads n kind l (slice_index_or rows p []) v) ps

-- the row is not place 0, or stands among those at even indices
abbrev pub is_started : Vector → List ℕ → ℕ → Vector → Bool
is_started start even i v = not (is_same v start) || holds_position even i

-- the row has not what each term has, or it stands on the other side wherever one that is reached leads to it
abbrev pub is_followed : ℕ → ChainKind → List Vector → List ℕ → List ℕ → ℕ → Vector → Bool
is_followed n kind rows even odd i v =
    not (is_own_row n kind v)
    || ((holds_position odd i || not (is_led_to n kind kind.even rows even v))
    && (holds_position even i || not (is_led_to n kind kind.odd rows odd v)))

-- the row is not the end, or is not reached
abbrev pub is_not_end : Vector → List ℕ → List ℕ → ℕ → Vector → Bool
is_not_end end even odd i v = not (is_same v end) || (not (holds_position even i) && not (holds_position odd i))

-- the vector of place j
abbrev pub place_of : FiniteAlgebra → ChainKind → ℕ → Vector
place_of a kind j = slice_index_or (generators_of a kind) j []

-- the first row that the test refuses, as a flaw of its position
abbrev pub row_flaw : (ℕ → Vector → Bool) → List Vector → Option Flaw
row_flaw good rows = option_map flaw.Reached (first_bad good 0 rows)

-- the lines on what is reached: it holds the start, what it leads to, and not the end
abbrev pub reached_lines : ℕ → ChainKind → Vector → Vector → List Vector → List ℕ → List ℕ → List (Option Flaw)
reached_lines n kind start end rows even odd =
    row_flaw (is_started start even) rows
    ∷ row_flaw (is_followed n kind rows even odd) rows
    ∷ row_flaw (is_not_end end even odd) rows
    ∷ []

-- the first flaw of what is reached
abbrev pub reached_flaw : FiniteAlgebra → ChainKind → List Vector → List ℕ → List ℕ → Option Flaw
reached_flaw a kind rows even odd = first_refusal (reached_lines a.size kind (place_of a kind 0) (place_of a kind kind.end) rows even odd)

-- the first flaw of the rows
abbrev pub rows_flaw : FiniteAlgebra → ChainKind → List Vector → Option Flaw
rows_flaw a kind rows = first_refusal (
    refusal_if (nat_lt WIDTH (chain_width a kind)) flaw.Width
    ∷ vectors_flaw a.size (chain_width a kind) Rows rows
    ∷ closed_flaw a (chain_width a kind) (generators_of a kind) rows
    ∷ [])

-- the first flaw of the positions by themselves
abbrev pub sides_flaw : ChainKind → ℕ → List ℕ → List ℕ → Option Flaw
sides_flaw kind n even odd = first_refusal (positions_flaw n even ∷ positions_flaw n odd ∷ parity_flaw kind odd ∷ [])

-- the lines on a certificate that there is no chain
abbrev pub no_chain_lines : FiniteAlgebra → ChainKind → List Vector → List ℕ → List ℕ → List (Option Flaw)
no_chain_lines a kind rows even odd =
    rows_flaw a kind rows
    ∷ sides_flaw kind (length rows) even odd
    ∷ reached_flaw a kind rows even (odd_positions kind even odd)
    ∷ []

-- the first flaw of a certificate that there is no chain
abbrev pub no_chain_flaw : FiniteAlgebra → ChainName → List Vector → List ℕ → List ℕ → Option Flaw
no_chain_flaw a name rows even odd = first_refusal (no_chain_lines a (kind_of name) rows even odd)
