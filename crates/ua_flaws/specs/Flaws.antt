-- The first flaw of a certificate: lines in an order, of which the first that applies is told.
use Rattle.std.specs.Prelude.{◌≡◌, ℕ, zero, suc, true, ◌==◌, ◌&&◌, ◌||◌, not, nat_lt, Bool, Option, Some, None, Result, Ok, Err, List, [], ◌∷◌, length, take, slice_index, slice_index_or}
use Rattle.std.specs.List.{list_all, list_any}
use Rattle.std.specs.Option.{option_map}
use Rattle.std.specs.Ordering.{nat_cmp, is_lt}
use Rattle.std.specs.Cmp.Lexicographic.{slice_cmp}
use Rattle.ua_table.specs.declared.limits.TheConstants.{WIDTH}
use Rattle.ua_table.specs.Algebras.{Vector, FiniteAlgebra, power}
use Rattle.ua_table.specs.Origins.{origin_value}
use Rattle.ua_table.specs.Terms.{term_value}
use Rattle.ua_table.specs.Refusals.{refusal_if, first_refusal, is_outside}
use Rattle.ua_term.specs.Printing.{name_at}
use Rattle.ua_cert.specs.declared.certs.CertStep.{CertStep}
use Rattle.ua_flaws.specs.declared.flaws.ListName.{ListName}
use Rattle.ua_flaws.specs.declared.flaws.ListName.TheVariants.{Gens, Rows, Target}
use Rattle.ua_flaws.specs.declared.flaws.Flaw.{Flaw}
use Rattle.ua_flaws.specs.declared.flaws.Flaw.TheVariants as flaw
use Rattle.ua_flaws.specs.declared.flaws.CheckError.{CheckError}
use Rattle.ua_flaws.specs.declared.flaws.CheckError.TheVariants as error
use Rattle.ua_flaws.specs.Firsts.{first_bad, unlike_lengths, is_same, is_among}
use Rattle.ua_flaws.specs.Steps.{is_step, origin_of, last_term, rows_named}
use Rattle.ua_flaws.specs.Shapes.{is_vector}
use Rattle.ua_flaws.specs.Closing.{missing}

-- a vector of another length, or with a number that is no element
abbrev pub vectors_flaw : ℕ → ℕ → ListName → List Vector → Option Flaw
vectors_flaw size width list vs = option_map (flaw.Vector list) (first_bad (λ i v. is_vector size width v) 0 vs)

-- a step that is none
abbrev pub steps_flaw : FiniteAlgebra → ℕ → Option ℕ → List CertStep → Option Flaw
steps_flaw a gens term steps = option_map (flaw.Step term) (first_bad (is_step a gens) 0 steps)

-- the first row, or one above the row before it
abbrev pub follows : List Vector → ℕ → Vector → Bool
follows rows zero v = true
follows rows (suc i) v = is_lt (slice_cmp nat_cmp (slice_index_or rows i []) v)

-- a row that is not above the one before it
abbrev pub order_flaw : List Vector → Option Flaw
order_flaw rows = option_map flaw.Order (first_bad (follows rows) 0 rows)

-- a number below n that does not stand before
abbrev pub is_rank : ℕ → List ℕ → ℕ → ℕ → Bool
is_rank n ranks i r = nat_lt r n && not (list_any (λ x. x == r) (take i ranks))

-- the first fault among as many items as there are rows, or else where the shorter of the two lists ends
abbrev pub first_or_short : Option ℕ → ℕ → ℕ → Option ℕ
first_or_short fault m n = first_refusal (fault ∷ unlike_lengths m n ∷ [])

-- ranks that are not the numbers below how many rows there are, each once
abbrev pub ranks_flaw : List Vector → List ℕ → Option Flaw
ranks_flaw rows ranks = option_map flaw.Rank (first_or_short (first_bad (is_rank (length rows) ranks) 0 (take (length rows) ranks)) (length rows) (length ranks))

-- the origin is one over the rows, its arguments have smaller ranks, and it gives row i
abbrev pub is_made : FiniteAlgebra → ℕ → List Vector → List Vector → List ℕ → ℕ → CertStep → Bool
is_made a width gens rows ranks i o =
    is_step a (length gens) (length rows) o
    && (list_all (λ x. nat_lt (slice_index ranks x) (slice_index ranks i)) (rows_named o)
    && is_same (origin_value (power a width) gens rows (origin_of a o)) (slice_index_or rows i []))

-- an origin that does not make its row
abbrev pub origins_flaw : FiniteAlgebra → ℕ → List Vector → List Vector → List ℕ → List CertStep → Option Flaw
origins_flaw a width gens rows ranks origins = option_map flaw.Origin (first_or_short (first_bad (is_made a width gens rows ranks) 0 (take (length rows) origins)) (length rows) (length origins))

-- a generator that is no row
abbrev pub generators_flaw : List Vector → List Vector → Option Flaw
generators_flaw gens rows = option_map flaw.Generator (first_bad (λ i g. is_among rows g) 0 gens)

-- a value of an operation at rows that is no row
abbrev pub results_flaw : FiniteAlgebra → ℕ → List Vector → Option Flaw
results_flaw a width rows = option_map (λ (r : ℕ × List ℕ). flaw.Missing (name_at a r.0) r.1) (missing (power a width) rows)

-- rows in order that hold the generators and are closed under the operations
abbrev pub closed_flaw : FiniteAlgebra → ℕ → List Vector → List Vector → Option Flaw
closed_flaw a width gens rows = first_refusal (order_flaw rows ∷ generators_flaw gens rows ∷ results_flaw a width rows ∷ [])

-- such rows, and the target is none of them
abbrev pub outside_lines : FiniteAlgebra → ℕ → List Vector → List Vector → Vector → List (Option Flaw)
outside_lines a width gens rows target =
    closed_flaw a width gens rows
    ∷ refusal_if (is_among rows target) flaw.Target
    ∷ []

-- the term that the steps write has the target as its value
abbrev pub gives_target : FiniteAlgebra → ℕ → List Vector → List CertStep → Vector → Bool
gives_target a width gens steps target = is_same (term_value (power a width) gens (last_term a steps)) target

-- the lines on a certificate that a vector is generated
abbrev pub member_lines : FiniteAlgebra → List Vector → List CertStep → Vector → ℕ → List (Option Flaw)
member_lines a gens steps target width =
    refusal_if (is_outside width WIDTH || (length steps == 0)) flaw.Width
    ∷ vectors_flaw a.size width Gens gens
    ∷ vectors_flaw a.size width Target (target ∷ [])
    ∷ steps_flaw a (length gens) None steps
    ∷ refusal_if (not (gives_target a width gens steps target)) flaw.Target
    ∷ []

-- the first flaw of a certificate that a vector is generated
abbrev pub member_flaw : FiniteAlgebra → List Vector → List CertStep → Vector → ℕ → Option Flaw
member_flaw a gens steps target width = first_refusal (member_lines a gens steps target width)

-- the lines on a certificate that a vector is not generated
abbrev pub not_member_lines : FiniteAlgebra → List Vector → List Vector → Vector → ℕ → List (Option Flaw)
not_member_lines a gens rows target width =
    refusal_if (is_outside width WIDTH) flaw.Width
    ∷ vectors_flaw a.size width Gens gens
    ∷ vectors_flaw a.size width Rows rows
    ∷ vectors_flaw a.size width Target (target ∷ [])
    ∷ outside_lines a width gens rows target

-- the first flaw of a certificate that a vector is not generated
abbrev pub not_member_flaw : FiniteAlgebra → List Vector → List Vector → Vector → ℕ → Option Flaw
not_member_flaw a gens rows target width = first_refusal (not_member_lines a gens rows target width)

-- the lines on a certificate that rows are all that is generated
abbrev pub listing_lines : FiniteAlgebra → List Vector → List CertStep → List ℕ → List Vector → ℕ → List (Option Flaw)
listing_lines a gens origins ranks rows width =
    refusal_if (is_outside width WIDTH) flaw.Width
    ∷ vectors_flaw a.size width Gens gens
    ∷ vectors_flaw a.size width Rows rows
    ∷ order_flaw rows
    ∷ ranks_flaw rows ranks
    ∷ origins_flaw a width gens rows ranks origins
    ∷ generators_flaw gens rows
    ∷ results_flaw a width rows
    ∷ []

-- the first flaw of a certificate that rows are all that is generated
abbrev pub listing_flaw : FiniteAlgebra → List Vector → List CertStep → List ℕ → List Vector → ℕ → Option Flaw
listing_flaw a gens origins ranks rows width = first_refusal (listing_lines a gens origins ranks rows width)

-- Ok where there is no flaw, the first flaw, or want of memory
abbrev pub Tells : {A : Type 0} → Option Flaw → Result A CheckError → Type 0
Tells flaw (Ok x) = flaw ≡ None
Tells flaw (Err (error.Flaw f)) = flaw ≡ Some f
Tells flaw (Err error.OutOfMemory) = Unit {0}
