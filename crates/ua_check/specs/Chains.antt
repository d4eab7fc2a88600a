-- What certificates of chains say, and their flaws.
use Rattle.std.specs.Prelude.{ℕ, ◌+◌, ◌%◌, ◌==◌, ◌&&◌, ◌||◌, nat_lt, not, Bool, if◌then◌else◌, Option, Some, List, [], ◌∷◌, length, map, find, slice_index_or}
use Rattle.std.specs.List.{list_all, list_any, enumerate_from, range_with_len}
use Rattle.std.specs.Option.{option_map, is_none}
use Rattle.ua_table.specs.declared.limits.TheConstants.{WIDTH}
use Rattle.ua_table.specs.Algebras.{FiniteAlgebra}
use Rattle.ua_table.specs.Terms.{Tree}
use Rattle.ua_table.specs.Refusals.{refusal_if, first_refusal}
use Rattle.ua_term.specs.Assignments.{assignments}
use Rattle.ua_identity.specs.Identities.{TermIdentity, at_pattern}
use Rattle.ua_identity.specs.Chains.{Link, ChainKind, IsChain, power_of}
use Rattle.ua_identity.specs.Kinds.{jonsson, hagemann_mitschke}
use Rattle.ua_cert.specs.declared.certs.CertStep.{CertStep}
use Rattle.ua_cert.specs.declared.certs.ChainName.{ChainName}
use Rattle.ua_cert.specs.declared.certs.ChainName.TheVariants.{Jonsson, Hm}
use Rattle.ua_flaws.specs.declared.flaws.Flaw.{Flaw}
use Rattle.ua_flaws.specs.declared.flaws.Flaw.TheVariants as flaw
use Rattle.ua_flaws.specs.Firsts.{first_bad}
use Rattle.ua_flaws.specs.Steps.{last_term}
use Rattle.ua_flaws.specs.Flaws.{steps_flaw}
use Rattle.ua_check.specs.Conditions.{identity_failure}

-- the kind of chain of this name
abbrev pub kind_of : ChainName → ChainKind
kind_of Jonsson = jonsson
kind_of Hm = hagemann_mitschke

-- how many coordinates the vectors of its terms have
abbrev pub chain_width : FiniteAlgebra → ChainKind → ℕ
chain_width a kind = length (power_of a kind)

-- ---- what they say

-- the terms of the last steps are a chain
abbrev pub WritesChain : FiniteAlgebra → ChainName → List (List CertStep) → Type 0
WritesChain a name terms = IsChain a (kind_of name) (map (last_term a) terms)

-- there is no chain of the kind
abbrev pub HasNoChain : FiniteAlgebra → ChainName → Type 0
HasNoChain a name = (terms : List Tree) → IsChain a (kind_of name) terms → ⊥

-- ---- the flaws of a chain

-- the identity that a term is what stands at place j of so many
abbrev pub place_identity : ℕ → ℕ → TermIdentity
place_identity places j = record { pattern = record { variables = places; places = range_with_len 0 places }; value = j }

-- the term satisfies the identity
abbrev pub satisfies : FiniteAlgebra → TermIdentity → Tree → Bool
satisfies a i t = is_none (identity_failure a t i)

-- and each of these
abbrev pub satisfies_all : FiniteAlgebra → List TermIdentity → Tree → Bool
satisfies_all a is t = list_all (λ i. satisfies a i t) is

-- term i of so many satisfies what each term of a chain does, and is place 0 or the end where it stands there
abbrev pub is_fit : FiniteAlgebra → ChainKind → ℕ → ℕ → Tree → Bool
is_fit a kind n i t =
    satisfies_all a kind.own t
    && ((not (i == 0) || satisfies a (place_identity kind.places 0) t)
    && (not (i + 1 == n) || satisfies a (place_identity kind.places kind.end) t))

-- the link behind term i
abbrev pub link_at : ChainKind → ℕ → Link
link_at kind i = if (i % 2) == 0 then kind.even else kind.odd

-- the link fails of two terms at this assignment
abbrev pub is_unlinked : FiniteAlgebra → Link → Tree → Tree → List ℕ → Bool
is_unlinked a l d e xs = not (at_pattern a l.pattern d xs == at_pattern a l.next e xs)

-- it fails at no assignment
abbrev pub are_linked : FiniteAlgebra → Link → Tree → Tree → Bool
are_linked a l d e = is_none (find (is_unlinked a l d e) (assignments a.size l.pattern.variables))

-- term i is as it should be by itself, and is linked to the next
abbrev pub is_in_chain : FiniteAlgebra → ChainKind → List Tree → ℕ → Tree → Bool
is_in_chain a kind terms i t = is_fit a kind (length terms) i t && ((i + 1 == length terms) || are_linked a (link_at kind i) t (slice_index_or terms (i + 1) t))

-- the first term that is not
abbrev pub links_flaw : FiniteAlgebra → ChainKind → List Tree → Option Flaw
links_flaw a kind terms = option_map flaw.Link (first_bad (is_in_chain a kind terms) 0 terms)

-- the first flaw among the steps of the term of this number
abbrev pub term_flaw : FiniteAlgebra → ℕ → ℕ × List CertStep → Option Flaw
term_flaw a places c = steps_flaw a places (Some c.0) c.1

-- the first flaw among the steps of some terms
abbrev pub terms_flaw : FiniteAlgebra → ℕ → List (List CertStep) → Option Flaw
terms_flaw a places terms = first_refusal (map (term_flaw a places) (enumerate_from 0 terms))

-- there are no terms, or no steps of one
abbrev pub is_without_term : List (List CertStep) → Bool
is_without_term terms = (length terms == 0) || list_any (λ (steps : List CertStep). length steps == 0) terms

-- the lines on a certificate that terms are a chain
abbrev pub chain_lines : FiniteAlgebra → ChainKind → List (List CertStep) → List (Option Flaw)
chain_lines a kind terms =
    refusal_if (nat_lt WIDTH (chain_width a kind) || is_without_term terms) flaw.Width
    ∷ terms_flaw a kind.places terms
    ∷ links_flaw a kind (map (last_term a) terms)
    ∷ []

-- the first flaw of a certificate that terms are a chain
abbrev pub chain_flaw : FiniteAlgebra → ChainName → List (List CertStep) → Option Flaw
chain_flaw a name terms = first_refusal (chain_lines a (kind_of name) terms)
