-- The power of a kind of chain, its generators, and the parts of its vectors.
use Rattle.std.proofs.Common.{◌≡◌, ℕ, ◌-◌, ◌<◌, List, [], ◌∷◌, length, replicate, sym, ap, ◌∙◌, arith}
use Rattle.std.specs.Prelude.{Contains}
use Rattle.std.specs.List.{AllByRecursion, AllZip, range_with_len}
use Rattle.std.proofs.lemmas.List.Elements.{All-from_recursion}
use Rattle.ua_table.specs.Algebras.{Vector, FiniteAlgebra, Product, IsVector}
use Rattle.ua_table.proofs.Choices.{range_low}
use Rattle.ua_table.proofs.Lists.{Contains-head, Contains-tail, all_from_contains, all_map}
use Rattle.ua_term.specs.Assignments.{IsAssignment}
use Rattle.ua_identity.specs.Chains.{ChainKind, power_of, generators_of}
use Rattle.ua_identity.specs.Kinds.{IsKind}
use Rattle.ua_identity.specs.Patterns.{all_fillings, place_vector}
use Rattle.ua_chain.specs.inner.Closures.{IsClosureOf}
use Rattle.ua_identity.proofs.KindLaws.{some_fillings}
use Rattle.ua_identity.proofs.ChainLaws.{fillings_assign, generator_count}

-- what stands at a place is an element
place_fits : (a : FiniteAlgebra) (places j : ℕ) (fs : List (List ℕ)) → j < places → ((xs : List ℕ) → Contains fs xs → IsAssignment a.size places xs)
    → AllZip (λ (b : FiniteAlgebra) x. x < b.size) (replicate (length fs) a) (place_vector fs j)
place_fits a places j [] l h = tt
place_fits a places j (xs ∷ fs) l h =
    let here = h xs (Contains-head xs fs) in
    let long = here.count in
    (All-from_recursion (λ x. x < a.size) xs here.elements j 0 (omega arith), place_fits a places j fs l (λ ys c. h ys (Contains-tail xs ys fs c)))

-- the generators are vectors of the power
pub generators_fit : (a : FiniteAlgebra) (kind : ChainKind) → IsKind kind → AllByRecursion (IsVector (power_of a kind)) (generators_of a kind)
generators_fit a kind k =
    all_map (IsVector (power_of a kind)) (place_vector (all_fillings a.size kind.patterns)) (range_with_len 0 kind.places)
    (all_from_contains (λ j. IsVector (power_of a kind) (place_vector (all_fillings a.size kind.patterns) j)) (range_with_len 0 kind.places) (λ j c.
    let low = range_low 0 kind.places j c in
    place_fits a kind.places j (all_fillings a.size kind.patterns) (omega (arith, low.1)) (λ xs d. fillings_assign a kind.places kind.patterns xs k.patterns d)))

-- a frame and generators that are the kind's
pub closure_from : (a : FiniteAlgebra) (kind : ChainKind) (p : Product) (gens : List Vector) → IsKind kind → 0 < a.size → p ≡ power_of a kind → gens ≡ generators_of a kind → IsClosureOf a kind p gens
closure_from a kind p gens k some e f = record { is_kind = k; wide = some_fillings a.size kind k some; product_is = e; gens_are = f }

-- the last of them is the end
pub end_made : (a : FiniteAlgebra) (kind : ChainKind) (gens : List Vector) (places : ℕ) → gens ≡ generators_of a kind → places ≡ kind.places → kind.end ≡ places - 1 → kind.end ≡ length gens - 1
end_made a kind gens places g p e = e ∙ ap (λ n. n - 1) (p ∙ sym (ap length g ∙ generator_count a kind.patterns kind.places))

-- there are places, and so generators
pub some_places : (kind : ChainKind) → IsKind kind → 0 < kind.places
some_places kind k = let end = k.end in omega (arith, end)

pub some_generators : (a : FiniteAlgebra) (kind : ChainKind) (gens : List Vector) → IsKind kind → gens ≡ generators_of a kind → 0 < length gens
some_generators a kind gens k g =
    let count = ap length g ∙ generator_count a kind.patterns kind.places in
    let end = k.end in
    omega (arith, count, end)
