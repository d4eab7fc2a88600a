-- The text of numbers, places, elements, vectors, rows and steps.
use Rattle.std.specs.Prelude.{ℕ, suc, List, [], ◌∷◌, ◌++◌, length, Option, None, Some, codes, slice_get, slice_index, take}
use Rattle.std.specs.List.{flat_map}
use Rattle.std.specs.Fmt.{decimal}
use Rattle.std.specs.Option.{unwrap_or}
use Rattle.ua_table.specs.declared.origins.Origin.{Origin}
use Rattle.ua_table.specs.declared.origins.Origin.TheVariants.{Gen, Op}
use Rattle.ua_table.specs.Algebras.{Vector, Operation, arities_of}
use Rattle.ua_table.specs.Listings.{Row}
use Rattle.ua_part.specs.Blocks.{more_numbers, spaced}
use Rattle.ua_term.specs.Steps.{StepList}
use Rattle.ua_text.specs.declared.tokens.Place.{Place}
use Rattle.ua_text.specs.declared.named.Block.{Block}

-- a text and an LF
abbrev pub line : List ℕ → List ℕ
line text = text ++ 10 ∷ []

-- each on a line of its own
abbrev pub lines : {X : Type 0} → (X → List ℕ) → List X → List ℕ
lines text xs = flat_map (λ x. line (text x)) xs

-- each behind its number, on a line of its own; the first has number n
abbrev pub numbered : {X : Type 0} → (X → List ℕ) → ℕ → List X → List ℕ
numbered text n [] = []
numbered text n (x ∷ xs) = line (decimal n ++ 32 ∷ text x) ++ numbered text (suc n) xs

-- a word and a number
abbrev pub counted : List ℕ → ℕ → List ℕ
counted word n = word ++ 32 ∷ decimal n

-- 0 1
abbrev pub pair_text : ℕ × ℕ → List ℕ
pair_text x = decimal x.0 ++ 32 ∷ decimal x.1

-- words, and numbers behind them, on a line
abbrev pub listed_text : List ℕ → List ℕ → List ℕ
listed_text words numbers = line (words ++ more_numbers numbers)

-- 4:14
abbrev pub place_text : Place → List ℕ
place_text p = decimal p.line ++ 58 ∷ decimal p.column

-- the name of an element where it has one, else its number
abbrev pub element_text : Block → ℕ → List ℕ
element_text k x = unwrap_or (slice_get k.names x) (decimal x)

-- each element behind a blank
abbrev pub more_elements : Block → Vector → List ℕ
more_elements k v = flat_map (λ x. 32 ∷ element_text k x) v

-- elements with single blanks between them
abbrev pub elements_text : Block → List ℕ → List ℕ
elements_text k [] = []
elements_text k (x ∷ xs) = element_text k x ++ more_elements k xs

-- [0 1], or [bot top]
abbrev pub vector_text : Block → Vector → List ℕ
vector_text k v = codes "[" ++ elements_text k v ++ codes "]"

-- {0 1}, or {bot top}
abbrev pub set_text : Block → List ℕ → List ℕ
set_text k xs = codes "{" ++ elements_text k xs ++ codes "}"

-- [0 1], by numbers alone
abbrev pub tuple_text : List ℕ → List ℕ
tuple_text ns = codes "[" ++ spaced ns ++ codes "]"

abbrev pub name_of : Option Operation → List ℕ
name_of None = []
name_of (Some o) = o.name

-- meet 2 1: the name of operation f, and as many of the places as it has arguments
abbrev pub application_text : Block → ℕ → List ℕ → List ℕ
application_text k f places = name_of (slice_get k.algebra.operations f) ++ more_numbers (take (slice_index (arities_of k.algebra) f) places)

-- gen 0, or meet 2 1
abbrev pub origin_text : Block → Origin → List ℕ
origin_text k (Gen index) = counted (codes "gen") index
origin_text k (Op f places) = application_text k f places

-- how many steps, and the steps
abbrev pub steps_text : Block → StepList → List ℕ
steps_text k steps = line (counted (codes "steps") (length steps.items)) ++ numbered (origin_text k) 0 steps.items

-- [0 0] 2 meet 2 1, or [bot bot] 2 meet 2 1
abbrev pub row_text : Block → Row → List ℕ
row_text k r = vector_text k r.vector ++ 32 ∷ decimal r.rank ++ 32 ∷ origin_text k r.origin
