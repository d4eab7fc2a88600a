-- The operands that commands share: the values that are written, and the places where they fail.
use Rattle.std.specs.Prelude.{ℕ, ◌<◌, ◌==◌, nat_le, nat_lt, List, [], ◌∷◌, length, map, replicate, slice_index, Option, Some, None}
use Rattle.std.specs.Option.{unwrap_or}
use Rattle.ua_table.specs.declared.limits.TheConstants.{VARIABLES}
use Rattle.ua_table.specs.Algebras.{Vector, Product}
use Rattle.ua_text.specs.declared.tokens.Place.{Place}
use Rattle.ua_text.specs.declared.named.Block.{Block}
use Rattle.ua_text.specs.Labels.{place_in}
use Rattle.ua_term.specs.Phrases.{Phrase}
use Rattle.ua_term.specs.Meanings.{unknown_operations, variables_from, misshapen}
use Rattle.ua_operands.specs.declared.written.Number.{Number}
use Rattle.ua_operands.specs.declared.written.Entry.{Entry}
use Rattle.ua_operands.specs.declared.written.Entry.TheVariants as entries
use Rattle.ua_operands.specs.declared.written.Items.{Items}
use Rattle.ua_reply.specs.Checks.{Checks, unknown_at, range_at, shape_at, unless, ◌and◌, all_in}

-- the element that is written: its number, or the place of its name
abbrev pub element_of : Block → Entry → Option ℕ
element_of k (entries.Number n) = Some n.value
element_of k (entries.Word w) = place_in 0 k.names w.name

-- where an entry stands
abbrev pub place_of : Entry → Place
place_of (entries.Number n) = n.place
place_of (entries.Word w) = w.place

-- the element; 0 where the word is no name
abbrev pub value_of : Block → Entry → ℕ
value_of k e = unwrap_or (element_of k e) 0

-- the elements that are written
abbrev pub values_of : Block → Items → Vector
values_of k v = map (value_of k) v.values

-- the vectors that are written
abbrev pub vectors_of : Block → List Items → List Vector
vectors_of k vs = map (values_of k) vs

-- the pair that is written
abbrev pub pair_of : Block → Items → ℕ × ℕ
pair_of k v = (slice_index (values_of k v) 0, slice_index (values_of k v) 1)

abbrev pub pairs_of : Block → List Items → List (ℕ × ℕ)
pairs_of k vs = map (pair_of k) vs

-- both are elements
abbrev pub IsPairIn : Block → ℕ × ℕ → Type 0
IsPairIn k x = (x.0 < k.algebra.size) × (x.1 < k.algebra.size)

-- the power of the algebra with so many coordinates
abbrev pub power_of : Block → ℕ → Product
power_of k width = replicate width k.algebra

-- a width is above 0
abbrev pub positive : Number → Checks
positive n = range_at (unless (nat_lt 0 n.value) n.place)

-- there are no more variables than their limit
abbrev pub variables_checks : Number → Checks
variables_checks count = range_at (unless (nat_le count.value VARIABLES) count.place)

-- a word is a name, and a number is below the size
abbrev pub known_in : Block → Place → Option ℕ → Checks
known_in k place None = unknown_at (place ∷ [])
known_in k place (Some x) = range_at (unless (nat_lt x k.algebra.size) place)

abbrev pub element_in : Block → Entry → Checks
element_in k e = known_in k (place_of e) (element_of k e)

abbrev pub elements_in : Block → List Entry → Checks
elements_in k es = all_in (element_in k) es

-- so many entries
abbrev pub length_in : ℕ → Items → Checks
length_in width v = shape_at (unless (length v.values == width) v.place)

-- elements, as many as the width
abbrev pub vector_in : Block → ℕ → Items → Checks
vector_in k width v = elements_in k v.values and length_in width v

abbrev pub vectors_in : Block → ℕ → List Items → Checks
vectors_in k width vs = all_in (vector_in k width) vs

-- operations of the algebra, with as many arguments as their arities, and variables below n
abbrev pub term_in : Block → ℕ → Phrase → Checks
term_in k n t = record { unknown = unknown_operations k.algebra t; range = variables_from n t; shape = misshapen k.algebra t }
