-- What it means that operands pass.
use Rattle.std.proofs.Common.{◌≡◌, ℕ, zero, suc, ◌<◌, ◌==◌, Bool, true, false, nat_lt, List, [], ◌∷◌, length, map, get_or, slice_index, Option, Some, None, refl, ap, ◌∙◌, arith}
use Rattle.std.specs.List.{AllByRecursion}
use Rattle.std.specs.Option.{unwrap_or}
use Rattle.std.proofs.lemmas.Bool.{ltb-true, eqb-true}
use Rattle.std.proofs.lemmas.List.{length-map}
use Rattle.ua_table.specs.Algebras.{IsVector}
use Rattle.ua_table.proofs.FrameLaws.{in_power}
use Rattle.ua_text.specs.declared.tokens.Place.{Place}
use Rattle.ua_text.specs.declared.named.Block.{Block}
use Rattle.ua_operands.specs.declared.written.Number.{Number}
use Rattle.ua_operands.specs.declared.written.Entry.{Entry}
use Rattle.ua_operands.specs.declared.written.Items.{Items}
use Rattle.ua_reply.specs.Checks.{unless, Passes}
use Rattle.ua_reply.specs.Operands.{element_of, place_of, value_of, values_of, vectors_of, pairs_of, IsPairIn, power_of, positive, known_in, element_in, elements_in, length_in, vector_in, vectors_in}
use Rattle.ua_reply.proofs.CheckLaws.{parts_pass, each_passes}

-- ---- elements

-- there is an element, and it is below the size
abbrev pub IsBelow : ℕ → Option ℕ → Type 0
IsBelow size None = ⊥
IsBelow size (Some x) = x < size

below : (x size : ℕ) (place : Place) (b : Bool) → nat_lt x size ≡ b → unless b place ≡ [] → x < size
below x size place true e h = ltb-true x size e
below x size place false e h = cc

passes_below : (k : Block) (place : Place) (o : Option ℕ) → Passes (known_in k place o) → IsBelow k.algebra.size o
passes_below k place None h = let no = h.unknown in cc
passes_below k place (Some x) h = below x k.algebra.size place (nat_lt x k.algebra.size) refl h.range

-- what is written and passes is an element
pub element_below : (k : Block) (e : Entry) → Passes (element_in k e) → IsBelow k.algebra.size (element_of k e)
element_below k e h = passes_below k (place_of e) (element_of k e) h

value_below : (k : Block) (e : Entry) → Passes (element_in k e) → value_of k e < k.algebra.size
value_below k e h = at (element_of k e) (element_below k e h)
  where
    at : (o : Option ℕ) → IsBelow k.algebra.size o → unwrap_or o 0 < k.algebra.size
    at None b = absurd b
    at (Some x) b = b

all_below : (k : Block) (es : List Entry) → AllByRecursion (λ e. Passes (element_in k e)) es → AllByRecursion (λ x. x < k.algebra.size) (map (value_of k) es)
all_below k [] h = tt
all_below k (e ∷ es) h = (value_below k e h.0, all_below k es h.1)

pub values_below : (k : Block) (es : List Entry) → Passes (elements_in k es) → AllByRecursion (λ x. x < k.algebra.size) (map (value_of k) es)
values_below k es h = all_below k es (each_passes (element_in k) es h)

-- ---- vectors

length_step : (width : ℕ) (v : Items) (b : Bool) → (length v.values == width) ≡ b → unless b v.place ≡ [] → length v.values ≡ width
length_step width v true e h = eqb-true (length v.values) width e
length_step width v false e h = cc

pub length_passed : (width : ℕ) (v : Items) → Passes (length_in width v) → length v.values ≡ width
length_passed width v h = length_step width v (length v.values == width) refl h.shape

pub vector_length : (k : Block) (width : ℕ) (v : Items) → Passes (vector_in k width v) → length v.values ≡ width
vector_length k width v h = length_passed width v (parts_pass (elements_in k v.values) (length_in width v) h).1

-- the entries of a vector that passes pass
pub entries_pass : (k : Block) (width : ℕ) (v : Items) → Passes (vector_in k width v) → Passes (elements_in k v.values)
entries_pass k width v h = (parts_pass (elements_in k v.values) (length_in width v) h).0

-- a vector that passes is one of the power
pub vector_admitted : (k : Block) (width : ℕ) (v : Items) → Passes (vector_in k width v) → IsVector (power_of k width) (values_of k v)
vector_admitted k width v h =
    in_power k.algebra width (values_of k v) (length-map v.values (value_of k) ∙ vector_length k width v h) (values_below k v.values (entries_pass k width v h))

all_admitted : (k : Block) (width : ℕ) (vs : List Items) → AllByRecursion (λ v. Passes (vector_in k width v)) vs → AllByRecursion (IsVector (power_of k width)) (vectors_of k vs)
all_admitted k width [] h = tt
all_admitted k width (v ∷ vs) h = (vector_admitted k width v h.0, all_admitted k width vs h.1)

-- vectors that pass are those of the power
pub vectors_admitted : (k : Block) (width : ℕ) (vs : List Items) → Passes (vectors_in k width vs) → AllByRecursion (IsVector (power_of k width)) (vectors_of k vs)
vectors_admitted k width vs h = all_admitted k width vs (each_passes (vector_in k width) vs h)

-- ---- pairs

-- the element at a place
pub value_at : (k : Block) (es : List Entry) (i : ℕ) (e : Entry) → i < length es → e ≡ get_or es i e → value_of k e ≡ slice_index (map (value_of k) es) i
value_at k [] i e h is = absurd (omega arith)
value_at k (d ∷ es) zero e h is = ap (value_of k) is
value_at k (d ∷ es) (suc i) e h is = value_at k es i e (omega arith) is

pair_below : (k : Block) (es : List Entry) → length es ≡ 2 → AllByRecursion (λ x. x < k.algebra.size) (map (value_of k) es) → IsPairIn k (slice_index (map (value_of k) es) 0, slice_index (map (value_of k) es) 1)
pair_below k [] e h = absurd (omega (arith, e))
pair_below k (m ∷ []) e h = absurd (omega (arith, e))
pair_below k (m ∷ n ∷ es) e h = (h.0, h.1.0)

each_pair : (k : Block) (vs : List Items) → AllByRecursion (λ v. Passes (vector_in k 2 v)) vs → AllByRecursion (IsPairIn k) (pairs_of k vs)
each_pair k [] h = tt
each_pair k (v ∷ vs) h = (pair_below k v.values (vector_length k 2 v h.0) (values_below k v.values (entries_pass k 2 v h.0)), each_pair k vs h.1)

pub pairs_below : (k : Block) (vs : List Items) → Passes (vectors_in k 2 vs) → AllByRecursion (IsPairIn k) (pairs_of k vs)
pairs_below k vs h = each_pair k vs (each_passes (vector_in k 2) vs h)

-- ---- widths

above_zero : (w : Number) (b : Bool) → nat_lt 0 w.value ≡ b → unless b w.place ≡ [] → 0 < w.value
above_zero w true e h = ltb-true 0 w.value e
above_zero w false e h = cc

pub width_positive : (w : Number) → Passes (positive w) → 0 < w.value
width_positive w h = above_zero w (nat_lt 0 w.value) refl h.range
