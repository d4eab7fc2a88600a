-- Operands whose tokens are spelled can be written.
use Rattle.ua_operands.proofs.Vocabulary.{AllByRecursion, flat_map, sign, AreSpelled, further, number, entry, vector, part, part_blocks, points, names, IsShort, IsShortEntry, IsShortVector}
use Rattle.ua_operands.proofs.Vocabulary.{IsShortBlock, IsNamed, ArePointsShort}
use Rattle.ua_script.proofs.Vocabulary.{Word, Number, Entry, Items, PartText, PointsText, Total, Partial, Constructions, Points, Part, MakeForm, Product, Quotient, Sub, Reduct, Value, Values}
use Rattle.ua_script.proofs.Vocabulary.{value_text, values_text, IsValue, AreValues, IsPart, construction, IsConstruction, IsShortConstruction, IsShortValue, AreShort}
use Rattle.std.proofs.Common.{ℕ, ◌<◌, List, [], ◌∷◌, ◌++◌, length, map, codes, arith}
use Rattle.ua_text.specs.declared.symbols.Role.TheVariants as roles
use Rattle.ua_text.specs.declared.symbols.Part.TheVariants as parts
use Rattle.ua_text.proofs.SpelledLaws.{spelled_left, spelled_right}
use Rattle.ua_operands.specs.declared.written.Entry.TheVariants as entries

short_entries : (es : List Entry) → AreSpelled (map entry es) → AllByRecursion IsShortEntry es
short_entries [] h = tt
short_entries (entries.Number n ∷ es) h = (h.0, short_entries es h.1)
short_entries (entries.Word w ∷ es) h = (h.0, short_entries es h.1)

short_vector : (v : Items) → AreSpelled (vector v) → IsShortVector v
short_vector v h = short_entries v.values (spelled_left (map entry v.values) (sign roles.Closes (codes "]") ∷ []) h.1)

short_vectors : (vs : List Items) → AreSpelled (flat_map vector vs) → AllByRecursion IsShortVector vs
short_vectors [] h = tt
short_vectors (v ∷ vs) h = (short_vector v (spelled_left (vector v) (flat_map vector vs) h), short_vectors vs (spelled_right (vector v) (flat_map vector vs) h))

short_names : (ns : List Word) → AreSpelled (map further ns) → AllByRecursion IsNamed ns
short_names [] h = tt
short_names (n ∷ ns) h = (h.0, short_names ns h.1)

short_listed : (ns : List Word) → AreSpelled (names ns) → AllByRecursion IsNamed ns
short_listed [] h = tt
short_listed (n ∷ ns) h = (h.0, short_names ns h.1)

short_numbers : (ns : List Number) → AreSpelled (map (number roles.Inner) ns) → AllByRecursion IsShort ns
short_numbers [] h = tt
short_numbers (n ∷ ns) h = (h.0, short_numbers ns h.1)

short_further : (bs : List (List Number)) → AllByRecursion (λ (b : List Number). 0 < length b) bs → AreSpelled (part_blocks roles.More bs) → AllByRecursion IsShortBlock bs
short_further [] some h = tt
short_further ([] ∷ bs) some h = absurd (let no = some.0 in omega (arith, no))
short_further ((n ∷ ns) ∷ bs) some h =
    let bar = sign roles.Bar (codes "|") ∷ [] in
    let inner = spelled_left (map (number roles.Inner) ns ++ bar) (part_blocks roles.More bs) h.1 in
    ((some.0, (h.0, short_numbers ns (spelled_left (map (number roles.Inner) ns) bar inner))), short_further bs some.1 (spelled_right (map (number roles.Inner) ns ++ bar) (part_blocks roles.More bs) h.1))

short_blocks : (bs : List (List Number)) → AllByRecursion (λ (b : List Number). 0 < length b) bs → AreSpelled (part_blocks roles.Inner bs) → AllByRecursion IsShortBlock bs
short_blocks [] some h = tt
short_blocks ([] ∷ bs) some h = absurd (let no = some.0 in omega (arith, no))
short_blocks ((n ∷ ns) ∷ bs) some h =
    let bar = sign roles.Bar (codes "|") ∷ [] in
    let inner = spelled_left (map (number roles.Inner) ns ++ bar) (part_blocks roles.More bs) h.1 in
    ((some.0, (h.0, short_numbers ns (spelled_left (map (number roles.Inner) ns) bar inner))), short_further bs some.1 (spelled_right (map (number roles.Inner) ns ++ bar) (part_blocks roles.More bs) h.1))

short_part : (p : PartText) → IsPart p → AreSpelled (part p) → AllByRecursion IsShortBlock p.blocks
short_part p i h = short_blocks p.blocks i.each h.1

short_construction : (v : ℕ) (m : MakeForm) → IsConstruction v m → AreSpelled (construction m) → IsShortConstruction m
short_construction v (Product a b) i h = (h.1.0, h.1.1.0)
short_construction v (Quotient a p) i h = (h.1.0, short_part p i h.1.1)
short_construction v (Sub a x) i h = (h.1.0, short_vector x h.1.1)
short_construction v (Reduct a ops) i h = (h.1.0, short_listed ops (spelled_left (names ops) (sign roles.Closes (codes ")") ∷ []) h.1.1.1))

short_points : (ps : PointsText) → AreSpelled (points ps) → ArePointsShort ps
short_points (Total v) h = short_vector v h.1
short_points (Partial v vs) h = (short_vector v (spelled_left (vector v) (flat_map vector vs) h.1), short_vectors vs (spelled_right (vector v) (flat_map vector vs) h.1))

pub short_value : (v : ℕ) (p : Part) (x : Value p) → IsValue v p x → AreSpelled (value_text p x) → IsShortValue p x
short_value v parts.Name x i h = h.0
short_value v parts.Names x i h = short_listed x (spelled_left (names x) (sign roles.Closes (codes ")") ∷ []) h.1)
short_value v parts.Count x i h = h.0
short_value v parts.Vector x i h = short_vector x h
short_value v parts.Vectors x i h = short_vectors x h
short_value v parts.Partition x i h = short_part x i h
short_value v parts.Term x i h = (i, h)
short_value v parts.Fresh x i h = h.0
short_value v (parts.Pick Constructions) x i h = short_construction v x i h
short_value v (parts.Pick Points) x i h = short_points x h
short_value v p x i h = tt

pub all_short : (v : ℕ) (ps : List Part) (x : Values ps) → AreValues v ps x → AreSpelled (values_text ps x) → AreShort ps x
all_short v [] x i h = tt
all_short v (p ∷ ps) x i h = (short_value v p x.0 i.0 (spelled_left (value_text p x.0) (values_text ps x.1) h), all_short v ps x.1 i.1 (spelled_right (value_text p x.0) (values_text ps x.1) h))
