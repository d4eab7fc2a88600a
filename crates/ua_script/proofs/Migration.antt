-- What is well formed in a version is well formed in version 2.
use Rattle.ua_operands.proofs.Vocabulary.{AllByRecursion}
use Rattle.ua_script.proofs.Vocabulary.{Entry, Items, PointsText, Total, Partial, Block, Constructions, Points, Part, IsBlock, MayName, MakeForm, Item, Script, asked, parts_of, Value, Values, IsValue}
use Rattle.ua_script.proofs.Vocabulary.{AreValues, IsEntry, IsVector, AreVectors, IsConstruction, ArePoints, IsItem, IsWellFormed, migrated}
use Rattle.std.proofs.Common.{inl, inr, ℕ, zero, suc, ◌<◌, get_or, length, List, [], ◌∷◌, refl, arith}
use Rattle.ua_text.specs.declared.symbols.Part.TheVariants as parts
use Rattle.ua_text.proofs.BlocksRead.{limited}
use Rattle.ua_operands.specs.declared.written.Entry.TheVariants as entries
use Rattle.ua_script.specs.declared.script.MakeForm.TheVariants as forms
use Rattle.ua_script.specs.declared.script.Item.TheVariants as items

later_names : (version size : ℕ) (names : List (List ℕ)) → MayName version size names → MayName 2 size names
later_names version size names (inl e) = inl e
later_names version size names (inr m) = inr (refl, m.1)

later_block : (version : ℕ) (b : Block) → IsBlock version b → IsBlock 2 b
later_block version b h = let a = h.algebra in record {
  algebra = record { inhabited = a.inhabited; small = limited version b.algebra.size a.small; few = a.few; each = a.each; names = a.names };
  names = later_names version b.algebra.size b.names h.names;
}

later_entries : (version : ℕ) (es : List Entry) → AllByRecursion (IsEntry version) es → AllByRecursion (IsEntry 2) es
later_entries version [] h = tt
later_entries version (entries.Number n ∷ es) h = (tt, later_entries version es h.1)
later_entries version (entries.Word w ∷ es) h = (refl, later_entries version es h.1)

later_vector : (version : ℕ) (v : Items) → IsVector version v → IsVector 2 v
later_vector version v h = later_entries version v.values h

later_vectors : (version : ℕ) (vs : List Items) → AreVectors version vs → AreVectors 2 vs
later_vectors version [] h = tt
later_vectors version (v ∷ vs) h = (later_vector version v h.0, later_vectors version vs h.1)

later_points : (version : ℕ) (ps : PointsText) → ArePoints version ps → ArePoints 2 ps
later_points version (Total v) h = later_vector version v h
later_points version (Partial v vs) h = (later_vector version v h.0, later_vectors version vs h.1)

later_construction : (version : ℕ) (m : MakeForm) → IsConstruction version m → IsConstruction 2 m
later_construction version (forms.Product a b) h = tt
later_construction version (forms.Quotient a p) h = h
later_construction version (forms.Sub a v) h = later_vector version v h
later_construction version (forms.Reduct a ops) h = h

later_value : (version : ℕ) (p : Part) (x : Value p) → IsValue version p x → IsValue 2 p x
later_value version parts.Vector x h = later_vector version x h
later_value version parts.Vectors x h = later_vectors version x h
later_value version parts.Body x h = later_block version x h
later_value version (parts.Pick Constructions) x h = later_construction version x h
later_value version (parts.Pick Points) x h = later_points version x h
later_value version p x h = h

later_values : (version : ℕ) (ps : List Part) (x : Values ps) → AreValues version ps x → AreValues 2 ps x
later_values version [] x h = tt
later_values version (p ∷ ps) x h = (later_value version p x.0 h.0, later_values version ps x.1 h.1)

later : (version : ℕ) (i : Item) → IsItem version i → IsItem 2 i
later version (items.Block b) h = later_block version b h
later version (items.Command c) h = (h.0, later_values version (parts_of (asked c).form) (asked c).values h.1)

all_later : (version : ℕ) (is : List Item) → AllByRecursion (IsItem version) is → AllByRecursion (IsItem 2) is
all_later version [] h = tt
all_later version (i ∷ is) h = (later version i h.0, all_later version is h.1)

pub later_at : (version : ℕ) (is : List Item) (n : ℕ) (d : Item) → n < length is → AllByRecursion (IsItem version) is → IsItem 2 (get_or is n d)
later_at version [] n d l h = absurd (omega arith)
later_at version (i ∷ is) zero d l h = later version i h.0
later_at version (i ∷ is) (suc n) d l h = later_at version is n d (omega arith) h.1

-- The law: a migrated script is well formed.
pub well_formed_later : (s : Script) → IsWellFormed s → IsWellFormed (migrated s)
well_formed_later s h = record { known = inr refl; spelled = h.spelled; each = all_later s.version s.items h.each; names = h.names }
