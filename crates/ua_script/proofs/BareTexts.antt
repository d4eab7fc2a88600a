-- What is written for operands without their places is what is written for them, without places.
use Rattle.ua_operands.proofs.Vocabulary.{AllByRecursion, flat_map, Place, Role, Placed, Wanted, IsSign, IsAt, token_texts, sign, sign_at, Front, word, further, number, entry, vector, part}
use Rattle.ua_operands.proofs.Vocabulary.{part_block, part_blocks, names, mode, variable, arguments, identity_behind, identity, points, IsShortEntry, IsShortVector, IsShortBlock, IsShort, IsNamed}
use Rattle.ua_operands.proofs.Vocabulary.{ArePointsShort}
use Rattle.ua_script.proofs.Vocabulary.{Word, Number, Entry, Items as Vector, PartText, Variable, IdentityText, Mode, Plain, Least, Count, PointsText, Total, Partial, Constructions, Points, Part}
use Rattle.ua_script.proofs.Vocabulary.{block, body, Phrase, Phrases, phrase, none, more, nowhere, bare_phrase, bare_phrases, MakeForm, Product, Quotient, Sub, Reduct, Item, Value, Values}
use Rattle.ua_script.proofs.Vocabulary.{construction, value_text, values_text, word_of, parts_of, Asked, asked, heading, asked_text, item, bare_word, bare_number, bare_entry, bare_vector, bare_part}
use Rattle.ua_script.proofs.Vocabulary.{bare_identity, bare_construction, bare_points, bare_value, bare_values, bare, bare_item, IsShortConstruction}
use Rattle.std.proofs.Common.{◌≡◌, ℕ, Bool, true, false, List, [], ◌∷◌, ◌++◌, map, Option, None, Some, refl, sym, ap, ◌∙◌, subst, codes, arith}
use Rattle.std.proofs.lemmas.List.{length-map, map-append}
use Rattle.ua_text.specs.declared.symbols.Role.TheVariants as roles
use Rattle.ua_text.specs.declared.symbols.Part.TheVariants as parts
use Rattle.ua_text.proofs.Running.{sign_itself}
use Rattle.ua_text.proofs.PrintedBlocks.{placeless_block}
use Rattle.ua_text.proofs.WrittenAgain.{Stands, first_of, rest_stands, ArePlaceless, placeless_both}
use Rattle.ua_term.specs.Terms.{mark, term, applied, behind}
use Rattle.ua_operands.specs.declared.written.Entry.TheVariants as entries
use Rattle.ua_script.specs.declared.script.Item.TheVariants as items
use Rattle.ua_script.proofs.ScriptReadings.{Told, AreTold, IsToldItem, bare_text, kept}

-- Tokens that stand nowhere, and what is wanted there. The first word of a command keeps no place.

abbrev pub off : Placed → Placed
off t = record { text = t.text; kind = t.kind; start = t.start; line = 0; column = 0 }

abbrev off_place : Role → Option Place → Option Place
off_place roles.Begins p = None
off_place roles.Form p = None
off_place r None = None
off_place r (Some p) = Some nowhere

abbrev pub bare_wanted : Wanted → Wanted
bare_wanted w = record { role = w.role; sign = w.sign; place = off_place w.role w.place }

at_nowhere : (r : Role) (p : Option Place) (t : Placed) → IsAt (off_place r p) (off t)
at_nowhere roles.Begins p t = tt
at_nowhere roles.Form p t = tt
at_nowhere r None t = tt
at_nowhere r (Some p) t = refl

pub front_bare : (ts : List Placed) (ws : List Wanted) (rest : List Placed) → Front ts ws rest → Front (map off ts) (map bare_wanted ws) (map off rest)
front_bare ts [] rest f = ap (map off) f
front_bare [] (w ∷ ws) rest f = absurd f
front_bare (t ∷ ts) (w ∷ ws) rest f = (f.0, f.1, at_nowhere w.role w.place t, front_bare ts ws rest f.3)

pub stands_bare : (ts : List Placed) (ws : List Wanted) → Stands ts ws [] → Front (map off ts) (map bare_wanted ws) []
stands_bare ts [] s = nothing ts s.texts_are
  where
    nothing : (ts : List Placed) → token_texts ts ≡ [] → map off ts ≡ []
    nothing [] e = refl
    nothing (t ∷ ts) e = cc
stands_bare ts (w ∷ ws) s =
    let f = first_of ts w ws [] s in
    subst (λ z. Front (map off z) (map bare_wanted (w ∷ ws)) []) (sym f.whole)
    (f.is_good, subst (λ z. IsSign w.sign z) (sym f.text) (sign_itself w.sign), at_nowhere w.role w.place f.token, stands_bare f.rest ws (rest_stands ts w ws [] f))

no_place : (r : Role) → off_place r None ≡ None
no_place roles.Begins = refl
no_place roles.Form = refl
no_place r = refl

pub bare_placeless : (ws : List Wanted) → ArePlaceless ws → map bare_wanted ws ≡ ws
bare_placeless [] p = refl
bare_placeless (w ∷ ws) p = ap (λ z. of z ∷ map bare_wanted ws) (subst (λ z. off_place w.role z ≡ z) (sym p.0) (no_place w.role)) ∙ ap (λ z. w ∷ z) (bare_placeless ws p.1)
  where
    of : Option Place → Wanted
    of place = record { role = w.role; sign = w.sign; place = place }

-- ---- lists

both : (us vs xs ys : List Wanted) → us ≡ map bare_wanted xs → vs ≡ map bare_wanted ys → us ++ vs ≡ map bare_wanted (xs ++ ys)
both us vs xs ys e f = ap (λ z. z ++ vs) e ∙ ap (λ z. map bare_wanted xs ++ z) f ∙ sym (map-append bare_wanted xs ys)

each : {A : Type 0} (bare : A → A) (write : A → Wanted) → ((x : A) → write (bare x) ≡ bare_wanted (write x)) → (xs : List A) → map write (map bare xs) ≡ map bare_wanted (map write xs)
each bare write e [] = refl
each bare write e (x ∷ xs) = ap (λ z. z ∷ map write (map bare xs)) (e x) ∙ ap (λ z. bare_wanted (write x) ∷ z) (each bare write e xs)

each_row : {A B : Type 0} (bare : A → B) (write : A → List Wanted) (plain : B → List Wanted) → ((x : A) → plain (bare x) ≡ map bare_wanted (write x)) → (xs : List A) → flat_map plain (map bare xs) ≡ map bare_wanted (flat_map write xs)
each_row bare write plain e [] = refl
each_row bare write plain e (x ∷ xs) = both (plain (bare x)) (flat_map plain (map bare xs)) (write x) (flat_map write xs) (e x) (each_row bare write plain e xs)

-- ---- operands

bare_entry_text : (e : Entry) → entry (bare_entry e) ≡ bare_wanted (entry e)
bare_entry_text (entries.Number n) = refl
bare_entry_text (entries.Word w) = refl

bare_vector_text : (v : Vector) → vector (bare_vector v) ≡ map bare_wanted (vector v)
bare_vector_text v =
    let close = sign roles.Closes (codes "]") ∷ [] in
    ap (λ z. sign_at roles.Opens (codes "[") nowhere ∷ z) (both (map entry (map bare_entry v.values)) close (map entry v.values) close (each bare_entry entry bare_entry_text v.values) refl)

bare_block_text : (r : Role) → ((n : Number) → number r (bare_number n) ≡ bare_wanted (number r n)) → (b : List Number) → part_block r (map bare_number b) ≡ map bare_wanted (part_block r b)
bare_block_text r e [] = refl
bare_block_text r e (n ∷ ns) =
    let inner = map (number roles.Inner) in let bar = sign roles.Bar (codes "|") ∷ [] in
    ap (λ z. z ∷ inner (map bare_number ns) ++ bar) (e n)
    ∙ ap (λ z. bare_wanted (number r n) ∷ z) (both (inner (map bare_number ns)) bar (inner ns) bar (each bare_number (number roles.Inner) (λ n. refl) ns) refl)

bare_blocks_text : (r : Role) → ((n : Number) → number r (bare_number n) ≡ bare_wanted (number r n)) → (bs : List (List Number)) → part_blocks r (map (λ (b : List Number). map bare_number b) bs) ≡ map bare_wanted (part_blocks r bs)
bare_blocks_text r e [] = refl
bare_blocks_text r e (b ∷ bs) =
    both (part_block r (map bare_number b)) (part_blocks roles.More (map (λ (b : List Number). map bare_number b) bs)) (part_block r b) (part_blocks roles.More bs)
    (bare_block_text r e b) (bare_blocks_text roles.More (λ n. refl) bs)

bare_part_text : (p : PartText) → part (bare_part p) ≡ map bare_wanted (part p)
bare_part_text p = ap (λ z. sign_at roles.Bar (codes "|") nowhere ∷ z) (bare_blocks_text roles.Inner (λ n. refl) p.blocks)

bare_names_text : (ws : List Word) → names (map bare_word ws) ≡ map bare_wanted (names ws)
bare_names_text [] = refl
bare_names_text (w ∷ ws) = ap (λ z. word (bare_word w) ∷ z) (each bare_word further (λ w. refl) ws)

bare_list_text : (ws : List Word) → value_text parts.Names (map bare_word ws) ≡ map bare_wanted (value_text parts.Names ws)
bare_list_text ws = let close = sign roles.Closes (codes ")") ∷ [] in ap (λ z. sign roles.Opens (codes "(") ∷ z) (both (names (map bare_word ws)) close (names ws) close (bare_names_text ws) refl)

mutual
  bare_term_text : (p : Phrase) → term (bare_phrase p) ≡ map bare_wanted (term p)
  bare_term_text (phrase word place arguments) = ap (λ z. sign_at roles.Applied word nowhere ∷ z) (bare_applied_text arguments)

  bare_applied_text : (ps : Phrases) → applied (bare_phrases ps) ≡ map bare_wanted (applied ps)
  bare_applied_text none = refl
  bare_applied_text (more p ps) = ap (λ z. mark true ∷ z) (both (term (bare_phrase p)) (behind (bare_phrases ps)) (term p) (behind ps) (bare_term_text p) (bare_behind_text ps))

  bare_behind_text : (ps : Phrases) → behind (bare_phrases ps) ≡ map bare_wanted (behind ps)
  bare_behind_text none = refl
  bare_behind_text (more p ps) = ap (λ z. mark false ∷ z) (both (term (bare_phrase p)) (behind (bare_phrases ps)) (term p) (behind ps) (bare_term_text p) (bare_behind_text ps))

-- an identity keeps the place of its parenthesis alone
placeless_variables : (vs : List Variable) → ArePlaceless (map variable vs)
placeless_variables [] = tt
placeless_variables (v ∷ vs) = (refl, placeless_variables vs)

placeless_behind : (i : IdentityText) → ArePlaceless (identity_behind i)
placeless_behind i =
    placeless_both (arguments i.args) (sign roles.Exact (codes "=") ∷ variable i.value ∷ [])
    (placeless_both (map variable i.args) (sign roles.Closes (codes ")") ∷ []) (placeless_variables i.args) (refl, tt)) (refl, (refl, tt))

bare_identity_text : (i : IdentityText) → identity (bare_identity i) ≡ map bare_wanted (identity i)
bare_identity_text i = ap (λ z. sign_at roles.Opens (codes "(") nowhere ∷ z) (sym (bare_placeless (identity_behind i) (placeless_behind i)))

bare_construction_text : (m : MakeForm) → construction (bare_construction m) ≡ map bare_wanted (construction m)
bare_construction_text (Product a b) = refl
bare_construction_text (Quotient a p) = ap (λ z. sign roles.Exact (codes "quotient") ∷ word (bare_word a) ∷ z) (bare_part_text p)
bare_construction_text (Sub a v) = ap (λ z. sign roles.Exact (codes "sub") ∷ word (bare_word a) ∷ z) (bare_vector_text v)
bare_construction_text (Reduct a ops) = ap (λ z. sign roles.Exact (codes "reduct") ∷ word (bare_word a) ∷ z) (bare_list_text ops)

bare_points_text : (m : PointsText) → points (bare_points m) ≡ map bare_wanted (points m)
bare_points_text (Total v) = ap (λ z. sign roles.Exact (codes "total") ∷ z) (bare_vector_text v)
bare_points_text (Partial v vs) =
    ap (λ z. sign roles.Exact (codes "partial") ∷ z) (both (vector (bare_vector v)) (flat_map vector (map bare_vector vs)) (vector v) (flat_map vector vs) (bare_vector_text v) (each_row bare_vector vector vector bare_vector_text vs))

bare_mode_text : (m : Mode) → mode m ≡ map bare_wanted (mode m)
bare_mode_text Plain = refl
bare_mode_text Least = refl
bare_mode_text Count = refl

bare_value_text : (p : Part) (x : Value p) → value_text p (bare_value p x) ≡ map bare_wanted (value_text p x)
bare_value_text parts.Names x = bare_list_text x
bare_value_text parts.Vector x = bare_vector_text x
bare_value_text parts.Vectors x = each_row bare_vector vector vector bare_vector_text x
bare_value_text parts.Partition x = bare_part_text x
bare_value_text parts.Term x = bare_term_text x
bare_value_text parts.Modes x = bare_mode_text x
bare_value_text parts.Body x = sym (bare_placeless (body x) (placeless_block x).1)
bare_value_text (parts.Identities i) x = each_row bare_identity identity identity bare_identity_text x
bare_value_text (parts.Pick Constructions) x = bare_construction_text x
bare_value_text (parts.Pick Points) x = bare_points_text x
bare_value_text p x = refl

bare_values_text : (ps : List Part) (x : Values ps) → values_text ps (bare_values ps x) ≡ map bare_wanted (values_text ps x)
bare_values_text [] x = refl
bare_values_text (p ∷ ps) x = both (value_text p (bare_value p x.0)) (values_text ps (bare_values ps x.1)) (value_text p x.0) (values_text ps x.1) (bare_value_text p x.0) (bare_values_text ps x.1)

-- ---- items

bare_heading : (cert : Bool) (word : List ℕ) (place : Option Place) → heading cert word None ≡ map bare_wanted (heading cert word place)
bare_heading true word place = refl
bare_heading false word place = refl

bare_asked_text : (a : Asked) → asked_text (bare a) ≡ map bare_wanted (asked_text a)
bare_asked_text a =
    let ps = parts_of a.form in
    both (heading a.cert (word_of a.form) None) (values_text ps (bare_values ps a.values)) (heading a.cert (word_of a.form) a.place) (values_text ps a.values) (bare_heading a.cert (word_of a.form) a.place) (bare_values_text ps a.values)

bare_item_text : (i : Item) → bare_text (bare_item i) ≡ map bare_wanted (item i)
bare_item_text (items.Block b) = sym (bare_placeless (block b) (placeless_block b))
bare_item_text (items.Command c) = bare_asked_text (asked c)

pub bare_items_text : (is : List Item) → flat_map bare_text (map bare_item is) ≡ map bare_wanted (flat_map item is)
bare_items_text is = each_row bare_item item bare_text bare_item_text is

-- What tells a value tells it without its places.

all_mapped : {A : Type 0} (f : A → A) (P : A → Type 0) → ((x : A) → P x → P (f x)) → (xs : List A) → AllByRecursion P xs → AllByRecursion P (map f xs)
all_mapped f P k [] h = tt
all_mapped f P k (x ∷ xs) h = (k x h.0, all_mapped f P k xs h.1)

told_entry : (e : Entry) → IsShortEntry e → IsShortEntry (bare_entry e)
told_entry (entries.Number n) h = h
told_entry (entries.Word w) h = h

told_vector : (v : Vector) → IsShortVector v → IsShortVector (bare_vector v)
told_vector v h = all_mapped bare_entry IsShortEntry told_entry v.values h

told_block : (b : List Number) → IsShortBlock b → IsShortBlock (map bare_number b)
told_block b h = ((let e = length-map b bare_number in let l = h.0 in omega arith), all_mapped bare_number IsShort (λ n h. h) b h.1)

told_part : (p : PartText) → AllByRecursion IsShortBlock p.blocks → AllByRecursion IsShortBlock (bare_part p).blocks
told_part p h = all_mapped (λ (b : List Number). map bare_number b) IsShortBlock told_block p.blocks h

told_construction : (m : MakeForm) → IsShortConstruction m → IsShortConstruction (bare_construction m)
told_construction (Product a b) h = h
told_construction (Quotient a p) h = (h.0, told_part p h.1)
told_construction (Sub a v) h = (h.0, told_vector v h.1)
told_construction (Reduct a ops) h = (h.0, all_mapped bare_word IsNamed (λ w h. h) ops h.1)

told_points : (m : PointsText) → ArePointsShort m → ArePointsShort (bare_points m)
told_points (Total v) h = told_vector v h
told_points (Partial v vs) h = (told_vector v h.0, all_mapped bare_vector IsShortVector told_vector vs h.1)

told_value : (p : Part) (x : Value p) → Told p x → Told p (bare_value p x)
told_value parts.Names x h = all_mapped bare_word IsNamed (λ w h. h) x h
told_value parts.Vector x h = told_vector x h
told_value parts.Vectors x h = all_mapped bare_vector IsShortVector told_vector x h
told_value parts.Partition x h = told_part x h
told_value (parts.Pick Constructions) x h = told_construction x h
told_value (parts.Pick Points) x h = told_points x h
told_value p x h = h

told_values : (ps : List Part) (x : Values ps) → AreTold ps x → AreTold ps (bare_values ps x)
told_values [] x h = tt
told_values (p ∷ ps) x h = (told_value p x.0 h.0, told_values ps x.1 h.1)

pub told_bare : (v : ℕ) (i : Item) → IsToldItem v (kept i) → IsToldItem v (bare_item i)
told_bare v (items.Block b) h = h
told_bare v (items.Command c) h = let a = asked c in told_values (parts_of a.form) a.values h
