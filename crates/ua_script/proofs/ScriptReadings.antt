-- A text is at most one script.
use Rattle.ua_operands.proofs.Vocabulary.{AllByRecursion, flat_map, list_all, Place, Placed, tokens_of, same, Wanted, sign, AreSpelled, Front, begins_with, word, number, points, ArePointsShort}
use Rattle.ua_operands.proofs.Vocabulary.{begins_item}
use Rattle.ua_script.proofs.Vocabulary.{Total, Partial, Constructions, Points, Part, block, IsVersion, MakeForm, Product, Quotient, Sub, Reduct, Command, Item, Script, CommandForm, Value, Values}
use Rattle.ua_script.proofs.Vocabulary.{choice_text, construction, value_text, values_text, AreValues, word_of, parts_of, all_forms, Asked, asked, made, found_form, finished, heading, asked_text}
use Rattle.ua_script.proofs.Vocabulary.{command, item, written, version_line, IsOpening, IsItem, IsScript, BareItem, BareBlock, BareCommand, ends, IsShortConstruction, IsShortValue, IsKept, all_end}
use Rattle.ua_script.proofs.Vocabulary.{Ends}
use Rattle.std.proofs.Common.{◌≡◌, inl, inr, ℕ, ◌<◌, Bool, true, false, List, [], ◌∷◌, ◌++◌, Some, None, codes, refl, sym, ap, ◌∙◌, subst, append_assoc, append-nil, arith}
use Rattle.std.proofs.lemmas.Bool.{false≢true, and_parts, not-true}
use Rattle.ua_text.specs.declared.symbols.Role.TheVariants as roles
use Rattle.ua_text.specs.declared.symbols.Part.TheVariants as parts
use Rattle.ua_text.proofs.ReadBack.{place_of}
use Rattle.ua_text.proofs.WordLaws.{same_itself}
use Rattle.ua_text.proofs.SpelledLaws.{spelled_left, spelled_right}
use Rattle.ua_script.specs.declared.script.Command.TheVariants as commands
use Rattle.ua_script.specs.declared.script.Item.TheVariants as items
use Rattle.ua_script.proofs.Beginnings.{begins_not, no_block, asked_begins, asked_some, items_begin, item_some, no_version}
use Rattle.ua_script.proofs.ConstructionLaws.{first_of, behind, construction_front}
use Rattle.ua_script.proofs.Operands.{ends_well}
use Rattle.ua_script.proofs.Shortness.{short_value}
use Rattle.ua_script.proofs.Table.{found, no_cert, each_form, end, remade}
use Rattle.ua_script.proofs.TokenReadings.{Same, IsDetermined, Any, NoMore, one_token, apart, opens_not, many}
use Rattle.ua_script.proofs.TermReadings.{one_term}
use Rattle.ua_script.proofs.OperandReadings.{same_word, same_value, same_number, same_choice, one_vector, one_vectors, one_part, one_names, one_mode, one_identities}
use Rattle.ua_script.proofs.BlockReadings.{IsSpelledBlock, one_body}

-- ---- operands

-- a value that its tokens tell
abbrev pub Told : (p : Part) → Value p → Type 0
Told parts.Term x = Unit {0}
Told p x = IsShortValue p x

abbrev pub AreTold : (ps : List Part) → Values ps → Type 0
AreTold [] x = Unit {0}
AreTold (p ∷ ps) x = Told p x.0 × AreTold ps x.1

-- neither a row of a table nor a block
abbrev is_flat : Part → Bool
is_flat (parts.Pick table) = false
is_flat parts.Body = false
is_flat p = true

one_flat : (p : Part) → is_flat p ≡ true → IsDetermined (value_text p) (Told p) (Ends p) [] []
one_flat (parts.Mark b) h x y ts us vs p q d e f g = one_token (λ (x : Value (parts.Mark b)). sign roles.Exact (b ∷ [])) Any Any [] [] (λ x y t p q s a u b. refl) x y ts us vs tt tt d e f g
one_flat parts.Name h x y ts us vs p q d e f g = one_token word (Told parts.Name) Any [] [] same_word x y ts us vs p q d e f g
one_flat parts.Fresh h x y ts us vs p q d e f g = one_token word (Told parts.Fresh) Any [] [] same_word x y ts us vs p q d e f g
one_flat parts.Count h x y ts us vs p q d e f g = one_token (number roles.Amount) (Told parts.Count) Any [] [] (same_number roles.Amount) x y ts us vs p q d e f g
one_flat parts.Json h x y ts us vs p q d e f g = one_token (sign roles.Json) Any Any [] [] (λ x y t p q s a u b. sym s ∙ u) x y ts us vs p q d e f g
one_flat (parts.OneOf i) h x y ts us vs p q d e f g = one_token (λ (x : Value (parts.OneOf i)). sign roles.Exact (choice_text i x)) Any Any [] [] (λ x y t p q s a u b. same_choice i x y t.text s u) x y ts us vs p q d e f g
one_flat parts.Names h x y ts us vs p q d e f g = one_names x y ts us vs p q d e f g
one_flat parts.Vector h x y ts us vs p q d e f g = one_vector x y ts us vs p q d e f g
one_flat parts.Vectors h x y ts us vs p q d e f g = one_vectors x y ts us vs p q d e f g
one_flat parts.Partition h x y ts us vs p q d e f g = one_part x y ts us vs p q d e f g
one_flat parts.Term h x y ts us vs p q d e f g = one_term x y ts us vs [] [] d e f g
one_flat parts.Modes h x y ts us vs p q d e f g = one_mode x y ts us vs p q d e f g
one_flat (parts.Identities i) h x y ts us vs p q d e f g = one_identities x y ts us vs p q d e f g
one_flat parts.Body h x y ts us vs p q d e f g = absurd (false≢true h)
one_flat (parts.Pick table) h x y ts us vs p q d e f g = absurd (false≢true h)

-- parts in a row
one_row : (ok : Part → Bool) → ((p : Part) → ok p ≡ true → IsDetermined (value_text p) (Told p) (Ends p) [] []) → (ps : List Part) → list_all ok ps ≡ true → all_end ps ≡ true → IsDetermined (values_text ps) (AreTold ps) begins_item [] []
one_row ok one [] o i x y ts us vs h k b c f g = (refl, record { left = ts; first = f; second = g })
one_row ok one (p ∷ ps) o i x y ts us vs h k b c f g =
    let q = and_parts (ends p ps) (all_end ps) i in
    let r = and_parts (ok p) (list_all ok ps) o in
    let read = one p r.0 x.0 y.0 ts (values_text ps x.1 ++ us) (values_text ps y.1 ++ vs) h.0 k.0 (ends_well p ps x.1 us q.0 b) (ends_well p ps y.1 vs q.0 c) in
    let here = read (apart (value_text p x.0) (values_text ps x.1) us ts [] f) (apart (value_text p y.0) (values_text ps y.1) vs ts [] g) in
    let rest = one_row ok one ps r.1 q.1 x.1 y.1 here.1.left us vs h.1 k.1 b c here.1.first here.1.second in
    (both x.0 y.0 x.1 y.1 here.0 rest.0, rest.1)
  where
    pair : Value p → Values ps → Values (p ∷ ps)
    pair a x = (a, x)

    both : (a b : Value p) (x y : Values ps) → a ≡ b → x ≡ y → pair a x ≡ pair b y
    both a b x y e f = ap (λ z. pair z x) e ∙ ap (pair b) f

-- ---- constructions and points: their words tell which they are

other_words : {G : Type 0} (a b t : List ℕ) → t ≡ a → t ≡ b → same a b ≡ false → G
other_words a b t e f h = absurd (false≢true (sym h ∙ subst (λ z. same z b ≡ true) (sym f ∙ e) (same_itself b)))

one_behind : (m n : MakeForm) (t : List ℕ) (ts : List Placed) (us vs : List Wanted) → IsShortConstruction m → IsShortConstruction n → begins_item us → begins_item vs → t ≡ first_of m → t ≡ first_of n
    → Front ts (behind m ++ us) [] → Front ts (behind n ++ vs) [] → Same m n us vs [] []
one_behind (Product a b) (Product c d) t ts us vs p q k l e h f g =
    let r = one_row is_flat one_flat (parts.Name ∷ parts.Name ∷ []) refl refl (a, (b, tt)) (c, (d, tt)) ts us vs (p.0, (p.1, tt)) (q.0, (q.1, tt)) k l f g in
    (ap (λ (z : Values (parts.Name ∷ parts.Name ∷ [])). Product z.0 z.1.0) r.0, r.1)
one_behind (Quotient a b) (Quotient c d) t ts us vs p q k l e h f g =
    let r = one_row is_flat one_flat (parts.Name ∷ parts.Partition ∷ []) refl refl (a, (b, tt)) (c, (d, tt)) ts us vs (p.0, (p.1, tt)) (q.0, (q.1, tt)) k l f g in
    (ap (λ (z : Values (parts.Name ∷ parts.Partition ∷ [])). Quotient z.0 z.1.0) r.0, r.1)
one_behind (Sub a b) (Sub c d) t ts us vs p q k l e h f g =
    let r = one_row is_flat one_flat (parts.Name ∷ parts.Vector ∷ []) refl refl (a, (b, tt)) (c, (d, tt)) ts us vs (p.0, (p.1, tt)) (q.0, (q.1, tt)) k l f g in
    (ap (λ (z : Values (parts.Name ∷ parts.Vector ∷ [])). Sub z.0 z.1.0) r.0, r.1)
one_behind (Reduct a b) (Reduct c d) t ts us vs p q k l e h f g =
    let r = one_row is_flat one_flat (parts.Name ∷ parts.Names ∷ []) refl refl (a, (b, tt)) (c, (d, tt)) ts us vs (p.0, (p.1, tt)) (q.0, (q.1, tt)) k l f g in
    (ap (λ (z : Values (parts.Name ∷ parts.Names ∷ [])). Reduct z.0 z.1.0) r.0, r.1)
one_behind m n t ts us vs p q k l e h f g = other_words (first_of m) (first_of n) t e h refl

one_construction : IsDetermined construction IsShortConstruction begins_item [] []
one_construction m n ts us vs p q k l f g = at ts (construction_front m ts us f) (construction_front n ts vs g)
  where
    at : (ts : List Placed) → Front ts (sign roles.Exact (first_of m) ∷ (behind m ++ us)) [] → Front ts (sign roles.Exact (first_of n) ∷ (behind n ++ vs)) [] → Same m n us vs [] []
    at [] f g = absurd f
    at (t ∷ ts) f g = one_behind m n t.text ts us vs p q k l f.1 g.1 f.3 g.3

one_points : IsDetermined points ArePointsShort begins_item [] []
one_points (Total v) n [] us vs p q b c f g = absurd f
one_points (Partial v xs) n [] us vs p q b c f g = absurd f
one_points (Total v) (Total w) (t ∷ ts) us vs p q b c f g = let h = one_vector v w ts us vs p q tt tt f.3 g.3 in (ap Total h.0, h.1)
one_points (Total v) (Partial w ys) (t ∷ ts) us vs p q b c f g = other_words (codes "total") (codes "partial") t.text f.1 g.1 refl
one_points (Partial v xs) (Total w) (t ∷ ts) us vs p q b c f g = other_words (codes "partial") (codes "total") t.text f.1 g.1 refl
one_points (Partial v xs) (Partial w ys) (t ∷ ts) us vs p q b c f g =
    let rest = value_text parts.Vectors in
    let h = one_vector v w ts (rest xs ++ us) (rest ys ++ vs) p.0 q.0 tt tt (apart (value_text parts.Vector v) (rest xs) us ts [] f.3) (apart (value_text parts.Vector w) (rest ys) vs ts [] g.3) in
    let k = one_vectors xs ys h.1.left us vs p.1 q.1 b.0 c.0 h.1.first h.1.second in
    (ap (λ z. Partial z xs) h.0 ∙ ap (λ z. Partial w z) k.0, k.1)

-- a part of a command
abbrev is_no_body : Part → Bool
is_no_body parts.Body = false
is_no_body p = true

one_value : (p : Part) → is_no_body p ≡ true → IsDetermined (value_text p) (Told p) (Ends p) [] []
one_value (parts.Pick Constructions) h x y ts us vs p q d e f g = one_construction x y ts us vs p q d e f g
one_value (parts.Pick Points) h x y ts us vs p q d e f g = one_points x y ts us vs p q d e f g
one_value (parts.Pick table) h x y ts us vs p q d e f g = absurd x
one_value parts.Body h x y ts us vs p q d e f g = absurd (false≢true h)
one_value k h x y ts us vs p q d e f g = one_flat k refl x y ts us vs p q d e f g

no_bodies : (f : CommandForm) → list_all is_no_body (parts_of f) ≡ true
no_bodies f = each_form (λ f. list_all is_no_body (parts_of f)) refl f

told : (v : ℕ) (ps : List Part) (x : Values ps) → AreValues v ps x → AreSpelled (values_text ps x) → AreTold ps x
told v [] x i h = tt
told v (p ∷ ps) x i h = (first p x.0 (short_value v p x.0 i.0 (spelled_left (value_text p x.0) (values_text ps x.1) h)), told v ps x.1 i.1 (spelled_right (value_text p x.0) (values_text ps x.1) h))
  where
    first : (p : Part) (x : Value p) → IsShortValue p x → Told p x
    first parts.Term x s = tt
    first p x s = s

-- ---- commands

same_form : (f g : CommandForm) (t : List ℕ) → t ≡ word_of f → t ≡ word_of g → f ≡ g
same_form f g t e h = let q : Some f ≡ Some g = sym (found f) ∙ ap (λ z. found_form z all_forms) (sym e ∙ h) ∙ found g in cc

-- what a command is made of, but for the place of its first word
abbrev asked_of : (f : CommandForm) → Bool → Values (parts_of f) → Asked
asked_of f cert x = record { form = f; cert = cert; place = None; values = x }

abbrev pub unplaced : Asked → Asked
unplaced a = asked_of a.form a.cert a.values

-- of one form
one_form : (cert : Bool) (f g : CommandForm) (x : Values (parts_of f)) (y : Values (parts_of g)) (ts : List Placed) (us vs : List Wanted) → f ≡ g → AreTold (parts_of f) x → AreTold (parts_of g) y → begins_item us → begins_item vs
    → Front ts (values_text (parts_of f) x ++ us) [] → Front ts (values_text (parts_of g) y ++ vs) [] → Same (asked_of f cert x) (asked_of g cert y) us vs [] []
one_form cert f g x y ts us vs e h k b c m n = subst Goal e here y k n
  where
    Goal : CommandForm → Type 0
    Goal g = (y : Values (parts_of g)) → AreTold (parts_of g) y → Front ts (values_text (parts_of g) y ++ vs) [] → Same (asked_of f cert x) (asked_of g cert y) us vs [] []

    here : Goal f
    here y k n = let r = one_row is_no_body one_value (parts_of f) (no_bodies f) (end f) x y ts us vs h k b c m n in (ap (asked_of f cert) r.0, r.1)

-- no word of a form is `cert`
not_cert : {G : Type 0} (f : CommandForm) (t : List ℕ) → t ≡ codes "cert" → t ≡ word_of f → G
not_cert f t e h = other_words (word_of f) (codes "cert") t h e (not-true _ (no_cert f))

one_asked : (a b : Asked) (ts : List Placed) (us vs : List Wanted) → AreTold (parts_of a.form) a.values → AreTold (parts_of b.form) b.values → begins_item us → begins_item vs
    → Front ts (asked_text a ++ us) [] → Front ts (asked_text b ++ vs) [] → Same (unplaced a) (unplaced b) us vs [] []
one_asked a b ts us vs h k i j f g = at a.cert b.cert ts f g
  where
    At : Asked → Bool → List Placed → List Wanted → Type 0
    At a cert ts ws = Front ts ((heading cert (word_of a.form) a.place ++ values_text (parts_of a.form) a.values) ++ ws) []

    at : (c d : Bool) (ts : List Placed) → At a c ts us → At b d ts vs → Same (asked_of a.form c a.values) (asked_of b.form d b.values) us vs [] []
    at true d [] f g = absurd f
    at false d [] f g = absurd f
    at true false (t ∷ ts) f g = not_cert b.form t.text f.1 g.1
    at false true (t ∷ ts) f g = not_cert a.form t.text g.1 f.1
    at true true (t ∷ []) f g = absurd f.3
    at true true (t ∷ s ∷ ts) f g = one_form true a.form b.form a.values b.values ts us vs (same_form a.form b.form s.text f.3.1 g.3.1) h k i j f.3.3 g.3.3
    at false false (t ∷ ts) f g = one_form false a.form b.form a.values b.values ts us vs (same_form a.form b.form t.text f.1 g.1) h k i j f.3 g.3

-- ---- items, with the place of a first word and without

abbrev pub bare_text : BareItem → List Wanted
bare_text (BareBlock b) = block b
bare_text (BareCommand a) = asked_text a

abbrev pub IsToldItem : ℕ → BareItem → Type 0
IsToldItem v (BareBlock b) = IsSpelledBlock v b
IsToldItem v (BareCommand a) = AreTold (parts_of a.form) a.values

abbrev pub without_place : BareItem → BareItem
without_place (BareBlock b) = BareBlock b
without_place (BareCommand a) = BareCommand (unplaced a)

one_told : (v : ℕ) (x y : BareItem) (ts : List Placed) (us vs : List Wanted) → IsToldItem v x → IsToldItem v y → begins_item us → begins_item vs → Front ts (bare_text x ++ us) [] → Front ts (bare_text y ++ vs) []
    → Same (without_place x) (without_place y) us vs [] []
one_told v (BareBlock b) y [] us vs h k i j f g = absurd f
one_told v (BareCommand a) y [] us vs h k i j f g = absurd (asked_some a us f)
one_told v (BareBlock b) (BareBlock c) (t ∷ ts) us vs h k i j f g = let r = one_body v [] [] b c ts us vs h k tt tt f.3 g.3 in (ap BareBlock r.0, r.1)
one_told v (BareBlock b) (BareCommand c) (t ∷ ts) us vs h k i j f g = opens_not (codes "algebra") t ts (asked_text c ++ vs) (no_block c vs) g f.1
one_told v (BareCommand c) (BareBlock b) (t ∷ ts) us vs h k i j f g = opens_not (codes "algebra") t ts (asked_text c ++ us) (no_block c us) f g.1
one_told v (BareCommand a) (BareCommand b) (t ∷ ts) us vs h k i j f g = let r = one_asked a b (t ∷ ts) us vs h k i j f g in (ap BareCommand r.0, r.1)

abbrev pub AtEnd : List Wanted → Type 0
AtEnd us = us ≡ []

abbrev IsBareTold : ℕ → BareItem → Type 0
IsBareTold v x = IsToldItem v x × (without_place x ≡ x)

bare_begin : (v : ℕ) (xs : List BareItem) (us : List Wanted) → AllByRecursion (IsBareTold v) xs → us ≡ [] → begins_item (flat_map bare_text xs ++ us)
bare_begin v [] us h e = subst begins_item (sym e) (refl, refl, refl, refl, refl)
bare_begin v (BareBlock b ∷ xs) us h e = (refl, refl, refl, refl, refl)
bare_begin v (BareCommand a ∷ xs) us h e = subst begins_item (sym (append_assoc (asked_text a) (flat_map bare_text xs) us)) (asked_begins a (flat_map bare_text xs ++ us))

no_more_bare : (v : ℕ) → NoMore bare_text (IsBareTold v) AtEnd [] []
no_more_bare v x [] us vs p e f g = none x f
  where
    none : (x : BareItem) → Front [] (bare_text x ++ us) [] → ⊥
    none (BareBlock b) f = f
    none (BareCommand a) f = asked_some a us f
no_more_bare v x (t ∷ ts) us vs p e f g = let no : t ∷ ts ≡ [] = subst (λ z. Front (t ∷ ts) z []) e g in cc

pub one_bare : (v : ℕ) → IsDetermined (flat_map bare_text) (λ (xs : List BareItem). AllByRecursion (IsBareTold v) xs) AtEnd [] []
one_bare v = many (IsBareTold v) bare_text AtEnd begins_item [] [] (λ x y ts us vs p q i j f g. let r = one_told v x y ts us vs p.0 q.0 i j f g in (sym p.1 ∙ r.0 ∙ q.1, r.1)) (bare_begin v) (no_more_bare v) (no_more_bare v)

pub bare_no_version : (xs : List BareItem) → begins_with (codes "version") (flat_map bare_text xs) ≡ false
bare_no_version [] = refl
bare_no_version (BareBlock b ∷ xs) = refl
bare_no_version (BareCommand a ∷ xs) = begins_not (codes "version") refl refl a (flat_map bare_text xs)

-- an item is made again of what it is made of, at the place of its first token
abbrev pub kept : Item → BareItem
kept (items.Block b) = BareBlock b
kept (items.Command c) = BareCommand (asked c)

abbrev made_again : Place → BareItem → Item
made_again p (BareBlock b) = items.Block b
made_again p (BareCommand a) = items.Command (finished a.cert (made a.form p a.values))

is_kept : (c : Command) (t : Placed) (ts : List Placed) (us : List Wanted) → Front (t ∷ ts) (command c ++ us) [] → IsKept (asked c).place (place_of t)
is_kept (commands.Make place name what) t ts us f = f.2
is_kept c t ts us f = tt

abbrev IsSpelledItem : ℕ → Item → Type 0
IsSpelledItem v i = IsItem v i × AreSpelled (item i)

again : (v : ℕ) (i : Item) (t : Placed) (ts : List Placed) (us : List Wanted) → IsSpelledItem v i → Front (t ∷ ts) (item i ++ us) [] → made_again (place_of t) (without_place (kept i)) ≡ i
again v (items.Block b) t ts us h f = refl
again v (items.Command c) t ts us h f = ap items.Command (remade c h.0.0 (place_of t) (is_kept c t ts us f))

pub told_item : (v : ℕ) (i : Item) → IsItem v i → AreSpelled (item i) → IsToldItem v (kept i)
told_item v (items.Block b) i s = (i, s.1)
told_item v (items.Command c) i s = let a = asked c in told v (parts_of a.form) a.values i.1 (spelled_right (heading a.cert (word_of a.form) a.place) (values_text (parts_of a.form) a.values) s)

kept_front : (i : Item) (ts : List Placed) (us : List Wanted) → Front ts (item i ++ us) [] → Front ts (bare_text (kept i) ++ us) []
kept_front (items.Block b) ts us f = f
kept_front (items.Command c) ts us f = f

one_item : (v : ℕ) → IsDetermined item (IsSpelledItem v) begins_item [] []
one_item v i j [] us vs h k d e f g = absurd (item_some i [] us refl f)
one_item v i j (t ∷ ts) us vs h k d e f g =
    let r = one_told v (kept i) (kept j) (t ∷ ts) us vs (told_item v i h.0 h.1) (told_item v j k.0 k.1) d e (kept_front i (t ∷ ts) us f) (kept_front j (t ∷ ts) vs g) in
    (sym (again v i t ts us h f) ∙ ap (made_again (place_of t)) r.0 ∙ again v j t ts vs k g, r.1)

no_more_items : (v : ℕ) → NoMore item (IsSpelledItem v) AtEnd [] []
no_more_items v i [] us vs p e f g = item_some i [] us refl f
no_more_items v i (t ∷ ts) us vs p e f g = let no : t ∷ ts ≡ [] = subst (λ z. Front (t ∷ ts) z []) e g in cc

one_items : (v : ℕ) → IsDetermined (flat_map item) (λ (is : List Item). AllByRecursion (IsSpelledItem v) is) AtEnd [] []
one_items v = many (IsSpelledItem v) item AtEnd begins_item [] [] (one_item v) (λ is us p e. subst (λ z. begins_item (flat_map item is ++ z)) (sym e) (items_begin is)) (no_more_items v) (no_more_items v)

-- ---- scripts

small_version : (v : ℕ) → IsVersion v → v < 1000000000
small_version v (inl e) = omega (arith, e)
small_version v (inr e) = omega (arith, e)

-- one version is told, if what stands behind it does not begin with its word
pub one_opening : (v w : ℕ) (ts : List Placed) (us vs ws zs : List Wanted) → IsVersion v → IsVersion w → IsOpening v us → IsOpening w vs → begins_with (codes "version") ws ≡ false → begins_with (codes "version") zs ≡ false
    → Front ts (us ++ ws) [] → Front ts (vs ++ zs) [] → Same v w ws zs [] []
one_opening v w ts us vs ws zs h k o p m n f g = at ts o p f g
  where
    at : (ts : List Placed) → IsOpening v us → IsOpening w vs → Front ts (us ++ ws) [] → Front ts (vs ++ zs) [] → Same v w ws zs [] []
    at ts (inl e) (inl d) f g = lines ts (subst (λ z. Front ts (z ++ ws) []) e f) (subst (λ z. Front ts (z ++ zs) []) d g)
      where
        lines : (ts : List Placed) → Front ts (version_line v ++ ws) [] → Front ts (version_line w ++ zs) [] → Same v w ws zs [] []
        lines [] f g = absurd f
        lines (t ∷ []) f g = absurd f.3
        lines (t ∷ s ∷ ts) f g = (same_value v w s.text (small_version v h) (small_version w k) f.3.1 g.3.1, record { left = ts; first = f.3.3; second = g.3.3 })
    at [] (inl e) (inr d) f g = absurd (subst (λ z. Front [] (z ++ ws) []) e f)
    at (t ∷ ts) (inl e) (inr d) f g = opens_not (codes "version") t ts zs n (subst (λ z. Front (t ∷ ts) (z ++ zs) []) d.1 g) (subst (λ z. Front (t ∷ ts) (z ++ ws) []) e f).1
    at [] (inr e) (inl d) f g = absurd (subst (λ z. Front [] (z ++ zs) []) d g)
    at (t ∷ ts) (inr e) (inl d) f g = opens_not (codes "version") t ts ws m (subst (λ z. Front (t ∷ ts) (z ++ ws) []) e.1 f) (subst (λ z. Front (t ∷ ts) (z ++ zs) []) d g).1
    at ts (inr e) (inr d) f g = (e.0 ∙ sym d.0, record { left = ts; first = subst (λ z. Front ts (z ++ ws) []) e.1 f; second = subst (λ z. Front ts (z ++ zs) []) d.1 g })

abbrev script_at : ℕ → List Item → Script
script_at version is = record { version = version; items = is }

script_is : {s : Script} (version : ℕ) (is : List Item) → version ≡ s.version → is ≡ s.items → script_at version is ≡ s
script_is {s} version is e f = ap (λ z. script_at z is) e ∙ ap (λ z. script_at s.version z) f

spelled_items : (v : ℕ) (is : List Item) → AllByRecursion (IsItem v) is → AreSpelled (flat_map item is) → AllByRecursion (IsSpelledItem v) is
spelled_items v [] h s = tt
spelled_items v (i ∷ is) h s = ((h.0, spelled_left (item i) (flat_map item is) s), spelled_items v is h.1 (spelled_right (item i) (flat_map item is) s))

pub one_script : (bytes : List ℕ) (s t : Script) → IsScript bytes s → IsScript bytes t → s ≡ t
one_script bytes s t h k =
    let o = one_opening s.version t.version (tokens_of bytes) h.front k.front (written s) (written t) h.formed.known k.formed.known h.opens k.opens (no_version s.items) (no_version t.items) h.spells k.spells in
    let each : AllByRecursion (IsItem s.version) t.items = subst (λ z. AllByRecursion (IsItem z) t.items) (sym o.0) k.formed.each in
    let all = one_items s.version s.items t.items o.1.left [] [] (spelled_items s.version s.items h.formed.each h.formed.spelled) (spelled_items s.version t.items each k.formed.spelled) refl refl in
    let i = all (subst (λ z. Front o.1.left z []) (sym (append-nil (written s))) o.1.first) (subst (λ z. Front o.1.left z []) (sym (append-nil (written t))) o.1.second) in
    script_is {s = t} s.version s.items o.0 i.0
