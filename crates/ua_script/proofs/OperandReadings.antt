-- At the front of tokens stands at most one operand of a kind.
use Rattle.ua_operands.proofs.Vocabulary.{AllByRecursion, flat_map, decimal, is_name, Role, Place, Placed, same, number_value, Wanted, sign, Front, begins_with, word, number, entry, vector, part}
use Rattle.ua_operands.proofs.Vocabulary.{part_block, part_blocks, names, mode, cond_word, series_word, variable, variable_word, clone_word, identity, IsShort, IsShortEntry, IsShortVector}
use Rattle.ua_operands.proofs.Vocabulary.{IsShortBlock, IsNamed, begins_number, begins_item}
use Rattle.ua_script.proofs.Vocabulary.{Word, Number, Entry, Items, PartText, Plain, Least, Count, Variable, IdentityText, Choice, choice_text, value_text}
use Rattle.std.proofs.Common.{◌≡◌, ℕ, ◌<◌, zero, suc, true, false, List, [], ◌∷◌, ◌++◌, map, Some, None, codes, refl, sym, ap, ◌∙◌, subst}
use Rattle.std.proofs.lemmas.Bool.{false≢true}
use Rattle.ua_text.specs.declared.symbols.Role.TheVariants as roles
use Rattle.ua_text.specs.declared.symbols.Part.TheVariants as parts
use Rattle.ua_text.proofs.Digits.{number_read}
use Rattle.ua_text.proofs.ReadBack.{place_of}
use Rattle.ua_text.proofs.ReadLaws.{no_number}
use Rattle.ua_text.proofs.WordLaws.{same_itself}
use Rattle.ua_operands.specs.declared.written.Entry.TheVariants as entries
use Rattle.ua_operands.proofs.ReadLaws.{number_is, word_is, part_is, identity_is, entry_apart, word_apart, inner_apart, variable_apart, names_front, block_front, blocks_front}
use Rattle.ua_operands.proofs.ReadLaws.{blocks_flat, block_number, tail_number, behind_then, condition_is, series_is, variable_is}
use Rattle.ua_operands.proofs.CloneLaws.{clone_is}
use Rattle.ua_script.proofs.TokenReadings.{IsDetermined, Any, IsTold, NoMore, apart, clash, opens_not, closed, many}

-- ---- one token

pub same_word : IsTold word IsNamed
same_word x y t k l s a u b = sym (word_is {w = x} t.text (place_of t) s (sym a)) ∙ word_is {w = y} t.text (place_of t) u (sym b)

pub same_value : (m n : ℕ) (t : List ℕ) → m < 1000000000 → n < 1000000000 → t ≡ decimal m → t ≡ decimal n → m ≡ n
same_value m n t k l e f = let h : Some m ≡ Some n = sym (number_read t m k e) ∙ number_read t n l f in cc

pub same_number : (role : Role) → IsTold (number role) IsShort
same_number role x y t k l s a u b =
    let v : x.value ≡ y.value = same_value x.value y.value t.text k l s u in
    sym (number_is {n = x} x.value (place_of t) refl (sym a)) ∙ number_is {n = y} x.value (place_of t) v (sym b)

-- a number is no name
not_both : {G : Type 0} (n : ℕ) (t w : List ℕ) → n < 1000000000 → t ≡ decimal n → is_name w ≡ true → t ≡ w → G
not_both n t w l e h f =
    let a : number_value t ≡ None = no_number t (subst (λ z. is_name z ≡ true) (sym f) h) in
    let b : Some n ≡ None = sym (number_read t n l e) ∙ a in
    let no : ⊥ = cc in absurd no

same_entry : IsTold entry IsShortEntry
same_entry (entries.Number m) (entries.Number n) t k l s a u b = ap entries.Number (same_number roles.Inner m n t k l s a u b)
same_entry (entries.Number m) (entries.Word w) t k l s a u b = not_both m.value t.text w.name k s l u
same_entry (entries.Word v) (entries.Number n) t k l s a u b = not_both n.value t.text v.name l u k s
same_entry (entries.Word v) (entries.Word w) t k l s a u b = ap entries.Word (same_word v w t k l s a u b)

-- a word of a list to choose from
told_by : {C : Type 0} (text : C → List ℕ) → ((k c : C) (t : List ℕ) → t ≡ text k → same t (text c) ≡ true → c ≡ k) → (x y : C) (t : List ℕ) → t ≡ text x → t ≡ text y → x ≡ y
told_by text is x y t s u = sym (is x y t s (subst (λ z. same z (text y) ≡ true) (sym u) (same_itself (text y))))

same_variable : IsTold variable Any
same_variable x y t k l s a u b = told_by variable_word variable_is x y t.text s u

pub same_choice : (i : ℕ) (x y : Choice i) (t : List ℕ) → t ≡ choice_text i x → t ≡ choice_text i y → x ≡ y
same_choice zero x y t e f = told_by cond_word condition_is x y t e f
same_choice (suc zero) x y t e f = told_by series_word series_is x y t e f
same_choice (suc (suc zero)) x y t e f = told_by variable_word variable_is x y t e f
same_choice (suc (suc (suc zero))) x y t e f = told_by clone_word clone_is x y t e f
same_choice (suc (suc (suc (suc i)))) x y t e f = absurd x

-- ---- vectors

abbrev items_at : List Entry → Place → Items
items_at values place = record { values = values; place = place }

items_is : {v : Items} (values : List Entry) (place : Place) → values ≡ v.values → place ≡ v.place → items_at values place ≡ v
items_is {v} values place e f = ap (λ z. items_at z place) e ∙ ap (λ z. items_at v.values z) f

pub one_vector : IsDetermined vector IsShortVector Any [] []
one_vector v w [] us vs p q d e f g = absurd f
one_vector v w (t ∷ ts) us vs p q d e f g =
    let close = sign roles.Closes (codes "]") in
    let h = closed IsShortEntry entry close (codes "]") refl entry_apart same_entry us vs [] [] v.values w.values ts p q (apart (map entry v.values) (close ∷ []) us ts [] f.3) (apart (map entry w.values) (close ∷ []) vs ts [] g.3) in
    (sym (items_is {v = v} v.values (place_of t) refl (sym f.2)) ∙ items_is {v = w} v.values (place_of t) h.0 (sym g.2), h.1)

abbrev NoVector : List Wanted → Type 0
NoVector us = begins_with (codes "[") us ≡ false

no_more_vectors : NoMore vector IsShortVector NoVector [] []
no_more_vectors x [] us vs p e f g = absurd f
no_more_vectors x (t ∷ ts) us vs p e f g = opens_not (codes "[") t ts vs e g f.1

pub one_vectors : IsDetermined (flat_map vector) (λ (vs : List Items). AllByRecursion IsShortVector vs) NoVector [] []
one_vectors = many IsShortVector vector NoVector Any [] [] one_vector (λ xs us p e. tt) no_more_vectors no_more_vectors

-- ---- partitions

one_block : IsDetermined (part_block roles.More) IsShortBlock Any [] []
one_block b c ts us vs p q d e f g =
    closed IsShort (number roles.Inner) (sign roles.Bar (codes "|")) (codes "|") refl inner_apart (same_number roles.Inner) us vs [] [] b c ts p.1 q.1 (block_front roles.More b ts us f) (block_front roles.More c ts vs g)

flat : (bs : List (List Number)) (us : List Wanted) (ts : List Placed) → Front ts (part_blocks roles.Inner bs ++ us) [] → Front ts (flat_map (part_block roles.More) bs ++ us) []
flat bs us ts f = subst (λ z. Front ts (z ++ us) []) (blocks_flat bs) (blocks_front bs ts us f)

abbrev NoNumber : List Wanted → Type 0
NoNumber us = begins_number us ≡ false

no_more_blocks : NoMore (part_block roles.More) IsShortBlock NoNumber [] []
no_more_blocks x ts us vs p e f g = absurd (false≢true (sym (tail_number ts vs e g) ∙ block_number ts x us p f))

pub one_part : IsDetermined part (λ (p : PartText). AllByRecursion IsShortBlock p.blocks) NoNumber [] []
one_part p q [] us vs k l d e f g = absurd f
one_part p q (t ∷ ts) us vs k l d e f g =
    let blocks = many IsShortBlock (part_block roles.More) NoNumber Any [] [] one_block (λ xs us p e. tt) no_more_blocks no_more_blocks in
    let h = blocks p.blocks q.blocks ts us vs k l d e (flat p.blocks us ts f.3) (flat q.blocks vs ts g.3) in
    (sym (part_is {p = p} p.blocks (place_of t) refl (sym f.2)) ∙ part_is {p = q} p.blocks (place_of t) h.0 (sym g.2), h.1)

-- ---- names, modes and identities

pub one_names : IsDetermined (value_text parts.Names) (λ (ns : List Word). AllByRecursion IsNamed ns) Any [] []
one_names xs ys [] us vs p q d e f g = absurd f
one_names xs ys (t ∷ ts) us vs p q d e f g =
    let close = sign roles.Closes (codes ")") in
    let listed = closed IsNamed word close (codes ")") refl word_apart same_word us vs [] [] in
    listed xs ys ts p q (names_front ts xs (close ∷ us) [] (apart (names xs) (close ∷ []) us ts [] f.3)) (names_front ts ys (close ∷ vs) [] (apart (names ys) (close ∷ []) vs ts [] g.3))

pub one_mode : IsDetermined mode Any begins_item [] []
one_mode Plain Plain ts us vs p q b c f g = (refl, record { left = ts; first = f; second = g })
one_mode Plain n [] us vs p q b c f g = absurd g
one_mode m n [] us vs p q b c f g = absurd f
one_mode Plain Least (t ∷ ts) us vs p q b c f g = opens_not (codes "least") t ts us b.1 f g.1
one_mode Plain Count (t ∷ ts) us vs p q b c f g = opens_not (codes "count") t ts us b.2 f g.1
one_mode Least Plain (t ∷ ts) us vs p q b c f g = opens_not (codes "least") t ts vs c.1 g f.1
one_mode Count Plain (t ∷ ts) us vs p q b c f g = opens_not (codes "count") t ts vs c.2 g f.1
one_mode Least Count (t ∷ ts) us vs p q b c f g = clash (sign roles.Mode (codes "least")) t.text (codes "count") f.1 refl g.1
one_mode Count Least (t ∷ ts) us vs p q b c f g = clash (sign roles.Mode (codes "count")) t.text (codes "least") f.1 refl g.1
one_mode Least Least (t ∷ ts) us vs p q b c f g = (refl, record { left = ts; first = f.3; second = g.3 })
one_mode Count Count (t ∷ ts) us vs p q b c f g = (refl, record { left = ts; first = f.3; second = g.3 })

-- the value of an identity behind its equals sign
one_right : IsDetermined (λ (x : Variable). sign roles.Exact (codes "=") ∷ variable x ∷ []) Any Any [] []
one_right x y [] us vs p q d e f g = absurd f
one_right x y (t ∷ []) us vs p q d e f g = absurd f.3
one_right x y (t ∷ s ∷ ts) us vs p q d e f g = (same_variable x y s tt tt f.3.1 tt g.3.1 tt, record { left = ts; first = f.3.3; second = g.3.3 })

all_any : {X : Type 0} (xs : List X) → AllByRecursion (λ (x : X). Any x) xs
all_any [] = tt
all_any (x ∷ xs) = (tt, all_any xs)

one_identity : IsDetermined identity Any Any [] []
one_identity i j [] us vs p q d e f g = absurd f
one_identity i j (t ∷ ts) us vs p q d e f g =
    let right : IdentityText → List Wanted → List Wanted = λ i us. sign roles.Exact (codes "=") ∷ variable i.value ∷ us in
    let arguments = closed (λ (x : Variable). Any x) variable (sign roles.Closes (codes ")")) (codes ")") refl variable_apart same_variable (right i us) (right j vs) [] [] in
    let h = arguments i.args j.args ts (all_any i.args) (all_any j.args) (behind_then ts i us f.3) (behind_then ts j vs g.3) in
    let v = one_right i.value j.value h.1.left us vs tt tt tt tt h.1.first h.1.second in
    (sym (identity_is {i = i} i.args i.value (place_of t) refl refl (sym f.2)) ∙ identity_is {i = j} i.args i.value (place_of t) h.0 v.0 (sym g.2), v.1)

abbrev NoIdentity : List Wanted → Type 0
NoIdentity us = begins_with (codes "(") us ≡ false

no_more_identities : NoMore identity Any NoIdentity [] []
no_more_identities x [] us vs p e f g = absurd f
no_more_identities x (t ∷ ts) us vs p e f g = opens_not (codes "(") t ts vs e g f.1

pub one_identities : IsDetermined (flat_map identity) Any NoIdentity [] []
one_identities xs ys ts us vs p q d e f g =
    many (λ (x : IdentityText). Any x) identity NoIdentity Any [] [] one_identity (λ xs us p e. tt) no_more_identities no_more_identities xs ys ts us vs (all_any xs) (all_any ys) d e f g
