-- What holds of every row of the table, and of the commands that are made by it.
use Rattle.ua_operands.proofs.Vocabulary.{list_all, Place, is_name, Placed, IsAt, same}
use Rattle.ua_script.proofs.Vocabulary.{Word, Number, Items as Entries, Mode, Plain, Least, Count, Part, Provables, Row, lookup, either, Provable, Command, CommandForm, Values, form_row, word_of}
use Rattle.ua_script.proofs.Vocabulary.{parts_of, all_forms, question, asked, made, certified, found_form, finished, HasMode, MayAsk, script_forms, without_modes, commands as command_rows}
use Rattle.ua_script.proofs.Vocabulary.{provables as question_rows, IsKept, all_end}
use Rattle.std.proofs.Common.{◌≡◌, ℕ, Bool, true, false, ◌&&◌, ◌||◌, not, if◌then◌else◌, List, [], ◌∷◌, map, Option, Some, None, refl, sym, ap, ◌∙◌, subst, codes}
use Rattle.std.proofs.lemmas.Bool.{false≢true, and_parts}
use Rattle.ua_text.specs.declared.symbols.Part.TheVariants as parts
use Rattle.ua_text.specs.declared.symbols.Symbol.TheVariants.{Items}
use Rattle.ua_text.proofs.ReadBack.{place_of}
use Rattle.ua_text.proofs.WordLaws.{same-true}
use Rattle.ua_script.specs.declared.script.Provable.TheVariants as provables
use Rattle.ua_script.specs.declared.script.Command.TheVariants as commands
use Rattle.ua_script.specs.declared.forms.CommandForm.TheVariants as forms
use Rattle.ua_script.proofs.Parts.{all_stop, all_ok, all_simple}

-- each form is found by its word
pub found : (f : CommandForm) → found_form (word_of f) all_forms ≡ Some f
found forms.Close = refl
found f = refl

-- the forms of questions
abbrev pub is_question : CommandForm → Bool
is_question forms.Close = true
is_question forms.Member = true
is_question forms.Cond = true
is_question forms.Nu = true
is_question forms.Jonsson = true
is_question forms.Hm = true
is_question f = false

-- `make` keeps the place of its word
abbrev pub kept_place : CommandForm → Place → Option Place
kept_place forms.Make p = Some p
kept_place f p = None

pub is_kept : (f : CommandForm) (t : Placed) → IsAt (kept_place f (place_of t)) t
is_kept forms.Make t = refl
is_kept f t = tt

-- a command is made of what it was made of
abbrev pub Again : (f : CommandForm) → Place → Values (parts_of f) → Type 0
Again f p x = asked (made f p x) ≡ record { form = f; cert = false; place = kept_place f p; values = x }

pub again : (f : CommandForm) (p : Place) (x : Values (parts_of f)) → Again f p x
again forms.Close p x = refl
again f p x = refl

any_mode : (a : Word) (w : Number) (gens : List Entries) (m : Mode) → HasMode (provables.Close a w gens) m false
any_mode a w gens Plain = tt
any_mode a w gens Least = tt
any_mode a w gens Count = tt

pub may_ask : (f : CommandForm) (p : Place) (x : Values (parts_of f)) → MayAsk (made f p x)
may_ask forms.Close p x = any_mode x.0 x.1.0 x.1.1.0 x.1.1.1.0
may_ask f p x = tt

-- and so it is behind `cert`
abbrev pub Certified : (f : CommandForm) → Place → Values (parts_of f) → Type 0
Certified f p x = asked (certified (made f p x)) ≡ record { form = f; cert = true; place = None; values = x }

pub again_certified : (f : CommandForm) → is_question f ≡ true → (p : Place) (x : Values (parts_of f)) → Certified f p x
again_certified forms.Close q p x = refl
again_certified forms.Member q p x = refl
again_certified forms.Cond q p x = refl
again_certified forms.Nu q p x = refl
again_certified forms.Jonsson q p x = refl
again_certified forms.Hm q p x = refl
again_certified f q p x = absurd (false≢true q)

-- no other answer is asked for
abbrev pub ArePlain : (ps : List Part) → Values ps → Type 0
ArePlain [] x = Unit {0}
ArePlain (parts.Modes ∷ ps) x = (x.0 ≡ Plain) × ArePlain ps x.1
ArePlain (p ∷ ps) x = ArePlain ps x.1

pub may_certify : (f : CommandForm) → is_question f ≡ true → (p : Place) (x : Values (parts_of f)) → ArePlain (parts_of f) x → MayAsk (certified (made f p x))
may_certify forms.Close q p x h = subst (λ m. HasMode (provables.Close x.0 x.1.0 x.1.1.0) m true) (sym h.0) tt
may_certify forms.Member q p x h = tt
may_certify forms.Cond q p x h = tt
may_certify forms.Nu q p x h = tt
may_certify forms.Jonsson q p x h = tt
may_certify forms.Hm q p x h = tt
may_certify f q p x h = absurd (false≢true q)

-- the other way round: a command is made again of its form and its operands
pub question_is : (what : Provable) (m : Mode) → is_question (question what m).0 ≡ true
question_is (provables.Close a w gens) m = refl
question_is what m = refl

pub questions_plain : (what : Provable) (m : Mode) → HasMode what m true → ArePlain (parts_of (question what m).0) (question what m).1
questions_plain (provables.Close a w gens) Plain h = (refl, tt)
questions_plain what Plain h = tt
questions_plain what m h = absurd h

remade_question : (what : Provable) (m : Mode) (cert : Bool) (p : Place) → HasMode what m cert → finished cert (made (question what m).0 p (question what m).1) ≡ commands.Ask what m cert
remade_question (provables.Close a w gens) m false p h = refl
remade_question (provables.Close a w gens) Plain true p h = refl
remade_question what Plain false p h = refl
remade_question what Plain true p h = refl
remade_question what m cert p h = absurd h

pub remade : (c : Command) → MayAsk c → (p : Place) → IsKept (asked c).place p → finished (asked c).cert (made (asked c).form p (asked c).values) ≡ c
remade (commands.Ask what m cert) h p e = remade_question what m cert p h
remade (commands.Make place name what) h p e = ap (λ z. commands.Make z name what) (sym e)
remade c h p e = refl

-- behind `cert` stands a question that asks for no other answer
pub certifiable : (c : Command) → MayAsk c → (asked c).cert ≡ true → (is_question (asked c).form ≡ true) × ArePlain (parts_of (asked c).form) (asked c).values
certifiable (commands.Ask what m cert) h e = (question_is what m, questions_plain what m (subst (λ z. HasMode what m z) e h))
certifiable c h e = absurd (false≢true e)

-- What a test says of all forms it says of each.

at_found : (u : CommandForm → Bool) (t : List ℕ) (f g : CommandForm) (fs : List CommandForm) (b : Bool) → (found_form t fs ≡ Some f → u f ≡ true) → u g ≡ true → (if b then Some g else found_form t fs) ≡ Some f → u f ≡ true
at_found u t f g fs true r h e = let q : g ≡ f = cc in subst (λ z. u z ≡ true) q h
at_found u t f g fs false r h e = r e

test_found : (u : CommandForm → Bool) (t : List ℕ) (f : CommandForm) (fs : List CommandForm) → list_all u fs ≡ true → found_form t fs ≡ Some f → u f ≡ true
test_found u t f [] h e = cc
test_found u t f (g ∷ fs) h e = let q = and_parts (u g) (list_all u fs) h in at_found u t f g fs (same t (word_of g)) (test_found u t f fs q.1) q.0 e

pub each_form : (u : CommandForm → Bool) → list_all u all_forms ≡ true → (f : CommandForm) → u f ≡ true
each_form u h f = test_found u (word_of f) f all_forms h (found f)

pub named : (f : CommandForm) → is_name (word_of f) ≡ true
named f = each_form (λ f. is_name (word_of f)) refl f

pub no_cert : (f : CommandForm) → not (same (word_of f) (codes "cert")) ≡ true
no_cert f = each_form (λ f. not (same (word_of f) (codes "cert"))) refl f

pub end : (f : CommandForm) → all_end (parts_of f) ≡ true
end f = each_form (λ f. all_end (parts_of f)) refl f

pub ok : (f : CommandForm) → all_ok (parts_of f) ≡ true
ok f = each_form (λ f. all_ok (parts_of f)) refl f

pub stop : (f : CommandForm) → all_stop script_forms (parts_of f) (Items ∷ []) ≡ true
stop f = each_form (λ f. all_stop script_forms (parts_of f) (Items ∷ [])) refl f

-- behind `cert`
abbrev question_stops : CommandForm → Bool
question_stops f = not (is_question f) || (all_simple (without_modes (parts_of f)) && all_stop script_forms (without_modes (parts_of f)) (Items ∷ []))

or_right_of : (a b : Bool) → a ≡ true → (not a || b) ≡ true → b ≡ true
or_right_of true b e h = h
or_right_of false b e h = absurd (false≢true e)

pub question_stop : (f : CommandForm) → is_question f ≡ true → (all_simple (without_modes (parts_of f)) && all_stop script_forms (without_modes (parts_of f)) (Items ∷ [])) ≡ true
question_stop f q = or_right_of (is_question f) (all_simple (without_modes (parts_of f)) && all_stop script_forms (without_modes (parts_of f)) (Items ∷ [])) q (each_form question_stops refl f)

pub question_simple : (f : CommandForm) → is_question f ≡ true → all_simple (without_modes (parts_of f)) ≡ true
question_simple f q = (and_parts (all_simple (without_modes (parts_of f))) (all_stop script_forms (without_modes (parts_of f)) (Items ∷ [])) (question_stop f q)).0

abbrev pub any_form : CommandForm → Bool
any_form f = true

-- A word looks up the row of its form.

looked_up : (t : List ℕ) (f g : CommandForm) (fs : List CommandForm) (b : Bool)
    → (found_form t fs ≡ Some f → lookup t (map form_row fs) ≡ Some (parts_of f)) → (if b then Some g else found_form t fs) ≡ Some f
    → either b (Some (parts_of g)) (lookup t (map form_row fs)) ≡ Some (parts_of f)
looked_up t f g fs true r e = let q : g ≡ f = cc in ap (λ z. Some (parts_of z)) q
looked_up t f g fs false r e = r e

look_up : (t : List ℕ) (f : CommandForm) (fs : List CommandForm) → found_form t fs ≡ Some f → lookup t (map form_row fs) ≡ Some (parts_of f)
look_up t f [] e = cc
look_up t f (g ∷ fs) e = looked_up t f g fs (same t (word_of g)) (look_up t f fs) e

past : (b c : Bool) (x y z : Option (List Part)) → not b ≡ true → not c ≡ true → either b x (either c y z) ≡ z
past false false x y z e f = refl
past true c x y z e f = absurd (false≢true e)
past false true x y z e f = absurd (false≢true f)

pub found_row : (f : CommandForm) → lookup (word_of f) command_rows ≡ Some (parts_of f)
found_row f =
    past (same (word_of f) (codes "algebra")) (same (word_of f) (codes "cert")) (Some (parts.Body ∷ [])) (Some (parts.Pick Provables ∷ []))
    (lookup (word_of f) (map form_row all_forms)) (each_form (λ f. not (same (word_of f) (codes "algebra"))) refl f) (no_cert f)
    ∙ look_up (word_of f) f all_forms (found f)

pub found_question : (f : CommandForm) → is_question f ≡ true → lookup (word_of f) question_rows ≡ Some (without_modes (parts_of f))
found_question forms.Close q = refl
found_question forms.Member q = refl
found_question forms.Cond q = refl
found_question forms.Nu q = refl
found_question forms.Jonsson q = refl
found_question forms.Hm q = refl
found_question f q = absurd (false≢true q)

-- and a row that is found is that of a form
pub record RowOf (row : CommandForm → Row) (u : CommandForm → Bool) (t : List ℕ) (ps : List Part) : Type 0 where
  pub form : CommandForm
  pub good : u form ≡ true
  pub word : t ≡ (row form).word
  pub parts : ps ≡ (row form).parts

pub row_of : (row : CommandForm → Row) (u : CommandForm → Bool) (t : List ℕ) (ps : List Part) (fs : List CommandForm) → list_all u fs ≡ true → lookup t (map row fs) ≡ Some ps → RowOf row u t ps
row_of row u t ps [] h e = cc
row_of row u t ps (f ∷ fs) h e = let q = and_parts (u f) (list_all u fs) h in at (same t (row f).word) refl q.0 (row_of row u t ps fs q.1) e
  where
    at : (b : Bool) → same t (row f).word ≡ b → u f ≡ true → (lookup t (map row fs) ≡ Some ps → RowOf row u t ps) → either b (Some (row f).parts) (lookup t (map row fs)) ≡ Some ps → RowOf row u t ps
    at true e g r h = let q : ps ≡ (row f).parts = cc in record { form = f; good = g; word = same-true t (row f).word e; parts = q }
    at false e g r h = r h
