-- Commands with and without a certificate.
use Rattle.ua_operands.proofs.Vocabulary.{Role, Place, Placed, Wanted, sign, IsAt, Front, Miss, Gives, begins_with, begins_item}
use Rattle.ua_script.proofs.Vocabulary.{Command, CommandForm, values_text, word_of, parts_of, asked, certified, finished, first_word, heading, command, MayAsk, IsReadableItem, Beginning, IsMade}
use Rattle.ua_script.proofs.Vocabulary.{IsKept}
use Rattle.std.proofs.Common.{◌≡◌, ℕ, Bool, true, false, List, [], ◌∷◌, ◌++◌, Option, None, Some, Result, Ok, Err, codes, refl, sym, ◌∙◌, subst}
use Rattle.std.proofs.lemmas.Bool.{not-true}
use Rattle.ua_text.specs.declared.symbols.Role.TheVariants as roles
use Rattle.ua_text.proofs.ReadBack.{place_of}
use Rattle.ua_text.proofs.SpelledLaws.{spelled_right}
use Rattle.ua_script.specs.declared.script.Item.TheVariants as items
use Rattle.ua_script.proofs.Table.{remade, no_cert}
use Rattle.ua_script.proofs.Shortness.{all_short}

-- the operands of a command, and its first word
abbrev pub operands : Command → List Wanted
operands c = values_text (parts_of (asked c).form) (asked c).values

abbrev pub word_at : Role → Command → Wanted
word_at role c = first_word role (word_of (asked c).form) (asked c).place

by_heading : {G : Type 0} (f : CommandForm) (cert : Bool) (place : Option Place) (us ws : List Wanted) (ts : List Placed) → Front ts ((heading cert (word_of f) place ++ us) ++ ws) []
    → (cert ≡ true → Front ts (sign roles.Begins (codes "cert") ∷ first_word roles.Form (word_of f) place ∷ (us ++ ws)) [] → G) → (cert ≡ false → Front ts (first_word roles.Begins (word_of f) place ∷ (us ++ ws)) [] → G) → G
by_heading f true place us ws ts h question other = question refl h
by_heading f false place us ws ts h question other = other refl h

-- what holds where a command stands, if it holds of a question behind `cert` and of any other command
pub by_certificate : {G : Type 0} (ts : List Placed) (ws : List Wanted) (c : Command) → Front ts (command c ++ ws) []
    → ((asked c).cert ≡ true → Front ts (sign roles.Begins (codes "cert") ∷ word_at roles.Form c ∷ (operands c ++ ws)) [] → G) → ((asked c).cert ≡ false → Front ts (word_at roles.Begins c ∷ (operands c ++ ws)) [] → G) → G
by_certificate ts ws c h question other = let a = asked c in by_heading a.form a.cert a.place (operands c) ws ts h question other

pub beginning : {v : ℕ} (role : Role) (ts : List Placed) (ws : List Wanted) (c : Command) → IsReadableItem v (items.Command c) → begins_item ws
    → Front ts (word_at role c ∷ (operands c ++ ws)) [] → Beginning (asked c).form (asked c).values (word_at role c) ts ws
beginning {v} role ts ws c r b h = let a = asked c in record { named = refl; short = all_short v (parts_of a.form) a.values r.formed.1 (spelled_right (heading a.cert (word_of a.form) a.place) (operands c) r.spelled); begins = b; front = h }

-- no word of a form is `cert`
pub no_certificate : (c : Command) (ws : List Wanted) → begins_with (codes "cert") (word_at roles.Begins c ∷ ws) ≡ false
no_certificate c ws = not-true _ (no_cert (asked c).form)

pub kept_at : (place : Option Place) (t : Placed) (p : Place) → p ≡ place_of t → IsAt place t → IsKept place p
kept_at None t p e h = tt
kept_at (Some q) t p e h = h ∙ sym e

-- a command is what is made of its form and its operands
pub made_is : (c d : Command) → MayAsk c → IsMade (asked c).form (asked c).values (asked c).place d → finished (asked c).cert d ≡ c
made_is c d h m = subst (λ z. finished (asked c).cert z ≡ c) (sym m.is) (remade c h m.at m.kept)

pub certified_is : (c d : Command) → MayAsk c → (asked c).cert ≡ true → IsMade (asked c).form (asked c).values (asked c).place d → certified d ≡ c
certified_is c d h e m = subst (λ z. finished z d ≡ c) e (made_is c d h m)

pub plain_is : (c d : Command) → MayAsk c → (asked c).cert ≡ false → IsMade (asked c).form (asked c).values (asked c).place d → d ≡ c
plain_is c d h e m = subst (λ z. finished z d ≡ c) e (made_is c d h m)

pub gives_plain : (c : Command) → MayAsk c → (asked c).cert ≡ false → (ts : List Placed) (ws : List Wanted) (r : Result Command Miss)
    → Gives r (λ d. IsMade (asked c).form (asked c).values (asked c).place d × Front ts ws []) → Gives r (λ d. (d ≡ c) × Front ts ws [])
gives_plain c h e ts ws (Ok d) g = (plain_is c d h e g.0, g.1)
gives_plain c h e ts ws (Err m) g = g
