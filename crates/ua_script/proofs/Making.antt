-- The form whose word was read, and the command that is made of what stands behind it.
use Rattle.ua_operands.proofs.Vocabulary.{Place, Miss, Placed, Spelled, Wanted, IsSign, IsAt, Front, Gives, begins_item}
use Rattle.ua_script.proofs.Vocabulary.{Command, CommandForm, Values, values_text, word_of, parts_of, all_forms, made, found_form, AreShort, Standing, IsMade}
use Rattle.std.proofs.Common.{◌≡◌, ℕ, List, [], ◌++◌, Option, None, Some, Result, Ok, Err, sym, ap, ◌∙◌, subst}
use Rattle.ua_text.proofs.ReadBack.{place_of}
use Rattle.ua_script.proofs.Table.{found, end}
use Rattle.ua_script.proofs.Certificates.{kept_at}

its_form : (f : CommandForm) (w : Wanted) (text : List ℕ) (r : Option CommandForm) → w.sign ≡ Spelled (word_of f) → IsSign w.sign text → r ≡ found_form text all_forms → r ≡ Some f
its_form f w text r n s e =
    let t : text ≡ word_of f = subst (λ z. IsSign z text) n s in
    e ∙ ap (λ z. found_form z all_forms) t ∙ found f

pub word_found : (f : CommandForm) (w : Wanted) (text : List ℕ) (g : CommandForm) (r : Option CommandForm) → w.sign ≡ Spelled (word_of f) → IsSign w.sign text → r ≡ found_form text all_forms → r ≡ Some g → g ≡ f
word_found f w text g r n s e h = let q : Some g ≡ Some f = sym h ∙ its_form f w text r n s e in cc

pub none_found : {Q : Type 0} (f : CommandForm) (w : Wanted) (text : List ℕ) (r : Option CommandForm) → w.sign ≡ Spelled (word_of f) → IsSign w.sign text → r ≡ found_form text all_forms → r ≡ None → Q
none_found f w text r n s e h = let q : None ≡ Some f = sym h ∙ its_form f w text r n s e in let no : ⊥ = cc in absurd no

made_at : (f : CommandForm) (x : Values (parts_of f)) (w : Wanted) (p : Place) (t : Placed) (ws : List Wanted) (old new : List Placed)
    (r : Result Command Miss)
    → p ≡ place_of t → IsAt w.place t → AreShort (parts_of f) x → begins_item ws → Front old (values_text (parts_of f) x ++ ws) []
    → ((x : Values (parts_of f)) (ws : List Wanted) → Standing (parts_of f) x old ws → Gives r (λ c. (c ≡ made f p x) × Front new ws [])) → Gives r (λ c. IsMade f x w.place c × Front new ws [])
made_at f x w p t ws old new r e a s b h only = of r (only x ws (record { short = s; end = end f; begins = b; front = h }))
  where
    of : (r : Result Command Miss) → Gives r (λ c. (c ≡ made f p x) × Front new ws []) → Gives r (λ c. IsMade f x w.place c × Front new ws [])
    of (Ok c) g = (record { at = p; kept = kept_at w.place t p e a; is = g.0 }, g.1)
    of (Err m) g = g

pub made_behind : (f g : CommandForm) (x : Values (parts_of f)) (w : Wanted) (p : Place) (t : Placed) (ws : List Wanted) (old new : List Placed)
    (r : Result Command Miss)
    → g ≡ f → p ≡ place_of t → IsAt w.place t → AreShort (parts_of f) x → begins_item ws → Front old (values_text (parts_of f) x ++ ws) []
    → ((x : Values (parts_of g)) (ws : List Wanted) → Standing (parts_of g) x old ws → Gives r (λ c. (c ≡ made g p x) × Front new ws [])) → Gives r (λ c. IsMade f x w.place c × Front new ws [])
made_behind f g x w p t ws old new r q e a s b h only =
    made_at f x w p t ws old new r e a s b h
    (subst (λ z. (x : Values (parts_of z)) (ws : List Wanted) → Standing (parts_of z) x old ws → Gives r (λ c. (c ≡ made z p x) × Front new ws [])) q
    only)
