-- The first token of an item.
use Rattle.ua_operands.proofs.Vocabulary.{flat_map, list_all, is_number, Placed, same, Wanted, sign, Front, IsReadableBlock, begins_with, begins_item, begins_number}
use Rattle.ua_script.proofs.Vocabulary.{Block, body, Command, Item, values_text, word_of, parts_of, all_forms, Asked, asked, heading, asked_text, command, item, IsReadableItem}
use Rattle.std.proofs.Common.{◌≡◌, ℕ, Bool, true, false, not, List, [], ◌∷◌, ◌++◌, length, codes, refl, sym, subst, append_assoc, arith}
use Rattle.std.proofs.lemmas.Bool.{not-true}
use Rattle.ua_text.specs.declared.symbols.Role.TheVariants as roles
use Rattle.ua_text.proofs.Readable.{readable}
use Rattle.ua_operands.proofs.ReadLaws.{Kind}
use Rattle.ua_script.specs.declared.script.Item.TheVariants as items
use Rattle.ua_script.proofs.Table.{each_form}

-- what holds of a command that is asked for, if it does with a certificate and without
by_heading : (G : List Wanted → Type 0) (a : Asked) (ws : List Wanted) → ((us : List Wanted) → G (heading true (word_of a.form) a.place ++ us)) → ((us : List Wanted) → G (heading false (word_of a.form) a.place ++ us))
    → G (asked_text a ++ ws)
by_heading G a ws certified plain = at a.cert
  where
    at : (cert : Bool) → G ((heading cert (word_of a.form) a.place ++ values_text (parts_of a.form) a.values) ++ ws)
    at true = certified (values_text (parts_of a.form) a.values ++ ws)
    at false = plain (values_text (parts_of a.form) a.values ++ ws)

-- it does not begin with a text that is neither `cert` nor the word of a form
pub begins_not : (mark : List ℕ) → list_all (λ f. not (same (word_of f) mark)) all_forms ≡ true → same (codes "cert") mark ≡ false → (a : Asked) (ws : List Wanted) → begins_with mark (asked_text a ++ ws) ≡ false
begins_not mark others cert a ws = by_heading (λ z. begins_with mark z ≡ false) a ws (λ us. cert) (λ us. not-true _ (each_form (λ f. not (same (word_of f) mark)) others a.form))

no_number : (a : Asked) (ws : List Wanted) → begins_number (asked_text a ++ ws) ≡ false
no_number a ws = by_heading (λ z. begins_number z ≡ false) a ws (λ us. refl) (λ us. not-true _ (each_form (λ f. not (is_number (word_of f))) refl a.form))

-- a command begins with neither a vector, nor a mode, nor a number, nor a parenthesis
pub asked_begins : (a : Asked) (ws : List Wanted) → begins_item (asked_text a ++ ws)
asked_begins a ws = (begins_not (codes "[") refl refl a ws, begins_not (codes "least") refl refl a ws, begins_not (codes "count") refl refl a ws, no_number a ws, begins_not (codes "(") refl refl a ws)

-- a command is no block
pub no_block : (a : Asked) (ws : List Wanted) → begins_with (codes "algebra") (asked_text a ++ ws) ≡ false
no_block a ws = begins_not (codes "algebra") refl refl a ws

pub asked_some : (a : Asked) (ws : List Wanted) → Front [] (asked_text a ++ ws) [] → ⊥
asked_some a ws f = by_heading (λ z. Front [] z [] → ⊥) a ws (λ us h. h) (λ us h. h) f

-- what begins an item may stand behind a command
item_begins : (i : Item) (ws : List Wanted) → begins_item (item i ++ ws)
item_begins (items.Block a) ws = (refl, refl, refl, refl, refl)
item_begins (items.Command c) ws = asked_begins (asked c) ws

pub items_begin : (is : List Item) → begins_item (flat_map item is ++ [])
items_begin [] = (refl, refl, refl, refl, refl)
items_begin (i ∷ is) = subst (λ z. begins_item z) (sym (append_assoc (item i) (flat_map item is) [])) (item_begins i (flat_map item is ++ []))

pub item_some : (i : Item) (ts : List Placed) (ws : List Wanted) → length ts ≡ 0 → Front ts (item i ++ ws) [] → ⊥
item_some (items.Block a) [] ws l f = f
item_some (items.Command c) [] ws l f = asked_some (asked c) ws f
item_some i (t ∷ ts) ws l f = absurd (omega arith)

-- the items of a script, up to its end
abbrev pub item_kind : ℕ → Kind Item
item_kind v = record { Good = IsReadableItem v; one = item; all = flat_map item; Ends = λ ws. ws ≡ []; more = λ i is. refl; none = refl }

-- what holds of an item that stands there, if it holds of a block and of a command
pub by_item : {v : ℕ} (G : Item → Type 0) (ts : List Placed) (ws : List Wanted) (i : Item) → IsReadableItem v i → Front ts (item i ++ ws) []
    → ((a : Block) → IsReadableBlock v a → Front ts (sign roles.Begins (codes "algebra") ∷ (body a ++ ws)) [] → G (items.Block a))
    → ((c : Command) → IsReadableItem v (items.Command c) → Front ts (command c ++ ws) [] → G (items.Command c))
    → G i
by_item {v} G ts ws (items.Block a) r f block_form command_form = let few = r.few in block_form a (readable v a r.formed r.spelled.1 (omega arith)) f
by_item {v} G ts ws (items.Command c) r f block_form command_form = command_form c r f

-- an item does not begin with the word of the version
pub no_version : (is : List Item) → begins_with (codes "version") (flat_map item is) ≡ false
no_version [] = refl
no_version (items.Block a ∷ is) = refl
no_version (items.Command c ∷ is) = begins_not (codes "version") refl refl (asked c) (flat_map item is)
