-- An array of a value has fewer items than the text of the value has bytes.
use Rattle.std.proofs.Common.{◌≡◌, ℕ, suc, ◌+◌, ◌-◌, ◌<◌, ◌≤◌, max, Bool, true, false, Option, Some, None, List, [], ◌∷◌, ◌++◌, length, Ordering, Less, Equal, Greater, refl, sym, subst, ap, ◌∙◌, arith, length-append, append-nil}
use Rattle.std.specs.Prelude.{⊤, option_map, option_and_then}
use Rattle.std.specs.Ordering.{nat_cmp, match_ordering}
use Rattle.std.specs.Cmp.Lexicographic.{slice_cmp}
use Rattle.json.specs.Token.{Token, begin_object, end_object, begin_array, end_array, key, string, number, boolean, null, bad}
use Rattle.json.specs.Lex.{Lexeme, token, comma, colon, Class, quote, backslash, operator, space, other, Mode, between, in_word, in_string, in_escape, class, lex_byte, lex, Place}
use Rattle.json.specs.Lex.{fresh, after_value, after_comma, after_key, begins_colon, may_begin, may_close, if_allowed, place_token, punctuate, tokens}
use Rattle.json.specs.Json as json
use Rattle.json.specs.Json.{value}
use Rattle.json.specs.Tree.{json_tokens, items_tokens, members_tokens}
use Rattle.json.proofs.Unique.Spelling.{value-json_tokens_back}
use Rattle.serde_json.specs.Data as datum
use Rattle.serde_json.specs.Data.{Data, Items, no_items, item, Members, no_members, member, put}
use Rattle.serde_json.specs.Read.{number_of as number_read, of_json, of_items, of_members, max_depth, read as read_text}

-- ---- a text has at most one token more than bytes

byte_few : (m : Mode) (c : Class) (x : ℕ) (xs : List ℕ) (k : Mode → List Lexeme) (n : ℕ) → ((next : Mode) → length (k next) ≤ n) → length (lex_byte m c x xs k) ≤ suc n
byte_few between quote x xs k n h = omega (arith, h in_string)
byte_few between backslash x xs k n h = omega (arith, h in_word)
byte_few between operator x xs k n h = omega (arith, h between)
byte_few between space x xs k n h = omega (arith, h between)
byte_few between other x xs k n h = omega (arith, h in_word)
byte_few in_word quote x xs k n h = omega (arith, h in_word)
byte_few in_word backslash x xs k n h = omega (arith, h in_word)
byte_few in_word operator x xs k n h = omega (arith, h between)
byte_few in_word space x xs k n h = omega (arith, h between)
byte_few in_word other x xs k n h = omega (arith, h in_word)
byte_few in_string quote x xs k n h = omega (arith, h between)
byte_few in_string backslash x xs k n h = omega (arith, h in_escape)
byte_few in_string operator x xs k n h = omega (arith, h in_string)
byte_few in_string space x xs k n h = omega (arith, h in_string)
byte_few in_string other x xs k n h = omega (arith, h in_string)
byte_few in_escape c x xs k n h = omega (arith, h in_string)

lexemes_few : (m : Mode) (xs : List ℕ) → length (lex m xs) ≤ length xs
unfolding lex
lexemes_few m [] = omega arith
lexemes_few m (x ∷ xs) = omega (arith, byte_few m (class x) x xs (λ next. lex next xs) (length xs) (λ next. lexemes_few next xs))

allowed_few : (b : Bool) (t : Token) (k : Place → List Token) (next : Place) (n : ℕ) → ((p : Place) → length (k p) ≤ n) → length (if_allowed b t k next) ≤ suc n
allowed_few true t k next n h = omega (arith, h next)
allowed_few false t k next n h = omega arith

placed_few : (p : Place) (t : Token) (before : Bool) (k : Place → List Token) (n : ℕ) → ((q : Place) → length (k q) ≤ n) → length (place_token p t before k) ≤ suc n
placed_few p begin_object before k n h = allowed_few (may_begin p) begin_object k fresh n h
placed_few p end_object before k n h = allowed_few (may_close p) end_object k after_value n h
placed_few p begin_array before k n h = allowed_few (may_begin p) begin_array k fresh n h
placed_few p end_array before k n h = allowed_few (may_close p) end_array k after_value n h
placed_few p (key s) before k n h = omega arith
placed_few p (string s) true k n h = allowed_few (may_begin p) (key s) k after_key n h
placed_few p (string s) false k n h = allowed_few (may_begin p) (string s) k after_value n h
placed_few p (number s) before k n h = allowed_few (may_begin p) (number s) k after_value n h
placed_few p (boolean b) before k n h = allowed_few (may_begin p) (boolean b) k after_value n h
placed_few p null before k n h = allowed_few (may_begin p) null k after_value n h
placed_few p bad before k n h = omega arith

punctuated_few : (p : Place) (ls : List Lexeme) → length (punctuate p ls) ≤ length ls + 1
unfolding punctuate
punctuated_few fresh [] = omega arith
punctuated_few after_value [] = omega arith
punctuated_few after_comma [] = omega arith
punctuated_few after_key [] = omega arith
punctuated_few fresh (token t ∷ ls) = omega (arith, placed_few fresh t (begins_colon ls) (λ next. punctuate next ls) (length ls + 1) (λ q. punctuated_few q ls))
punctuated_few after_value (token t ∷ ls) = omega (arith, placed_few after_value t (begins_colon ls) (λ next. punctuate next ls) (length ls + 1) (λ q. punctuated_few q ls))
punctuated_few after_comma (token t ∷ ls) = omega (arith, placed_few after_comma t (begins_colon ls) (λ next. punctuate next ls) (length ls + 1) (λ q. punctuated_few q ls))
punctuated_few after_key (token t ∷ ls) = omega (arith, placed_few after_key t (begins_colon ls) (λ next. punctuate next ls) (length ls + 1) (λ q. punctuated_few q ls))
punctuated_few fresh (comma ∷ ls) = omega arith
punctuated_few after_value (comma ∷ ls) = omega (arith, punctuated_few after_comma ls)
punctuated_few after_comma (comma ∷ ls) = omega arith
punctuated_few after_key (comma ∷ ls) = omega arith
punctuated_few fresh (colon ∷ ls) = omega arith
punctuated_few after_value (colon ∷ ls) = omega arith
punctuated_few after_comma (colon ∷ ls) = omega arith
punctuated_few after_key (colon ∷ ls) = omega (arith, punctuated_few fresh ls)

tokens_few : (text : List ℕ) → length (tokens text) ≤ length text + 1
tokens_few text = omega (arith, punctuated_few fresh (lex between text), lexemes_few between text)

-- ---- the longest array of a value

abbrev pub count : Items → ℕ
count no_items = 0
count (item d ds) = suc (count ds)

abbrev mutual
  pub longest : Data → ℕ
  longest datum.null = 0
  longest (datum.boolean b) = 0
  longest (datum.number n) = 0
  longest (datum.string s) = 0
  longest (datum.array ds) = max (count ds) (items_longest ds)
  longest (datum.object ms) = members_longest ms

  pub items_longest : Items → ℕ
  items_longest no_items = 0
  items_longest (item d ds) = max (longest d) (items_longest ds)

  pub members_longest : Members → ℕ
  members_longest no_members = 0
  members_longest (member k d ms) = max (longest d) (members_longest ms)

chosen_longest : (o : Ordering) (a b c : Members) (n : ℕ) → members_longest a ≤ n → members_longest b ≤ n → members_longest c ≤ n → members_longest (match_ordering o a b c) ≤ n
chosen_longest Less a b c n p q r = p
chosen_longest Equal a b c n p q r = q
chosen_longest Greater a b c n p q r = r

put_longest : (k : List ℕ) (d : Data) (ms : Members) (n : ℕ) → longest d ≤ n → members_longest ms ≤ n → members_longest (put k d ms) ≤ n
put_longest k d no_members n p q = omega (arith, p)
put_longest k d (member l e ms) n p q =
    chosen_longest (slice_cmp nat_cmp k l) (member k d (member l e ms)) (member l d ms) (member l e (put k d ms)) n (omega (arith, p, q)) (omega (arith, p, q)) (omega (arith, q, put_longest k d ms n p (omega (arith, q))))

-- ---- an array has fewer items than it has tokens

abbrev pub AtMost : {A : Type 0} → (A → ℕ) → ℕ → Option A → Type 0
AtMost f n None = ⊤
AtMost f n (Some a) = f a ≤ n

most_mapped : {A B : Type 0} (f : A → ℕ) (g : B → ℕ) (m n : ℕ) (h : A → B) → ((a : A) → f a ≤ m → g (h a) ≤ n) → (o : Option A) → AtMost f m o → AtMost g n (option_map h o)
most_mapped f g m n h k None x = tt
most_mapped f g m n h k (Some a) x = k a x

most_then : {A B : Type 0} (f : A → ℕ) (g : B → ℕ) (m n : ℕ) (h : A → Option B) → ((a : A) → f a ≤ m → AtMost g n (h a)) → (o : Option A) → AtMost f m o → AtMost g n (option_and_then h o)
most_then f g m n h k None x = tt
most_then f g m n h k (Some a) x = k a x

flat : {A : Type 0} (o : Option A) → AtMost (λ _. 0) 0 o
flat None = tt
flat (Some a) = omega arith

some_tokens : (j : json.Json) → 1 ≤ length (json_tokens j)
some_tokens json.null = omega arith
some_tokens (json.boolean b) = omega arith
some_tokens (json.number s) = omega arith
some_tokens (json.string s) = omega arith
some_tokens (json.array js) = omega arith
some_tokens (json.object ms) = omega arith

some_item_tokens : (js : json.Items) → 1 ≤ length (items_tokens js)
some_item_tokens json.no_items = omega arith
some_item_tokens (json.item j js) = omega (arith, some_tokens j, length-append (json_tokens j) (items_tokens js))

-- how many items, or those of the longest among them
abbrev size : Items → ℕ
size ds = max (count ds) (items_longest ds)

mutual
  longest_json : (j : json.Json) → AtMost longest (length (json_tokens j) - 2) (of_json j)
  longest_json json.null = omega arith
  longest_json (json.boolean b) = omega arith
  longest_json (json.number s) = most_mapped (λ _. 0) longest 0 _ datum.number (λ a x. omega arith) (number_read s) (flat (number_read s))
  longest_json (json.string s) = omega arith
  longest_json (json.array js) = most_mapped size longest (length (items_tokens js) - 1) _ datum.array (λ ds x. omega (arith, x, some_item_tokens js)) (of_items js) (longest_items js)
  longest_json (json.object ms) =
      most_mapped members_longest longest (length (members_tokens ms) - 1) _ datum.object (λ ds x. omega (arith, x)) (of_members ms no_members)
      (longest_members ms no_members (length (members_tokens ms) - 1) (omega arith) (omega arith))

  longest_items : (js : json.Items) → AtMost size (length (items_tokens js) - 1) (of_items js)
  longest_items json.no_items = omega arith
  longest_items (json.item j js) =
      most_then longest size (length (json_tokens j) - 2) _ (λ d. option_map (item d) (of_items js))
      (λ d x. most_mapped size size (length (items_tokens js) - 1) _ (item d) (λ ds y. omega (arith, x, y, some_tokens j, some_item_tokens js, length-append (json_tokens j) (items_tokens js))) (of_items js) (longest_items js))
      (of_json j) (longest_json j)

  longest_members : (ms : json.Members) (found : Members) (n : ℕ) → length (members_tokens ms) - 1 ≤ n → members_longest found ≤ n → AtMost members_longest n (of_members ms found)
  longest_members json.no_members found n h k = k
  longest_members (json.member name j ms) found n h k =
      let all = length-append (json_tokens j) (members_tokens ms) in
      most_then longest members_longest (length (json_tokens j) - 2) n (λ d. of_members ms (put name d found))
      (λ d x. longest_members ms (put name d found) n (omega (arith, h, all)) (put_longest name d found n (omega (arith, x, h, all)) k))
      (of_json j) (longest_json j)

most_some : {A : Type 0} (f : A → ℕ) (n : ℕ) (o : Option A) (a : A) → o ≡ Some a → AtMost f n o → f a ≤ n
most_some f n o a e h = subst (AtMost f n) e h

longest_last : (o : Option (json.Json × List Token)) (ts : List Token) (d : Data)
    → ((j : json.Json) (r : List Token) → o ≡ Some (j, r) → ts ≡ json_tokens j ++ r)
    → option_and_then of_json (option_and_then (λ p. json.if_last p.0 p.1) o) ≡ Some d → (longest d ≤ length ts - 2) × (1 ≤ length ts)
longest_last None ts d h e = cc
longest_last (Some (j, [])) ts d h e =
    let same : length ts ≡ length (json_tokens j) = ap length (h j [] refl ∙ append-nil (json_tokens j)) in
    (omega (arith, same, most_some longest (length (json_tokens j) - 2) (of_json j) d e (longest_json j)), omega (arith, same, some_tokens j))
longest_last (Some (j, t ∷ r)) ts d h e = cc

-- nothing is read of an empty text
no_text : read_text [] ≡ None
unfolding lex punctuate value
no_text = refl

pub longest_read : (text : List ℕ) (d : Data) → read_text text ≡ Some d → longest d < length text
longest_read text d e =
    let h = longest_last (json.value max_depth (tokens text)) (tokens text) d (λ j r f. value-json_tokens_back max_depth (tokens text) r j f) e in
    some (length text) (length (tokens text)) (length_some text e) h.0 h.1 (tokens_few text)
  where
    length_some : (xs : List ℕ) → read_text xs ≡ Some d → 1 ≤ length xs
    length_some [] f = let g = sym no_text ∙ f in cc
    length_some (x ∷ xs) f = omega arith

    some : (n m : ℕ) → 1 ≤ n → longest d ≤ m - 2 → 1 ≤ m → m ≤ n + 1 → longest d < n
    some n m p q r t = omega (arith, p, q, r, t)
