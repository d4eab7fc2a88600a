-- What a text is read as, a certificate or a fault, is told: no reading wants memory.
use Rattle.std.proofs.Common.{◌≡◌, ℕ, suc, ◌^◌, nat_lt, nat_eq, if◌then◌else◌, Bool, true, false, true≢false, List, [], ◌∷◌, Option, Some, None, Result, Ok, Err, refl, sym, ◌∙◌}
use Rattle.std.specs.Prelude.{codes}
use Rattle.std.specs.Cmp.Lexicographic.{pointwise}
use Rattle.std.specs.Str.{IsUtf8, is_utf8}
use Rattle.std.proofs.lemmas.Str.{IsUtf8-from_is_utf8, is_utf8-from_IsUtf8}
use Rattle.serde_json.specs.Data.{Num, Data, Items, no_items, item, Members}
use Rattle.serde_json.specs.Find.{as_number, as_u64, as_str, as_array, as_object, get}
use Rattle.serde_json.specs.Read.{read as read_text}
use Rattle.ua_cert.specs.declared.certs.Cert.{Cert}
use Rattle.ua_cert.specs.declared.kinds.Kind.{Kind}
use Rattle.ua_cert.specs.declared.kinds.Kind.TheVariants as kind
use Rattle.ua_cert.specs.declared.faults.CertError.{CertError}
use Rattle.ua_cert.specs.declared.faults.CertError.TheVariants as error
use Rattle.ua_cert.specs.declared.faults.FieldError.TheVariants as fault
use Rattle.ua_cert.specs.Reading.{Reading, under, both, mapped, word_of, number_in, number_of, text_in, text_of, index_path, items_from, list_in, list_of, step, step_from, step_in}
use Rattle.ua_cert.specs.Reading.{step_of, after, found, field, named, condition_names, condition_name, chain_names, chain_name, keys_of, first_unlike}
use Rattle.ua_cert.specs.Certificates.{kind_names, kind_name, keys_for, numbers, vectors, steps, member_with, not_member_with, listing_with, condition_with, no_condition_with}
use Rattle.ua_cert.specs.Certificates.{chain_with, no_chain_with, fields_of, keyed, object_of, cert_of, IsTold}

-- it is a value, or a fault of the text
abbrev IsSaid : {X : Type 0} → Reading X → Type 0
IsSaid (Ok x) = Unit {0}
IsSaid (Err (fault.Shape path)) = Unit {0}
IsSaid (Err (fault.Range path)) = Unit {0}
IsSaid (Err fault.OutOfMemory) = ⊥

-- ---- how readings are made of readings

told_under : {X : Type 0} (front : List ℕ) (r : Reading X) → IsSaid r → IsSaid (under front r)
told_under front (Ok x) h = tt
told_under front (Err (fault.Shape path)) h = tt
told_under front (Err (fault.Range path)) h = tt
told_under front (Err fault.OutOfMemory) h = absurd h

told_both : {X Y : Type 0} (r : Reading X) (s : Reading Y) → IsSaid r → IsSaid s → IsSaid (both r s)
told_both (Ok x) (Ok y) h k = tt
told_both (Ok x) (Err (fault.Shape path)) h k = tt
told_both (Ok x) (Err (fault.Range path)) h k = tt
told_both (Ok x) (Err fault.OutOfMemory) h k = absurd k
told_both (Err (fault.Shape path)) s h k = tt
told_both (Err fault.OutOfMemory) s h k = absurd h
told_both (Err (fault.Range path)) (Ok y) h k = tt
told_both (Err (fault.Range path)) (Err (fault.Shape other)) h k = tt
told_both (Err (fault.Range path)) (Err (fault.Range other)) h k = tt
told_both (Err (fault.Range path)) (Err fault.OutOfMemory) h k = absurd k

told_mapped : {X Y : Type 0} (f : X → Y) (r : Reading X) → IsSaid r → IsSaid (mapped f r)
told_mapped f (Ok x) h = tt
told_mapped f (Err (fault.Shape path)) h = tt
told_mapped f (Err (fault.Range path)) h = tt
told_mapped f (Err fault.OutOfMemory) h = absurd h

told_after : {X Y : Type 0} (r : Reading X) (f : X → Reading Y) → IsSaid r → ((x : X) → IsSaid (f x)) → IsSaid (after r f)
told_after (Ok x) f h k = k x
told_after (Err (fault.Shape path)) f h k = tt
told_after (Err (fault.Range path)) f h k = tt
told_after (Err fault.OutOfMemory) f h k = absurd h

-- it tells something of each value
abbrev Tells : {X : Type 0} → (Data → Reading X) → Type 0
Tells read = (d : Data) → IsSaid (read d)

told_found : {X : Type 0} (read : Data → Reading X) → Tells read → (o : Option Data) → IsSaid (found read o)
told_found read h None = tt
told_found read h (Some d) = h d

told_field : {X : Type 0} (read : Data → Reading X) → Tells read → (key : List ℕ) → Tells (field read key)
told_field read h key d = told_under key (found read (get key d)) (told_found read h (get key d))

told_items : {X : Type 0} (read : Data → Reading X) → Tells read → (i : ℕ) (ds : Items) → IsSaid (items_from read i ds)
told_items read h i no_items = tt
told_items {X} read h i (item d ds) =
    let first = under (index_path i) (read d) in
    let rest = items_from read (suc i) ds in
    told_mapped (λ (p : X × List X). p.0 ∷ p.1) (both first rest) (told_both first rest (told_under (index_path i) (read d) (h d)) (told_items read h (suc i) ds))

told_in : {X : Type 0} (read : Data → Reading X) → Tells read → (o : Option Items) → IsSaid (list_in read o)
told_in read h None = tt
told_in read h (Some ds) = told_items read h 0 ds

told_list : {X : Type 0} (read : Data → Reading X) → Tells read → Tells (list_of read)
told_list read h d = told_in read h (as_array d)

-- ---- numbers, texts and steps

told_word : (o : Option ℕ) → IsSaid (word_of o)
told_word None = tt
told_word (Some n) = at (nat_lt n (2 ^ 32))
  where
    at : (b : Bool) → IsSaid (if b then Ok n else Err (fault.Range []))
    at true = tt
    at false = tt

told_number_in : (o : Option Num) → IsSaid (number_in o)
told_number_in None = tt
told_number_in (Some n) = told_word (as_u64 n)

told_number : Tells number_of
told_number d = told_number_in (as_number d)

told_text_in : (o : Option (List ℕ)) → IsSaid (text_in o)
told_text_in None = tt
told_text_in (Some text) = tt

told_text : Tells text_of
told_text d = told_text_in (as_str d)

told_step_from : (ds : Items) → IsSaid (step_from ds)
told_step_from no_items = tt
told_step_from (item d ds) =
    let first = under (index_path 0) (text_of d) in
    let rest = items_from number_of 1 ds in
    told_mapped step (both first rest) (told_both first rest (told_under (index_path 0) (text_of d) (told_text d)) (told_items number_of told_number 1 ds))

told_step_in : (o : Option Items) → IsSaid (step_in o)
told_step_in None = tt
told_step_in (Some ds) = told_step_from ds

told_step : Tells step_of
told_step d = told_step_in (as_array d)

-- ---- names

told_named : {X : Type 0} (names : List (List ℕ × X)) (text : List ℕ) → IsSaid (named names text)
told_named [] text = tt
told_named {X} (x ∷ rest) text = at (pointwise nat_eq text x.0) (told_named rest text)
  where
    at : (b : Bool) → IsSaid (named rest text) → IsSaid (if b then Ok x.1 else named rest text)
    at true h = tt
    at false h = h

told_name : {X : Type 0} (names : List (List ℕ × X)) (d : Data) → IsSaid (after (text_of d) (named names))
told_name names d = told_after (text_of d) (named names) (told_text d) (told_named names)

-- ---- fields

told_numbers : (key : List ℕ) → Tells (numbers key)
told_numbers key = told_field (list_of number_of) (told_list number_of told_number) key

told_vectors : (key : List ℕ) → Tells (vectors key)
told_vectors key = told_field (list_of (list_of number_of)) (told_list (list_of number_of) (told_list number_of told_number)) key

told_steps : (key : List ℕ) → Tells (steps key)
told_steps key = told_field (list_of step_of) (told_list step_of told_step) key

told_count : (key : List ℕ) → Tells (field number_of key)
told_count key = told_field number_of told_number key

told_condition : Tells (field condition_name (codes "name"))
told_condition = told_field condition_name (told_name condition_names) (codes "name")

told_chain : Tells (field chain_name (codes "name"))
told_chain = told_field chain_name (told_name chain_names) (codes "name")

told_terms : Tells (field (list_of (list_of step_of)) (codes "terms"))
told_terms = told_field (list_of (list_of step_of)) (told_list (list_of step_of) (told_list step_of told_step)) (codes "terms")

-- three and four that stand one behind the other
told_three : {X Y Z : Type 0} (r : Reading X) (s : Reading Y) (t : Reading Z) → IsSaid r → IsSaid s → IsSaid t → IsSaid (both r (both s t))
told_three r s t f g h = told_both r (both s t) f (told_both s t g h)

told_four : {W X Y Z : Type 0} (q : Reading W) (r : Reading X) (s : Reading Y) (t : Reading Z) → IsSaid q → IsSaid r → IsSaid s → IsSaid t → IsSaid (both q (both r (both s t)))
told_four q r s t e f g h = told_both q (both r (both s t)) e (told_three r s t f g h)

told_fields : (k : Kind) → Tells (fields_of k)
told_fields kind.Member d =
    let gens = vectors (codes "gens") d in
    let made = steps (codes "steps") d in
    let target = numbers (codes "target") d in
    let width = field number_of (codes "width") d in
    told_mapped member_with (both gens (both made (both target width)))
    (told_four gens made target width (told_vectors (codes "gens") d) (told_steps (codes "steps") d) (told_numbers (codes "target") d) (told_count (codes "width") d))
told_fields kind.NotMember d =
    let gens = vectors (codes "gens") d in
    let rows = vectors (codes "rows") d in
    let target = numbers (codes "target") d in
    let width = field number_of (codes "width") d in
    told_mapped not_member_with (both gens (both rows (both target width)))
    (told_four gens rows target width (told_vectors (codes "gens") d) (told_vectors (codes "rows") d) (told_numbers (codes "target") d) (told_count (codes "width") d))
told_fields kind.Listing d =
    let gens = vectors (codes "gens") d in
    let origins = steps (codes "origins") d in
    let ranks = numbers (codes "ranks") d in
    let rows = vectors (codes "rows") d in
    let width = field number_of (codes "width") d in
    let behind = told_four origins ranks rows width (told_steps (codes "origins") d) (told_numbers (codes "ranks") d) (told_vectors (codes "rows") d) (told_count (codes "width") d) in
    told_mapped listing_with (both gens (both origins (both ranks (both rows width)))) (told_both gens (both origins (both ranks (both rows width))) (told_vectors (codes "gens") d) behind)
told_fields kind.Condition d =
    let k = field number_of (codes "k") d in
    let name = field condition_name (codes "name") d in
    let made = steps (codes "steps") d in
    told_mapped condition_with (both k (both name made)) (told_three k name made (told_count (codes "k") d) (told_condition d) (told_steps (codes "steps") d))
told_fields kind.NoCondition d =
    let k = field number_of (codes "k") d in
    let name = field condition_name (codes "name") d in
    let rows = vectors (codes "rows") d in
    told_mapped no_condition_with (both k (both name rows)) (told_three k name rows (told_count (codes "k") d) (told_condition d) (told_vectors (codes "rows") d))
told_fields kind.Chain d =
    let name = field chain_name (codes "name") d in
    let terms = field (list_of (list_of step_of)) (codes "terms") d in
    told_mapped chain_with (both name terms) (told_both name terms (told_chain d) (told_terms d))
told_fields kind.NoChain d =
    let even = numbers (codes "even") d in
    let name = field chain_name (codes "name") d in
    let odd = numbers (codes "odd") d in
    let rows = vectors (codes "rows") d in
    told_mapped no_chain_with (both even (both name (both odd rows)))
    (told_four even name odd rows (told_numbers (codes "even") d) (told_chain d) (told_numbers (codes "odd") d) (told_vectors (codes "rows") d))

-- ---- the whole

told_keyed : (o : Option (List ℕ)) (r : Reading Cert) → IsSaid r → IsSaid (keyed o r)
told_keyed None r h = h
told_keyed (Some key) r h = tt

told_object : (o : Option Members) (d : Data) → IsSaid (object_of o d)
told_object None d = tt
told_object (Some ms) d =
    told_after (field kind_name (codes "kind") d) (λ k. keyed (first_unlike (keys_for k) (keys_of ms)) (fields_of k d))
    (told_field kind_name (told_name kind_names) (codes "kind") d)
    (λ k. told_keyed (first_unlike (keys_for k) (keys_of ms)) (fields_of k d) (told_fields k d))

told_cert : Tells cert_of
told_cert d = told_object (as_object d) d

-- ---- texts

told_ok : (c : Cert) (r : Result Cert CertError) → r ≡ Ok c → r ≡ Err error.OutOfMemory → ⊥
told_ok c r is e = cc

told_json : (r : Result Cert CertError) → r ≡ Err error.Json → r ≡ Err error.OutOfMemory → ⊥
told_json r is e = cc

told_shape : (path : List ℕ) (r : Result Cert CertError) → r ≡ Err (error.Shape path) → r ≡ Err error.OutOfMemory → ⊥
told_shape path r is e = cc

told_range : (path : List ℕ) (r : Result Cert CertError) → r ≡ Err (error.Range path) → r ≡ Err error.OutOfMemory → ⊥
told_range path r is e = cc

-- what is no JSON text is told to be none
no_text : (bytes : List ℕ) → (IsUtf8 bytes → read_text bytes ≡ None) → IsTold bytes
no_text bytes none = record { result = Err error.Json; tells = none; told = told_json (Err error.Json) refl }

some_text : (bytes : List ℕ) → IsUtf8 bytes → (d : Data) → read_text bytes ≡ Some d → (r : Reading Cert) → cert_of d ≡ r → IsSaid r → IsTold bytes
some_text bytes utf8 d json (Ok c) read h = record { result = Ok c; tells = record { utf8 = utf8; value = d; json = json; read = read }; told = told_ok c (Ok c) refl }
some_text bytes utf8 d json (Err (fault.Shape path)) read h =
    record { result = Err (error.Shape path); tells = record { utf8 = utf8; value = d; json = json; read = read }; told = told_shape path (Err (error.Shape path)) refl }
some_text bytes utf8 d json (Err (fault.Range path)) read h =
    record { result = Err (error.Range path); tells = record { utf8 = utf8; value = d; json = json; read = read }; told = told_range path (Err (error.Range path)) refl }
some_text bytes utf8 d json (Err fault.OutOfMemory) read h = absurd h

-- something is told of each text
pub text_told : (bytes : List ℕ) → IsTold bytes
text_told bytes = by (is_utf8 bytes) refl
  where
    value : IsUtf8 bytes → (o : Option Data) → read_text bytes ≡ o → IsTold bytes
    value utf8 None e = no_text bytes (λ utf8. e)
    value utf8 (Some d) e = some_text bytes utf8 d e (cert_of d) refl (told_cert d)

    by : (b : Bool) → is_utf8 bytes ≡ b → IsTold bytes
    by true e = value (IsUtf8-from_is_utf8 bytes e) (read_text bytes) refl
    by false e = no_text bytes (λ utf8. absurd (true≢false (sym (is_utf8-from_IsUtf8 bytes utf8) ∙ e)))
