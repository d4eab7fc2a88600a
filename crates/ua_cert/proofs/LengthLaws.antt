-- The lists that are read have fewer items than their text has bytes.
use Rattle.std.proofs.Common.{◌≡◌, ℕ, suc, ◌-◌, ◌<◌, Option, Some, None, Ok, Err, List, ◌∷◌, length, Ordering, Less, Equal, Greater, refl, subst, ap, arith}
use Rattle.std.specs.Prelude.{⊤, codes}
use Rattle.std.specs.List.{AllByRecursion}
use Rattle.std.specs.Ordering.{nat_cmp, match_ordering}
use Rattle.std.specs.Cmp.Lexicographic.{slice_cmp}
use Rattle.serde_json.specs.Data as datum
use Rattle.serde_json.specs.Data.{Data, Items, no_items, item, Members, no_members, member}
use Rattle.serde_json.specs.Find.{get, get_member, as_object}
use Rattle.serde_json.specs.Read.{read as read_text}
use Rattle.ua_cert.specs.declared.certs.CertStep.{CertStep}
use Rattle.ua_cert.specs.declared.certs.Cert.{Cert}
use Rattle.ua_cert.specs.declared.kinds.Kind.{Kind}
use Rattle.ua_cert.specs.declared.kinds.Kind.TheVariants as kind
use Rattle.ua_cert.specs.declared.faults.FieldError.TheVariants as fault
use Rattle.ua_cert.specs.Reading as reading
use Rattle.ua_cert.specs.Reading.{Reading, both, mapped, under, after, field, found, index_path, items_from, list_of, step_of}
use Rattle.ua_cert.specs.Certificates as certificates
use Rattle.ua_cert.specs.Certificates.{cert_of}
use Rattle.ua_cert.specs.Lengths.{IsBelow, AreBelow, StepsBelow, TermsBelow, HasListsBelow}
use Rattle.ua_cert.proofs.TokenLaws.{AtMost, count, longest, items_longest, members_longest, longest_read}

-- what holds of a value that is read
abbrev IfRead : {X : Type 0} → (X → Type 0) → Reading X → Type 0
IfRead P (Ok x) = P x
IfRead P (Err e) = ⊤

if_more : {X : Type 0} (P Q : X → Type 0) → ((x : X) → P x → Q x) → (r : Reading X) → IfRead P r → IfRead Q r
if_more P Q k (Ok x) h = k x h
if_more P Q k (Err e) h = tt

if_mapped : {X Y : Type 0} (f : X → Y) (P : X → Type 0) (Q : Y → Type 0) → ((x : X) → P x → Q (f x)) → (r : Reading X) → IfRead P r → IfRead Q (mapped f r)
if_mapped f P Q k (Ok x) h = k x h
if_mapped f P Q k (Err e) h = tt

if_both : {X Y : Type 0} (P : X → Type 0) (Q : Y → Type 0) (r : Reading X) (s : Reading Y) → IfRead P r → IfRead Q s → IfRead (λ (p : X × Y). P p.0 × Q p.1) (both r s)
if_both P Q (Ok x) (Ok y) h k = (h, k)
if_both P Q (Ok x) (Err e) h k = tt
if_both P Q (Err (fault.Shape path)) s h k = tt
if_both P Q (Err fault.OutOfMemory) s h k = tt
if_both P Q (Err (fault.Range path)) (Ok y) h k = tt
if_both P Q (Err (fault.Range path)) (Err (fault.Shape front)) h k = tt
if_both P Q (Err (fault.Range path)) (Err (fault.Range front)) h k = tt
if_both P Q (Err (fault.Range path)) (Err fault.OutOfMemory) h k = tt

if_under : {X : Type 0} (P : X → Type 0) (front : List ℕ) (r : Reading X) → IfRead P r → IfRead P (under front r)
if_under P front (Ok x) h = h
if_under P front (Err e) h = tt

if_after : {X Y : Type 0} (Q : Y → Type 0) (f : X → Reading Y) → ((x : X) → IfRead Q (f x)) → (r : Reading X) → IfRead Q (after r f)
if_after Q f k (Ok x) = k x
if_after Q f k (Err e) = tt

any : {X : Type 0} (r : Reading X) → IfRead (λ _. ⊤) r
any (Ok x) = tt
any (Err e) = tt

module _ (n : ℕ) where
  -- what is read of a value whose arrays have fewer items than n
  abbrev Gives : {X : Type 0} → (X → Type 0) → (Data → Reading X) → Type 0
  Gives P read = (d : Data) → longest d < n → IfRead P (read d)

  -- items of a list, as many as there are, of each of which this holds
  abbrev AreItems : {X : Type 0} → (X → Type 0) → Items → List X → Type 0
  AreItems P ds xs = (length xs ≡ count ds) × AllByRecursion P xs

  items_give : {X : Type 0} (P : X → Type 0) (read : Data → Reading X) → Gives P read → (i : ℕ) (ds : Items) → items_longest ds < n → IfRead (AreItems P ds) (items_from read i ds)
  items_give P read g i no_items h = (refl, tt)
  items_give {X} P read g i (item d ds) h =
      if_mapped (λ (p : X × List X). p.0 ∷ p.1) (λ p. P p.0 × AreItems P ds p.1) (AreItems P (item d ds)) (λ p k. (ap suc k.1.0, (k.0, k.1.1))) _
      (if_both P (AreItems P ds) (under (index_path i) (read d)) (items_from read (suc i) ds) (if_under P (index_path i) (read d) (g d (omega (arith, h)))) (items_give P read g (suc i) ds (omega (arith, h))))

  -- a list of fewer than n items, of each of which this holds
  abbrev AreFewer : {X : Type 0} → (X → Type 0) → List X → Type 0
  AreFewer P xs = IsBelow n xs × AllByRecursion P xs

  list_gives : {X : Type 0} (P : X → Type 0) (read : Data → Reading X) → Gives P read → Gives (AreFewer P) (list_of read)
  list_gives P read g datum.null h = tt
  list_gives P read g (datum.boolean b) h = tt
  list_gives P read g (datum.number m) h = tt
  list_gives P read g (datum.string s) h = tt
  list_gives P read g (datum.object ms) h = tt
  list_gives P read g (datum.array ds) h = if_more (AreItems P ds) (AreFewer P) (λ xs k. (omega (arith, h, k.0), k.1)) (items_from read 0 ds) (items_give P read g 0 ds (omega (arith, h)))

  any_gives : {X : Type 0} (read : Data → Reading X) → Gives (λ _. ⊤) read
  any_gives read d h = any (read d)

  numbers_give : Gives (IsBelow n) (list_of reading.number_of)
  numbers_give d h = if_more (AreFewer (λ _. ⊤)) (IsBelow n) (λ xs k. k.0) (list_of reading.number_of d) (list_gives (λ _. ⊤) reading.number_of (any_gives reading.number_of) d h)

  vectors_give : Gives (AreBelow n) (list_of (list_of reading.number_of))
  vectors_give d h = list_gives (IsBelow n) (list_of reading.number_of) numbers_give d h

  abbrev IsFewStep : CertStep → Type 0
  IsFewStep s = IsBelow n s.args

  step_gives : Gives IsFewStep step_of
  step_gives datum.null h = tt
  step_gives (datum.boolean b) h = tt
  step_gives (datum.number m) h = tt
  step_gives (datum.string s) h = tt
  step_gives (datum.object ms) h = tt
  step_gives (datum.array no_items) h = tt
  step_gives (datum.array (item d ds)) h =
      if_mapped reading.step (λ p. ⊤ × AreItems (λ _. ⊤) ds p.1) IsFewStep (λ p k. omega (arith, h, k.1.0)) _
      (if_both (λ _. ⊤) (AreItems (λ _. ⊤) ds) (under (index_path 0) (reading.text_of d)) (items_from reading.number_of 1 ds)
      (any (under (index_path 0) (reading.text_of d)))
      (items_give (λ _. ⊤) reading.number_of (any_gives reading.number_of) 1 ds (omega (arith, h))))

  steps_give : Gives (StepsBelow n) (list_of step_of)
  steps_give d h = list_gives IsFewStep step_of step_gives d h

  terms_give : Gives (TermsBelow n) (list_of (list_of step_of))
  terms_give d h = list_gives (StepsBelow n) (list_of step_of) steps_give d h

  -- ---- fields

  found_in : (o : Ordering) (e : Data) (rest : Option Data) → longest e < n → AtMost longest (n - 1) rest → AtMost longest (n - 1) (match_ordering o rest (Some e) rest)
  found_in Less e rest h k = k
  found_in Equal e rest h k = omega (arith, h)
  found_in Greater e rest h k = k

  member_found : (k : List ℕ) (ms : Members) → members_longest ms < n → AtMost longest (n - 1) (get_member k ms)
  member_found k no_members h = tt
  member_found k (member l e ms) h = found_in (slice_cmp nat_cmp k l) e (get_member k ms) (omega (arith, h)) (member_found k ms (omega (arith, h)))

  got : (k : List ℕ) (d : Data) → longest d < n → AtMost longest (n - 1) (get k d)
  got k datum.null h = tt
  got k (datum.boolean b) h = tt
  got k (datum.number m) h = tt
  got k (datum.string s) h = tt
  got k (datum.array ds) h = tt
  got k (datum.object ms) h = member_found k ms h

  found_gives : {X : Type 0} (P : X → Type 0) (read : Data → Reading X) → Gives P read → 0 < n → (o : Option Data) → AtMost longest (n - 1) o → IfRead P (found read o)
  found_gives P read g some None h = tt
  found_gives P read g some (Some d) h = g d (omega (arith, some, h))

  field_gives : {X : Type 0} (P : X → Type 0) (read : Data → Reading X) → Gives P read → (k : List ℕ) → Gives P (field read k)
  field_gives P read g k d h = if_under P k (found read (get k d)) (found_gives P read g (omega (arith, h)) (get k d) (got k d h))

  -- ---- certificates

  -- what holds of a value that is read, from which it is seen what is read
  record Few {X : Type 0} (P : X → Type 0) (r : Reading X) : Type 0 where
    holds : IfRead P r

  few_both : {X Y : Type 0} {P : X → Type 0} {Q : Y → Type 0} {r : Reading X} {s : Reading Y} → Few P r → Few Q s → Few (λ (p : X × Y). P p.0 × Q p.1) (both r s)
  few_both {P} {Q} {r} {s} h k = record { holds = if_both P Q r s h.holds k.holds }

  few_mapped : {X Y : Type 0} {P : X → Type 0} {r : Reading X} (f : X → Y) (Q : Y → Type 0) → Few P r → ((x : X) → P x → Q (f x)) → IfRead Q (mapped f r)
  few_mapped {P} {r} f Q h k = if_mapped f P Q k r h.holds

  vectors_under : (k : List ℕ) (d : Data) → longest d < n → Few (AreBelow n) (certificates.vectors k d)
  vectors_under k d h = record { holds = field_gives (AreBelow n) (list_of (list_of reading.number_of)) vectors_give k d h }

  numbers_under : (k : List ℕ) (d : Data) → longest d < n → Few (IsBelow n) (certificates.numbers k d)
  numbers_under k d h = record { holds = field_gives (IsBelow n) (list_of reading.number_of) numbers_give k d h }

  steps_under : (k : List ℕ) (d : Data) → longest d < n → Few (StepsBelow n) (certificates.steps k d)
  steps_under k d h = record { holds = field_gives (StepsBelow n) (list_of step_of) steps_give k d h }

  terms_under : (k : List ℕ) (d : Data) → longest d < n → Few (TermsBelow n) (field (list_of (list_of step_of)) k d)
  terms_under k d h = record { holds = field_gives (TermsBelow n) (list_of (list_of step_of)) terms_give k d h }

  any_under : {X : Type 0} (read : Data → Reading X) (k : List ℕ) (d : Data) → Few (λ _. ⊤) (field read k d)
  any_under read k d = record { holds = any (field read k d) }

  fields_give : (k : Kind) → Gives (HasListsBelow n) (certificates.fields_of k)
  fields_give kind.Member d h =
      few_mapped certificates.member_with (HasListsBelow n)
      (few_both (vectors_under (codes "gens") d h)
      (few_both (steps_under (codes "steps") d h)
      (few_both (numbers_under (codes "target") d h) (any_under reading.number_of (codes "width") d))))
      (λ p k. (k.0, k.1.0, k.1.1.0))
  fields_give kind.NotMember d h =
      few_mapped certificates.not_member_with (HasListsBelow n)
      (few_both (vectors_under (codes "gens") d h)
      (few_both (vectors_under (codes "rows") d h)
      (few_both (numbers_under (codes "target") d h) (any_under reading.number_of (codes "width") d))))
      (λ p k. (k.0, k.1.0, k.1.1.0))
  fields_give kind.Listing d h =
      few_mapped certificates.listing_with (HasListsBelow n)
      (few_both (vectors_under (codes "gens") d h)
      (few_both (steps_under (codes "origins") d h)
      (few_both (numbers_under (codes "ranks") d h)
      (few_both (vectors_under (codes "rows") d h) (any_under reading.number_of (codes "width") d)))))
      (λ p k. (k.0, k.1.0, k.1.1.0, k.1.1.1.0))
  fields_give kind.Condition d h =
      few_mapped certificates.condition_with (HasListsBelow n)
      (few_both (any_under reading.number_of (codes "k") d)
      (few_both (any_under reading.condition_name (codes "name") d) (steps_under (codes "steps") d h)))
      (λ p k. k.1.1)
  fields_give kind.NoCondition d h =
      few_mapped certificates.no_condition_with (HasListsBelow n)
      (few_both (any_under reading.number_of (codes "k") d)
      (few_both (any_under reading.condition_name (codes "name") d) (vectors_under (codes "rows") d h)))
      (λ p k. k.1.1)
  fields_give kind.Chain d h = few_mapped certificates.chain_with (HasListsBelow n) (few_both (any_under reading.chain_name (codes "name") d) (terms_under (codes "terms") d h)) (λ p k. k.1)
  fields_give kind.NoChain d h =
      few_mapped certificates.no_chain_with (HasListsBelow n)
      (few_both (numbers_under (codes "even") d h)
      (few_both (any_under reading.chain_name (codes "name") d) (few_both (numbers_under (codes "odd") d h) (vectors_under (codes "rows") d h))))
      (λ p k. (k.1.1.1, k.0, k.1.1.0))

  keyed_gives : (o : Option (List ℕ)) (r : Reading Cert) → IfRead (HasListsBelow n) r → IfRead (HasListsBelow n) (certificates.keyed o r)
  keyed_gives None r h = h
  keyed_gives (Some k) r h = tt

  object_gives : (o : Option Members) → Gives (HasListsBelow n) (certificates.object_of o)
  object_gives None d h = tt
  object_gives (Some ms) d h =
      if_after (HasListsBelow n) (λ k. certificates.keyed (reading.first_unlike (certificates.keys_for k) (reading.keys_of ms)) (certificates.fields_of k d))
      (λ k. keyed_gives (reading.first_unlike (certificates.keys_for k) (reading.keys_of ms)) (certificates.fields_of k d) (fields_give k d h))
      (field certificates.kind_name (codes "kind") d)

  cert_gives : Gives (HasListsBelow n) cert_of
  cert_gives d h = object_gives (as_object d) d h

-- the certificate that a text is read as has lists of fewer items than the text has bytes
pub read_fewer : (bytes : List ℕ) (d : Data) (c : Cert) → read_text bytes ≡ Some d → cert_of d ≡ Ok c → HasListsBelow (length bytes) c
read_fewer bytes d c text read = subst (IfRead (HasListsBelow (length bytes))) read (cert_gives (length bytes) d (longest_read bytes d text))
