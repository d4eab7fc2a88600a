-- What a JSON value is as a certificate, or the first field that is none.
use Rattle.std.specs.Prelude.{ℕ, suc, ◌^◌, nat_lt, nat_eq, if◌then◌else◌, Option, Some, None, Result, Ok, Err, List, [], ◌∷◌, ◌++◌, map, codes}
use Rattle.std.specs.Fmt.{decimal}
use Rattle.std.specs.Ordering.{nat_cmp, match_ordering}
use Rattle.std.specs.Cmp.Lexicographic.{pointwise, slice_cmp}
use Rattle.serde_json.specs.Data.{Num, Data, Items, no_items, item, Members, no_members, member}
use Rattle.serde_json.specs.Find.{as_number, as_u64, as_str, as_array, get}
use Rattle.ua_cert.specs.declared.certs.CertStep.{CertStep}
use Rattle.ua_cert.specs.declared.certs.CondName.{CondName}
use Rattle.ua_cert.specs.declared.certs.CondName.TheVariants as condition
use Rattle.ua_cert.specs.declared.certs.ChainName.{ChainName}
use Rattle.ua_cert.specs.declared.certs.ChainName.TheVariants as chain
use Rattle.ua_cert.specs.declared.faults.FieldError.{FieldError}
use Rattle.ua_cert.specs.declared.faults.FieldError.TheVariants as fault

-- what a value is read as: a fault of shape comes before one of range
abbrev pub Reading : Type 0 → Type 0
Reading X = Result X FieldError

-- the fault, with its path below another
abbrev pub below : List ℕ → FieldError → FieldError
below front (fault.Shape path) = fault.Shape (front ++ path)
below front (fault.Range path) = fault.Range (front ++ path)
below front fault.OutOfMemory = fault.OutOfMemory

abbrev pub under : {X : Type 0} → List ℕ → Reading X → Reading X
under front (Ok x) = Ok x
under front (Err e) = Err (below front e)

-- two values that stand one behind the other: the first fault of shape, else the first of range, else both
abbrev pub both : {X Y : Type 0} → Reading X → Reading Y → Reading (X × Y)
both (Ok x) (Ok y) = Ok (x, y)
both (Ok x) (Err e) = Err e
both (Err (fault.Shape path)) r = Err (fault.Shape path)
both (Err fault.OutOfMemory) r = Err fault.OutOfMemory
both (Err (fault.Range path)) (Ok y) = Err (fault.Range path)
both (Err (fault.Range path)) (Err (fault.Shape other)) = Err (fault.Shape other)
both (Err (fault.Range path)) (Err (fault.Range other)) = Err (fault.Range path)
both (Err (fault.Range path)) (Err fault.OutOfMemory) = Err fault.OutOfMemory

abbrev pub mapped : {X Y : Type 0} → (X → Y) → Reading X → Reading Y
mapped f (Ok x) = Ok (f x)
mapped f (Err e) = Err e

-- ---- numbers, texts, steps and lists

-- a number that is written with digits alone, below 2^32
abbrev pub word_of : Option ℕ → Reading ℕ
word_of None = Err (fault.Range [])
word_of (Some n) = if nat_lt n (2 ^ 32) then Ok n else Err (fault.Range [])

abbrev pub number_in : Option Num → Reading ℕ
number_in None = Err (fault.Shape [])
number_in (Some n) = word_of (as_u64 n)

abbrev pub number_of : Data → Reading ℕ
number_of d = number_in (as_number d)

abbrev pub text_in : Option (List ℕ) → Reading (List ℕ)
text_in None = Err (fault.Shape [])
text_in (Some text) = Ok text

abbrev pub text_of : Data → Reading (List ℕ)
text_of d = text_in (as_str d)

-- the path of an item of a list
abbrev pub index_path : ℕ → List ℕ
index_path i = codes "/" ++ decimal i

-- the items of a list, of which the first has this number
abbrev pub items_from : {X : Type 0} → (Data → Reading X) → ℕ → Items → Reading (List X)
items_from read i no_items = Ok []
items_from {X} read i (item d ds) = mapped (λ (p : X × List X). p.0 ∷ p.1) (both (under (index_path i) (read d)) (items_from read (suc i) ds))

abbrev pub list_in : {X : Type 0} → (Data → Reading X) → Option Items → Reading (List X)
list_in read None = Err (fault.Shape [])
list_in read (Some ds) = items_from read 0 ds

abbrev pub list_of : {X : Type 0} → (Data → Reading X) → Data → Reading (List X)
list_of read d = list_in read (as_array d)

-- the step of a text and numbers
abbrev pub step : List ℕ × List ℕ → CertStep
step p = record { word = p.0; args = p.1 }

-- a step: a text, and numbers behind it
abbrev pub step_from : Items → Reading CertStep
step_from no_items = Err (fault.Shape [])
step_from (item d ds) = mapped step (both (under (index_path 0) (text_of d)) (items_from number_of 1 ds))

abbrev pub step_in : Option Items → Reading CertStep
step_in None = Err (fault.Shape [])
step_in (Some ds) = step_from ds

abbrev pub step_of : Data → Reading CertStep
step_of d = step_in (as_array d)

-- ---- fields

-- what is read next, where there is no fault
abbrev pub after : {X Y : Type 0} → Reading X → (X → Reading Y) → Reading Y
after (Ok x) f = f x
after (Err e) f = Err e

abbrev pub found : {X : Type 0} → (Data → Reading X) → Option Data → Reading X
found read None = Err (fault.Shape [])
found read (Some d) = read d

-- the field under a key
abbrev pub field : {X : Type 0} → (Data → Reading X) → List ℕ → Data → Reading X
field read key d = under key (found read (get key d))

-- what has this name
abbrev pub named : {X : Type 0} → List (List ℕ × X) → List ℕ → Reading X
named [] text = Err (fault.Shape [])
named (x ∷ rest) text = if pointwise nat_eq text x.0 then Ok x.1 else named rest text

-- the names of conditions
abbrev pub condition_text : CondName → List ℕ
condition_text condition.Maltsev = codes "maltsev"
condition_text condition.Majority = codes "majority"
condition_text condition.Minority = codes "minority"
condition_text condition.Pixley = codes "pixley"
condition_text condition.Nu = codes "nu"

abbrev pub condition_names : List (List ℕ × CondName)
condition_names = map (λ c. (condition_text c, c)) (condition.Maltsev ∷ condition.Majority ∷ condition.Minority ∷ condition.Pixley ∷ condition.Nu ∷ [])

abbrev pub condition_name : Data → Reading CondName
condition_name d = after (text_of d) (named condition_names)

-- the names of kinds of chains
abbrev pub chain_text : ChainName → List ℕ
chain_text chain.Jonsson = codes "jonsson"
chain_text chain.Hm = codes "hm"

abbrev pub chain_names : List (List ℕ × ChainName)
chain_names = map (λ c. (chain_text c, c)) (chain.Jonsson ∷ chain.Hm ∷ [])

abbrev pub chain_name : Data → Reading ChainName
chain_name d = after (text_of d) (named chain_names)

-- ---- keys

-- the keys of an object, ascending
abbrev pub keys_of : Members → List (List ℕ)
keys_of no_members = []
keys_of (member key d rest) = key ∷ keys_of rest

-- the first key of two ascending lists that only one of them has
abbrev pub first_unlike : List (List ℕ) → List (List ℕ) → Option (List ℕ)
first_unlike [] [] = None
first_unlike [] (l ∷ ls) = Some l
first_unlike (k ∷ ks) [] = Some k
first_unlike (k ∷ ks) (l ∷ ls) = match_ordering (slice_cmp nat_cmp k l) (Some k) (first_unlike ks ls) (Some l)
