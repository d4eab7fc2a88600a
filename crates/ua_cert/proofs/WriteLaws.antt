-- What is written is read as the same; it nests little, and has no floats.
use Rattle.std.proofs.Common.{◌≡◌, ℕ, suc, ◌≤◌, false, ◌||◌, Ok, List, [], ◌∷◌, map, refl, arith}
use Rattle.std.specs.List.{AllByRecursion}
use Rattle.serde_json.specs.Data.{Data, depth, items_depth}
use Rattle.serde_json.specs.View.{items_of}
use Rattle.serde_json.specs.Read.{max_depth}
use Rattle.serde_json.specs.Written.{has_float, items_have_float}
use Rattle.ua_cert.specs.declared.certs.CertStep.{CertStep}
use Rattle.ua_cert.specs.declared.certs.Cert.{Cert}
use Rattle.ua_cert.specs.declared.certs.Cert.TheVariants.{Member, NotMember, Listing, Condition, NoCondition, Chain, NoChain}
use Rattle.ua_cert.specs.Reading as reading
use Rattle.ua_cert.specs.Reading.{Reading, both, mapped, under, index_path, items_from, list_of}
use Rattle.ua_cert.specs.Writing as writing
use Rattle.ua_cert.specs.Writing.{data_of}

-- ---- values

-- what is read of the value that is written
abbrev pub Returns : {X : Type 0} → (Data → Reading X) → (X → Data) → X → Type 0
Returns reads writes x = reads (writes x) ≡ Ok x

items_back : {X : Type 0} (reads : Data → Reading X) (writes : X → Data) (xs : List X) → AllByRecursion (Returns reads writes) xs → (i : ℕ) → items_from reads i (items_of (map writes xs)) ≡ Ok xs
items_back reads writes [] h i = refl
items_back {X} reads writes (x ∷ xs) h i = λ j. mapped (λ (p : X × List X). p.0 ∷ p.1) (both (under (index_path i) (h.0 j)) (items_back reads writes xs h.1 (suc i) j))

pub list_back : {X : Type 0} (reads : Data → Reading X) (writes : X → Data) (xs : List X) → AllByRecursion (Returns reads writes) xs → Returns (list_of reads) (writing.list writes) xs
list_back reads writes xs h = items_back reads writes xs h 0

pub step_back : (s : CertStep) → AllByRecursion (Returns reading.number_of writing.number) s.args → Returns reading.step_of writing.step s
step_back s h = λ j. mapped reading.step (both (Ok s.word) (items_back reading.number_of writing.number s.args h 1 j))

-- ---- how deep they nest

items_shallow : {X : Type 0} (writes : X → Data) (n : ℕ) → ((x : X) → depth (writes x) ≤ n) → (xs : List X) → items_depth (items_of (map writes xs)) ≤ n
items_shallow writes n h [] = omega arith
items_shallow writes n h (x ∷ xs) = omega (arith, h x, items_shallow writes n h xs)

list_shallow : {X : Type 0} (writes : X → Data) (n : ℕ) → ((x : X) → depth (writes x) ≤ n) → (xs : List X) → depth (writing.list writes xs) ≤ suc n
list_shallow writes n h xs = omega (arith, items_shallow writes n h xs)

number_shallow : (x : ℕ) → depth (writing.number x) ≤ 0
number_shallow x = omega arith

numbers_shallow : (xs : List ℕ) → depth (writing.list writing.number xs) ≤ 1
numbers_shallow xs = list_shallow writing.number 0 number_shallow xs

vectors_shallow : (xs : List (List ℕ)) → depth (writing.vectors xs) ≤ 2
vectors_shallow xs = list_shallow (writing.list writing.number) 1 numbers_shallow xs

step_shallow : (s : CertStep) → depth (writing.step s) ≤ 1
step_shallow s = omega (arith, items_shallow writing.number 0 number_shallow s.args)

steps_shallow : (xs : List CertStep) → depth (writing.steps xs) ≤ 2
steps_shallow xs = list_shallow writing.step 1 step_shallow xs

terms_shallow : (xs : List (List CertStep)) → depth (writing.list writing.steps xs) ≤ 3
terms_shallow xs = list_shallow writing.steps 2 steps_shallow xs

pub shallow : (c : Cert) → depth (data_of c) ≤ max_depth
shallow (Member gens steps target width) = omega (arith, vectors_shallow gens, steps_shallow steps, numbers_shallow target)
shallow (NotMember gens rows target width) = omega (arith, vectors_shallow gens, vectors_shallow rows, numbers_shallow target)
shallow (Listing gens origins ranks rows width) = omega (arith, vectors_shallow gens, steps_shallow origins, numbers_shallow ranks, vectors_shallow rows)
shallow (Condition name k steps) = omega (arith, steps_shallow steps)
shallow (NoCondition name k rows) = omega (arith, vectors_shallow rows)
shallow (Chain name terms) = omega (arith, terms_shallow terms)
shallow (NoChain name rows even odd) = omega (arith, numbers_shallow even, numbers_shallow odd, vectors_shallow rows)

-- ---- they have no floats

items_whole : {X : Type 0} (writes : X → Data) → ((x : X) → has_float (writes x) ≡ false) → (xs : List X) → items_have_float (items_of (map writes xs)) ≡ false
items_whole writes h [] = refl
items_whole writes h (x ∷ xs) = λ j. h x j || items_whole writes h xs j

numbers_whole : (xs : List ℕ) → has_float (writing.list writing.number xs) ≡ false
numbers_whole xs = items_whole writing.number (λ x. refl) xs

vectors_whole : (xs : List (List ℕ)) → has_float (writing.vectors xs) ≡ false
vectors_whole xs = items_whole (writing.list writing.number) numbers_whole xs

step_whole : (s : CertStep) → has_float (writing.step s) ≡ false
step_whole s = items_whole writing.number (λ x. refl) s.args

steps_whole : (xs : List CertStep) → has_float (writing.steps xs) ≡ false
steps_whole xs = items_whole writing.step step_whole xs

terms_whole : (xs : List (List CertStep)) → has_float (writing.list writing.steps xs) ≡ false
terms_whole xs = items_whole writing.steps steps_whole xs

pub whole : (c : Cert) → has_float (data_of c) ≡ false
whole (Member gens steps target width) = λ j. vectors_whole gens j || (steps_whole steps j || (numbers_whole target j || false))
whole (NotMember gens rows target width) = λ j. vectors_whole gens j || (vectors_whole rows j || (numbers_whole target j || false))
whole (Listing gens origins ranks rows width) = λ j. vectors_whole gens j || (steps_whole origins j || (numbers_whole ranks j || (vectors_whole rows j || false)))
whole (Condition name k steps) = λ j. steps_whole steps j || false
whole (NoCondition name k rows) = λ j. vectors_whole rows j || false
whole (Chain name terms) = λ j. terms_whole terms j || false
whole (NoChain name rows even odd) = λ j. numbers_whole even j || (numbers_whole odd j || (vectors_whole rows j || false))
