-- The items of a list, read one after another.
use Rattle.std.proofs.Common.{◌≡◌, ℕ, suc, ◌+◌, ◌-◌, ◌<◌, ◌≤◌, Bool, true, false, not, Option, Some, None, Ok, Err, List, [], ◌∷◌, ◌++◌, length, map, take, drop, get_or, refl, sym, ap, ◌∙◌, arith, append_assoc}
use Rattle.std.specs.Prelude.{String, string_bytes}
use Rattle.std.specs.declared.alloc.Global.{Global}
use Rattle.std.specs.Option.{is_some}
use Rattle.std.proofs.lemmas.List.{append-nil, take_all, drop_all}
use Rattle.std.proofs.Math.Seq.{drop-cons}
use Rattle.serde_json.specs.Data.{Data}
use Rattle.serde_json.specs.View.{view, items_view, members_view}
use Rattle.serde_json.specs.declared.value.Value.{Value}
use Rattle.ua_cert.specs.declared.faults.FieldError.TheVariants as fault
use Rattle.ua_cert.specs.Reading.{Reading, both, mapped, under, index_path, items_from, number_of, text_of, step, step_from, keys_of}

-- what is read in all: some items, the first fault of range among them, and what is read behind them
abbrev pub resume : {X : Type 0} → List X → Option (List ℕ) → Reading (List X) → Reading (List X)
resume xs None (Ok ys) = Ok (xs ++ ys)
resume xs None (Err e) = Err e
resume xs (Some p) (Ok ys) = Err (fault.Range p)
resume xs (Some p) (Err (fault.Shape q)) = Err (fault.Shape q)
resume xs (Some p) (Err (fault.Range q)) = Err (fault.Range p)
resume xs (Some p) (Err fault.OutOfMemory) = Err fault.OutOfMemory

-- an item before others
abbrev pub joined : {X : Type 0} → Reading X → Reading (List X) → Reading (List X)
joined {X} r rest = mapped (λ (p : X × List X). p.0 ∷ p.1) (both r rest)

took : {X : Type 0} (xs : List X) (o : Option (List ℕ)) (x : X) (rest : Reading (List X)) → resume xs o (joined (Ok x) rest) ≡ resume (xs ++ x ∷ []) o rest
took xs None x (Ok ys) = ap (λ zs. Ok zs) (sym (append_assoc xs (x ∷ []) ys))
took xs None x (Err e) = refl
took xs (Some p) x (Ok ys) = refl
took xs (Some p) x (Err (fault.Shape q)) = refl
took xs (Some p) x (Err (fault.Range q)) = refl
took xs (Some p) x (Err fault.OutOfMemory) = refl

noted : {X : Type 0} (xs : List X) (q : List ℕ) (rest : Reading (List X)) → resume xs None (joined (Err (fault.Range q)) rest) ≡ resume xs (Some q) rest
noted xs q (Ok ys) = refl
noted xs q (Err (fault.Shape s)) = refl
noted xs q (Err (fault.Range s)) = refl
noted xs q (Err fault.OutOfMemory) = refl

kept : {X : Type 0} (xs : List X) (p q : List ℕ) (rest : Reading (List X)) → resume xs (Some p) (joined (Err (fault.Range q)) rest) ≡ resume xs (Some p) rest
kept xs p q (Ok ys) = refl
kept xs p q (Err (fault.Shape s)) = refl
kept xs p q (Err (fault.Range s)) = refl
kept xs p q (Err fault.OutOfMemory) = refl

shape_stops : {X : Type 0} (xs : List X) (o : Option (List ℕ)) (q : List ℕ) (rest : Reading (List X)) → resume xs o (joined (Err (fault.Shape q)) rest) ≡ Err (fault.Shape q)
shape_stops xs None q rest = refl
shape_stops xs (Some p) q rest = refl

-- whether a fault of range was noted
pub some_noted : (o : Option (List ℕ)) (r : Bool) → is_some o ≡ not r → r ≡ false → (p : List ℕ) × (o ≡ Some p)
some_noted (Some p) r e f = (p, refl)
some_noted None r e f = let bad : false ≡ true = e ∙ ap not f in cc

pub none_noted : (o : Option (List ℕ)) (r : Bool) → is_some o ≡ not r → r ≡ true → o ≡ None
none_noted None r e t = refl
none_noted (Some p) r e t = let bad : true ≡ false = e ∙ ap not t in cc

module _ {X : Type 0} (read : Data → Reading X) (first : ℕ) (values : List Value) where
  -- what is left from item i on
  abbrev pub left : ℕ → Reading (List X)
  left i = items_from read (first + i) (items_view (drop i values))

  next : (i : ℕ) (v : Value) → i < length values → v ≡ get_or values i v → left i ≡ joined (under (index_path (first + i)) (read (view v))) (left (i + 1))
  next i v h at =
      let one : suc i ≡ i + 1 = omega arith in
      let more : suc (first + i) ≡ first + (i + 1) = omega arith in
      ap (λ vs. items_from read (first + i) (items_view vs)) (drop-cons values i v h ∙ ap (λ w. w ∷ drop (suc i) values) (sym at) ∙ ap (λ k. v ∷ drop k values) one)
      ∙ ap (λ k. joined (under (index_path (first + i)) (read (view v))) (items_from read k (items_view (drop (i + 1) values)))) more

  module _ (whole : Reading (List X)) (xs : List X) (i : ℕ) (v : Value) (h : i < length values) (at : v ≡ get_or values i v) where
    pub item_taken : (o : Option (List ℕ)) (x : X) → whole ≡ resume xs o (left i) → under (index_path (first + i)) (read (view v)) ≡ Ok x → whole ≡ resume (xs ++ x ∷ []) o (left (i + 1))
    item_taken o x w e = w ∙ ap (resume xs o) (next i v h at ∙ ap (λ r. joined r (left (i + 1))) e) ∙ took xs o x (left (i + 1))

    pub range_noted : (q : List ℕ) → whole ≡ resume xs None (left i) → under (index_path (first + i)) (read (view v)) ≡ Err (fault.Range q) → whole ≡ resume xs (Some q) (left (i + 1))
    range_noted q w e = w ∙ ap (resume xs None) (next i v h at ∙ ap (λ r. joined r (left (i + 1))) e) ∙ noted xs q (left (i + 1))

    pub range_kept : (p q : List ℕ) → whole ≡ resume xs (Some p) (left i) → under (index_path (first + i)) (read (view v)) ≡ Err (fault.Range q) → whole ≡ resume xs (Some p) (left (i + 1))
    range_kept p q w e = w ∙ ap (resume xs (Some p)) (next i v h at ∙ ap (λ r. joined r (left (i + 1))) e) ∙ kept xs p q (left (i + 1))

    pub shape_found : (o : Option (List ℕ)) (q : List ℕ) → whole ≡ resume xs o (left i) → under (index_path (first + i)) (read (view v)) ≡ Err (fault.Shape q) → whole ≡ Err (fault.Shape q)
    shape_found o q w e = w ∙ ap (resume xs o) (next i v h at ∙ ap (λ r. joined r (left (i + 1))) e) ∙ shape_stops xs o q (left (i + 1))

  pub all_read : (whole : Reading (List X)) (xs : List X) (i : ℕ) → length values ≤ i → whole ≡ resume xs None (left i) → whole ≡ Ok xs
  all_read whole xs i h w = w ∙ ap (λ vs. resume xs None (items_from read (first + i) (items_view vs))) (drop_all i values h) ∙ ap (λ ys. Ok ys) (append-nil xs)

  pub range_read : (whole : Reading (List X)) (xs : List X) (p : List ℕ) (i : ℕ) → length values ≤ i → whole ≡ resume xs (Some p) (left i) → whole ≡ Err (fault.Range p)
  range_read whole xs p i h w = w ∙ ap (λ vs. resume xs (Some p) (items_from read (first + i) (items_view vs))) (drop_all i values h)

-- a step by its first item and the others
pub step_split : (values : List Value) (v : Value) → 1 ≤ length values → v ≡ get_or values 0 v
    → step_from (items_view values)
    ≡ mapped step
    (both (under (index_path 0) (text_of (view v))) (items_from number_of 1 (items_view (take (length values - 1) (drop 1 values)))))
step_split [] v h e = absurd (omega (arith, h))
step_split (w ∷ ws) v h e =
    let count : length (w ∷ ws) - 1 ≡ length ws = omega arith in
    let rest : take (length (w ∷ ws) - 1) ws ≡ ws = ap (λ n. take n ws) count ∙ take_all (length ws) ws (omega arith) in
    λ i. mapped step (both (under (index_path 0) (text_of (view (sym e i)))) (items_from number_of 1 (items_view (sym rest i))))

-- the keys of an object, as the map that holds it has them
pub keys_view : (es : List (String Global × Value)) → map string_bytes (map (λ (e : String Global × Value). e.0) es) ≡ keys_of (members_view es)
keys_view [] = refl
keys_view (e ∷ es) = ap (λ ks. string_bytes e.0 ∷ ks) (keys_view es)
