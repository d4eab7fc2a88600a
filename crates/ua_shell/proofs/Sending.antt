-- Replies that are written one after another.
use Rattle.std.proofs.Common.{◌≡◌, ℕ, zero, suc, ◌+◌, ◌<◌, min, length, get_or, arith, List, [], ◌∷◌, ◌++◌, map, Option, take, drop, Vec, Global, Result, Ok, Err, OnErr, sym, ◌∙◌, ap, subst, append_assoc}
use Rattle.std.proofs.Math.Nat.{min-le_right}
use Rattle.std.proofs.Math.Seq.{take-append-add}
use Rattle.std.proofs.lemmas.List.{take-append-le, take_min}
use Rattle.std.specs.Io.KnownBytes.{Appends}
use Rattle.std.proofs.KnownBytes.{Appends-trans}
use Rattle.ua_io.specs.Faults.{AppendsFront}
use Rattle.ua_shell.specs.inner.Hearing.{bytes_of}

pub on_err : {A E : Type 0} {P : Type 0} (r : Result A E) → P → OnErr r P
on_err (Ok x) p = tt
on_err (Err e) p = p

abbrev bytes_in : List (Vec ℕ Global) → List ℕ
bytes_in replies = bytes_of (map (λ (v : Vec ℕ Global). v.items) replies)

-- the bytes before a reply, those of it, and those behind it
bytes_at : (replies : List (Vec ℕ Global)) (i : ℕ) (r : Vec ℕ Global) → i < length replies → r ≡ get_or replies i r → bytes_in replies ≡ bytes_in (take i replies) ++ (r.items ++ bytes_in (drop (suc i) replies))
bytes_at [] i r within is = absurd (omega (arith, within))
bytes_at (v ∷ vs) zero r within is = ap (λ (w : Vec ℕ Global). w.items ++ bytes_in vs) (sym is)
bytes_at (v ∷ vs) (suc i) r within is =
    ap (λ bytes. v.items ++ bytes) (bytes_at vs i r (omega (arith, within)) is) ∙ sym (append_assoc v.items (bytes_in (take i vs)) (r.items ++ bytes_in (drop (suc i) vs)))

-- the replies before one, and the front of it, are the front of all
pub front_sent : (old new after : Option (List ℕ)) (replies : List (Vec ℕ Global)) (i : ℕ) (r : Vec ℕ Global) → i < length replies → r ≡ get_or replies i r
    → Appends old new (bytes_of (map (λ (v : Vec ℕ Global). v.items) (take i replies))) → AppendsFront new after r.items → AppendsFront old after (bytes_of (map (λ (v : Vec ℕ Global). v.items) replies))
front_sent old new after replies i r within is sofar sent =
    let before = bytes_in (take i replies) in
    let behind = bytes_in (drop (suc i) replies) in
    let n = min sent.0 (length r.items) in
    let front : take n (r.items ++ behind) ≡ take sent.0 r.items = take-append-le n r.items behind (min-le_right sent.0 (length r.items)) ∙ take_min sent.0 r.items in
    let same : take (length before + n) (bytes_in replies) ≡ before ++ take sent.0 r.items =
    ap (take (length before + n)) (bytes_at replies i r within is) ∙ take-append-add before (r.items ++ behind) n ∙ ap (λ bytes. before ++ bytes) front in
    (length before + n, subst (Appends old after) (sym same) (Appends-trans old new after before (take sent.0 r.items) sofar sent.1))
