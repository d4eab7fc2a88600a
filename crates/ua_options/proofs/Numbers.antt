-- The numbers of options, and their text.
use Rattle.std.proofs.Common.{◌≡◌, ◌∙◌, ℕ, zero, suc, ◌<◌, ◌≤◌, ◌^◌, ◌==◌, Bool, true, false, List, [], ◌∷◌, length, get_or, Option, Some, None, Result, Ok, Err, refl, sym, ap, arith, lit<}
use Rattle.std.specs.Option.{IfNone}
use Rattle.std.specs.Result.{result_ok}
use Rattle.std.specs.Fmt.{decimal}
use Rattle.std.specs.Str.Parse.{digits_value, ParsesUnsigned}
use Rattle.std.proofs.lemmas.Bool.{eqb-true}
use Rattle.std.proofs.lemmas.Fmt.{decimal-digits_value, digits_value-decimal, decimal_digit, decimal_nonempty, first_decimal, parse-decimal}
use Rattle.std.proofs.lemmas.Str.Parse.{numerals_by_value, tells_digits}
use Rattle.clap.specs.Lexer.{strip_byte}
use Rattle.ua_options.specs.Words.{IsNumber, IsSeed, Writes}
use Rattle.ua_options.specs.inner.Options.{has_plain_front}
use Rattle.ua_options.specs.declared.words.TheConstants.{SEED}

pub whatever : {X : Type 0} (o : Option X) (P : Type 0) → P → IfNone o P
whatever None P p = p
whatever (Some x) P p = tt

-- ---- the front of a number

front_plain : (ds : List ℕ) → 0 < length ds → 48 < get_or ds 0 0 → has_plain_front ds ≡ true
front_plain [] some high = absurd (omega arith)
front_plain (b ∷ bs) some high = no_plus (b == 43) refl (b == 48) refl
  where
    no_plus : (p : Bool) → (b == 43) ≡ p → (z : Bool) → (b == 48) ≡ z → has_plain_front (b ∷ bs) ≡ true
    no_plus true e z f = let is : b ≡ 43 = eqb-true b 43 e in absurd (omega arith)
    no_plus false e true f = let is : b ≡ 48 = eqb-true b 48 f in absurd (omega arith)
    no_plus false e false f = rw (e, f) refl

pub decimal_front : (n : ℕ) → n < 2 ^ 64 → has_plain_front (decimal n) ≡ true
decimal_front zero small = rw (decimal_digit 0 (lit< tt)) refl
decimal_front (suc n) small = let some : 0 < suc n = omega arith in front_plain (decimal (suc n)) (decimal_nonempty (suc n) small) (first_decimal (suc n) some small)

-- the value of what is parsed
ok_from : {E : Type 0} (r : Result ℕ E) (n : ℕ) → Some n ≡ result_ok r → r ≡ Ok n
ok_from (Ok m) n e = cc
ok_from (Err x) n e = cc

-- what is parsed is written as its value, where its front is that of a number
pub parsed_written : {E : Type 0} (t : List ℕ) (n : ℕ) (r : Result ℕ E) → has_plain_front t ≡ true → Some n ≡ result_ok r → ParsesUnsigned 32 10 t r → t ≡ decimal n
parsed_written [] n r plain some parses = cc
parsed_written (b ∷ bs) n r plain some parses = by_plus (b == 43) refl
  where
    lead : b ≡ 48 → length (b ∷ bs) ≡ 1
    lead zero_first =
        let alone : (length bs == 0) ≡ true = rw zero_first at plain in
        let none = eqb-true (length bs) 0 alone in
        omega (arith, none)

    by_plus : (p : Bool) → (b == 43) ≡ p → b ∷ bs ≡ decimal n
    by_plus true e = let bad = rw e at plain in cc
    by_plus false e =
        let ok = ok_from r n some in
        let read = rw (ok, e) at parses in
        let small : digits_value 10 (b ∷ bs) < 2 ^ 64 = omega (arith, read.0.1) in
        sym (decimal-digits_value (numerals_by_value _ tells_digits) (b ∷ bs) read.0.0.1 read.0.0.0 lead small) ∙ ap decimal (sym read.1)

-- a text whose front is not that of a number writes none
pub odd_front : (greatest : ℕ) (t : List ℕ) → greatest < 2 ^ 32 → has_plain_front t ≡ false → (n : ℕ) → Writes greatest t n → ⊥
odd_front greatest t small odd n writes =
    let plain = decimal_front n (omega (arith, writes.1, small)) in
    let bad = rw writes.0 at odd in
    let clash : true ≡ false = sym plain ∙ bad in
    cc

-- a number that is written is parsed
writes_parsed : {E : Type 0} (greatest : ℕ) (t : List ℕ) (r : Result ℕ E) → greatest < 2 ^ 32 → ParsesUnsigned 32 10 t r → (n : ℕ) → Writes greatest t n → r ≡ Ok n
writes_parsed greatest t r small parses n writes =
    parse-decimal 32 n t r (omega (arith, writes.1, small)) (omega (arith, writes.1, small)) writes.0 parses

-- so what is not parsed writes none, nor does what is above the greatest
pub not_parsed : {E : Type 0} (greatest : ℕ) (t : List ℕ) (r : Result ℕ E) → greatest < 2 ^ 32 → ParsesUnsigned 32 10 t r → None ≡ result_ok r → (n : ℕ) → Writes greatest t n → ⊥
not_parsed greatest t r small parses none n writes = let bad = rw (writes_parsed greatest t r small parses n writes) at none in cc

pub parsed_above : {E : Type 0} (greatest : ℕ) (t : List ℕ) (r : Result ℕ E) (m : ℕ) → greatest < 2 ^ 32 → ParsesUnsigned 32 10 t r → Some m ≡ result_ok r → greatest < m → (n : ℕ) → Writes greatest t n → ⊥
parsed_above greatest t r m small parses some above n writes =
    let same : Some m ≡ Some n = some ∙ ap result_ok (writes_parsed greatest t r small parses n writes) in
    let is : m ≡ n = cc in
    omega (arith, is, above, writes.1)

-- a text that writes nothing is none of the numbers from 1, and one that writes another number is not this one
pub not_written : (usual greatest : ℕ) (t : List ℕ) → ((n : ℕ) → Writes greatest t n → ⊥) → (n : ℕ) → IsNumber usual greatest (Some t) n → ⊥
not_written usual greatest t none n is = none n is.0

-- a text writes one number
one_number : (greatest : ℕ) (t : List ℕ) (m n : ℕ) → greatest < 2 ^ 32 → Writes greatest t m → Writes greatest t n → m ≡ n
one_number greatest t m n small first second =
    let left = digits_value-decimal (numerals_by_value _ tells_digits) m (omega (arith, first.1, small)) in
    let right = digits_value-decimal (numerals_by_value _ tells_digits) n (omega (arith, second.1, small)) in
    sym left ∙ ap (digits_value 10) (sym first.0 ∙ second.0) ∙ right

pub written_zero : (usual greatest : ℕ) (t : List ℕ) (m : ℕ) → greatest < 2 ^ 32 → Writes greatest t m → m < 1 → (n : ℕ) → IsNumber usual greatest (Some t) n → ⊥
written_zero usual greatest t m small zero_written low n is = let same = one_number greatest t m n small zero_written is.0 in omega (arith, same, low, is.1)

pub same_number : (usual greatest : ℕ) (value : Option (List ℕ)) (m n : ℕ) → greatest < 2 ^ 32 → IsNumber usual greatest value m → IsNumber usual greatest value n → m ≡ n
same_number usual greatest None m n small first second = first ∙ sym second
same_number usual greatest (Some t) m n small first second = one_number greatest t m n small first.0 second.0

pub same_seed : (value : Option (List ℕ)) (m n : Option ℕ) → IsSeed value m → IsSeed value n → m ≡ n
same_seed None m n first second = first ∙ sym second
same_seed (Some t) None n first second = absurd first
same_seed (Some t) (Some m) None first second = absurd second
same_seed (Some t) (Some m) (Some n) first second = ap Some (one_number SEED t m n (lit< tt) first second)

-- ---- no hyphen

digits_plain : (ds : List ℕ) → 0 < length ds → 48 ≤ get_or ds 0 0 → strip_byte 45 ds ≡ None
digits_plain [] some high = absurd (omega arith)
digits_plain (d ∷ v) some high = go (d == 45) refl
  where
    go : (b : Bool) → (d == 45) ≡ b → strip_byte 45 (d ∷ v) ≡ None
    go false h = rw h refl
    go true h = let hyphen : d ≡ 45 = eqb-true d 45 h in absurd (omega arith)

decimal_plain : (n : ℕ) → n < 2 ^ 64 → strip_byte 45 (decimal n) ≡ None
decimal_plain zero small = rw (decimal_digit 0 (lit< tt)) refl
decimal_plain (suc n) small =
    let some : 0 < suc n = omega arith in
    let high = first_decimal (suc n) some small in
    digits_plain (decimal (suc n)) (decimal_nonempty (suc n) small) (omega (arith, high))

-- the text of a number does not begin with a hyphen
written_plain : (greatest : ℕ) (v : List ℕ) (n : ℕ) → greatest < 2 ^ 32 → Writes greatest v n → strip_byte 45 v ≡ None
written_plain greatest v n small writes = rw writes.0 (decimal_plain n (omega (arith, writes.1, small)))

pub number_plain : (usual greatest : ℕ) (v : List ℕ) (n : ℕ) → greatest < 2 ^ 32 → IsNumber usual greatest (Some v) n → strip_byte 45 v ≡ None
number_plain usual greatest v n small is = written_plain greatest v n small is.0

pub seed_plain : (v : List ℕ) (seed : Option ℕ) → IsSeed (Some v) seed → strip_byte 45 v ≡ None
seed_plain v None is = absurd is
seed_plain v (Some n) is = written_plain SEED v n (lit< tt) is
