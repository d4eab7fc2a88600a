-- The tokens of a text are its slices, one behind the other.
use Rattle.std.proofs.Common.{◌≡◌, ℕ, zero, suc, ◌+◌, ◌-◌, ◌==◌, ◌<◌, ◌≤◌, Bool, true, false, ◌||◌, not, cond, if◌then◌else◌, List, [], ◌∷◌, length, take, drop, refl, sym, ap, ◌∙◌, subst, arith}
use Rattle.std.specs.List.{take_while, prefix_len}
use Rattle.std.proofs.lemmas.Bool.{false≢true, eqb-true}
use Rattle.std.proofs.lemmas.List.{drop-drop, length-drop, length-take, length-take-le}
use Rattle.std.proofs.lemmas.List.Sums.{take_while-cons}
use Rattle.ua_table.specs.Names.{is_letter, is_digit, is_word_byte}
use Rattle.ua_text.specs.Bytes.{is_blank, is_mark, is_in_line}
use Rattle.ua_text.specs.declared.pieces.TokenKind.{TokenKind}
use Rattle.ua_text.specs.declared.pieces.TokenKind.TheVariants as kinds
use Rattle.ua_text.specs.declared.pieces.Piece.{Piece}
use Rattle.ua_text.specs.declared.pieces.Piece.TheVariants.{Gap, Lexeme}
use Rattle.ua_text.specs.Pieces.{Placed, piece, placed, is_number_kind, tokens_from, tokens_of, with_piece}
use Rattle.ua_text.specs.inner.Tokens.{piece_length}
use Rattle.ua_text.specs.Slices.{IsSlice, AreSlices}

-- a piece has some bytes, and not more than these
record IsWithin (p : Piece) (n : ℕ) : Type 0 where
  some : 0 < piece_length p
  most : piece_length p ≤ n

chosen : (t : Bool) (x y : Piece) (n : ℕ) → (t ≡ true → IsWithin x n) → (t ≡ false → IsWithin y n) → IsWithin (if t then x else y) n
chosen true x y n f g = f refl
chosen false x y n f g = g refl

run_most : (q : ℕ → Bool) (bs : List ℕ) → length (take_while q bs) ≤ length bs
run_most q bs = let e = length-take (prefix_len q bs) bs in omega arith

run_some : (q : ℕ → Bool) (b : ℕ) (bs : List ℕ) → q b ≡ true → 0 < length (take_while q (b ∷ bs))
run_some q b bs h = let e : take_while q (b ∷ bs) ≡ b ∷ take_while q bs = take_while-cons q b bs ∙ ap (λ z. cond z (b ∷ take_while q bs) []) h in subst (λ z. 0 < length z) (sym e) (omega arith)

in_line : (b n : ℕ) → (n == 10) ≡ false → (b == n) ≡ true → is_in_line b ≡ true
in_line b n o e = let f : b ≡ n = eqb-true b n e in subst (λ z. not (z == 10) ≡ true) (sym f) (ap not o)

letter_word : (b : ℕ) (behind : Bool) → (not (is_letter b) || behind) ≡ false → is_word_byte b ≡ true
letter_word b behind h = at (is_letter b) refl h
  where
    at : (l : Bool) → is_letter b ≡ l → (not l || behind) ≡ false → is_word_byte b ≡ true
    at true e g = rw e refl
    at false e g = absurd (false≢true (sym g))

piece_within : (behind : Bool) (b : ℕ) (bs : List ℕ) → IsWithin (piece behind (b ∷ bs)) (length (b ∷ bs))
piece_within behind b bs =
    let n = length (b ∷ bs) in
    let line = length (take_while is_in_line (b ∷ bs)) in
    chosen (is_blank b) (Gap 1) _ n (λ e. one (Gap 1) refl) (λ e.
    chosen (b == 35) (Gap line) _ n (λ e. record { some = run_some is_in_line b bs (in_line b 35 refl e); most = run_most is_in_line (b ∷ bs) }) (λ e.
    chosen (b == 123) (Lexeme kinds.Json line) _ n (λ e. record { some = run_some is_in_line b bs (in_line b 123 refl e); most = run_most is_in_line (b ∷ bs) }) (λ e.
    chosen (is_mark b) (Lexeme kinds.Mark 1) _ n (λ e. one (Lexeme kinds.Mark 1) refl) (λ e.
    chosen (is_digit b) _ _ n (λ e. record { some = run_some is_digit b bs e; most = run_most is_digit (b ∷ bs) }) (λ e.
    chosen (not (is_letter b) || behind) (Lexeme kinds.Bad 1) _ n (λ e. one (Lexeme kinds.Bad 1) refl) (λ e.
    record { some = run_some is_word_byte b bs (letter_word b behind e); most = run_most is_word_byte (b ∷ bs) }))))))
  where
    one : (p : Piece) → piece_length p ≡ 1 → IsWithin p (length (b ∷ bs))
    one p e = record { some = omega arith; most = omega arith }

lower : (source : List ℕ) (from to : ℕ) (ts : List Placed) → from ≤ to → AreSlices source to ts → AreSlices source from ts
lower source from to [] l h = tt
lower source from to (t ∷ ts) l h = (let a = h.0 in omega arith, h.1, h.2)

is_slice : (source : List ℕ) (kind : TokenKind) (n at : ℕ) (rest : List ℕ) → drop at source ≡ rest → 0 < n → n ≤ length rest → IsSlice source (placed source kind n at rest)
is_slice source kind n at rest e some most =
    let len : length (take n rest) ≡ n = length-take-le n rest most in
    let left : length rest ≡ length source - at = ap length (sym e) ∙ length-drop at source in
    record { some = omega arith; within = omega arith; text = ap (λ k. take k rest) (sym len) ∙ ap (take (length (take n rest))) (sym e) }

-- a token, and those behind it
one_more : (source : List ℕ) (kind : TokenKind) (n at : ℕ) (rest : List ℕ) (ts : List Placed) → drop at source ≡ rest → 0 < n → n ≤ length rest
    → AreSlices source (at + 1 + (n - 1)) ts → AreSlices source (at + 0) (placed source kind n at rest ∷ ts)
one_more source kind n at rest ts e some most h =
    let len : length (take n rest) ≡ n = length-take-le n rest most in
    let next : at + 1 + (n - 1) ≡ at + length (take n rest) = omega arith in
    (omega arith, is_slice source kind n at rest e some most, subst (λ m. AreSlices source m ts) next h)

with_within : (source : List ℕ) (p : Piece) (at b : ℕ) (bs : List ℕ) → drop at source ≡ b ∷ bs → IsWithin p (length (b ∷ bs)) → ((g : Bool) (s : ℕ) → s ≤ length bs → AreSlices source (at + 1 + s) (tokens_from source g s (at + 1) bs))
    → AreSlices source (at + 0) (with_piece source p at (b ∷ bs) (λ g s. tokens_from source g s (at + 1) bs))
with_within source (Gap n) at b bs e w h = let some = w.some in let most = w.most in lower source (at + 0) (at + 1 + (n - 1)) (tokens_from source false (n - 1) (at + 1) bs) (omega arith) (h false (n - 1) (omega arith))
with_within source (Lexeme kinds.Bad n) at b bs e w h = (omega arith, is_slice source kinds.Bad n at (b ∷ bs) e w.some w.most, tt)
with_within source (Lexeme kind n) at b bs e w h =
    let some = w.some in let most = w.most in
    one_more source kind n at (b ∷ bs) (tokens_from source (is_number_kind kind) (n - 1) (at + 1) bs) e some most (h (is_number_kind kind) (n - 1) (omega arith))

slices_from : (source : List ℕ) (number : Bool) (skip at : ℕ) (rest : List ℕ) → drop at source ≡ rest → skip ≤ length rest → AreSlices source (at + skip) (tokens_from source number skip at rest)
slices_from source number zero at [] e k = tt
slices_from source number (suc skip) at [] e k = tt
slices_from source number (suc skip) at (b ∷ bs) e k =
    let behind : drop (at + 1) source ≡ bs = sym (drop-drop 1 at source) ∙ ap (drop 1) e in
    let next : at + 1 + skip ≡ at + suc skip = omega arith in
    subst (λ n. AreSlices source n (tokens_from source number skip (at + 1) bs)) next (slices_from source number skip (at + 1) bs behind (omega arith))
slices_from source number zero at (b ∷ bs) e k =
    let behind : drop (at + 1) source ≡ bs = sym (drop-drop 1 at source) ∙ ap (drop 1) e in
    with_within source (piece number (b ∷ bs)) at b bs e (piece_within number b bs) (λ g s l. slices_from source g s (at + 1) bs behind l)

-- The law: the tokens of a text are its slices.
pub tokens_are_slices : (source : List ℕ) → AreSlices source 0 (tokens_of source)
tokens_are_slices source = slices_from source false 0 0 source refl (omega arith)
