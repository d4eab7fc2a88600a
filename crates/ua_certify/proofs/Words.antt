-- Names are text.
use Rattle.std.proofs.Common.{◌≡◌, ℕ, zero, suc, ◌<◌, Bool, true, false, ◌&&◌, List, [], ◌∷◌, length, refl, arith}
use Rattle.std.specs.Prelude.{IsTrue, nat_le}
use Rattle.std.specs.List.{list_all}
use Rattle.std.specs.Str.{IsUtf8, IsAscii}
use Rattle.std.proofs.lemmas.Bool.Decides.{nat_tests}
use Rattle.std.proofs.lemmas.Str.{IsUtf8-from_ascii}
use Rattle.ua_table.specs.declared.limits.TheConstants.{NAME}
use Rattle.ua_table.specs.Names.{starts_with_letter, is_word, is_name, is_word_byte}

low : (b : ℕ) → is_word_byte b ≡ true → b < 128
low b e = grind (arith, nat_tests)

first : (b c : Bool) → (b && c) ≡ true → b ≡ true
first true c e = refl
first false c e = cc

second : (b c : Bool) → (b && c) ≡ true → c ≡ true
second true c e = e
second false c e = cc

all_low : (bs : List ℕ) → list_all is_word_byte bs ≡ true → IsAscii bs
all_low [] e zero = omega arith
all_low [] e (suc i) = omega arith
all_low (b ∷ bs) e zero = low b (first (is_word_byte b) (list_all is_word_byte bs) e)
all_low (b ∷ bs) e (suc i) = all_low bs (second (is_word_byte b) (list_all is_word_byte bs) e) i

pub name_utf8 : (bs : List ℕ) → IsTrue (is_name bs) → IsUtf8 bs
name_utf8 bs h =
    let word = first (is_word bs) (nat_le (length bs) NAME) h in
    IsUtf8-from_ascii bs (all_low bs (second (starts_with_letter bs) (list_all is_word_byte bs) word))
