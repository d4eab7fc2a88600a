-- The search for the form of a word.
use Rattle.ua_operands.proofs.Vocabulary.{same}
use Rattle.ua_script.proofs.Vocabulary.{CommandForm, word_of, found_form}
use Rattle.std.proofs.Common.{◌≡◌, ◌<◌, ◌∙◌, ◌+◌, ℕ, List, length, drop, get_or, false, if◌then◌else◌, Some, ap}
use Rattle.std.proofs.lemmas.List.{at_drop_more}

-- a word that begins another command is passed over
pub found_form-other : (t : List ℕ) (ws : List CommandForm) (i : ℕ) (d : CommandForm) → i < length ws → same t (word_of (get_or ws i d)) ≡ false → found_form t (drop i ws) ≡ found_form t (drop (i + 1) ws)
found_form-other t ws i d before other = at_drop_more (found_form t) ws i d before ∙ ap (λ b. if b then Some (get_or ws i d) else found_form t (drop (i + 1) ws)) other
