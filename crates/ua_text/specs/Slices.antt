-- Tokens as slices of their text.
use Rattle.std.specs.Prelude.{◌≡◌, ℕ, ◌+◌, ◌<◌, ◌≤◌, List, [], ◌∷◌, length, take, drop}
use Rattle.ua_text.specs.Pieces.{Placed}

-- the token is what stands in the text from its start on, and has some bytes
pub record IsSlice (source : List ℕ) (t : Placed) : Type 0 where
  pub some : 0 < length t.text
  pub within : t.start + length t.text ≤ length source
  pub text : t.text ≡ take (length t.text) (drop t.start source)

-- each is a slice, and begins behind the one before
abbrev pub AreSlices : List ℕ → ℕ → List Placed → Type 0
AreSlices source from [] = Unit {0}
AreSlices source from (t ∷ ts) = (from ≤ t.start) × IsSlice source t × AreSlices source (t.start + length t.text) ts
