-- The labels at the places of two lists.
use Rattle.std.specs.Prelude.{◌≡◌, ℕ, ◌<◌, ◌≤◌, Option, Some, List, length, slice_index}

-- the labels at a place of the two lists
abbrev pub labels_at : List ℕ → List ℕ → ℕ → ℕ × ℕ
labels_at firsts seconds k = (slice_index firsts k, slice_index seconds k)

-- of the places below n: where each pair of labels stands first, by a look-up, and for each place where its pair does
pub record AreFirstPlaces (firsts seconds : List ℕ) (n : ℕ) (place : ℕ × ℕ → Option ℕ) (leaders : List ℕ) : Type 0 where
  pub size : length leaders ≡ n
  pub low : (k : ℕ) → k < n → slice_index leaders k ≤ k
  pub found : (q : ℕ × ℕ) (v : ℕ) → place q ≡ Some v → (v < n) × (labels_at firsts seconds v ≡ q)
  pub each : (k : ℕ) → k < n → place (labels_at firsts seconds k) ≡ Some (slice_index leaders k)
