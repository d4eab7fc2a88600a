-- Sixteen coordinates of sixteen vectors, each vector a lane.
use Rattle.std.specs.Prelude.{ℕ, ◌+◌, ◌*◌, List, slice_range}

-- key i of some keys of so many words each, end to end
abbrev pub key_at : List ℕ → ℕ → ℕ → List ℕ
key_at keys words i = slice_range keys (i * words) (i * words + words)
