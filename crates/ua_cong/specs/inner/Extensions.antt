-- Congruences above a congruence: what private functions say.
use Rattle.std.specs.Prelude.{ℕ, List, map, length, slice_index}
use Rattle.std.specs.List.{range_with_len}
use Rattle.ua_part.specs.Partitions.{Partition}

-- an element with the least member of its block
abbrev pub led : Partition → ℕ → ℕ × ℕ
led p b = (b, slice_index p b)

-- each element so, in order
abbrev pub led_pairs : Partition → List (ℕ × ℕ)
led_pairs p = map (led p) (range_with_len 0 (length p))
