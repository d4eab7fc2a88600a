-- Nodes that are left.
use Rattle.std.specs.Prelude.{ℕ, ◌-◌, nat_le, if◌then◌else◌, Option, Some, None}
use Rattle.ua_table.specs.Terms.{more}

-- how many of so many nodes are left behind some, where these are not more
abbrev pub left_behind : ℕ → ℕ → Option ℕ
left_behind limit n = if nat_le n limit then Some (limit - n) else None
