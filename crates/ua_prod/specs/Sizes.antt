-- Whether an algebra would be within the limits.
use Rattle.std.specs.Prelude.{ℕ, ◌^◌, Bool, ◌||◌, nat_lt, List, sum_by}
use Rattle.ua_table.specs.declared.limits.TheConstants.{SIZE, VALUES}

-- how many values operations of these arities have together on so many elements
abbrev pub values_needed : ℕ → List ℕ → ℕ
values_needed size arities = sum_by (λ k. size ^ k) arities

-- there would be more elements than the limit, or more values
abbrev pub is_too_large : ℕ → List ℕ → Bool
is_too_large size arities = nat_lt SIZE size || nat_lt VALUES (values_needed size arities)
