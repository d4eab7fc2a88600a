-- Tuples that have a number.
use Rattle.std.specs.Prelude.{◌≡◌, ℕ, ◌<◌, List, [], length, slice_index_or}
use Rattle.ua_table.specs.declared.spans.Span.{Span}
use Rattle.ua_table.specs.Spans.{tuples}

-- the tuple has a number
pub record HasNumber (spans : List Span) (tuple : List ℕ) : Type 0 where
  pub number : ℕ
  pub within : number < length (tuples spans)
  pub standing : tuple ≡ slice_index_or (tuples spans) number []
