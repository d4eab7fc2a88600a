-- Rows on the patterns of chains, as the checks read them.
use Rattle.std.specs.Prelude.{◌≡◌, ℕ, ◌<◌, ◌≤◌, Bool, true, false, List, [], length, slice_index_or, Contains}
use Rattle.std.specs.List.{AllByRecursion}
use Rattle.ua_table.specs.declared.limits.TheConstants.{SIZE, WIDTH}
use Rattle.ua_table.specs.Algebras.{Vector}
use Rattle.ua_rows.specs.RowLists.{RowList}
use Rattle.ua_identity.specs.Identities.{VariablePattern}
use Rattle.ua_identity.specs.Chains.{Link, AreOwnValues}
use Rattle.ua_identity.specs.Patterns.{fillings, all_fillings}
use Rattle.ua_check.specs.declared.charts.Chart.{Chart}
use Rattle.ua_check.specs.declared.positions.Positions.{Positions}
use Rattle.ua_check.specs.Reached.{part, holds_position}

-- the rows have a coordinate for each assignment of the kind's patterns, and what each term has by itself is told
pub record IsChartOf (c : Chart) : Type 0 where
  pub some : 0 < c.size
  pub small : c.size ≤ SIZE
  pub own : AreOwnValues c.size c.kind.now c.own.now
  pub width : c.rows.now.width ≡ length (all_fillings c.size c.kind.now.patterns)
  pub narrow : c.rows.now.width ≤ WIDTH

-- the positions are those of rows, and the marks are theirs
pub record AreMarks (n : ℕ) (s : Positions) : Type 0 where
  pub low : AllByRecursion (λ p. p < n) s.list.now
  pub count : length s.marks.now ≡ n
  pub holds : (i : ℕ) → i < n → slice_index_or s.marks.now i false ≡ holds_position s.list.now i

-- row i
abbrev pub row_at : Chart → ℕ → Vector
row_at c i = slice_index_or c.rows.now.items i []

-- the entries of row i at a pattern
abbrev pub entries_at : Chart → VariablePattern → ℕ → Vector
entries_at c p i = part c.size c.kind.now p (row_at c i)

-- row i, one of the first n, is marked and has these entries at the pattern
pub record IsEntriesOf (c : Chart) (p : VariablePattern) (marks : List Bool) (n : ℕ) (w : Vector) (i : ℕ) : Type 0 where
  pub low : i < n
  pub marked : slice_index_or marks i false ≡ true
  pub same : entries_at c p i ≡ w

-- the list has the entries at the pattern of the first n rows that are marked, and no others
pub record AreEntriesBelow (c : Chart) (p : VariablePattern) (marks : List Bool) (n : ℕ) (found : List Vector) : Type 0 where
  pub held : (i : ℕ) → i < n → slice_index_or marks i false ≡ true → Contains found (entries_at c p i)
  pub only : (w : Vector) → Contains found w → (i : ℕ) × IsEntriesOf c p marks n w i

-- the list has the entries at the pattern of all rows that are marked, and no others
pub record AreEntriesAt (c : Chart) (p : VariablePattern) (marks : List Bool) (found : RowList) : Type 0 where
  pub width : found.width ≡ length (fillings c.size p)
  pub entries : AreEntriesBelow c p marks (length c.rows.now.items) found.items

-- the positions are those of rows, and the entries are those by which these rows lead to others along the link
pub record IsSide (c : Chart) (l : Link) (s : Positions) : Type 0 where
  pub marks : AreMarks (length c.rows.now.items) s
  pub entries : AreEntriesAt c l.pattern s.marks.now s.entries.now
