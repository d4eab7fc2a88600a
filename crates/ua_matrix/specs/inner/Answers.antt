-- What is told of centrality: what private functions say.
use Rattle.std.specs.Prelude.{List, replicate}
use Rattle.ua_table.specs.Algebras.{FiniteAlgebra, arities}
use Rattle.ua_table.specs.Listings.{Row}
use Rattle.ua_part.specs.Partitions.{Partition}
use Rattle.ua_matrix.specs.declared.centrality.Central.{Central}
use Rattle.ua_matrix.specs.declared.centrality.Central.TheVariants.{Yes, No, Exceeds}
use Rattle.ua_matrix.specs.Centrality.{Centralizes}
use Rattle.ua_matrix.specs.Answers.{IsRefutation, IsListedRefutation}

-- what a list of all matrices tells
abbrev pub IsJudged : FiniteAlgebra → Partition → Partition → Partition → List Row → Central → Type 0
IsJudged a alpha beta delta rows Yes = Centralizes a alpha beta delta
IsJudged a alpha beta delta rows (No matrix steps) = (¬ Centralizes a alpha beta delta) × IsRefutation a alpha beta delta matrix steps × IsListedRefutation (arities (replicate 4 a)) delta rows matrix steps
IsJudged a alpha beta delta rows Exceeds = ⊥
