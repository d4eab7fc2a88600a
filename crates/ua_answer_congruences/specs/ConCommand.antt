-- The command `con`: what it is answered.
use Rattle.std.specs.Prelude.{ℕ, List, ◌++◌, length, Some, codes}
use Rattle.ua_part.specs.Blocks.{partition_text}
use Rattle.ua_lattice.specs.declared.lattice.Lattice.{Lattice}
use Rattle.ua_lattice.specs.declared.lattice.Lattice.TheVariants.{Whole, Exceeds}
use Rattle.ua_lattice.specs.Answers.{IsLatticeOf}
use Rattle.ua_operands.specs.declared.written.Word.{Word}
use Rattle.ua_text.specs.declared.named.Block.{Block}
use Rattle.ua_reply.specs.Sessions.{Bounds}
use Rattle.ua_reply.specs.Checks.{passed}
use Rattle.ua_reply.specs.Replies.{Says, AnsweredOn}
use Rattle.ua_reply.specs.Texts.{line, lines, numbered, counted, pair_text, listed_text}

-- the congruences with their numbers, the pairs of which the second covers the first, and those that are irreducible
abbrev pub lattice_text : ℕ → Lattice → List ℕ
lattice_text budget (Whole list covers irreducibles) =
    line (counted (codes "congruences") (length list.items)) ++ numbered partition_text 0 list.items
    ++ line (counted (codes "covers") (length covers.items)) ++ lines pair_text covers.items
    ++ listed_text (codes "join irreducibles") irreducibles.items
lattice_text budget (Exceeds list) = line (counted (codes "exceeds") budget) ++ lines partition_text list.items

abbrev pub ConAnswer : Block → Bounds → List ℕ → Type 0
ConAnswer k b bytes = Says (IsLatticeOf k.algebra b.budget) (λ lattice. Some (lattice_text b.budget lattice)) bytes

-- con NAME
abbrev pub ConReply : List Block → Bounds → Word → List ℕ → Type 0
ConReply s b w bytes = AnsweredOn s w (λ k. passed) (λ k. ConAnswer k b) bytes
