-- What a refused command is told.
use Rattle.std.specs.Prelude.{ℕ, ◌<◌, List, [], ◌∷◌, ◌++◌, length, take, slice_get, slice_set, slice_index, Option, None, Some, codes}
use Rattle.std.specs.Fmt.{decimal}
use Rattle.ua_table.specs.Algebras.{FiniteAlgebra, Operation, arities_of}
use Rattle.ua_prod.specs.declared.clashes.Clash.{Clash}
use Rattle.ua_text.specs.declared.tokens.Place.{Place}
use Rattle.ua_text.specs.declared.named.Block.{Block}
use Rattle.ua_reply.specs.declared.refusals.Refusal.{Refusal}
use Rattle.ua_reply.specs.declared.refusals.Refusal.TheVariants.{Unknown, Range, Shape, Signature, Size, Wide}
use Rattle.ua_reply.specs.Texts.{line, place_text, tuple_text}

abbrev pub refusal_text : Refusal → List ℕ
refusal_text (Unknown p) = line (codes "error unknown " ++ place_text p)
refusal_text (Range p) = line (codes "error range " ++ place_text p)
refusal_text (Shape p) = line (codes "error shape " ++ place_text p)
refusal_text (Signature p) = line (codes "error signature " ++ place_text p)
refusal_text (Size p) = line (codes "error size " ++ place_text p)
refusal_text (Wide r c) = line (codes "error wide " ++ decimal r ++ 32 ∷ decimal c)

-- the operation is one of the algebra, and the place is one of its arguments
pub record IsClashOf (a : FiniteAlgebra) (c : Clash) : Type 0 where
  pub op : c.op < length (arities_of a)
  pub place : c.place < slice_index (arities_of a) c.op

-- plus [0 1] [1 1]: an operation, and the two tuples of a clash by their numbers, the second with the other element in its place
abbrev pub clash_text : Option Operation → Clash → List ℕ
clash_text None c = []
clash_text (Some o) c = o.name ++ 32 ∷ tuple_text (take o.arity c.args) ++ 32 ∷ tuple_text (take o.arity (slice_set c.args c.place c.other))

-- error congruence 4:9 plus [0 1] [1 1]
abbrev pub congruence_text : Block → Place → Clash → List ℕ
congruence_text k place c = line (codes "error congruence " ++ place_text place ++ 32 ∷ clash_text (slice_get k.algebra.operations c.op) c)
