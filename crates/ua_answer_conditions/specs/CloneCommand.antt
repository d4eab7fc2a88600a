-- The command `clone`: where its operands fail, and what it is answered.
use Rattle.std.specs.Prelude.{ℕ, ◌+◌, ◌^◌, ◌≤◌, not, List, [], ◌∷◌, length, take}
use Rattle.ua_table.specs.declared.limits.TheConstants.{SCRIPT}
use Rattle.ua_text.specs.Words.{among}
use Rattle.ua_text.specs.declared.named.Block.{Block}
use Rattle.ua_operands.specs.declared.written.Word.{Word}
use Rattle.ua_operands.specs.declared.written.Number.{Number}
use Rattle.ua_operands.specs.declared.written.Items.{Items}
use Rattle.ua_operands.specs.declared.written.CloneWord.{CloneWord}
use Rattle.ua_operands.specs.declared.written.CloneWord.TheVariants.{Term, Polynomial}
use Rattle.ua_operands.specs.declared.written.PointsText.{PointsText}
use Rattle.ua_operands.specs.declared.written.PointsText.TheVariants.{Total, Partial}
use Rattle.ua_clone.specs.declared.kinds.CloneKind.{CloneKind}
use Rattle.ua_clone.specs.declared.kinds.CloneKind.TheVariants.{TermOps, Polynomials}
use Rattle.ua_clone.specs.Points.{Point, total_points, partial_points}
use Rattle.ua_clone.specs.Permitted.{MayClone}
use Rattle.ua_reply.specs.Sessions.{Bounds}
use Rattle.ua_reply.specs.Checks.{Checks, passed, shape_at, unless, ◌and◌}
use Rattle.ua_reply.specs.Closures.{member_text, told}
use Rattle.ua_reply.specs.Operands.{values_of, vectors_of, vector_in, variables_checks}
use Rattle.ua_reply.specs.Replies.{Says, AnsweredOn}

-- the operations of this word
abbrev pub kind_of : CloneWord → CloneKind
kind_of Term = TermOps
kind_of Polynomial = Polynomials

-- a value for each assignment of elements to k variables, each an element
abbrev pub total_in : Block → ℕ → Items → Checks
total_in b k v = vector_in b (b.algebra.size ^ k) v

-- the arguments in a vector of k arguments and a value
abbrev pub arguments_of : Block → ℕ → Items → List ℕ
arguments_of b k v = take k (values_of b v)

-- k arguments and a value, each an element, and the arguments are none of those before
abbrev pub point_in : Block → ℕ → List (List ℕ) → Items → Checks
point_in b k before v = vector_in b (k + 1) v and shape_at (unless (not (among (arguments_of b k v) before)) v.place)

-- each vector, behind those with these arguments
abbrev pub points_in : Block → ℕ → List (List ℕ) → List Items → Checks
points_in b k before [] = passed
points_in b k before (v ∷ vs) = point_in b k before v and points_in b k (arguments_of b k v ∷ before) vs

-- the points that are written, with k arguments each
abbrev pub written_points : Block → ℕ → PointsText → List Point
written_points b k (Total v) = total_points b.algebra.size k (values_of b v)
written_points b k (Partial v vs) = partial_points k (vectors_of b (v ∷ vs))

-- there are no more vectors than a script has bytes
abbrev pub IsShortTable : PointsText → Type 0
IsShortTable (Total v) = Unit {0}
IsShortTable (Partial v vs) = length vs ≤ SCRIPT

-- where they fail
abbrev pub table_checks : Block → ℕ → PointsText → Checks
table_checks b k (Total v) = total_in b k v
table_checks b k (Partial v vs) = points_in b k [] (v ∷ vs)

-- clone NAME K term total [..], and so on: there are no more variables than their limit
abbrev pub clone_checks : Block → Number → PointsText → Checks
clone_checks b k points = variables_checks k and table_checks b k.value points

-- steps of a polynomial that agrees with the points, or the rows where there is none
abbrev pub CloneAnswer : Block → Bounds → ℕ → CloneKind → List Point → List ℕ → Type 0
CloneAnswer k b variables kind points bytes = Says (MayClone k.algebra variables kind points b.budget b.workers) (told (member_text k b.budget)) bytes

abbrev pub CloneReply : List Block → Bounds → Word → Number → CloneWord → PointsText → List ℕ → Type 0
CloneReply s b w k kind points bytes =
    AnsweredOn s w (λ known. clone_checks known k points) (λ known. CloneAnswer known b k.value (kind_of kind) (written_points known k.value points)) bytes
