-- The command `condition`: the condition that is written, where its operands fail, and what it is answered.
use Rattle.std.specs.Prelude.{ℕ, suc, nat_le, ◌&&◌, ◌==◌, List, ◌∷◌, length, map}
use Rattle.std.specs.List.{flat_map}
use Rattle.ua_table.specs.Numbering.{greatest}
use Rattle.ua_identity.specs.declared.limits.TheConstants.{PLACES}
use Rattle.ua_identity.specs.Identities.{TermIdentity}
use Rattle.ua_identity.specs.Conditions.{TermCondition}
use Rattle.ua_text.specs.declared.named.Block.{Block}
use Rattle.ua_operands.specs.declared.written.Word.{Word}
use Rattle.ua_operands.specs.declared.written.Number.{Number}
use Rattle.ua_operands.specs.declared.written.Variable.{Variable}
use Rattle.ua_operands.specs.declared.written.Variable.TheVariants.{X, Y, Z, W}
use Rattle.ua_operands.specs.declared.written.IdentityText.{IdentityText}
use Rattle.ua_reply.specs.Sessions.{Bounds}
use Rattle.ua_reply.specs.Checks.{Checks, range_at, shape_at, unless, ◌and◌, all_in}
use Rattle.ua_reply.specs.Replies.{AnsweredOn}
use Rattle.ua_answer_conditions.specs.CondCommand.{ConditionAnswer}

-- x, y, z and w by number
abbrev pub number_of : Variable → ℕ
number_of X = 0
number_of Y = 1
number_of Z = 2
number_of W = 3

-- the variables of an identity, that of its value first
abbrev pub numbers_in : IdentityText → List ℕ
numbers_in i = number_of i.value ∷ map number_of i.args

-- one more than the greatest variable of all identities
abbrev pub variables_in : List IdentityText → ℕ
variables_in is = suc (greatest (flat_map numbers_in is))

-- an identity over so many variables
abbrev pub identity_of : ℕ → IdentityText → TermIdentity
identity_of n i = record { pattern = record { variables = n; places = map number_of i.args }; value = number_of i.value }

-- the condition that is written
abbrev pub condition_of : Number → List IdentityText → TermCondition
condition_of k is = record { arity = k.value; identities = map (identity_of (variables_in is)) is }

-- a term has from 1 to 16 places
abbrev pub arity_in : Number → Checks
arity_in k = range_at (unless (nat_le 1 k.value && nat_le k.value PLACES) k.place)

-- an identity fills all of them
abbrev pub identity_in : Number → IdentityText → Checks
identity_in k i = shape_at (unless (length i.args == k.value) i.place)

-- condition NAME K (x y) = x ..
abbrev pub condition_checks : Number → List IdentityText → Checks
condition_checks k is = arity_in k and all_in (identity_in k) is

abbrev pub ConditionReply : List Block → Bounds → Word → Number → List IdentityText → List ℕ → Type 0
ConditionReply s b w k is bytes = AnsweredOn s w (λ known. condition_checks k is) (λ known. ConditionAnswer known b (condition_of k is)) bytes
