-- Each command on conditions, clones and identities has a reply.
use Rattle.std.proofs.Common.{◌≡◌, ℕ, ◌<◌, ◌≤◌, ◌&&◌, nat_le, List, ◌++◌, length, Option, Some, None, Result, Ok, Err, Vec, refl, sym, ap, arith}
use Rattle.std.specs.Prelude.{codes}
use Rattle.std.specs.List.{AllByRecursion}
use Rattle.std.specs.declared.alloc.Global.{Global}
use Rattle.std.proofs.lemmas.Bool.{and_parts, leb-true}
use Rattle.ua_table.specs.declared.limits.TheConstants.{VARIABLES}
use Rattle.ua_table.specs.Algebras.{FiniteAlgebra, IsAlgebra, arities_of}
use Rattle.ua_table.specs.Terms.{Tree}
use Rattle.ua_chain.specs.Permitted.{MayChain}
use Rattle.ua_term.specs.Phrases.{Phrase}
use Rattle.ua_term.specs.Meanings.{first_place, tree_in}
use Rattle.ua_term.specs.Resolved.{IsMeant}
use Rattle.ua_term.proofs.MeantTerms.{meant_term}
use Rattle.ua_identity.specs.declared.limits.TheConstants.{PLACES, NEAR_UNANIMITY}
use Rattle.ua_identity.specs.Conditions.{TermCondition, IsCondition, near_unanimity}
use Rattle.ua_identity.proofs.NamedLaws.{maltsev_is, majority_is, minority_is, pixley_is, near_unanimity_is}
use Rattle.ua_close.specs.declared.close.CloseError.TheVariants.{OutOfMemory}
use Rattle.ua_close.specs.Permitted.{IsAnswerable}
use Rattle.ua_cond.specs.Permitted.{MayDecide}
use Rattle.ua_clone.specs.declared.kinds.CloneKind.{CloneKind}
use Rattle.ua_clone.specs.Points.{Point, IsPoint}
use Rattle.ua_clone.specs.Permitted.{MayClone}
use Rattle.ua_free.specs.Identities.{variables_of, variables_in}
use Rattle.ua_free.specs.Permitted.{MayHold}
use Rattle.ua_free.specs.declared.identities.HoldsError.{HoldsError}
use Rattle.ua_free.specs.declared.identities.HoldsError.TheVariants as causes
use Rattle.ua_free.proofs.VariableLaws.{variables_low}
use Rattle.ua_text.specs.declared.named.Block.{Block}
use Rattle.ua_operands.specs.declared.written.Word.{Word}
use Rattle.ua_operands.specs.declared.written.Number.{Number}
use Rattle.ua_operands.specs.declared.written.CondWord.{CondWord}
use Rattle.ua_operands.specs.declared.written.CondWord.TheVariants.{Maltsev, Majority, Minority, Pixley}
use Rattle.ua_operands.specs.declared.written.CloneWord.{CloneWord}
use Rattle.ua_operands.specs.declared.written.PointsText.{PointsText}
use Rattle.ua_operands.specs.declared.written.IdentityText.{IdentityText}
use Rattle.ua_reply.specs.declared.refusals.Refusal.TheVariants.{Wide}
use Rattle.ua_reply.specs.Sessions.{Bounds, AreAlgebras}
use Rattle.ua_reply.specs.Checks.{Checks, Passes, passed}
use Rattle.ua_reply.specs.Closures.{member_text}
use Rattle.ua_reply.specs.Operands.{term_in}
use Rattle.ua_reply.specs.Refusals.{refusal_text}
use Rattle.ua_reply.specs.Replies.{HasBytes, AnsweredOn}
use Rattle.ua_reply.specs.Texts.{line, vector_text}
use Rattle.ua_reply.proofs.CheckLaws.{parts_pass, known_step}
use Rattle.ua_reply.proofs.RepliesExist.{some_said, says_exists, known_algebra, answered_on}
use Rattle.ua_answer_conditions.specs.CondCommand.{condition_of, nu_checks, ConditionAnswer, CondReply, NuReply}
use Rattle.ua_answer_conditions.specs.ConditionCommand as written
use Rattle.ua_answer_conditions.specs.ConditionCommand.{condition_checks, ConditionReply}
use Rattle.ua_answer_conditions.specs.CloneCommand.{kind_of, written_points, clone_checks, CloneAnswer, CloneReply}
use Rattle.ua_answer_conditions.specs.HoldsCommand.{holds_checks, holds_text, HoldsAnswer, HoldsReply}
use Rattle.ua_answer_conditions.proofs.WrittenConditions.{is_condition, few_letters}
use Rattle.ua_answer_conditions.proofs.WrittenTables.{points_written}
use Rattle.ua_chain.specs.declared.least_chains.NamedKind.{NamedKind}
use Rattle.ua_chain.specs.Names.{kind_named}
use Rattle.ua_answer_conditions.specs.ChainCommand.{chain_text, ChainAnswer, ChainReply}

-- ---- conditions

-- whether some term meets a condition can be told
abbrev pub CanDecide : Type 0
CanDecide = (a : FiniteAlgebra) (c : TermCondition) (b w : ℕ) → IsAlgebra a → IsCondition c → IsAnswerable (MayDecide a c b w) OutOfMemory

decided : (k : Block) (b : Bounds) (c : TermCondition) → IsAnswerable (MayDecide k.algebra c b.budget b.workers) OutOfMemory → HasBytes (ConditionAnswer k b c)
decided k b c h = says_exists (MayDecide k.algebra c b.budget b.workers) (member_text k b.budget) h

-- on the algebra of a name, where what passes the checks is a condition
deciding : CanDecide → (s : List Block) (b : Bounds) (w : Word) (checks : Checks) (c : TermCondition) → AreAlgebras s → (Passes checks → IsCondition c)
    → HasBytes (AnsweredOn s w (λ k. checks) (λ k. ConditionAnswer k b c))
deciding can s b w checks c algebras is =
    answered_on s w (λ k. checks) (λ k. ConditionAnswer k b c) (λ k known passes.
    decided k b c (can k.algebra c b.budget b.workers (known_algebra s w.name k algebras known) (is passes)))

-- the condition of a word is one
pub named_condition : (name : CondWord) → IsCondition (condition_of name)
named_condition Maltsev = maltsev_is
named_condition Majority = majority_is
named_condition Minority = minority_is
named_condition Pixley = pixley_is

pub cond_replied : CanDecide → (s : List Block) (b : Bounds) (w : Word) (name : CondWord) → AreAlgebras s → HasBytes (CondReply s b w name)
cond_replied can s b w name algebras = deciding can s b w passed (condition_of name) algebras (λ passes. named_condition name)

-- where the number of variables passes, it is that of a near-unanimity term
pub near_unanimous : (k : Number) → Passes (nu_checks k) → IsCondition (near_unanimity k.value)
near_unanimous k h =
    let test = known_step (nat_le NEAR_UNANIMITY k.value && nat_le k.value PLACES) k.place h.range in
    let both = and_parts (nat_le NEAR_UNANIMITY k.value) (nat_le k.value PLACES) test in
    let least = leb-true NEAR_UNANIMITY k.value both.0 in
    near_unanimity_is k.value (omega (arith, least)) (leb-true k.value PLACES both.1)

pub nu_replied : CanDecide → (s : List Block) (b : Bounds) (w : Word) (k : Number) → AreAlgebras s → HasBytes (NuReply s b w k)
nu_replied can s b w k algebras = deciding can s b w (nu_checks k) (near_unanimity k.value) algebras (near_unanimous k)

pub condition_replied : CanDecide → (s : List Block) (b : Bounds) (w : Word) (k : Number) (is : List IdentityText) → AreAlgebras s → 0 < length is → HasBytes (ConditionReply s b w k is)
condition_replied can s b w k is algebras some =
    deciding can s b w (condition_checks k is) (written.condition_of k is) algebras (λ passes. is_condition k is passes some (few_letters is))

-- ---- clones

-- whether some polynomial agrees with points can be told
abbrev CanAgree : Type 0
CanAgree = (a : FiniteAlgebra) (k : ℕ) (kind : CloneKind) (ps : List Point) (b w : ℕ) → IsAlgebra a → 0 < length ps → AllByRecursion (IsPoint a.size k) ps → IsAnswerable (MayClone a k kind ps b w) OutOfMemory

agreeing : CanAgree → (known : Block) (b : Bounds) (k : Number) (kind : CloneKind) (points : PointsText) → IsAlgebra known.algebra → Passes (clone_checks known k points)
    → HasBytes (CloneAnswer known b k.value kind (written_points known k.value points))
agreeing can known b k kind points algebra passes =
    let a = known.algebra in
    let ps = written_points known k.value points in
    let are = points_written known k points algebra.inhabited passes in
    says_exists (MayClone a k.value kind ps b.budget b.workers) (member_text known b.budget) (can a k.value kind ps b.budget b.workers algebra are.0 are.1)

pub clone_replied : CanAgree → (s : List Block) (b : Bounds) (w : Word) (k : Number) (kind : CloneWord) (points : PointsText) → AreAlgebras s → HasBytes (CloneReply s b w k kind points)
clone_replied can s b w k kind points algebras =
    answered_on s w (λ known. clone_checks known k points) (λ known. CloneAnswer known b k.value (kind_of kind) (written_points known k.value points)) (λ known found passes.
    agreeing can known b k (kind_of kind) points (known_algebra s w.name known algebras found) passes)

-- ---- identities

-- what is not want of memory has a text
told_identity : (k : Block) (answer : Result (Option (Vec ℕ Global)) HoldsError) → (answer ≡ Err causes.OutOfMemory → ⊥) → (bytes : List ℕ) × (holds_text k answer ≡ Some bytes)
told_identity k (Ok None) h = (line (codes "holds"), refl)
told_identity k (Ok (Some xs)) h = (line (codes "fails " ++ vector_text k xs.items), refl)
told_identity k (Err (causes.Wide n)) h = (refusal_text (Wide 0 n), refl)
told_identity k (Err causes.OutOfMemory) h = absurd (h refl)

-- a term that passes has no more variables than their limit
few_variables : (k : Block) (t : Phrase) → Passes (term_in k VARIABLES t) → variables_of (tree_in k.algebra t) ≤ VARIABLES
few_variables k t h =
    let tree = tree_in k.algebra t in
    let meant : IsMeant k.algebra t tree = record { known = h.unknown; shaped = h.shape; tree = refl } in
    variables_low (arities_of k.algebra) VARIABLES tree (meant_term k.algebra VARIABLES t tree meant (ap first_place (sym h.range)))

-- whether an identity holds can be told
abbrev CanHold : Type 0
CanHold = (a : FiniteAlgebra) (s t : Tree) → variables_in s t ≤ VARIABLES → IsAnswerable (MayHold a s t) causes.OutOfMemory

holding : CanHold → (k : Block) (left right : Phrase) → Passes (holds_checks k left right) → HasBytes (HoldsAnswer k (tree_in k.algebra left) (tree_in k.algebra right))
holding can k left right passes =
    let s = tree_in k.algebra left in
    let t = tree_in k.algebra right in
    let both = parts_pass (term_in k VARIABLES left) (term_in k VARIABLES right) passes in
    let first = few_variables k left both.0 in
    let second = few_variables k right both.1 in
    some_said (MayHold k.algebra s t) causes.OutOfMemory (holds_text k) (can k.algebra s t (omega (arith, first, second))) (told_identity k)

pub holds_replied : CanHold → (s : List Block) (w : Word) (left right : Phrase) → HasBytes (HoldsReply s w left right)
holds_replied can s w left right =
    answered_on s w (λ k. holds_checks k left right) (λ k. HoldsAnswer k (tree_in k.algebra left) (tree_in k.algebra right)) (λ k known passes. holding can k left right passes)

-- ---- chains

-- a least chain of each kind that has a name can be told
abbrev pub CanChain : Type 0
CanChain = (a : FiniteAlgebra) (asked : NamedKind) (b w : ℕ) → IsAlgebra a → IsAnswerable (MayChain a (kind_named asked) b w) OutOfMemory

pub chain_replied : CanChain → (s : List Block) (b : Bounds) (w : Word) (asked : NamedKind) → AreAlgebras s → HasBytes (ChainReply s b w asked)
chain_replied can s b w asked algebras =
    let kind = kind_named asked in
    answered_on s w (λ k. passed) (λ k. ChainAnswer k b kind) (λ k known passes.
    says_exists (MayChain k.algebra kind b.budget b.workers) (chain_text k b.budget kind) (can k.algebra asked b.budget b.workers (known_algebra s w.name k algebras known)))
