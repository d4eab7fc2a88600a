-- Each command on congruences has a reply.
use Rattle.std.proofs.Common.{◌≡◌, ◌⊎◌, inl, inr, ℕ, ◌≤◌, List, length, Some, refl}
use Rattle.std.specs.List.{AllByRecursion}
use Rattle.ua_table.specs.declared.limits.TheConstants.{SIZE, BUDGET}
use Rattle.ua_table.specs.Algebras.{FiniteAlgebra, IsAlgebra}
use Rattle.ua_part.specs.Partitions.{Partition, IsPartition}
use Rattle.ua_part.specs.Blocks.{AreBlocks, HasBlocks, partition_text}
use Rattle.ua_part.proofs.PartsExist.{part_with_blocks, part_has_blocks, part_size}
use Rattle.ua_prod.specs.Congruences.{IsCongruence}
use Rattle.ua_prod.specs.Clashes.{HasFirstClash}
use Rattle.ua_cong.specs.Closings.{AreElements}
use Rattle.ua_cong.specs.Generated.{HasCg}
use Rattle.ua_lattice.specs.declared.lattice.Lattice.{Lattice}
use Rattle.ua_lattice.specs.Answers.{IsLatticeOf, HasLattice}
use Rattle.ua_matrix.specs.Permitted.{MayBeCentral}
use Rattle.ua_comm.specs.declared.members.Kind.{Kind}
use Rattle.ua_comm.specs.Permitted.{MayCommute, MayDescend}
use Rattle.ua_type.specs.Permitted.{MayTypes}
use Rattle.ua_close.specs.declared.close.CloseError.TheVariants.{OutOfMemory}
use Rattle.ua_close.specs.Permitted.{IsAnswerable}
use Rattle.ua_text.specs.declared.named.Block.{Block}
use Rattle.ua_operands.specs.declared.written.Word.{Word}
use Rattle.ua_operands.specs.declared.written.Items.{Items}
use Rattle.ua_operands.specs.declared.written.PartText.{PartText}
use Rattle.ua_operands.specs.declared.written.SeriesWord.{SeriesWord}
use Rattle.ua_reply.specs.Sessions.{Bounds, AreAlgebras, lookup}
use Rattle.ua_reply.specs.Checks.{Passes, passed, ◌and◌}
use Rattle.ua_reply.specs.Operands.{pairs_of, vectors_in}
use Rattle.ua_reply.specs.Parts.{blocks_of, part_in}
use Rattle.ua_reply.specs.Refusals.{congruence_text}
use Rattle.ua_reply.specs.Replies.{HasBytes}
use Rattle.ua_reply.specs.Texts.{line}
use Rattle.ua_reply.proofs.CheckLaws.{parts_pass}
use Rattle.ua_reply.proofs.OperandLaws.{pairs_below}
use Rattle.ua_reply.proofs.PartLaws.{blocks_true, part_blocks}
use Rattle.ua_reply.proofs.RepliesExist.{says_exists, known_table, answered_on}
use Rattle.ua_answer_congruences.specs.Congruences.{OfCongruence}
use Rattle.ua_answer_congruences.specs.CgCommand.{CgAnswer, CgReply}
use Rattle.ua_answer_congruences.specs.ConCommand.{lattice_text, ConAnswer, ConReply}
use Rattle.ua_answer_congruences.specs.TypesCommand.{types_text, TypesAnswer, TypesReply}
use Rattle.ua_answer_congruences.specs.CentralCommand.{central_checks, central_text, CentralSays, CentralAnswer, CentralReply}
use Rattle.ua_answer_congruences.specs.CommCommand.{comm_checks, comm_text, CommSays, CommAnswer, CommReply}
use Rattle.ua_answer_congruences.specs.SeriesCommand.{kind_of, series_text, SeriesAnswer, SeriesReply}

-- ---- congruences as operands

-- a partition is a congruence, or has a first clash
abbrev pub HaveClashes : Type 0
HaveClashes = (a : FiniteAlgebra) (p : Partition) → IsAlgebra a → IsPartition p → length p ≡ a.size → IsCongruence a p ⊎ HasFirstClash a p

-- what is said of a partition, if something is said of each congruence
of_part : (k : Block) (p : PartText) (Answer : Partition → List ℕ → Type 0) (q : Partition) → HasBlocks (blocks_of p) q → IsCongruence k.algebra q ⊎ HasFirstClash k.algebra q
    → ((q : Partition) → IsCongruence k.algebra q → HasBytes (Answer q)) → HasBytes (OfCongruence k p Answer)
of_part k p Answer q blocks (inl is) each = let h = each q is in record { bytes = h.bytes; are = record { partition = q; blocks = blocks; answered = inr (is, h.are) } }
of_part k p Answer q blocks (inr clash) each =
    record { bytes = congruence_text k p.place clash.clash; are = record { partition = q; blocks = blocks; answered = inl record { clash = clash.clash; first = clash.is; text = refl } } }

operand : HaveClashes → (k : Block) (p : PartText) (Answer : Partition → List ℕ → Type 0) → IsAlgebra k.algebra → Passes (part_in k p) → ((q : Partition) → IsCongruence k.algebra q → HasBytes (Answer q))
    → HasBytes (OfCongruence k p Answer)
operand have k p Answer algebra passes each =
    let n = k.algebra.size in
    let are : AreBlocks n (blocks_of p) = blocks_true n (blocks_of p) (part_blocks k p passes) in
    let q = part_with_blocks n (blocks_of p) are in
    let blocks = part_has_blocks n (blocks_of p) are in
    of_part k p Answer q blocks (have k.algebra q algebra blocks.partition (part_size n (blocks_of p) are)) each

-- ---- generated congruences

abbrev pub HaveCg : Type 0
HaveCg = (a : FiniteAlgebra) (pairs : List (ℕ × ℕ)) → IsAlgebra a → AllByRecursion (AreElements a) pairs → HasCg a pairs

pub cg_replied : HaveCg → (s : List Block) (w : Word) (pairs : List Items) → AreAlgebras s → HasBytes (CgReply s w pairs)
cg_replied have s w pairs algebras = answered_on s w (λ k. vectors_in k 2 pairs) (λ k. CgAnswer k (pairs_of k pairs)) each
  where
    each : (k : Block) → lookup s w.name ≡ Some k → Passes (vectors_in k 2 pairs) → HasBytes (CgAnswer k (pairs_of k pairs))
    each k known passes =
        let c = have k.algebra (pairs_of k pairs) (known_table s w.name k algebras known).algebra (pairs_below k pairs passes) in
        record { bytes = line (partition_text c.congruence); are = record { answer = c.congruence; permitted = c.is; told = refl } }

-- ---- all congruences, and the type of each cover

abbrev pub HaveLattices : Type 0
HaveLattices = (a : FiniteAlgebra) (budget : ℕ) → IsAlgebra a → budget ≤ BUDGET → HasLattice a budget

pub con_replied : HaveLattices → (s : List Block) (b : Bounds) (w : Word) → AreAlgebras s → b.budget ≤ BUDGET → HasBytes (ConReply s b w)
con_replied have s b w algebras few = answered_on s w (λ k. passed) (λ k. ConAnswer k b) each
  where
    each : (k : Block) → lookup s w.name ≡ Some k → Passes passed → HasBytes (ConAnswer k b)
    each k known passes =
        let l = have k.algebra b.budget (known_table s w.name k algebras known).algebra few in
        record { bytes = lattice_text b.budget l.lattice; are = record { answer = l.lattice; permitted = l.is; told = refl } }

abbrev pub CanType : Type 0
CanType = (a : FiniteAlgebra) (budget : ℕ) (lattice : Lattice) → IsAlgebra a → IsLatticeOf a budget lattice → IsAnswerable (MayTypes a budget) OutOfMemory

pub types_replied : HaveLattices → CanType → (s : List Block) (b : Bounds) (w : Word) → AreAlgebras s → b.budget ≤ BUDGET → HasBytes (TypesReply s b w)
types_replied have can s b w algebras few = answered_on s w (λ k. passed) (λ k. TypesAnswer k b) each
  where
    each : (k : Block) → lookup s w.name ≡ Some k → Passes passed → HasBytes (TypesAnswer k b)
    each k known passes =
        let algebra = (known_table s w.name k algebras known).algebra in
        let l = have k.algebra b.budget algebra few in
        says_exists (MayTypes k.algebra b.budget) (types_text b.budget) (can k.algebra b.budget l.lattice algebra l.is)

-- ---- centrality, commutators and series

abbrev pub CanCentralize : Type 0
CanCentralize = (a : FiniteAlgebra) (alpha beta delta : Partition) (b w : ℕ) → IsAlgebra a → IsCongruence a alpha → IsCongruence a beta → IsCongruence a delta → IsAnswerable (MayBeCentral a alpha beta delta b w) OutOfMemory

pub central_replied : HaveClashes → CanCentralize → (s : List Block) (b : Bounds) (w : Word) (alpha beta delta : PartText) → AreAlgebras s → HasBytes (CentralReply s b w alpha beta delta)
central_replied have can s b w alpha beta delta algebras = answered_on s w (λ k. central_checks k alpha beta delta) (λ k. CentralAnswer k b alpha beta delta) each
  where
    each : (k : Block) → lookup s w.name ≡ Some k → Passes (central_checks k alpha beta delta) → HasBytes (CentralAnswer k b alpha beta delta)
    each k known passes =
        let algebra = (known_table s w.name k algebras known).algebra in
        let last = parts_pass (part_in k alpha and part_in k beta) (part_in k delta) passes in
        let first = parts_pass (part_in k alpha) (part_in k beta) last.0 in
        operand have k alpha (λ p. OfCongruence k beta (λ q. OfCongruence k delta (CentralSays k b p q))) algebra first.0 (λ p is_p.
        operand have k beta (λ q. OfCongruence k delta (CentralSays k b p q)) algebra first.1 (λ q is_q.
        operand have k delta (CentralSays k b p q) algebra last.1 (λ r is_r.
        says_exists (MayBeCentral k.algebra p q r b.budget b.workers) (central_text k b.budget) (can k.algebra p q r b.budget b.workers algebra is_p is_q is_r))))

abbrev pub CanCommute : Type 0
CanCommute = (a : FiniteAlgebra) (alpha beta : Partition) (b : ℕ) → IsAlgebra a → IsCongruence a alpha → IsCongruence a beta → IsAnswerable (MayCommute a alpha beta b) OutOfMemory

pub comm_replied : HaveClashes → CanCommute → (s : List Block) (b : Bounds) (w : Word) (alpha beta : PartText) → AreAlgebras s → HasBytes (CommReply s b w alpha beta)
comm_replied have can s b w alpha beta algebras = answered_on s w (λ k. comm_checks k alpha beta) (λ k. CommAnswer k b alpha beta) each
  where
    each : (k : Block) → lookup s w.name ≡ Some k → Passes (comm_checks k alpha beta) → HasBytes (CommAnswer k b alpha beta)
    each k known passes =
        let algebra = (known_table s w.name k algebras known).algebra in
        let both = parts_pass (part_in k alpha) (part_in k beta) passes in
        operand have k alpha (λ p. OfCongruence k beta (CommSays k b p)) algebra both.0 (λ p is_p.
        operand have k beta (CommSays k b p) algebra both.1 (λ q is_q.
        says_exists (MayCommute k.algebra p q b.budget) (comm_text b.budget) (can k.algebra p q b.budget algebra is_p is_q)))

abbrev pub CanDescend : Type 0
CanDescend = (a : FiniteAlgebra) (kind : Kind) (b : ℕ) → IsAlgebra a → a.size ≤ SIZE → IsAnswerable (MayDescend a kind b) OutOfMemory

pub series_replied : CanDescend → (s : List Block) (b : Bounds) (w : Word) (kind : SeriesWord) → AreAlgebras s → HasBytes (SeriesReply s b w kind)
series_replied can s b w kind algebras = answered_on s w (λ k. passed) (λ k. SeriesAnswer k b kind) each
  where
    each : (k : Block) → lookup s w.name ≡ Some k → Passes passed → HasBytes (SeriesAnswer k b kind)
    each k known passes =
        let t = known_table s w.name k algebras known in
        says_exists (MayDescend k.algebra (kind_of kind) b.budget) (series_text b.budget) (can k.algebra (kind_of kind) b.budget t.algebra t.small)
