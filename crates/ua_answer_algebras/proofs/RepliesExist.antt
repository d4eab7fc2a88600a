-- Each command on closures, subalgebras, maps, values of terms and certificates has a reply.
use Rattle.std.proofs.Common.{◌≡◌, ℕ, ◌^◌, List, ◌++◌, length, Some, Result, Ok, Err, refl}
use Rattle.std.specs.Prelude.{codes}
use Rattle.std.specs.List.{AllByRecursion}
use Rattle.ua_table.specs.Algebras.{Vector, FiniteAlgebra, Product, IsAlgebra, IsProduct, IsVector}
use Rattle.ua_table.specs.Terms.{eval}
use Rattle.ua_table.proofs.AlgebraLaws.{power_product}
use Rattle.ua_term.specs.Phrases.{Phrase}
use Rattle.ua_term.specs.Meanings.{tree_in}
use Rattle.ua_term.specs.Assignments.{projections, power_of_assignments}
use Rattle.ua_close.specs.declared.close.Closure.{Closure}
use Rattle.ua_close.specs.declared.close.Closure.TheVariants.{Closed, Exceeds}
use Rattle.ua_close.specs.declared.close.CloseError.{CloseError}
use Rattle.ua_close.specs.declared.close.CloseError.TheVariants as failures
use Rattle.ua_close.specs.Permitted.{MayClose, MayCount, MayMember, IsAnswerable}
use Rattle.ua_close.proofs.AnswerLaws.{may_close, may_count, may_member}
use Rattle.ua_close.proofs.LeastExists.{least_exists}
use Rattle.ua_free.proofs.MemberLaws.{power_some, projections_admitted}
use Rattle.ua_sub.specs.Members.{HasMembers, HasOnes}
use Rattle.ua_sub.specs.Permitted.{AreElements, MayMap}
use Rattle.ua_sub.specs.declared.homs.Hom.{Hom}
use Rattle.ua_sub.specs.declared.homs.HomError.{HomError}
use Rattle.ua_sub.specs.declared.homs.HomError.TheVariants as causes
use Rattle.ua_cert.specs.declared.certs.Cert.{Cert}
use Rattle.ua_cert.specs.declared.faults.CertError.{CertError}
use Rattle.ua_cert.specs.declared.faults.CertError.TheVariants as errors
use Rattle.ua_cert.specs.Certificates.{IsTold}
use Rattle.ua_check.specs.Checking.{flaw_of}
use Rattle.ua_text.specs.declared.tokens.Place.{Place}
use Rattle.ua_text.specs.declared.named.Block.{Block}
use Rattle.ua_operands.specs.declared.written.Word.{Word}
use Rattle.ua_operands.specs.declared.written.Number.{Number}
use Rattle.ua_operands.specs.declared.written.Items.{Items}
use Rattle.ua_operands.specs.declared.written.Mode.{Mode}
use Rattle.ua_operands.specs.declared.written.Mode.TheVariants.{Plain, Least, Count}
use Rattle.ua_reply.specs.declared.refusals.Refusal.TheVariants.{Signature, Wide}
use Rattle.ua_reply.specs.Sessions.{Bounds, AreAlgebras}
use Rattle.ua_reply.specs.Checks.{Passes, passed, ◌and◌}
use Rattle.ua_reply.specs.Closures.{size_text, closure_text, member_text}
use Rattle.ua_reply.specs.Operands.{values_of, vectors_of, power_of, positive, variables_checks, elements_in, length_in, vector_in, vectors_in}
use Rattle.ua_reply.specs.Refusals.{refusal_text}
use Rattle.ua_reply.specs.Replies.{HasBytes}
use Rattle.ua_reply.specs.Texts.{line, element_text, set_text}
use Rattle.ua_reply.proofs.CheckLaws.{parts_pass}
use Rattle.ua_reply.proofs.OperandLaws.{values_below, vectors_admitted, width_positive}
use Rattle.ua_reply.proofs.RepliesExist.{some_said, says_exists, known_algebra, answered_on, answered_on_both}
use Rattle.ua_answer_algebras.specs.CloseCommand.{close_checks, MayCloseLeast, ClosureAnswer, CloseReply}
use Rattle.ua_answer_algebras.specs.MemberCommand.{member_checks, MemberAnswer, MemberReply}
use Rattle.ua_answer_algebras.specs.FreeCommand.{FreeReply}
use Rattle.ua_answer_algebras.specs.SubCommand.{SubAnswer, SubReply}
use Rattle.ua_answer_algebras.specs.OnesCommand.{ones_text, OnesAnswer, OnesReply}
use Rattle.ua_answer_algebras.specs.EvalCommand.{eval_checks, EvalAnswer, EvalReply}
use Rattle.ua_answer_algebras.specs.CheckCommand.{verdict_text, path_text, check_text, CheckAnswer, CheckReply}
use Rattle.ua_answer_algebras.specs.HomCommand.{hom_checks, hom_text, told_hom, HomAnswer, HomReply}

-- ---- closures

ok_told : (x : Closure) (r : Result Closure CloseError) → r ≡ Ok x → r ≡ Err failures.OutOfMemory → ⊥
ok_told x r is e = cc

-- a closed listing may be exchanged for the least one
least_told : (p : Product) (gens : List Vector) (b w : ℕ) (answer : Result Closure CloseError) → MayClose p gens b w answer → (answer ≡ Err failures.OutOfMemory → ⊥)
    → IsAnswerable (MayCloseLeast p gens b w) failures.OutOfMemory
least_told p gens b w (Ok (Closed rows)) may told =
    let least = least_exists p gens b rows may.1 in
    let closure = Closed least.rows in
    record { answer = Ok closure; permitted = (may.0, least.least); told = ok_told closure (Ok closure) refl }
least_told p gens b w (Ok (Exceeds rows)) may told = record { answer = Ok (Exceeds rows); permitted = may; told = told }
least_told p gens b w (Err cause) may told = record { answer = Err cause; permitted = may; told = told }

may_close_least : (p : Product) (gens : List Vector) (b w : ℕ) → IsAnswerable (MayClose p gens b w) failures.OutOfMemory → IsAnswerable (MayCloseLeast p gens b w) failures.OutOfMemory
may_close_least p gens b w h = least_told p gens b w h.answer h.permitted h.told

-- in each mode
closed : (k : Block) (b : Bounds) (p : Product) (gens : List Vector) (m : Mode) → IsProduct p → AllByRecursion (IsVector p) gens → HasBytes (ClosureAnswer k b p gens m)
closed k b p gens Plain product vectors = says_exists (MayClose p gens b.budget b.workers) (closure_text k b.budget) (may_close p gens b.budget b.workers product vectors)
closed k b p gens Least product vectors =
    let may = may_close_least p gens b.budget b.workers (may_close p gens b.budget b.workers product vectors) in
    says_exists (MayCloseLeast p gens b.budget b.workers) (closure_text k b.budget) may
closed k b p gens Count product vectors = says_exists (MayCount p gens b.budget b.workers) (size_text b.budget) (may_count p gens b.budget b.workers product vectors)

closed_in : (k : Block) (b : Bounds) (width : Number) (gens : List Items) (m : Mode) → IsAlgebra k.algebra → Passes (close_checks k width gens)
    → HasBytes (ClosureAnswer k b (power_of k width.value) (vectors_of k gens) m)
closed_in k b width gens m algebra passes =
    let both = parts_pass (positive width) (vectors_in k width.value gens) passes in
    let product = power_product k.algebra width.value algebra (width_positive width both.0) in
    closed k b (power_of k width.value) (vectors_of k gens) m product (vectors_admitted k width.value gens both.1)

pub close_replied : (s : List Block) (b : Bounds) (w : Word) (width : Number) (gens : List Items) (m : Mode) → AreAlgebras s → HasBytes (CloseReply s b w width gens m)
close_replied s b w width gens m algebras =
    answered_on s w (λ k. close_checks k width gens) (λ k. ClosureAnswer k b (power_of k width.value) (vectors_of k gens) m) (λ k known passes.
    closed_in k b width gens m (known_algebra s w.name k algebras known) passes)

free_in : (k : Block) (b : Bounds) (n : ℕ) (m : Mode) → IsAlgebra k.algebra → HasBytes (ClosureAnswer k b (power_of_assignments k.algebra n) (projections k.algebra.size n) m)
free_in k b n m algebra =
    let a = k.algebra in
    let product = power_product a (a.size ^ n) algebra (power_some a.size n algebra.inhabited) in
    closed k b (power_of_assignments a n) (projections a.size n) m product (projections_admitted a n)

pub free_replied : (s : List Block) (b : Bounds) (w : Word) (count : Number) (m : Mode) → AreAlgebras s → HasBytes (FreeReply s b w count m)
free_replied s b w count m algebras =
    answered_on s w (λ k. variables_checks count) (λ k. ClosureAnswer k b (power_of_assignments k.algebra count.value) (projections k.algebra.size count.value) m) (λ k known passes.
    free_in k b count.value m (known_algebra s w.name k algebras known))

-- ---- members

member_in : (k : Block) (b : Bounds) (width : Number) (gens : List Items) (target : Items) → IsAlgebra k.algebra → Passes (member_checks k width gens target)
    → HasBytes (MemberAnswer k b width.value (vectors_of k gens) (values_of k target))
member_in k b width gens target algebra passes =
    let all = parts_pass (positive width and vectors_in k width.value gens) (vector_in k width.value target) passes in
    let both = parts_pass (positive width) (vectors_in k width.value gens) all.0 in
    let p = power_of k width.value in
    let vs = vectors_of k gens in
    let v = values_of k target in
    let product = power_product k.algebra width.value algebra (width_positive width both.0) in
    let may = may_member p vs b.budget b.workers product (vectors_admitted k width.value gens both.1) v in
    says_exists (MayMember p vs v b.budget b.workers) (member_text k b.budget) may

pub member_replied : (s : List Block) (b : Bounds) (w : Word) (width : Number) (gens : List Items) (target : Items) → AreAlgebras s → HasBytes (MemberReply s b w width gens target)
member_replied s b w width gens target algebras =
    answered_on s w (λ k. member_checks k width gens target) (λ k. MemberAnswer k b width.value (vectors_of k gens) (values_of k target)) (λ k known passes.
    member_in k b width gens target (known_algebra s w.name k algebras known) passes)

-- ---- subalgebras

-- elements generate some elements
abbrev HaveMembers : Type 0
HaveMembers = (a : FiniteAlgebra) (gens : List ℕ) → IsAlgebra a → AreElements a gens → HasMembers a gens

members_said : (k : Block) (gens : List ℕ) → HasMembers k.algebra gens → HasBytes (SubAnswer k gens)
members_said k gens h = record { bytes = line (set_text k h.members); are = record { answer = h.members; permitted = h.are; told = refl } }

pub sub_replied : HaveMembers → (s : List Block) (w : Word) (set : Items) → AreAlgebras s → HasBytes (SubReply s w set)
sub_replied have s w set algebras =
    answered_on s w (λ k. elements_in k set.values) (λ k. SubAnswer k (values_of k set)) (λ k known passes.
    members_said k (values_of k set) (have k.algebra (values_of k set) (known_algebra s w.name k algebras known) (values_below k set.values passes)))

ones_said : (k : Block) → HasOnes k.algebra → HasBytes (OnesAnswer k)
ones_said k h = record { bytes = ones_text k h.lists; are = record { answer = h.lists; permitted = h.are; told = refl } }

pub ones_replied : ((a : FiniteAlgebra) → IsAlgebra a → HasOnes a) → (s : List Block) (w : Word) → AreAlgebras s → HasBytes (OnesReply s w)
ones_replied have s w algebras = answered_on s w (λ k. passed) OnesAnswer (λ k known passes. ones_said k (have k.algebra (known_algebra s w.name k algebras known)))

-- ---- maps

-- what is not want of memory has a text
hom_has_text : (k l : Block) (second : Place) (budget : ℕ) (answer : Result Hom HomError) → (answer ≡ Err causes.OutOfMemory → ⊥) → (bytes : List ℕ) × (told_hom k l second budget answer ≡ Some bytes)
hom_has_text k l second budget (Ok hom) h = (hom_text k l budget hom, refl)
hom_has_text k l second budget (Err causes.Signature) h = (refusal_text (Signature second), refl)
hom_has_text k l second budget (Err (causes.Wide r c)) h = (refusal_text (Wide r c), refl)
hom_has_text k l second budget (Err causes.OutOfMemory) h = absurd (h refl)

-- whether images of generators go on to a homomorphism can be told
abbrev CanMap : Type 0
CanMap = (a b : FiniteAlgebra) (gens images : List ℕ) (n w : ℕ) → IsAlgebra a → IsAlgebra b → AreElements a gens → AreElements b images → IsAnswerable (MayMap a b gens images n w) causes.OutOfMemory

mapped : CanMap → (b : Bounds) (second : Place) (gens images : Items) (k l : Block) → IsAlgebra k.algebra → IsAlgebra l.algebra → Passes (hom_checks k l gens images)
    → HasBytes (HomAnswer b second gens images k l)
mapped can b second gens images k l first_algebra second_algebra passes =
    let all = parts_pass (elements_in k gens.values and elements_in l images.values) (length_in (length gens.values) images) passes in
    let both = parts_pass (elements_in k gens.values) (elements_in l images.values) all.0 in
    let xs = values_of k gens in
    let ys = values_of l images in
    let may = can k.algebra l.algebra xs ys b.budget b.workers first_algebra second_algebra (values_below k gens.values both.0) (values_below l images.values both.1) in
    some_said (MayMap k.algebra l.algebra xs ys b.budget b.workers) causes.OutOfMemory (told_hom k l second b.budget) may (hom_has_text k l second b.budget)

pub hom_replied : CanMap → (s : List Block) (b : Bounds) (v w : Word) (gens images : Items) → AreAlgebras s → HasBytes (HomReply s b v w gens images)
hom_replied can s b v w gens images algebras =
    answered_on_both s v w (λ k l. hom_checks k l gens images) (HomAnswer b w.place gens images) (λ k l first second passes.
    mapped can b w.place gens images k l (known_algebra s v.name k algebras first) (known_algebra s w.name l algebras second) passes)

-- ---- values

pub eval_replied : (s : List Block) (w : Word) (term : Phrase) (args : Items) → HasBytes (EvalReply s w term args)
eval_replied s w term args =
    answered_on s w (λ k. eval_checks k term args) (λ k. EvalAnswer k term args) (λ k known passes.
    record { bytes = line (codes "value " ++ element_text k (eval k.algebra (values_of k args) (tree_in k.algebra term))); are = refl })

-- ---- certificates

-- what is not want of memory has a text
check_has_text : (a : FiniteAlgebra) (read : Result Cert CertError) → (read ≡ Err errors.OutOfMemory → ⊥) → (bytes : List ℕ) × (check_text a read ≡ Some bytes)
check_has_text a (Ok c) h = (verdict_text (flaw_of a c), refl)
check_has_text a (Err errors.Json) h = (line (codes "cert json"), refl)
check_has_text a (Err (errors.Shape path)) h = (path_text (codes "cert shape") path, refl)
check_has_text a (Err (errors.Range path)) h = (path_text (codes "cert range") path, refl)
check_has_text a (Err errors.OutOfMemory) h = absurd (h refl)

checked : (k : Block) (json : List ℕ) → IsTold json → HasBytes (CheckAnswer k json)
checked k json h =
    let text = check_has_text k.algebra h.result h.told in
    record { bytes = text.0; are = record { answer = h.result; permitted = h.tells; told = text.1 } }

pub check_replied : ((json : List ℕ) → IsTold json) → (s : List Block) (w : Word) (json : List ℕ) → HasBytes (CheckReply s w json)
check_replied read s w json = answered_on s w (λ k. passed) (λ k. CheckAnswer k json) (λ k known passes. checked k json (read json))
