-- A product, a subalgebra or a reduct that is to be made has a reply.
use Rattle.std.proofs.Common.{◌≡◌, ℕ, ◌*◌, ◌<◌, Bool, true, false, List, [], ◌∷◌, length, Option, Some, None, true≢false, Result, Ok, Err, refl, sym, ◌∙◌, arith, ◌⊎◌, inl, inr}
use Rattle.std.specs.Prelude.{slice_index, Contains}
use Rattle.std.specs.List.{AllByRecursion}
use Rattle.std.specs.Option.{MatchOption}
use Rattle.ua_table.specs.Algebras.{FiniteAlgebra, IsAlgebra, arities_of, value_at, signature}
use Rattle.ua_table.specs.Refusals.{is_similar}
use Rattle.ua_table.proofs.AlgebraLaws.{similar-Decides}
use Rattle.ua_part.specs.Partitions.{Partition, IsPartition}
use Rattle.ua_part.specs.Blocks.{HasBlocks}
use Rattle.ua_part.proofs.PartsExist.{part_with_blocks, part_has_blocks, part_size}
use Rattle.ua_prod.specs.declared.errors.ProdError.{ProdError}
use Rattle.ua_prod.specs.declared.errors.ProdError.TheVariants as errors
use Rattle.ua_prod.specs.Constructions.{product_of, subalgebra_of, reduct_of, quotient_of}
use Rattle.ua_prod.specs.Permitted.{MayProduct, MayReduct}
use Rattle.ua_prod.specs.Sizes.{is_too_large}
use Rattle.ua_prod.specs.Congruences.{IsCongruence}
use Rattle.ua_prod.specs.Clashes.{HasFirstClash}
use Rattle.ua_sub.specs.Members.{AreMembers, HasMembers}
use Rattle.ua_sub.specs.Permitted.{AreElements}
use Rattle.ua_text.specs.declared.tokens.Place.{Place}
use Rattle.ua_text.specs.declared.named.Block.{Block}
use Rattle.ua_text.specs.Signs.{printed}
use Rattle.ua_text.specs.Blocks.{block, unnamed}
use Rattle.ua_operands.specs.declared.written.Word.{Word}
use Rattle.ua_operands.specs.declared.written.Items.{Items}
use Rattle.ua_operands.specs.declared.written.PartText.{PartText}
use Rattle.ua_script.specs.declared.script.MakeForm.{MakeForm}
use Rattle.ua_script.specs.declared.script.MakeForm.TheVariants.{Product, Sub, Reduct, Quotient}
use Rattle.ua_reply.specs.declared.refusals.Refusal.{Refusal}
use Rattle.ua_reply.specs.declared.refusals.Refusal.TheVariants.{Signature, Size}
use Rattle.ua_reply.specs.Sessions.{AreAlgebras, lookup}
use Rattle.ua_reply.specs.Checks.{Passes, passed, checks_in, first_error}
use Rattle.ua_reply.specs.Operands.{values_of, elements_in}
use Rattle.ua_reply.specs.Refusals.{refusal_text, congruence_text}
use Rattle.ua_reply.proofs.OperandLaws.{values_below}
use Rattle.ua_reply.proofs.RepliesExist.{passes_from, known_passes, known_algebra}
use Rattle.ua_reply.specs.Parts.{blocks_of, part_in}
use Rattle.ua_reply.proofs.PartLaws.{blocks_true, part_blocks}
use Rattle.ua_answer_algebras.specs.MakeCommand.{Of, MayGenerate, MayMake, make_checks, make_text, with_made, numbers_of, operations_in, Makes, MakeReply, HasReply, MayQuotientBy}
use Rattle.ua_answer_algebras.proofs.Making.{found_of}

-- ---- the first error, or what is made

by_error : (s : List Block) (place : Place) (name : Word) (what : MakeForm) (e : Option Refusal) → (e ≡ None → HasReply (Makes s name.name place what))
    → HasReply (λ bytes t. MatchOption e (Makes s name.name place what bytes t) (λ r. (bytes ≡ refusal_text r) × (t ≡ s)))
by_error s place name what None h = let made = h refl in record { bytes = made.bytes; left = made.left; are = made.are }
by_error s place name what (Some r) h = record { bytes = refusal_text r; left = s; are = (refl, refl) }

pub replied : (s : List Block) (place : Place) (name : Word) (what : MakeForm) → (Passes (make_checks s what) → HasReply (Makes s name.name place what)) → HasReply (MakeReply s place name what)
replied s place name what made = by_error s place name what (first_error (make_checks s what)) (λ none. made (passes_from (make_checks s what) none))

-- what is answered has a text
pub answered : (s : List Block) (place : Place) (name : Word) (what : MakeForm) (answer : Result FiniteAlgebra ProdError) (bytes : List ℕ)
    → MayMake s name.name what answer → make_text s place what answer ≡ Some bytes → HasReply (Makes s name.name place what)
answered s place name what answer bytes may text = record { bytes = bytes; left = with_made s answer; are = record { answer = answer; permitted = may; told = text; left = refl } }

-- ---- products

multiplied : (s : List Block) (place : Place) (name a b : Word) (k l : Block) → lookup s a.name ≡ Some k → lookup s b.name ≡ Some l → HasReply (Makes s name.name place (Product a b))
multiplied s place name a b k l left right = similar (is_similar k.algebra l.algebra) refl (is_too_large (k.algebra.size * l.algebra.size) (arities_of k.algebra)) refl
  where
    of : (answer : Result FiniteAlgebra ProdError) → MayProduct name.name k.algebra l.algebra answer → MayMake s name.name (Product a b) answer
    of answer may =
        let inner = found_of (lookup s b.name) l (λ (l : Block). MayProduct name.name k.algebra l.algebra answer) right may in
        found_of (lookup s a.name) k (λ (k : Block). Of (lookup s b.name) (λ (l : Block). MayProduct name.name k.algebra l.algebra answer)) left inner

    similar : (same : Bool) → is_similar k.algebra l.algebra ≡ same → (large : Bool) → is_too_large (k.algebra.size * l.algebra.size) (arities_of k.algebra) ≡ large → HasReply (Makes s name.name place (Product a b))
    similar false e large f =
        let differ : ¬ (signature k.algebra ≡ signature l.algebra) = λ same. true≢false (sym ((similar-Decides k.algebra l.algebra).1 same) ∙ e) in
        answered s place name (Product a b) (Err errors.Signature) (refusal_text (Signature b.place)) (of (Err errors.Signature) differ) refl
    similar true e true f =
        answered s place name (Product a b) (Err errors.Size) (refusal_text (Size place)) (of (Err errors.Size) ((similar-Decides k.algebra l.algebra).0 e, f)) refl
    similar true e false f =
        let made = product_of name.name k.algebra l.algebra in
        answered s place name (Product a b) (Ok made) (printed (block (unnamed made))) (of (Ok made) ((similar-Decides k.algebra l.algebra).0 e, f, refl)) refl

product_replied : (s : List Block) (place : Place) (name a b : Word) → HasReply (MakeReply s place name (Product a b))
product_replied s place name a b =
    replied s place name (Product a b) (λ passes.
    let left = known_passes (lookup s a.name) a.place (λ k. checks_in (lookup s b.name) b.place (λ l. passed)) passes in
    let right = known_passes (lookup s b.name) b.place (λ l. passed) left.2 in
    multiplied s place name a b left.0 right.0 left.1 right.1)

-- ---- subalgebras

-- elements generate some elements
abbrev pub HaveMembers : Type 0
HaveMembers = (a : FiniteAlgebra) (gens : List ℕ) → IsAlgebra a → AreElements a gens → HasMembers a gens

-- and what they generate is closed
abbrev pub AreClosed : Type 0
AreClosed = (a : FiniteAlgebra) (gens members : List ℕ) (f : ℕ) (args : List ℕ) → AreMembers a gens members → f < length (arities_of a) → length args ≡ slice_index (arities_of a) f
    → AllByRecursion (Contains members) args → Contains members (value_at a f args)

generated : AreClosed → (s : List Block) (place : Place) (name a : Word) (set : Items) (k : Block) → lookup s a.name ≡ Some k → (members : List ℕ) → AreMembers k.algebra (values_of k set) members
    → HasReply (Makes s name.name place (Sub a set))
generated closed s place name a set k known [] are =
    let empty : MayGenerate k name.name set (Err errors.Size) = record { members = []; generated = are; permitted = refl } in
    answered s place name (Sub a set) (Err errors.Size) (refusal_text (Size place)) (found_of (lookup s a.name) k (λ (k : Block). MayGenerate k name.name set (Err errors.Size)) known empty) refl
generated closed s place name a set k known (x ∷ xs) are =
    let made = subalgebra_of name.name k.algebra (x ∷ xs) in
    let some : 0 < length (x ∷ xs) = omega arith in
    let may : MayGenerate k name.name set (Ok made) =
    record { members = x ∷ xs; generated = are; permitted = (some, λ f args. closed k.algebra (values_of k set) (x ∷ xs) f args are, refl) } in
    answered s place name (Sub a set) (Ok made) (printed (block (unnamed made))) (found_of (lookup s a.name) k (λ (k : Block). MayGenerate k name.name set (Ok made)) known may) refl

sub_made : HaveMembers → AreClosed → (s : List Block) (place : Place) (name a : Word) (set : Items) → AreAlgebras s → HasReply (MakeReply s place name (Sub a set))
sub_made have closed s place name a set algebras =
    replied s place name (Sub a set) (λ passes.
    let known = known_passes (lookup s a.name) a.place (λ k. elements_in k set.values) passes in
    let k = known.0 in
    let members = have k.algebra (values_of k set) (known_algebra s a.name k algebras known.1) (values_below k set.values known.2) in
    generated closed s place name a set k known.1 members.members members.are)

-- ---- reducts

reduced : (s : List Block) (place : Place) (name a : Word) (ops : List Word) (k : Block) → lookup s a.name ≡ Some k → HasReply (Makes s name.name place (Reduct a ops))
reduced s place name a ops k known =
    let made = reduct_of name.name k.algebra (numbers_of k ops) in
    let may = found_of (lookup s a.name) k (λ (k : Block). MayReduct name.name k.algebra (numbers_of k ops) (Ok made)) known refl in
    answered s place name (Reduct a ops) (Ok made) (printed (block (unnamed made))) may refl

reduct_replied : (s : List Block) (place : Place) (name a : Word) (ops : List Word) → HasReply (MakeReply s place name (Reduct a ops))
reduct_replied s place name a ops =
    replied s place name (Reduct a ops) (λ passes.
    let known = known_passes (lookup s a.name) a.place (λ k. operations_in k ops) passes in
    reduced s place name a ops known.0 known.1)

-- ---- quotients

quotient_said : (s : List Block) (place : Place) (name a : Word) (p : PartText) (k : Block) → lookup s a.name ≡ Some k → (q : Partition) → HasBlocks (blocks_of p) q → IsCongruence k.algebra q ⊎ HasFirstClash k.algebra q
    → HasReply (Makes s name.name place (Quotient a p))
quotient_said s place name a p k known q blocks (inl is) =
    let made = quotient_of name.name k.algebra q in
    let may : MayQuotientBy k name.name p (Ok made) = record { partition = q; blocks = blocks; permitted = (is, refl) } in
    answered s place name (Quotient a p) (Ok made) (printed (block (unnamed made))) (found_of (lookup s a.name) k (λ k. MayQuotientBy k name.name p (Ok made)) known may) refl
quotient_said s place name a p k known q blocks (inr first) =
    let error = errors.NotCongruence first.clash in
    let may : MayQuotientBy k name.name p (Err error) = record { partition = q; blocks = blocks; permitted = first.is } in
    answered s place name (Quotient a p) (Err error) (congruence_text k p.place first.clash) (found_of (lookup s a.name) k (λ k. MayQuotientBy k name.name p (Err error)) known may) (rw known refl)

-- a partition is a congruence, or has a first clash
abbrev pub HaveClashes : Type 0
HaveClashes = (a : FiniteAlgebra) (p : Partition) → IsAlgebra a → IsPartition p → length p ≡ a.size → IsCongruence a p ⊎ HasFirstClash a p

quotient_replied : HaveClashes → (s : List Block) (place : Place) (name a : Word) (p : PartText) → AreAlgebras s → HasReply (MakeReply s place name (Quotient a p))
quotient_replied have s place name a p algebras =
    replied s place name (Quotient a p) (λ passes.
    let known = known_passes (lookup s a.name) a.place (λ k. part_in k p) passes in
    let k = known.0 in
    let n = k.algebra.size in
    let are = blocks_true n (blocks_of p) (part_blocks k p known.2) in
    let q = part_with_blocks n (blocks_of p) are in
    let blocks = part_has_blocks n (blocks_of p) are in
    quotient_said s place name a p k known.1 q blocks (have k.algebra q (known_algebra s a.name k algebras known.1) blocks.partition (part_size n (blocks_of p) are)))

-- ---- all constructions

pub make_replied : HaveMembers → AreClosed → HaveClashes → (s : List Block) (place : Place) (name : Word) (what : MakeForm) → AreAlgebras s → HasReply (MakeReply s place name what)
make_replied have closed clashes s place name (Product a b) algebras = product_replied s place name a b
make_replied have closed clashes s place name (Quotient a p) algebras = quotient_replied clashes s place name a p algebras
make_replied have closed clashes s place name (Sub a set) algebras = sub_made have closed s place name a set algebras
make_replied have closed clashes s place name (Reduct a ops) algebras = reduct_replied s place name a ops
