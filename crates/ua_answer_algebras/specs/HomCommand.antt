-- The command `hom`: where its operands fail, and what it is answered.
use Rattle.std.specs.Prelude.{ℕ, List, ◌∷◌, ◌++◌, length, Option, None, Some, Result, Ok, Err, codes}
use Rattle.ua_sub.specs.Permitted.{MayMap}
use Rattle.ua_sub.specs.declared.homs.Hom.{Hom}
use Rattle.ua_sub.specs.declared.homs.Hom.TheVariants as homs
use Rattle.ua_sub.specs.declared.homs.HomError.{HomError}
use Rattle.ua_sub.specs.declared.homs.HomError.TheVariants as causes
use Rattle.ua_text.specs.declared.tokens.Place.{Place}
use Rattle.ua_text.specs.declared.named.Block.{Block}
use Rattle.ua_operands.specs.declared.written.Word.{Word}
use Rattle.ua_operands.specs.declared.written.Items.{Items}
use Rattle.ua_reply.specs.Sessions.{Bounds}
use Rattle.ua_reply.specs.declared.refusals.Refusal.TheVariants.{Signature, Wide}
use Rattle.ua_reply.specs.Checks.{Checks, ◌and◌}
use Rattle.ua_reply.specs.Operands.{values_of, elements_in, length_in}
use Rattle.ua_reply.specs.Refusals.{refusal_text}
use Rattle.ua_reply.specs.Replies.{Says, AnsweredOnBoth}
use Rattle.ua_reply.specs.Texts.{line, lines, counted, element_text, steps_text}

-- hom NAME NAME [..] [..]: elements of the one algebra, and as many of the other
abbrev pub hom_checks : Block → Block → Items → Items → Checks
hom_checks k l gens images = elements_in k gens.values and elements_in l images.values and length_in (length gens.values) images

-- an element and its image
abbrev pub image_text : Block → Block → ℕ × ℕ → List ℕ
image_text k l x = element_text k x.0 ++ 32 ∷ element_text l x.1

-- the map, or an element with two images and the steps to both
abbrev pub hom_text : Block → Block → ℕ → Hom → List ℕ
hom_text k l budget (homs.Map pairs) = line (counted (codes "map") (length pairs)) ++ lines (image_text k l) pairs
hom_text k l budget (homs.Clash x y z first second) =
    line (codes "clash " ++ element_text k x ++ 32 ∷ element_text l y ++ 32 ∷ element_text l z) ++ steps_text k first ++ steps_text k second
hom_text k l budget homs.Exceeds = line (counted (codes "exceeds") budget)

-- algebras of different signatures are refused at the second, and pairs that are too wide
abbrev pub told_hom : Block → Block → Place → ℕ → Result Hom HomError → Option (List ℕ)
told_hom k l second budget (Ok hom) = Some (hom_text k l budget hom)
told_hom k l second budget (Err causes.Signature) = Some (refusal_text (Signature second))
told_hom k l second budget (Err (causes.Wide r c)) = Some (refusal_text (Wide r c))
told_hom k l second budget (Err causes.OutOfMemory) = None

abbrev pub HomAnswer : Bounds → Place → Items → Items → Block → Block → List ℕ → Type 0
HomAnswer b second gens images k l bytes =
    Says (MayMap k.algebra l.algebra (values_of k gens) (values_of l images) b.budget b.workers) (told_hom k l second b.budget) bytes

abbrev pub HomReply : List Block → Bounds → Word → Word → Items → Items → List ℕ → Type 0
HomReply s b v w gens images bytes = AnsweredOnBoth s v w (λ k l. hom_checks k l gens images) (HomAnswer b w.place gens images) bytes
