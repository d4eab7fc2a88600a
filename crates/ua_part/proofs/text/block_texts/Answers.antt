use Rattle.std.proofs.Common.{◌≡◌, ◌+◌, ◌<◌, ◌++◌, [], ◌∷◌, ℕ, List, Vec, Global, length, get_or, set, sym, ap, ap₂, ◌∙◌, subst, arith}
use Rattle.std.proofs.lemmas.List.{map-append, map-set, get_or-map, length-map, length_push}
use Rattle.ua_part.specs.Blocks.{spaced, members_of}
use Rattle.ua_part.proofs.TextLaws.{members_below, AreTexts, with_member, texts_more}
use Rattle.ua_part.proofs.text.block_texts.Goals as goal

pub loop-member-preserved : goal.loop-member-preserved
loop-member-preserved c =
    let p = c.args.part.now in
    let n = c.loop-member.member in
    let leader = c.rep-leader.result in
    let before = c.loop-member.texts.items in
    let texts = c.push.new.self.items in
    let items : Vec ℕ Global → List ℕ = λ v. v.items in
    let part = c.rep-leader.ensures.part.partition in
    let w : n < length p = omega (arith, c.loop-member-test.true, c.size-member-end.ensures.size) in
    let all : members_of texts ≡ members_of before ++ [] ∷ [] = ap members_of c.in_ok-push.ensures.items ∙ map-append items before (c.new.result ∷ []) ∙ ap (λ (t : List ℕ). members_of before ++ t ∷ []) c.new.ensures.items in
    let within : leader < length texts = omega (arith, c.rep-leader.ensures.leader, part.low n w, ap length all ∙ length_push (members_of before) [], length-map texts items, c.loop-member.invariant.count) in
    let text = c.in_ok-push_member.ensures ∙ ap (with_member leader n) (ap items c.index_mut.ensures.value ∙ sym (get_or-map items texts leader c.index_mut.result.now [] within) ∙ ap (λ (ts : List (List ℕ)). get_or ts leader []) all) in
    subst (AreTexts p (n + 1))
    (sym
    (map-set items texts leader c.push_member.new.text ∙ ap₂ (λ (ts : List (List ℕ)) (t : List ℕ). set ts leader t) all text
    ∙ ap (λ l. set (members_of before ++ [] ∷ []) l (with_member l n (get_or (members_of before ++ [] ∷ []) l [])))
    c.rep-leader.ensures.leader))
    (texts_more p part n w (members_of before) c.loop-member.invariant)

pub returns-clause-texts : goal.returns-clause-texts
returns-clause-texts c k w =
    let all : c.loop-member.member ≡ length c.args.part.now = omega (arith, c.loop-member-test.false, c.loop-member.auto.member-end, c.size-member-end.ensures.size) in
    c.loop-member.invariant.each k (omega (arith, w, all)) ∙ ap (λ n. spaced (members_below c.args.part.now n k)) all
