use Rattle.std.proofs.Common.{◌≡◌, ◌≢◌, ◌+◌, ◌<◌, ◌∷◌, [], ◌++◌, ℕ, List, cond, length, map, take, get_or, refl, sym, append-nil, ap, ap₂, ◌∙◌, arith, length-append}
use Rattle.std.specs.Prelude.{slice_index, ◌==◌}
use Rattle.std.specs.List.{filter, range_with_len}
use Rattle.std.proofs.lemmas.Bool.{eq-eqb, ne_eqb}
use Rattle.std.proofs.lemmas.List.{map-append, take_more, get_or-map, get_or-take, length-take-le}
use Rattle.ua_part.specs.Partitions.{Partition, IsPartition}
use Rattle.ua_part.proofs.BlockLaws.{passed_more}
use Rattle.ua_prod.specs.Constructions.{blocks_below}
use Rattle.ua_prod.proofs.quotients.by_blocks.Goals as goal
use Rattle.ua_prod.proofs.quotients.by_blocks.Goals.{then-leader-a+in_ok-push+in_ok-push-2, else-leader-a+in_ok-push-3}

-- the numbers of one element more
numbers_more : (p : Partition) (a x number : ℕ) (old new : List ℕ) → a < length p → slice_index p a ≡ x → old ≡ map (blocks_below p) (take a p)
    → new ≡ old ++ number ∷ [] → number ≡ blocks_below p x → new ≡ map (blocks_below p) (take (a + 1) p)
numbers_more p a x number old new w is before pushed value =
    pushed ∙ ap₂ (λ (os : List ℕ) n. os ++ n ∷ []) before (value ∙ ap (blocks_below p) (sym is)) ∙ sym (ap (map (blocks_below p)) (take_more p a 0 w) ∙ map-append (blocks_below p) (take a p) (slice_index p a ∷ []))

-- what is read at the leader of an element that is none
number_read : (p : Partition) (a x number : ℕ) (numbers : List ℕ) → a < length p → IsPartition p → x ≡ slice_index p a → slice_index p a ≢ a
    → numbers ≡ map (blocks_below p) (take a p) → number ≡ get_or numbers x number → number ≡ blocks_below p (slice_index p a)
number_read p a x number numbers w h leads apart is read =
    let low = h.low a w in
    let before : x < a = omega (arith, leads, low, apart) in
    let long : x < length (take a p) = omega (arith, before, length-take-le a p (omega (arith, w))) in
    read
    ∙ ap (λ (ns : List ℕ). get_or ns x number) is
    ∙ get_or-map (blocks_below p) (take a p) x 0 number long
    ∙ ap (blocks_below p) (get_or-take a p x 0 before ∙ ap (slice_index p) leads ∙ h.least a w)

pub loop-a-preserved : goal.loop-a-preserved
loop-a-preserved c =
    let p = c.args.p.now in
    let a = c.loop-a.a in
    let members = c.loop-a.members.items in
    let numbers = c.loop-a.numbers.items in
    let size = c.size-a-end.ensures.size in
    let test = c.loop-a-test.true in
    let w : c.loop-a.a < length c.args.p.now = omega (arith, size, test) in
    let leader = c.rep-leader.ensures.leader in
    elim c.if-leader-a.branch [
      | then-leader-a+in_ok-push+in_ok-push-2 v ↦
          (let is : slice_index c.args.p.now c.loop-a.a ≡ c.loop-a.a = sym leader ∙ v.if-leader-a.true in
          let long = v.len.ensures in
          let count = c.loop-a.members.ok.0 in
          let number : v.len.result ≡ blocks_below c.args.p.now c.loop-a.a = (let m = ap length c.loop-a.invariant.members in omega (arith, long, count, m)) in
          record {
            members = ap (λ v. v.items) v.members-is ∙ v.in_ok-push-2.ensures.items ∙ ap (λ (ms : List ℕ). ms ++ a ∷ []) c.loop-a.invariant.members
                ∙ sym (passed_more (λ k. slice_index p k == k) a ∙ ap (λ b. filter (λ k. slice_index p k == k) (range_with_len 0 a) ++ cond b (a ∷ []) []) (eq-eqb (slice_index p a) a is));
            few = (
                let old = c.loop-a.invariant.few in
                let is = ap (λ v. length v.items) v.members-is ∙ ap length v.in_ok-push-2.ensures.items ∙ length-append members (a ∷ []) in
                omega (arith, old, is));
            numbers = ap (λ v. v.items) v.numbers-is ∙ numbers_more p a a v.len.result numbers _ w is c.loop-a.invariant.numbers v.in_ok-push.ensures.items number;
          })
      | else-leader-a+in_ok-push-3 v ↦
          (let apart : slice_index c.args.p.now c.loop-a.a ≢ c.loop-a.a = (λ e. v.if-leader-a.false (leader ∙ e)) in
          record {
            members = ap (λ v. v.items) v.members-is ∙ c.loop-a.invariant.members
                ∙ sym
                (passed_more (λ k. slice_index p k == k) a
                ∙ ap (λ b. filter (λ k. slice_index p k == k) (range_with_len 0 a) ++ cond b (a ∷ []) []) (ne_eqb (slice_index p a) a apart)
                ∙ append-nil (filter (λ k. slice_index p k == k) (range_with_len 0 a)));
            few = (
                let old = c.loop-a.invariant.few in
                let is = ap (λ v. length v.items) v.members-is in
                omega (arith, old, is));
            numbers = ap (λ v. v.items) v.numbers-is ∙ numbers_more p a (slice_index p a) v.index.result.now numbers _ w refl c.loop-a.invariant.numbers v.in_ok-push-3.ensures.items
                (number_read p a c.rep-leader.result v.index.result.now numbers w c.rep-leader.ensures.part.partition leader apart c.loop-a.invariant.numbers v.index.ensures);
          })
    ]
