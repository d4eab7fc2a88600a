use Rattle.std.proofs.Common.{rules, ◌<◌, ◌^◌, ◌≡◌, ◌+◌, ◌-◌, ◌*◌, ◌/◌, ◌++◌, ◌≤◌, ℕ, List, length, map, take, refl, ap, sym, ◌∙◌, subst, arith}
use Rattle.std.specs.Prelude.{fold, replicate, slice_index}
use Rattle.std.specs.List.{range_with_len}
use Rattle.std.specs.Simd.{first_chunks}
use Rattle.ua_rows.specs.declared.words.TheConstants.{SEED}
use Rattle.ua_rows.specs.Words.{mixed, word_of, lanes_of}
use Rattle.ua_rows.proofs.WriteLaws.{over_more, front_put, chunks_put, hash_put, written, written_mix, sealed}
use Rattle.ua_rows.proofs.kernels.write_line.Goals as goal

pub loop-c-preserved : goal.loop-c-preserved
loop-c-preserved c =
    let f : ℕ → ℕ = λ i. slice_index c.args.line.now (slice_index c.args.row.now i) in
    let at = c.loop-c.c in
    let bs = lanes_of c.look_in_line-word.result.0 in
    let looked : bs ≡ map f (range_with_len (4 * at) 4) = c.look_in_line-word.ensures.first ∙ ap (map (slice_index c.args.line.now)) c.word_at.ensures in
    let fits : 4 * at + 4 ≤ length c.loop-c.out = search rules in
    let small : c.look_in_line-word.result.0 < 2 ^ 64 = search rules in
    let start : 0 + 4 * at ≡ 4 * at = omega arith in
    let one : 4 * at + 4 ≡ 4 * (at + 1) = omega arith in
    record {
      values = front_put c.loop-c.out c.put.new.out bs at c.put.ensures refl fits
          ∙ (λ l. c.loop-c.invariant.values l ++ looked l)
          ∙ ap (λ n. map f (range_with_len 0 (4 * at)) ++ map f (range_with_len n 4)) (sym start)
          ∙ sym (over_more f 0 (4 * at) 4)
          ∙ ap (λ n. map f (range_with_len 0 n)) one;
      hash = hash_put (first_chunks 4 at c.loop-c.out) bs c.loop-c.hash c.look_in_line-word.result.0 c.mixed-hash.result small refl c.mixed-hash.ensures c.loop-c.invariant.hash
          ∙ ap (λ cs. fold mixed SEED (map word_of cs)) (sym (chunks_put c.loop-c.out c.put.new.out bs at c.put.ensures refl fits));
    }

pub returns-clause-values : goal.returns-clause-values
returns-clause-values c =
    let f : ℕ → ℕ = λ i. slice_index c.args.line.now (slice_index c.args.row.now i) in
    let full = (c.args.width - 1) / 4 in
    let cleared = 4 * (full + 1) - c.args.width in
    let all : c.loop-c.c ≡ full = (let a = c.loop-c-test.false in let b = c.loop-c.auto.c-end in omega (arith, a, b)) in
    let looked : lanes_of c.look_in_line-last.result.0 ≡ map f (range_with_len (4 * full) 4) = c.look_in_line-last.ensures.first ∙ ap (map (slice_index c.args.line.now)) c.word_at-2.ensures in
    let front : take (4 * full) c.loop-c.out ≡ map f (range_with_len 0 (4 * full)) = subst (λ n. take (4 * n) c.loop-c.out ≡ map f (range_with_len 0 (4 * n))) all c.loop-c.invariant.values in
    written f c.loop-c.out c.put-2.new.out c.args.width full cleared c.front_of-word.result c.requires.some refl (c.loop-c.auto.out ∙ c.requires.long) refl front c.front_of-word.type_inv
    (c.front_of-word.ensures ∙ ap (λ (bs : List ℕ). take (4 - cleared) bs ++ replicate cleared 0) looked) c.put-2.ensures

pub returns-clause-hash : goal.returns-clause-hash
returns-clause-hash c =
    let f : ℕ → ℕ = λ i. slice_index c.args.line.now (slice_index c.args.row.now i) in
    let full = (c.args.width - 1) / 4 in
    let cleared = 4 * (full + 1) - c.args.width in
    let all : c.loop-c.c ≡ full = (let a = c.loop-c-test.false in let b = c.loop-c.auto.c-end in omega (arith, a, b)) in
    let looked : lanes_of c.look_in_line-last.result.0 ≡ map f (range_with_len (4 * full) 4) = c.look_in_line-last.ensures.first ∙ ap (map (slice_index c.args.line.now)) c.word_at-2.ensures in
    let front : take (4 * full) c.loop-c.out ≡ map f (range_with_len 0 (4 * full)) = subst (λ n. take (4 * n) c.loop-c.out ≡ map f (range_with_len 0 (4 * n))) all c.loop-c.invariant.values in
    let hash : c.loop-c.hash ≡ fold mixed SEED (map word_of (first_chunks 4 full c.loop-c.out)) = subst (λ n. c.loop-c.hash ≡ fold mixed SEED (map word_of (first_chunks 4 n c.loop-c.out))) all c.loop-c.invariant.hash in
    sealed (map f (range_with_len 0 c.args.width)) c.put-2.new.out c.mixed.result c.hash_with.result
    (written f c.loop-c.out c.put-2.new.out c.args.width full cleared c.front_of-word.result c.requires.some refl (c.loop-c.auto.out ∙ c.requires.long) refl front c.front_of-word.type_inv
    (c.front_of-word.ensures ∙ ap (λ (bs : List ℕ). take (4 - cleared) bs ++ replicate cleared 0) looked) c.put-2.ensures)
    (written_mix f c.loop-c.out c.put-2.new.out c.args.width full cleared c.front_of-word.result c.requires.some refl (c.loop-c.auto.out ∙ c.requires.long) refl front c.front_of-word.type_inv
    (c.front_of-word.ensures ∙ ap (λ (bs : List ℕ). take (4 - cleared) bs ++ replicate cleared 0) looked) c.put-2.ensures c.loop-c.hash c.mixed.result c.mixed.ensures hash)
    c.hash_with.ensures
