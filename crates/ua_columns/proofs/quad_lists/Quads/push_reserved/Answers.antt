use Rattle.std.proofs.Common.{◌≡◌, ◌+◌, ◌-◌, ◌<◌, ◌≤◌, ◌++◌, ◌∷◌, [], ℕ, List, false, length, take, drop, sym, ap, ◌∙◌, subst, arith, cond}
use Rattle.std.specs.Prelude.{is_ok}
use Rattle.std.specs.List.{AllByRecursion}
use Rattle.ua_table.specs.Algebras.{Vector}
use Rattle.ua_columns.specs.Quads.{QuadVectors, quad_vectors, AreQuads}
use Rattle.ua_table.proofs.Lists.{all_weaker, written_back}
use Rattle.ua_columns.proofs.PushLaws.{some_one}
use Rattle.ua_columns.proofs.QuadLaws.{pushed_quads, pushed_invariant}
use Rattle.ua_columns.proofs.quad_lists.Quads.push_reserved.Goals as goal

pub invariant_of-self : goal.invariant_of-self
invariant_of-self c =
    let here = c.self.inside in
    let h = c.self.invariant in
    let key = c.write_key.new.key in
    let room = h.room (some_one here.ready (let e = ap (λ (v : QuadVectors). v.spare) c.self.view_is in let s = c.requires.spare in omega (arith, e, s))) in
    let words : length key ≡ here.words = c.write_key.ensures.length ∙ ap (length {A = ℕ}) c.as_mut_slice.ensures.value ∙ h.key_long in
    let keyed : take here.key.len (key ++ drop (length key) here.key.items) ≡ key = written_back here.key.items key here.key.len (words ∙ sym h.key_long) here.key.ok.0 in
    let added : c.extend_from_slice.new.self.items ≡ here.keys.items ++ key =
    c.extend_from_slice.ensures.items ∙ ap (λ r. cond (is_ok r) (here.keys.items ++ c.as_slice.result.now) here.keys.items) c.unwrap.ensures
    ∙ ap (λ (k : List ℕ). here.keys.items ++ k) (c.as_slice.ensures.value ∙ keyed) in
    let named = c.enter.ensures.named here.count (omega arith) (all_weaker (λ r. r ≤ here.count - 1) (λ r. r ≤ here.count) (λ r low. omega (arith, low)) here.front.items h.named) in
    let some : 0 < length c.enter.new.front.items = (let l = c.enter.ensures.length in let s = h.some in omega (arith, l, s)) in
    let small = subst (λ n. AllByRecursion (λ x. x < n) c.args.v.now) (sym (ap (λ (v : QuadVectors). v.size) c.self.view_is)) c.requires.entries in
    subst (λ (k : List ℕ). AreQuads here.width here.size here.words (here.count + 1) c.extend_from_slice.new.self k c.enter.new.front.items false) (sym keyed)
    (pushed_invariant here.width here.size here.words here.count here.keys here.key.items here.front.items here.ready h c.args.v.now key
    c.extend_from_slice.new.self c.enter.new.front.items some named room.few small words added c.write_key.ensures.entries)

pub returns-clause-items : goal.returns-clause-items
returns-clause-items c =
    let here = c.self.inside in
    let h = c.self.invariant in
    let key = c.write_key.new.key in
    let words : length key ≡ here.words = c.write_key.ensures.length ∙ ap (length {A = ℕ}) c.as_mut_slice.ensures.value ∙ h.key_long in
    let keyed : take here.key.len (key ++ drop (length key) here.key.items) ≡ key = written_back here.key.items key here.key.len (words ∙ sym h.key_long) here.key.ok.0 in
    let added : c.extend_from_slice.new.self.items ≡ here.keys.items ++ key =
    c.extend_from_slice.ensures.items ∙ ap (λ r. cond (is_ok r) (here.keys.items ++ c.as_slice.result.now) here.keys.items) c.unwrap.ensures
    ∙ ap (λ (k : List ℕ). here.keys.items ++ k) (c.as_slice.ensures.value ∙ keyed) in
    let wide : length c.args.v.now ≡ here.width = c.requires.width ∙ sym (ap (λ (v : QuadVectors). v.width) c.self.view_is) in
    ap (λ (ks : List ℕ). quad_vectors here.width ks (here.count + 1)) added
    ∙ pushed_quads here.width here.words here.count here.keys.items key c.args.v.now h.words_are h.keyed words wide c.write_key.ensures.entries
    ∙ ap (λ (vs : List Vector). vs ++ c.args.v.now ∷ []) (ap (λ (v : QuadVectors). v.items) c.self.view_is)
