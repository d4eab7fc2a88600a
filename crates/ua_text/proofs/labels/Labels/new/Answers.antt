use Rattle.std.proofs.Common.{◌≡◌, suc, ◌-◌, ◌<◌, length, drop, subst, arith, ℕ, Bool, true, false, cond, if◌then◌else◌, List, ◌∷◌, get_or, Option, Some, refl, sym, ap, ◌∙◌}
use Rattle.std.specs.BTreeMap.{get_by}
use Rattle.std.specs.Cmp.Lexicographic.{slice_cmp}
use Rattle.std.specs.Ordering.{nat_cmp}
use Rattle.std.proofs.lemmas.Map.Text.{btree_map_updates_str}
use Rattle.ua_text.specs.Labels.{place_in}
use Rattle.std.proofs.Math.Seq.{drop-cons}
use Rattle.ua_text.specs.Words.{same}
use Rattle.ua_text.proofs.WordLaws.{same_turned}
use Rattle.ua_text.proofs.labels.Labels.new.Goals as goal

pub found_step : (names : List (List ℕ)) (i : ℕ) (name key t : List ℕ) (old new : Option ℕ) → i < length names → key ≡ name → name ≡ get_or names i name
    → new ≡ cond (same key t) (Some i) old → old ≡ place_in (suc i) (drop (suc i) names) t → new ≡ place_in i (drop i names) t
found_step names i name key t old new l e f g h = g ∙ ap (λ b. cond b (Some i) old) (same_turned key t ∙ ap (same t) e) ∙ chosen (same t name) ∙ sym first
  where
    first : place_in i (drop i names) t ≡ (if same t name then Some i else place_in (suc i) (drop (suc i) names) t)
    first = ap (λ xs. place_in i xs t) (drop-cons names i name l ∙ ap (λ x. x ∷ drop (suc i) names) (sym f))

    chosen : (b : Bool) → cond b (Some i) old ≡ (if b then Some i else place_in (suc i) (drop (suc i) names) t)
    chosen true = refl
    chosen false = h

pub loop-place-preserved : goal.loop-place-preserved
loop-place-preserved c = λ t.
    let names = c.args.names.now in let p = c.loop-place.place in
    let next : p ≡ suc (p - 1) = omega arith in let within : p - 1 < length names = omega arith in
    let behind = subst (λ n. get_by (λ k. slice_cmp nat_cmp t k.now) c.loop-place.places ≡ place_in n (drop n names) t) next (c.loop-place.invariant t) in
    found_step names (p - 1) c.index-names-place.result c.text.result.now t (get_by (λ k. slice_cmp nat_cmp t k.now) c.loop-place.places)
    (get_by (λ k. slice_cmp nat_cmp t k.now) c.insert.new.self) within c.text.ensures.text c.index-names-place.is
    (btree_map_updates_str c.text.result.now c.loop-place.places c.insert.new.self _ c.in_ok-insert.ensures.updates t) behind
