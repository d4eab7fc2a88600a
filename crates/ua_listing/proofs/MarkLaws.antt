-- Marks of rows.
use Rattle.std.proofs.Common.{◌≡◌, ◌⊎◌, ◌↔◌, inl, inr, ⊎_elim, ℕ, zero, suc, ◌<◌, Bool, true, false, List, [], ◌∷◌, length, replicate, set, refl, sym, ap, ◌∙◌, arith}
use Rattle.std.specs.Prelude.{slice_index_or}
use Rattle.std.proofs.lemmas.List.{get_or_default}
use Rattle.ua_listing.specs.inner.Searches.{IsMarked}

pub marked_below : (marks : List Bool) (q : ℕ) → IsMarked marks q → q < length marks
marked_below [] q e = cc
marked_below (b ∷ bs) zero e = omega arith
marked_below (b ∷ bs) (suc q) e = let r = marked_below bs q e in omega (arith, r)

pub none_marked : (n q : ℕ) → IsMarked (replicate n false) q → ⊥
none_marked zero q e = cc
none_marked (suc n) zero e = cc
none_marked (suc n) (suc q) e = none_marked n q e

pub marked_set : (marks : List Bool) (a q : ℕ) → a < length marks → IsMarked (set marks a true) q ↔ (IsMarked marks q ⊎ (a ≡ q))
marked_set [] a q h = absurd (omega (arith, h))
marked_set (b ∷ bs) zero zero h = (λ e. inr refl, λ e. refl)
marked_set (b ∷ bs) zero (suc q) h = (λ e. inl e, λ s. ⊎_elim (λ e. e) (λ e. absurd (omega (arith, e))) s)
marked_set (b ∷ bs) (suc a) zero h = (λ e. inl e, λ s. ⊎_elim (λ e. e) (λ e. absurd (omega (arith, e))) s)
marked_set (b ∷ bs) (suc a) (suc q) h =
    let r = marked_set bs a q (omega (arith, h)) in
    (λ e. ⊎_elim (λ m. inl m) (λ s. inr (ap suc s)) (r.0 e), λ s. ⊎_elim (λ m. r.1 (inl m)) (λ e. r.1 (inr (let f : a ≡ q = omega (arith, e) in f))) s)

-- a mark that was read
pub mark_is : (marks : List Bool) (q : ℕ) (b : Bool) → q < length marks → b ≡ slice_index_or marks q b → slice_index_or marks q false ≡ b
mark_is marks q b h e = get_or_default marks q false b h ∙ sym e
