-- Clones and points as they stand at the front of tokens.
use Rattle.ua_operands.proofs.Vocabulary.{flat_map, same, Placed, Wanted, sign, Front, Items, CloneWord, PointsText, Total, Partial, vector, clone_word, points}
use Rattle.std.proofs.Common.{◌≡◌, ℕ, true, false, List, [], ◌∷◌, ◌++◌, codes, refl, subst, append_assoc}
use Rattle.std.proofs.lemmas.Bool.{false≢true, true≢false}
use Rattle.ua_text.specs.declared.symbols.Role.TheVariants as roles
use Rattle.ua_operands.specs.declared.written.CloneWord.TheVariants.{Term, Polynomial}

pub clone_is : (k c : CloneWord) (t : List ℕ) → t ≡ clone_word k → same t (clone_word c) ≡ true → c ≡ k
clone_is k c t e h = differ k c (subst (λ z. same z (clone_word c) ≡ true) e h)
  where
    differ : (k c : CloneWord) → same (clone_word k) (clone_word c) ≡ true → c ≡ k
    differ Term Term h = refl
    differ Polynomial Polynomial h = refl
    differ k c h = absurd (false≢true h)

pub some_clone : {Q : Type 0} (k : CloneWord) (t : List ℕ) → t ≡ clone_word k → same t (codes "term") ≡ false → same t (codes "polynomial") ≡ false → Q
some_clone Term t e a b = absurd (true≢false (subst (λ z. same z (codes "term") ≡ false) e a))
some_clone Polynomial t e a b = absurd (true≢false (subst (λ z. same z (codes "polynomial") ≡ false) e b))

-- the word of the points
abbrev pub first_of : PointsText → List ℕ
first_of (Total v) = codes "total"
first_of (Partial v vs) = codes "partial"

-- what is behind it, in front of other tokens
abbrev pub behind : PointsText → List Wanted → List Wanted
behind (Total v) ws = vector v ++ ws
behind (Partial v vs) ws = vector v ++ (flat_map vector vs ++ ws)

pub points_front : (m : PointsText) (ts : List Placed) (ws : List Wanted) → Front ts (points m ++ ws) [] → Front ts (sign roles.Exact (first_of m) ∷ behind m ws) []
points_front (Total v) ts ws f = f
points_front (Partial v vs) ts ws f = subst (λ z. Front ts (sign roles.Exact (codes "partial") ∷ z) []) (append_assoc (vector v) (flat_map vector vs) ws) f

-- the points whose word was read
module _ (G : PointsText → Type 0) (t : List ℕ) where
  pub is_total : (m : PointsText) → t ≡ first_of m → same t (codes "total") ≡ true → ((v : Items) → G (Total v)) → G m
  is_total (Total v) e h k = k v
  is_total (Partial v vs) e h k = absurd (false≢true (subst (λ z. same z (codes "total") ≡ true) e h))

  pub is_partial : (m : PointsText) → t ≡ first_of m → same t (codes "partial") ≡ true → ((v : Items) (vs : List Items) → G (Partial v vs)) → G m
  is_partial (Total v) e h k = absurd (false≢true (subst (λ z. same z (codes "partial") ≡ true) e h))
  is_partial (Partial v vs) e h k = k v vs

  -- one of the two words was read
  pub some_points : {Q : Type 0} (m : PointsText) → t ≡ first_of m → same t (codes "total") ≡ false → same t (codes "partial") ≡ false → Q
  some_points (Total v) e p q = absurd (true≢false (subst (λ z. same z (codes "total") ≡ false) e p))
  some_points (Partial v vs) e p q = absurd (true≢false (subst (λ z. same z (codes "partial") ≡ false) e q))
