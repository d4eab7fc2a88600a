-- The same tokens read in two ways: what is read is the same, and so is what is left.
use Rattle.ua_operands.proofs.Vocabulary.{AllByRecursion, flat_map, Placed, same, begins_with, Spelled, Wanted, IsSign, IsAt, may_spell, Front}
use Rattle.std.proofs.Common.{◌≡◌, ℕ, true, false, List, [], ◌∷◌, ◌++◌, map, refl, sym, ap, ◌∙◌, subst, append_assoc}
use Rattle.std.proofs.lemmas.Bool.{false≢true}
use Rattle.ua_text.proofs.Spelling.{no_spell}
use Rattle.ua_text.proofs.WordLaws.{same_itself}

-- what is left begins with what is wanted next, in either reading
pub record Left (us vs : List Wanted) (l r : List Placed) : Type 0 where
  pub left : List Placed
  pub first : Front left us l
  pub second : Front left vs r

-- the same is read, and the same is left
abbrev pub Same : {A : Type 0} → A → A → List Wanted → List Wanted → List Placed → List Placed → Type 0
Same x y us vs l r = (x ≡ y) × Left us vs l r

-- At the front of tokens at most one value stands of those that are good, if what is behind it may be there.
abbrev pub IsDetermined : {X : Type 0} → (X → List Wanted) → (X → Type 0) → (List Wanted → Type 0) → List Placed → List Placed → Type 0
IsDetermined {X} write Good Ends l r =
    (x y : X) (ts : List Placed) (us vs : List Wanted) → Good x → Good y → Ends us → Ends vs → Front ts (write x ++ us) l → Front ts (write y ++ vs) r → Same x y us vs l r

abbrev pub Any : {A : Type 0} → A → Type 0
Any a = Unit {0}

-- one token tells which value it is
abbrev pub IsTold : {X : Type 0} → (X → Wanted) → (X → Type 0) → Type 0
IsTold {X} write Good = (x y : X) (t : Placed) → Good x → Good y → IsSign (write x).sign t.text → IsAt (write x).place t → IsSign (write y).sign t.text → IsAt (write y).place t → x ≡ y

pub one_token : {X : Type 0} (write : X → Wanted) (Good : X → Type 0) (Ends : List Wanted → Type 0) (l r : List Placed) → IsTold write Good → IsDetermined (λ x. write x ∷ []) Good Ends l r
one_token write Good Ends l r told x y [] us vs p q d e f g = absurd f
one_token write Good Ends l r told x y (t ∷ ts) us vs p q d e f g = (told x y t p q f.1 f.2 g.1 g.2, record { left = ts; first = f.3; second = g.3 })

-- what is wanted in two parts, and then more
pub apart : (us vs ws : List Wanted) (ts rest : List Placed) → Front ts ((us ++ vs) ++ ws) rest → Front ts (us ++ (vs ++ ws)) rest
apart us vs ws ts rest f = subst (λ z. Front ts z rest) (append_assoc us vs ws) f

-- no text is spelled by a sign that may not spell it
pub clash : {G : Type 0} (w : Wanted) (t mark : List ℕ) → IsSign w.sign t → may_spell w.sign mark ≡ false → t ≡ mark → G
clash w t mark s m e =
    let no : same t mark ≡ false = no_spell w.sign t mark s m in
    let yes : same t mark ≡ true = subst (λ z. same z mark ≡ true) (sym e) (same_itself mark) in
    absurd (false≢true (sym no ∙ yes))

-- where nothing begins with a mark
pub opens_not : {G : Type 0} (mark : List ℕ) (t : Placed) (ts : List Placed) (us : List Wanted) → begins_with mark us ≡ false → Front (t ∷ ts) us [] → t.text ≡ mark → G
opens_not mark t ts [] e f h = let no : ⊥ = cc in absurd no
opens_not mark t ts (w ∷ us) e f h = clash w t.text mark f.1 e h

-- One token each, up to a mark.
module _ {X : Type 0} (P : X → Type 0) (write : X → Wanted) (close : Wanted) (mark : List ℕ) (closes : close.sign ≡ Spelled mark)
    (unlike : (x : X) → P x → may_spell (write x).sign mark ≡ false) (told : IsTold write P) (us vs : List Wanted) (l r : List Placed) where
  is_mark : (t : List ℕ) → IsSign close.sign t → t ≡ mark
  is_mark t h = subst (λ z. IsSign z t) closes h

  pub closed : (xs ys : List X) (ts : List Placed) → AllByRecursion P xs → AllByRecursion P ys → Front ts (map write xs ++ close ∷ us) l → Front ts (map write ys ++ close ∷ vs) r → Same xs ys us vs l r
  closed [] ys [] p q f g = absurd f
  closed (x ∷ xs) ys [] p q f g = absurd f
  closed [] [] (t ∷ ts) p q f g = (refl, record { left = ts; first = f.3; second = g.3 })
  closed [] (y ∷ ys) (t ∷ ts) p q f g = clash (write y) t.text mark g.1 (unlike y q.0) (is_mark t.text f.1)
  closed (x ∷ xs) [] (t ∷ ts) p q f g = clash (write x) t.text mark f.1 (unlike x p.0) (is_mark t.text g.1)
  closed (x ∷ xs) (y ∷ ys) (t ∷ ts) p q f g =
      let e = told x y t p.0 q.0 f.1 f.2 g.1 g.2 in
      let rest = closed xs ys ts p.1 q.1 f.3 g.3 in
      (ap (λ z. z ∷ xs) e ∙ ap (λ z. y ∷ z) rest.0, rest.1)

-- where they end, no more of them begins
abbrev pub NoMore : {X : Type 0} → (X → List Wanted) → (X → Type 0) → (List Wanted → Type 0) → List Placed → List Placed → Type 0
NoMore {X} write P Ends l r = (x : X) (ts : List Placed) (us vs : List Wanted) → P x → Ends vs → Front ts (write x ++ us) l → Front ts vs r → ⊥

-- One group each, as long as one begins.
module _ {X : Type 0} (P : X → Type 0) (write : X → List Wanted) (Ends Follows : List Wanted → Type 0) (l r : List Placed) (one : IsDetermined write P Follows l r)
    (follows : (xs : List X) (us : List Wanted) → AllByRecursion P xs → Ends us → Follows (flat_map write xs ++ us)) (first : NoMore write P Ends l r) (second : NoMore write P Ends r l) where
  pub many : IsDetermined {X = List X} (flat_map write) (λ xs. AllByRecursion P xs) Ends l r
  many [] [] ts us vs p q a b f g = (refl, record { left = ts; first = f; second = g })
  many [] (y ∷ ys) ts us vs p q a b f g = absurd (second y ts (flat_map write ys ++ vs) us q.0 a (apart (write y) (flat_map write ys) vs ts r g) f)
  many (x ∷ xs) [] ts us vs p q a b f g = absurd (first x ts (flat_map write xs ++ us) vs p.0 b (apart (write x) (flat_map write xs) us ts l f) g)
  many (x ∷ xs) (y ∷ ys) ts us vs p q a b f g =
      let here = one x y ts (flat_map write xs ++ us) (flat_map write ys ++ vs) p.0 q.0 (follows xs us p.1 a) (follows ys vs q.1 b) in
      let e = here (apart (write x) (flat_map write xs) us ts l f) (apart (write y) (flat_map write ys) vs ts r g) in
      let rest = many xs ys e.1.left us vs p.1 q.1 a b e.1.first e.1.second in
      (ap (λ z. z ∷ xs) e.0 ∙ ap (λ z. y ∷ z) rest.0, rest.1)
