-- At the front of tokens stands at most one term.
use Rattle.ua_operands.proofs.Vocabulary.{Placed, Wanted, Front}
use Rattle.ua_script.proofs.Vocabulary.{no_parenthesis_follows, Phrase, Phrases, phrase, none, more}
use Rattle.std.proofs.Common.{◌≡◌, true, false, not, nat_eq, List, [], ◌∷◌, ◌++◌, codes, refl, sym, ap, ◌∙◌, subst, append-nil}
use Rattle.std.specs.Cmp.Lexicographic.{pointwise}
use Rattle.std.proofs.lemmas.Bool.{false≢true}
use Rattle.ua_term.specs.Terms.{mark, term, applied, behind}
use Rattle.ua_term.specs.Reading.{IsEnd, IsTermAt}
use Rattle.ua_script.proofs.TokenReadings.{Same, apart, clash}

not_open : {G : Type 0} (t : Placed) (ts : List Placed) (us : List Wanted) (l : List Placed) → IsEnd us l → Front (t ∷ ts) us l → t.text ≡ codes "(" → G
not_open t ts [] l e f h =
    let p : no_parenthesis_follows (t ∷ ts) ≡ true = subst (λ z. no_parenthesis_follows z ≡ true) (sym f) e in
    absurd (false≢true (subst (λ z. not (pointwise nat_eq z (codes "(")) ≡ true) h p))
not_open t ts (w ∷ us) l e f h = clash w t.text (codes "(") f.1 e h

behind_ends : (ps : Phrases) (us : List Wanted) (l : List Placed) → IsEnd (behind ps ++ us) l
behind_ends none us l = refl
behind_ends (more p ps) us l = refl

mutual
  pub one_term : (p q : Phrase) (ts : List Placed) (us vs : List Wanted) (l r : List Placed) → IsEnd us l → IsEnd vs r → Front ts (term p ++ us) l → Front ts (term q ++ vs) r → Same p q us vs l r
  one_term (phrase w a x) (phrase v b y) [] us vs l r d e f g = absurd f
  one_term (phrase w a x) (phrase v b y) (t ∷ ts) us vs l r d e f g =
      let h = one_applied x y ts us vs l r d e f.3 g.3 in
      (ap (λ z. phrase z a x) (sym f.1 ∙ g.1) ∙ ap (λ z. phrase v z x) (f.2 ∙ sym g.2) ∙ ap (λ z. phrase v b z) h.0, h.1)

  one_applied : (x y : Phrases) (ts : List Placed) (us vs : List Wanted) (l r : List Placed) → IsEnd us l → IsEnd vs r → Front ts (applied x ++ us) l → Front ts (applied y ++ vs) r
      → Same x y us vs l r
  one_applied none none ts us vs l r d e f g = (refl, record { left = ts; first = f; second = g })
  one_applied none (more q qs) [] us vs l r d e f g = absurd g
  one_applied none (more q qs) (t ∷ ts) us vs l r d e f g = not_open t ts us l d f g.1
  one_applied (more p ps) y [] us vs l r d e f g = absurd f
  one_applied (more p ps) none (t ∷ ts) us vs l r d e f g = not_open t ts vs r e g f.1
  one_applied (more p ps) (more q qs) (t ∷ ts) us vs l r d e f g =
      let h = one_term p q ts (behind ps ++ us) (behind qs ++ vs) l r (behind_ends ps us l) (behind_ends qs vs r) (apart (term p) (behind ps) us ts l f.3) (apart (term q) (behind qs) vs ts r g.3) in
      let k = one_behind ps qs h.1.left us vs l r h.1.first h.1.second in
      (ap (λ z. more z ps) h.0 ∙ ap (λ z. more q z) k.0, k.1)

  one_behind : (x y : Phrases) (ts : List Placed) (us vs : List Wanted) (l r : List Placed) → Front ts (behind x ++ us) l → Front ts (behind y ++ vs) r → Same x y us vs l r
  one_behind none y [] us vs l r f g = absurd f
  one_behind (more p ps) y [] us vs l r f g = absurd f
  one_behind none none (t ∷ ts) us vs l r f g = (refl, record { left = ts; first = f.3; second = g.3 })
  one_behind none (more q qs) (t ∷ ts) us vs l r f g = clash (mark false) t.text (codes ")") g.1 refl f.1
  one_behind (more p ps) none (t ∷ ts) us vs l r f g = clash (mark false) t.text (codes ")") f.1 refl g.1
  one_behind (more p ps) (more q qs) (t ∷ ts) us vs l r f g =
      let h = one_term p q ts (behind ps ++ us) (behind qs ++ vs) l r (behind_ends ps us l) (behind_ends qs vs r) (apart (term p) (behind ps) us ts l f.3) (apart (term q) (behind qs) vs ts r g.3) in
      let k = one_behind ps qs h.1.left us vs l r h.1.first h.1.second in
      (ap (λ z. more z ps) h.0 ∙ ap (λ z. more q z) k.0, k.1)

-- nothing else is wanted
alone : (ts rest : List Placed) (p : Phrase) → IsTermAt p ts rest → Front ts (term p ++ []) rest
alone ts rest p h = subst (λ z. Front ts z rest) (sym (append-nil (term p))) h.front

pub one_term_at : (ts l r : List Placed) (p q : Phrase) → IsTermAt p ts l → IsTermAt q ts r → (p ≡ q) × (l ≡ r)
one_term_at ts l r p q h k =
    let e = one_term p q ts [] [] l r h.follows k.follows (alone ts l p h) (alone ts r q k) in
    (e.0, sym e.1.first ∙ e.1.second)
