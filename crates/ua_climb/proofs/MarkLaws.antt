-- How marks grow.
use Rattle.std.proofs.Common.{◌≡◌, ℕ, ◌+◌, ◌<◌, Bool, true, false, List, [], ◌∷◌, ◌++◌, length, take, drop, set, get_or, Option, Some, None, cond, refl, sym, ap, ◌∙◌, subst, arith, ⊎_elim, inl, inr}
use Rattle.std.specs.Prelude.{Contains, ◌⊎◌, slice_index_or, is_none, is_some, slice_index}
use Rattle.std.proofs.lemmas.List.{get_or-set_same, get_or-set_other, length-set, take_more, length_push}
use Rattle.std.proofs.lemmas.List.Elements.{Contains-push, Contains-push_cases, Contains-append_left, Contains-append_right, Contains-append_cases}
use Rattle.std.proofs.lemmas.List.Sums.{sum_by-set}
use Rattle.std.proofs.lemmas.Bool.{cases_eq}
use Rattle.ua_climb.specs.Networks.{Network, members_of, IsLinked}
use Rattle.ua_table.proofs.Lists.{Contains-none, written_back}
use Rattle.ua_climb.specs.Marks.{HasSource, IsOpened, Opens}
use Rattle.ua_climb.specs.inner.Marks.{Enters}

-- no mark stands where none is
pub unlike : (m : Option ℕ) (q : ℕ) → m ≡ None → m ≡ Some q → ⊥
unlike m q e f = cc

-- nothing entered
pub enters_none : (p : ℕ) (from : List (Option ℕ)) (next : List ℕ) → Enters p [] from next from next
enters_none p from next = record {
  states = refl;
  kept = λ t q e. e;
  new = λ t q e. inl e;
  before = λ t c. c;
  fresh = λ t c. inl c;
  all = λ t c. absurd (Contains-none t c);
  count = refl;
}

-- a marked member is passed over
pub enters_skip : (p : ℕ) (ms : List ℕ) (f : List (Option ℕ)) (n : List ℕ) (f' : List (Option ℕ)) (n' : List ℕ) (t : ℕ) → Enters p ms f n f' n' → HasSource f' t → Enters p (ms ++ t ∷ []) f n f' n'
enters_skip p ms f n f' n' t h m = record {
  states = h.states;
  kept = h.kept;
  new = λ s q e. ⊎_elim (λ old. inl old) (λ w. inr (w.0, Contains-append_left ms (t ∷ []) s w.1, w.2)) (h.new s q e);
  before = h.before;
  fresh = h.fresh;
  all = λ s c. ⊎_elim (λ d. h.all s d) (λ e. subst (HasSource f') e m) (Contains-push_cases ms t s c);
  count = h.count;
}

-- a mark at another place, and at the place set
set_kept : (f : List (Option ℕ)) (t p s q : ℕ) → slice_index_or f t None ≡ None → slice_index_or f s None ≡ Some q → slice_index_or (set f t (Some p)) s None ≡ Some q
set_kept f t p s q e h =
    ⊎_elim (λ (same : s ≡ t). absurd (unlike (slice_index_or f t None) q e (let move = ap (λ k. slice_index_or f k None) same in sym move ∙ h))) (λ other. get_or-set_other f t s (Some p) None other ∙ h) (cases_eq s t)

set_new : (f : List (Option ℕ)) (t p s q : ℕ) → t < length f → slice_index_or (set f t (Some p)) s None ≡ Some q → (slice_index_or f s None ≡ Some q) ⊎ ((q ≡ p) × (s ≡ t))
set_new f t p s q l e =
    ⊎_elim (λ (same : s ≡ t).
    let here : slice_index_or (set f t (Some p)) s None ≡ Some p = ap (λ k. slice_index_or (set f t (Some p)) k None) same ∙ get_or-set_same f t (Some p) None l in
    inr (let both : Some q ≡ Some p = sym e ∙ here in cc, same))
    (λ other. inl (sym (get_or-set_other f t s (Some p) None other) ∙ e)) (cases_eq s t)

-- an unmarked member is marked
pub enters_more : (p : ℕ) (ms : List ℕ) (f : List (Option ℕ)) (n : List ℕ) (f' : List (Option ℕ)) (n' : List ℕ) (t : ℕ) → Enters p ms f n f' n'
    → t < length f' → slice_index_or f' t None ≡ None → Enters p (ms ++ t ∷ []) f n (set f' t (Some p)) (n' ++ t ∷ [])
enters_more p ms f n f' n' t h l e =
    let keeps : (s q : ℕ) → slice_index_or f' s None ≡ Some q → slice_index_or (set f' t (Some p)) s None ≡ Some q = λ s q was. set_kept f' t p s q e was in
    let here : HasSource (set f' t (Some p)) t = (p, get_or-set_same f' t (Some p) None l) in
    let counted = sum_by-set (λ (o : Option ℕ). cond (is_none o) 1 0) f' t (Some p) None l in
    let one : ℕ = 1 in
    let was_none : cond (is_none (slice_index_or f' t None)) 1 0 ≡ one = ap (λ (o : Option ℕ). cond (is_none o) 1 0) e in
    let longer = length_push n' t in
    record {
      states = length-set f' t (Some p) ∙ h.states;
      kept = λ s q was. keeps s q (h.kept s q was);
      new = λ s q now. ⊎_elim
          (λ was. ⊎_elim (λ old. inl old) (λ w. inr (w.0, Contains-append_left ms (t ∷ []) s w.1, Contains-append_left n' (t ∷ []) s w.2)) (h.new s q was))
          (λ w. inr (w.0, subst (Contains (ms ++ t ∷ [])) (sym w.1) (Contains-push ms t), subst (Contains (n' ++ t ∷ [])) (sym w.1) (Contains-push n' t)))
          (set_new f' t p s q l now);
      before = λ s c. Contains-append_left n' (t ∷ []) s (h.before s c);
      fresh = λ s c. ⊎_elim
          (λ d. ⊎_elim (λ old. inl old) (λ w. inr (w.0, keeps s w.0 w.1)) (h.fresh s d))
          (λ same. inr (subst (HasSource (set f' t (Some p))) same here))
          (Contains-push_cases n' t s c);
      all = λ s c. ⊎_elim (λ d. let w = h.all s d in (w.0, keeps s w.0 w.1)) (λ same. subst (HasSource (set f' t (Some p))) same here) (Contains-push_cases ms t s c);
      count = let had = h.count in omega (arith, counted, was_none, longer, had);
    }

-- what a test of an option means
pub none_from : {X : Type 0} (o : Option X) → is_some o ≡ false → o ≡ None
none_from None e = refl
none_from (Some x) e = cc

pub some_from : {X : Type 0} (o : Option X) → is_some o ≡ true → (x : X) × (o ≡ Some x)
some_from None e = cc
some_from (Some x) e = (x, refl)

-- one member more, which is marked or is not
pub enters_passes : (p : ℕ) (ms : List ℕ) (i : ℕ) (f : List (Option ℕ)) (n : List ℕ) (f' : List (Option ℕ)) (n' : List ℕ) (f'' : List (Option ℕ))
    (n'' : List ℕ)
    → Enters p (take i ms) f n f' n' → i < length ms → is_some (get_or f' (get_or ms i 0) None) ≡ true → f'' ≡ f' → n'' ≡ n'
    → Enters p (take (i + 1) ms) f n f'' n''
enters_passes p ms i f n f' n' f'' n'' h l e same_f same_n =
    let w = some_from (get_or f' (get_or ms i 0) None) e in
    let step = enters_skip p (take i ms) f n f' n' (get_or ms i 0) h w in
    subst (λ (m : List ℕ). Enters p m f n f'' n'') (sym (take_more ms i 0 l))
    (subst (λ (g : List (Option ℕ)). Enters p (take i ms ++ get_or ms i 0 ∷ []) f n g n'') (sym same_f)
    (subst (λ (m : List ℕ). Enters p (take i ms ++ get_or ms i 0 ∷ []) f n f' m) (sym same_n) step))

pub enters_marks : (p : ℕ) (ms : List ℕ) (i : ℕ) (f : List (Option ℕ)) (n : List ℕ) (f' : List (Option ℕ)) (n' : List ℕ) (f'' : List (Option ℕ))
    (n'' : List ℕ)
    → Enters p (take i ms) f n f' n' → i < length ms → get_or ms i 0 < length f' → is_some (get_or f' (get_or ms i 0) None) ≡ false
    → f'' ≡ set f' (get_or ms i 0) (Some p) → n'' ≡ n' ++ get_or ms i 0 ∷ [] → Enters p (take (i + 1) ms) f n f'' n''
enters_marks p ms i f n f' n' f'' n'' h l b e same_f same_n =
    let step = enters_more p (take i ms) f n f' n' (get_or ms i 0) h b (none_from (get_or f' (get_or ms i 0) None) e) in
    subst (λ (m : List ℕ). Enters p m f n f'' n'') (sym (take_more ms i 0 l))
    (subst (λ (g : List (Option ℕ)). Enters p (take i ms ++ get_or ms i 0 ∷ []) f n g n'') (sym same_f)
    (subst (λ (m : List ℕ). Enters p (take i ms ++ get_or ms i 0 ∷ []) f n (set f' (get_or ms i 0) (Some p)) m) (sym same_n) step))

-- ---- opening classes

-- one source alone
pub only_source : (s t : ℕ) → Contains (s ∷ []) t → s ≡ t
only_source s t c = ⊎_elim (λ d. absurd (Contains-none t d)) (λ e. e) (Contains-push_cases [] s t c)

pub one_source : (s : ℕ) → Contains (s ∷ []) s
one_source s = Contains-push [] s

-- a class that is opened by entering its members
set_opened : (o : List Bool) (c k : ℕ) → IsOpened (set o c true) k → (k ≡ c) ⊎ IsOpened o k
set_opened o c k h = ⊎_elim (λ same. inl same) (λ other. inr (sym (get_or-set_other o c k true false other) ∙ h)) (cases_eq k c)

kept_opened : (o : List Bool) (c k : ℕ) → c < length o → IsOpened o k → IsOpened (set o c true) k
kept_opened o c k l h =
    ⊎_elim (λ (same : k ≡ c). subst (λ (j : ℕ). IsOpened (set o c true) j) (sym same) (get_or-set_same o c true false l)) (λ other. get_or-set_other o c k true false other ∙ h) (cases_eq k c)

pub opens_first : (g : Network) (s c : ℕ) (ms : List ℕ) (f : List (Option ℕ)) (o : List Bool) (n : List ℕ) (f' : List (Option ℕ)) (n' : List ℕ)
    → c ≡ slice_index g.leads s → ms ≡ members_of g c → c < length o → Enters s ms f n f' n' → Opens g (s ∷ []) f o n f' (set o c true) n'
opens_first g s c ms f o n f' n' e m l h =
    let same : ms ≡ members_of g (slice_index g.leads s) = m ∙ ap (λ (k : ℕ). members_of g k) e in
    record {
      states = h.states;
      classes = length-set o c true;
      kept = h.kept;
      new = λ t q now. ⊎_elim (λ old. inl old)
          (λ w. inr (subst (Contains (s ∷ [])) (sym w.0) (one_source s), subst (λ (k : ℕ). IsLinked g k t) (sym w.0) (subst (λ (xs : List ℕ). Contains xs t) same w.1), w.2))
          (h.new t q now);
      before = h.before;
      fresh = h.fresh;
      opens = λ t k. subst (λ (j : ℕ). IsOpened (set o c true) (slice_index g.leads j)) (only_source s t k) (subst (IsOpened (set o c true)) e (get_or-set_same o c true false l));
      stays = λ k was. kept_opened o c k l was;
      full = λ was k t now here. ⊎_elim
          (λ (same_class : k ≡ c). h.all t (subst (λ (xs : List ℕ). Contains xs t) (sym m) (subst (λ (j : ℕ). Contains (members_of g j) t) same_class here)))
          (λ old. let w = was k t old here in (w.0, h.kept t w.0 w.1))
          (set_opened o c k now);
      count = h.count;
    }

-- one after the other
pub opens_join : (g : Network) (ss tt' : List ℕ) (f : List (Option ℕ)) (o : List Bool) (n : List ℕ) (f' : List (Option ℕ)) (o' : List Bool)
    (n' : List ℕ) (f'' : List (Option ℕ)) (o'' : List Bool) (n'' : List ℕ)
    → Opens g ss f o n f' o' n' → Opens g tt' f' o' n' f'' o'' n'' → Opens g (ss ++ tt') f o n f'' o'' n''
opens_join g ss tt' f o n f' o' n' f'' o'' n'' a b = record {
  states = b.states ∙ a.states;
  classes = b.classes ∙ a.classes;
  kept = λ t q e. b.kept t q (a.kept t q e);
  new = λ t q now. ⊎_elim
      (λ mid. ⊎_elim (λ old. inl old) (λ w. inr (Contains-append_left ss tt' q w.0, w.1, b.before t w.2)) (a.new t q mid))
      (λ w. inr (Contains-append_right ss tt' q w.0, w.1, w.2))
      (b.new t q now);
  before = λ t c. b.before t (a.before t c);
  fresh = λ t c. ⊎_elim (λ mid. ⊎_elim (λ old. inl old) (λ w. inr (w.0, b.kept t w.0 w.1)) (a.fresh t mid)) (λ m. inr m) (b.fresh t c);
  opens = λ s c. ⊎_elim (λ d. b.stays (slice_index g.leads s) (a.opens s d)) (λ d. b.opens s d) (Contains-append_cases ss tt' s c);
  stays = λ c h. b.stays c (a.stays c h);
  full = λ h. b.full (a.full h);
  count = b.count ∙ a.count;
}

-- one state of a frontier more
pub opens_more : (g : Network) (ss : List ℕ) (i : ℕ) (f : List (Option ℕ)) (o : List Bool) (n : List ℕ) (f' : List (Option ℕ)) (o' : List Bool)
    (n' : List ℕ) (f'' : List (Option ℕ)) (o'' : List Bool) (n'' : List ℕ)
    → Opens g (take i ss) f o n f' o' n' → i < length ss → Opens g (get_or ss i 0 ∷ []) f' o' n' f'' o'' n''
    → Opens g (take (i + 1) ss) f o n f'' o'' n''
opens_more g ss i f o n f' o' n' f'' o'' n'' a l b =
    subst (λ (xs : List ℕ). Opens g xs f o n f'' o'' n'') (sym (take_more ss i 0 l)) (opens_join g (take i ss) (get_or ss i 0 ∷ []) f o n f' o' n' f'' o'' n'' a b)

-- a class that is opened by entering its members through a slice that was lent
pub opens_by_entering : (g : Network) (s c : ℕ) (ms : List ℕ) (f lent : List (Option ℕ)) (len : ℕ) (o : List Bool) (n : List ℕ) (f' : List (Option ℕ))
    (n' : List ℕ)
    → lent ≡ f → len ≡ length f → c ≡ slice_index g.leads s → ms ≡ members_of g c → c < length o → Enters s ms lent n f' n'
    → Opens g (s ∷ []) f o n (take len (f' ++ drop (length f') f)) (set o c true) n'
opens_by_entering g s c ms f lent len o n f' n' same long e m l h =
    let entered = subst (λ (x : List (Option ℕ)). Enters s ms x n f' n') same h in
    let back = written_back f f' len entered.states long in
    subst (λ (x : List (Option ℕ)). Opens g (s ∷ []) f o n x (set o c true) n') (sym back) (opens_first g s c ms f o n f' n' e m l entered)
