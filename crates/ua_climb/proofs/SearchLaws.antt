-- Why a search by levels finds least walks.
use Rattle.std.proofs.Common.{◌≡◌, ℕ, zero, suc, ◌+◌, ◌-◌, ◌<◌, ◌≤◌, Bool, true, false, List, [], ◌∷◌, ◌++◌, length, take, drop, set, map, replicate, reverse, Option, Some, None}
use Rattle.std.proofs.Common.{cond, refl, sym, ap, ◌∙◌, subst, arith, eq-eqb, ⊎_elim, inl, inr}
use Rattle.std.specs.Prelude.{Contains, ◌⊎◌, slice_index_or, is_none, is_some, slice_index, ◌==◌}
use Rattle.std.specs.List.{AllByRecursion}
use Rattle.std.proofs.lemmas.List.{get_or-set_same, get_or-set_other, length-set, get_or_past, length-map, length-replicate, reverse-append, length-reverse}
use Rattle.std.proofs.lemmas.Option.{same_Some}
use Rattle.std.proofs.lemmas.List.Sums.{count_by-le-length, sum_by-set}
use Rattle.std.proofs.lemmas.Bool.{cases_eq, cases_lt, false≢true, eqb-true}
use Rattle.ua_table.specs.Sequences.{Alternates, BeginsWith, EndsWith}
use Rattle.ua_climb.specs.Networks.{Network, IsLinked}
use Rattle.ua_climb.specs.inner.Networks.{IsWalk, IsLeastWalk, HasWalk, HasNoWalk}
use Rattle.ua_climb.specs.Marks.{HasSource, unmarked, IsOpened, Opens}
use Rattle.ua_climb.specs.inner.Marks.{IsTrail, IsLine, HasTrail, IsTour, IsBegun, IsSearched}
use Rattle.ua_table.proofs.Lists.{Contains-none, all_from_contains, written_back}
use Rattle.ua_climb.proofs.MarkLaws.{some_from, unlike, only_source, one_source}

-- ---- walks and tours

-- a tour goes on along a list of states
tour_along : (g : Network) (start n s : ℕ) (rest : List ℕ) (t : ℕ) → IsTour g start s n → Alternates (IsLinked g) (IsLinked g) (s ∷ rest) → EndsWith (λ x. x ≡ t) (s ∷ rest) → IsTour g start t (n + length rest)
tour_along g start n s [] t h linked e =
    let more : n ≡ n + 0 = omega arith in
    subst (λ (k : ℕ). IsTour g start t k) more (subst (λ (x : ℕ). IsTour g start x n) e h)
tour_along g start n s (y ∷ rest) t h linked e =
    let more : suc n + length rest ≡ n + suc (length rest) = omega arith in
    subst (λ (k : ℕ). IsTour g start t k) more (tour_along g start (suc n) y rest t (s, h, linked.0) linked.1 e)

-- the tour of a walk, which has one state more than links
pub tour_from_walk : (g : Network) (start t : ℕ) (states : List ℕ) → IsWalk g start t states → (n : ℕ) × IsTour g start t n × (length states ≡ n + 1)
tour_from_walk g start t [] w = absurd w.begins
tour_from_walk g start t (s ∷ rest) w =
    let count : suc (length rest) ≡ 0 + length rest + 1 = omega arith in
    (0 + length rest, tour_along g start 0 s rest t w.begins w.linked w.ends, count)

-- one state more at the end
alternates_push : (g : Network) (states : List ℕ) (p t : ℕ) → Alternates (IsLinked g) (IsLinked g) states → EndsWith (λ x. x ≡ p) states → IsLinked g p t → Alternates (IsLinked g) (IsLinked g) (states ++ t ∷ [])
alternates_push g [] p t h e l = absurd e
alternates_push g (x ∷ []) p t h e l = (subst (λ (k : ℕ). IsLinked g k t) (sym e) l, tt)
alternates_push g (x ∷ y ∷ rest) p t h e l = (h.0, alternates_push g (y ∷ rest) p t h.1 e l)

ends_push : (states : List ℕ) (t : ℕ) → EndsWith (λ x. x ≡ t) (states ++ t ∷ [])
ends_push [] t = refl
ends_push (x ∷ []) t = refl
ends_push (x ∷ y ∷ rest) t = ends_push (y ∷ rest) t

begins_push : (states : List ℕ) (P : ℕ → Type 0) (t : ℕ) → BeginsWith P states → BeginsWith P (states ++ t ∷ [])
begins_push [] P t h = absurd h
begins_push (x ∷ rest) P t h = h

pub walk_push : (g : Network) (start p t : ℕ) (states : List ℕ) → IsWalk g start p states → IsLinked g p t → IsWalk g start t (states ++ t ∷ [])
walk_push g start p t states w l = record {
  begins = begins_push states (λ s. s ≡ start) t w.begins;
  linked = alternates_push g states p t w.linked w.ends l;
  ends = ends_push states t;
}

pub walk_from_tour : (g : Network) (start t n : ℕ) → IsTour g start t n → HasWalk g start t
walk_from_tour g start t zero h = record { states = t ∷ []; walk = record { begins = h; linked = tt; ends = refl } }
walk_from_tour g start t (suc n) h =
    let before = walk_from_tour g start h.0 n h.1 in
    record { states = before.states ++ t ∷ []; walk = walk_push g start h.0 t before.states before.walk h.2 }

tour_from_trail : (g : Network) (from : List (Option ℕ)) (start t n : ℕ) → IsTrail g from start t n → IsTour g start t n
tour_from_trail g from start t zero h = h
tour_from_trail g from start t (suc n) h = (h.0, tour_from_trail g from start h.0 n h.3, h.2)

-- ---- levels

trail_kept : (g : Network) (f f' : List (Option ℕ)) (start t n : ℕ) → ((s q : ℕ) → slice_index_or f s None ≡ Some q → slice_index_or f' s None ≡ Some q) → IsTrail g f start t n → IsTrail g f' start t n
trail_kept g f f' start t zero keeps h = h
trail_kept g f f' start t (suc n) keeps h = (h.0, keeps t h.0 h.1, h.2, trail_kept g f f' start h.0 n keeps h.3)

-- each mark after a level has a trail
trails_after : (g : Network) (start : ℕ) (ends : List ℕ) (level : ℕ) (f : List (Option ℕ)) (o : List Bool) (frontier : List ℕ) (f' : List (Option ℕ))
    (o' : List Bool) (next : List ℕ)
    → IsSearched g start ends level f o frontier → Opens g frontier f o [] f' o' next → (t : ℕ) → HasSource f' t → HasTrail g f' start t (level + 1)
trails_after g start ends level f o frontier f' o' next h w t m =
    ⊎_elim
    (λ old. let a = h.trails t (m.0, old) in let few = a.few in record { links = a.links; few = omega arith; trail = trail_kept g f f' start t a.links w.kept a.trail })
    (λ new. let a = h.trails m.0 (h.frontier_marked m.0 new.0) in let few = a.few in record { links = suc a.links; few = omega arith; trail = (m.0, m.1, new.1, trail_kept g f f' start m.0 a.links w.kept a.trail) })
    (w.new t m.0 m.1)

-- each state that a tour of one link more leads to is marked after a level
near_after : (g : Network) (start : ℕ) (ends : List ℕ) (level : ℕ) (f : List (Option ℕ)) (o : List Bool) (frontier : List ℕ) (f' : List (Option ℕ))
    (o' : List Bool) (next : List ℕ)
    → IsSearched g start ends level f o frontier → Opens g frontier f o [] f' o' next → (n t : ℕ) → n ≤ level + 1 → IsTour g start t n
    → HasSource f' t
near_after g start ends level f o frontier f' o' next h w zero t l tour =
    let m = h.near 0 t (omega arith) tour in (m.0, w.kept t m.0 m.1)
near_after g start ends level f o frontier f' o' next h w (suc n) t l tour =
    let full = w.full h.full in
    let m = h.near n tour.0 (omega (arith, l)) tour.1 in
    ⊎_elim
    (λ was. full (slice_index g.leads tour.0) t (w.stays (slice_index g.leads tour.0) was) tour.2)
    (λ front. full (slice_index g.leads tour.0) t (w.opens tour.0 front) tour.2)
    (h.pending tour.0 m)

-- a class that a marked state leads to is open after a level, or the state is a next one
pending_after : (g : Network) (start : ℕ) (ends : List ℕ) (level : ℕ) (f : List (Option ℕ)) (o : List Bool) (frontier : List ℕ) (f' : List (Option ℕ))
    (o' : List Bool) (next : List ℕ)
    → IsSearched g start ends level f o frontier → Opens g frontier f o [] f' o' next → (t : ℕ) → HasSource f' t
    → IsOpened o' (slice_index g.leads t) ⊎ Contains next t
pending_after g start ends level f o frontier f' o' next h w t m =
    ⊎_elim
    (λ old. ⊎_elim (λ was. inl (w.stays (slice_index g.leads t) was)) (λ front. inl (w.opens t front)) (h.pending t (m.0, old)))
    (λ new. inr new.2)
    (w.new t m.0 m.1)

-- the next level
pub search_goes : (g : Network) (start : ℕ) (ends : List ℕ) (level : ℕ) (f : List (Option ℕ)) (o : List Bool) (frontier : List ℕ)
    (f' : List (Option ℕ)) (o' : List Bool) (next : List ℕ)
    → IsSearched g start ends level f o frontier → Opens g frontier f o [] f' o' next → 0 < length frontier
    → ((t : ℕ) → Contains ends t → HasSource f' t → ⊥) → IsSearched g start ends (level + 1) f' o' next
search_goes g start ends level f o frontier f' o' next h w some none = record {
  states = w.states ∙ h.states;
  classes = w.classes ∙ h.classes;
  trails = trails_after g start ends level f o frontier f' o' next h w;
  near = near_after g start ends level f o frontier f' o' next h w;
  frontier_marked = λ t c. ⊎_elim (λ d. absurd (Contains-none t d)) (λ m. m) (w.fresh t c);
  pending = pending_after g start ends level f o frontier f' o' next h w;
  full = w.full h.full;
  unended = none;
  count = let a = h.count in let b = w.count in omega (arith, a, b, some);
}

-- an end that the next level reached
pub record IsNearest (g : Network) (start : ℕ) (ends : List ℕ) (from : List (Option ℕ)) (end links : ℕ) : Type 0 where
  pub trail : IsTrail g from start end links
  pub least : (n t : ℕ) → Contains ends t → IsTour g start t n → links ≤ n

pub search_finds : (g : Network) (start : ℕ) (ends : List ℕ) (level : ℕ) (f : List (Option ℕ)) (o : List Bool) (frontier : List ℕ)
    (f' : List (Option ℕ)) (o' : List Bool) (next : List ℕ) (end : ℕ)
    → IsSearched g start ends level f o frontier → Opens g frontier f o [] f' o' next → Contains ends end → HasSource f' end
    → IsNearest g start ends f' end (level + 1)
search_finds g start ends level f o frontier f' o' next end h w c m =
    let far : (n t : ℕ) → Contains ends t → IsTour g start t n → level + 1 ≤ n = λ n t d tour. ⊎_elim (λ (near : n < level + 1). absurd (h.unended t d (h.near n t (omega arith) tour))) (λ more. more) (cases_lt n (level + 1)) in
    let a = trails_after g start ends level f o frontier f' o' next h w end m in
    let least = far a.links end c (tour_from_trail g f' start end a.links a.trail) in
    let few = a.few in
    let exact : a.links ≡ level + 1 = omega arith in
    record { trail = subst (λ (k : ℕ). IsTrail g f' start end k) exact a.trail; least = far }

-- the walk of its trail is a least one
pub least_from_nearest : (g : Network) (start : ℕ) (ends : List ℕ) (from : List (Option ℕ)) (end links : ℕ) (states : List ℕ)
    → IsNearest g start ends from end links → Contains ends end → IsWalk g start end states → length states ≡ links + 1
    → IsLeastWalk g start ends states
least_from_nearest g start ends from end links states h c w count = record {
  end = end;
  wanted = c;
  walk = w;
  least = λ other others d v. let tour = tour_from_walk g start other others v in let e = tour.2 in let l = h.least tour.0 other d tour.1 in omega arith;
}

-- ---- the end of a search

all_marked : (g : Network) (start : ℕ) (ends : List ℕ) (level : ℕ) (f : List (Option ℕ)) (o : List Bool) (frontier : List ℕ) → IsSearched g start ends level f o frontier → length frontier ≡ 0 → (n t : ℕ) → IsTour g start t n → HasSource f t
all_marked g start ends level f o frontier h none zero t tour = h.near 0 t (omega arith) tour
all_marked g start ends level f o frontier h none (suc n) t tour =
    ⊎_elim
    (λ was. h.full (slice_index g.leads tour.0) t was tour.2)
    (λ front. absurd (let l = front.1 in omega arith))
    (h.pending tour.0 (all_marked g start ends level f o frontier h none n tour.0 tour.1))

some_at : (f : List (Option ℕ)) (t : ℕ) → slice_index_or (map is_some f) t false ≡ is_some (slice_index_or f t None)
some_at [] t = refl
some_at (x ∷ xs) zero = refl
some_at (x ∷ xs) (suc t) = some_at xs t

pub search_ends : (g : Network) (start : ℕ) (ends : List ℕ) (level : ℕ) (f : List (Option ℕ)) (o : List Bool) (frontier : List ℕ) (marks : List Bool)
    → IsSearched g start ends level f o frontier → length frontier ≡ 0 → marks ≡ map is_some f → HasNoWalk g start ends marks
search_ends g start ends level f o frontier marks h none e =
    let marked : (t : ℕ) → HasWalk g start t → HasSource f t = λ t r. let tour = tour_from_walk g start t r.states r.walk in all_marked g start ends level f o frontier h none tour.0 t tour.1 in
    record {
      none = λ end c r. h.unended end c (marked end r);
      count = ap length e ∙ length-map f is_some ∙ h.states;
      reached = λ t. (
        λ is. let m = some_from (slice_index_or f t None) (sym (some_at f t) ∙ ap (λ (ms : List Bool). slice_index_or ms t false) (sym e) ∙ is) in
            let a = h.trails t m in
            walk_from_tour g start t a.links (tour_from_trail g f start t a.links a.trail),
        λ r. let m = marked t r in ap (λ (ms : List Bool). slice_index_or ms t false) e ∙ some_at f t ∙ ap is_some m.1,
      );
    }

-- ---- walking back

-- a line has a source at each of its links
line_source : (from : List (Option ℕ)) (t n m : ℕ) → IsLine from t n → n ≡ suc m → (p : ℕ) × (slice_index_or from t None ≡ Some p) × IsLine from p m
line_source from t zero m h e = absurd (omega arith)
line_source from t (suc n) m h e = let same : n ≡ m = omega arith in (h.0, h.1, subst (IsLine from h.0) same h.2)

trail_source : (g : Network) (from : List (Option ℕ)) (start t n m p : ℕ) → IsTrail g from start t n → n ≡ suc m → slice_index_or from t None ≡ Some p → IsLinked g p t × IsTrail g from start p m
trail_source g from start t zero m p h e s = absurd (omega arith)
trail_source g from start t (suc n) m p h e s =
    let same : n ≡ m = omega arith in
    let one : h.0 ≡ p = same_Some h.0 p (sym h.1 ∙ s) in
    (subst (λ (k : ℕ). IsLinked g k t) one h.2, subst (λ (k : ℕ). IsTrail g from start k m) one (subst (IsTrail g from start h.0) same h.3))

less : (links k : ℕ) → k < links → links - k ≡ suc (links - (k + 1))
less links k l = omega arith

-- a state on a line is marked, so it is one of the states
pub line_some : (from : List (Option ℕ)) (t links k : ℕ) → IsLine from t (links - k) → k < links → HasSource from t
line_some from t links k h l = let s = line_source from t (links - k) (links - (k + 1)) h (less links k l) in (s.0, s.1)

pub line_within : (from : List (Option ℕ)) (t links k : ℕ) → IsLine from t (links - k) → k < links → t < length from
line_within from t links k h l =
    let s = line_some from t links k h l in
    ⊎_elim (λ below. below) (λ past. absurd (unlike (slice_index_or from t None) s.0 (get_or_past from t None past) s.1)) (cases_lt t (length from))

pub line_next : (from : List (Option ℕ)) (t links k p : ℕ) → IsLine from t (links - k) → k < links → slice_index_or from t None ≡ Some p → IsLine from p (links - (k + 1))
line_next from t links k p h l e =
    let s = line_source from t (links - k) (links - (k + 1)) h (less links k l) in
    subst (λ (j : ℕ). IsLine from j (links - (k + 1))) (same_Some s.0 p (sym s.1 ∙ e)) s.2

-- the walk has one state more at its front
walk_before : (g : Network) (p t end : ℕ) (states : List ℕ) → IsWalk g t end states → IsLinked g p t → IsWalk g p end (p ∷ states)
walk_before g p t end [] w l = absurd w.begins
walk_before g p t end (x ∷ rest) w l = record { begins = refl; linked = (subst (IsLinked g p) (sym w.begins) l, w.linked); ends = w.ends }

pub back_more : (g : Network) (from : List (Option ℕ)) (start t end links k p : ℕ) (walk walk' : List ℕ)
    → IsTrail g from start t (links - k) × IsWalk g t end (reverse walk) → k < links → slice_index_or from t None ≡ Some p → walk' ≡ walk ++ p ∷ []
    → IsTrail g from start p (links - (k + 1)) × IsWalk g p end (reverse walk')
back_more g from start t end links k p walk walk' h l e same =
    let s = trail_source g from start t (links - k) (links - (k + 1)) p h.0 (less links k l) e in
    let turned : p ∷ reverse walk ≡ reverse walk' = sym (reverse-append walk (p ∷ [])) ∙ ap reverse (sym same) in
    (s.1, subst (IsWalk g p end) turned (walk_before g p t end (reverse walk) h.1 s.0))

-- where no link is left the walk begins at the start
pub back_done : (g : Network) (from : List (Option ℕ)) (start t end links k : ℕ) (walk : List ℕ) → IsTrail g from start t (links - k) × IsWalk g t end walk → links ≤ k → IsWalk g start end walk
back_done g from start t end links k walk h l =
    let none : links - k ≡ 0 = omega arith in
    let same : t ≡ start = subst (IsTrail g from start t) none h.0 in
    subst (λ (s : ℕ). IsWalk g s end walk) same h.1

-- a list that was turned round where it lay
pub turned_back : (xs lent new : List ℕ) (len : ℕ) → lent ≡ xs → len ≡ length xs → new ≡ reverse lent → take len (new ++ drop (length new) xs) ≡ reverse xs
turned_back xs lent new len same long e =
    let turned : new ≡ reverse xs = e ∙ ap reverse same in
    written_back xs new len (ap length turned ∙ length-reverse xs) long ∙ turned

-- ---- the begin

blank_at : (n t : ℕ) → slice_index_or {A = Option ℕ} (replicate n None) t None ≡ None
blank_at zero t = refl
blank_at (suc n) zero = refl
blank_at (suc n) (suc t) = blank_at n t

shut_at : (n c : ℕ) → slice_index_or (replicate n false) c false ≡ false
shut_at zero c = refl
shut_at (suc n) zero = refl
shut_at (suc n) (suc c) = shut_at n c

-- the start alone is marked
begun_at : (n start t q : ℕ) → slice_index_or (set {A = Option ℕ} (replicate n None) start (Some start)) t None ≡ Some q → t ≡ start
begun_at n start t q e =
    ⊎_elim (λ same. same)
    (λ other. let there : slice_index_or {A = Option ℕ} (replicate n None) t None ≡ Some q = sym (get_or-set_other {A = Option ℕ} (replicate n None) start t (Some start) None other) ∙ e in
    absurd (unlike (slice_index_or {A = Option ℕ} (replicate n None) t None) q (blank_at n t) there))
    (cases_eq t start)

begun_count : (n start : ℕ) → start < n → unmarked (set {A = Option ℕ} (replicate n None) start (Some start)) + 1 ≤ n
begun_count n start l =
    let blank : List (Option ℕ) = replicate n None in
    let long : length blank ≡ n = length-replicate n None in
    let one : ℕ = 1 in
    let counted = sum_by-set (λ (o : Option ℕ). cond (is_none o) 1 0) blank start (Some start) None (omega (arith, long)) in
    let was : cond (is_none (slice_index_or blank start None)) 1 0 ≡ one = ap (λ (o : Option ℕ). cond (is_none o) 1 0) (blank_at n start) in
    let most = count_by-le-length is_none blank in
    omega (arith, counted, was, most, long)

begun_near : (g : Network) (start : ℕ) (f : List (Option ℕ)) → HasSource f start → (n t : ℕ) → n ≤ 0 → IsTour g start t n → HasSource f t
begun_near g start f m zero t l tour = subst (HasSource f) (sym tour) m
begun_near g start f m (suc n) t l tour = absurd (omega arith)

pub search_begins : (g : Network) (start : ℕ) (ends : List ℕ) (f : List (Option ℕ)) (o : List Bool) (frontier : List ℕ) → IsBegun g start f o
    → frontier ≡ start ∷ [] → start < length g.leads → (Contains ends start → ⊥) → IsSearched g start ends 0 f o frontier
search_begins g start ends f o frontier h front l away =
    let n = length g.leads in
    let blank : List (Option ℕ) = replicate n None in
    let long : length blank ≡ n = length-replicate n None in
    let only : (t : ℕ) → HasSource f t → t ≡ start = λ t m. begun_at n start t m.0 (subst (λ (x : List (Option ℕ)). slice_index_or x t None ≡ Some m.0) h.from_is m.1) in
    let marked : HasSource f start = (start, ap (λ (x : List (Option ℕ)). slice_index_or x start None) h.from_is ∙ get_or-set_same blank start (Some start) None (omega (arith, long))) in
    record {
      states = ap length h.from_is ∙ length-set blank start (Some start) ∙ long;
      classes = ap length h.opened_is ∙ length-replicate (length g.members) false;
      trails = λ t m. record { links = 0; few = omega arith; trail = only t m };
      near = begun_near g start f marked;
      frontier_marked = λ t c. subst (HasSource f) (only_source start t (subst (λ (x : List ℕ). Contains x t) front c)) marked;
      pending = λ t m. inr (subst (λ (x : List ℕ). Contains x t) (sym front) (subst (Contains (start ∷ [])) (sym (only t m)) (one_source start)));
      full = λ c t was k. absurd (false≢true (sym (shut_at (length g.members) c) ∙ subst (λ (x : List Bool). slice_index_or x c false ≡ true) h.opened_is was));
      unended = λ t c m. away (subst (Contains ends) (only t m) c);
      count = let fewer = begun_count n start l in let same = ap unmarked h.from_is in let one = ap length front in omega (arith, fewer, same, one);
    }

-- ---- for the code

-- the states of a frontier are in range
pub frontier_within : (g : Network) (start : ℕ) (ends : List ℕ) (level : ℕ) (f : List (Option ℕ)) (o : List Bool) (frontier : List ℕ) → IsSearched g start ends level f o frontier → AllByRecursion (λ s. s < length g.leads) frontier
frontier_within g start ends level f o frontier h =
    all_from_contains (λ s. s < length g.leads) frontier (λ t c. let m = h.frontier_marked t c in
    ⊎_elim (λ below. below) (λ past. absurd (unlike (slice_index_or f t None) m.0 (get_or_past f t None (omega (arith, past, h.states))) m.1)) (cases_lt t (length g.leads)))

pub line_from_trail : (g : Network) (from : List (Option ℕ)) (start t n : ℕ) → IsTrail g from start t n → IsLine from t n
line_from_trail g from start t zero h = tt
line_from_trail g from start t (suc n) h = (h.0, h.1, line_from_trail g from start h.0 n h.3)

pub nonempty : (n : ℕ) → false ≡ (n == 0) → 0 < n
nonempty zero e = absurd (false≢true e)
nonempty (suc n) e = omega arith

pub empty : (n : ℕ) → true ≡ (n == 0) → n ≡ 0
empty n e = eqb-true n 0 (sym e)

pub unequal : (x y : ℕ) → (x == y) ≡ false → x ≡ y → ⊥
unequal x y e same = false≢true (sym e ∙ eq-eqb x y same)

-- what a level hands out, where the frontier and the marks were lent
pub level_opens : (g : Network) (lent frontier : List ℕ) (f : List (Option ℕ)) (o : List Bool) (f' : List (Option ℕ)) (o' : List Bool) (next : List ℕ) → lent ≡ frontier → Opens g lent f o [] f' o' next → Opens g frontier f o [] f' o' next
level_opens g lent frontier f o f' o' next e h = subst (λ (xs : List ℕ). Opens g xs f o [] f' o' next) e h

pub ends_within : (g : Network) (ends : List ℕ) (lent from : List (Option ℕ)) → AllByRecursion (λ t. t < length g.leads) ends → lent ≡ from → length from ≡ length g.leads → AllByRecursion (λ t. t < length lent) ends
ends_within g ends lent from h e long = subst (λ (n : ℕ). AllByRecursion (λ t. t < n) ends) (sym (ap length e ∙ long)) h

pub marked_lent : (lent from : List (Option ℕ)) (t : ℕ) → lent ≡ from → HasSource lent t → HasSource from t
marked_lent lent from t e m = subst (λ (f : List (Option ℕ)). HasSource f t) e m

pub marked_back : (lent from : List (Option ℕ)) (t : ℕ) → lent ≡ from → HasSource from t → HasSource lent t
marked_back lent from t e m = subst (λ (f : List (Option ℕ)). HasSource f t) (sym e) m
