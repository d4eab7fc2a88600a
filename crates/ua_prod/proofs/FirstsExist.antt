-- That a partition that is no congruence has a first clash, and a set that is not closed a first escape: the first among all applications.
use Rattle.std.proofs.Common.{◌≡◌, ◌≢◌, ◌⊎◌, inl, inr, ⊎_elim, ℕ, ◌-◌, ◌<◌, true, false, List, [], ◌∷◌, ◌++◌, length, map, take, set, replicate, sym, ap, ◌∙◌, subst, arith}
use Rattle.std.specs.Prelude.{Contains, slice_index}
use Rattle.std.specs.Cmp.Lexicographic.{slice_cmp}
use Rattle.std.specs.List.{AllByRecursion, flat_map, range_with_len}
use Rattle.std.specs.Ordering.{nat_cmp, is_gt}
use Rattle.std.specs.declared.cmp.Ordering.{Ordering}
use Rattle.std.specs.declared.cmp.Ordering.TheVariants.{Greater}
use Rattle.std.proofs.lemmas.Bool.{cases_eq, cases_lt}
use Rattle.std.proofs.lemmas.List.{take-append-drop, take_at, drop_at}
use Rattle.ua_table.specs.Algebras.{FiniteAlgebra, IsAlgebra, arities_of, value_at}
use Rattle.ua_table.specs.Origins.{IsApplication}
use Rattle.ua_table.proofs.Choices.{in_range, range_low}
use Rattle.ua_table.proofs.Firsts.{IsFirstOf, NonePasses, first_of}
use Rattle.ua_table.proofs.Lists.{Contains-head, Contains-tail, Contains-cases, Contains-none, Contains-map, Contains-map_from, Contains-flat_map, Contains-flat_map_from, all_at, all_weaker}
use Rattle.ua_part.specs.Partitions.{Partition, IsPartition, SameBlock}
use Rattle.ua_prod.specs.declared.clashes.Clash.{Clash}
use Rattle.ua_prod.specs.Clashes.{IsClash, HasFirstClash, arity_of, spelled}
use Rattle.ua_prod.specs.Congruences.{IsCongruence}
use Rattle.ua_prod.specs.Constructions.{tuples_among}
use Rattle.ua_prod.specs.Escapes.{IsClosed, HasFirstEscape, arguments_at}
use Rattle.ua_prod.proofs.ClashLaws.{congruence_without}
use Rattle.ua_prod.proofs.EscapeLaws.{tuple_from, tuple_of_members}

-- ---- what is one or the other

pub same_or : (p : Partition) (x y : ℕ) → SameBlock p x y ⊎ (SameBlock p x y → ⊥)
same_or p x y =
    ⊎_elim
    (λ left. ⊎_elim
    (λ right. ⊎_elim (λ e. inl (record { left = left; right = right; same = e })) (λ n. inr (λ s. n s.same)) (cases_eq (slice_index p x) (slice_index p y)))
    (λ high. inr (λ s. let r = s.right in absurd (omega (arith, r, high))))
    (cases_lt y (length p)))
    (λ high. inr (λ s. let l = s.left in absurd (omega (arith, l, high))))
    (cases_lt x (length p))

member_or : (set : List ℕ) (x : ℕ) → Contains set x ⊎ (Contains set x → ⊥)
member_or [] x = inr (λ c. Contains-none x c)
member_or (y ∷ set) x = ⊎_elim
    (λ e. inl (subst (Contains (y ∷ set)) e (Contains-head y set)))
    (λ other. ⊎_elim (λ c. inl (Contains-tail y x set c)) (λ none. inr (λ c. ⊎_elim other none (Contains-cases y x set c))) (member_or set x))
    (cases_eq y x)

members_or : (set xs : List ℕ) → AllByRecursion (Contains set) xs ⊎ (AllByRecursion (Contains set) xs → ⊥)
members_or set [] = inl tt
members_or set (x ∷ xs) = ⊎_elim
    (λ c. ⊎_elim (λ rest. inl (c, rest)) (λ no. inr (λ h. no h.1)) (members_or set xs))
    (λ no. inr (λ h. no h.0))
    (member_or set x)

-- what is up to is not greater
not_greater : (o : Ordering) → is_gt o ≡ false → o ≢ Greater
not_greater o h g = let bad : true ≡ false = sym (ap is_gt g) ∙ h in cc

-- ---- all applications

module _ (a : FiniteAlgebra) where
  abbrev zeros : ℕ → List ℕ
  zeros f = replicate (4 - slice_index (arities_of a) f) 0

  abbrev tuples_of : ℕ → List (List ℕ)
  tuples_of f = tuples_among (range_with_len 0 a.size) (slice_index (arities_of a) f)

  abbrev padded : ℕ → List ℕ → List ℕ
  padded f xs = xs ++ zeros f

  -- the operations, each with its lists of arguments
  abbrev applications : List (ℕ × List ℕ)
  applications = flat_map (λ f. map (λ args. (f, args)) (map (padded f) (tuples_of f))) (range_with_len 0 (length (arities_of a)))

  application_in : (f : ℕ) (args : List ℕ) → IsApplication (arities_of a) a.size f args → Contains applications (f, args)
  application_in f args h =
      let k = slice_index (arities_of a) f in
      let xs = take (slice_index (arities_of a) f) args in
      let below = all_weaker (λ x. x < a.size) (Contains (range_with_len 0 a.size)) (λ x w. in_range 0 a.size x (omega arith) (omega (arith, w))) xs h.earlier in
      let whole : padded f xs ≡ args = ap (λ (ys : List ℕ). xs ++ ys) (sym h.unused) ∙ take-append-drop k args in
      let within = h.operation in
      Contains-flat_map (λ g. map (λ ys. (g, ys)) (map (padded g) (tuples_of g))) f (f, args) (range_with_len 0 (length (arities_of a))) (in_range 0 (length (arities_of a)) f (omega arith) (omega (arith, within)))
      (Contains-map (λ ys. (f, ys)) args (map (padded f) (tuples_of f))
      (subst (Contains (map (padded f) (tuples_of f))) whole (Contains-map (padded f) xs (tuples_of f) (tuple_of_members (range_with_len 0 a.size) k xs h.count below))))

  application_padded : (f : ℕ) (xs : List ℕ) → f < length (arities_of a) → length xs ≡ slice_index (arities_of a) f → AllByRecursion (λ x. x < a.size) xs → IsApplication (arities_of a) a.size f (padded f xs)
  application_padded f xs within count below =
      let k = slice_index (arities_of a) f in
      let front = take_at xs (zeros f) k count in
      record {
        operation = within;
        count = ap length front ∙ count;
        earlier = subst (AllByRecursion (λ x. x < a.size)) (sym front) below;
        unused = drop_at xs (zeros f) k count;
      }

  application_from : (x : ℕ × List ℕ) → Contains applications x → IsApplication (arities_of a) a.size x.0 x.1
  application_from x c =
      let at = Contains-flat_map_from (λ g. map (λ ys. (g, ys)) (map (padded g) (tuples_of g))) x (range_with_len 0 (length (arities_of a))) c in
      let f = at.0 in
      let low = range_low 0 (length (arities_of a)) f at.1 in
      let there = Contains-map_from (λ ys. (f, ys)) x (map (padded f) (tuples_of f)) at.2 in
      let tuple = Contains-map_from (padded f) there.0 (tuples_of f) there.1 in
      let are = tuple_from (range_with_len 0 a.size) (slice_index (arities_of a) f) tuple.0 tuple.1 in
      let below = all_weaker (Contains (range_with_len 0 a.size)) (λ y. y < a.size) (λ y d. let l = range_low 0 a.size y d in omega (arith, l.1)) tuple.0 are.members in
      let is = application_padded f tuple.0 (omega (arith, low.1)) are.count below in
      subst (λ (z : ℕ × List ℕ). IsApplication (arities_of a) a.size z.0 z.1) there.2 (subst (IsApplication (arities_of a) a.size f) tuple.2 is)

  -- ---- the first escape

  module _ (set : List ℕ) where
    abbrev Escapes : ℕ × List ℕ → Type 0
    Escapes x = AllByRecursion (Contains set) (arguments_at a x.0 x.1) × (Contains set (value_at a x.0 (arguments_at a x.0 x.1)) → ⊥)

    escapes_or : (x : ℕ × List ℕ) → Escapes x ⊎ (Escapes x → ⊥)
    escapes_or x = ⊎_elim
        (λ members. ⊎_elim (λ c. inr (λ h. h.1 c)) (λ no. inl (members, no)) (member_or set (value_at a x.0 (arguments_at a x.0 x.1))))
        (λ no. inr (λ h. no h.0))
        (members_or set (arguments_at a x.0 x.1))

    abbrev key : ℕ × List ℕ → List ℕ
    key x = x.0 ∷ x.1

    escape_first : IsFirstOf key Escapes applications → HasFirstEscape a set
    escape_first r = record {
      op = r.item.0;
      args = r.item.1;
      is = record {
        escape = record { application = application_from r.item r.among; members = r.passes.0; outside = r.passes.1 };
        first = λ g xs e. not_greater (slice_cmp nat_cmp (key r.item) (g ∷ xs)) (r.first (g, xs) (application_in g xs e.application) (e.members, e.outside));
      };
    }

    closed_without : AllByRecursion (λ x. x < a.size) set → NonePasses key Escapes applications → IsClosed a set
    closed_without low none f xs within count members = ⊎_elim
        (λ c. c)
        (λ outside.
        let below = all_weaker (Contains set) (λ x. x < a.size) (λ x c. all_at (λ y. y < a.size) set x low c) xs members in
        let front = take_at xs (zeros f) (slice_index (arities_of a) f) count in
        absurd (none (f, padded f xs) (application_in f (padded f xs) (application_padded f xs within count below)) (
          subst (AllByRecursion (Contains set)) (sym front) members,
          λ c. outside (subst (λ (ys : List ℕ). Contains set (value_at a f ys)) front c),
        )))
        (member_or set (value_at a f xs))

    pub escape_or : AllByRecursion (λ x. x < a.size) set → IsClosed a set ⊎ HasFirstEscape a set
    escape_or low = ⊎_elim (λ (r : IsFirstOf key Escapes applications). inr (escape_first r)) (λ none. inl (closed_without low none)) (first_of key Escapes escapes_or applications)

  -- ---- the first clash

  module _ (p : Partition) where
    abbrev value_before : Clash → ℕ
    value_before d = value_at a d.op (take (arity_of a d) d.args)

    abbrev value_behind : Clash → ℕ
    value_behind d = value_at a d.op (take (arity_of a d) (set d.args d.place d.other))

    abbrev Clashes : Clash → Type 0
    Clashes d = SameBlock p (slice_index d.args d.place) d.other × (SameBlock p (value_before d) (value_behind d) → ⊥)

    clashes_or : (d : Clash) → Clashes d ⊎ (Clashes d → ⊥)
    clashes_or d = ⊎_elim
        (λ related. ⊎_elim (λ same. inr (λ h. h.1 same)) (λ no. inl (related, no)) (same_or p (value_before d) (value_behind d)))
        (λ no. inr (λ h. no h.0))
        (same_or p (slice_index d.args d.place) d.other)

    -- an application, a place and another element
    abbrev clash_of : ℕ × List ℕ → ℕ → ℕ → Clash
    clash_of x place other = record { op = x.0; place = place; args = x.1; other = other }

    -- at one place of an application
    abbrev at_place : ℕ × List ℕ → ℕ → List Clash
    at_place x place = map (clash_of x place) (range_with_len 0 a.size)

    -- at each place
    abbrev at_places : ℕ × List ℕ → List Clash
    at_places x = flat_map (at_place x) (range_with_len 0 (slice_index (arities_of a) x.0))

    abbrev candidates : List Clash
    candidates = flat_map at_places applications

    candidate_in : length p ≡ a.size → (d : Clash) → IsClash a p d → Contains candidates d
    candidate_in size d h =
        let k = slice_index (arities_of a) d.op in
        let right = h.related.right in
        let placed = h.place in
        Contains-flat_map at_places (d.op, d.args) d applications (application_in d.op d.args h.application)
        (Contains-flat_map (at_place (d.op, d.args)) d.place d (range_with_len 0 k) (in_range 0 k d.place (omega arith) (omega (arith, placed)))
        (Contains-map (clash_of (d.op, d.args) d.place) d.other (range_with_len 0 a.size) (in_range 0 a.size d.other (omega arith) (omega (arith, right, size)))))

    record IsCandidate (d : Clash) : Type 0 where
      application : IsApplication (arities_of a) a.size d.op d.args
      place : d.place < arity_of a d

    candidate_from : (d : Clash) → Contains candidates d → IsCandidate d
    candidate_from d c =
        let at = Contains-flat_map_from at_places d applications c in
        let x = at.0 in
        let k = slice_index (arities_of a) x.0 in
        let place = Contains-flat_map_from (at_place x) d (range_with_len 0 k) at.2 in
        let low = range_low 0 k place.0 place.1 in
        let there = Contains-map_from (clash_of x place.0) d (range_with_len 0 a.size) place.2 in
        subst IsCandidate there.2 (record { application = application_from x at.1; place = omega (arith, low.1) })

    clash_first : length p ≡ a.size → IsFirstOf spelled Clashes candidates → HasFirstClash a p
    clash_first size r =
        let is = candidate_from r.item r.among in
        record {
          clash = r.item;
          is = record {
            clash = record { application = is.application; place = is.place; related = r.passes.0; apart = r.passes.1 };
            first = λ d h. not_greater (slice_cmp nat_cmp (spelled r.item) (spelled d)) (r.first d (candidate_in size d h) (h.related, h.apart));
          };
        }

    pub clash_or : IsAlgebra a → IsPartition p → length p ≡ a.size → IsCongruence a p ⊎ HasFirstClash a p
    clash_or alg partition size = ⊎_elim
        (λ (r : IsFirstOf spelled Clashes candidates). inr (clash_first size r))
        (λ none. inl (congruence_without a p alg partition size (λ f within d h is. none d (candidate_in size d h) (h.related, h.apart))))
        (first_of spelled Clashes clashes_or candidates)
