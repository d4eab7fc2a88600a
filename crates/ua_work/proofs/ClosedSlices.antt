-- A slice of an operation of two arguments under which the rows are closed.
use Rattle.std.proofs.Common.{◌≡◌, ℕ, suc, ◌+◌, ◌<◌, List, [], ◌∷◌, ◌++◌, length, take, refl, sym, ap, ◌∙◌, subst, arith, append_assoc, length-append}
use Rattle.std.specs.Prelude.{Contains, slice_index, slice_index_or}
use Rattle.std.specs.List.{AllByRecursion}
use Rattle.std.proofs.lemmas.List.{append-nil, length-map}
use Rattle.std.proofs.lemmas.List.Elements.{Contains-get_or}
use Rattle.ua_table.specs.declared.origins.Origin.TheVariants.{Op}
use Rattle.ua_table.specs.Algebras.{Vector, arities, apply}
use Rattle.ua_table.specs.Numbering.{IsShape, four_places}
use Rattle.ua_table.specs.Slices.{bound, slice_unit, slice_start, slice_operation, slice_tuples}
use Rattle.ua_table.proofs.Lists.{all_weaker}
use Rattle.ua_rows.specs.RowLists.{rows_at}
use Rattle.ua_rows.proofs.RowLaws.{length-rows_at}
use Rattle.ua_log.specs.declared.views.Worker.{Worker}
use Rattle.ua_log.specs.Seats.{SeatView}
use Rattle.ua_bases.specs.Associative.{result_of}
use Rattle.ua_bases.specs.Bases.{IsClosedUnder}
use Rattle.ua_work.specs.declared.replicas.Replica.{Replica}
use Rattle.ua_work.specs.declared.puts.Job.{Job}
use Rattle.ua_work.specs.Harvests.{IsDone}
use Rattle.ua_work.specs.inner.Replicas.{values_in, value_in, IsOriginIn, IsReplica}
use Rattle.ua_work.specs.inner.Serials.{turn_from}
use Rattle.ua_work.specs.inner.Walks.{tuples_in, turn_at, IsLeftOf}
use Rattle.ua_work.specs.inner.Workings.{IsWorking, IsAtWork, IsSettled, Comes}
use Rattle.ua_work.specs.inner.Bases.{AreClosedRows}
use Rattle.ua_work.proofs.RowValues.{in_different, in_all}
use Rattle.ua_work.proofs.WorkLaws.{places_seen}
use Rattle.ua_work.proofs.FinishLaws.{left_start, left_end, shape_of}
use Rattle.ua_work.proofs.SerialLaws.{next_turn}
use Rattle.ua_work.proofs.LoneSlices.{tuple_comes, tuple_done}

two_of : (xs : List ℕ) → length xs ≡ 2 → (i : ℕ) × (j : ℕ) × (xs ≡ i ∷ j ∷ [])
two_of [] e = absurd (omega (arith, e))
two_of (i ∷ []) e = absurd (omega (arith, e))
two_of (i ∷ j ∷ []) e = (i, j, refl)
two_of (i ∷ j ∷ k ∷ rest) e = absurd (omega (arith, e))

-- the value at two records is the value of one
module _ (r : Replica) (f : ℕ) (replica : IsReplica r) (binary : slice_index (arities r.operations) f ≡ 2) (closed : IsClosedUnder r.operations f r.rows.items) where
  abbrev vs : List Vector
  vs = values_in r

  in_rows : (i : ℕ) → i < length r.places.items → Contains r.rows.items (slice_index_or vs i [])
  in_rows i low =
      let long = length-rows_at r.rows.items r.places.items in
      subst (λ (l : List Vector). Contains l (slice_index_or vs i [])) (sym replica.rows_are) (in_different vs (slice_index_or vs i []) (Contains-get_or vs i [] (omega (arith, low, long))))

  pub settled_closed : (xs : List ℕ) → IsOriginIn r (Op f xs) → IsSettled r (Op f xs)
  settled_closed xs origin = record { origin = origin; stands = stands }
    where
      stands : Contains vs (value_in r (Op f xs))
      stands =
          let two = two_of (take (slice_index (arities r.operations) f) xs) (origin.count ∙ binary) in
          let low = subst (AllByRecursion (λ n. n < length r.places.items)) two.2 origin.earlier in
          let there = closed (slice_index_or vs two.0 []) (slice_index_or vs two.1 []) (in_rows two.0 low.0) (in_rows two.1 low.1.0) in
          let back =
          in_all vs (result_of r.operations f (slice_index_or vs two.0 []) (slice_index_or vs two.1 []))
          (subst (λ (l : List Vector). Contains l (result_of r.operations f (slice_index_or vs two.0 []) (slice_index_or vs two.1 [])))
          replica.rows_are there) in
          subst (λ (ys : List ℕ). Contains vs (apply r.operations f (rows_at vs ys))) (sym two.2) back

-- at work, slice s of the records seen is of this operation, and the rows are closed under it
pub record IsClosedSlice (j : Job) (r : Replica) (t : SeatView) (s f : ℕ) : Type 0 where
  pub work : IsAtWork j r t
  pub below : s < bound r.shape (length t.own.seen)
  pub operation : f ≡ slice_operation r.shape s
  pub closed : AreClosedRows r f

-- all tuples of the slice are done, and a lone worker goes on to the next slice
module _ {j : Job} {r : Replica} {t : SeatView} {s f : ℕ} (h : IsClosedSlice j r t s f) where
  abbrev ks : List ℕ
  ks = arities r.operations

  abbrev w : Worker
  w = t.own

  k : IsWorking r w
  k = h.work.goes.working

  same : r.shape ≡ ks
  same = k.replica.shape

  shape : IsShape ks
  shape = subst IsShape same (shape_of h.work)

  below : s < bound ks (length w.seen)
  below = subst (λ (qs : List ℕ). s < bound qs (length w.seen)) same h.below

  op : f ≡ slice_operation ks s
  op = h.operation ∙ ap (λ (qs : List ℕ). slice_operation qs s) same

  started : IsLeftOf r f (tuples_in r.shape s) (tuples_in r.shape s)
  started =
      left_start r s (length w.seen) f (tuples_in r.shape s) (shape_of h.work) same h.below (sym (places_seen r w k)) h.operation refl

  all_settled : AllByRecursion (λ xs. IsSettled r (Op f xs)) (tuples_in ks s)
  all_settled =
      all_weaker (λ xs. IsOriginIn r (Op f xs)) (λ xs. IsSettled r (Op f xs)) (settled_closed r f k.replica h.closed.0 h.closed.1) (tuples_in ks s)
      (subst (λ (qs : List ℕ). AllByRecursion (λ xs. IsOriginIn r (Op f xs)) (tuples_in qs s)) same started.origins)

  pub done_closed : IsDone r.operations r.gens.now.items w.seen s
  done_closed = left_end r w s f ks k shape refl below op record { done = tuples_in ks s; whole = sym (append-nil (tuples_in ks s)); settled = all_settled; origins = tt }

  -- tuple by tuple
  rest_comes : (done left : List (List ℕ)) → tuples_in ks s ≡ done ++ left → AllByRecursion (λ xs. IsSettled r (Op f xs)) left → Comes r w (turn_at ks s (length done)) → Comes r w (turn_at ks s (length (tuples_in ks s)))
  rest_comes done [] whole all come = subst (λ (ts : List (List ℕ)). Comes r w (turn_at ks s (length ts))) (sym (append-nil done) ∙ sym whole) come
  rest_comes done (args ∷ left) whole all come =
      let here = tuple_comes r w ks s (length w.seen) f done left args refl below op whole come in
      let next = tuple_done r w ks s (length w.seen) f done left args refl below op whole k all.0 here in
      let more : length done + 1 ≡ length (done ++ args ∷ []) = (let l = length-append done (args ∷ []) in omega (arith, l)) in
      rest_comes (done ++ args ∷ []) left (whole ∙ sym (append_assoc done (args ∷ []) left)) all.1 (subst (λ n. Comes r w (turn_at ks s n)) more next)

  pub next_closed : Comes r w (turn_from r.shape s) → Comes r w (turn_from r.shape (suc s))
  next_closed come =
      let here = subst (λ (qs : List ℕ). Comes r w (turn_from qs s)) same come in
      let start : slice_start ks s ≡ slice_start ks s + 0 = omega arith in
      let all = rest_comes [] (tuples_in ks s) refl all_settled (subst (λ n. Comes r w (2 ∷ slice_unit ks s ∷ n ∷ [])) start here) in
      let count = length-map (slice_tuples ks s) (four_places ks (slice_operation ks s)) in
      subst (λ (qs : List ℕ). Comes r w (turn_from qs (suc s))) (sym same) (next_turn r.operations r.gens.now.items w.seen s (subst (λ n. Comes r w (turn_at ks s n)) count all))
