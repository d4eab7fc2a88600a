-- Each call may be answered otherwise than by want of memory.
use Rattle.std.proofs.Common.{◌≡◌, ◌≢◌, ◌⊎◌, inl, inr, ⊎_elim, ℕ, ◌^◌, List, length, Some, refl, ap, ◌∙◌, arith, Result, Ok, Err}
use Rattle.std.specs.Prelude.{Contains, slice_get}
use Rattle.std.specs.List.{AllByRecursion}
use Rattle.std.proofs.lemmas.Bool.{cases_lt}
use Rattle.std.proofs.lemmas.List.{length-map}
use Rattle.std.proofs.lemmas.Option.{slice_get-get_or}
use Rattle.ua_table.specs.declared.limits.TheConstants.{CELLS}
use Rattle.ua_table.specs.Algebras.{Vector, Product, IsProduct, IsVector, arities}
use Rattle.ua_table.specs.Listings.{Row, vectors_of}
use Rattle.ua_table.specs.Numbering.{records}
use Rattle.ua_work.specs.declared.goals.Goal.{Goal}
use Rattle.ua_work.specs.Goals.{Meets}
use Rattle.ua_close.specs.declared.close.CloseError.{CloseError}
use Rattle.ua_close.specs.declared.close.CloseError.TheVariants.{Wide, OutOfMemory}
use Rattle.ua_close.specs.declared.memberships.Answer.{Answer}
use Rattle.ua_close.specs.declared.memberships.Answer.TheVariants as answers
use Rattle.ua_close.specs.declared.reaches.Reach.{Reach}
use Rattle.ua_close.specs.declared.reaches.Reach.TheVariants.{Closed, Exceeds, Met}
use Rattle.ua_close.specs.Answers.{cells, IsWide}
use Rattle.ua_close.specs.Memberships.{Tells, IsSerialMembership}
use Rattle.ua_close.specs.Permitted.{MayClose, MayReach, MayMember, MayCount, IsAnswerable}
use Rattle.ua_close.specs.Reaches.{Reaches, IsSerialReach, IsJustMet}
use Rattle.ua_close.specs.Sizes.{size_of}
use Rattle.ua_close.proofs.GrowthLaws.{HasSerialListing, IsJustMetBy, serial_listing_exists}
use Rattle.ua_close.proofs.KindLaws.{one_kind}
use Rattle.ua_close.proofs.MetLaws.{vector_test, goal_test}
use Rattle.ua_close.proofs.RowSteps.{steps_exist}

-- ---- too wide or not

pub wide_or : (p : Product) (gens : List Vector) (b : ℕ) → IsWide p gens b ⊎ ¬ IsWide p gens b
wide_or p gens b = ⊎_elim
    (λ fits. ⊎_elim
    (λ wide. inl (inr wide))
    (λ narrow. inr (λ w. ⊎_elim (λ l. omega (arith, l, fits)) (λ l. omega (arith, l, narrow)) w))
    (cases_lt CELLS (cells p b)))
    (λ wide. inl (inl wide))
    (cases_lt (records (arities p) (length gens) b) (2 ^ 63))

told_ok : {A : Type 0} (x : A) (r : Result A CloseError) → r ≡ Ok x → r ≢ Err OutOfMemory
told_ok x r is e = cc

told_wide : {A : Type 0} (n c : ℕ) (r : Result A CloseError) → r ≡ Err (Wide n c) → r ≢ Err OutOfMemory
told_wide n c r is e = cc

-- an answer that is no refusal, unless the closure is too wide
answered : {A : Type 0} (p : Product) (gens : List Vector) (b : ℕ) (May : Result A CloseError → Type 0)
    → (IsWide p gens b → May (Err (Wide (records (arities p) (length gens) b) (cells p b)))) → (¬ IsWide p gens b → (x : A) × May (Ok x)) → IsAnswerable May OutOfMemory
answered p gens b May refused found = ⊎_elim
    (λ wide.
    let n = records (arities p) (length gens) b in
    let c = cells p b in
    record { answer = Err (Wide n c); permitted = refused wide; told = told_wide n c (Err (Wide n c)) refl })
    (λ narrow. let f = found narrow in record { answer = Ok f.0; permitted = f.1; told = told_ok f.0 (Ok f.0) refl })
    (wide_or p gens b)

-- ---- the calls

module _ (p : Product) (gens : List Vector) (b w : ℕ) (product : IsProduct p) (admitted : AllByRecursion (IsVector p) gens) where
  pub may_close : IsAnswerable (MayClose p gens b w) OutOfMemory
  may_close = answered p gens b (MayClose p gens b w) (λ wide. (wide, refl, refl)) (λ narrow. let h = one_kind p gens product admitted b in (h.closure, (narrow, h.answers, λ one. h.serial)))

  pub may_count : IsAnswerable (MayCount p gens b w) OutOfMemory
  may_count = answered p gens b (MayCount p gens b w) (λ wide. (wide, refl, refl))
      (λ narrow. let h = one_kind p gens product admitted b in (size_of h.closure, (narrow, record { closure = h.closure; answers = h.answers; serial = λ one. h.serial; size = refl })))

  -- ---- with a goal

  record HasReach (goal : Goal) : Type 0 where
    reach : Reach
    reaches : Reaches p gens goal b reach
    serial : IsSerialReach p gens reach
    just : IsJustMet goal reach

  reach_exists : (goal : Goal) → HasReach goal
  reach_exists goal =
      let l = serial_listing_exists p gens product admitted (Meets goal) (goal_test goal) b in
      ⊎_elim
      (λ closed. record { reach = Closed l.rows; reaches = closed; serial = l.serial; just = tt })
      (λ ended. ⊎_elim
      (λ exceeding. record { reach = Exceeds l.rows; reaches = exceeding; serial = l.serial; just = tt })
      (λ met. record { reach = Met l.rows; reaches = record { listing = met.listing; count = met.count; met = met.met }; serial = l.serial; just = met.just })
      ended)
      l.ends

  pub may_reach : (goal : Goal) → IsAnswerable (MayReach p gens goal b w) OutOfMemory
  may_reach goal = answered p gens b (MayReach p gens goal b w) (λ wide. (wide, refl, refl)) (λ narrow. let h = reach_exists goal in (h.reach, (narrow, h.reaches, λ one. (h.serial, h.just))))

  -- ---- a vector

  record HasMembership (v : Vector) : Type 0 where
    answer : Answer
    tells : Tells p gens v b answer
    serial : IsSerialMembership p gens v b answer

  membership_met : (v : Vector) (l : HasSerialListing p gens product admitted (λ vs. Contains vs v) (vector_test v) b) → IsJustMetBy p gens product admitted (λ vs. Contains vs v) (vector_test v) b l.rows → HasMembership v
  membership_met v l met =
      let c = met.met in
      let place = c.0 in
      let stands : slice_get (vectors_of l.rows) place ≡ Some v = slice_get-get_or (vectors_of l.rows) place v c.1 ∙ ap Some c.2 in
      let steps = steps_exist p gens l.rows met.listing place (let low = c.1 in let n = length-map l.rows (λ (r : Row). r.vector) in omega (arith, low, n)) in
      record {
        answer = answers.Yes steps.steps;
        tells = steps.value v stands;
        serial = record { rows = l.rows; listing = met.listing; count = met.count; serial = l.serial; before = met.just; place = place; stands = stands; steps = steps.needed };
      }

  membership_exists : (v : Vector) → HasMembership v
  membership_exists v =
      let l = serial_listing_exists p gens product admitted (λ vs. Contains vs v) (vector_test v) b in
      ⊎_elim
      (λ closed. record { answer = answers.No l.rows; tells = closed; serial = l.serial })
      (λ ended. ⊎_elim (λ exceeding. record { answer = answers.Exceeds l.rows; tells = exceeding; serial = l.serial }) (λ met. membership_met v l met) ended)
      l.ends

  pub may_member : (v : Vector) → IsAnswerable (MayMember p gens v b w) OutOfMemory
  may_member v = answered p gens b (MayMember p gens v b w) (λ wide. (wide, refl, refl)) (λ narrow. let h = membership_exists v in (h.answer, (narrow, h.tells, λ one. h.serial)))
