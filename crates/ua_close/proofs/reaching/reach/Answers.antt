use Rattle.std.proofs.Common.{◌≡◌, ℕ, ◌+◌, true, false, List, [], ◌∷◌, ◌++◌, length, length-append, refl, sym, ap, ◌∙◌, subst, arith}
use Rattle.std.specs.List.{AllByRecursion, zip}
use Rattle.ua_table.specs.Algebras.{Vector, Product, IsVector, arities}
use Rattle.ua_table.specs.Listings.{Row}
use Rattle.ua_table.specs.Origins.{IsOrigin, origin_value}
use Rattle.ua_table.specs.Orders.{Record}
use Rattle.ua_log.specs.Logs.{LogView}
use Rattle.ua_rows.specs.RowLists.{RowList}
use Rattle.ua_table.specs.declared.origins.Origin.{Origin}
use Rattle.ua_close.specs.declared.gatherings.Gathered.{Gathered}
use Rattle.ua_close.specs.declared.gatherings.Gathered.TheVariants.{Still, Beyond, Met}
use Rattle.ua_work.specs.declared.goals.Goal.{Goal}
use Rattle.ua_close.specs.declared.reaches.Reach.TheVariants as answers
use Rattle.ua_listing.specs.Arrangements.{IsOriginOver, IsArranged}
use Rattle.ua_close.specs.inner.Closings.{IsClosing}
use Rattle.ua_close.specs.Gatherings.{IsStillLog, IsFullLog, IsMetLog, GatheringTells}
use Rattle.ua_work.specs.Goals.{Meets}
use Rattle.ua_work.specs.Serials.{recorded}
use Rattle.ua_work.specs.Values.{values}
use Rattle.ua_close.proofs.ReachLaws.{log_vectors, rows_count, first_over, more_zip, more_over, more_met, more_unmet, more_serial, more_just, still_first, still_reaches, still_serial, met_reaches, met_serial, met_just, full_lone}
use Rattle.ua_close.proofs.EnoughLaws.{reaches_wider}
use Rattle.ua_work.proofs.WorkLaws.{fitting}
use Rattle.ua_work.proofs.RowValues.{length-values}
use Rattle.ua_close.proofs.reaching.reach.Goals as goal

-- ---- what each answer of the workers tells

module _ (p : Product) (gens : List Vector) (goal : Goal) (b workers : ℕ) (log : LogView) (rows : RowList) (g : Gathered) (t : IsClosing p gens goal b workers g) where
  still_log : g ≡ Still log rows → IsStillLog p gens goal t.plan t.harvests log rows
  still_log e = subst (GatheringTells p gens goal t.plan t.harvests) e t.told

  met_log : g ≡ Met log rows → IsMetLog p gens goal t.plan t.harvests log rows
  met_log e = subst (GatheringTells p gens goal t.plan t.harvests) e t.told

  full_log : (more : Origin) → g ≡ Beyond log rows more → IsFullLog p gens goal t.plan t.harvests log rows more
  full_log more e = subst (GatheringTells p gens goal t.plan t.harvests) e t.told

arranged_in : (ks qs : List ℕ) (rs : List Record) (listing : List Row) → ks ≡ qs → IsArranged ks rs listing → IsArranged qs rs listing
arranged_in ks qs rs listing e h = subst (λ (l : List ℕ). IsArranged l rs listing) e h

over_in : (ks qs : List ℕ) (n : ℕ) (rs : List Record) → ks ≡ qs → AllByRecursion (λ (r : Record). IsOriginOver qs n r.1) rs → AllByRecursion (λ (r : Record). IsOriginOver ks n r.1) rs
over_in ks qs n rs e h = subst (λ (l : List ℕ). AllByRecursion (λ (r : Record). IsOriginOver l n r.1) rs) (sym e) h

-- ---- all left

pub listed-requires-clause-origins : goal.listed-requires-clause-origins
listed-requires-clause-origins g c =
    let p = c.args.frame.now in
    let gens = c.args.gens.now.items in
    let goal = c.args.goal.now in
    let t = c.in_ok-log.ensures in
    let log = c.in-Still.log in
    let rows = c.in-Still.rows in
    let product = c.check_width.ensures.product in
    let still = still_log p gens goal c.args.run.now.budget c.args.run.now.workers log rows c.in_ok-log.field-0 t c.in-Still.is in
    over_in c.in_ok-shape.shape (arities p) (length rows.items) (zip rows.items log.records) c.in_ok-shape.ensures.arities
    (first_over p gens goal t.plan t.harvests log product c.requires.admitted t.plan_is still.log_is rows.items (still_first p gens goal t.plan t.harvests log rows product c.requires.admitted t.plan_is still))

pub returns-in-Still : goal.returns-in-Still
returns-in-Still g c =
    let p = c.args.frame.now in
    let gens = c.args.gens.now.items in
    let goal = c.args.goal.now in
    let t = c.in_ok-log.ensures in
    let log = c.in-Still.log in
    let rows = c.in-Still.rows in
    let product = c.check_width.ensures.product in
    let listing = c.in_ok-listing-in-Still.listing in
    let still = still_log p gens goal c.args.run.now.budget c.args.run.now.workers log rows c.in_ok-log.field-0 t c.in-Still.is in
    let arranged = arranged_in c.in_ok-shape.shape (arities p) (zip rows.items log.records) listing c.in_ok-shape.ensures.arities c.in_ok-listing-in-Still.ensures in
    record {
      permitted = (
        c.in_ok-check_width.ensures.narrow refl,
        reaches_wider p gens product c.requires.admitted goal c.args.run.now.budget t.plan.budget t.enough (answers.Closed listing)
            (still_reaches p gens goal t.plan t.harvests log rows product c.requires.admitted t.plan_is still listing arranged),
        λ one. (still_serial p gens goal t.plan t.harvests log rows product c.requires.admitted t.plan_is still listing arranged (t.lone one), tt),
      );
    }

-- ---- the goal is met

pub listed-requires-in-Met-clause-count : goal.listed-requires-in-Met-clause-count
listed-requires-in-Met-clause-count g c =
    let p = c.args.frame.now in
    let gens = c.args.gens.now.items in
    let goal = c.args.goal.now in
    let t = c.in_ok-log.ensures in
    let met = met_log p gens goal c.args.run.now.budget c.args.run.now.workers c.in-Met.log c.in-Met.rows c.in_ok-log.field-0 t c.in-Met.is in
    rows_count p gens goal t.plan t.harvests c.in-Met.log c.check_width.ensures.product c.requires.admitted t.plan_is met.log_is c.in-Met.rows.items met.rows_are

pub listed-requires-in-Met-clause-origins : goal.listed-requires-in-Met-clause-origins
listed-requires-in-Met-clause-origins g c =
    let p = c.args.frame.now in
    let gens = c.args.gens.now.items in
    let goal = c.args.goal.now in
    let t = c.in_ok-log.ensures in
    let log = c.in-Met.log in
    let rows = c.in-Met.rows in
    let met = met_log p gens goal c.args.run.now.budget c.args.run.now.workers log rows c.in_ok-log.field-0 t c.in-Met.is in
    over_in c.in_ok-shape.shape (arities p) (length rows.items) (zip rows.items log.records) c.in_ok-shape.ensures.arities
    (first_over p gens goal t.plan t.harvests log c.check_width.ensures.product c.requires.admitted t.plan_is met.log_is rows.items met.rows_are)

pub returns-in-Met : goal.returns-in-Met
returns-in-Met g c =
    let p = c.args.frame.now in
    let gens = c.args.gens.now.items in
    let goal = c.args.goal.now in
    let t = c.in_ok-log.ensures in
    let log = c.in-Met.log in
    let rows = c.in-Met.rows in
    let product = c.check_width.ensures.product in
    let listing = c.in_ok-listing-in-Met.listing in
    let met = met_log p gens goal c.args.run.now.budget c.args.run.now.workers log rows c.in_ok-log.field-0 t c.in-Met.is in
    let arranged = arranged_in c.in_ok-shape.shape (arities p) (zip rows.items log.records) listing c.in_ok-shape.ensures.arities c.in_ok-listing-in-Met.ensures in
    record {
      permitted = (
        c.in_ok-check_width.ensures.narrow refl,
        reaches_wider p gens product c.requires.admitted goal c.args.run.now.budget t.plan.budget t.enough (answers.Met listing)
            (met_reaches p gens goal t.plan t.harvests log rows product c.requires.admitted t.plan_is met listing arranged),
        λ one. (
          met_serial p gens goal t.plan t.harvests log rows product c.requires.admitted t.plan_is met listing arranged (t.lone one),
          met_just p gens goal t.plan t.harvests log rows product c.requires.admitted t.plan_is met listing arranged (t.lone one),
        ),
      );
    }

-- ---- there is one more than the budget

pub push_value-requires-clause-rows : goal.push_value-requires-clause-rows
push_value-requires-clause-rows g c =
    let p = c.args.frame.now in
    let gens = c.args.gens.now.items in
    let goal = c.args.goal.now in
    let t = c.in_ok-log.ensures in
    let full = full_log p gens goal c.args.run.now.budget c.args.run.now.workers c.in-Beyond.log c.in-Beyond.rows c.in_ok-log.field-0 t c.in-Beyond.more c.in-Beyond.is in
    subst (AllByRecursion (IsVector p)) (sym full.rows_are) (log_vectors p gens goal t.plan t.harvests c.in-Beyond.log c.check_width.ensures.product c.requires.admitted t.plan_is full.log_is)

-- how many rows there are
count_rows : (p : Product) (gens : List Vector) (records : List Origin) (rows : List Vector) → rows ≡ values p gens records → length rows ≡ length records
count_rows p gens records rows e = ap (length {A = Vector}) e ∙ length-values p gens records

pub push_value-requires-clause-origin : goal.push_value-requires-clause-origin
push_value-requires-clause-origin g c =
    let p = c.args.frame.now in
    let gens = c.args.gens.now.items in
    let t = c.in_ok-log.ensures in
    let full = full_log p gens c.args.goal.now c.args.run.now.budget c.args.run.now.workers c.in-Beyond.log c.in-Beyond.rows c.in_ok-log.field-0 t c.in-Beyond.more c.in-Beyond.is in
    subst (λ n. IsOrigin (arities p) (length gens) n c.in-Beyond.more) (sym (count_rows p gens c.in-Beyond.log.records c.in-Beyond.rows.items full.rows_are)) full.one_more.origin

pub push_value-requires-clause-room : goal.push_value-requires-clause-room
push_value-requires-clause-room g c =
    let p = c.args.frame.now in
    let gens = c.args.gens.now.items in
    let t = c.in_ok-log.ensures in
    let full = full_log p gens c.args.goal.now c.args.run.now.budget c.args.run.now.workers c.in-Beyond.log c.in-Beyond.rows c.in_ok-log.field-0 t c.in-Beyond.more c.in-Beyond.is in
    let n = count_rows p gens c.in-Beyond.log.records c.in-Beyond.rows.items full.rows_are in
    let room = full.one_more.full in
    let b = t.enough.within in
    omega (arith, n, room, b)

pub is_met-met-requires-clause-fitting : goal.is_met-met-requires-clause-fitting
is_met-met-requires-clause-fitting g c =
    let full = full_log c.args.frame.now c.args.gens.now.items c.args.goal.now c.args.run.now.budget c.args.run.now.workers c.in-Beyond.log c.in-Beyond.rows c.in_ok-log.field-0 c.in_ok-log.ensures c.in-Beyond.more c.in-Beyond.is in
    fitting c.args.frame.now c.args.goal.now c.push_value.new.rows.width (c.push_value.ensures.width ∙ full.width) c.requires.goal

pub listed_with-requires-clause-count : goal.listed_with-requires-clause-count
listed_with-requires-clause-count g c =
    let p = c.args.frame.now in
    let gens = c.args.gens.now.items in
    let full = full_log p gens c.args.goal.now c.args.run.now.budget c.args.run.now.workers c.in-Beyond.log c.in-Beyond.rows c.in_ok-log.field-0 c.in_ok-log.ensures c.in-Beyond.more c.in-Beyond.is in
    let n = count_rows p gens c.in-Beyond.log.records c.in-Beyond.rows.items full.rows_are in
    let e = ap (length {A = Vector}) c.in_ok-push_value-in-Beyond.ensures.pushed in
    let l = length-append c.in-Beyond.rows.items (origin_value p gens c.in-Beyond.rows.items c.in-Beyond.more ∷ []) in
    omega (arith, n, e, l)

-- the rows with the further value
more_rows_are : (p : Product) (gens : List Vector) (records : List Origin) (more : Origin) (rows new : List Vector) → rows ≡ values p gens records → new ≡ rows ++ origin_value p gens rows more ∷ []
    → new ≡ values p gens records ++ origin_value p gens (values p gens records) more ∷ []
more_rows_are p gens records more rows new e pushed = pushed ∙ (λ i. e i ++ origin_value p gens (e i) more ∷ [])

pub listed_with-requires-clause-origins : goal.listed_with-requires-clause-origins
listed_with-requires-clause-origins g c =
    let p = c.args.frame.now in
    let gens = c.args.gens.now.items in
    let goal = c.args.goal.now in
    let t = c.in_ok-log.ensures in
    let log = c.in-Beyond.log in
    let rows = c.in-Beyond.rows in
    let more = c.in-Beyond.more in
    let new = c.push_value.new.rows.items in
    let product = c.check_width.ensures.product in
    let full = full_log p gens goal c.args.run.now.budget c.args.run.now.workers log rows c.in_ok-log.field-0 t more c.in-Beyond.is in
    let are = more_rows_are p gens log.records more rows.items new full.rows_are c.in_ok-push_value-in-Beyond.ensures.pushed in
    let zipped = more_zip p gens goal t.plan t.harvests log product c.requires.admitted t.plan_is full.log_is more full.one_more new are in
    let n = count_rows p gens log.records rows.items full.rows_are in
    let e = ap (length {A = Vector}) c.in_ok-push_value-in-Beyond.ensures.pushed in
    let l = length-append rows.items (origin_value p gens rows.items more ∷ []) in
    let count : length log.records + 1 ≡ length new = omega (arith, n, e, l) in
    over_in c.in_ok-shape.shape (arities p) (length new) (zip new (log.records ++ more ∷ [])) c.in_ok-shape.ensures.arities
    (subst (λ m. AllByRecursion (λ (r : Record). IsOriginOver (arities p) m r.1) (zip new (log.records ++ more ∷ []))) count
    (subst (AllByRecursion (λ (r : Record). IsOriginOver (arities p) (length log.records + 1) r.1)) (sym zipped)
    (more_over p gens goal t.plan t.harvests log product c.requires.admitted t.plan_is full.log_is more full.one_more)))

-- its listing
more_arranged : (ks qs : List ℕ) (rs ss : List Record) (listing : List Row) → ks ≡ qs → rs ≡ ss → IsArranged ks rs listing → IsArranged qs ss listing
more_arranged ks qs rs ss listing e f h = subst (λ (q : List ℕ × List Record). IsArranged q.0 q.1 listing) (λ i. (e i, f i)) h

pub returns-then-met : goal.returns-then-met
returns-then-met g c =
    let p = c.args.frame.now in
    let gens = c.args.gens.now.items in
    let goal = c.args.goal.now in
    let t = c.in_ok-log.ensures in
    let log = c.in-Beyond.log in
    let rows = c.in-Beyond.rows in
    let more = c.in-Beyond.more in
    let new = c.push_value.new.rows.items in
    let product = c.check_width.ensures.product in
    let listing = c.in_ok-listing-in-Beyond.listing in
    let full = full_log p gens goal c.args.run.now.budget c.args.run.now.workers log rows c.in_ok-log.field-0 t more c.in-Beyond.is in
    let are = more_rows_are p gens log.records more rows.items new full.rows_are c.in_ok-push_value-in-Beyond.ensures.pushed in
    let zipped = more_zip p gens goal t.plan t.harvests log product c.requires.admitted t.plan_is full.log_is more full.one_more new are in
    let arranged = more_arranged c.in_ok-shape.shape (arities p) (zip new (log.records ++ more ∷ [])) (recorded p gens (log.records ++ more ∷ [])) listing c.in_ok-shape.ensures.arities zipped c.in_ok-listing-in-Beyond.ensures in
    let serial = λ (one : c.args.run.now.workers ≡ 1). more_serial p gens goal t.plan t.harvests log product c.requires.admitted t.plan_is full.log_is more full.one_more listing arranged
    (t.lone one) (full_lone p gens goal t.plan t.harvests log rows product c.requires.admitted t.plan_is more full (t.lone one)) in
    record {
      permitted = (
        c.in_ok-check_width.ensures.narrow refl,
        reaches_wider p gens product c.requires.admitted goal c.args.run.now.budget t.plan.budget t.enough (answers.Met listing)
            (more_met p gens goal t.plan t.harvests log product c.requires.admitted t.plan_is full.log_is more full.one_more listing arranged (subst (Meets goal) are (c.is_met-met.ensures.0 c.if-met.true))),
        λ one. (
          serial one,
          more_just p gens goal t.plan t.harvests log product c.requires.admitted t.plan_is full.log_is more full.one_more listing arranged (subst (λ (vs : List Vector). ¬ Meets goal vs) full.rows_are full.unmet),
        ),
      );
    }

pub returns-in-Beyond : goal.returns-in-Beyond
returns-in-Beyond g c =
    let p = c.args.frame.now in
    let gens = c.args.gens.now.items in
    let goal = c.args.goal.now in
    let t = c.in_ok-log.ensures in
    let log = c.in-Beyond.log in
    let rows = c.in-Beyond.rows in
    let more = c.in-Beyond.more in
    let new = c.push_value.new.rows.items in
    let product = c.check_width.ensures.product in
    let listing = c.in_ok-listing-in-Beyond.listing in
    let full = full_log p gens goal c.args.run.now.budget c.args.run.now.workers log rows c.in_ok-log.field-0 t more c.in-Beyond.is in
    let are = more_rows_are p gens log.records more rows.items new full.rows_are c.in_ok-push_value-in-Beyond.ensures.pushed in
    let zipped = more_zip p gens goal t.plan t.harvests log product c.requires.admitted t.plan_is full.log_is more full.one_more new are in
    let arranged = more_arranged c.in_ok-shape.shape (arities p) (zip new (log.records ++ more ∷ [])) (recorded p gens (log.records ++ more ∷ [])) listing c.in_ok-shape.ensures.arities zipped c.in_ok-listing-in-Beyond.ensures in
    let serial = λ (one : c.args.run.now.workers ≡ 1). more_serial p gens goal t.plan t.harvests log product c.requires.admitted t.plan_is full.log_is more full.one_more listing arranged
    (t.lone one) (full_lone p gens goal t.plan t.harvests log rows product c.requires.admitted t.plan_is more full (t.lone one)) in
    record {
      permitted = (
        c.in_ok-check_width.ensures.narrow refl,
        reaches_wider p gens product c.requires.admitted goal c.args.run.now.budget t.plan.budget t.enough (answers.Exceeds listing)
            (more_unmet p gens goal t.plan t.harvests log product c.requires.admitted t.plan_is full.log_is more full.one_more listing arranged
            (λ m. let yes : c.is_met-met.result ≡ true = c.is_met-met.ensures.1 (subst (Meets goal) (sym are) m) in let no : true ≡ false = sym yes ∙ c.if-met.false in cc)),
        λ one. (serial one, tt),
      );
    }
