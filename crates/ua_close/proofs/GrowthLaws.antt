-- The records of one worker, one by one: until they meet what is looked for, there are so many, or no origin gives a new vector.
use Rattle.std.proofs.Common.{◌≡◌, ℕ, zero, suc, ◌+◌, ◌-◌, ◌<◌, ◌≤◌, true, false, List, [], ◌∷◌, ◌++◌, length, take, refl, sym, ap, ◌∙◌, subst, arith, inl, inr, ⊎_elim, length-append}
use Rattle.std.specs.Prelude.{◌⊎◌, Contains}
use Rattle.std.specs.List.{AllByRecursion}
use Rattle.std.specs.Cmp.Lexicographic.{slice_cmp, nat_list_cmp_total}
use Rattle.std.specs.Ordering.{nat_cmp, ordering_reverse, is_gt}
use Rattle.std.specs.declared.cmp.Ordering.TheVariants.{Less}
use Rattle.std.proofs.Math.Seq.{take-append_seam}
use Rattle.std.proofs.lemmas.List.{get_or_default}
use Rattle.ua_table.specs.declared.origins.Origin.{Origin}
use Rattle.ua_table.specs.declared.origins.Origin.TheVariants.{Gen}
use Rattle.ua_table.specs.Algebras.{Vector, Product, IsProduct, IsVector, arities}
use Rattle.ua_table.specs.Generated.{Sg, IsClosed}
use Rattle.ua_table.specs.Listings.{Row, vectors_of, IsListing, IsClosedListing, IsExceedingListing}
use Rattle.ua_table.specs.Orders.{Record, turn, rows_of, AreRecords, IsSerial, IsSerialListing}
use Rattle.ua_table.specs.Origins.{IsOrigin, origin_value}
use Rattle.ua_table.proofs.GeneratedLaws.{Sg-least}
use Rattle.ua_table.proofs.Lists.{mapped_from, all_from_contains, all_from_places}
use Rattle.ua_table.proofs.RecordLaws.{record_at, length-rows_of, rows_of-append, AreRecords-push, IsSerial-push}
use Rattle.ua_term.proofs.StepLaws.{origin_vector}
use Rattle.ua_work.proofs.RowValues.{either_way}
use Rattle.ua_listing.specs.Arrangements.{IsArranged}
use Rattle.ua_close.specs.Reaches.{vectors_but_last}
use Rattle.ua_close.proofs.Closing.{listing_from, members_to, closed_from, exceeding_from}
use Rattle.ua_table.proofs.Firsts.{IsFirstOf, first_of}
use Rattle.ua_close.proofs.MetLaws.{IsTest, from_rows, first_rows}
use Rattle.ua_close.proofs.OriginLists.{all_origins, all_of_them, only_origins, result_origin}
use Rattle.ua_close.proofs.ReachLaws.{serial_listing}
use Rattle.ua_close.proofs.SizeLaws.{listing_exists}

-- ---- the first origin that gives a new vector

module _ (p : Product) (gens rows : List Vector) where
  abbrev IsNewAt : Origin → Type 0
  IsNewAt o = ¬ Contains rows (origin_value p gens rows o)

  new_or : (o : Origin) → IsNewAt o ⊎ ¬ IsNewAt o
  new_or o = ⊎_elim (λ old. inr (λ new. new old)) (λ new. inl new) (either_way rows (origin_value p gens rows o))

  old_from : (o : Origin) → ¬ IsNewAt o → Contains rows (origin_value p gens rows o)
  old_from o not = ⊎_elim (λ old. old) (λ new. absurd (not new)) (either_way rows (origin_value p gens rows o))

  not_before : (o other : Origin) → is_gt (slice_cmp nat_cmp (turn (arities p) o) (turn (arities p) other)) ≡ false → slice_cmp nat_cmp (turn (arities p) other) (turn (arities p) o) ≡ Less → ⊥
  not_before o other le l = let bad : true ≡ false = sym (ap is_gt (nat_list_cmp_total.antisymm (turn (arities p) o) (turn (arities p) other) ∙ ap ordering_reverse l)) ∙ le in cc

-- ---- records one by one

module _ (p : Product) (gens : List Vector) (product : IsProduct p) (admitted : AllByRecursion (IsVector p) gens) where
  -- each origin over the rows gives one of them
  abbrev IsFull : List Vector → Type 0
  IsFull rows = (o : Origin) → IsOrigin (arities p) (length gens) (length rows) o → Contains rows (origin_value p gens rows o)

  record_vectors : (rs : List Record) → AreRecords p gens rs → AllByRecursion (IsVector p) (rows_of rs)
  record_vectors rs made = all_from_places (IsVector p) (rows_of rs) (λ k v e.
      let at = mapped_from (λ (r : Record). r.0) rs k v e in
      subst (IsVector p) at.2 (record_at p gens rs k at.0 made at.1).vector)

  -- then the rows are all members
  module _ (rows : List Vector) (full : IsFull rows) where
    generators_in : AllByRecursion (Contains rows) gens
    generators_in = all_from_contains (Contains rows) gens (λ v c. subst (Contains rows) (get_or_default gens c.0 [] v c.1 ∙ c.2) (full (Gen c.0) c.1))

    closed : IsClosed p rows
    closed f args h count held = let r = result_origin p gens rows f args h count held in subst (Contains rows) r.value (full r.origin r.valid)

    whole : (v : Vector) → Sg p gens v → Contains rows v
    whole v s = Sg-least p gens rows generators_in closed v s

  module _ (Meets : List Vector → Type 0) (test : IsTest Meets) where
    -- n records that do not meet it
    record Goes (rs : List Record) (n : ℕ) : Type 0 where
      count : length rs ≡ n
      unmet : ¬ Meets (rows_of rs)

    -- fewer records that do not meet it, and no more
    record IsAll (rs : List Record) (n : ℕ) : Type 0 where
      count : length rs < n
      unmet : ¬ Meets (rows_of rs)
      full : IsFull (rows_of rs)

    -- records that meet it, but not without the last
    record IsMet (rs : List Record) (n : ℕ) : Type 0 where
      count : length rs ≤ n
      met : Meets (rows_of rs)
      just : ¬ Meets (take (length rs - 1) (rows_of rs))

    record Grown (n : ℕ) : Type 0 where
      records : List Record
      made : AreRecords p gens records
      serial : IsSerial p gens records
      ends : Goes records n ⊎ (IsAll records n ⊎ IsMet records n)

    -- one record more, if some origin gives a new vector
    one_more : (n : ℕ) (rs : List Record) → AreRecords p gens rs → IsSerial p gens rs → Goes rs n → Grown (suc n)
    one_more n rs made serial goes = ⊎_elim
        with_new
        (λ none.
        let full : IsFull rows = λ o h. old_from p gens rows o (none o (inside o h)) in
        record { records = rs; made = made; serial = serial; ends = inr (inl (record { count = (let c = goes.count in omega (arith, c)); unmet = goes.unmet; full = full })) })
        (first_of (turn ks) (IsNewAt p gens rows) (new_or p gens rows) os)
      where
        ks : List ℕ
        ks = arities p

        rows : List Vector
        rows = rows_of rs

        os : List Origin
        os = all_origins ks (length gens) (length rows)

        inside : (o : Origin) → IsOrigin ks (length gens) (length rows) o → Contains os o
        inside o h = all_of_them ks (length gens) (length rows) o h

        with_new : IsFirstOf (turn ks) (IsNewAt p gens rows) os → Grown (suc n)
        with_new new = record {
          records = more;
          made = AreRecords-push p gens rs r made record { vector = origin_vector p gens rows new.item product admitted (record_vectors rs made) valid; origin = valid; value = refl; new = new.passes };
          serial = IsSerial-push p gens rs r serial record {
            origin = valid;
            value = refl;
            new = new.passes;
            first = λ other h l. old_from p gens rows other (λ unseen. not_before p gens rows new.item other (new.first other (inside other h) unseen) l);
          };
          ends = ⊎_elim
              (λ met. inr (inr (record { count = omega (arith, count); met = met; just = subst (λ (vs : List Vector). ¬ Meets vs) (sym front) goes.unmet })))
              (λ unmet. inl (record { count = count; unmet = unmet }))
              (test.decided (rows_of more));
        }
          where
            valid : IsOrigin ks (length gens) (length rows) new.item
            valid = only_origins ks (length gens) (length rows) new.item new.among

            r : Record
            r = (origin_value p gens rows new.item, new.item)

            more : List Record
            more = rs ++ r ∷ []

            count : length more ≡ suc n
            count = let c = goes.count in let l = length-append rs (r ∷ []) in omega (arith, c, l)

            front : take (length more - 1) (rows_of more) ≡ rows
            front = (λ i. take (cut i) (rows_of-append rs (r ∷ []) i)) ∙ take-append_seam rows (r.0 ∷ [])
              where
                cut : length more - 1 ≡ length rows
                cut = let c = goes.count in let n = length-rows_of rs in omega (arith, count, c, n)

    grown : (n : ℕ) → Grown n
    grown zero = record { records = []; made = tt; serial = tt; ends = inl (record { count = refl; unmet = test.none }) }
    grown (suc n) =
        let g = grown n in
        ⊎_elim
        (λ goes. one_more n g.records g.made g.serial goes)
        (λ ended. record {
          records = g.records;
          made = g.made;
          serial = g.serial;
          ends = inr (⊎_elim
              (λ all. inl (record { count = (let c = all.count in omega (arith, c)); unmet = all.unmet; full = all.full }))
              (λ met. inr (record { count = (let c = met.count in omega (arith, c)); met = met.met; just = met.just }))
              ended);
        })
        g.ends

    -- ---- their listing

    -- it meets what is looked for, but not without its last row
    pub record IsJustMetBy (b : ℕ) (rows : List Row) : Type 0 where
      pub listing : IsListing p gens rows
      pub count : length rows ≤ b + 1
      pub met : Meets (vectors_of rows)
      pub just : ¬ Meets (vectors_but_last rows)

    -- a listing of one worker: closed or exceeding, where it does not meet what is looked for, or just met
    pub record HasSerialListing (b : ℕ) : Type 0 where
      pub rows : List Row
      pub serial : IsSerialListing p gens rows
      pub ends : (IsClosedListing p gens b rows × ¬ Meets (vectors_of rows)) ⊎ ((IsExceedingListing p gens b rows × ¬ Meets (vectors_of rows)) ⊎ IsJustMetBy b rows)

    pub serial_listing_exists : (b : ℕ) → HasSerialListing b
    serial_listing_exists b = record {
      rows = rows;
      serial = serial_listing p gens rs rows arranged g.serial;
      ends = ⊎_elim
          (λ goes. inr (inl (exceeding_from p gens b rs rows arranged g.made (let c = goes.count in omega (arith, c)), unmet goes.unmet)))
          (λ ended. ⊎_elim
          (λ all. inl (closed_from p gens b rs rows arranged g.made (let c = all.count in omega (arith, c)) (whole (rows_of rs) all.full), unmet all.unmet))
          (λ met. inr (inr (record {
            listing = listing_from p gens rs rows g.made arranged;
            count = (let c = met.count in let l = arranged.count in omega (arith, c, l));
            met = test.more (rows_of rs) (vectors_of rows) (members_to p gens rs rows g.made arranged) met.met;
            just = λ m. met.just (subst (λ n. Meets (take (n - 1) (rows_of rs))) arranged.count (test.more (vectors_but_last rows) (take (length rows - 1) (rows_of rs)) (first_rows (arities p) rs rows arranged (length rows - 1)) m));
          })))
          ended)
          g.ends;
    }
      where
        g : Grown (suc b)
        g = grown (suc b)

        rs : List Record
        rs = g.records

        listed : (listing : List Row) × IsArranged (arities p) rs listing
        listed = listing_exists p gens rs g.made

        rows : List Row
        rows = listed.0

        arranged : IsArranged (arities p) rs rows
        arranged = listed.1

        unmet : ¬ Meets (rows_of rs) → ¬ Meets (vectors_of rows)
        unmet h m = h (test.more (vectors_of rows) (rows_of rs) (from_rows (arities p) rs rows arranged) m)
