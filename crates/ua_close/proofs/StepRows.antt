-- Each step on a word is an event of its worker, or none.
use Rattle.std.proofs.Common.{◌≡◌, ◌≢◌, ⊎_elim, ℕ, suc, ◌+◌, ◌<◌, ◌≤◌, ◌^◌, Bool, true, false, List, [], ◌∷◌, ◌++◌, length, set, Some, None, refl, sym, ap, ◌∙◌, subst, arith, length-append}
use Rattle.std.proofs.lemmas.List.{set-get_or}
use Rattle.std.proofs.lemmas.Option.{get_or_from_slice_get}
use Rattle.std.specs.Prelude.{bit_or, slice_get, slice_index, Contains}
use mathlib.Core.Option.{some}
use mathlib.Core.Logic.{dite}
use native.Mathlib.Decide.{dec_lt}
use lib.ListN.{get_elem?}
use Rattle.atomic_table.proofs.Lists.{set_again}
use Rattle.ua_table.specs.declared.origins.Origin.{Origin}
use Rattle.ua_table.specs.Algebras.{Vector, Product, arities}
use Rattle.ua_table.specs.Origins.{IsOrigin, origin_value}
use Rattle.ua_table.specs.Slices.{bound}
use Rattle.ua_table.proofs.SliceLaws.{bound_laws}
use Rattle.ua_table.proofs.Lists.{slice_get-push_cases}
use Rattle.ua_core.specs.declared.events.EventKind.{EventKind}
use Rattle.ua_core.specs.declared.events.EventKind.TheVariants.{Look, Put, Claim, Know, Idle, Halt}
use Rattle.ua_core.specs.Machines.{Machine, Asks, effect}
use Rattle.ua_core.specs.States.{task_of}
use Rattle.ua_log.specs.declared.views.Plan.{Plan}
use Rattle.ua_log.specs.declared.views.Worker.{Worker}
use Rattle.ua_log.specs.declared.views.View.{View}
use Rattle.ua_log.specs.Rule.{MayStand, code}
use Rattle.ua_log.specs.Boards.{AreWords, workers, first_row, claim_word}
use Rattle.ua_log.specs.Moves.{kept_of, sees, missed, adds, knows, claims_slice, noted, FoundRecord, FoundClaims, SawClaims, Token}
use Rattle.ua_log.proofs.Words.{code_some, row_none, row_empty, prefix_low}
use Rattle.ua_log.proofs.ClosedLogs.{claims_back}
use Rattle.ua_log.proofs.RowSteps.{bound_up, longer_words}
use Rattle.ua_log.proofs.ClaimSteps.{claim_words, no_halt, few_claims, or_bit}
use Rattle.ua_work.specs.Values.{values}
use Rattle.ua_work.specs.Harvests.{IsPlanOf}
use Rattle.ua_close.specs.Steps.{read, numbered, in_order, machine_from, machine_in, Table, plain, erased, IsSame, IsAt, own, next_row, moved, loaded, exchanged, Becomes, May}
use Rattle.ua_close.specs.Steps.{LoadFound, LoadEmpty, LoadBelow, PutWon, PutLost, LoadIdle, LoadKnow, ClaimWon, ClaimLost, HaltSet}
use Rattle.ua_work.proofs.RowValues.{values_push, length-values}
use Rattle.ua_close.proofs.LogLaws.{plan_origin}
use Rattle.ua_close.proofs.StepWords.{swapped_hit, swapped_miss, AreRead, are_read}
use Rattle.ua_close.proofs.StepEvents.{same_parts, becomes, may_be, machine_is, plain_set, own_agrees, plan_same, words_read, own_stands, own_moves}

-- the worker that is read of each new one
looked : (w : Worker) (o : Origin) → plain (read false (sees w o)).worker ≡ plain (record (read false w).worker { seen = length w.seen + 1; idle = false })
looked w o = λ i. record { seen = length-append w.seen (o ∷ []) i; slices = w.slices; puts = w.puts; busy = None; known = w.known; idle = false; joined = false }

put_by : (w : Worker) (o : Origin) (n : ℕ) → length w.seen ≡ n → plain (read false (adds w o)).worker ≡ plain (record (read false w).worker { seen = length w.seen + 1; puts = w.puts ++ n ∷ []; idle = false })
put_by w o n e = λ i. record { seen = length-append w.seen (o ∷ []) i; slices = w.slices; puts = w.puts ++ e i ∷ []; busy = None; known = w.known; idle = false; joined = false }

known_by : (w : Worker) (c n : ℕ) (h b : Bool) → c ≡ n → plain (read false (knows w c h)).worker ≡ plain (record (read false w).worker { known = n; idle = b })
known_by w c n h b e = λ i. record { seen = length w.seen; slices = w.slices; puts = w.puts; busy = None; known = e i; idle = false; joined = false }

claimed_by : (w : Worker) (old n : ℕ) → old ≡ n → plain (read false (claims_slice w old)).worker ≡ plain (record (read false w).worker { slices = w.slices ++ n ∷ []; busy = Some n; known = n + 1; idle = false })
claimed_by w old n e = λ i. record { seen = length w.seen; slices = w.slices ++ e i ∷ []; puts = w.puts; busy = None; known = more i; idle = false; joined = false }
  where
    more : suc old ≡ n + 1
    more = omega (arith, e)

module _ (p : Product) (gens : List Vector) (plan : Plan) (of : IsPlanOf p gens plan) where
  -- a step that changes one view is this event, where the machine of the words after it is that of the event
  by_event : (s : Table) (id i n : ℕ) (me m : Token) (a : IsAt plan s id me) (new : Worker) (kind : EventKind) (log : List Origin) (c : ℕ) (h : Bool)
      → m.0.all ≡ new ∷ kept_of me.0.all → new.number ≡ (own me).number → AreRead plan (set s.words i n) log c h
      → IsSame
      (record (machine_from p gens log c h (numbered s.views))
      { workers = set (in_order (numbered s.views)) (own me).number (read false new).worker })
      (effect (task_of p gens plan.budget) (machine_from p gens a.rule.log a.rule.claims a.rule.halted (numbered s.views)) (own me).number
      (read false (own me)).worker kind)
      → Becomes p gens plan s (moved s i n id me m) (own me).number kind
  by_event s id i n me m a new kind log c h all number words same =
      let M = machine_from p gens a.rule.log a.rule.claims a.rule.halted (numbered s.views) in
      let M' : Machine = record (machine_from p gens log c h (numbered s.views)) { workers = set (in_order (numbered s.views)) (own me).number (read false new).worker } in
      let after_is : machine_in p gens plan (moved s i n id me m) ≡ M' =
      machine_is p gens plan (moved s i n id me m) log c h words ∙
      (λ j. record { rows = values p gens log; origins = log; claims = c; halted = h; workers = own_moves plan s id me a m.0 new all number j }) in
      becomes (task_of p gens plan.budget) (machine_in p gens plan s) (machine_in p gens plan (moved s i n id me m)) M M' (own me).number (read false (own me)).worker kind
      (machine_is p gens plan s a.rule.log a.rule.claims a.rule.halted (words_read plan s id me a)) after_is (own_stands plan s id me a) same

  by_guard : (s : Table) (id : ℕ) (me : Token) (a : IsAt plan s id me) (kind : EventKind)
      → Asks (task_of p gens plan.budget) (machine_from p gens a.rule.log a.rule.claims a.rule.halted (numbered s.views)) (own me).number (read false (own me)).worker kind
      → May p gens plan s (own me).number kind
  by_guard s id me a kind asks =
      may_be (task_of p gens plan.budget) (machine_in p gens plan s) (machine_from p gens a.rule.log a.rule.claims a.rule.halted (numbered s.views)) (own me).number (read false (own me)).worker kind
      (machine_is p gens plan s a.rule.log a.rule.claims a.rule.halted (words_read plan s id me a)) (own_stands plan s id me a) refl asks

  -- words that are written again are read as before
  same_read : (s : Table) (id i : ℕ) (me : Token) (a : IsAt plan s id me) → AreRead plan (set s.words i (slice_index s.words i)) a.rule.log a.rule.claims a.rule.halted
  same_read s id i me a = subst (λ (l : List ℕ). AreRead plan l a.rule.log a.rule.claims a.rule.halted) (sym (set-get_or s.words i 0)) (words_read plan s id me a)

  -- a word that holds a record is not empty
  not_empty : (s : Table) (id : ℕ) (me m : Token) (n : ℕ) → IsAt plan s id me → FoundRecord me n m → n ≢ 0
  not_empty s id me m n a f z = code_some plan f.origin a.plan_is (ap (λ (q : Plan). code q f.origin) (sym (plan_same plan s id me a)) ∙ sym f.word ∙ z)

  -- ---- row words

  pub load_found : LoadFound p gens plan
  load_found s id me m a room f =
      let log = a.rule.log in
      let ws = in_order (numbered s.views) in
      let k = (own me).number in
      let more : length (own me).seen < length log = dite (dec_lt (length (own me).seen) (length log)) (λ lt. lt)
      (λ none. absurd (not_empty s id me m (slice_index s.words (next_row plan me)) a f
      (a.rule.words.rows (length (own me).seen) room ∙ row_none plan log (length (own me).seen) (omega (arith, none))))) in (
        by_event s id (next_row plan me) (slice_index s.words (next_row plan me)) me m a (sees (own me) f.origin) Look log a.rule.claims a.rule.halted
            (ap (λ (v : View). v.all) f.view) refl (same_read s id (next_row plan me) me a)
            (same_parts _ _ refl refl refl refl (plain_set ws k (read false (sees (own me) f.origin)).worker (record (read false (own me)).worker { seen = length (own me).seen + 1; idle = false }) (looked (own me) f.origin))),
        by_guard s id me a Look (let l = length-values p gens log in omega (arith, l, more)),
      )

  -- the board after a step that changes nothing
  nothing : (s : Table) (id i : ℕ) (me m : Token) → get_elem? s.views id ≡ some me.0 → m.0 ≡ me.0 → loaded s i id me m ≡ s
  nothing s id i me m there e = λ j. record { words = set-get_or s.words i 0 j; homes = s.homes; views = (ap (set s.views id) e ∙ set_again s.views id me.0 there) j }

  pub load_empty : LoadEmpty p gens plan
  load_empty s id me m a empty e =
      let log = a.rule.log in
      let c = a.rule.claims in
      let h = a.rule.halted in
      let ws = in_order (numbered s.views) in
      let k = (own me).number in
      let mine = (read false (own me)).worker in
      let as_before : in_order (numbered (set s.views id m.0)) ≡ ws =
      own_moves plan s id me a m.0 (missed (own me)) (ap (λ (v : View). v.all) e) refl
      ∙ ap (set ws k) (sym (get_or_from_slice_get ws k mine mine (own_stands plan s id me a))) ∙ set-get_or ws k mine in
      let after_is = machine_is p gens plan (loaded s (next_row plan me) id me m) log c h (same_read s id (next_row plan me) me a) in
      let before_is = machine_is p gens plan s log c h (words_read plan s id me a) in
      ap erased (after_is ∙ (λ j. record { rows = values p gens log; origins = log; claims = c; halted = h; workers = as_before j }) ∙ sym before_is)

  pub load_below : LoadBelow p gens plan
  load_below s id i me m a r = ap (λ (t : Table). erased (machine_in p gens plan t)) (nothing s id i me m a.there r.1)

  pub put_lost : PutLost p gens plan
  put_lost s id new me m a room f =
      let i = next_row plan me in
      let n = slice_index s.words i in
      let same : exchanged s i 0 new id me m ≡ loaded s i id me m = ap (λ (z : ℕ). moved s i z id me m) (swapped_miss 0 new n (not_empty s id me m n a f)) in
      let r = load_found s id me m a room f in
      (subst (λ (t : Table). Becomes p gens plan s t (own me).number Look) (sym same) r.0, r.1)

  pub put_won : PutWon p gens plan
  put_won s id new me m a room won =
      let log = a.rule.log in
      let c = a.rule.claims in
      let h = a.rule.halted in
      let o = won.origin in
      let i = next_row plan me in
      let k = length (own me).seen in
      let ws = in_order (numbered s.views) in
      let agrees = own_agrees plan s id me a in
      let low = prefix_low (own me).seen log agrees.seen in
      let high = row_empty plan a.plan_is log k (sym (a.rule.words.rows k room) ∙ won.empty) in
      let all : k ≡ length log = omega (arith, low, high) in
      let stands : MayStand plan k o = subst (λ (q : Plan). MayStand q k o) (plan_same plan s id me a) won.stands in
      let new_is : new ≡ code plan o = won.word ∙ ap (λ (q : Plan). code q o) (plan_same plan s id me a) in
      let long = longer_words plan s.words log c h o (omega (arith, all, room)) a.rule.words in
      let words = are_read plan (set s.words (first_row plan + length log) (code plan o)) (log ++ o ∷ []) c h a.plan_is long (omega (arith, length-append log (o ∷ []), all, room))
      (λ j x e. ⊎_elim
      (λ (old : slice_get log j ≡ Some x). a.rule.rule.stands j x old)
      (λ (last : (j ≡ length log) × (o ≡ x)). subst (λ (q : ℕ × Origin). MayStand plan q.0 q.1) (λ z. ((all ∙ sym last.0) z, last.1 z)) stands)
      (slice_get-push_cases log o x j e))
      (few_claims plan log c h (workers s.views) a.plan_is a.rule.rule) in
      let written : set s.words (first_row plan + length log) (code plan o) ≡ set s.words i new =
      (λ z. set s.words (first_row plan + sym all z) (sym new_is z)) in
      let same : exchanged s i 0 new id me m ≡ moved s i new id me m = ap (λ (z : ℕ). moved s i z id me m) (swapped_hit 0 new (slice_index s.words i) won.empty) in
      let rows : length (values p gens log) ≡ length log = length-values p gens log in (
        subst (λ (t : Table). Becomes p gens plan s t (own me).number (Put o)) (sym same)
            (by_event s id i new me m a (adds (own me) o) (Put o) (log ++ o ∷ []) c h (ap (λ (v : View). v.all) won.view) refl (subst (λ (l : List ℕ). AreRead plan l (log ++ o ∷ []) c h) written words)
            (same_parts _ _ (values_push p gens log o) refl refl refl
            (plain_set ws (own me).number (read false (adds (own me) o)).worker
            (record (read false (own me)).worker { seen = k + 1; puts = (own me).puts ++ length (values p gens log) ∷ []; idle = false })
            (put_by (own me) o (length (values p gens log)) (all ∙ sym rows))))),
        (λ fresh.
            let records : (machine_in p gens plan s).rows ≡ values p gens log = ap (λ (q : Machine). q.rows) (machine_is p gens plan s log c h (words_read plan s id me a)) in
            by_guard s id me a (Put o) (
              all ∙ sym rows,
              omega (arith, rows, all, room),
              subst (λ (j : ℕ). IsOrigin (arities p) (length gens) j o) (all ∙ sym rows) (plan_origin p gens plan of k o stands),
              subst (λ (vs : List Vector). ¬ Contains vs (origin_value p gens vs o)) records fresh,
            )),
      )

  -- ---- the claim word

  -- the claim number and halt flag that were found are those of the board
  found_is : (s : Table) (id : ℕ) (me : Token) (a : IsAt plan s id me) (c : ℕ) (h : Bool) → FoundClaims me (slice_index s.words 0) c h → (c ≡ a.rule.claims) × (h ≡ a.rule.halted)
  found_is s id me a c h f =
      let mine = claims_back c h (slice_index s.words 0) f.word f.small in
      let its = claims_back a.rule.claims a.rule.halted (slice_index s.words 0) a.rule.words.claim (few_claims plan a.rule.log a.rule.claims a.rule.halted (workers s.views) a.plan_is a.rule.rule) in
      (sym mine.0 ∙ its.0, sym mine.1 ∙ its.1)

  pub load_know : LoadKnow p gens plan
  load_know s id me m a saw = (
    by_event s id 0 (slice_index s.words 0) me m a (knows (own me) saw.claims saw.halted) Know a.rule.log a.rule.claims a.rule.halted
        (ap (λ (v : View). v.all) saw.view) refl (same_read s id 0 me a)
        (same_parts _ _ refl refl refl refl (plain_set (in_order (numbered s.views)) (own me).number (read false (knows (own me) saw.claims saw.halted)).worker (record (read false (own me)).worker { known = a.rule.claims; idle = false })
        (known_by (own me) saw.claims a.rule.claims saw.halted false (found_is s id me a saw.claims saw.halted saw.found).0))),
    by_guard s id me a Know tt,
  )

  pub load_idle : LoadIdle p gens plan
  load_idle s id me m a saw done off =
      let is = found_is s id me a saw.claims saw.halted saw.found in (
        by_event s id 0 (slice_index s.words 0) me m a (knows (own me) saw.claims saw.halted) Idle a.rule.log a.rule.claims a.rule.halted
            (ap (λ (v : View). v.all) saw.view) refl (same_read s id 0 me a)
            (same_parts _ _ refl refl refl refl (plain_set (in_order (numbered s.views)) (own me).number (read false (knows (own me) saw.claims saw.halted)).worker (record (read false (own me)).worker { known = a.rule.claims; idle = true })
            (known_by (own me) saw.claims a.rule.claims saw.halted true is.0))),
        by_guard s id me a Idle (refl, subst (λ (ks : List ℕ). bound ks (length (own me).seen) ≤ a.rule.claims) of.shape (subst (λ (n : ℕ). bound plan.shape (length (own me).seen) ≤ n) is.0 done)),
      )

  pub claim_lost : ClaimLost p gens plan
  claim_lost s id old me m a tried miss =
      let view : m.0 ≡ _ = ⊎_elim (λ won. absurd (miss won.0)) (λ lost. lost.1) tried.view in
      let saw : SawClaims me (slice_index s.words 0) m = record { slots = tried.slots; claims = tried.claims; halted = tried.halted; found = tried.found; view = view } in
      let same : exchanged s 0 old (suc old) id me m ≡ loaded s 0 id me m = ap (λ (z : ℕ). moved s 0 z id me m) (swapped_miss old (suc old) (slice_index s.words 0) miss) in
      let r = load_know s id me m a saw in
      (subst (λ (t : Table). Becomes p gens plan s t (own me).number Know) (sym same) r.0, r.1)

  pub claim_won : ClaimWon p gens plan
  claim_won s id old me m a below tried hit =
      let seen = length (own me).seen in
      let within : seen ≤ plan.budget = let l = prefix_low (own me).seen a.rule.log (own_agrees plan s id me a).seen in let r = a.rule.rule.room in omega (arith, l, r) in
      let view = ⊎_elim (λ won. won.1) (λ lost. absurd (lost.0 hit)) tried.view in
      let up = bound_up plan seen plan.budget a.plan_is within in
      let cap = (bound_laws plan.shape a.plan_is.shape).small plan.gens plan.budget a.plan_is.few a.plan_is.fits in
      let free = no_halt a.rule.claims a.rule.halted (slice_index s.words 0) a.rule.words.claim (omega (arith, hit, below, up, cap)) in
      let is : old ≡ a.rule.claims = sym hit ∙ sym free.1 in
      let long = claim_words plan s.words a.rule.log a.rule.claims (suc old) a.rule.halted false a.rule.words in
      let words : AreRead plan (set s.words 0 (suc old)) a.rule.log (suc old) false = are_read plan (set s.words 0 (suc old)) a.rule.log (suc old) false a.plan_is long a.rule.rule.room a.rule.rule.stands (omega (arith, below, up, cap)) in
      let same : exchanged s 0 old (suc old) id me m ≡ moved s 0 (suc old) id me m = ap (λ (z : ℕ). moved s 0 z id me m) (swapped_hit old (suc old) (slice_index s.words 0) hit) in
      let next : suc old ≡ a.rule.claims + 1 = omega (arith, is) in (
        subst (λ (t : Table). Becomes p gens plan s t (own me).number Claim) (sym same)
            (by_event s id 0 (suc old) me m a (claims_slice (own me) old) Claim a.rule.log (suc old) false (ap (λ (v : View). v.all) view) refl words
            (same_parts _ _ refl refl next (sym free.0) (plain_set (in_order (numbered s.views)) (own me).number
            (read false (claims_slice (own me) old)).worker
            (record (read false (own me)).worker
            { slices = (own me).slices ++ a.rule.claims ∷ []; busy = Some a.rule.claims; known = a.rule.claims + 1; idle = false })
            (claimed_by (own me) old a.rule.claims is)))),
        by_guard s id me a Claim (refl, free.0, subst (λ (ks : List ℕ). a.rule.claims < bound ks seen) of.shape (subst (λ (n : ℕ). n < bound plan.shape seen) is below)),
      )

  pub halt_set : HaltSet p gens plan
  halt_set s id me m a told =
      let c = a.rule.claims in
      let small = few_claims plan a.rule.log c a.rule.halted (workers s.views) a.plan_is a.rule.rule in
      let word : claim_word c true ≡ bit_or (slice_index s.words 0) (2 ^ 63) = sym (ap (λ (n : ℕ). bit_or n (2 ^ 63)) a.rule.words.claim ∙ or_bit c a.rule.halted small) in
      let long = claim_words plan s.words a.rule.log c c a.rule.halted true a.rule.words in
      let words : AreRead plan (set s.words 0 (bit_or (slice_index s.words 0) (2 ^ 63))) a.rule.log c true =
      are_read plan (set s.words 0 (bit_or (slice_index s.words 0) (2 ^ 63))) a.rule.log c true a.plan_is (subst (λ (n : ℕ). AreWords plan (set s.words 0 n) a.rule.log c true) word long) a.rule.rule.room a.rule.rule.stands small in (
        by_event s id 0 (bit_or (slice_index s.words 0) (2 ^ 63)) me m a (noted (own me)) Halt a.rule.log c true (ap (λ (v : View). v.all) told.1) refl words
            (same_parts _ _ refl refl refl refl (plain_set (in_order (numbered s.views)) (own me).number (read false (noted (own me))).worker (record (read false (own me)).worker { idle = false }) refl)),
        by_guard s id me a Halt tt,
      )
