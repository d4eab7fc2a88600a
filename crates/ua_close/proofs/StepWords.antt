-- The words of a board are read as its records, claim number and halt flag.
use Rattle.std.proofs.Common.{◌≡◌, ◌≢◌, ℕ, suc, ◌<◌, ◌≤◌, ◌^◌, Bool, List, [], ◌∷◌, length, map, take, drop, get_or, Some, refl, sym, ap, ◌∙◌, arith}
use Rattle.std.specs.Prelude.{slice_get, slice_index}
use Rattle.std.proofs.lemmas.Bool.Decides.{nat_tests}
use Rattle.std.proofs.lemmas.List.{get_or-drop, length-drop}
use Rattle.std.proofs.lemmas.Option.{slice_get_within}
use Rattle.ua_table.specs.declared.origins.Origin.{Origin}
use Rattle.ua_log.specs.declared.views.Plan.{Plan}
use Rattle.ua_log.specs.Rule.{IsPlan, MayStand, code}
use Rattle.ua_log.specs.Boards.{AreWords, first_row, row_word}
use Rattle.ua_log.specs.Logs.{origin_of}
use Rattle.ua_log.proofs.Words.{stands_later, code_some}
use Rattle.ua_log.proofs.ClosedLogs.{read_back, claims_back}
use Rattle.ua_close.specs.Steps.{filled, records_in, claims_in, halt_in, swapped}

-- what a compare-exchange leaves
pub swapped_hit : (old new n : ℕ) → n ≡ old → swapped old new n ≡ new
swapped_hit old new n e = grind (arith, nat_tests)

pub swapped_miss : (old new n : ℕ) → n ≢ old → swapped old new n ≡ n
swapped_miss old new n e = grind (arith, nat_tests)

-- an empty word ends the filled ones, and another is one of them
filled_none : (w : ℕ) (ws : List ℕ) → w ≡ 0 → filled (w ∷ ws) ≡ []
filled_none w ws e = grind (arith, nat_tests)

filled_some : (w : ℕ) (ws : List ℕ) → w ≢ 0 → filled (w ∷ ws) ≡ w ∷ filled ws
filled_some w ws e = grind (arith, nat_tests)

-- the filled words are those of the records
filled_are : (plan : Plan) → IsPlan plan → (log : List Origin) (ws : List ℕ) → length log ≤ length ws → ((k : ℕ) → k < length ws → get_or ws k 0 ≡ row_word plan log k) → filled ws ≡ take (length log) ws
filled_are plan p [] [] le are = refl
filled_are plan p [] (w ∷ ws) le are = filled_none w ws (are 0 (omega arith))
filled_are plan p (o ∷ os) [] le are = absurd (omega (arith, le))
filled_are plan p (o ∷ os) (w ∷ ws) le are =
    let here : w ≡ code plan o = are 0 (omega arith) in
    filled_some w ws (λ z. code_some plan o p (sym here ∙ z)) ∙
    ap (λ l. w ∷ l) (filled_are plan p os ws (omega (arith, le)) (λ k h. are (suc k) (omega (arith, h))))

-- ---- words that are read

pub record AreRead (plan : Plan) (words : List ℕ) (log : List Origin) (claims : ℕ) (halted : Bool) : Type 0 where
  pub records : records_in plan words ≡ log
  pub claims_are : claims_in words ≡ claims
  pub halt : halt_in words ≡ halted

pub are_read : (plan : Plan) (words : List ℕ) (log : List Origin) (c : ℕ) (h : Bool) → IsPlan plan → AreWords plan words log c h
    → length log ≤ plan.budget → ((k : ℕ) (o : Origin) → slice_get log k ≡ Some o → MayStand plan k o) → c < 2 ^ 63 → AreRead plan words log c h
are_read plan words log c h p w room stands small =
    let rest = drop (first_row plan) words in
    let d : length rest ≡ plan.budget = let x = length-drop (first_row plan) words in let n = w.count in omega (arith, x, n) in
    let are : (k : ℕ) → k < length rest → get_or rest k 0 ≡ row_word plan log k = λ k lt. get_or-drop (first_row plan) words k 0 ∙ w.rows k (omega (arith, lt, d)) in
    let f = filled_are plan p log rest (omega (arith, room, d)) are in
    let back = read_back plan log rest p (omega (arith, room, d)) (λ k lt. are k (omega (arith, lt, room, d)))
    (λ k o e. let lt = slice_get_within log k o e in stands_later plan k plan.budget o (omega (arith, lt, room)) (stands k o e)) in
    let n = claims_back c h (slice_index words 0) w.claim small in
    record { records = ap (map (origin_of plan)) f ∙ back; claims_are = n.0; halt = n.1 }
