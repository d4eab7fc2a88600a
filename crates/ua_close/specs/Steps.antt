-- The words and the views of a board read as the machine, and the event that each step on them is:
--
--   step                          word           view of the seat             event
--   load, a record found          next row word  takes the record in          Look
--   load, the word is empty       next row word  notes what was missed        none
--   load of a record seen         row word       recalls it                   none
--   put that won                  next row word  adds the record, as its own  Put
--   put that lost                 next row word  takes the record in          Look
--   load, all slices claimed      claim word     notes the claims             Idle
--   load, whatever it finds       claim word     notes the claims             Know
--   exchange that won             claim word     owns one slice more          Claim
--   exchange that lost            claim word     notes the claims             Know
--   halt bit set                  claim word     notes the halt               Halt
--   split of the first seat       none           counts one seat more         Split
--   join of the first seat        none           keeps the other's worker     Join
use Rattle.std.specs.Prelude.{◌≡◌, ◌≢◌, ℕ, suc, ◌+◌, ◌%◌, ◌<◌, ◌≤◌, ◌^◌, ◌==◌, nat_le, bit_or, if◌then◌else◌, Bool, true, false, List, [], ◌∷◌, ◌++◌, length, map, drop, slice_index, slice_get, slice_set, None, Some, Contains}
use Rattle.std.specs.List.{flat_map}
use mathlib.Core.Option.{some}
use lib.ListN.{get_elem?}
use Rattle.atomic_table.specs.Seated.{TableId}
use Rattle.atomic_table.specs.Table.{State, keeps, stepped, opening}
use Rattle.ua_table.specs.declared.limits.TheConstants.{WORKERS}
use Rattle.ua_table.specs.declared.origins.Origin.{Origin}
use Rattle.ua_table.specs.Algebras.{Vector, Product}
use Rattle.ua_table.specs.Counting.{numbers_below}
use Rattle.ua_table.specs.Origins.{origin_value}
use Rattle.ua_table.specs.Slices.{bound}
use Rattle.ua_core.specs.declared.events.EventKind.{EventKind}
use Rattle.ua_core.specs.declared.events.EventKind.TheVariants.{Look, Put, Claim, Know, Idle, Halt, Split, Join}
use Rattle.ua_core.specs.Machines as machines
use Rattle.ua_core.specs.Machines.{Machine, Guard, start, after}
use Rattle.ua_core.specs.States.{task_of, event}
use Rattle.ua_log.specs.declared.views.Plan.{Plan}
use Rattle.ua_log.specs.declared.views.Worker.{Worker}
use Rattle.ua_log.specs.declared.views.View.{View}
use Rattle.ua_log.specs.Rule.{IsPlan, Rule}
use Rattle.ua_log.specs.Boards.{IsRuled, first_row, first_words, first_view}
use Rattle.ua_log.specs.Moves.{own_of, kept_of, with_own, missed, joined, split_first, split_new, join_first, spent_view, FoundRecord, Recalled, WonPlace, SawClaims, TriedClaim, Halted, Token}
use Rattle.ua_log.specs.Seats.{Home, seat_of, new_seat, with_worker}
use Rattle.ua_log.specs.Logs.{LogView, origin_of}
use Rattle.ua_work.specs.declared.harvests.Harvest.{Harvest}
use Rattle.ua_work.specs.Values.{values}
use Rattle.ua_close.specs.Gatherings.{AreSeats, worker_of, machine_of}

-- ---- the words, read

-- the row words that are filled: those before the first empty one
abbrev pub filled : List ℕ → List ℕ
filled [] = []
filled (w ∷ ws) = if w == 0 then [] else w ∷ filled ws

-- the records of the filled row words
abbrev pub records_in : Plan → List ℕ → List Origin
records_in plan words = map (origin_of plan) (filled (drop (first_row plan) words))

-- the claim number
abbrev pub claims_in : List ℕ → ℕ
claims_in words = slice_index words 0 % 2 ^ 63

-- the halt bit
abbrev pub halt_in : List ℕ → Bool
halt_in words = nat_le (2 ^ 63) (slice_index words 0)

-- ---- the views, read

-- a worker of the machine under its number
pub record Numbered : Type 0 where
  pub number : ℕ
  pub worker : machines.Worker

-- the worker of a seat as one of the machine, that is not busy and not idle; it is live, or was taken in
abbrev pub read : Bool → Worker → Numbered
read joined w = record { number = w.number; worker = record { seen = length w.seen; slices = w.slices; puts = w.puts; busy = None; known = w.known; idle = false; joined = joined } }

-- the workers of one view: the seat's own is live, those that it keeps were taken in
abbrev pub read_all : List Worker → List Numbered
read_all [] = []
read_all (own ∷ kept) = read false own ∷ map (read true) kept

-- the workers of all views
abbrev pub numbered : List View → List Numbered
numbered views = flat_map (λ (v : View). read_all v.all) views

-- the worker of number n
abbrev pub worker_at : List Numbered → ℕ → machines.Worker
worker_at [] n = machines.fresh 0 0
worker_at (e ∷ es) n = if e.number == n then e.worker else worker_at es n

-- the workers in the order of their numbers
abbrev pub in_order : List Numbered → List machines.Worker
in_order es = map (worker_at es) (numbers_below (length es))

-- ---- the machine

-- the machine of these records, claim number, halt flag and workers
abbrev pub machine_from : Product → List Vector → List Origin → ℕ → Bool → List Numbered → Machine
machine_from p gens records claims halted es = record { rows = values p gens records; origins = records; claims = claims; halted = halted; workers = in_order es }

-- a board between two steps
abbrev pub Table : Type 0
Table = State (Unit {0}) View

-- the machine of the words and views of a board
abbrev pub machine_in : Product → List Vector → Plan → Table → Machine
machine_in p gens plan s = machine_from p gens (records_in plan s.words) (claims_in s.words) (halt_in s.words) (numbered s.views)

-- a worker that is not busy and not idle, and else the same
abbrev pub plain : machines.Worker → machines.Worker
plain w = record w { busy = None; idle = false }

-- a machine whose workers are so
abbrev pub erased : Machine → Machine
erased m = record m { workers = map plain m.workers }

-- the two machines are the same, busy and idle apart
abbrev pub IsSame : Machine → Machine → Type 0
IsSame m n = erased m ≡ erased n

-- ---- the steps

-- seat id of a board that meets the rule is this one, which was not taken in
pub record IsAt (plan : Plan) (s : Table) (id : ℕ) (me : Token) : Type 0 where
  pub plan_is : IsPlan plan
  pub rule : IsRuled plan s
  pub there : get_elem? s.views id ≡ some me.0
  pub live : me.0.all ≡ own_of me.0.all ∷ kept_of me.0.all

-- the seat's own worker
abbrev pub own : Token → Worker
own me = own_of me.0.all

-- the place of the next row word
abbrev pub next_row : Plan → Token → ℕ
next_row plan me = first_row plan + length (own me).seen

-- what a compare-exchange leaves in a word that held n
abbrev pub swapped : ℕ → ℕ → ℕ → ℕ
swapped old new n = if n == old then new else n

-- the board after word i becomes n, and seat id, which was me, becomes m
abbrev pub moved : Table → ℕ → ℕ → ℕ → Token → Token → Table
moved s i n id me m = stepped s i n id me.1 m.0 keeps

-- the board after a load of word i
abbrev pub loaded : Table → ℕ → ℕ → Token → Token → Table
loaded s i id me m = moved s i (slice_index s.words i) id me m

-- the board after a compare-exchange of word i
abbrev pub exchanged : Table → ℕ → ℕ → ℕ → ℕ → Token → Token → Table
exchanged s i old new id me m = moved s i (swapped old new (slice_index s.words i)) id me m

-- the board after the highest bit of word 0 is set
abbrev pub bit_set : Table → ℕ → Token → Token → Table
bit_set s id me m = moved s 0 (bit_or (slice_index s.words 0) (2 ^ 63)) id me m

-- the board after seat id has made another
abbrev pub after_split : Table → ℕ → View → Table
after_split s id v = record { words = s.words; homes = s.homes; views = slice_set s.views id (split_first v) ++ split_new v ∷ [] }

-- the board after seat id has taken another in
abbrev pub after_join : Table → ℕ → View → ℕ → View → Table
after_join s id v other w = record { words = s.words; homes = s.homes; views = slice_set (slice_set s.views id (join_first v w)) other spent_view }

module _ (p : Product) (gens : List Vector) (plan : Plan) where
  -- the machine of the board stays
  abbrev pub Stays : Table → Table → Type 0
  Stays s t = IsSame (machine_in p gens plan t) (machine_in p gens plan s)

  -- the machine of the board becomes what it is after this event of the n-th worker
  abbrev pub Becomes : Table → Table → ℕ → EventKind → Type 0
  Becomes s t n k = IsSame (machine_in p gens plan t) (after (task_of p gens plan.budget) (machine_in p gens plan s) (event n k))

  -- the event may happen in the machine of the board
  abbrev pub May : Table → ℕ → EventKind → Type 0
  May s n k = Guard (task_of p gens plan.budget) (machine_in p gens plan s) (event n k)

  -- a row load that found a record is Look
  abbrev pub LoadFound : Type 0
  LoadFound = (s : Table) (id : ℕ) (me m : Token) → IsAt plan s id me → length (own me).seen < plan.budget → FoundRecord me (slice_index s.words (next_row plan me)) m
      → Becomes s (loaded s (next_row plan me) id me m) (own me).number Look × May s (own me).number Look

  -- a row load that found the word empty is no event
  abbrev pub LoadEmpty : Type 0
  LoadEmpty = (s : Table) (id : ℕ) (me m : Token) → IsAt plan s id me → slice_index s.words (next_row plan me) ≡ 0 → m.0 ≡ with_own me.0 (missed (own me))
      → Stays s (loaded s (next_row plan me) id me m)

  -- a row load below seen is no event
  abbrev pub LoadBelow : Type 0
  LoadBelow = (s : Table) (id i : ℕ) (me m : Token) → IsAt plan s id me → Recalled me i (slice_index s.words i) m
      → Stays s (loaded s i id me m)

  -- a put that won its place is Put, which may happen if the value is new
  abbrev pub PutWon : Type 0
  PutWon = (s : Table) (id new : ℕ) (me m : Token) → IsAt plan s id me → length (own me).seen < plan.budget → (won : WonPlace me new (slice_index s.words (next_row plan me)) m)
      → Becomes s (exchanged s (next_row plan me) 0 new id me m) (own me).number (Put won.origin)
      × (¬ Contains (machine_in p gens plan s).rows (origin_value p gens (machine_in p gens plan s).rows won.origin) → May s (own me).number (Put won.origin))

  -- a put that found a record is Look
  abbrev pub PutLost : Type 0
  PutLost = (s : Table) (id new : ℕ) (me m : Token) → IsAt plan s id me → length (own me).seen < plan.budget → FoundRecord me (slice_index s.words (next_row plan me)) m
      → Becomes s (exchanged s (next_row plan me) 0 new id me m) (own me).number Look × May s (own me).number Look

  -- a claim load that found the slices of all records seen claimed, and no halt bit, is Idle
  abbrev pub LoadIdle : Type 0
  LoadIdle = (s : Table) (id : ℕ) (me m : Token) → IsAt plan s id me → (saw : SawClaims me (slice_index s.words 0) m) → bound plan.shape (length (own me).seen) ≤ saw.claims → saw.halted ≡ false
      → Becomes s (loaded s 0 id me m) (own me).number Idle × May s (own me).number Idle

  -- any claim load is Know
  abbrev pub LoadKnow : Type 0
  LoadKnow = (s : Table) (id : ℕ) (me m : Token) → IsAt plan s id me → SawClaims me (slice_index s.words 0) m
      → Becomes s (loaded s 0 id me m) (own me).number Know × May s (own me).number Know

  -- an exchange of the claim word that won a slice of the records seen is Claim
  abbrev pub ClaimWon : Type 0
  ClaimWon = (s : Table) (id old : ℕ) (me m : Token) → IsAt plan s id me → old < bound plan.shape (length (own me).seen) → TriedClaim me old (slice_index s.words 0) m → slice_index s.words 0 ≡ old
      → Becomes s (exchanged s 0 old (suc old) id me m) (own me).number Claim × May s (own me).number Claim

  -- an exchange of the claim word that lost is Know
  abbrev pub ClaimLost : Type 0
  ClaimLost = (s : Table) (id old : ℕ) (me m : Token) → IsAt plan s id me → TriedClaim me old (slice_index s.words 0) m → slice_index s.words 0 ≢ old
      → Becomes s (exchanged s 0 old (suc old) id me m) (own me).number Know × May s (own me).number Know

  -- the halt bit set is Halt
  abbrev pub HaltSet : Type 0
  HaltSet = (s : Table) (id : ℕ) (me m : Token) → IsAt plan s id me → Halted me m
      → Becomes s (bit_set s id me m) (own me).number Halt × May s (own me).number Halt

  -- a split of the first seat is Split
  abbrev pub SeatSplit : Type 0
  SeatSplit = (s : Table) (id : ℕ) (me : Token) → IsAt plan s id me → (own me).number ≡ 0 → me.0.made < WORKERS
      → Becomes s (after_split s id me.0) (own me).number Split × May s (own me).number Split

  -- a join of the first seat with another is Join
  abbrev pub SeatJoin : Type 0
  SeatJoin = (s : Table) (id other : ℕ) (me it : Token) → IsAt plan s id me → IsAt plan s other it → other ≢ id → (own me).number ≡ 0
      → Becomes s (after_join s id me.0 other it.0) (own me).number (Join (own it).number) × May s (own me).number (Join (own it).number)

-- ---- the seats that contracts see

-- what contracts say of a seat is what the steps say of its view: a new worker of its own, a split, and a join with a seat that was not taken in
abbrev pub SeatsAreViews : Type 0
SeatsAreViews = (id : TableId) (v w : View) (u : Worker) → w.all ≡ own_of w.all ∷ kept_of w.all
    → (seat_of id (with_own v u) ≡ with_worker (seat_of id v) u)
    × (seat_of id (split_first v) ≡ record (seat_of id v) { made = suc v.made })
    × (seat_of id (split_new v) ≡ new_seat (seat_of id v))
    × (seat_of id (join_first v w) ≡ record (seat_of id v) { own = joined (kept_of v.all) (own_of v.all) (own_of w.all); kept = kept_of v.all ++ own_of w.all ∷ kept_of w.all })

-- ---- the start, and the closed log

-- a board at its start
abbrev pub first_table : Plan → Table
first_table plan = opening (first_words plan) [] (first_view plan)

-- its machine is the one at the start, and its first seat stands there
abbrev pub StartIsRead : Type 0
StartIsRead = (p : Product) (gens : List Vector) (plan : Plan) → IsPlan plan → (machine_in p gens plan (first_table plan) ≡ start) × IsAt plan (first_table plan) 0 (first_view plan, [])

-- the machine of a closed log with these workers is the one read of that log and of the workers, the first live and the others taken in; busy and idle apart, and with the workers by their numbers
pub record IsReadAs (made read_of : Machine) (ws : List Worker) : Type 0 where
  pub rows : made.rows ≡ read_of.rows
  pub origins : made.origins ≡ read_of.origins
  pub claims : made.claims ≡ read_of.claims
  pub halted : made.halted ≡ read_of.halted
  pub count : length made.workers ≡ length read_of.workers
  pub each : (i : ℕ) (w : Worker) → slice_get ws i ≡ Some w → slice_get (map plain made.workers) i ≡ slice_get read_of.workers w.number

-- the machine that gathered harvests make is read of the closed log and of the workers as they were handed in
abbrev pub GatheredIsRead : Type 0
GatheredIsRead = (p : Product) (gens : List Vector) (plan : Plan) (home : Home) (hs : List Harvest) (log : LogView) → AreSeats home hs → Rule plan log.records log.claims log.halted (map worker_of hs)
    → IsReadAs (machine_of p gens log (map worker_of hs)) (machine_from p gens log.records log.claims log.halted (read_all (map worker_of hs))) (map worker_of hs)
