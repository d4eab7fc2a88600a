-- What the parse of a command line does at each word, for a command whose options each take one value.
use Rattle.std.proofs.Common.{◌≡◌, ◌∙◌, ℕ, suc, ◌+◌, ◌==◌, Bool, true, false, List, [], ◌∷◌, ◌++◌, Option, Some, None, refl, sym, ap, ap₂, subst, arith, append-nil}
use Rattle.std.specs.Prelude.{fold, slice_get}
use Rattle.std.specs.List.{list_any, position_or_len}
use Rattle.std.specs.Str.{bytes_eq, chars}
use Rattle.std.proofs.lemmas.Slice.Eq.{bytes_eq-Decides}
use Rattle.std.proofs.lemmas.Bool.{eqb-true, or_parts}
use Rattle.clap.specs.Lexer.{long_of, short_of, name_and_value}
use Rattle.clap.specs.Kinds.{Kinds, or_else}
use Rattle.clap.specs.Walk.{Row, Rule, Text, Waiting, Walk, idle, option, arg_by_id, arg_by_long, has_row, at_row, more_values, reading_by, settled_rows, used, walked, bundle_met}
use Rattle.clap.specs.Simple.{Shape, built}
use Rattle.clap.specs.Faults.{flags_fault, react_fault, settle_fault, turn_fault, use_fault, walk_fault}
use Rattle.clap.specs.declared.builder.action.ArgAction.TheVariants.{Set}
use Rattle.clap.specs.declared.builder.value_parser.ValueParser.TheVariants as vp
use Rattle.clap.specs.declared.parser.matches.ValueSource.TheVariants.{CommandLine}
use Rattle.ua_options.specs.Words.{OptionName, Workers, Budget, Jobs, Generate, name_text}
use Rattle.ua_options.specs.inner.Options.{bare_app, option_rule, options_app}

-- the command, as it is built
abbrev pub rule : OptionName → Rule
rule n = record (option_rule (name_text n)) { action = Some Set; parser = Some vp.String; range = Some (record { start_inclusive = 1; end_inclusive = 1 }) }

abbrev pub rules : List Rule
rules = rule Workers ∷ rule Budget ∷ rule Jobs ∷ rule Generate ∷ []

abbrev pub shape : Shape
shape = record bare_app.top { rules = rules; is_built = true; disable_help_subcommand = true }

is_built : built options_app ≡ record { top = shape; subs = [] }
is_built = refl

-- ---- rows

abbrev pub row : OptionName → Text → Row
row n v = record { id = name_text n; values = v ∷ []; count = None; source = Some CommandLine; reading = reading_by (rule n) }

-- a row of a new id comes last
at_row_none : (id : Text) (change : Row → List Row) (missing rows : List Row) → has_row id rows ≡ false → at_row id change missing rows ≡ rows ++ missing
at_row_none id change missing [] e = refl
at_row_none id change missing (r ∷ rows) e =
    let p = or_parts (bytes_eq r.id id) (has_row id rows) e in
    rw p.0 (ap (λ rs. r ∷ rs) (at_row_none id change missing rows p.1))

pub used_rows : (n : OptionName) (v : Text) (rows : List Row) → has_row (name_text n) rows ≡ false → used (rule n) (v ∷ []) rows ≡ rows ++ row n v ∷ []
used_rows n v rows none =
    let id = name_text n in
    let kept : at_row id (λ _. []) [] rows ≡ rows = at_row_none id (λ _. []) [] rows none ∙ append-nil rows in
    rw kept (at_row_none id (more_values CommandLine (v ∷ [])) (row n v ∷ []) rows none)

-- ---- faults

pub or_empty : (a b : Kinds) → or_else a b ≡ [] → (a ≡ []) × (b ≡ [])
or_empty [] b e = (refl, e)
or_empty (k ∷ a) b e = cc

pub use_clean : (n : OptionName) (v : Text) (rows : List Row) → has_row (name_text n) rows ≡ false → use_fault false (rule n) (v ∷ []) rows ≡ []
use_clean n v rows none = rw none refl

pub use_once : (n : OptionName) (v : Text) (rows : List Row) → use_fault false (rule n) (v ∷ []) rows ≡ [] → has_row (name_text n) rows ≡ false
use_once n v rows e = go (has_row (name_text n) rows) refl
  where
    go : (b : Bool) → has_row (name_text n) rows ≡ b → has_row (name_text n) rows ≡ false
    go false h = h
    go true h = let bad = rw h at e in cc

-- ---- words

-- what a word of an option is made of
abbrev pub tail_text : Option Text → Text
tail_text None = []
tail_text (Some v) = 61 ∷ v

parts : (xs : Text) → xs ≡ (name_and_value xs).0 ++ tail_text (name_and_value xs).1
parts [] = refl
parts (x ∷ xs) = go (x == 61) refl (parts xs)
  where
    one : (k : ℕ) → 1 + k ≡ suc k
    one k = omega arith

    more : (k : ℕ) → suc k + 1 ≡ suc (k + 1)
    more k = omega arith

    go : (b : Bool) → (x == 61) ≡ b → xs ≡ (name_and_value xs).0 ++ tail_text (name_and_value xs).1
        → x ∷ xs ≡ (name_and_value (x ∷ xs)).0 ++ tail_text (name_and_value (x ∷ xs)).1
    go true e rest = rw e (ap (λ y. y ∷ xs) (eqb-true x 61 e))
    go false e rest = let k = position_or_len (λ (y : ℕ). y == 61) xs in rw (e, one k, more k) (ap (λ ys. x ∷ ys) rest)

pub long_parts : (word name : Text) (v : Option Text) → long_of word ≡ Some (name, v) → word ≡ 45 ∷ 45 ∷ (name ++ tail_text v)
long_parts [] name v e = cc
long_parts (a ∷ []) name v e = first (a == 45) refl
  where
    first : (b : Bool) → (a == 45) ≡ b → a ∷ [] ≡ 45 ∷ 45 ∷ (name ++ tail_text v)
    first true h = let bad = rw h at e in cc
    first false h = let bad = rw h at e in cc
long_parts (a ∷ b ∷ []) name v e = first (a == 45) refl (b == 45) refl
  where
    first : (c : Bool) → (a == 45) ≡ c → (d : Bool) → (b == 45) ≡ d → a ∷ b ∷ [] ≡ 45 ∷ 45 ∷ (name ++ tail_text v)
    first true h true k = let bad = rw (h, k) at e in cc
    first true h false k = let bad = rw (h, k) at e in cc
    first false h d k = let bad = rw h at e in cc
long_parts (a ∷ b ∷ x ∷ xs) name v e = first (a == 45) refl (b == 45) refl
  where
    first : (c : Bool) → (a == 45) ≡ c → (d : Bool) → (b == 45) ≡ d → a ∷ b ∷ x ∷ xs ≡ 45 ∷ 45 ∷ (name ++ tail_text v)
    first true h true k =
        let same : Some (name_and_value (x ∷ xs)) ≡ Some (name, v) = rw (h, k) at e in
        let is : name_and_value (x ∷ xs) ≡ (name, v) = cc in
        let dash : a ≡ 45 = eqb-true a 45 h in
        let other : b ≡ 45 = eqb-true b 45 k in
        rw (dash, other) (ap (λ ys. 45 ∷ 45 ∷ ys) (parts (x ∷ xs) ∙ ap (λ (p : Text × Option Text). p.0 ++ tail_text p.1) is))
    first true h false k = let bad = rw (h, k) at e in cc
    first false h d k = let bad = rw h at e in cc

-- ---- the walk

abbrev pub at : List Row → Option (Text × List Text) → Waiting → Walk
at rows p waiting = record { held = record { rows = rows; pending = p; skip = 0 }; waiting = waiting; position = 1; is_trailing = false; stopped = None }

-- no option waits for its value
abbrev pub between : List Row → Walk
between rows = at rows None idle

-- the option waits for its value
abbrev pub asked : List Row → OptionName → Walk
asked rows n = at rows (Some (name_text n, [])) (option (name_text n))

-- the option has its value, which the parse has not taken in yet
abbrev pub answered : List Row → OptionName → Text → Walk
answered rows n v = at rows (Some (name_text n, v ∷ [])) idle

-- the walk over the words passes, and leaves these rows
pub record Ends (w : Walk) (words : List Text) (rows : List Row) : Type 0 where
  pub passes : walk_fault shape [] w words ≡ []
  pub settles : settle_fault rules false (fold (walked rules []) w words).held ≡ []
  pub rows_are : settled_rows rules (fold (walked rules []) w words).held.pending (fold (walked rules []) w words).held.rows ≡ rows

pub ends_first : (w : Walk) (word : Text) (words : List Text) (rows : List Row) → Ends w (word ∷ words) rows
    → (turn_fault shape [] w word ≡ []) × Ends (walked rules [] w word) words rows
unfolding walk_fault
ends_first w word words rows e =
    let p = or_empty (turn_fault shape [] w word) (walk_fault shape [] (walked rules [] w word) words) e.passes in
    (p.0, record { passes = p.1; settles = e.settles; rows_are = e.rows_are })

pub ends_next : (w after : Walk) (word : Text) (words : List Text) (rows : List Row) → turn_fault shape [] w word ≡ [] → walked rules [] w word ≡ after
    → Ends after words rows → Ends w (word ∷ words) rows
unfolding walk_fault
ends_next w after word words rows turn is e =
    let here : Ends (walked rules [] w word) words rows = subst (λ (v : Walk). Ends v words rows) (sym is) e in
    record { passes = rw turn here.passes; settles = here.settles; rows_are = here.rows_are }

abbrev pub two_dashes : Text
two_dashes = 45 ∷ 45 ∷ []

-- the word names an option, with a value or without
pub record Flag (word : Text) : Type 0 where
  pub name : OptionName
  pub value : Option Text
  pub long : long_of word ≡ Some (name_text name, value)

found : (n : OptionName) → arg_by_long rules (name_text n) ≡ Some (rule n)
found Workers = refl
found Budget = refl
found Jobs = refl
found Generate = refl

by_id : (n : OptionName) → arg_by_id rules (name_text n) ≡ Some (rule n)
by_id Workers = refl
by_id Budget = refl
by_id Jobs = refl
by_id Generate = refl

same_text : (n : OptionName) → bytes_eq (name_text n) (name_text n) ≡ true
same_text Workers = refl
same_text Budget = refl
same_text Jobs = refl
same_text Generate = refl

-- what a flag does where no option waits
pub joined_turn : (rows : List Row) (p : Option (Text × List Text)) (word : Text) (n : OptionName) (v : Text) → bytes_eq word two_dashes ≡ false → long_of word ≡ Some (name_text n, Some v)
    → (turn_fault shape [] (at rows p idle) word ≡ or_else (react_fault rules false (rule n) (v ∷ []) (at rows p idle).held) [])
    × (walked rules [] (at rows p idle) word ≡ between (used (rule n) (v ∷ []) (settled_rows rules p rows)))
unfolding walked
joined_turn rows p word n v plain long = (rw (plain, long, found n) refl, rw (plain, long, found n) refl)

pub split_turn : (rows : List Row) (p : Option (Text × List Text)) (word : Text) (n : OptionName) → bytes_eq word two_dashes ≡ false → long_of word ≡ Some (name_text n, None)
    → (turn_fault shape [] (at rows p idle) word ≡ or_else (settle_fault rules false (at rows p idle).held) [])
    × (walked rules [] (at rows p idle) word ≡ asked (settled_rows rules p rows) n)
unfolding walked
split_turn rows p word n plain long = (rw (plain, long, found n) refl, rw (plain, long, found n) refl)

-- where no option waits, a word that is not refused names an option
pub flag_of : (rows : List Row) (p : Option (Text × List Text)) (word : Text) → bytes_eq word two_dashes ≡ false → turn_fault shape [] (at rows p idle) word ≡ [] → Flag word
unfolding flags_fault bundle_met
flag_of rows p word plain clean = by_long (long_of word) refl
  where
    at_name : (name : Text) (v : Option Text) → long_of word ≡ Some (name, v) → (b : Bool) → bytes_eq (name_text Workers) name ≡ b → (d : Bool) → bytes_eq (name_text Budget) name ≡ d
        → (j : Bool) → bytes_eq (name_text Jobs) name ≡ j → (e : Bool) → bytes_eq (name_text Generate) name ≡ e → Flag word
    at_name name v long true is d other j third e another = record { name = Workers; value = v; long = long ∙ ap (λ (t : Text). Some (t, v)) (sym ((bytes_eq-Decides (name_text Workers) name).0 is)) }
    at_name name v long false not_first true is j third e another = record { name = Budget; value = v; long = long ∙ ap (λ (t : Text). Some (t, v)) (sym ((bytes_eq-Decides (name_text Budget) name).0 is)) }
    at_name name v long false not_first false not_second true is e another = record { name = Jobs; value = v; long = long ∙ ap (λ (t : Text). Some (t, v)) (sym ((bytes_eq-Decides (name_text Jobs) name).0 is)) }
    at_name name v long false not_first false not_second false not_third true is = record { name = Generate; value = v; long = long ∙ ap (λ (t : Text). Some (t, v)) (sym ((bytes_eq-Decides (name_text Generate) name).0 is)) }
    at_name name v long false not_first false not_second false not_third false not_fourth = let bad = rw (plain, long, not_first, not_second, not_third, not_fourth) at clean in cc

    by_char : (flags : Text) → long_of word ≡ None → short_of word ≡ Some flags → (o : Option ℕ) → slice_get (chars flags) 0 ≡ o → Flag word
    by_char [] long short o first = let bad = rw (plain, long, short) at clean in cc
    by_char (x ∷ xs) long short None first = let bad = rw (plain, long, short, first) at clean in cc
    by_char (x ∷ xs) long short (Some c) first = let bad = rw (plain, long, short, first) at clean in cc

    by_short : long_of word ≡ None → (o : Option Text) → short_of word ≡ o → Flag word
    by_short long None short = let bad = rw (plain, long, short) at clean in cc
    by_short long (Some flags) short = by_char flags long short (slice_get (chars flags) 0) refl

    by_long : (o : Option (Text × Option Text)) → long_of word ≡ o → Flag word
    by_long None long = by_short long (short_of word) refl
    by_long (Some q) long =
        at_name q.0 q.1 long (bytes_eq (name_text Workers) q.0) refl (bytes_eq (name_text Budget) q.0) refl (bytes_eq (name_text Jobs) q.0) refl (bytes_eq (name_text Generate) q.0) refl

-- no word is `--`
abbrev pub HaveNoDashes : List Text → Type 0
HaveNoDashes words = list_any (λ word. bytes_eq word two_dashes) words ≡ false

pub dashless : (word : Text) (words : List Text) → HaveNoDashes (word ∷ words) → (bytes_eq word two_dashes ≡ false) × HaveNoDashes words
dashless word words none = or_parts (bytes_eq word two_dashes) (list_any (λ word. bytes_eq word two_dashes) words) none

-- a value that the parse has not taken in yet may as well be taken in
pub idle_ends : (rows : List Row) (p : Option (Text × List Text)) (words : List Text) (out : List Row) → HaveNoDashes words → Ends (at rows p idle) words out
    → (settle_fault rules false (at rows p idle).held ≡ []) × Ends (between (settled_rows rules p rows)) words out
unfolding walk_fault
idle_ends rows p [] out none e = (e.settles, record { passes = refl; settles = refl; rows_are = e.rows_are })
idle_ends rows p (word ∷ words) out none e =
    let d = dashless word words none in
    let first = ends_first (at rows p idle) word words out e in
    let flag = flag_of rows p word d.0 first.0 in
    by_value flag.name flag.value flag.long d.0 first
  where
    by_value : (n : OptionName) (value : Option Text) → long_of word ≡ Some (name_text n, value) → bytes_eq word two_dashes ≡ false
        → (turn_fault shape [] (at rows p idle) word ≡ []) × Ends (walked rules [] (at rows p idle) word) words out
        → (settle_fault rules false (at rows p idle).held ≡ []) × Ends (between (settled_rows rules p rows)) (word ∷ words) out
    by_value n (Some v) long plain first =
        let here = joined_turn rows p word n v plain long in
        let there = joined_turn (settled_rows rules p rows) None word n v plain long in
        let react = or_empty (react_fault rules false (rule n) (v ∷ []) (at rows p idle).held) [] (sym here.0 ∙ first.0) in
        let both = or_empty (settle_fault rules false (at rows p idle).held) (use_fault false (rule n) (v ∷ []) (settled_rows rules p rows)) react.0 in
        let rest : Ends (between (used (rule n) (v ∷ []) (settled_rows rules p rows))) words out = subst (λ (w : Walk). Ends w words out) here.1 first.1 in
        (both.0, ends_next (between (settled_rows rules p rows)) (between (used (rule n) (v ∷ []) (settled_rows rules p rows))) word words out (there.0 ∙ ap (λ (k : Kinds). or_else k []) both.1) there.1 rest)
    by_value n None long plain first =
        let here = split_turn rows p word n plain long in
        let there = split_turn (settled_rows rules p rows) None word n plain long in
        let settle = or_empty (settle_fault rules false (at rows p idle).held) [] (sym here.0 ∙ first.0) in
        let rest : Ends (asked (settled_rows rules p rows) n) words out = subst (λ (w : Walk). Ends w words out) here.1 first.1 in
        (settle.0, ends_next (between (settled_rows rules p rows)) (asked (settled_rows rules p rows) n) word words out there.0 there.1 rest)

pub idle_begins : (rows : List Row) (p : Option (Text × List Text)) (words : List Text) (out : List Row) → HaveNoDashes words → settle_fault rules false (at rows p idle).held ≡ []
    → Ends (between (settled_rows rules p rows)) words out → Ends (at rows p idle) words out
unfolding walk_fault
idle_begins rows p [] out none clean e = record { passes = refl; settles = clean; rows_are = e.rows_are }
idle_begins rows p (word ∷ words) out none clean e =
    let d = dashless word words none in
    let first = ends_first (between (settled_rows rules p rows)) word words out e in
    let flag = flag_of (settled_rows rules p rows) None word d.0 first.0 in
    by_value flag.name flag.value flag.long d.0 first
  where
    by_value : (n : OptionName) (value : Option Text) → long_of word ≡ Some (name_text n, value) → bytes_eq word two_dashes ≡ false
        → (turn_fault shape [] (between (settled_rows rules p rows)) word ≡ []) × Ends (walked rules [] (between (settled_rows rules p rows)) word) words out
        → Ends (at rows p idle) (word ∷ words) out
    by_value n (Some v) long plain first =
        let here = joined_turn rows p word n v plain long in
        let there = joined_turn (settled_rows rules p rows) None word n v plain long in
        let react = or_empty (use_fault false (rule n) (v ∷ []) (settled_rows rules p rows)) [] (sym there.0 ∙ first.0) in
        let rest : Ends (between (used (rule n) (v ∷ []) (settled_rows rules p rows))) words out = subst (λ (w : Walk). Ends w words out) there.1 first.1 in
        let turn : turn_fault shape [] (at rows p idle) word ≡ [] = here.0 ∙ ap₂ (λ (k l : Kinds). or_else (or_else k l) []) clean react.0 in
        ends_next (at rows p idle) (between (used (rule n) (v ∷ []) (settled_rows rules p rows))) word words out turn here.1 rest
    by_value n None long plain first =
        let here = split_turn rows p word n plain long in
        let there = split_turn (settled_rows rules p rows) None word n plain long in
        let rest : Ends (asked (settled_rows rules p rows) n) words out = subst (λ (w : Walk). Ends w words out) there.1 first.1 in
        ends_next (at rows p idle) (asked (settled_rows rules p rows) n) word words out (here.0 ∙ ap (λ (k : Kinds). or_else k []) clean) here.1 rest

-- where an option waits, a word that is not refused is its value
pub asked_turn : (rows : List Row) (n : OptionName) (word : Text) → bytes_eq word two_dashes ≡ false → turn_fault shape [] (asked rows n) word ≡ []
    → walked rules [] (asked rows n) word ≡ answered rows n word
unfolding walked flags_fault bundle_met
asked_turn rows n word plain clean = by_long (long_of word) refl
  where
    at_name : (name : Text) (v : Option Text) → long_of word ≡ Some (name, v) → (b : Bool) → bytes_eq (name_text Workers) name ≡ b → (d : Bool) → bytes_eq (name_text Budget) name ≡ d
        → (j : Bool) → bytes_eq (name_text Jobs) name ≡ j → (e : Bool) → bytes_eq (name_text Generate) name ≡ e → walked rules [] (asked rows n) word ≡ answered rows n word
    at_name name None long true is d other j third e another = let bad = rw (plain, long, is, by_id n) at clean in cc
    at_name name (Some v) long true is d other j third e another = let bad = rw (plain, long, is, by_id n) at clean in cc
    at_name name None long false not_first true is j third e another = let bad = rw (plain, long, not_first, is, by_id n) at clean in cc
    at_name name (Some v) long false not_first true is j third e another = let bad = rw (plain, long, not_first, is, by_id n) at clean in cc
    at_name name None long false not_first false not_second true is e another = let bad = rw (plain, long, not_first, not_second, is, by_id n) at clean in cc
    at_name name (Some v) long false not_first false not_second true is e another = let bad = rw (plain, long, not_first, not_second, is, by_id n) at clean in cc
    at_name name None long false not_first false not_second false not_third true is = let bad = rw (plain, long, not_first, not_second, not_third, is, by_id n) at clean in cc
    at_name name (Some v) long false not_first false not_second false not_third true is = let bad = rw (plain, long, not_first, not_second, not_third, is, by_id n) at clean in cc
    at_name name v long false not_first false not_second false not_third false not_fourth = let bad = rw (plain, long, not_first, not_second, not_third, not_fourth) at clean in cc

    by_char : (flags : Text) → long_of word ≡ None → short_of word ≡ Some flags → (o : Option ℕ) → slice_get (chars flags) 0 ≡ o → walked rules [] (asked rows n) word ≡ answered rows n word
    by_char [] long short o first = rw (plain, long, short, by_id n, same_text n) refl
    by_char (x ∷ xs) long short None first = rw (plain, long, short, first, by_id n, same_text n) refl
    by_char (x ∷ xs) long short (Some c) first = let bad = rw (plain, long, short, first) at clean in cc

    by_short : long_of word ≡ None → (o : Option Text) → short_of word ≡ o → walked rules [] (asked rows n) word ≡ answered rows n word
    by_short long None short = rw (plain, long, short, by_id n, same_text n) refl
    by_short long (Some flags) short = by_char flags long short (slice_get (chars flags) 0) refl

    by_long : (o : Option (Text × Option Text)) → long_of word ≡ o → walked rules [] (asked rows n) word ≡ answered rows n word
    by_long None long = by_short long (short_of word) refl
    by_long (Some q) long =
        at_name q.0 q.1 long (bytes_eq (name_text Workers) q.0) refl (bytes_eq (name_text Budget) q.0) refl (bytes_eq (name_text Jobs) q.0) refl (bytes_eq (name_text Generate) q.0) refl

-- a text that does not begin with a hyphen is taken as the value
pub value_turn : (rows : List Row) (n : OptionName) (v : Text) → bytes_eq v two_dashes ≡ false → long_of v ≡ None → short_of v ≡ None
    → (turn_fault shape [] (asked rows n) v ≡ []) × (walked rules [] (asked rows n) v ≡ answered rows n v)
unfolding walked
value_turn rows n v plain long short = (rw (plain, long, short) refl, rw (plain, long, short, by_id n, same_text n) refl)

-- an option that waits is refused at the end of the words
pub asked_end : (rows : List Row) (n : OptionName) (out : List Row) → Ends (asked rows n) [] out → ⊥
asked_end rows n out e = let bad = rw (by_id n) at e.settles in cc

pub answered_settle : (rows : List Row) (n : OptionName) (v : Text) → settle_fault rules false (answered rows n v).held ≡ use_fault false (rule n) (v ∷ []) rows
answered_settle rows n v = rw (by_id n) refl

pub answered_rows : (rows : List Row) (n : OptionName) (v : Text) → settled_rows rules (Some (name_text n, v ∷ [])) rows ≡ used (rule n) (v ∷ []) rows
answered_rows rows n v = rw (by_id n) refl
