-- The words that a parse passes are those that give options, each at most once.
use Rattle.std.proofs.Common.{◌≡◌, ◌∙◌, ◌==◌, ◌||◌, Bool, true, false, List, [], ◌∷◌, ◌++◌, map, Option, Some, None, refl, sym, ap, ap₂, subst, append-nil, append_assoc}
use Rattle.std.specs.Prelude.{if◌then◌else◌, fold, is_some}
use Rattle.std.specs.List.{AllByRecursion, flat_map}
use Rattle.std.proofs.Math.Bool.{or-false}
use Rattle.std.proofs.lemmas.Bool.{or_from, or_left, or_right}
use Rattle.std.specs.Str.{bytes_eq}
use Rattle.clap.specs.Lexer.{long_of, short_of, strip_byte}
use Rattle.clap.specs.Kinds.{Kinds, or_else}
use Rattle.clap.specs.Walk.{Held, Row, Text, Walk, first_of, has_row, settled_rows, nothing_held, used, walk, walked, with_default}
use Rattle.clap.specs.Simple.{App, entered, is_simple, matches_of}
use Rattle.clap.specs.Faults.{default_fault, defaults_fault, entered_fault, fault_of, is_simple_and_free, level_fault, settle_fault, use_fault, walk_fault}
use Rattle.ua_options.specs.Words.{Give, OptionName, Workers, Budget, Jobs, Generate, name_text, same_name, Choice, choice_words, value_of, EachOnce}
use Rattle.ua_options.specs.inner.Options.{IsPlain, options_app}
use Rattle.ua_options.proofs.Walking.{Ends, Flag, HaveNoDashes, answered, answered_rows, answered_settle, asked, asked_end, asked_turn, between, dashless, ends_first, ends_next}
use Rattle.ua_options.proofs.Walking.{flag_of, idle_begins, idle_ends, joined_turn, long_parts, or_empty, row, rule, rules, shape, split_turn, two_dashes, use_clean, use_once}
use Rattle.ua_options.proofs.Walking.{used_rows, value_turn}

-- ---- choices as rows

abbrev pub row_of : Choice → Row
row_of c = row c.name c.value

-- no row has the name of a choice, where each is added in turn
abbrev pub Fresh : List Row → List Choice → Type 0
Fresh rows [] = Unit
Fresh rows (c ∷ choices) = (has_row (name_text c.name) rows ≡ false) × Fresh (rows ++ row_of c ∷ []) choices

test_is : (m n : OptionName) → bytes_eq (name_text n) (name_text m) ≡ same_name m n
test_is Workers Workers = refl
test_is Workers Budget = refl
test_is Workers Jobs = refl
test_is Workers Generate = refl
test_is Budget Workers = refl
test_is Budget Budget = refl
test_is Budget Jobs = refl
test_is Budget Generate = refl
test_is Jobs Workers = refl
test_is Jobs Budget = refl
test_is Jobs Jobs = refl
test_is Jobs Generate = refl
test_is Generate Workers = refl
test_is Generate Budget = refl
test_is Generate Jobs = refl
test_is Generate Generate = refl

same_itself : (n : OptionName) → same_name n n ≡ true
same_itself Workers = refl
same_itself Budget = refl
same_itself Jobs = refl
same_itself Generate = refl

same_is : (m n : OptionName) → same_name m n ≡ true → m ≡ n
same_is Workers Workers e = refl
same_is Workers Budget e = cc
same_is Workers Jobs e = cc
same_is Workers Generate e = cc
same_is Budget Workers e = cc
same_is Budget Budget e = refl
same_is Budget Jobs e = cc
same_is Budget Generate e = cc
same_is Jobs Workers e = cc
same_is Jobs Budget e = cc
same_is Jobs Jobs e = refl
same_is Jobs Generate e = cc
same_is Generate Workers e = cc
same_is Generate Budget e = cc
same_is Generate Jobs e = cc
same_is Generate Generate e = refl

row_added : (id : Text) (rows : List Row) (r : Row) → has_row id (rows ++ r ∷ []) ≡ (has_row id rows || bytes_eq r.id id)
row_added id [] r = or-false (bytes_eq r.id id)
row_added id (x ∷ rows) r = go (bytes_eq x.id id) (row_added id rows r)
  where
    go : (b : Bool) → has_row id (rows ++ r ∷ []) ≡ (has_row id rows || bytes_eq r.id id)
        → (b || has_row id (rows ++ r ∷ [])) ≡ ((b || has_row id rows) || bytes_eq r.id id)
    go true e = refl
    go false e = e

-- what is fresh is given once, and is not among the rows
once_of : (choices : List Choice) (rows : List Row) → Fresh rows choices → EachOnce choices × ((n : OptionName) → has_row (name_text n) rows ≡ true → value_of n choices ≡ None)
once_of [] rows fresh = (tt, λ n h. refl)
once_of (c ∷ choices) rows fresh =
    let rest = once_of choices (rows ++ row_of c ∷ []) fresh.1 in
    let own : has_row (name_text c.name) (rows ++ row_of c ∷ []) ≡ true =
    row_added (name_text c.name) rows (row_of c) ∙ or_right (has_row (name_text c.name) rows) _ (test_is c.name c.name ∙ same_itself c.name) in
    ((rest.1 c.name own, rest.0), λ n h. by_test n h (rest.1 n (row_added (name_text n) rows (row_of c) ∙ or_left _ _ h)) (same_name n c.name) refl)
  where
    by_test : (n : OptionName) → has_row (name_text n) rows ≡ true → value_of n choices ≡ None → (b : Bool) → same_name n c.name ≡ b → (if same_name n c.name then Some c.value else value_of n choices) ≡ None
    by_test n h none true is = let bad : has_row (name_text n) rows ≡ false = rw (same_is n c.name is) fresh.0 in cc
    by_test n h none false is = rw is none

-- and what is given once, and is not among the rows, is fresh
fresh_of : (choices : List Choice) (rows : List Row) → EachOnce choices → ((n : OptionName) (v : Text) → value_of n choices ≡ Some v → has_row (name_text n) rows ≡ false) → Fresh rows choices
fresh_of [] rows once none = tt
fresh_of (c ∷ choices) rows once none =
    let own : value_of c.name (c ∷ choices) ≡ Some c.value = rw (same_itself c.name) refl in
    (none c.name c.value own, fresh_of choices (rows ++ row_of c ∷ []) once.1 (λ n v is. row_added (name_text n) rows (row_of c) ∙ by_test n v is (same_name n c.name) refl))
  where
    by_test : (n : OptionName) (v : Text) → value_of n choices ≡ Some v → (b : Bool) → same_name n c.name ≡ b → (has_row (name_text n) rows || bytes_eq (name_text c.name) (name_text n)) ≡ false
    by_test n v is true same =
        let bad : value_of n choices ≡ None = rw (same_is n c.name same) once.0 in cc
    by_test n v is false other =
        let later : value_of n (c ∷ choices) ≡ Some v = rw other is in
        or_from _ _ (none n v later) (test_is n c.name ∙ other)

-- the first value of a name among the rows is the value of the option
pub first_is : (n : OptionName) (choices : List Choice) → first_of (name_text n) (map row_of choices) ≡ value_of n choices
first_is n [] = refl
first_is n (c ∷ choices) = by_test (same_name n c.name) refl (first_is n choices)
  where
    by_test : (b : Bool) → same_name n c.name ≡ b → first_of (name_text n) (map row_of choices) ≡ value_of n choices
        → first_of (name_text n) (map row_of (c ∷ choices)) ≡ (if same_name n c.name then Some c.value else value_of n choices)
    by_test true is rest = rw (test_is n c.name, is) refl
    by_test false is rest = rw (test_is n c.name, is) rest

-- ---- what passes gives options

record Read (rows : List Row) (words : List Text) (out : List Row) : Type 0 where
  choices : List Choice
  words_are : words ≡ flat_map choice_words choices
  fresh : Fresh rows choices
  rows_are : out ≡ rows ++ map row_of choices

-- one option more, whose words come first
read_more : (rows : List Row) (c : Choice) (words rest : List Text) (out : List Row) → words ≡ choice_words c ++ rest → has_row (name_text c.name) rows ≡ false
    → Read (rows ++ row_of c ∷ []) rest out → Read rows words out
read_more rows c words rest out are new r = record {
  choices = c ∷ r.choices;
  words_are = are ∙ ap (λ ws. choice_words c ++ ws) r.words_are;
  fresh = (new, r.fresh);
  rows_are = r.rows_are ∙ append_assoc rows (row_of c ∷ []) (map row_of r.choices);
}

abbrev joined_choice : OptionName → Text → Choice
joined_choice n v = record { name = n; value = v; in_one_word = true }

abbrev split_choice : OptionName → Text → Choice
split_choice n v = record { name = n; value = v; in_one_word = false }

-- the option of this name and value was taken in
taken : (rows : List Row) (n : OptionName) (v : Text) (words : List Text) (out : List Row) → use_fault false (rule n) (v ∷ []) rows ≡ []
    → Ends (between (used (rule n) (v ∷ []) rows)) words out → (has_row (name_text n) rows ≡ false) × Ends (between (rows ++ row n v ∷ [])) words out
taken rows n v words out clean e =
    let new = use_once n v rows clean in
    (new, subst (λ (rs : List Row). Ends (between rs) words out) (used_rows n v rows new) e)

joined_read : (rows : List Row) (word : Text) (words : List Text) (out : List Row) (n : OptionName) (v : Text) → HaveNoDashes (word ∷ words) → long_of word ≡ Some (name_text n, Some v)
    → Ends (between rows) (word ∷ words) out → (has_row (name_text n) rows ≡ false) × Ends (between (rows ++ row n v ∷ [])) words out
joined_read rows word words out n v none long e =
    let first = ends_first (between rows) word words out e in
    let turn = joined_turn rows None word n v (dashless word words none).0 long in
    let clean = or_empty (use_fault false (rule n) (v ∷ []) rows) [] (sym turn.0 ∙ first.0) in
    taken rows n v words out clean.0 (subst (λ (w : Walk). Ends w words out) turn.1 first.1)

split_read : (rows : List Row) (word v : Text) (words : List Text) (out : List Row) (n : OptionName) → HaveNoDashes (word ∷ v ∷ words) → long_of word ≡ Some (name_text n, None)
    → Ends (between rows) (word ∷ v ∷ words) out → (has_row (name_text n) rows ≡ false) × Ends (between (rows ++ row n v ∷ [])) words out
split_read rows word v words out n none long e =
    let first = ends_first (between rows) word (v ∷ words) out e in
    let d = dashless word (v ∷ words) none in
    let more = dashless v words d.1 in
    let turn = split_turn rows None word n d.0 long in
    let waits : Ends (asked rows n) (v ∷ words) out = subst (λ (w : Walk). Ends w (v ∷ words) out) turn.1 first.1 in
    let second = ends_first (asked rows n) v words out waits in
    let has : Ends (answered rows n v) words out = subst (λ (w : Walk). Ends w words out) (asked_turn rows n v more.0 second.0) second.1 in
    let settled = idle_ends rows (Some (name_text n, v ∷ [])) words out more.1 has in
    taken rows n v words out (sym (answered_settle rows n v) ∙ settled.0) (subst (λ (rs : List Row). Ends (between rs) words out) (answered_rows rows n v) settled.1)

alone_refused : (rows : List Row) (word : Text) (out : List Row) (n : OptionName) → HaveNoDashes (word ∷ []) → long_of word ≡ Some (name_text n, None) → Ends (between rows) (word ∷ []) out → ⊥
alone_refused rows word out n none long e =
    let first = ends_first (between rows) word [] out e in
    let turn = split_turn rows None word n (dashless word [] none).0 long in
    asked_end rows n out (subst (λ (w : Walk). Ends w [] out) turn.1 first.1)

flag_here : (rows : List Row) (word : Text) (words : List Text) (out : List Row) → HaveNoDashes (word ∷ words) → Ends (between rows) (word ∷ words) out → Flag word
flag_here rows word words out none e = flag_of rows None word (dashless word words none).0 (ends_first (between rows) word words out e).0

read : (words : List Text) (rows out : List Row) → HaveNoDashes words → Ends (between rows) words out → Read rows words out
read [] rows out none e = record { choices = []; words_are = refl; fresh = tt; rows_are = sym e.rows_are ∙ sym (append-nil rows) }
read (word ∷ []) rows out none e = let f = flag_here rows word [] out none e in by_value f.name f.value f.long
  where
    by_value : (n : OptionName) (value : Option Text) → long_of word ≡ Some (name_text n, value) → Read rows (word ∷ []) out
    by_value n (Some v) long =
        let t = joined_read rows word [] out n v none long e in
        read_more rows (joined_choice n v) (word ∷ []) [] out (ap (λ w. w ∷ []) (long_parts word (name_text n) (Some v) long)) t.0
        (record { choices = []; words_are = refl; fresh = tt; rows_are = sym t.1.rows_are ∙ sym (append-nil (rows ++ row n v ∷ [])) })
    by_value n None long = absurd (alone_refused rows word out n none long e)
read (word ∷ v ∷ words) rows out none e =
    let f = flag_here rows word (v ∷ words) out none e in
    by_value f.name f.value f.long (read (v ∷ words)) (read words)
  where
    by_value : (n : OptionName) (value : Option Text) → long_of word ≡ Some (name_text n, value)
        → ((rs os : List Row) → HaveNoDashes (v ∷ words) → Ends (between rs) (v ∷ words) os → Read rs (v ∷ words) os)
        → ((rs os : List Row) → HaveNoDashes words → Ends (between rs) words os → Read rs words os) → Read rows (word ∷ v ∷ words) out
    by_value n (Some t) long one two =
        let d = dashless word (v ∷ words) none in
        let here = joined_read rows word (v ∷ words) out n t none long e in
        read_more rows (joined_choice n t) (word ∷ v ∷ words) (v ∷ words) out (ap (λ w. w ∷ v ∷ words) (long_parts word (name_text n) (Some t) long)) here.0
        (one (rows ++ row n t ∷ []) out d.1 here.1)
    by_value n None long one two =
        let d = dashless word (v ∷ words) none in
        let here = split_read rows word v words out n none long e in
        read_more rows (split_choice n v) (word ∷ v ∷ words) words out
        (ap (λ w. w ∷ v ∷ words) (long_parts word (name_text n) None long ∙ ap (λ t. 45 ∷ 45 ∷ t) (append-nil (name_text n)))) here.0
        (two (rows ++ row n v ∷ []) out (dashless v words d.1).1 here.1)

-- ---- what gives options passes

plain_dashless : (v : Text) → strip_byte 45 v ≡ None → bytes_eq v two_dashes ≡ false
plain_dashless [] e = refl
plain_dashless (x ∷ v) e = go (x == 45) refl
  where
    go : (b : Bool) → (x == 45) ≡ b → bytes_eq (x ∷ v) two_dashes ≡ false
    go true h = let bad = rw h at e in cc
    go false h = rw h refl

plain_long : (v : Text) → strip_byte 45 v ≡ None → long_of v ≡ None
plain_long v e = rw e refl

plain_short : (v : Text) → strip_byte 45 v ≡ None → short_of v ≡ None
plain_short v e = rw e refl

joined_word : OptionName → Text → Text
joined_word n v = 45 ∷ 45 ∷ (name_text n ++ 61 ∷ v)

joined_long : (n : OptionName) (v : Text) → long_of (joined_word n v) ≡ Some (name_text n, Some v)
unfolding joined_word
joined_long Workers v = refl
joined_long Budget v = refl
joined_long Jobs v = refl
joined_long Generate v = refl

joined_dashless : (n : OptionName) (v : Text) → bytes_eq (joined_word n v) two_dashes ≡ false
unfolding joined_word
joined_dashless Workers v = refl
joined_dashless Budget v = refl
joined_dashless Jobs v = refl
joined_dashless Generate v = refl

split_word : OptionName → Text
split_word n = 45 ∷ 45 ∷ name_text n

split_long : (n : OptionName) → long_of (split_word n) ≡ Some (name_text n, None)
unfolding split_word
split_long Workers = refl
split_long Budget = refl
split_long Jobs = refl
split_long Generate = refl

split_dashless : (n : OptionName) → bytes_eq (split_word n) two_dashes ≡ false
unfolding split_word
split_dashless Workers = refl
split_dashless Budget = refl
split_dashless Jobs = refl
split_dashless Generate = refl

-- the words of a choice
by_word : (P : List Text → Type 0) (c : Choice) → (c.in_one_word ≡ true → P (joined_word c.name c.value ∷ [])) → (c.in_one_word ≡ false → P (split_word c.name ∷ c.value ∷ [])) → P (choice_words c)
unfolding joined_word split_word
by_word P c one two = go c.in_one_word refl
  where
    go : (b : Bool) → c.in_one_word ≡ b → P (choice_words c)
    go true e = rw e (one e)
    go false e = rw e (two e)

pub dashless_words : (choices : List Choice) → AllByRecursion IsPlain choices → HaveNoDashes (flat_map choice_words choices)
dashless_words [] plain = refl
dashless_words (c ∷ choices) plain =
    let rest = dashless_words choices plain.1 in
    by_word (λ ws. HaveNoDashes (ws ++ flat_map choice_words choices)) c
    (λ e. rw (joined_dashless c.name c.value) rest) (λ e. rw (split_dashless c.name, plain_dashless c.value plain.0) rest)

joined_given : (rows : List Row) (n : OptionName) (v : Text) (words : List Text) (out : List Row) → has_row (name_text n) rows ≡ false
    → Ends (between (rows ++ row n v ∷ [])) words out → Ends (between rows) (joined_word n v ∷ words) out
joined_given rows n v words out new e =
    let turn = joined_turn rows None (joined_word n v) n v (joined_dashless n v) (joined_long n v) in
    let after : walked rules [] (between rows) (joined_word n v) ≡ between (rows ++ row n v ∷ []) = turn.1 ∙ ap between (used_rows n v rows new) in
    ends_next (between rows) (between (rows ++ row n v ∷ [])) (joined_word n v) words out (turn.0 ∙ ap (λ (k : Kinds). or_else k []) (use_clean n v rows new)) after e

split_given : (rows : List Row) (n : OptionName) (v : Text) (words : List Text) (out : List Row) → has_row (name_text n) rows ≡ false → strip_byte 45 v ≡ None → HaveNoDashes words
    → Ends (between (rows ++ row n v ∷ [])) words out → Ends (between rows) (split_word n ∷ v ∷ words) out
split_given rows n v words out new plain none e =
    let turn = split_turn rows None (split_word n) n (split_dashless n) (split_long n) in
    let value = value_turn rows n v (plain_dashless v plain) (plain_long v plain) (plain_short v plain) in
    let same : settled_rows rules (Some (name_text n, v ∷ [])) rows ≡ rows ++ row n v ∷ [] = answered_rows rows n v ∙ used_rows n v rows new in
    let has = idle_begins rows (Some (name_text n, v ∷ [])) words out none (answered_settle rows n v ∙ use_clean n v rows new) (subst (λ (rs : List Row). Ends (between rs) words out) (sym same) e) in
    ends_next (between rows) (asked rows n) (split_word n) (v ∷ words) out turn.0 turn.1
    (ends_next (asked rows n) (answered rows n v) v words out value.0 value.1 has)

given : (choices : List Choice) (rows : List Row) → Fresh rows choices → AllByRecursion IsPlain choices → Ends (between rows) (flat_map choice_words choices) (rows ++ map row_of choices)
unfolding walk_fault
given [] rows fresh plain = record { passes = refl; settles = refl; rows_are = sym (append-nil rows) }
given (c ∷ choices) rows fresh plain =
    let rest = subst (λ (rs : List Row). Ends (between (rows ++ row_of c ∷ [])) (flat_map choice_words choices) rs) (append_assoc rows (row_of c ∷ []) (map row_of choices))
    (given choices (rows ++ row_of c ∷ []) fresh.1 plain.1) in
    by_word (λ ws. Ends (between rows) (ws ++ flat_map choice_words choices) (rows ++ map row_of (c ∷ choices))) c
    (λ e. joined_given rows c.name c.value (flat_map choice_words choices) (rows ++ map row_of (c ∷ choices)) fresh.0 rest)
    (λ e. split_given rows c.name c.value (flat_map choice_words choices) (rows ++ map row_of (c ∷ choices)) fresh.0 plain.0 (dashless_words choices plain.1) rest)

-- ---- the whole parse

default_is : (n : OptionName) (rows : List Row) → with_default rows (rule n) ≡ rows
default_is n rows = go (has_row (name_text n) rows) refl
  where
    go : (b : Bool) → has_row (name_text n) rows ≡ b → with_default rows (rule n) ≡ rows
    go true e = rw e refl
    go false e = rw e refl

no_default_fault : (n : OptionName) (rows : List Row) → default_fault rows (rule n) ≡ []
no_default_fault n rows = go (has_row (name_text n) rows) refl
  where
    go : (b : Bool) → has_row (name_text n) rows ≡ b → default_fault rows (rule n) ≡ []
    go true e = rw e refl
    go false e = rw e refl

abbrev end_of : List Text → Held
end_of words = (fold (walked rules []) (between []) words).held

matches_are : (words : List Text) → matches_of options_app words ≡ settled_rows rules (end_of words).pending (end_of words).rows
matches_are words =
    let rows = settled_rows rules (end_of words).pending (end_of words).rows in
    ap (λ rs. with_default (with_default (with_default rs (rule Budget)) (rule Jobs)) (rule Generate)) (default_is Workers rows)
    ∙ ap (λ rs. with_default (with_default rs (rule Jobs)) (rule Generate)) (default_is Budget rows) ∙ ap (λ rs. with_default rs (rule Generate)) (default_is Jobs rows) ∙ default_is Generate rows

or_none : (k : Kinds) → or_else k [] ≡ k
or_none [] = refl
or_none (x ∷ k) = refl

no_defaults : (rows : List Row) → defaults_fault rows rules ≡ []
unfolding defaults_fault
no_defaults rows =
    let first = with_default rows (rule Workers) in
    let second = with_default first (rule Budget) in
    rw (no_default_fault Workers rows, no_default_fault Budget first, no_default_fault Jobs second, no_default_fault Generate (with_default second (rule Jobs))) refl

abbrev made : App
made = record { top = shape; subs = [] }

-- the fault of the walk, or else that of its end
fault_is : (words : List Text) → fault_of options_app words ≡ or_else (walk_fault shape [] (between []) words) (settle_fault rules false (end_of words))
fault_is words = at_stop (walk rules [] nothing_held words).stopped
  where
    at_end : (k : Kinds) → or_else k (or_else (defaults_fault (settled_rows rules (end_of words).pending (end_of words).rows) rules) []) ≡ k
    at_end k = rw (no_defaults (settled_rows rules (end_of words).pending (end_of words).rows)) (or_none k)

    at_stop : (stop : Option (Text × List Text)) → level_fault shape [] nothing_held words (is_some (entered made stop)) (entered_fault made stop)
        ≡ or_else (walk_fault shape [] (between []) words) (settle_fault rules false (end_of words))
    at_stop None = ap (or_else (walk_fault shape [] (between []) words)) (at_end (settle_fault rules false (end_of words)))
    at_stop (Some p) = ap (or_else (walk_fault shape [] (between []) words)) (at_end (settle_fault rules false (end_of words)))

passing_ends : (words : List Text) → fault_of options_app words ≡ [] → Ends (between []) words (matches_of options_app words)
passing_ends words clean =
    let p = or_empty (walk_fault shape [] (between []) words) (settle_fault rules false (end_of words)) (sym (fault_is words) ∙ clean) in
    record { passes = p.0; settles = p.1; rows_are = sym (matches_are words) }

-- words without a fault give options, and the first value of each name is that of the option
pub record Gives (words : List Text) : Type 0 where
  pub choices : List Choice
  pub given : Give words choices
  pub values : (n : OptionName) → first_of (name_text n) (matches_of options_app words) ≡ value_of n choices

pub passing_gives : (words : List Text) → HaveNoDashes words → fault_of options_app words ≡ [] → Gives words
passing_gives words none clean =
    let r = read words [] (matches_of options_app words) none (passing_ends words clean) in
    record {
      choices = r.choices;
      given = record { words_are = r.words_are; once = (once_of r.choices [] r.fresh).0 };
      values = λ n. ap (first_of (name_text n)) r.rows_are ∙ first_is n r.choices;
    }

-- words that give options with plain values have no fault, and no value is lost
pub given_passes : (words : List Text) (choices : List Choice) → Give words choices → AllByRecursion IsPlain choices
    → (fault_of options_app words ≡ []) × ((n : OptionName) → first_of (name_text n) (matches_of options_app words) ≡ value_of n choices)
given_passes words choices give plain =
    let fresh = fresh_of choices [] give.once (λ n v is. refl) in
    let ends : Ends (between []) words (map row_of choices) = subst (λ (ws : List Text). Ends (between []) ws (map row_of choices)) (sym give.words_are) (given choices [] fresh plain) in
    (fault_is words ∙ ap₂ or_else ends.passes ends.settles, λ n. ap (first_of (name_text n)) (matches_are words ∙ ends.rows_are) ∙ first_is n choices)

pub plain_dashless_words : (words : List Text) (choices : List Choice) → Give words choices → AllByRecursion IsPlain choices → HaveNoDashes words
plain_dashless_words words choices give plain = subst HaveNoDashes (sym give.words_are) (dashless_words choices plain)

pub is_simple_app : is_simple_and_free options_app ≡ true
is_simple_app = refl

pub is_simple_options : is_simple options_app ≡ true
is_simple_options = refl
