use Rattle.std.proofs.Common.{◌≡◌, ℕ, ◌+◌, ◌*◌, ◌-◌, ◌<◌, ◌≤◌, ◌^◌, suc, Bool, true, false, List, length, map, drop, refl, sym, ap, ◌∙◌, arith}
use Rattle.std.specs.Prelude.{slice_index}
use Rattle.std.specs.List.{range_with_len}
use Rattle.std.specs.Simd.Lanes.{number_l}
use Rattle.std.proofs.lemmas.List.{length-drop}
use Rattle.std.proofs.lemmas.List.FromFn.{length-map-range_with_len, get_or-map-range_with_len}
use Rattle.std.proofs.Math.Seq.{drop-cons}
use Rattle.std.proofs.Math.Nat.{pow-le-pow_right}
use Rattle.ua_table.proofs.Lists.{all_weaker}
use Rattle.ua_columns.specs.Columns.{limit, digits, base, AreBelow, entry_of}
use Rattle.ua_columns.proofs.ListLaws.{all_drop, number_below}
use Rattle.ua_columns.proofs.ColumnLaws.{entries_low, some_limit, limit_base}
use Rattle.ua_columns.proofs.columns.word_at.Goals as goal

-- all digits of a word make a number of 64 bits
word_fits : (in_bytes : Bool) → base in_bytes ^ digits in_bytes ≡ 2 ^ 64
word_fits true = refl
word_fits false = refl

some_base : (in_bytes : Bool) → 0 < base in_bytes
some_base true = omega arith
some_base false = omega arith

module _ (in_bytes : Bool) (block : List (List (List ℕ))) (lane first : ℕ) (low : AreBelow (limit in_bytes) block) where
  abbrev entries : List ℕ
  entries = map (λ c. entry_of block lane (first + c)) (range_with_len 0 (digits in_bytes))

  long : length entries ≡ digits in_bytes
  long = length-map-range_with_len (λ c. entry_of block lane (first + c)) 0 (digits in_bytes)

  -- the entries from one place on make a number that fits
  rest_fits : (c : ℕ) → number_l (base in_bytes) (drop c entries) < 2 ^ 64
  rest_fits c =
      let small =
      all_weaker (λ x. x < limit in_bytes) (λ x. x < base in_bytes) (λ x less. (let l = limit_base in_bytes in omega (arith, less, l))) entries
      (entries_low (limit in_bytes) block lane first (digits in_bytes) (some_limit in_bytes) low) in
      let below = number_below (base in_bytes) (drop c entries) (all_drop (λ x. x < base in_bytes) entries c small) in
      let l = length-drop c entries in
      let n = long in
      let fewer : length (drop c entries) ≤ digits in_bytes = omega (arith, l, n) in
      let some = some_base in_bytes in
      let most : base in_bytes ^ length (drop c entries) ≤ base in_bytes ^ digits in_bytes = pow-le-pow_right some fewer in
      let all = word_fits in_bytes in
      omega (arith, below, most, all)

  -- with the entry before them
  one_before : (c word : ℕ) → 0 < c → c ≤ digits in_bytes → word ≡ number_l (base in_bytes) (drop c entries) → word * base in_bytes + entry_of block lane (first + (c - 1)) ≡ number_l (base in_bytes) (drop (c - 1) entries)
  one_before c word some within is =
      let l = long in
      let low : c - 1 < length entries = omega (arith, l, some, within) in
      let below : c - 1 < digits in_bytes = omega (arith, some, within) in
      let next : suc (c - 1) ≡ c = omega (arith, some) in
      let at : slice_index entries (c - 1) ≡ entry_of block lane (first + (c - 1)) = get_or-map-range_with_len (λ k. entry_of block lane (first + k)) 0 (digits in_bytes) (c - 1) (c - 1) 0 below (omega arith) in
      let e : word ≡ number_l (base in_bytes) (drop (suc (c - 1)) entries) = is ∙ ap (λ n. number_l (base in_bytes) (drop n entries)) (sym next) in
      let turn : word * base in_bytes ≡ base in_bytes * word = search arith in
      let sum : word * base in_bytes + entry_of block lane (first + (c - 1)) ≡ entry_of block lane (first + (c - 1)) + base in_bytes * word = omega (arith, turn) in
      sum ∙ (λ i. sym at i + base in_bytes * e i) ∙ sym (ap (number_l (base in_bytes)) (drop-cons entries (c - 1) 0 low))

next_word : (c : goal.After-from)
    → c.loop-c.word * c.if-in_bytes.c.1 + c.from.result
    ≡ number_l (base c.args.in_bytes)
    (drop (c.loop-c.c - 1) (map (λ k. entry_of c.args.block.now c.args.lane (c.args.first + k)) (range_with_len 0 (digits c.args.in_bytes))))
next_word c =
    (λ i. c.loop-c.word * c.loop-c.invariant.to_base i + (c.from.ensures ∙ c.entry_at.ensures) i)
    ∙ one_before c.args.in_bytes c.args.block.now c.args.lane c.args.first c.requires.low c.loop-c.c c.loop-c.word c.loop-c-test.true
    c.loop-c.invariant.within c.loop-c.invariant.word

pub overflow_mul-word : goal.overflow_mul-word
overflow_mul-word c =
    let e = one_before c.args.in_bytes c.args.block.now c.args.lane c.args.first c.requires.low c.loop-c.c c.loop-c.word c.loop-c-test.true c.loop-c.invariant.within c.loop-c.invariant.word in
    let to = ap (λ n. c.loop-c.word * n) c.loop-c.invariant.to_base in
    let fits = rest_fits c.args.in_bytes c.args.block.now c.args.lane c.args.first c.requires.low (c.loop-c.c - 1) in
    omega (arith, e, to, fits)

pub overflow_add-word : goal.overflow_add-word
overflow_add-word c =
    let e = next_word c in
    let fits = rest_fits c.args.in_bytes c.args.block.now c.args.lane c.args.first c.requires.low (c.loop-c.c - 1) in
    omega (arith, e, fits)

pub loop-c-preserved : goal.loop-c-preserved
loop-c-preserved c = record {
  to_base = c.loop-c.invariant.to_base;
  within = (let w = c.loop-c.invariant.within in omega (arith, w));
  word = next_word c;
}

pub returns : goal.returns
returns c =
    let none : c.loop-c.c ≡ 0 = omega arith in
    c.loop-c.invariant.word ∙ ap (λ n. number_l (base c.args.in_bytes) (drop n (map (λ k. entry_of c.args.block.now c.args.lane (c.args.first + k)) (range_with_len 0 (digits c.args.in_bytes))))) none
