-- The parts of each kind of chain fit together, and the coordinates of its patterns.
use Rattle.std.proofs.Common.{◌≡◌, ◌<◌, ◌≤◌, ◌-◌, ◌+◌, ◌++◌, ℕ, zero, suc, List, [], ◌∷◌, length, take, drop, refl, sym, ap, ◌∙◌, subst, arith, ⊎_elim}
use Rattle.std.specs.Prelude.{Contains, slice_index, slice_range}
use Rattle.std.proofs.lemmas.Bool.{cases_lt}
use Rattle.std.proofs.lemmas.List.Elements.{Contains-push, Contains-append_left}
use Rattle.std.proofs.lemmas.Option.{slice_get-get_or, get_or_from_slice_get}
use Rattle.ua_table.specs.Algebras.{Vector}
use Rattle.ua_identity.specs.declared.kinds.CoordinateRange.{CoordinateRange}
use Rattle.ua_table.specs.Counting.{numbers_below}
use Rattle.ua_table.proofs.Lists.{all_at}
use Rattle.ua_identity.specs.Chains.{ChainKind}
use Rattle.ua_identity.specs.Identities.{VariablePattern, xxy, xyx, xyy}
use Rattle.ua_identity.specs.Patterns.{fillings, all_fillings, part_of}
use Rattle.ua_identity.specs.Kinds.{IsKind, IsPatternOf, AreApart, jonsson, hagemann_mitschke, day, xyyx, xxww, xyyw}
use Rattle.ua_identity.specs.KindTables.{blank, pattern_at, IsPartOf}
use Rattle.ua_identity.proofs.FillingLaws.{length_fillings, width_more, start_narrow, patterns_wide}

xyx_fits : IsPatternOf 3 xyx
xyx_fits = record { count = refl; named = (omega arith, (omega arith, (omega arith, tt))) }

xxy_fits : IsPatternOf 3 xxy
xxy_fits = record { count = refl; named = (omega arith, (omega arith, (omega arith, tt))) }

xyy_fits : IsPatternOf 3 xyy
xyy_fits = record { count = refl; named = (omega arith, (omega arith, (omega arith, tt))) }

xyyx_fits : IsPatternOf 4 xyyx
xyyx_fits = record { count = refl; named = (omega arith, (omega arith, (omega arith, (omega arith, tt)))) }

xxww_fits : IsPatternOf 4 xxww
xxww_fits = record { count = refl; named = (omega arith, (omega arith, (omega arith, (omega arith, tt)))) }

xyyw_fits : IsPatternOf 4 xyyw
xyyw_fits = record { count = refl; named = (omega arith, (omega arith, (omega arith, (omega arith, tt)))) }

-- the end stands alone in (x,x,y), and in (x,y,y,w)
apart_at_xxy : (ps : List VariablePattern) (j : ℕ) → Contains ps xxy → slice_index xxy.places j ≡ 0 → AreApart ps j 2
apart_at_xxy ps j there e = record { pattern = xxy; there = there; apart = λ same. let no : slice_index xxy.places j ≡ 1 = same in omega (arith, e, no) }

apart_at_xyyw : (ps : List VariablePattern) (j : ℕ) → Contains ps xyyw → slice_index xyyw.places j < 2 → AreApart ps j 3
apart_at_xyyw ps j there l = record { pattern = xyyw; there = there; apart = λ same. let no : slice_index xyyw.places j ≡ 2 = same in omega (arith, l, no) }

pub is_jonsson : IsKind jonsson
is_jonsson = record {
  some = omega arith;
  end = omega arith;
  own = (record { pattern = xyx_fits; value = omega arith; first = refl; last = refl }, tt);
  even = record { pattern = xxy_fits; next = xxy_fits; same = refl };
  odd = record { pattern = xyy_fits; next = xyy_fits; same = refl };
  patterns = (xyx_fits, (xxy_fits, (xyy_fits, tt)));
  apart = (apart_at_xxy jonsson.patterns 0 (1, omega arith, refl) refl, (apart_at_xxy jonsson.patterns 1 (1, omega arith, refl) refl, tt));
}

pub is_hagemann_mitschke : IsKind hagemann_mitschke
is_hagemann_mitschke = record {
  some = omega arith;
  end = omega arith;
  own = tt;
  even = record { pattern = xxy_fits; next = xyy_fits; same = refl };
  odd = record { pattern = xxy_fits; next = xyy_fits; same = refl };
  patterns = (xxy_fits, (xyy_fits, tt));
  apart = (apart_at_xxy hagemann_mitschke.patterns 0 (0, omega arith, refl) refl, (apart_at_xxy hagemann_mitschke.patterns 1 (0, omega arith, refl) refl, tt));
}

pub is_day : IsKind day
is_day = record {
  some = omega arith;
  end = omega arith;
  own = (record { pattern = xyyx_fits; value = omega arith; first = refl; last = refl }, tt);
  even = record { pattern = xxww_fits; next = xxww_fits; same = refl };
  odd = record { pattern = xyyw_fits; next = xyyw_fits; same = refl };
  patterns = (xyyx_fits, (xxww_fits, (xyyw_fits, tt)));
  apart = (
    apart_at_xyyw day.patterns 0 (2, omega arith, refl) (omega arith),
    (apart_at_xyyw day.patterns 1 (2, omega arith, refl) (omega arith), (apart_at_xyyw day.patterns 2 (2, omega arith, refl) (omega arith), tt)),
  );
}

number_in : (n j : ℕ) → j < n → Contains (numbers_below n) j
number_in zero j l = absurd (omega (arith, l))
number_in (suc n) j l =
    ⊎_elim (λ low. Contains-append_left (numbers_below n) (n ∷ []) j (number_in n j low))
    (λ high. let same : n ≡ j = omega (arith, l, high) in subst (Contains (numbers_below n ++ n ∷ [])) same (Contains-push (numbers_below n) n))
    (cases_lt j n)

-- an earlier place is apart from the end at some pattern
pub apart_at : (kind : ChainKind) (j : ℕ) → IsKind kind → j < kind.end → AreApart kind.patterns j kind.end
apart_at kind j k l = all_at (λ i. AreApart kind.patterns i kind.end) (numbers_below kind.end) j k.apart (number_in kind.end j l)

-- so the patterns have fillings
pub some_fillings : (n : ℕ) (kind : ChainKind) → IsKind kind → 0 < n → 0 < length (all_fillings n kind.patterns)
some_fillings n kind k some = let there = (apart_at kind 0 k k.some).there.1 in patterns_wide n kind.patterns some (omega (arith, there))

-- the coordinates of a pattern are among all, and as many as its fillings
pub part_within : (n : ℕ) (ps : List VariablePattern) (m : ℕ) (p : CoordinateRange) → m < length ps → IsPartOf n ps m p → (p.from ≤ p.to) × (p.to ≤ length (all_fillings n ps)) × (p.to - p.from ≡ length (fillings n (pattern_at ps m)))
part_within n ps m p l h =
    let q = pattern_at ps m in
    let from = h.from_is in
    let to = h.to_is in
    let more = width_more n ps m q l (sym (get_or_from_slice_get ps m q q (slice_get-get_or ps m blank l))) in
    let count = length_fillings n q in
    let below = start_narrow n ps (m + 1) in
    (omega (arith, from, to, more), omega (arith, to, below), omega (arith, from, to, more, count))

-- the entries at a pattern's coordinates are the vector's part there
pub entries_are : (n : ℕ) (ps : List VariablePattern) (m : ℕ) (p : CoordinateRange) (v : Vector) → m < length ps → IsPartOf n ps m p → slice_range v p.from p.to ≡ part_of n ps m (pattern_at ps m) v
entries_are n ps m p v l h =
    ap (λ k. take k (drop p.from v)) (part_within n ps m p l h).2 ∙ ap (λ k. take (length (fillings n (pattern_at ps m))) (drop k v)) h.from_is
