-- The first places of joined checks, and what passes in them.
use Rattle.std.proofs.Common.{◌≡◌, ℕ, suc, ◌+◌, ◌<◌, Bool, true, false, List, [], ◌∷◌, ◌++◌, length, get_or, take, Option, refl, sym, ap, ◌∙◌, subst, append_assoc, append-nil, arith}
use Rattle.std.proofs.Math.Seq.{take-suc}
use Rattle.std.specs.List.{AllByRecursion}
use Rattle.std.specs.Option.{option_or}
use Rattle.ua_table.proofs.Lists.{all_get_or}
use Rattle.ua_text.specs.declared.tokens.Place.{Place}
use Rattle.ua_term.specs.Meanings.{first_place}
use Rattle.ua_reply.specs.declared.checks.FirstErrors.{FirstErrors}
use Rattle.ua_reply.specs.Checks.{Checks, passed, unless, ◌and◌, all_in, Passes, AreFirst}

first_both : (xs ys : List Place) → option_or (first_place xs) (first_place ys) ≡ first_place (xs ++ ys)
first_both [] ys = refl
first_both (x ∷ xs) ys = refl

joined : (r a b : Option Place) (xs ys : List Place) → r ≡ option_or a b → a ≡ first_place xs → b ≡ first_place ys → r ≡ first_place (xs ++ ys)
joined r a b xs ys is e f = is ∙ (λ i. option_or (e i) (f i)) ∙ first_both xs ys

-- joined first places are those of the joined checks
pub and_first : (c d : Checks) (e f g : FirstErrors) → AreFirst c e → AreFirst d f → g.unknown ≡ option_or e.unknown f.unknown → g.range ≡ option_or e.range f.range → g.shape ≡ option_or e.shape f.shape → AreFirst (c and d) g
unfolding ◌and◌
and_first c d e f g p q u r s = record {
  unknown = joined g.unknown e.unknown f.unknown c.unknown d.unknown u p.unknown q.unknown;
  range = joined g.range e.range f.range c.range d.range r p.range q.range;
  shape = joined g.shape e.shape f.shape c.shape d.shape s p.shape q.shape;
}

-- nothing is in the parts of an empty list
pub none_left : {X : Type 0} (xs ys : List X) → xs ++ ys ≡ [] → (xs ≡ []) × (ys ≡ [])
none_left [] ys e = (refl, e)
none_left (x ∷ xs) ys e = cc

pub parts_pass : (c d : Checks) → Passes (c and d) → Passes c × Passes d
unfolding ◌and◌
parts_pass c d h =
    let u = none_left c.unknown d.unknown h.unknown in
    let r = none_left c.range d.range h.range in
    let s = none_left c.shape d.shape h.shape in
    (record { unknown = u.0; range = r.0; shape = s.0 }, record { unknown = u.1; range = r.1; shape = s.1 })

-- checks are joined in one order
pub and_assoc : (a b c : Checks) → ((a and b) and c) ≡ (a and (b and c))
unfolding ◌and◌
and_assoc a b c = λ i. record { unknown = append_assoc a.unknown b.unknown c.unknown i; range = append_assoc a.range b.range c.range i; shape = append_assoc a.shape b.shape c.shape i }

pub and_passed : (a : Checks) → (a and passed) ≡ a
unfolding ◌and◌
and_passed a = λ i. record { unknown = append-nil a.unknown i; range = append-nil a.range i; shape = append-nil a.shape i }

pub passed_and : (a : Checks) → (passed and a) ≡ a
unfolding ◌and◌
passed_and a = refl

-- a test of which nothing is told passes
pub known_step : (b : Bool) (place : Place) → unless b place ≡ [] → b ≡ true
known_step true place e = refl
known_step false place e = cc

-- ---- what fails in each

-- one more at the end
pub all_more : {X : Type 0} (check : X → Checks) (xs : List X) (y : X) → all_in check (xs ++ y ∷ []) ≡ (all_in check xs and check y)
all_more check [] y = and_passed (check y) ∙ sym (passed_and (check y))
all_more check (x ∷ xs) y = ap (λ c. check x and c) (all_more check xs y) ∙ sym (and_assoc (check x) (all_in check xs) (check y))

pub each_passes : {X : Type 0} (check : X → Checks) (xs : List X) → Passes (all_in check xs) → AllByRecursion (λ x. Passes (check x)) xs
each_passes check [] h = tt
each_passes check (x ∷ xs) h = let p = parts_pass (check x) (all_in check xs) h in (p.0, each_passes check xs p.1)

-- the one at a place passes
pub one_passes : {X : Type 0} (check : X → Checks) (xs : List X) (i : ℕ) (x : X) → Passes (all_in check xs) → i < length xs → x ≡ get_or xs i x → Passes (check x)
one_passes check xs i x h low is = subst (λ x. Passes (check x)) (sym is) (all_get_or (λ x. Passes (check x)) xs i x low (each_passes check xs h))

-- the first places of what is joined, one more at the end
pub first_more : {X : Type 0} (check : X → Checks) (xs : List X) (i : ℕ) (x : X) (e : FirstErrors) → i < length xs → x ≡ get_or xs i x → AreFirst (all_in check (take i xs) and check x) e → AreFirst (all_in check (take (i + 1) xs)) e
first_more check xs i x e low is h =
    let next : i + 1 ≡ suc i = omega arith in
    let more : take (i + 1) xs ≡ take i xs ++ x ∷ [] = ap (λ n. take n xs) next ∙ take-suc xs i x low ∙ ap (λ y. take i xs ++ y ∷ []) (sym is) in
    subst (λ (d : Checks). AreFirst d e) (sym (ap (all_in check) more ∙ all_more check (take i xs) x)) h
