-- Vectors of a unary operation computed and looked for, one after another.
use Rattle.std.proofs.Common.{◌≡◌, ◌↔◌, ℕ, ◌+◌, ◌<◌, Bool, true, false, Option, None, Some, List, [], ◌∷◌, length, get_or, set, take, sym, ap, ◌∙◌, subst, arith, ⊎_elim}
use Rattle.std.specs.Prelude.{slice_get, is_some, IfSome, IfNone, Contains, IsTrue}
use Rattle.std.proofs.lemmas.Bool.{cases_eq}
use Rattle.std.proofs.lemmas.List.{get_or-set_same, get_or-set_other, get_or-take}
use Rattle.ua_table.proofs.Lists.{Contains-slice_get}
use Rattle.ua_table.specs.Algebras.{Vector, Product, apply}
use Rattle.ua_rows.specs.RowLists.{rows_at}
use Rattle.ua_rows.specs.Applied.{applied_at, AreApplied, AreFound}

-- a look-up finds what is there
pub contains_by : (r : Option ℕ) (b : Bool) (rows : List Vector) (v : Vector) → b ≡ is_some r → IfSome r (λ i. slice_get rows i ≡ Some v) → IfNone r (¬ Contains rows v) → IsTrue b ↔ Contains rows v
contains_by None b rows v e found absent = (λ t. let no : true ≡ false = sym t ∙ e in cc, λ c. absurd (absent c))
contains_by (Some i) b rows v e found absent = (λ t. Contains-slice_get rows i v found, λ c. e)

-- one more vector is looked for
pub found_more : (p : Product) (f : ℕ) (rows : List Vector) (args : List ℕ) (n : ℕ) (found : List Bool) (b : Bool) → n < length found
    → AreFound p f rows args n found → (IsTrue b → Contains rows (applied_at p f rows args n)) → AreFound p f rows args (n + 1) (set found n b)
found_more p f rows args n found b low before here i h = ⊎_elim
    (λ same. (omega (arith, same), subst (λ k. Contains rows (applied_at p f rows args k)) (sym same) (here (subst IsTrue (ap (λ k. get_or (set found n b) k false) same ∙ get_or-set_same found n b false low) h))))
    (λ other. let old = before i (subst IsTrue (get_or-set_other found n i b false other) h) in (let l = old.0 in omega (arith, l), old.1))
    (cases_eq i n)

-- one more vector is computed
pub applied_more : (p : Product) (f : ℕ) (rows : List Vector) (args : List ℕ) (n : ℕ) (vectors : List Vector) (v : Vector) → n < length vectors
    → AreApplied p f rows args n vectors → v ≡ applied_at p f rows args n → AreApplied p f rows args (n + 1) (set vectors n v)
applied_more p f rows args n vectors v low before here i h = ⊎_elim
    (λ same. ap (λ k. get_or (set vectors n v) k []) same ∙ get_or-set_same vectors n v [] low ∙ here ∙ ap (applied_at p f rows args) (sym same))
    (λ other. get_or-set_other vectors n i v [] other ∙ before i (omega (arith, h, other)))
    (cases_eq i n)

-- what is read of the first arguments alone is read of all
pub front_argument : (p : Product) (f : ℕ) (rows : List Vector) (args : List ℕ) (n i : ℕ) → i < n → applied_at p f rows (take n args) i ≡ applied_at p f rows args i
front_argument p f rows args n i low = ap (λ a. apply p f (rows_at rows (a ∷ []))) (get_or-take n args i 0 low)
