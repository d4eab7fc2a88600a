-- Whether an origin makes its row, as a look at it finds.
use Rattle.std.proofs.Common.{◌≡◌, ℕ, ◌-◌, ◌<◌, Bool, true, false, ◌&&◌, cond, Option, Some, None, List, [], ◌++◌, length, take, replicate, refl, sym, ap, ◌∙◌, subst}
use Rattle.std.specs.Prelude.{slice_index, slice_index_or, nat_lt}
use Rattle.std.specs.List.{AllByRecursion, list_all}
use Rattle.ua_table.specs.declared.origins.Origin.{Origin}
use Rattle.ua_table.specs.declared.origins.Origin.TheVariants.{Gen, Op}
use Rattle.ua_table.specs.Algebras.{Vector, FiniteAlgebra, Product, arities, arities_of, apply, power}
use Rattle.ua_table.specs.Origins.{IsOrigin, arguments_of, origin_value}
use Rattle.ua_table.proofs.FrameLaws.{arities_of_power}
use Rattle.ua_rows.specs.RowLists.{rows_at}
use Rattle.ua_term.specs.Meanings.{operation_number}
use Rattle.ua_cert.specs.declared.certs.CertStep.{CertStep}
use Rattle.ua_flaws.specs.Firsts.{is_same}
use Rattle.ua_flaws.specs.Steps.{is_generator, is_step, origin_of, rows_named}
use Rattle.ua_flaws.specs.Flaws.{is_made}
use Rattle.ua_flaws.proofs.StepLaws.{Passed, passed, step_read}

-- a step that names an operation
pub record OperationRead (a : FiniteAlgebra) (gens n : ℕ) (s : CertStep) (op : ℕ) (args : List ℕ) : Type 0 where
  pub operation : op < length (arities_of a)
  pub arity : length s.args ≡ slice_index (arities_of a) op
  pub named : AllByRecursion (λ x. x < n) s.args
  pub rows : rows_named s ≡ s.args
  pub taken : take (slice_index (arities_of a) op) args ≡ s.args

apart : (i f : ℕ) (args : List ℕ) → Op f args ≡ Gen i → ⊥
apart i f args e = cc

pub operation_read : (a : FiniteAlgebra) (gens n : ℕ) (s : CertStep) (op : ℕ) (args : List ℕ) → Passed a gens n s (Op op args) → OperationRead a gens n s op args
operation_read a gens n s op args p =
    let read = step_read a gens n s p.step in
    let o : IsOrigin (arities_of a) gens n (Op op args) = subst (IsOrigin (arities_of a) gens n) (sym p.origin) read.origin in
    let arguments : take (slice_index (arities_of a) op) args ≡ rows_named s = ap (arguments_of (arities_of a)) p.origin ∙ read.arguments in
    let named : rows_named s ≡ s.args = cases (is_generator s) p.origin in
    let taken = arguments ∙ named in
    record {
      operation = o.operation;
      arity = ap length (sym taken) ∙ o.count;
      named = subst (AllByRecursion (λ x. x < n)) taken o.earlier;
      rows = named;
      taken = taken;
    }
  where
    cases : (b : Bool) → Op op args ≡ cond b (Gen (slice_index s.args 0)) (Op (operation_number a s.word) (s.args ++ replicate (4 - length s.args) 0)) → cond b [] s.args ≡ s.args
    cases true e = absurd (apart (slice_index s.args 0) op args e)
    cases false e = refl

pub generator_read : (a : FiniteAlgebra) (gens n : ℕ) (s : CertStep) (i : ℕ) → Passed a gens n s (Gen i) → rows_named s ≡ []
generator_read a gens n s i p = cases (is_generator s) p.origin
  where
    cases : (b : Bool) → Gen i ≡ cond b (Gen (slice_index s.args 0)) (Op (operation_number a s.word) (s.args ++ replicate (4 - length s.args) 0)) → cond b [] s.args ≡ []
    cases true e = refl
    cases false e = absurd (apart i (operation_number a s.word) (s.args ++ replicate (4 - length s.args) 0) (sym e))

module _ (a : FiniteAlgebra) (width : ℕ) (gens rows : List Vector) (ranks : List ℕ) (i : ℕ) (s : CertStep) where
  made_by : (b c d : Bool) → is_step a (length gens) (length rows) s ≡ b
      → list_all (λ x. nat_lt (slice_index ranks x) (slice_index ranks i)) (rows_named s) ≡ c
      → is_same (origin_value (power a width) gens rows (origin_of a s)) (slice_index_or rows i []) ≡ d
      → is_made a width gens rows ranks i s ≡ (b && (c && d))
  made_by b c d eb ec ed = ap (λ x. x && (list_all (λ y. nat_lt (slice_index ranks y) (slice_index ranks i)) (rows_named s) && is_same (origin_value (power a width) gens rows (origin_of a s)) (slice_index_or rows i []))) eb
      ∙ ap (λ x. b && (x && is_same (origin_value (power a width) gens rows (origin_of a s)) (slice_index_or rows i []))) ec ∙ ap (λ x. b && (c && x)) ed

  -- a generator
  pub made_generator : (j : ℕ) (g row : Vector) (d : Bool) → Passed a (length gens) (length rows) s (Gen j) → slice_index_or gens j [] ≡ g → slice_index_or rows i [] ≡ row → d ≡ is_same g row → d ≡ is_made a width gens rows ranks i s
  made_generator j g row d p eg er e =
      let none = generator_read a (length gens) (length rows) s j p in
      let value : origin_value (power a width) gens rows (origin_of a s) ≡ g = ap (origin_value (power a width) gens rows) (sym p.origin) ∙ eg in
      sym (made_by true true d p.step (ap (list_all (λ x. nat_lt (slice_index ranks x) (slice_index ranks i))) none)
      (ap (λ v. is_same v (slice_index_or rows i [])) value ∙ ap (is_same g) er ∙ sym e))

  -- an operation from rows not all of smaller rank
  pub made_high : (op : ℕ) (args : List ℕ) → Passed a (length gens) (length rows) s (Op op args) → list_all (λ x. nat_lt (slice_index ranks x) (slice_index ranks i)) s.args ≡ false → false ≡ is_made a width gens rows ranks i s
  made_high op args p h =
      let o = operation_read a (length gens) (length rows) s op args p in
      sym (made_by true false (is_same (origin_value (power a width) gens rows (origin_of a s)) (slice_index_or rows i [])) p.step (ap (list_all (λ x. nat_lt (slice_index ranks x) (slice_index ranks i))) o.rows ∙ h) refl)

  -- an operation
  pub made_operation : (op : ℕ) (args : List ℕ) (v row : Vector) (d : Bool) → 0 < width → Passed a (length gens) (length rows) s (Op op args)
      → list_all (λ x. nat_lt (slice_index ranks x) (slice_index ranks i)) s.args ≡ true → v ≡ apply (power a width) op (rows_at rows s.args)
      → slice_index_or rows i [] ≡ row → d ≡ is_same v row → d ≡ is_made a width gens rows ranks i s
  made_operation op args v row d some p h ev er e =
      let o = operation_read a (length gens) (length rows) s op args p in
      let taken : take (slice_index (arities (power a width)) op) args ≡ s.args = ap (λ (ks : List ℕ). take (slice_index ks op) args) (arities_of_power a width some) ∙ o.taken in
      let value : origin_value (power a width) gens rows (origin_of a s) ≡ v = ap (origin_value (power a width) gens rows) (sym p.origin) ∙ ap (λ (xs : List ℕ). apply (power a width) op (rows_at rows xs)) taken ∙ sym ev in
      sym (made_by true true d p.step (ap (list_all (λ x. nat_lt (slice_index ranks x) (slice_index ranks i))) o.rows ∙ h)
      (ap (λ w. is_same w (slice_index_or rows i [])) value ∙ ap (is_same v) er ∙ sym e))

-- what a read with counts says at the lengths
pub passed_at : (a : FiniteAlgebra) (g m n k : ℕ) (s : CertStep) (o q : Origin) (r : Option Origin) → g ≡ m → n ≡ k → r ≡ Some o → o ≡ q → r ≡ cond (is_step a g n s) (Some (origin_of a s)) None → Passed a m k s q
passed_at a g m n k s o q r eg en er eo e =
    subst (λ x. Passed a m x s q) en (subst (λ x. Passed a x n s q) eg (subst (Passed a g n s) eo (passed a g n s o (sym er ∙ e))))

-- the arguments of an operation are rows
pub all_named : (a : FiniteAlgebra) (gens n m : ℕ) (s : CertStep) (op : ℕ) (args : List ℕ) → Passed a gens n s (Op op args) → n ≡ m → AllByRecursion (λ x. x < m) s.args
all_named a gens n m s op args p e = subst (λ k. AllByRecursion (λ x. x < k) s.args) e (operation_read a gens n s op args p).named

pub arity_in : (a : FiniteAlgebra) (width : ℕ) (q : Product) (gens n : ℕ) (s : CertStep) (op : ℕ) (args : List ℕ) → Passed a gens n s (Op op args)
    → q ≡ power a width → 0 < width → (op < length (arities q)) × (length s.args ≡ slice_index (arities q) op)
arity_in a width q gens n s op args p e some =
    let o = operation_read a gens n s op args p in
    let ks : arities_of a ≡ arities q = sym (ap arities e ∙ arities_of_power a width some) in
    (subst (λ zs. op < length zs) ks o.operation, o.arity ∙ ap (λ (zs : List ℕ). slice_index zs op) ks)
