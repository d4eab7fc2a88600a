-- Steps as they are written: a text, and the numbers after it.
use Rattle.std.specs.Prelude.{ℕ, ◌-◌, ◌==◌, ◌&&◌, nat_lt, nat_eq, Bool, if◌then◌else◌, List, [], ◌∷◌, ◌++◌, length, map, replicate, slice_index, codes}
use Rattle.std.specs.List.{list_all}
use Rattle.std.specs.Cmp.Lexicographic.{pointwise}
use Rattle.ua_table.specs.declared.origins.Origin.{Origin}
use Rattle.ua_table.specs.declared.origins.Origin.TheVariants.{Gen, Op}
use Rattle.ua_table.specs.Algebras.{FiniteAlgebra, arities_of}
use Rattle.ua_table.specs.Origins.{arguments_of}
use Rattle.ua_table.specs.Listings.{Row}
use Rattle.ua_table.specs.Terms.{Tree}
use Rattle.ua_term.specs.Printing.{name_at}
use Rattle.ua_term.specs.Steps.{written_term}
use Rattle.ua_term.specs.Meanings.{operation_number, has_operation}
use Rattle.ua_cert.specs.declared.certs.CertStep.{CertStep}

-- the text that stands before the number of a generator
abbrev pub is_generator : CertStep → Bool
is_generator s = pointwise nat_eq s.word (codes "gen")

-- the arity of the operation that the step names
abbrev pub arity_named : FiniteAlgebra → CertStep → ℕ
arity_named a s = slice_index (arities_of a) (operation_number a s.word)

-- the step names one of so many generators, or an operation and as many arguments as it takes, each below n
abbrev pub is_step : FiniteAlgebra → ℕ → ℕ → CertStep → Bool
is_step a gens n s = if is_generator s then (length s.args == 1) && list_all (λ x. nat_lt x gens) s.args else has_operation a s.word && ((length s.args == arity_named a s) && list_all (λ x. nat_lt x n) s.args)

-- the generator or the operation that the step names, with its arguments
abbrev pub origin_of : FiniteAlgebra → CertStep → Origin
origin_of a s = if is_generator s then Gen (slice_index s.args 0) else Op (operation_number a s.word) (s.args ++ replicate (4 - length s.args) 0)

-- those of all steps
abbrev pub origins_of : FiniteAlgebra → List CertStep → List Origin
origins_of a steps = map (origin_of a) steps

-- the rows that the step names as arguments
abbrev pub rows_named : CertStep → List ℕ
rows_named s = if is_generator s then [] else s.args

-- how an origin is written: a generator by its number, or the name of an operation and its arguments
abbrev pub written_step : FiniteAlgebra → Origin → CertStep
written_step a (Gen i) = record { word = codes "gen"; args = i ∷ [] }
written_step a (Op f args) = record { word = name_at a f; args = arguments_of (arities_of a) (Op f args) }

abbrev pub written_steps : FiniteAlgebra → List Origin → List CertStep
written_steps a origins = map (written_step a) origins

-- the origins of rows, as they are written
abbrev pub row_steps : FiniteAlgebra → List Row → List CertStep
row_steps a rows = map (λ (r : Row). written_step a r.origin) rows

-- the term that the steps of a certificate write
abbrev pub last_term : FiniteAlgebra → List CertStep → Tree
last_term a steps = written_term (arities_of a) (origins_of a steps)
