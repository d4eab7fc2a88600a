-- Whether images of generators go on to a homomorphism: the pairs that they generate: what private functions say.
use Rattle.std.specs.Prelude.{List}
use Rattle.ua_table.specs.Algebras.{Product, Vector, arities}
use Rattle.ua_table.specs.Listings.{Row}
use Rattle.ua_sub.specs.declared.homs.Hom.{Hom}
use Rattle.ua_sub.specs.declared.homs.Hom.TheVariants.{Map, Clash, Exceeds}
use Rattle.ua_sub.specs.Homs.{IsPairClash, IsListedClash}

-- a clash that is the first of these rows
abbrev pub IsClashOf : Product → List Vector → List Row → Hom → Type 0
IsClashOf p gens rows (Map pairs) = ⊥
IsClashOf p gens rows (Clash x y z first second) = IsPairClash p gens x y z first second × IsListedClash (arities p) rows x y z first second
IsClashOf p gens rows Exceeds = ⊥
