-- What is asked of a question: what private functions say.
use Rattle.std.specs.Prelude.{◌≤◌, length}
use Rattle.ua_table.specs.declared.limits.TheConstants.{SCRIPT}
use Rattle.ua_script.specs.declared.script.Provable.{Provable}
use Rattle.ua_script.specs.declared.script.Provable.TheVariants.{Close, Member}

-- there are no more vectors than a script has bytes
abbrev pub HasFewVectors : Provable → Type 0
HasFewVectors (Close w width gens) = length gens ≤ SCRIPT
HasFewVectors (Member w width gens target) = length gens ≤ SCRIPT
HasFewVectors _ = Unit {0}
