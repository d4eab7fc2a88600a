-- How a script is read from a source.
use Rattle.std.specs.Prelude.{◌≡◌, ℕ, ◌≤◌, List, length, Option, None, Some}
use Rattle.std.specs.Io.KnownBytes.{Consumes, IsAtEnd}
use Rattle.ua_io.specs.Faults.{Rose}
use Rattle.ua_table.specs.declared.limits.TheConstants.{SCRIPT}
use Rattle.ua_text.specs.declared.faults.TextFault.{TextFault}
use Rattle.ua_text.specs.Pieces.{tokens_of}
use Rattle.ua_text.specs.Tokens.{end_of}
use Rattle.ua_text.specs.Languages.{IsFault}
use Rattle.ua_script.specs.declared.script.Script.{Script}
use Rattle.ua_script.specs.Grammar.{IsScript, scripts}
use Rattle.ua_shell.specs.Generated.{generated}

-- the bytes are all that the source had
pub record IsWhole {S : Type 0} (left : S → Option (List ℕ)) (old new : S) (bytes : List ℕ) : Type 0 where
  pub taken : Consumes (left old) (left new) bytes
  pub end : IsAtEnd (left new)
  pub within : length bytes ≤ SCRIPT

-- what the source had is this script
pub record IsRead {S : Type 0} (left : S → Option (List ℕ)) (old new : S) (script : Script) : Type 0 where
  pub bytes : List ℕ
  pub whole : IsWhole left old new bytes
  pub is_script : IsScript bytes script

-- what the source had is no script, from this place on and for this reason
pub record IsNoScript {S : Type 0} (left : S → Option (List ℕ)) (old new : S) (fault : TextFault) : Type 0 where
  pub bytes : List ℕ
  pub whole : IsWhole left old new bytes
  pub is_fault : IsFault scripts (tokens_of bytes) (end_of bytes) fault

-- the script is what the source had; or it is the one that is generated, and nothing is read
abbrev pub IsAsked : {S : Type 0} → (S → Option (List ℕ)) → Option ℕ → S → S → Script → Type 0
IsAsked left None old new script = IsRead left old new script
IsAsked left (Some n) old new script = (script ≡ generated n) × (new ≡ old)

-- the source has a script, and its count of faults did not rise
pub record HasScript {S : Type 0} (left : S → Option (List ℕ)) (faults : S → ℕ) (old new : S) : Type 0 where
  pub bytes : List ℕ
  pub has : left old ≡ Some bytes
  pub within : length bytes ≤ SCRIPT
  pub script : Script
  pub is_script : IsScript bytes script
  pub quiet : Rose (faults old) (faults new) → ⊥

-- a script is there: that of the source, or the generated one
abbrev pub IsThere : {S : Type 0} → (S → Option (List ℕ)) → (S → ℕ) → Option ℕ → S → S → Type 0
IsThere left faults None old new = HasScript left faults old new
IsThere left faults (Some n) old new = Unit {0}
