-- How a script is read from a source: what private functions say.
use Rattle.std.specs.Prelude.{◌≡◌, ℕ, ◌+◌, List, Option, None, Some, Result, Ok, Err}
use Rattle.ua_io.specs.Faults.{Rose, TakesCount}
use Rattle.ua_table.specs.declared.limits.TheConstants.{SCRIPT}
use Rattle.ua_script.specs.declared.script.Script.{Script}
use Rattle.ua_shell.specs.declared.status.Status.{Status}
use Rattle.ua_shell.specs.declared.status.Status.TheVariants as status
use Rattle.ua_shell.specs.Reads.{IsRead, IsNoScript, IsAsked}

-- the script, or the status with which a run ends where none is read
abbrev pub MayRead : {S : Type 0} → (S → Option (List ℕ)) → (S → ℕ) → S → S → Result Script Status → Type 0
MayRead left faults old new (Ok script) = IsRead left old new script
MayRead left faults old new (Err status.ReadFault) = Rose (faults old) (faults new)
MayRead left faults old new (Err status.TooLong) = TakesCount (left old) (left new) (SCRIPT + 1)
MayRead left faults old new (Err (status.Syntax fault)) = IsNoScript left old new fault
MayRead left faults old new (Err status.OutOfMemory) = Unit {0}
MayRead left faults old new (Err _) = ⊥

-- the script that is asked for, or the status with which a run ends without one
abbrev pub MayAsk : {S : Type 0} → (S → Option (List ℕ)) → (S → ℕ) → Option ℕ → S → S → Result Script Status → Type 0
MayAsk left faults generate old new (Ok script) = IsAsked left generate old new script
MayAsk left faults None old new (Err e) = MayRead left faults old new (Err e)
MayAsk left faults (Some n) old new (Err status.OutOfMemory) = new ≡ old
MayAsk left faults (Some n) old new (Err _) = ⊥

-- there is a script, unless memory ran out
abbrev pub IsGiven : Result Script Status → Type 0
IsGiven (Ok script) = Unit {0}
IsGiven (Err status.OutOfMemory) = Unit {0}
IsGiven (Err _) = ⊥
