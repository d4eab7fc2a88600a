-- How runs end.
use Rattle.std.proofs.Common.{◌≡◌, ◌⊎◌, inr, ℕ, List, Option, Err, refl, ap, subst}
use Rattle.ua_options.specs.declared.words.Settings.{Settings}
use Rattle.ua_options.specs.Words.{Asks}
use Rattle.ua_options.proofs.OptionValues.{asked_once}
use Rattle.ua_shell.specs.declared.status.Status.{Status}
use Rattle.ua_shell.specs.declared.status.Status.TheVariants as status
use Rattle.ua_shell.specs.Reads.{IsThere}
use Rattle.ua_shell.specs.inner.Reads.{IsGiven}

-- without a script memory ran out, where one was there
pub given_ends : (s : Status) → IsGiven (Err s) → (s ≡ status.Done) ⊎ (s ≡ status.OutOfMemory)
given_ends status.Done h = absurd h
given_ends status.Usage h = absurd h
given_ends status.ReadFault h = absurd h
given_ends status.WriteFault h = absurd h
given_ends (status.Syntax fault) h = absurd h
given_ends status.OutOfMemory h = inr refl
given_ends status.TooLong h = absurd h

-- what the words ask for is there, in whichever reading
pub there_once : {S : Type 0} (left : S → Option (List ℕ)) (faults : S → ℕ) (old new : S) (words : List (List ℕ)) (s t : Settings) → Asks words s → Asks words t
    → IsThere left faults s.generate old new → IsThere left faults t.generate old new
there_once left faults old new words s t a b there = subst (λ (g : Option ℕ). IsThere left faults g old new) (ap (λ (x : Settings). x.generate) (asked_once words s t a b)) there
