-- What a call does to the count of faults of a source or a sink, and to the bytes that it tells: what private functions say.
use Rattle.std.specs.Prelude.{ℕ, Result, Ok, Err, ⊤}
use Rattle.ua_io.specs.Faults.{Rose}

-- an error comes only where the count rose
abbrev pub HasCause : {T E : Type 0} → ℕ → ℕ → Result T E → Type 0
HasCause before after (Ok x) = ⊤
HasCause before after (Err e) = Rose before after
