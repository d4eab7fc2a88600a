-- What a function that reads a value answers.
use Rattle.std.specs.Prelude.{◌≡◌, Ok, Err}
use Rattle.ua_cert.specs.declared.certs.CondName.TheVariants as condition
use Rattle.ua_cert.specs.declared.certs.ChainName.TheVariants as chain
use Rattle.ua_cert.specs.declared.faults.FieldError.TheVariants as fault
use Rattle.ua_cert.specs.Reading.{Reading}

-- the code answers what is read, or that there is no memory
abbrev pub Reads : {X : Type 0} → Reading X → Reading X → Type 0
Reads want (Ok x) = want ≡ Ok x
Reads want (Err (fault.Shape path)) = want ≡ Err (fault.Shape path)
Reads want (Err (fault.Range path)) = want ≡ Err (fault.Range path)
Reads want (Err fault.OutOfMemory) = Unit {0}
