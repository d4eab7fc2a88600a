-- Where a phrase is written, and what is read of the arguments of one.
use Rattle.std.specs.Prelude.{◌≡◌, List, Result, Vec}
use Rattle.std.specs.declared.alloc.Global.{Global}
use Rattle.ua_text.specs.declared.readers.Miss.{Miss}
use Rattle.ua_text.specs.declared.tokens.Place.{Place}
use Rattle.ua_text.specs.declared.tokens.Tokens.{Tokens}
use Rattle.ua_text.specs.Pieces.{Placed}
use Rattle.ua_text.specs.Reading.{Takes}
use Rattle.ua_text.specs.Signs.{Wanted}
use Rattle.ua_term.specs.Phrases.{Phrase, Phrases, phrase, phrases}
use Rattle.ua_term.specs.Terms.{applied}

abbrev pub place_of : Phrase → Place
place_of (phrase word place arguments) = place

-- these terms in parentheses are read
abbrev pub TakesArguments : Tokens → Tokens → Result (Vec Phrase Global) Miss → Phrases → List Wanted → List Placed → Type 0
TakesArguments old new result ps ws rest = Takes old new result (λ xs. phrases xs.items ≡ ps) (applied ps) ws rest
