-- The words of commands.
use Rattle.std.specs.Prelude.{ℕ, List, [], ◌∷◌, codes}

abbrev pub command_words : List (List ℕ)
command_words = codes "close" ∷ codes "member" ∷ codes "cond" ∷ codes "nu" ∷ codes "jonsson" ∷ codes "hm" ∷ codes "free" ∷ codes "sub" ∷ codes "ones"
    ∷ codes "eval" ∷ codes "cg" ∷ codes "con" ∷ codes "types" ∷ codes "central" ∷ codes "comm" ∷ codes "series" ∷ codes "holds" ∷ codes "hom"
    ∷ codes "check" ∷ codes "make" ∷ codes "cert" ∷ codes "day" ∷ codes "condition" ∷ codes "clone" ∷ []
