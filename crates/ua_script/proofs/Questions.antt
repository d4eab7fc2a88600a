-- Questions behind `cert`: no part of theirs asks for another answer.
use Rattle.ua_operands.proofs.Vocabulary.{mode}
use Rattle.ua_script.proofs.Vocabulary.{Plain, Part, Taken, Values, value_text, values_text, without_modes}
use Rattle.std.proofs.Common.{◌≡◌, List, [], ◌∷◌, ◌++◌, refl, sym, ap, ◌∙◌}
use Rattle.ua_text.specs.declared.symbols.Part.TheVariants as parts
use Rattle.ua_script.proofs.Parts.{after, afters, AllFit}
use Rattle.ua_script.proofs.Table.{ArePlain}

-- without the modes
abbrev pub drop : (ps : List Part) → Values ps → Values (without_modes ps)
drop [] v = tt
drop (parts.Modes ∷ ps) v = drop ps v.1
drop (p ∷ ps) v = (v.0, drop ps v.1)

pub drop_text : (ps : List Part) (v : Values ps) → ArePlain ps v → values_text (without_modes ps) (drop ps v) ≡ values_text ps v
drop_text [] v h = refl
drop_text (parts.Modes ∷ ps) v h = drop_text ps v.1 h.1 ∙ ap (λ m. mode m ++ values_text ps v.1) (sym h.0)
drop_text (p ∷ ps) v h = ap (λ z. value_text p v.0 ++ z) (drop_text ps v.1 h)

pub drop_fits : (ps : List Part) (x : Taken) (v : Values ps) → AllFit ps x v → AllFit (without_modes ps) x (drop ps v)
drop_fits [] x v h = tt
drop_fits (parts.Modes ∷ ps) x v h = drop_fits ps x v.1 h.1
drop_fits (p ∷ ps) x v h = (h.0, drop_fits ps (after p v.0 x) v.1 h.1)

pub drop_afters : (ps : List Part) (x : Taken) (v : Values ps) → afters (without_modes ps) (drop ps v) x ≡ afters ps v x
drop_afters [] x v = refl
drop_afters (parts.Modes ∷ ps) x v = drop_afters ps x v.1
drop_afters (p ∷ ps) x v = drop_afters ps (after p v.0 x) v.1

-- with plain modes
abbrev pub add : (ps : List Part) → Values (without_modes ps) → Values ps
add [] v = tt
add (parts.Modes ∷ ps) v = (Plain, add ps v)
add (p ∷ ps) v = (v.0, add ps v.1)

pub add_plain : (ps : List Part) (v : Values (without_modes ps)) → ArePlain ps (add ps v)
add_plain [] v = tt
add_plain (parts.Modes ∷ ps) v = (refl, add_plain ps v)
add_plain (p ∷ ps) v = add_plain ps v.1

pub add_text : (ps : List Part) (v : Values (without_modes ps)) → values_text ps (add ps v) ≡ values_text (without_modes ps) v
add_text [] v = refl
add_text (parts.Modes ∷ ps) v = add_text ps v
add_text (p ∷ ps) v = ap (λ z. value_text p v.0 ++ z) (add_text ps v.1)

pub add_fits : (ps : List Part) (x : Taken) (v : Values (without_modes ps)) → AllFit (without_modes ps) x v → AllFit ps x (add ps v)
add_fits [] x v h = tt
add_fits (parts.Modes ∷ ps) x v h = ((tt, tt), add_fits ps x v h)
add_fits (p ∷ ps) x v h = (h.0, add_fits ps (after p v.0 x) v.1 h.1)

pub add_afters : (ps : List Part) (x : Taken) (v : Values (without_modes ps)) → afters (without_modes ps) v x ≡ afters ps (add ps v) x
add_afters [] x v = refl
add_afters (parts.Modes ∷ ps) x v = add_afters ps x v
add_afters (p ∷ ps) x v = add_afters ps (after p v.0 x) v.1
