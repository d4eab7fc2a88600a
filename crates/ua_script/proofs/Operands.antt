-- The operands of a command at the front of tokens, read one by one.
use Rattle.ua_operands.proofs.Vocabulary.{Miss, Placed, same, Wanted, Front, begins_with, begins_item, Place}
use Rattle.ua_script.proofs.Vocabulary.{Part, CommandForm, Command, parts_of, made, Values, value_text, values_text, ends, all_end, Standing, IsCommandRead, ForPart, Ends, IsRead}
use Rattle.std.proofs.Common.{◌≡◌, ◌==◌, ℕ, true, false, List, [], ◌∷◌, ◌++◌, Ok, Err, refl, sym, ap, ◌∙◌, subst, codes, append_assoc}
use Rattle.std.proofs.lemmas.Bool.{false≢true, and_parts, not-true}
use Rattle.ua_text.specs.declared.readers.Miss.TheVariants as misses
use Rattle.ua_text.specs.declared.symbols.Part.TheVariants as parts
use Rattle.ua_term.specs.Reading.{IsEnd}
use Rattle.ua_operands.proofs.ReadLaws.{begins_after}

-- what begins an item may stand behind a term
term_ends : (ws : List Wanted) → begins_item ws → IsEnd ws []
term_ends [] b = refl
term_ends (w ∷ ws) b = b.4

item_ends : (p : Part) (ws : List Wanted) → begins_item ws → Ends p ws
item_ends parts.Vectors ws b = b.0
item_ends parts.Partition ws b = b.3
item_ends parts.Term ws b = term_ends ws b
item_ends parts.Modes ws b = b
item_ends (parts.Identities i) ws b = b.4
item_ends (parts.Pick table) ws b = b
item_ends p ws b = tt

part_ends : (p q : Part) (ps : List Part) (v : Values (q ∷ ps)) (ws : List Wanted) → ends p (q ∷ ps) ≡ true → begins_item ws → Ends p (values_text (q ∷ ps) v ++ ws)
part_ends parts.Vectors parts.Modes [] v ws e b = subst (λ z. begins_with (codes "[") z ≡ false) (sym (append_assoc (value_text parts.Modes v.0) [] ws)) (begins_after v.0 ws b)
part_ends parts.Vectors (parts.Mark m) ps v ws e b = mark m (not-true (m == 91) e)
  where
    mark : (m : ℕ) → (m == 91) ≡ false → same (m ∷ []) (codes "[") ≡ false
    mark m e = rw e refl
part_ends parts.Partition parts.Partition ps v ws e b = refl
part_ends parts.Term parts.Vector ps v ws e b = refl
part_ends parts.Term (parts.Mark m) ps v ws e b = mark m (not-true (m == 40) e)
  where
    mark : (m : ℕ) → (m == 40) ≡ false → same (m ∷ []) (codes "(") ≡ false
    mark m e = rw e refl
part_ends parts.Vectors q ps v ws e b = absurd (false≢true e)
part_ends parts.Partition q ps v ws e b = absurd (false≢true e)
part_ends parts.Term q ps v ws e b = absurd (false≢true e)
part_ends parts.Modes q ps v ws e b = absurd (false≢true e)
part_ends (parts.Identities i) q ps v ws e b = absurd (false≢true e)
part_ends (parts.Pick table) q ps v ws e b = absurd (false≢true e)
part_ends p q ps v ws e b = tt

pub ends_well : (p : Part) (ps : List Part) (v : Values ps) (ws : List Wanted) → ends p ps ≡ true → begins_item ws → Ends p (values_text ps v ++ ws)
ends_well p [] v ws e b = item_ends p ws b
ends_well p (q ∷ ps) v ws e b = part_ends p q ps v ws e b

-- so the first value is read, and the others stand there
pub took : {A : Type 0} (a : ForPart A) {ps : List Part} {x : Values (a.part ∷ ps)} {old : List Placed} {ws : List Wanted} (new : List Placed) (r : A)
    → Standing (a.part ∷ ps) x old ws → IsRead a old new (Ok r) → (a.value r ≡ x.0) × Standing ps x.1 new ws
took a {ps} {x} {old} {ws} new r s f =
    let e = and_parts (ends a.part ps) (all_end ps) s.end in
    let g = f x.0 (values_text ps x.1 ++ ws) s.short.0 (ends_well a.part ps x.1 ws e.0 s.begins) (subst (λ z. Front old z []) (append_assoc (value_text a.part x.0) (values_text ps x.1) ws) s.front) in
    (g.0, record { short = s.short.1; end = e.1; begins = s.begins; front = g.1 })

pub missed : {A : Type 0} (a : ForPart A) {ps : List Part} {x : Values (a.part ∷ ps)} {old : List Placed} {ws : List Wanted} (new : List Placed)
    (m : Miss)
    → Standing (a.part ∷ ps) x old ws → IsRead a old new (Err m) → m ≡ misses.OutOfMemory
missed a {ps} {x} {old} {ws} new m s f =
    let e = and_parts (ends a.part ps) (all_end ps) s.end in
    f x.0 (values_text ps x.1 ++ ws) s.short.0 (ends_well a.part ps x.1 ws e.0 s.begins) (subst (λ z. Front old z []) (append_assoc (value_text a.part x.0) (values_text ps x.1) ws) s.front)

-- a new name is written as any other
pub fresh_name : {q : Part} {ps : List Part} {x : Values (parts.Fresh ∷ q ∷ ps)} {ts : List Placed} {ws : List Wanted} → Standing (parts.Fresh ∷ q ∷ ps) x ts ws → Standing (parts.Name ∷ q ∷ ps) x ts ws
fresh_name s = record { short = s.short; end = s.end; begins = s.begins; front = s.front }

-- both parts of a pair
pub pair_is : {A B : Type 0} {x : A × B} (a : A) (b : B) → a ≡ x.0 → b ≡ x.1 → (a, b) ≡ x
pair_is {A} {B} {x} a b e f = subst (λ z. (a, z) ≡ x) (sym f) (subst (λ z. (z, x.1) ≡ x) (sym e) refl)

-- what holds of operands of the form that was read
at_form : {f g : CommandForm} (P : (f : CommandForm) → Values (parts_of f) → List Wanted → Type 0) (ts : List Placed) → f ≡ g → ((x : Values (parts_of g)) (ws : List Wanted) → Standing (parts_of g) x ts ws → P g x ws)
    → (x : Values (parts_of f)) (ws : List Wanted) → Standing (parts_of f) x ts ws → P f x ws
at_form {f} {g} P ts e h = subst (λ z. (x : Values (parts_of z)) (ws : List Wanted) → Standing (parts_of z) x ts ws → P z x ws) (sym e) h

-- a command that is made of what was read
pub read_at : {f g : CommandForm} (place : Place) {c : Command} {v : Values (parts_of g)} (old new : List Placed) → f ≡ g → c ≡ made g place v
    → ((x : Values (parts_of g)) (ws : List Wanted) → Standing (parts_of g) x old ws → (v ≡ x) × Front new ws []) → IsCommandRead f place old new (Ok c)
read_at {f} {g} place {c} {v} old new e made_is only =
    at_form (λ f x ws. (c ≡ made f place x) × Front new ws []) old e (λ x ws s. let t = only x ws s in (made_is ∙ ap (made g place) t.0, t.1))

-- or memory has run out
pub missed_at : {f g : CommandForm} (place : Place) (m : Miss) (old new : List Placed) → f ≡ g
    → ((x : Values (parts_of g)) (ws : List Wanted) → Standing (parts_of g) x old ws → m ≡ misses.OutOfMemory) → IsCommandRead f place old new (Err m)
missed_at place m old new e only = at_form (λ f x ws. m ≡ misses.OutOfMemory) old e only
