-- What is served so far where commands are heard before they are answered.
use Rattle.std.proofs.Common.{◌≡◌, ℕ, ◌+◌, ◌-◌, ◌≤◌, length, arith, List, [], ◌∷◌, ◌++◌, Option, take, drop, refl, sym, ◌∙◌, ap, subst, inl, inr, append_assoc, append-nil}
use Rattle.std.proofs.lemmas.Bool.{cases_lt}
use Rattle.std.proofs.lemmas.List.{take-append-le, take-take, length-take, take_all}
use Rattle.std.proofs.Math.Seq.{take-append-add}
use Rattle.std.specs.List.{AllByRecursion}
use Rattle.std.specs.Io.KnownBytes.{Appends}
use Rattle.std.proofs.KnownBytes.{Appends-trans, Appends-nil}
use Rattle.ua_table.proofs.Lists.{all_push}
use Rattle.ua_io.specs.Faults.{AppendsFront}
use Rattle.ua_text.specs.declared.named.Block.{Block}
use Rattle.ua_script.specs.declared.script.Command.{Command}
use Rattle.ua_script.specs.declared.script.Item.{Item}
use Rattle.ua_script.specs.declared.script.Item.TheVariants as items
use Rattle.ua_jobs.specs.Harvests.{AnswerEach}
use Rattle.ua_reply.specs.Sessions.{Bounds}
use Rattle.ua_answer.specs.Replies.{Reply, PlainReply}
use Rattle.ua_shell.specs.declared.hearing.Heard.{Heard}
use Rattle.ua_shell.specs.declared.hearing.Heard.TheVariants.{Said, Asked}
use Rattle.ua_shell.specs.Outputs.{OutputFrom, BegunFrom}
use Rattle.ua_shell.specs.declared.serve.Served.{Served}
use Rattle.ua_shell.specs.declared.serve.Served.TheVariants as served
use Rattle.ua_shell.specs.Served.{IsWritten, Serves}
use Rattle.ua_shell.specs.Hearing.{Tells}
use Rattle.ua_shell.specs.inner.Hearing.{IsReady, IsHeard, Hears, AreTold, TellsAll, bytes_of}
use Rattle.ua_shell.proofs.Serving.{Serving, serving_start, serving_block, serving_command, serving_stop, serving_cut, serving_end, Rose_since}

-- ---- a session that grows

-- the session s is the front of t
abbrev Kept : List Block → List Block → Type 0
Kept s t = take (length s) t ≡ s

kept_length : (s t : List Block) → Kept s t → length s ≤ length t
kept_length s t kept =
    let short : length s ≡ length (take (length s) t) = ap (λ (u : List Block). length u) (sym kept) in
    let some = length-take (length s) t in
    omega (arith, short, some)

ready_more : (s t : List Block) → Kept s t → (h : Heard) → IsReady s h → IsReady t h
ready_more s t kept (Said reply) ready = tt
ready_more s t kept (Asked known command) ready = (ready.0, let within = ready.1 in let long = kept_length s t kept in omega (arith, within, long))

all_ready_more : (s t : List Block) → Kept s t → (hs : List Heard) → AllByRecursion (IsReady s) hs → AllByRecursion (IsReady t) hs
all_ready_more s t kept [] ready = tt
all_ready_more s t kept (h ∷ hs) ready = (ready_more s t kept h ready.0, all_ready_more s t kept hs ready.1)

-- what is told of what was heard is so in the session that it was heard in
told_before : (s t : List Block) (b : Bounds) → Kept s t → (h : Heard) → IsReady s h → (bytes : List ℕ) → Tells t b h bytes → Tells s b h bytes
told_before s t b kept (Said reply) ready bytes told = told
told_before s t b kept (Asked known command) ready bytes told =
    let same : take known t ≡ take known s = sym (take-take known (length s) t ready.1) ∙ ap (λ (u : List Block). take known u) kept in
    subst (λ (u : List Block). PlainReply u b command.now bytes) same told

each_before : (s t : List Block) (b : Bounds) → Kept s t → (hs : List Heard) → AllByRecursion (IsReady s) hs → (replies : List (List ℕ)) → AnswerEach (Tells t b) hs replies → AnswerEach (Tells s b) hs replies
each_before s t b kept [] ready [] each = tt
each_before s t b kept [] ready (r ∷ rs) each = each
each_before s t b kept (h ∷ hs) ready [] each = each
each_before s t b kept (h ∷ hs) ready (r ∷ rs) each = (told_before s t b kept h ready.0 r each.0, each_before s t b kept hs ready.1 rs each.1)

-- ---- one reply more

-- the replies to all but the last, and the last one
record EndWith (s : List Block) (b : Bounds) (hs : List Heard) (h : Heard) (replies : List (List ℕ)) : Type 0 where
  first : List (List ℕ)
  each : AnswerEach (Tells s b) hs first
  last : List ℕ
  told : Tells s b h last
  bytes : bytes_of replies ≡ bytes_of first ++ last

ends_with : (s : List Block) (b : Bounds) (hs : List Heard) (h : Heard) (replies : List (List ℕ)) → AnswerEach (Tells s b) (hs ++ h ∷ []) replies → EndWith s b hs h replies
ends_with s b [] h [] each = absurd each
ends_with s b [] h (r ∷ []) each = record { first = []; each = tt; last = r; told = each.0; bytes = append-nil r }
ends_with s b [] h (r ∷ q ∷ rs) each = absurd each.1
ends_with s b (g ∷ hs) h [] each = absurd each
ends_with s b (g ∷ hs) h (r ∷ rs) each =
    let rest = ends_with s b hs h rs each.1 in
    record {
      first = r ∷ rest.first;
      each = (each.0, rest.each);
      last = rest.last;
      told = rest.told;
      bytes = ap (λ bytes. r ++ bytes) rest.bytes ∙ sym (append_assoc r (bytes_of rest.first) rest.last);
    }

-- no replies to nothing
no_bytes : (s : List Block) (b : Bounds) (replies : List (List ℕ)) → AnswerEach (Tells s b) [] replies → bytes_of replies ≡ []
no_bytes s b [] each = refl
no_bytes s b (r ∷ rs) each = absurd each

-- ---- what is served, and what is heard since

-- What is written so far. Whatever tells what was heard since goes on with it, and so does the front of that.
pub record HasHeard (b : Bounds) (whole : List Item) (old new : Option (List ℕ)) (s : List Block) (heard : List Heard) (rest : List Item) : Type 0 where
  pub sofar : List ℕ
  pub appended : Appends old new sofar
  pub begun : BegunFrom [] b whole sofar
  pub serving : (replies : List (List ℕ)) → AnswerEach (Tells s b) heard replies → Serving b whole s rest (sofar ++ bytes_of replies)
  pub cut : (replies : List (List ℕ)) (n : ℕ) → AnswerEach (Tells s b) heard replies → BegunFrom [] b whole (sofar ++ take n (bytes_of replies))
  pub ready : AllByRecursion (IsReady s) heard

-- where nothing is heard
quiet : (b : Bounds) (whole : List Item) (old new : Option (List ℕ)) (s : List Block) (rest : List Item) (sofar : List ℕ) → Appends old new sofar → Serving b whole s rest sofar → HasHeard b whole old new s [] rest
quiet b whole old new s rest sofar appended serving =
    let stop : BegunFrom [] b whole sofar = serving_stop b whole s rest sofar serving in
    record {
      sofar = sofar;
      appended = appended;
      begun = stop;
      serving = λ replies each. subst (Serving b whole s rest) (sym (ap (λ bytes. sofar ++ bytes) (no_bytes s b replies each) ∙ append-nil sofar)) serving;
      cut = λ replies n each. subst (BegunFrom [] b whole)
          (sym (ap (λ bytes. sofar ++ take n bytes) (no_bytes s b replies each) ∙ ap (λ bytes. sofar ++ bytes) (take_all n [] (omega arith)) ∙ append-nil sofar)) stop;
      ready = tt;
    }

pub heard_start : (b : Bounds) (whole : List Item) (old : Option (List ℕ)) (s : List Block) (heard : List Heard) → s ≡ [] → heard ≡ [] → HasHeard b whole old old s heard whole
heard_start b whole old s heard e f =
    subst (λ (t : List Block). HasHeard b whole old old t heard whole) (sym e)
    (subst (λ (hs : List Heard). HasHeard b whole old old [] hs whole) (sym f) (quiet b whole old old [] whole [] (Appends-nil old) (serving_start b whole)))

heard_block : (b : Bounds) (whole : List Item) (old new : Option (List ℕ)) (s t : List Block) (heard : List Heard) (k : Block) (i : ℕ) → drop i whole ≡ items.Block k ∷ drop (i + 1) whole → t ≡ s ++ k ∷ []
    → HasHeard b whole old new s heard (drop i whole) → HasHeard b whole old new t heard (drop (i + 1) whole)
heard_block b whole old new s t heard k i e f h =
    let kept : Kept s t = ap (λ (u : List Block). take (length s) u) f ∙ take-append-le (length s) s (k ∷ []) (omega arith) ∙ take_all (length s) s (omega arith) in
    let before : (replies : List (List ℕ)) → AnswerEach (Tells t b) heard replies → AnswerEach (Tells s b) heard replies = each_before s t b kept heard h.ready in
    record {
      sofar = h.sofar;
      appended = h.appended;
      begun = h.begun;
      serving = λ replies each. subst (λ (u : List Block). Serving b whole u (drop (i + 1) whole) (h.sofar ++ bytes_of replies)) (sym f)
          (serving_block b whole s k (drop (i + 1) whole) (h.sofar ++ bytes_of replies) (subst (λ (is : List Item). Serving b whole s is (h.sofar ++ bytes_of replies)) e (h.serving replies (before replies each))));
      cut = λ replies n each. h.cut replies n (before replies each);
      ready = all_ready_more s t kept heard h.ready;
    }

-- the front of some replies and of one more
cut_more : (b : Bounds) (whole : List Item) (s t : List Block) (c : Command) (rest : List Item) (sofar xs reply : List ℕ) (n : ℕ) → Reply s b c reply t → Serving b whole s (items.Command c ∷ rest) (sofar ++ xs)
    → BegunFrom [] b whole (sofar ++ take n xs) → BegunFrom [] b whole (sofar ++ take n (xs ++ reply))
cut_more b whole s t c rest sofar xs reply n said serving front = elim (cases_lt (length xs) n) [
  | inl far ↦
      let more : n ≡ length xs + (n - length xs) = omega (arith, far) in
      let split : take n (xs ++ reply) ≡ xs ++ take (n - length xs) reply = ap (λ m. take m (xs ++ reply)) more ∙ take-append-add xs reply (n - length xs) in
      subst (BegunFrom [] b whole) (append_assoc sofar xs (take (n - length xs) reply) ∙ ap (λ bytes. sofar ++ bytes) (sym split)) (serving_cut b whole s t c rest (sofar ++ xs) reply (n - length xs) said serving)
  | inr near ↦ subst (λ bytes. BegunFrom [] b whole (sofar ++ bytes)) (sym (take-append-le n xs reply near)) front
]

heard_command : (b : Bounds) (whole : List Item) (old new : Option (List ℕ)) (s t : List Block) (heard more : List Heard) (c : Command) (h : Heard) (i : ℕ) → drop i whole ≡ items.Command c ∷ drop (i + 1) whole → IsHeard b c s t h
    → more ≡ heard ++ h ∷ [] → HasHeard b whole old new s heard (drop i whole) → HasHeard b whole old new t more (drop (i + 1) whole)
heard_command b whole old new s t heard more c h i e is f has =
    let rest = drop (i + 1) whole in
    let before : (replies : List (List ℕ)) → AnswerEach (Tells t b) heard replies → AnswerEach (Tells s b) heard replies = each_before s t b is.kept heard has.ready in
    let here : (replies : List (List ℕ)) → AnswerEach (Tells s b) heard replies → Serving b whole s (items.Command c ∷ rest) (has.sofar ++ bytes_of replies) =
    λ replies each. subst (λ (is : List Item). Serving b whole s is (has.sofar ++ bytes_of replies)) e (has.serving replies each) in
    subst (λ (hs : List Heard). HasHeard b whole old new t hs rest) (sym f) (record {
      sofar = has.sofar;
      appended = has.appended;
      begun = has.begun;
      serving = λ replies each.
          let end = ends_with t b heard h replies each in
          subst (Serving b whole t rest) (append_assoc has.sofar (bytes_of end.first) end.last ∙ ap (λ bytes. has.sofar ++ bytes) (sym end.bytes))
          (serving_command b whole s t c rest (has.sofar ++ bytes_of end.first) end.last (is.says end.last end.told) (here end.first (before end.first end.each)));
      cut = λ replies n each.
          let end = ends_with t b heard h replies each in
          subst (λ bytes. BegunFrom [] b whole (has.sofar ++ take n bytes)) (sym end.bytes)
          (cut_more b whole s t c rest has.sofar (bytes_of end.first) end.last n (is.says end.last end.told) (here end.first (before end.first end.each)) (has.cut end.first n (before end.first end.each)));
      ready = all_push (IsReady t) heard h (all_ready_more s t is.kept heard has.ready) is.ready;
    })

pub heard_item : (b : Bounds) (whole : List Item) (old new : Option (List ℕ)) (s t : List Block) (before after : List Heard) (x : Item) (i : ℕ) → drop i whole ≡ x ∷ drop (i + 1) whole → Hears b x s t before after
    → HasHeard b whole old new s before (drop i whole) → HasHeard b whole old new t after (drop (i + 1) whole)
heard_item b whole old new s t before after (items.Block k) i e hears has =
    subst (λ (hs : List Heard). HasHeard b whole old new t hs (drop (i + 1) whole)) (sym hears.1) (heard_block b whole old new s t before k i e hears.0 has)
heard_item b whole old new s t before after (items.Command c) i e hears has = heard_command b whole old new s t before after c hears.0 i e hears.1 hears.2 has

-- all that was heard is told
pub heard_told : (b : Bounds) (whole : List Item) (old new after : Option (List ℕ)) (s : List Block) (heard none : List Heard) (rest : List Item) → none ≡ [] → AreTold s b heard (Appends new after)
    → HasHeard b whole old new s heard rest → HasHeard b whole old after s none rest
heard_told b whole old new after s heard none rest e told h =
    subst (λ (hs : List Heard). HasHeard b whole old after s hs rest) (sym e)
    (quiet b whole old after s rest (h.sofar ++ bytes_of told.replies) (Appends-trans old new after h.sofar (bytes_of told.replies) h.appended told.written) (h.serving told.replies told.each))

-- nothing more is told
heard_stop : (b : Bounds) (whole : List Item) (old new : Option (List ℕ)) (s : List Block) (heard : List Heard) (rest : List Item) → HasHeard b whole old new s heard rest → IsWritten old new (BegunFrom [] b whole)
heard_stop b whole old new s heard rest h = record { out = h.sofar; kind = h.begun; appended = h.appended }

-- a front of what was heard is told
heard_cut : (b : Bounds) (whole : List Item) (old new after : Option (List ℕ)) (s : List Block) (heard : List Heard) (rest : List Item) → AreTold s b heard (AppendsFront new after)
    → HasHeard b whole old new s heard rest → IsWritten old after (BegunFrom [] b whole)
heard_cut b whole old new after s heard rest told h = record {
  out = h.sofar ++ take told.written.0 (bytes_of told.replies);
  kind = h.cut told.replies told.written.0 told.each;
  appended = Appends-trans old new after h.sofar (take told.written.0 (bytes_of told.replies)) h.appended told.written.1;
}

-- all items are heard, and what was heard of them is told
heard_all : (b : Bounds) (whole : List Item) (old new after : Option (List ℕ)) (s : List Block) (heard : List Heard) (rest : List Item) → rest ≡ [] → AreTold s b heard (Appends new after)
    → HasHeard b whole old new s heard rest → IsWritten old after (OutputFrom [] b whole)
heard_all b whole old new after s heard rest none told h = record {
  out = h.sofar ++ bytes_of told.replies;
  kind = serving_end b whole s (h.sofar ++ bytes_of told.replies) (subst (λ (is : List Item). Serving b whole s is (h.sofar ++ bytes_of told.replies)) none (h.serving told.replies told.each));
  appended = Appends-trans old new after h.sofar (bytes_of told.replies) h.appended told.written;
}

-- what was heard is told, and no items are left; or it is not told
pub heard_end : {K : Type 0} (written : K → Option (List ℕ)) (faults : K → ℕ) (b : Bounds) (whole : List Item) (start old new : K) (s : List Block) (heard : List Heard) (rest : List Item) (end : Served) → (end ≡ served.Done → rest ≡ [])
    → TellsAll written faults s b heard old new end → faults start ≤ faults old → faults old ≤ faults new → HasHeard b whole (written start) (written old) s heard rest → Serves written faults b whole start new end
heard_end written faults b whole start old new s heard rest served.Done none told rose more h = heard_all b whole (written start) (written old) (written new) s heard rest (none refl) told h
heard_end written faults b whole start old new s heard rest served.WriteFault none told rose more h =
    (heard_cut b whole (written start) (written old) (written new) s heard rest told.0 h, Rose_since (faults start) (faults old) (faults new) rose more told.1)
heard_end {K} written faults b whole start old new s heard rest served.OutOfMemory none told rose more h =
    subst (λ (k : K). IsWritten (written start) (written k) (BegunFrom [] b whole)) (sym told) (heard_stop b whole (written start) (written old) s heard rest h)
