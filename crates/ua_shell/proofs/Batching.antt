-- The replies of a batch.
use Rattle.std.proofs.Common.{ℕ, List, [], ◌∷◌, map, Vec, Global}
use Rattle.ua_text.specs.declared.named.Block.{Block}
use Rattle.ua_jobs.specs.Harvests.{AnswerEach}
use Rattle.ua_reply.specs.Sessions.{Bounds}
use Rattle.ua_shell.specs.declared.hearing.Heard.{Heard}
use Rattle.ua_shell.specs.Hearing.{Tells}

-- answers that tell are texts that tell
pub each_text : (s : List Block) (b : Bounds) (hs : List Heard) (outs : List (Vec ℕ Global)) → AnswerEach (λ h (v : Vec ℕ Global). Tells s b h v.items) hs outs → AnswerEach (Tells s b) hs (map (λ (v : Vec ℕ Global). v.items) outs)
each_text s b [] [] each = tt
each_text s b [] (v ∷ vs) each = each
each_text s b (h ∷ hs) [] each = each
each_text s b (h ∷ hs) (v ∷ vs) each = (each.0, each_text s b hs vs each.1)
