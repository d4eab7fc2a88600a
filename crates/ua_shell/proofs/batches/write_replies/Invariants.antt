use Rattle.std.proofs.Common.{◌≤◌, map, take}
use Rattle.std.specs.Io.KnownBytes.{Appends}
use Rattle.ua_shell.specs.inner.Hearing.{bytes_of}
use Rattle.ua_shell.proofs.batches.write_replies.Given as goal

-- the replies so far are written
abbrev pub invariant-loop-reply : goal.invariant-loop-reply
invariant-loop-reply g l = record {
  appended : Appends (g.K.Sink.written l.fn.sink) (g.K.Sink.written l.sink) (bytes_of (map (λ v. v.items) (take l.reply-index l.replies)));
  never_falls : g.K.Sink.faults l.fn.sink ≤ g.K.Sink.faults l.sink;
}
