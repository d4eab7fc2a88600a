use Rattle.std.proofs.Common.{◌≤◌, ◌<◌, length, drop}
use Rattle.ua_jobs.specs.declared.batches.TheConstants.{JOBS}
use Rattle.ua_reply.specs.Sessions.{bounds_of}
use Rattle.ua_shell.proofs.Pending.{HasHeard}
use Rattle.ua_shell.proofs.batches.serve_batches.Given as goal

-- the items so far are served, but for what was heard since
abbrev pub invariant-loop-item : goal.invariant-loop-item
invariant-loop-item g l = record {
  served : HasHeard (bounds_of l.run) l.items (g.K.Sink.written l.fn.sink) (g.K.Sink.written l.sink) l.session l.heard.items (drop l.item-index l.items);
  few : length l.heard.items < JOBS;
  never_falls : g.K.Sink.faults l.fn.sink ≤ g.K.Sink.faults l.sink;
}
