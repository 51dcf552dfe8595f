use Rattle.std.proofs.Common.{length, ◌-◌, ◌≡◌, ◌≤◌, take, ◌++◌}
use Rattle.std.specs.Option.{option_map}
use Rattle.outside.proofs.whole.put_all.Given as goal

-- the bytes done were taken, without a fault
abbrev pub invariant-pieces : goal.invariant-pieces
invariant-pieces g l = record {
  within : l.done ≤ length l.bytes;
  taken : g.W.Sink.taken l.sink ≡ option_map (λ t. t ++ take l.done l.bytes) (g.W.Sink.taken l.fn.sink);
  faults : g.W.Sink.faults l.sink ≡ g.W.Sink.faults l.fn.sink;
  room : g.W.Sink.room l.sink ≡ option_map (λ r. r - l.done) (g.W.Sink.room l.fn.sink);
}

abbrev pub decreases-pieces : goal.decreases-pieces
decreases-pieces g l = length l.bytes - l.done
