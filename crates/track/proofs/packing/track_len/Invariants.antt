use Rattle.track.proofs.ListPacking.{Measured}
use Rattle.track.proofs.packing.track_len.Given as goal

abbrev pub invariant-loop-entry : goal.invariant-loop-entry
invariant-loop-entry l = Measured l.entries l.entry-index l.last l.len
