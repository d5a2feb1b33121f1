use Rattle.track.proofs.NumberPacking.{Summed}
use Rattle.track.proofs.packing.packed_len_all.Given as goal

abbrev pub invariant-loop-n : goal.invariant-loop-n
invariant-loop-n l = Summed l.ns l.n-index l.len
