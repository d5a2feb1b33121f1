use Rattle.std.proofs.Common.{length}
use Rattle.bundle.proofs.LengthReading.{Lengths}
use Rattle.bundle.proofs.bundles.read_lengths.Given as goal

abbrev pub invariant-loop-length : goal.invariant-loop-length
invariant-loop-length l = Lengths l.initial.reader (length l.initial.length-items) l.length-index l.length-items l.reader
