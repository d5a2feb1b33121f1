use Rattle.std.proofs.Common.{◌+◌}
use Rattle.number.proofs.NumberReading.{Kept}
use Rattle.number.proofs.read_groups.Given as goal

-- the first group, and i of the others
abbrev pub invariant-loop-i : goal.invariant-loop-i
invariant-loop-i l = Kept l.bytes (l.i + 1) l.value
