use Rattle.std.proofs.Common.{take}
use Rattle.std.specs.List.{flat_map}
use Rattle.number.specs.Packed.{Put}
use Rattle.track.proofs.packing.put_all.Given as goal

abbrev pub invariant-loop-item : goal.invariant-loop-item
invariant-loop-item g l = Put (flat_map g.T.Packable.bytes (take l.item-index l.items)) l.initial.out l.out l.at
