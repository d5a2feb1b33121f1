use Rattle.std.proofs.Common.{arith}
use Rattle.std.proofs.lemmas.List.{take_at}
use Rattle.track.proofs.TrackLaws.{track_read_back}
use Rattle.track.proofs.ListPacking.{packed_each}
use Rattle.track.proofs.packing.pack_track.Goals as goal

pub returns-clause-read_back : goal.returns-clause-read_back
returns-clause-read_back c = λ end track. grind (arith, track_read_back end track c.args.entries.now, packed_each, take_at)
