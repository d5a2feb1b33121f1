use Rattle.track.proofs.TrackLaws.{record_one_packing}
use Rattle.track.proofs.theorems.record_has_one_packing.Goals as goal

pub returns : goal.returns
returns c = record_one_packing
