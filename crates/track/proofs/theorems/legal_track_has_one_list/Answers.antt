use Rattle.track.proofs.TrackLaws.{legal_track_has_one_list}
use Rattle.track.proofs.theorems.legal_track_has_one_list.Goals as goal

pub returns : goal.returns
returns c = legal_track_has_one_list
