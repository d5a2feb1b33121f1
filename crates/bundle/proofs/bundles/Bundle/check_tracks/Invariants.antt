use Rattle.std.proofs.Common.{◌≡◌, map, drop}
use Rattle.track.specs.Tracks.{piece_of}
use Rattle.bundle.specs.Bundles.{contents, faultless}
use Rattle.bundle.proofs.bundles.Bundle.check_tracks.Given as goal

abbrev pub invariant-loop-track : goal.invariant-loop-track
invariant-loop-track l = faultless (map piece_of l.track-items) (contents l.self) ≡ faultless (map piece_of (drop l.track-index l.track-items)) (contents l.self)
