use Rattle.std.proofs.Common.{◌≡◌, List, length}
use Rattle.track.specs.Tracks.{Timed}
use Rattle.track.proofs.Walks.{Walked}
use Rattle.track.proofs.tracks.Track.check.Given as goal

abbrev pub invariant-loop-entry : goal.invariant-loop-entry
invariant-loop-entry l =
    (done : List Timed) × Walked l.self done l.entry-iterator × (l.records ≡ length done)
