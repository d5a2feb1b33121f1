use Rattle.std.proofs.Common.{◌≡◌, List, ◌++◌, length}
use Rattle.std.specs.String.{string_bytes}
use Rattle.track.specs.Tracks.{Timed}
use Rattle.track.proofs.Walks.{Walked}
use Rattle.listing.specs.Text.{lines_text}
use Rattle.listing.proofs.push_track.Given as goal

abbrev pub invariant-loop-entry : goal.invariant-loop-entry
invariant-loop-entry l =
    (done : List Timed) × Walked l.track done l.entry-iterator × (l.records ≡ length done) × (string_bytes l.out ≡ string_bytes l.initial.out ++ lines_text l.track.number 0 done)
