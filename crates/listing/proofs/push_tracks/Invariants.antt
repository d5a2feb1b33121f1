use Rattle.std.proofs.Common.{◌≡◌, ◌++◌, map, take}
use Rattle.std.specs.String.{string_bytes}
use Rattle.std.specs.List.{flat_map}
use Rattle.track.specs.Tracks.{piece_of}
use Rattle.listing.specs.Text.{track_text}
use Rattle.listing.proofs.push_tracks.Given as goal

abbrev pub invariant-loop-track : goal.invariant-loop-track
invariant-loop-track l = string_bytes l.out ≡ string_bytes l.initial.out ++ flat_map track_text (map piece_of (take l.track-index l.track-items))
