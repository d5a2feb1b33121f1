-- The tracks of a bundle as a list.
use Rattle.std.specs.Prelude.{List, take}
use Rattle.track.specs.declared.tracks.Track.{Track}
use Rattle.bundle.specs.declared.tracks.Tracks.{Tracks}

abbrev pub items : Tracks → List Track
items ts = take ts.count ts.all
