use Rattle.std.proofs.Common.{rules}
use Rattle.track.proofs.TrackLaws.{entry_one}
use Rattle.track.proofs.tracks.Entry.read.Goals as goal

pub returns-clause-taken : goal.returns-clause-taken
returns-clause-taken c =
    let old = c.args.reader.now in
    entry_one old.span c.args.last old.rest.now _ _ c.read.ensures.bytes (search rules)
