use Rattle.std.proofs.Common.{rules}
use Rattle.number.proofs.Puts.{put_more}
use Rattle.track.proofs.packing.EntryPackable.put.Goals as goal

pub returns : goal.returns
returns c = search (rules, put_more)
