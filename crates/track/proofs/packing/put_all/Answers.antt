use Rattle.std.proofs.Common.{rules}
use Rattle.number.proofs.Puts.{put_turn}
use Rattle.track.proofs.packing.put_all.Goals as goal

pub loop-item-preserved : goal.loop-item-preserved
loop-item-preserved g c = search (rules, put_turn)
