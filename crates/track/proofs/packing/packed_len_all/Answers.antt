use Rattle.track.proofs.NumberPacking.{summed_more}
use Rattle.track.proofs.packing.packed_len_all.Goals as goal

pub loop-n-preserved : goal.loop-n-preserved
loop-n-preserved c = summed_more _ _ _ c.loop-n.invariant 0 c.loop-n-test.true _ c.if-n-ge-NUMBER_END.false c.packed_len-len.ensures.is
