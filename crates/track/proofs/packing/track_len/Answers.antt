use Rattle.track.proofs.ListPacking.{measured_first, measured_more}
use Rattle.track.proofs.packing.track_len.Goals as goal

pub returns-in_err-len : goal.returns-in_err-len
returns-in_err-len c = rw c.from_residual.ensures (λ all. c.in_err-len.ensures.is (measured_first _ _ _ _ c.loop-entry.invariant _ c.loop-entry-test.true all))

pub loop-entry-preserved : goal.loop-entry-preserved
loop-entry-preserved c = measured_more _ _ _ _ c.loop-entry.invariant _ c.loop-entry-test.true _ c.in_ok-len.ensures.is.0 c.in_ok-len.ensures.is.1 c.in_ok-len.ensures.bound
