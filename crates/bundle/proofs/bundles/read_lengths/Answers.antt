use Rattle.std.proofs.Common.{arith}
use Rattle.bundle.proofs.LengthReading.{lengths_more, lengths_stop, lengths_end}
use Rattle.bundle.proofs.bundles.read_lengths.Goals as goal

pub returns-in_err-length-clause-is : goal.returns-in_err-length-clause-is
returns-in_err-length-clause-is c = grind (arith, lengths_stop _ _ _ _ _ c.loop-length.invariant c.loop-length-test.true _ c.in_err-length.ensures.is)

pub loop-length-preserved : goal.loop-length-preserved
loop-length-preserved c =
    let told = c.in_ok-length.ensures in
    lengths_more _ _ _ _ _ c.loop-length.invariant c.loop-length-test.true _ _ told.bound told.is.0 told.is.1

pub returns : goal.returns
returns c = grind (arith, lengths_end _ _ _ _ _ c.loop-length.invariant)
