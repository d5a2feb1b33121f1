use Rattle.std.proofs.Common.{[], refl, arith}
use Rattle.std.proofs.lemmas.List.{length-append}
use Rattle.track.proofs.Walks.{walked_none, walked_more, walked_stop, walked_end}
use Rattle.track.proofs.tracks.Track.check.Goals as goal

pub loop-entry-init : goal.loop-entry-init
loop-entry-init c = ([], grind (arith, walked_none), refl)

pub returns-in_err-entry : goal.returns-in_err-entry
returns-in_err-entry c = grind (arith, walked_stop _ _ _ c.loop-entry.invariant.1 _ _ c.in-Some.ensures.steps _ c.in_err-entry.was)

pub loop-entry-preserved : goal.loop-entry-preserved
loop-entry-preserved c = (_, walked_more _ _ _ c.loop-entry.invariant.1 _ _ c.in-Some.ensures.steps _ c.in_ok-entry.was, grind (arith, length-append))

pub returns : goal.returns
returns c = grind (arith, walked_end _ _ _ c.loop-entry.invariant.1 _ c.in-None.ensures.steps)
