use Rattle.std.proofs.Common.{[], ◌∷◌, ◌++◌, refl, sym, append-nil, append_assoc, arith}
use Rattle.std.proofs.lemmas.List.{length-append}
use Rattle.track.specs.Tracks.{view_entry}
use Rattle.track.proofs.Walks.{walked_none, walked_more, walked_stop, walked_end}
use Rattle.listing.proofs.Lines.{lines_push}
use Rattle.listing.proofs.push_track.Goals as goal

pub loop-entry-init : goal.loop-entry-init
loop-entry-init c = ([], grind (arith, walked_none), refl, sym (append-nil _))

pub returns-in_err-stamp : goal.returns-in_err-stamp
returns-in_err-stamp c = grind (arith, walked_stop _ _ _ c.loop-entry.invariant.1 _ _ c.in-Some.ensures.steps _ c.in_err-stamp.was)

pub loop-entry-preserved : goal.loop-entry-preserved
loop-entry-preserved c =
    let w = c.loop-entry.invariant in
    let more = walked_more _ w.0 _ w.1 _ _ c.in-Some.ensures.steps _ c.in_ok-stamp.was in
    (w.0 ++ view_entry c.in_ok-stamp.entry ∷ [], more, grind (arith, length-append), grind (arith, append_assoc, lines_push))

pub returns : goal.returns
returns c = grind (arith, append_assoc, walked_end _ _ _ c.loop-entry.invariant.1 _ c.in-None.ensures.steps)
