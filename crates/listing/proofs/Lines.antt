-- The lines of a track, one record after another.
use Rattle.std.proofs.Common.{◌≡◌, ℕ, ◌+◌, List, [], ◌∷◌, ◌++◌, append_assoc, append-nil}
use Rattle.track.specs.Tracks.{Timed, stamp_after}
use Rattle.listing.specs.Text.{line_text, lines_text}

-- one record more
pub lines_push : (track last : ℕ) (es : List Timed) (e : Timed) → lines_text track last (es ++ e ∷ []) ≡ lines_text track last es ++ line_text (stamp_after last es + e.difference) track e.what
lines_push track last [] e = simp append-nil
lines_push track last (x ∷ es) e = simp (lines_push track (last + x.difference) es e, append_assoc)
