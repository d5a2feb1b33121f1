use Rattle.std.proofs.Common.{◌≡◌, ◌+◌, ◌++◌, map, length, drop, sum}
use Rattle.track.specs.Tracks.{piece_of}
use Rattle.bundle.specs.Items.{items}
use Rattle.bundle.specs.Bundles.{pieces_at}
use Rattle.bundle.proofs.bundles.cut.Given as goal

-- the first tracks are cut out, and what is left is the others
abbrev pub invariant-loop-number : goal.invariant-loop-number
invariant-loop-number l =
    (map piece_of (items l.tracks) ++ pieces_at l.number l.end (drop l.number l.lengths) l.left ≡ pieces_at 0 l.start l.lengths l.body)
    × (sum (drop l.number l.lengths) ≡ length l.left) × (l.end + length l.left ≡ l.start + length l.body) × (l.tracks.count ≡ l.number)
