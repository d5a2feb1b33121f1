use Rattle.std.proofs.Common.{◌≡◌, ◌*◌, ◌≤◌, take, length}
use Rattle.std.specs.List.{flat_map}
use Rattle.listing.specs.Text.{shown}
use Rattle.listing.proofs.show.Given as goal

abbrev pub invariant-loop-byte : goal.invariant-loop-byte
invariant-loop-byte l = (l.len ≤ 4 * l.byte-index) × (length l.text ≡ 128) × (take l.len l.text ≡ flat_map shown (take l.byte-index l.piece))
