use Rattle.std.proofs.Common.{◌≡◌, ℕ, ◌*◌, ◌/◌, ◌^◌, ◌<◌, length, get_or}
use Rattle.number.specs.Numbers.{encode}
use Rattle.number.proofs.put.Given as goal

-- the groups before byte-index are written, and one at least is not
abbrev pub invariant-loop-byte : goal.invariant-loop-byte
invariant-loop-byte l = (l.left ≡ l.n / 2 ^ (l.byte-index * 7)) × (l.byte-index < length (encode l.n)) × ((k : ℕ) → k < l.byte-index → get_or l.out k 0 ≡ get_or (encode l.n) k 0)
