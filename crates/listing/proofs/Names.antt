-- The text of a name is ASCII.
use Rattle.std.proofs.Common.{ℕ, zero, suc, ◌<◌, List, [], ◌∷◌, get_or, arith}
use Rattle.std.specs.List.{flat_map}
use Rattle.std.specs.Str.{IsAscii}
use Rattle.std.proofs.lemmas.Str.{IsAscii-append}
use Rattle.listing.specs.Text.{hex_digit, shown}

digit_low : (n : ℕ) → n < 16 → hex_digit n < 128
digit_low n h = grind arith

one_ascii : (b : ℕ) → b < 256 → IsAscii (shown b)
one_ascii b h i = grind (arith, digit_low)

pub shown_ascii : (bs : List ℕ) → ((i : ℕ) → get_or bs i 0 < 256) → IsAscii (flat_map shown bs)
shown_ascii [] h i = omega arith
shown_ascii (b ∷ bs) h i = IsAscii-append (shown b) (flat_map shown bs) (one_ascii b (h zero)) (shown_ascii bs (λ i. h (suc i))) i
