-- What the loop over the numbers of a record keeps.
use Rattle.std.proofs.Common.{◌≡◌, ℕ, ◌+◌, ◌*◌, ◌^◌, ◌<◌, ◌≤◌, ◌↔◌, List, length, get_or, drop, arith}
use Rattle.std.specs.List.{flat_map, AllByRecursion}
use Rattle.std.proofs.lemmas.List.{length-append, drop_more}
use Rattle.number.specs.Numbers.{encode}
use Rattle.number.proofs.NumberLaws.{encode_short}

abbrev pub Small : List ℕ → Type 0
Small ns = AllByRecursion (λ n. n < 2 ^ 42) ns

-- the first i of the numbers take len bytes, and each of them may be packed
pub record Summed (ns : List ℕ) (i len : ℕ) : Type 0 where
  pub fit : Small (drop i ns) ↔ Small ns
  pub sum : len + length (flat_map encode (drop i ns)) ≡ length (flat_map encode ns)
  pub bound : len ≤ 6 * i

pub summed_more : (ns : List ℕ) (i len : ℕ) → Summed ns i len → (d : ℕ) → i < length ns → (k : ℕ) → get_or ns i d < 2 ^ 42 → k ≡ length (encode (get_or ns i d)) → Summed ns (i + 1) (len + k)
summed_more ns i len s d lt k small e = grind (arith, length-append, drop_more ns i d, encode_short (get_or ns i d))
