-- The laws of `encode` and `decode`.
use Rattle.std.proofs.Common.{◌≡◌, ℕ, zero, suc, ◌+◌, ◌-◌, ◌*◌, ◌/◌, ◌%◌, ◌^◌, ◌<◌, ◌≤◌, min, max, List, [], ◌∷◌, ◌++◌, length, get_or, drop, set, Ok, true, refl, ap, ◌∙◌, ◌==◌, pow-suc, ⊎_elim, arith, rules}
use Rattle.std.proofs.Math.Nat.{one-le-pow}
use Rattle.std.proofs.Math.Pow.{pow_mono}
use Rattle.std.proofs.lemmas.Bool.{cases_lt, agree_below_at}
use Rattle.std.proofs.lemmas.List.{length-append}
use Rattle.std.specs.Int.Bits.{bit_or, or_add_and}
use Rattle.std.proofs.lemmas.Nat.{and_mask, div_below, pow-add, shr-shr}
use Rattle.number.specs.declared.TheConstants.{GROUPS}
use Rattle.number.specs.Numbers.{Got, above, decode_in, encode_in, decode, encode, Bytes, NumberReadBack, NumberOnePacking, NumberExamples}

-- more groups than needed change nothing
same_in : (k n : ℕ) → n < 128 ^ k → 0 < k → encode_in (suc k) n ≡ encode_in k n
same_in zero n h p = grind arith
same_in (suc zero) n h p = grind arith
same_in (suc (suc k)) n h p = grind (arith, pow-suc, div_below, same_in (suc k) (n / 128))

short_in : (k n : ℕ) → length (encode_in k n) ≤ k
short_in zero n = grind arith
short_in (suc k) n = grind (arith, short_in k (n / 128))

pub encode_one : (n : ℕ) → n < 128 → encode n ≡ n ∷ []
unfolding encode
encode_one n h = grind arith

-- a number of one group is put into a slice
pub put_one : (n : ℕ) (bs : List ℕ) → n < 128 → 0 < length bs → set bs 0 n ≡ encode n ++ drop 1 bs
put_one n [] h some = grind arith
put_one n (b ∷ bs) h some = grind (arith, encode_one)

pub encode_more : (n : ℕ) → n < 2 ^ 42 → 128 ≤ n → encode n ≡ (n % 128 + 128) ∷ encode (n / 128)
unfolding encode
encode_more n h m = grind (arith, same_in)

above_ok : (b : ℕ) (g : Got) (n : ℕ) (rest : List ℕ) → above b g ≡ Ok (n, rest) → (h : ℕ) × (g ≡ Ok (h, rest)) × (h ≡ 0 → ⊥) × (n ≡ h * 128 + (b - 128))
above_ok b g n rest p = grind arith

-- what at most k groups give are their one encoding
one_in : (k : ℕ) (bs rest : List ℕ) (n : ℕ) → k ≤ 6 → Bytes bs → decode_in k bs ≡ Ok (n, rest) → (n < 128 ^ k) × (bs ≡ encode_in k n ++ rest)
one_in zero [] rest n h bytes e = grind arith
one_in zero (b ∷ bs) rest n h bytes e = grind arith
one_in (suc k) [] rest n h bytes e = grind arith
one_in (suc k) (b ∷ bs) rest n h bytes e = ⊎_elim
    (λ low. grind (arith, pow-suc 128 k, one-le-pow k 128))
    (λ high.
    let tail : Bytes bs = λ i. bytes (suc i) in
    let p = above_ok b (decode_in k bs) n rest (grind arith) in
    grind (arith, pow-suc 128 k, bytes 0, one_in k bs rest p.0))
    (cases_lt b 128)

pub number_one_packing : NumberOnePacking
unfolding encode decode
number_one_packing bs rest n bytes e = one_in 6 bs rest n (omega arith) bytes e

pub encode_some : (n : ℕ) → 0 < length (encode n)
unfolding encode
encode_some n = grind arith

pub encode_short : (n : ℕ) → length (encode n) ≤ 6
unfolding encode
encode_short n = short_in 6 n

pub shorter : (bs rest : List ℕ) (n : ℕ) → bs ≡ encode n ++ rest → length rest < length bs
shorter bs rest n e = grind (arith, length-append, encode_some)

pub number_read_back : NumberReadBack
unfolding encode decode
number_read_back n rest h = search rules

pub number_examples : NumberExamples
unfolding encode decode
number_examples = search rules

-- a group for each seven bits that n has up to its highest, which k is the place of
length_in : (j n k : ℕ) → 2 ^ k ≤ max n 1 → n < 2 * 2 ^ k → length (encode_in (suc j) n) ≡ min (k / 7 + 1) (suc j)
length_in zero n k low high = grind arith
length_in (suc j) n k low high = grind (arith, pow_mono {i = 7} {j = k}, pow_mono {i = k} {j = 6}, pow-add 2 (k - 7) 7, length_in j (n / 128) (k - 7))

pub length_encode : (n k : ℕ) → 2 ^ k ≤ max n 1 → max n 1 < 2 * 2 ^ k → length (encode n) ≡ min (k / 7 + 1) 6
unfolding encode
length_encode n k low high = length_in 5 n k low (omega arith)

pub odd_some : (n : ℕ) → 0 < bit_or n 1
odd_some n = omega (arith, or_add_and n 1, and_mask n 1)

-- the highest bit of n, or of 1 where n has none
top_bit : (n k : ℕ) → 2 ^ k ≤ bit_or n 1 → bit_or n 1 < 2 * 2 ^ k → (2 ^ k ≤ max n 1) × (max n 1 < 2 * 2 ^ k)
top_bit n zero low high = omega (arith, or_add_and n 1, and_mask n 1)
top_bit n (suc k) low high = omega (arith, or_add_and n 1, and_mask n 1, pow-suc 2 k)

-- the table of lengths
pub groups_at : (n k : ℕ) → k < 64 → 2 ^ k ≤ bit_or n 1 → bit_or n 1 < 2 * 2 ^ k → (get_or GROUPS (63 - k) 0 ≡ length (encode n)) × (get_or GROUPS (63 - k) 0 ≤ 6)
groups_at n k lt low high =
    let row = agree_below_at (λ i. get_or GROUPS (63 - i) 0 == min (i / 7 + 1) 6) (λ _. true) 64 k refl lt in
    let top = top_bit n k low high in
    grind (arith, length_encode n k top.0 top.1, row)

-- what is left of n after one group more
pub next_left : (i n : ℕ) → n / 2 ^ (i * 7) / 128 ≡ n / 2 ^ ((i + 1) * 7)
next_left i n = shr-shr n (i * 7) 7 ∙ ap (λ k. n / 2 ^ k) (omega arith)

-- group i of n, which goes on in all but the last
pub group_at : (i n : ℕ) → n < 2 ^ 42 → i < length (encode n) → (i + 1 < length (encode n) → get_or (encode n) i 0 ≡ n / 2 ^ (i * 7) % 128 + 128) × (length (encode n) ≤ i + 1 → get_or (encode n) i 0 ≡ n / 2 ^ (i * 7) % 128)
group_at zero n h lt = grind (arith, encode_one, encode_more, encode_some)
group_at (suc i) n h lt = grind (arith, encode_one, encode_more, shr-shr n 7 (i * 7), group_at i (n / 128))

-- what is left of n for the last group
pub last_left : (i n : ℕ) → n < 2 ^ 42 → length (encode n) ≤ i + 1 → n / 2 ^ (i * 7) < 128
last_left zero n h short = grind (arith, encode_more, encode_some)
last_left (suc i) n h short = grind (arith, encode_one, encode_more, shr-shr n 7 (i * 7), last_left i (n / 128))

pub few_left : (i n : ℕ) → n < 2 ^ 42 → i < length (encode n) → n / 2 ^ (i * 7) < 128 → length (encode n) ≡ i + 1
few_left zero n h lt few = grind (arith, encode_one)
few_left (suc i) n h lt few = grind (arith, encode_one, encode_more, shr-shr n 7 (i * 7), few_left i (n / 128))
