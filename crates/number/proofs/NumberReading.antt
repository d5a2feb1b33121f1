-- What the loop that reads keeps.
use Rattle.std.proofs.Common.{◌≡◌, ℕ, ◌+◌, ◌-◌, ◌*◌, ◌%◌, ◌^◌, ◌<◌, ◌≤◌, cond, eqb, List, [], ◌∷◌, ◌++◌, length, get_or, take, drop, min, Ok, Err, refl, ap, ◌∙◌, add-mul, arith, rules}
use Rattle.std.specs.List.{between}
use lib.Bits.{bit_and, bit_or, or_shifted_r}
use Rattle.std.proofs.lemmas.Nat.{and_mask, shl_whole, pow-add, mul-le}
use Rattle.std.proofs.lemmas.List.{drop_more, drop_all, drop-drop, length-take, length-drop, get_or-take, get_or-drop}
use Rattle.std.proofs.lemmas.Slice.{between_to_end}
use Rattle.std.proofs.lemmas.Grind.{common_steps}
use Rattle.number.specs.declared.Flaw.TheVariants.{CutOff, TooManyGroups, NotShortest}
use Rattle.number.specs.Numbers.{Got, above, decode_in, decode, encode, Bytes}
use Rattle.number.proofs.NumberLaws.{number_one_packing, shorter}

-- what i groups of the value v, all of which go on, make of what the groups after them give
abbrev pub lift : ℕ → ℕ → Got → Got
lift i v (Err e) = Err e
lift i v (Ok w) = cond (eqb w.0 0) (cond (eqb i 0) (Ok (v, w.1)) (Err NotShortest)) (Ok (w.0 * 2 ^ (i * 7) + v, w.1))

-- the first i groups of bs go on, and their value is v
pub record Kept (bs : List ℕ) (i v : ℕ) : Type 0 where
  pub is : decode bs ≡ lift i v (decode_in (6 - i) (drop i bs))
  pub below : v < 2 ^ (i * 7)

next_power : (i : ℕ) → 2 ^ ((i + 1) * 7) ≡ 2 ^ (i * 7) * 128
next_power i = ap (λ k. 2 ^ k) (omega arith) ∙ pow-add 2 (i * 7) 7

pub spent : (k : ℕ) (bs : List ℕ) → k ≡ 0 → decode_in k bs ≡ Err TooManyGroups
spent k [] e = search rules
spent k (b ∷ bs) e = search rules

-- one group more
lift_above : (i v b : ℕ) (g : Got) → v < 2 ^ (i * 7) → lift i v (above b g) ≡ lift (i + 1) ((b - 128) * 2 ^ (i * 7) + v) g
lift_above i v b (Err e) h = refl
lift_above i v b (Ok w) h = grind (arith, add-mul (w.0 * 128) (b - 128) (2 ^ (i * 7)), ap (λ p. w.0 * p) (next_power i))

pub kept_none : (bs : List ℕ) → Kept bs 0 0
unfolding decode
kept_none bs = search rules

module _ (bs : List ℕ) (i v : ℕ) (k : Kept bs i v) (few : i < 6) where
  pub kept_end : length bs ≤ i → decode bs ≡ Err CutOff
  kept_end h = grind (arith, drop_all)

  module _ (lt : i < length bs) where
    -- the bytes that are left, by the first of them
    here : decode bs ≡ lift i v (decode_in (6 - i) (get_or bs i 0 ∷ drop (i + 1) bs))
    here = grind (arith, drop_more)

    pub kept_more : (w : ℕ) → w ≡ get_or bs i 0 % 128 * 2 ^ (i * 7) + v → 128 ≤ get_or bs i 0 → get_or bs i 0 < 256 → Kept bs (i + 1) w
    kept_more w e high byte = grind (arith, mul-le, next_power, lift_above, here)

    pub kept_last : (w : ℕ) → w ≡ get_or bs i 0 % 128 * 2 ^ (i * 7) + v → get_or bs i 0 < 128 → (get_or bs i 0 ≡ 0 → i ≡ 0) → decode bs ≡ Ok (w, drop (i + 1) bs)
    kept_last w e low first = grind (arith, here)

    pub kept_zero : get_or bs i 0 ≡ 0 → 0 < i → decode bs ≡ Err NotShortest
    kept_zero z some = grind (arith, here)

pub kept_out : (bs : List ℕ) (i v : ℕ) → Kept bs i v → 6 ≤ i → decode bs ≡ Err TooManyGroups
kept_out bs i v k h = grind (arith, spent)

-- the first group, and the value with one group more, as the code makes them
pub first_group : (n b : ℕ) → n ≡ bit_and b 127 → n ≡ b % 128 * 2 ^ (0 * 7) + 0
first_group n b e = grind (arith, common_steps)

pub next_group : (i v n b : ℕ) → i < 6 → v < 2 ^ (i * 7) → n ≡ bit_and b 127 → bit_or v ((n * 2 ^ (i * 7)) % 2 ^ 64) ≡ b % 128 * 2 ^ (i * 7) + v
next_group i v n b h lt e = grind (arith, and_mask b 7, shl_whole (b % 128) 7 (i * 7) 64, or_shifted_r)

-- what is known of a number that is read, with what the code cuts off after it
pub record Done (bs : List ℕ) (n : ℕ) (rest : List ℕ) : Type 0 where
  pub is : decode bs ≡ Ok (n, rest)
  pub bound : n < 2 ^ 42
  pub whole : bs ≡ encode n ++ rest
  pub short : length rest < length bs

pub done : (bs rest : List ℕ) (n k : ℕ) → Bytes bs → rest ≡ drop k bs → decode bs ≡ Ok (n, drop k bs) → Done bs n rest
done bs rest n k bytes r e =
    let one = number_one_packing bs (drop k bs) n bytes e in
    grind (arith, one, shorter bs (drop k bs) n)

-- the bytes after the first, and of these the bytes from one on, as the code cuts them off
pub after_first : (bs : List ℕ) → between 1 (length bs) bs ≡ drop 1 bs
after_first bs = search (rules, between_to_end)

module _ (bs : List ℕ) where
  abbrev rest : List ℕ
  rest = between 1 (length bs) bs

  pub length_others : (m : ℕ) → length (take m rest) ≡ min m (length bs - 1)
  length_others m = grind (arith, length-take, length-drop, after_first)

  pub after_group : (i : ℕ) → between (i + 1) (length rest) rest ≡ drop (i + 1 + 1) bs
  after_group i = grind (arith, common_steps, drop-drop, between_to_end, after_first)

  pub other_at : (m i : ℕ) → i < length (take m rest) → (i + 1 < length bs) × (i < m) × (get_or (take m rest) i 0 ≡ get_or bs (i + 1) 0)
  other_at m i h = grind (arith, get_or-take, get_or-drop, after_first, length_others)
