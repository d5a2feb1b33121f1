-- A number as groups of seven bits, low group first, bit 7 set in all but the last.
use Rattle.std.specs.Prelude.{◌≡◌, ℕ, zero, suc, ◌+◌, ◌-◌, ◌*◌, ◌/◌, ◌%◌, ◌^◌, ◌<◌, cond, List, [], ◌∷◌, ◌++◌, Ok, Err, Result, ◌==◌, nat_lt, slice_index}
use Rattle.fault.specs.declared.Place.{Place}
use Rattle.fault.specs.declared.Span.{Span}
use Rattle.fault.specs.declared.Fault.{Fault}
use Rattle.fault.specs.declared.Fault.TheVariants as fault
use Rattle.number.specs.declared.Flaw.{Flaw}
use Rattle.number.specs.declared.Flaw.TheVariants.{CutOff, TooManyGroups, NotShortest}
use Rattle.fault.specs.Faults.{Reads, place_of}

-- a number and what follows it, or what is wrong with it
abbrev pub Got : Type 0
Got = Result (ℕ × List ℕ) Flaw

-- the low group of byte b below what the groups after it give
abbrev pub above : ℕ → Got → Got
above b (Err e) = Err e
above b (Ok v) = cond (v.0 == 0) (Err NotShortest) (Ok (v.0 * 128 + (b - 128), v.1))

-- at most k groups
abbrev pub decode_in : ℕ → List ℕ → Got
decode_in k [] = cond (k == 0) (Err TooManyGroups) (Err CutOff)
decode_in k (b ∷ bs) = cond (k == 0) (Err TooManyGroups) (cond (nat_lt b 128) (Ok (b, bs)) (above b (decode_in (k - 1) bs)))

unfoldable pub decode : List ℕ → Got
decode bs = decode_in 6 bs

abbrev pub encode_in : ℕ → ℕ → List ℕ
encode_in zero n = []
encode_in (suc k) n = cond (nat_lt n 128) (n ∷ []) ((n % 128 + 128) ∷ encode_in k (n / 128))

unfoldable pub encode : ℕ → List ℕ
encode n = encode_in 6 n

-- a flaw of the number that begins at a place
abbrev pub flawed : Flaw → Place → Fault
flawed CutOff p = fault.CutOff p
flawed TooManyGroups p = fault.TooManyGroups p
flawed NotShortest p = fault.NotShortest p

abbrev pub placed : Place → Got → Reads ℕ
placed p (Ok v) = Ok v
placed p (Err e) = Err (flawed e p)

-- the number at the start of what is left of a stretch
abbrev pub number_at : Span → List ℕ → Reads ℕ
number_at s bs = placed (place_of s bs) (decode bs)

abbrev pub Bytes : List ℕ → Type 0
Bytes bs = (i : ℕ) → slice_index bs i < 256

-- a number below 2 ^ 42 is read back from its packing, whatever follows
abbrev pub NumberReadBack : Type 0
NumberReadBack = (n : ℕ) (rest : List ℕ) → n < 2 ^ 42 → decode (encode n ++ rest) ≡ Ok (n, rest)

-- what is read is the one packing of its number
abbrev pub NumberOnePacking : Type 0
NumberOnePacking = (bs rest : List ℕ) (n : ℕ) → Bytes bs → decode bs ≡ Ok (n, rest) → (n < 2 ^ 42) × (bs ≡ encode n ++ rest)

-- 200 packs as C8 01, and 80 00 is not the shortest form of its number
abbrev pub NumberExamples : Type 0
NumberExamples = (encode 200 ≡ 0xC8 ∷ 0x01 ∷ []) × (decode (0x80 ∷ 0x00 ∷ []) ≡ Err NotShortest)
