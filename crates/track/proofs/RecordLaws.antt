-- A record's bytes are read back, and what is read is the one packing of its record.
use Rattle.std.proofs.Common.{◌≡◌, ℕ, zero, suc, ◌+◌, ◌^◌, ◌<◌, true, List, [], ◌∷◌, ◌++◌, length, Ok, Err, Result, refl, subst, append_assoc, arith}
use Rattle.std.specs.List.{flat_map, AllByRecursion}
use Rattle.std.proofs.lemmas.List.{take_at, drop_at, length-append, take-append-drop, length-take-le, get_or-append-add}
use Rattle.fault.specs.declared.Place.{Place}
use Rattle.fault.specs.declared.Span.{Span}
use Rattle.fault.specs.declared.Fault.{Fault}
use Rattle.track.specs.declared.records.Kind.{Kind}
use Rattle.track.specs.declared.records.Record.{Record}
use Rattle.fault.specs.Faults.{Reads, next, place_of}
use Rattle.number.specs.Numbers.{number_at, encode, Bytes}
use Rattle.track.specs.Records.{shape, among, kinds, kind_of, Seen, view, numbers_at, text_at, tail_at, known_at, record_at, record_bytes, TextIs, Whole, Fits}
use Rattle.number.proofs.NumberLaws.{number_read_back, number_one_packing}

-- what was packed is read back

pub number_then : {Y : Type 0} (s : Span) (n : ℕ) (rest : List ℕ) (f : ℕ → List ℕ → Result Y Fault) → n < 2 ^ 42 → next (number_at s (encode n ++ rest)) f ≡ f n rest
number_then s n rest f h = grind (arith, number_read_back)

pub numbers_back : (s : Span) (ns rest : List ℕ) → AllByRecursion (λ n. n < 2 ^ 42) ns → numbers_at s (length ns) (flat_map encode ns ++ rest) ≡ Ok (ns, rest)
numbers_back s [] rest h = refl
numbers_back s (n ∷ ns) rest h = grind (arith, append_assoc, number_then, numbers_back s ns)

text_back : (s : Span) (t rest : List ℕ) → text_at s (length t) (t ++ rest) ≡ Ok (t, rest)
text_back s t rest = grind (arith, length-append, take_at, drop_at)

pub small_kind : (k : Kind) → (shape k).known ≡ true → (shape k).number < 2 ^ 42
small_kind k h = grind arith

kind_back : (k : Kind) → (shape k).known ≡ true → kind_of (shape k).number ≡ k
kind_back k h = grind arith

pub record_back : (s : Span) (v : Seen) (rest : List ℕ) → Whole v → record_at s (record_bytes v ++ rest) ≡ Ok (v, rest)
record_back s v rest w = grind (arith, append_assoc, number_then, numbers_back, text_back, small_kind, kind_back)

-- what is read is the one packing

pub next_ok : {X Y : Type 0} (g : Reads X) (f : X → List ℕ → Result Y Fault) (w : Y) → next g f ≡ Ok w → (v : X × List ℕ) × (g ≡ Ok v) × (f v.0 v.1 ≡ Ok w)
next_ok (Ok v) f w e = (v, refl, e)
next_ok (Err x) f w e = absurd (grind arith)

pub bytes_after : (xs ys : List ℕ) → Bytes (xs ++ ys) → Bytes ys
bytes_after xs ys h i = grind (arith, get_or-append-add, h (length xs + i))

-- what follows a number that was read, by a continuation
pub number_ok : {Y : Type 0} {Z : Type 0} (s : Span) (bs : List ℕ) (f : ℕ → List ℕ → Result Y Fault) (w : Y) → Bytes bs → next (number_at s bs) f ≡ Ok w → ((n : ℕ) (r : List ℕ) → n < 2 ^ 42 → bs ≡ encode n ++ r → Bytes r → f n r ≡ Ok w → Z) → Z
number_ok s bs f w h e k =
    let a = next_ok (number_at s bs) f w e in
    let one = number_one_packing bs a.0.1 a.0.0 h (grind arith) in
    k a.0.0 a.0.1 one.0 one.1 (bytes_after (encode a.0.0) a.0.1 (subst Bytes one.1 h)) a.2

abbrev pub Numbers : ℕ → List ℕ → List ℕ × List ℕ → Type 0
Numbers k bs w = (length w.0 ≡ k) × AllByRecursion (λ n. n < 2 ^ 42) w.0 × (bs ≡ flat_map encode w.0 ++ w.1)

pub numbers_one : (s : Span) (k : ℕ) (bs : List ℕ) (w : List ℕ × List ℕ) → Bytes bs → numbers_at s k bs ≡ Ok w → Numbers k bs w
numbers_one s zero bs w h e = grind arith
numbers_one s (suc k) bs w h e =
    number_ok s bs _ w h e (λ n r lt is by e₁.
    let a = next_ok (numbers_at s k r) _ w e₁ in
    let more = numbers_one s k r a.0 by a.1 in
    grind (arith, append_assoc))

abbrev Tail : Kind → List ℕ → List ℕ → Seen × List ℕ → Type 0
Tail k ns bs w = (w.0.kind ≡ k) × (w.0.fields ≡ ns) × TextIs (shape k).texts ns w.0.text × (bs ≡ w.0.text ++ w.1)

tail_one : (s : Span) (k : Kind) (ns bs : List ℕ) (w : Seen × List ℕ) → tail_at s k ns bs ≡ Ok w → Tail k ns bs w
tail_one s k ns bs w e = grind (arith, length-take-le, take-append-drop)

among_number : (n : ℕ) (ks : List Kind) → (shape (among n ks)).number ≡ n
among_number n [] = refl
among_number n (k ∷ ks) = grind (arith, among_number n ks)

known_one : (s : Span) (p : Place) (k : Kind) (bs : List ℕ) (w : Seen × List ℕ) → Bytes bs → known_at s p k bs ≡ Ok w → Whole w.0 × (w.0.kind ≡ k) × (bs ≡ flat_map encode w.0.fields ++ (w.0.text ++ w.1))
known_one s p k bs w h e =
    let known : (shape k).known ≡ true = grind arith in
    let a = next_ok (numbers_at s (shape k).fields bs) (tail_at s k) w (rw known at e) in
    let ns = numbers_one s (shape k).fields bs a.0 h a.1 in
    let t = tail_one s k a.0.0 a.0.1 w a.2 in
    grind (arith, ns, t)

pub record_one : (s : Span) (bs : List ℕ) (w : Seen × List ℕ) → Bytes bs → record_at s bs ≡ Ok w → Whole w.0 × (bs ≡ record_bytes w.0 ++ w.1)
record_one s bs w h e =
    number_ok s bs _ w h e (λ n r lt is by e₁.
    let k = known_one s (place_of s bs) (kind_of n) r w by e₁ in
    grind (arith, append_assoc, among_number n kinds))

-- what may be packed is whole
pub whole_view : (r : Record) → Fits (view r) → Whole (view r)
whole_view r f = grind arith
