-- Where a fault lies, and the numbers that its line shows.
use Rattle.std.specs.Prelude.{◌≡◌, ℕ, ◌-◌, ◌<◌, ◌≤◌, List, ◌∷◌, ◌++◌, length, take, drop, Some, None, Option, Ok, Err, Result, codes, decimal, cond, nat_lt}
use Rattle.std.specs.Borrow.{Bor}
use Rattle.fault.specs.declared.Part.{Part}
use Rattle.fault.specs.declared.Part.TheVariants as part
use Rattle.fault.specs.declared.Place.{Place}
use Rattle.fault.specs.declared.Span.{Span}
use Rattle.fault.specs.declared.Reader.{Reader}
use Rattle.fault.specs.declared.Fault.{Fault}
use Rattle.fault.specs.declared.Fault.TheVariants.{CutOff, TooManyGroups, NotShortest, UnknownKind, TextCutOff, StampPastLimit, HeaderValue, LengthsMismatch, TooLong}
use Rattle.fault.specs.declared.FaultNumbers.{FaultNumbers}
use Rattle.fault.specs.declared.Refusal.{Refusal}
use Rattle.fault.specs.declared.RefusalNumbers.{RefusalNumbers}
use Rattle.fault.specs.declared.Refusal.TheVariants.{Unfit, Short}

-- what is left of a stretch begins that many bytes before its end
abbrev pub place_of : Span → List ℕ → Place
place_of s rest = record { offset = s.end - length rest; part = s.part }

-- track and record; the header counts as track 255, record 0
abbrev pub part_numbers : Part → ℕ × ℕ
part_numbers part.Header = (255, 0)
part_numbers (part.Record track index) = (track, index)

abbrev pub fault_numbers : ℕ → ℕ → Place → FaultNumbers
fault_numbers layer cause p = record { layer = layer; cause = cause; place = p.offset; track = (part_numbers p.part).0; «record» = (part_numbers p.part).1 }

-- each fault with its layer and its cause
abbrev pub numbers_of : Fault → FaultNumbers
numbers_of (CutOff p) = fault_numbers 1 1 p
numbers_of (TooManyGroups p) = fault_numbers 1 2 p
numbers_of (NotShortest p) = fault_numbers 1 3 p
numbers_of (UnknownKind p) = fault_numbers 2 4 p
numbers_of (TextCutOff p) = fault_numbers 2 5 p
numbers_of (StampPastLimit p) = fault_numbers 3 6 p
numbers_of (HeaderValue p) = fault_numbers 4 7 p
numbers_of (LengthsMismatch p) = fault_numbers 4 8 p
numbers_of (TooLong p) = fault_numbers 4 9 p

-- a number after a space
abbrev pub field_text : ℕ → List ℕ
field_text n = 32 ∷ decimal n

-- the word fault, layer, cause, place, track and record
abbrev pub words_of : FaultNumbers → List ℕ
words_of f = codes "fault" ++ field_text f.layer ++ field_text f.cause ++ field_text f.place ++ field_text f.track ++ field_text f.«record»

abbrev pub fault_words : Fault → List ℕ
fault_words f = words_of (numbers_of f)

-- each refusal with its code and its value
abbrev pub refusal_numbers : Refusal → RefusalNumbers
refusal_numbers Unfit = record { code = 32; value = 0 }
refusal_numbers (Short needed) = record { code = 33; value = needed }

-- whether a slice of so many bytes has room for what takes needed bytes, or for what may not be packed
abbrev pub room_for : Option ℕ → ℕ → Result (Unit {0}) Refusal
room_for None have = Err Unfit
room_for (Some needed) have = cond (nat_lt have needed) (Err (Short needed)) (Ok tt)

-- a part of the bytes and what follows it, or the fault
abbrev pub Reads : Type 0 → Type 0
Reads X = Result (X × List ℕ) Fault

-- one part and then, from what follows it, another: `?`
abbrev pub next : {X Y : Type 0} → Reads X → (X → List ℕ → Result Y Fault) → Result Y Fault
next (Ok v) f = f v.0 v.1
next (Err e) f = Err e

-- the stretch of all the bytes of a part that begins at offset 0, and a reader of them
abbrev pub span_of : Part → List ℕ → Span
span_of p bs = record { end = length bs; part = p }

abbrev pub reader_of : Part → Bor (List ℕ) → Reader
reader_of p bytes = record { span = span_of p bytes.now; rest = bytes }

-- what the rules say, seen as view sees it, or the same fault
abbrev pub Says : {X Y E : Type 0} → (X → Y) → Result Y E → Result X E → Type 0
Says view rule (Ok x) = rule ≡ Ok (view x)
Says view rule (Err f) = rule ≡ Err f

-- what a reader gives: the part that the rules say, seen as view sees it, and the reader stands after it in the same stretch; or the fault, and then where it stands is free
abbrev pub Given : {X Y : Type 0} → (X → Y) → (Span → List ℕ → Reads Y) → Reader → Reader → Result X Fault → Type 0
Given view reads old new (Ok x) = (reads old.span old.rest.now ≡ Ok (view x, new.rest.now)) × (new.span ≡ old.span)
Given view reads old new (Err f) = reads old.span old.rest.now ≡ Err f

-- so many bytes off the front of a reader, or none of it where it has fewer
abbrev pub TakesFront : ℕ → Reader → Reader → Option (Bor (List ℕ)) → Type 0
TakesFront n old new (Some front) = (n ≤ length old.rest.now) × (front.now ≡ take n old.rest.now) × (new.rest.now ≡ drop n old.rest.now) × (new.span ≡ old.span)
TakesFront n old new None = (length old.rest.now < n) × (new ≡ old)
