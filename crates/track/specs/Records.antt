-- What the bytes of a record say.
use Rattle.std.specs.Prelude.{◌≡◌, ℕ, zero, suc, ◌^◌, ◌<◌, ◌≤◌, Bool, true, false, cond, List, [], ◌∷◌, ◌++◌, length, take, drop, Ok, Err, ◌==◌, nat_lt, slice_index}
use Rattle.std.specs.List.{flat_map, AllByRecursion}
use Rattle.fault.specs.declared.Place.{Place}
use Rattle.fault.specs.declared.Span.{Span}
use Rattle.fault.specs.declared.Fault.TheVariants.{UnknownKind, TextCutOff}
use Rattle.track.specs.declared.records.Kind.{Kind}
use Rattle.track.specs.declared.records.Kind.TheVariants.{Enrol, Event, Stay, Relax, Tick, Read, Write, Step, Autosleep, Round, Load, Unknown}
use Rattle.track.specs.declared.records.Record.{Record}
use Rattle.track.specs.declared.records.Record.TheVariants as rec
use Rattle.fault.specs.Faults.{Reads, next, place_of}
use Rattle.number.specs.Numbers.{number_at, encode}

-- a kind's number, how many numbers follow it, whether the last of these is the length of a text that follows, and whether it is known
pub record Shape : Type 0 where
  pub number : ℕ
  pub fields : ℕ
  pub texts : Bool
  pub known : Bool

abbrev pub plain : ℕ → ℕ → Shape
plain number fields = record { number = number; fields = fields; texts = false; known = true }

abbrev pub shape : Kind → Shape
shape Enrol = record { number = 1; fields = 3; texts = true; known = true }
shape Event = plain 3 2
shape Stay = plain 4 1
shape Relax = plain 5 1
shape Tick = plain 8 0
shape Read = plain 9 0
shape Write = plain 10 1
shape Step = plain 11 0
shape Autosleep = plain 12 1
shape Round = plain 13 0
shape Load = plain 14 2
shape (Unknown n) = record { number = n; fields = 0; texts = false; known = false }

-- the kind among ks that has the number n
abbrev pub among : ℕ → List Kind → Kind
among n [] = Unknown n
among n (k ∷ ks) = cond (n == (shape k).number) k (among n ks)

abbrev pub kinds : List Kind
kinds = Enrol ∷ Event ∷ Stay ∷ Relax ∷ Tick ∷ Read ∷ Write ∷ Step ∷ Autosleep ∷ Round ∷ Load ∷ []

abbrev pub kind_of : ℕ → Kind
kind_of n = among n kinds

-- a record: its kind, the numbers after it, and its text
pub record Seen : Type 0 where
  pub kind : Kind
  pub fields : List ℕ
  pub text : List ℕ

abbrev pub seen : Kind → List ℕ → List ℕ → Seen
seen k ns t = record { kind = k; fields = ns; text = t }

-- each record of the code with its fields in the order of the format
abbrev pub view : Record → Seen
view (rec.Enrol number hold name) = seen Enrol (number ∷ hold ∷ length name.now ∷ []) name.now
view (rec.Event number millis) = seen Event (number ∷ millis ∷ []) []
view (rec.Stay number) = seen Stay (number ∷ []) []
view (rec.Relax number) = seen Relax (number ∷ []) []
view rec.Tick = seen Tick [] []
view rec.Read = seen Read [] []
view (rec.Write sleep) = seen Write (sleep ∷ []) []
view rec.Step = seen Step [] []
view (rec.Autosleep sleep) = seen Autosleep (sleep ∷ []) []
view rec.Round = seen Round [] []
view (rec.Load cause status) = seen Load (cause ∷ status ∷ []) []
view (rec.Unknown kind) = seen (Unknown kind) [] []

-- k numbers, one after another
abbrev pub numbers_at : Span → ℕ → List ℕ → Reads (List ℕ)
numbers_at s zero bs = Ok ([], bs)
numbers_at s (suc k) bs = next (number_at s bs) (λ n r. next (numbers_at s k r) (λ ns r. Ok (n ∷ ns, r)))

abbrev pub text_at : Span → ℕ → List ℕ → Reads (List ℕ)
text_at s n bs = cond (nat_lt (length bs) n) (Err (TextCutOff (place_of s bs))) (Ok (take n bs, drop n bs))

-- the text after the numbers of a kind, if it has one
abbrev pub tail_at : Span → Kind → List ℕ → List ℕ → Reads Seen
tail_at s k ns r = cond (shape k).texts (next (text_at s (slice_index ns 2) r) (λ t r. Ok (seen k ns t, r))) (Ok (seen k ns [], r))

-- the fields of a known kind
abbrev pub fields_at : Span → List ℕ → Kind → Reads Seen
fields_at s bs k = next (numbers_at s (shape k).fields bs) (tail_at s k)

-- the fields of a kind that stands at p, which must be known
abbrev pub known_at : Span → Place → Kind → List ℕ → Reads Seen
known_at s p k r = cond (shape k).known (fields_at s r k) (Err (UnknownKind p))

abbrev pub record_at : Span → List ℕ → Reads Seen
record_at s bs = next (number_at s bs) (λ n r. known_at s (place_of s bs) (kind_of n) r)

-- the bytes of a record
abbrev pub record_bytes : Seen → List ℕ
record_bytes v = flat_map encode ((shape v.kind).number ∷ v.fields) ++ v.text

-- what the text is, where the kind has one and where it has none
abbrev pub TextIs : Bool → List ℕ → List ℕ → Type 0
TextIs true ns t = length t ≡ slice_index ns 2
TextIs false ns t = t ≡ []

-- a known kind, with its numbers below 2 ^ 42 and its text
pub record Whole (v : Seen) : Type 0 where
  pub known : (shape v.kind).known ≡ true
  pub count : length v.fields ≡ (shape v.kind).fields
  pub text : TextIs (shape v.kind).texts v.fields v.text
  pub small : AllByRecursion (λ n. n < 2 ^ 42) v.fields

-- what may be packed: a known kind, numbers below 2 ^ 42, a name of at most 60,000 bytes
pub record Fits (v : Seen) : Type 0 where
  pub known : (shape v.kind).known ≡ true
  pub small : AllByRecursion (λ n. n < 2 ^ 42) v.fields
  pub name : length v.text ≤ 60000
