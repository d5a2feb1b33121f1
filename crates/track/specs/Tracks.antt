-- What the bytes of a track say.
use Rattle.std.specs.Prelude.{◌≡◌, ℕ, zero, suc, ◌+◌, ◌<◌, ◌≤◌, cond, List, [], ◌∷◌, ◌++◌, map, length, Ok, Err, Result, nat_lt}
use Rattle.std.specs.List.{flat_map}
use Rattle.fault.specs.declared.Part.TheVariants as part
use Rattle.fault.specs.declared.Span.{Span}
use Rattle.fault.specs.declared.Fault.{Fault}
use Rattle.fault.specs.declared.Fault.TheVariants.{StampPastLimit}
use Rattle.track.specs.declared.tracks.Entry.{Entry}
use Rattle.track.specs.declared.tracks.Track.{Track}
use Rattle.fault.specs.Faults.{Reads, next, place_of}
use Rattle.number.specs.Numbers.{number_at, encode, Bytes}
use Rattle.track.specs.Records.{Seen, view, record_at, record_bytes, Whole, Fits}

-- the time limit, 2 ^ 38 - 1 milliseconds
abbrev pub limit : ℕ
limit = 274877906943

-- a record and how long after the last stamp it came
pub record Timed : Type 0 where
  pub difference : ℕ
  pub what : Seen

abbrev pub timed : ℕ → Seen → Timed
timed d v = record { difference = d; what = v }

abbrev pub view_entry : Entry → Timed
view_entry e = timed e.difference (view e.«record»)

abbrev pub entry_at : Span → ℕ → List ℕ → Reads Timed
entry_at s last bs = next (number_at s bs) (λ d r. cond (nat_lt limit (last + d)) (Err (StampPastLimit (place_of s bs))) (next (record_at s r) (λ v r. Ok (timed d v, r))))

abbrev pub prepend : {X : Type 0} → X → Result (List X) Fault → Result (List X) Fault
prepend x (Ok xs) = Ok (x ∷ xs)
prepend x (Err f) = Err f

-- the stamp after these records, and so of the last of them
abbrev pub stamp_after : ℕ → List Timed → ℕ
stamp_after last [] = last
stamp_after last (e ∷ es) = stamp_after (last + e.difference) es

-- record i of a track that ends at an offset of the bundle
abbrev pub record_span : ℕ → ℕ → ℕ → Span
record_span end track i = record { end = end; part = part.Record track i }

-- the records from i on, at most as many as there are bytes
abbrev pub track_in : ℕ → ℕ → ℕ → ℕ → ℕ → List ℕ → Result (List Timed) Fault
track_in end track zero i last bs = Ok []
track_in end track (suc k) i last [] = Ok []
track_in end track (suc k) i last (b ∷ bs) = next (entry_at (record_span end track i) last (b ∷ bs)) (λ e r. prepend e (track_in end track k (i + 1) (last + e.difference) r))

-- the records of a track that ends at an offset of the bundle, or the first fault
unfoldable pub track_of : ℕ → ℕ → List ℕ → Result (List Timed) Fault
track_of end track bs = track_in end track (length bs) 0 0 bs

-- a track's number, the offset of its end in the bundle, and its bytes
pub record Piece : Type 0 where
  pub number : ℕ
  pub end : ℕ
  pub bytes : List ℕ

abbrev pub piece_of : Track → Piece
piece_of t = record { number = t.number; end = t.end; bytes = t.bytes.now }

-- the records of a track, or its first fault
abbrev pub entries_of : Piece → Result (List Timed) Fault
entries_of p = track_of p.end p.number p.bytes

abbrev pub counted : Result (List Timed) Fault → Result ℕ Fault
counted (Ok es) = Ok (length es)
counted (Err f) = Err f

-- the bytes of an entry and of a track
abbrev pub entry_bytes : Timed → List ℕ
entry_bytes e = encode e.difference ++ record_bytes e.what

abbrev pub track_bytes : List Timed → List ℕ
track_bytes es = flat_map entry_bytes es

-- the bytes that a list of records packs to
abbrev pub packed_track : List Entry → List ℕ
packed_track es = track_bytes (map view_entry es)

-- after a last stamp, entries that are whole and whose stamps keep within the limit
abbrev pub Wholes : ℕ → List Timed → Type 0
Wholes last [] = Unit {0}
Wholes last (e ∷ es) = (last + e.difference ≤ limit) × Whole e.what × Wholes (last + e.difference) es

-- one entry that may be packed after a last stamp, and a list of them, one after another
abbrev pub FitsAfter : ℕ → Timed → Type 0
FitsAfter last e = (last + e.difference ≤ limit) × Fits e.what

abbrev pub AllFit : ℕ → List Timed → Type 0
AllFit last [] = Unit {0}
AllFit last (e ∷ es) = FitsAfter last e × AllFit (last + e.difference) es

-- bs is an entry's bytes and what follows them
pub record Taken (last : ℕ) (bs : List ℕ) (e : Timed) (rest : List ℕ) : Type 0 where
  pub within : last + e.difference ≤ limit
  pub whole : Whole e.what
  pub bytes : bs ≡ entry_bytes e ++ rest
  pub shorter : length rest < length bs

-- a record after any last stamp is read back from its packing, whatever follows
abbrev pub RecordReadBack : Type 0
RecordReadBack = (s : Span) (last : ℕ) (e : Entry) (rest : List ℕ) → FitsAfter last (view_entry e) → entry_at s last (entry_bytes (view_entry e) ++ rest) ≡ Ok (view_entry e, rest)

-- what is read from at most 60,000 bytes is the one packing of its record, and may be packed
abbrev pub RecordOnePacking : Type 0
RecordOnePacking = (s : Span) (last : ℕ) (bs : List ℕ) (e : Timed) (rest : List ℕ) → Bytes bs → length bs ≤ 60000 → entry_at s last bs ≡ Ok (e, rest) → FitsAfter last e × (bs ≡ entry_bytes e ++ rest)

-- the reader refuses nothing that packing can produce: a list of records that may be packed is read back from its packing
abbrev pub TrackReadBack : Type 0
TrackReadBack = (end track : ℕ) (es : List Entry) → AllFit 0 (map view_entry es) → track_of end track (packed_track es) ≡ Ok (map view_entry es)

-- bs is the packing of these records, and of no other list of records
abbrev pub OneList : List ℕ → List Timed → Type 0
OneList bs read = AllFit 0 read × (track_bytes read ≡ bs) × ((es : List Entry) → AllFit 0 (map view_entry es) → packed_track es ≡ bs → map view_entry es ≡ read)

-- a legal track, one with no fault and at most 60,000 bytes, packs from just one list of records
abbrev pub LegalTrackHasOneList : Type 0
LegalTrackHasOneList = (end track : ℕ) (bs : List ℕ) (read : List Timed) → Bytes bs → length bs ≤ 60000 → track_of end track bs ≡ Ok read → OneList bs read
