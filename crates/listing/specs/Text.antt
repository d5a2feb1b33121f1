-- The text of a fault, of a record and of a whole bundle.
use Rattle.std.specs.Prelude.{ℕ, ◌+◌, ◌/◌, ◌%◌, Bool, cond, not, ◌||◌, List, [], ◌∷◌, ◌++◌, length, take, Ok, Err, codes, decimal, Result, ◌==◌, nat_lt}
use Rattle.std.specs.List.{flat_map}
use Rattle.fault.specs.declared.Fault.{Fault}
use Rattle.fault.specs.Faults.{field_text, fault_words}
use Rattle.track.specs.Records.{Seen, shape}
use Rattle.track.specs.Tracks.{Timed, Piece, entries_of}
use Rattle.track.specs.Words.{kind_name}
use Rattle.bundle.specs.Bundles.{Contents, bundle_of}
use Rattle.bundle.specs.Words.{platform_name, clock_name}

-- a line of these words
abbrev pub line : List ℕ → List ℕ
line words = words ++ (10 ∷ [])

-- the word fault, layer, cause, place, track and record
abbrev pub fault_text : Fault → List ℕ
fault_text f = line (fault_words f)

abbrev pub hex_digit : ℕ → ℕ
hex_digit n = cond (nat_lt n 10) (48 + n) (55 + n)

-- a byte that is shown as itself: 32 to 126, but for the quote and the backslash
abbrev pub plain : ℕ → Bool
plain b = not (nat_lt b 32 || (nat_lt 126 b || (b == 34 || b == 92)))

-- any other byte as a backslash, an x and two hexadecimal digits
abbrev pub shown : ℕ → List ℕ
shown b = cond (plain b) (b ∷ []) (92 ∷ 120 ∷ hex_digit (b / 16) ∷ hex_digit (b % 16) ∷ [])

-- a name in quotes, after a space
abbrev pub name_text : List ℕ → List ℕ
name_text name = (32 ∷ 34 ∷ []) ++ (flat_map shown name ++ (34 ∷ []))

-- the fields, and in place of a name's length the name
abbrev pub fields_text : Seen → List ℕ
fields_text v = cond (shape v.kind).texts (flat_map field_text (take 2 v.fields) ++ name_text v.text) (flat_map field_text v.fields)

-- stamp, track, kind by name, fields
abbrev pub line_words : ℕ → ℕ → Seen → List ℕ
line_words stamp track v = decimal stamp ++ field_text track ++ (32 ∷ kind_name v.kind) ++ fields_text v

abbrev pub line_text : ℕ → ℕ → Seen → List ℕ
line_text stamp track v = line (line_words stamp track v)

-- the records of a track from a last stamp on
abbrev pub lines_text : ℕ → ℕ → List Timed → List ℕ
lines_text track last [] = []
lines_text track last (e ∷ es) = line_text (last + e.difference) track e.what ++ lines_text track (last + e.difference) es

-- how many records a track has
abbrev pub count_words : ℕ → ℕ → List ℕ
count_words track n = codes "track" ++ field_text track ++ codes " records" ++ field_text n

abbrev pub count_text : ℕ → ℕ → List ℕ
count_text track n = line (count_words track n)

-- the header: platform, clock and how many tracks there are
abbrev pub head_words : Contents → List ℕ
head_words c = codes "platform " ++ platform_name c.platform ++ codes " clock " ++ clock_name c.clock ++ codes " tracks" ++ field_text (length c.pieces)

abbrev pub head_text : Contents → List ℕ
head_text c = line (head_words c)

-- a track with no fault: its records, and how many they are
abbrev pub entries_text : ℕ → Result (List Timed) Fault → List ℕ
entries_text track (Ok es) = lines_text track 0 es ++ count_text track (length es)
entries_text track (Err f) = []

abbrev pub track_text : Piece → List ℕ
track_text p = entries_text p.number (entries_of p)

-- a fault's line, or the header and each track
abbrev pub result_text : Result Contents Fault → List ℕ
result_text (Ok c) = head_text c ++ flat_map track_text c.pieces
result_text (Err f) = fault_text f

unfoldable pub listing_text : List ℕ → List ℕ
listing_text bs = result_text (bundle_of bs)
