-- What the bytes of a bundle say.
use Rattle.std.specs.Prelude.{◌≡◌, ℕ, ◌+◌, ◌-◌, ◌≤◌, cond, ◌&&◌, List, [], ◌∷◌, ◌++◌, map, length, take, drop, Ok, Err, ◌⊎◌, sum, Result, ◌==◌, nat_le, nat_lt}
use Rattle.std.specs.List.{flat_map, AllByRecursion}
use Rattle.fault.specs.declared.Part.TheVariants as part
use Rattle.fault.specs.declared.Span.{Span}
use Rattle.fault.specs.declared.Fault.{Fault}
use Rattle.fault.specs.declared.Fault.TheVariants.{HeaderValue, LengthsMismatch, TooLong}
use Rattle.track.specs.declared.tracks.Entry.{Entry}
use Rattle.bundle.specs.declared.bundles.PlatformKind.{PlatformKind}
use Rattle.bundle.specs.declared.bundles.ClockKind.{ClockKind}
use Rattle.bundle.specs.declared.bundles.Bundle.{Bundle}
use Rattle.fault.specs.declared.Reader.{Reader}
use Rattle.fault.specs.Faults.{Reads, next, place_of, span_of}
use Rattle.number.specs.Numbers.{number_at, encode}
use Rattle.track.specs.Records.{numbers_at}
use Rattle.bundle.specs.Items.{items}
use Rattle.bundle.specs.Kinds.{platform_of, clock_of}
use Rattle.track.specs.Tracks.{Timed, view_entry, AllFit, Piece, piece_of, entries_of, packed_track, OneList}

-- a header number, with the values that it may have
abbrev pub value_at : Span → ℕ → ℕ → List ℕ → Reads ℕ
value_at s low high bs = next (number_at s bs) (λ n r. cond (nat_le low n && nat_le n high) (Ok (n, r)) (Err (HeaderValue (place_of s bs))))

-- what the header says: the platform, the clock and each track's bytes
pub record Contents : Type 0 where
  pub platform : PlatformKind
  pub clock : ClockKind
  pub pieces : List Piece

abbrev pub told : PlatformKind → ClockKind → List Piece → Contents
told platform clock pieces = record { platform = platform; clock = clock; pieces = pieces }

abbrev pub piece : ℕ → ℕ → List ℕ → Piece
piece i end bytes = record { number = i; end = end; bytes = bytes }

unfoldable pub contents : Bundle → Contents
contents b = told b.platform b.clock (map piece_of (items b.tracks))

-- the tracks from number i on, of the lengths ns, in what is left of the bundle from an offset on
abbrev pub pieces_at : ℕ → ℕ → List ℕ → List ℕ → List Piece
pieces_at i start [] left = []
pieces_at i start (n ∷ ns) left = piece i (start + n) (take n left) ∷ pieces_at (i + 1) (start + n) ns (drop n left)

-- what a number stands for was read, or it stands for nothing, or it has a fault
abbrev pub Kinded : {X E : Type 0} → (ℕ → Result X E → Type 0) → Reader → Reader → Result X Fault → Type 0
Kinded gives old new (Ok x) = (n : ℕ) × (number_at old.span old.rest.now ≡ Ok (n, new.rest.now)) × (new.span ≡ old.span) × gives n (Ok x)
Kinded gives old new (Err f) =
    (number_at old.span old.rest.now ≡ Err f)
    ⊎ ((n : ℕ) × (r : List ℕ) × (e : _) × (number_at old.span old.rest.now ≡ Ok (n, r)) × gives n (Err e) × (f ≡ HeaderValue (place_of old.span old.rest.now)))

-- the tracks, whose lengths must end the bundle
abbrev pub cut_at : Span → List ℕ → List ℕ → Result (List Piece) Fault
cut_at s ns body = cond (sum ns == length body) (Ok (pieces_at 0 (s.end - length body) ns body)) (Err (LengthsMismatch (place_of s body)))

abbrev pub pieces_from : Span → ℕ → List ℕ → Result (List Piece) Fault
pieces_from s count r = next (numbers_at s count r) (cut_at s)

abbrev pub with_pieces : PlatformKind → ClockKind → Result (List Piece) Fault → Result Contents Fault
with_pieces platform clock (Ok ps) = Ok (told platform clock ps)
with_pieces platform clock (Err f) = Err f

abbrev pub tracks_at : Span → ℕ → ℕ → ℕ → List ℕ → Result Contents Fault
tracks_at s platform clock count r = with_pieces (platform_of platform) (clock_of clock) (pieces_from s count r)

-- version 1, platform 1 or 2, clock 1 or 2, a 0, 1 to 8 tracks, their lengths
abbrev pub header_at : Span → List ℕ → Result Contents Fault
header_at s bs =
    next (value_at s 1 1 bs) (λ version r. next (value_at s 1 2 r) (λ platform r. next (value_at s 1 2 r) (λ clock r.
    next (value_at s 0 0 r) (λ zero r. next (value_at s 1 8 r) (λ count r. tracks_at s platform clock count r)))))

abbrev pub header_span : List ℕ → Span
header_span bs = span_of part.Header bs

-- the header of a bundle of at most 60,000 bytes
unfoldable pub header_of : List ℕ → Result Contents Fault
header_of bs = cond (nat_lt 60000 (length bs)) (Err (TooLong (record { offset = 60000; part = part.Header }))) (header_at (header_span bs) bs)

abbrev pub after_track : Result (List Timed) Fault → Result Contents Fault → Result Contents Fault
after_track (Ok es) r = r
after_track (Err f) r = Err f

-- the first fault of the tracks, in their order
abbrev pub faultless : List Piece → Contents → Result Contents Fault
faultless [] c = Ok c
faultless (p ∷ ps) c = after_track (entries_of p) (faultless ps c)

abbrev pub tracks_checked : Result Contents Fault → Result Contents Fault
tracks_checked (Ok c) = faultless c.pieces c
tracks_checked (Err f) = Err f

-- what a bundle says, once its header and then each track is checked, or its first fault
unfoldable pub bundle_of : List ℕ → Result Contents Fault
bundle_of bs = tracks_checked (header_of bs)

-- each track is the packing of the records that it says, and of no other list of records
abbrev pub EachHasOneList : List Piece → Type 0
EachHasOneList ps = AllByRecursion (λ p. (read : List Timed) × (entries_of p ≡ Ok read) × OneList p.bytes read) ps

-- the bytes of a bundle with these tracks
abbrev pub lengths_of : List (List Entry) → List ℕ
lengths_of ess = map (λ es. length (packed_track es)) ess

abbrev pub header_bytes : ℕ → ℕ → List (List Entry) → List ℕ
header_bytes platform clock ess = flat_map encode (1 ∷ platform ∷ clock ∷ 0 ∷ length ess ∷ lengths_of ess)

abbrev pub bundle_bytes : ℕ → ℕ → List (List Entry) → List ℕ
bundle_bytes platform clock ess = header_bytes platform clock ess ++ flat_map packed_track ess

-- the tracks of a bundle are just these lists of records
abbrev pub TracksAre : List Piece → List (List Entry) → Type 0
TracksAre [] [] = Unit {0}
TracksAre [] (es ∷ ess) = ⊥
TracksAre (p ∷ ps) [] = ⊥
TracksAre (p ∷ ps) (es ∷ ess) = (entries_of p ≡ Ok (map view_entry es)) × TracksAre ps ess

-- one to eight packed tracks with a good header, within 60,000 bytes, have no fault, and the bundle says just what was packed
abbrev pub PackedBundleIsAccepted : Type 0
PackedBundleIsAccepted = (platform clock : ℕ) (ess : List (List Entry)) →
    (1 ≤ platform) × (platform ≤ 2) → (1 ≤ clock) × (clock ≤ 2) → (1 ≤ length ess) × (length ess ≤ 8) →
    AllByRecursion (λ es. AllFit 0 (map view_entry es)) ess → length (bundle_bytes platform clock ess) ≤ 60000 →
    (ps : List Piece) × (bundle_of (bundle_bytes platform clock ess) ≡ Ok (told (platform_of platform) (clock_of clock) ps)) × TracksAre ps ess
