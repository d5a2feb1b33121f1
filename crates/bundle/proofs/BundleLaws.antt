-- What a bundle says, step by step.
use Rattle.std.proofs.Common.{◌≡◌, ℕ, ◌+◌, ◌-◌, ◌^◌, ◌<◌, ◌≤◌, List, [], ◌∷◌, ◌++◌, map, length, Ok, sum, Result, refl, append_assoc, arith}
use Rattle.std.specs.List.{flat_map, AllByRecursion}
use Rattle.std.proofs.lemmas.List.{length-append, length-map, take_at, drop_at}
use Rattle.std.proofs.lemmas.List.Sums.{sum_by-cons}
use Rattle.fault.specs.declared.Fault.{Fault}
use Rattle.fault.specs.declared.Span.{Span}
use Rattle.track.specs.declared.tracks.Entry.{Entry}
use Rattle.fault.specs.Faults.{next}
use Rattle.number.specs.Numbers.{encode}
use Rattle.track.specs.Tracks.{Timed, view_entry, AllFit, Piece, entries_of, packed_track}
use Rattle.bundle.specs.Kinds.{platform_of, clock_of}
use Rattle.bundle.specs.Bundles.{Contents, told, value_at, pieces_at, tracks_at, header_at, header_span, header_of, faultless, tracks_checked, bundle_of, lengths_of, header_bytes, bundle_bytes, TracksAre, PackedBundleIsAccepted}
use Rattle.track.proofs.RecordLaws.{number_then, numbers_back}
use Rattle.track.proofs.TrackLaws.{track_read_back}

-- what was packed is accepted

value_then : {Y : Type 0} (s : Span) (low high n : ℕ) (rest : List ℕ) (f : ℕ → List ℕ → Result Y Fault) → low ≤ n → n ≤ high → high < 2 ^ 42 → next (value_at s low high (encode n ++ rest)) f ≡ f n rest
value_then s low high n rest f l h b = grind (arith, number_then)

sum_lengths : (ess : List (List Entry)) → sum (lengths_of ess) ≡ length (flat_map packed_track ess)
sum_lengths [] = refl
sum_lengths (es ∷ ess) = grind (arith, sum_by-cons (λ x. x) (length (packed_track es)) (lengths_of ess), length-append, sum_lengths ess)

small_lengths : (ess : List (List Entry)) → length (flat_map packed_track ess) ≤ 60000 → AllByRecursion (λ n. n < 2 ^ 42) (lengths_of ess)
small_lengths [] h = tt
small_lengths (es ∷ ess) h = grind (arith, length-append, small_lengths ess)

pieces_are : (i start : ℕ) (ess : List (List Entry)) → AllByRecursion (λ es. AllFit 0 (map view_entry es)) ess → TracksAre (pieces_at i start (lengths_of ess) (flat_map packed_track ess)) ess
pieces_are i start [] f = tt
pieces_are i start (es ∷ ess) f = grind (arith, take_at, drop_at, track_read_back, pieces_are (i + 1) (start + length (packed_track es)) ess)

faultless_are : (ps : List Piece) (ess : List (List Entry)) (c : Contents) → TracksAre ps ess → faultless ps c ≡ Ok c
faultless_are [] [] c t = refl
faultless_are [] (es ∷ ess) c t = absurd t
faultless_are (p ∷ ps) [] c t = absurd t
faultless_are (p ∷ ps) (es ∷ ess) c t = grind (arith, faultless_are ps ess c)

module _ (platform clock : ℕ) (ess : List (List Entry)) (p : (1 ≤ platform) × (platform ≤ 2)) (c : (1 ≤ clock) × (clock ≤ 2)) (n : (1 ≤ length ess) × (length ess ≤ 8)) (small : length (flat_map packed_track ess) ≤ 60000) where
  abbrev body : List ℕ
  body = flat_map packed_track ess

  abbrev start : Span → ℕ
  start s = s.end - length body

  tracks_back : (s : Span) → tracks_at s platform clock (length ess) (flat_map encode (lengths_of ess) ++ body) ≡ Ok (told (platform_of platform) (clock_of clock) (pieces_at 0 (start s) (lengths_of ess) body))
  tracks_back s = grind (arith, length-map, numbers_back, sum_lengths, small_lengths)

  header_back : (s : Span) → header_at s (bundle_bytes platform clock ess) ≡ Ok (told (platform_of platform) (clock_of clock) (pieces_at 0 (start s) (lengths_of ess) body))
  header_back s = grind (arith, append_assoc, value_then, tracks_back)

pub packed_bundle_is_accepted : PackedBundleIsAccepted
unfolding bundle_of header_of
packed_bundle_is_accepted platform clock ess p c n fit h =
    let bs = bundle_bytes platform clock ess in
    let small : length (flat_map packed_track ess) ≤ 60000 = omega (arith, length-append (header_bytes platform clock ess) (flat_map packed_track ess)) in
    let start = length bs - length (flat_map packed_track ess) in
    let are = pieces_are 0 start ess fit in
    let header = header_back platform clock ess p c n small (header_span bs) in
    (pieces_at 0 start (lengths_of ess) (flat_map packed_track ess), grind (arith, header, are, faultless_are), are)

-- in a bundle with no fault, no track has one

pub faultless_each : (ps : List Piece) (c d : Contents) → faultless ps c ≡ Ok d → (c ≡ d) × AllByRecursion (λ p. (es : List Timed) × (entries_of p ≡ Ok es)) ps
faultless_each [] c d e = grind arith
faultless_each (p ∷ ps) c d e = grind (arith, faultless_each ps c d)

pub checked : (r : Result Contents Fault) (d : Contents) → tracks_checked r ≡ Ok d → (r ≡ Ok d) × AllByRecursion (λ p. (es : List Timed) × (entries_of p ≡ Ok es)) d.pieces
checked r d e = grind (arith, faultless_each)
