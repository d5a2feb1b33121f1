-- What the parts of a listing leave.
use Rattle.std.specs.Prelude.{◌≡◌, ℕ, ◌<◌, List, [], ◌++◌, length, Ok, Err, Result, String, slice_index_or}
use Rattle.std.specs.List.{flat_map}
use Rattle.std.specs.String.{string_bytes}
use Rattle.std.specs.declared.alloc.Global.{Global}
use Rattle.bundle.specs.Bundles.{piece, bundle_of}
use Rattle.track.specs.Tracks.{Piece, entries_of}
use Rattle.listing.specs.declared.Stop.{Stop}
use Rattle.listing.specs.declared.Stop.TheVariants.{Faulty, NoMemory}
use Rattle.listing.specs.Text.{track_text, listing_text}

-- a track is listed after what there was, or its fault is told
abbrev pub Listed : Piece → List ℕ → List ℕ → Result (Unit {0}) Stop → Type 0
Listed p old new (Ok u) = new ≡ old ++ track_text p
Listed p old new (Err (Faulty f)) = entries_of p ≡ Err f
Listed p old new (Err (NoMemory e)) = Unit {0}

-- all tracks are listed, or the fault of one is told
abbrev pub AllListed : List Piece → List ℕ → List ℕ → Result (Unit {0}) Stop → Type 0
AllListed ps old new (Ok u) = new ≡ old ++ flat_map track_text ps
AllListed ps old new (Err (Faulty f)) = (i : ℕ) × (i < length ps) × (entries_of (slice_index_or ps i (piece 0 0 [])) ≡ Err f)
AllListed ps old new (Err (NoMemory e)) = Unit {0}

-- a whole bundle is listed, or its first fault is told
abbrev pub Whole : List ℕ → Result (String Global) Stop → Type 0
Whole bs (Ok text) = string_bytes text ≡ listing_text bs
Whole bs (Err (Faulty f)) = bundle_of bs ≡ Err f
Whole bs (Err (NoMemory e)) = Unit {0}
