-- One step through the entries of a track.
use Rattle.std.specs.Prelude.{◌≡◌, ℕ, ◌+◌, ◌<◌, [], length, Some, None, Option, Ok, Err, Result}
use Rattle.fault.specs.declared.Fault.{Fault}
use Rattle.track.specs.declared.tracks.Entry.{Entry}
use Rattle.track.specs.declared.tracks.Track.{Track}
use Rattle.track.specs.declared.tracks.Entries.{Entries}
use Rattle.track.specs.Tracks.{view_entry, entry_at, record_span, Taken}

-- how many bytes are left
abbrev pub unread : Entries → ℕ
unread s = length s.left.bytes.now

-- nothing of the track was given yet
pub record Begins (t : Track) (s : Entries) : Type 0 where
  pub left : s.left ≡ t
  pub read : s.read ≡ 0
  pub stamp : s.stamp ≡ 0

-- none at the end; else the next entry, with its stamp, or its fault, and then nothing is left
abbrev pub Steps : Entries → Option (Result (ℕ × Entry) Fault) → Entries → Type 0
Steps s None t = (s.left.bytes.now ≡ []) × (t ≡ s)
Steps s (Some (Ok (stamp, e))) t =
    (0 < length s.left.bytes.now) × (entry_at (record_span s.left.end s.left.number s.read) s.stamp s.left.bytes.now ≡ Ok (view_entry e, t.left.bytes.now))
    × Taken s.stamp s.left.bytes.now (view_entry e) t.left.bytes.now
    × (stamp ≡ s.stamp + e.difference) × (t.stamp ≡ stamp) × (t.read ≡ s.read + 1) × (t.left.end ≡ s.left.end) × (t.left.number ≡ s.left.number)
Steps s (Some (Err f)) t =
    (0 < length s.left.bytes.now) × (entry_at (record_span s.left.end s.left.number s.read) s.stamp s.left.bytes.now ≡ Err f)
    × (t.left.bytes.now ≡ []) × (t.stamp ≡ s.stamp) × (t.read ≡ s.read) × (t.left.end ≡ s.left.end) × (t.left.number ≡ s.left.number)
