-- Going through the entries of a track.
use Rattle.std.proofs.Common.{◌≡◌, ℕ, List, [], ◌∷◌, ◌++◌, length, Some, None, Ok, Err, Result, ap, ◌∙◌, subst, arith}
use Rattle.fault.specs.declared.Fault.{Fault}
use Rattle.track.specs.declared.tracks.Entry.{Entry}
use Rattle.track.specs.declared.tracks.Track.{Track}
use Rattle.track.specs.declared.tracks.Entries.{Entries}
use Rattle.track.specs.Tracks.{Timed, view_entry, piece_of, entries_of}
use Rattle.track.specs.Stepping.{Steps}
use Rattle.track.proofs.TrackLaws.{Left, left_none, left_more, left_stop, left_end}

-- of the track t the entries done were given, and s gives the others
pub record Walked (t : Track) (done : List Timed) (s : Entries) : Type 0 where
  pub left : Left t.end t.number t.bytes.now done s.read s.stamp s.left.bytes.now
  pub end : s.left.end ≡ t.end
  pub number : s.left.number ≡ t.number

pub walked_none : (t : Track) (s : Entries) → s.left ≡ t → s.read ≡ 0 → s.stamp ≡ 0 → Walked t [] s
walked_none t s l i n = grind (arith, left_none)

module _ (t : Track) (done : List Timed) (s : Entries) (w : Walked t done s) (u : Entries) where
  -- what was given is r
  module _ (r : Result (ℕ × Entry) Fault) (h : Steps s (Some r) u) where
    pub walked_more : (v : ℕ × Entry) → r ≡ Ok v → Walked t (done ++ view_entry v.1 ∷ []) u
    walked_more v e = let h' = subst (λ x. Steps s (Some x) u) e h in record {
      left = rw (h'.5, h'.4, h'.3) (left_more _ _ _ _ _ _ _ w.left _ _ h'.0 (rw (w.end, w.number) at h'.1) h'.2);
      end = h'.6 ∙ w.end;
      number = h'.7 ∙ w.number;
    }

    pub walked_stop : (f : Fault) → r ≡ Err f → entries_of (piece_of t) ≡ Err f
    walked_stop f e = let h' = subst (λ x. Steps s (Some x) u) e h in left_stop _ _ _ _ _ _ _ w.left _ h'.0 (rw (w.end, w.number) at h'.1)

  pub walked_end : Steps s None u → entries_of (piece_of t) ≡ Ok done
  walked_end h = left_end _ _ _ _ _ _ _ w.left (ap length h.0)
