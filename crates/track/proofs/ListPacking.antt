-- What the loops over a list of entries keep.
use Rattle.std.proofs.Common.{◌≡◌, ℕ, ◌+◌, ◌*◌, ◌<◌, ◌≤◌, ◌↔◌, List, [], ◌∷◌, map, length, get_or, drop, refl, arith}
use Rattle.std.specs.List.{flat_map, AllByRecursion}
use Rattle.std.proofs.lemmas.List.{length-append, length-map, drop_more, drop_all, get_or-map}
use Rattle.track.specs.declared.tracks.Entry.{Entry}
use Rattle.track.specs.Tracks.{limit, Timed, view_entry, entry_bytes, track_bytes, packed_track, FitsAfter, AllFit}

-- each of the entries may be packed by itself
pub each_fits : (last : ℕ) (es : List Entry) → AllFit last (map view_entry es) → AllByRecursion (λ e. FitsAfter 0 (view_entry e)) es
each_fits last [] f = tt
each_fits last (e ∷ es) f = ((omega (arith, f.0.0), f.0.1), each_fits (last + e.difference) es f.1)

pub packed_each : (es : List Entry) → flat_map (λ e. entry_bytes (view_entry e)) es ≡ packed_track es
packed_each [] = refl
packed_each (e ∷ es) = grind (arith, packed_each es)

abbrev pub rest : List Entry → ℕ → List Timed
rest es i = drop i (map view_entry es)

-- after i of the entries, which take len bytes and end at the stamp last
pub record Measured (es : List Entry) (i last len : ℕ) : Type 0 where
  pub fit : AllFit last (rest es i) ↔ AllFit 0 (map view_entry es)
  pub sum : len + length (track_bytes (rest es i)) ≡ length (packed_track es)
  pub bound : len ≤ 60030 * i
  pub within : last ≤ limit

module _ (es : List Entry) (i last len : ℕ) (m : Measured es i last len) where
  module _ (d : Entry) (lt : i < length es) where
    abbrev here : Timed
    here = view_entry (get_or es i d)

    rest_more : rest es i ≡ here ∷ rest es (i + 1)
    rest_more = grind (arith, drop_more (map view_entry es) i (view_entry d), length-map, get_or-map view_entry es i d)

    pub measured_first : AllFit 0 (map view_entry es) → FitsAfter last here
    measured_first all = grind (arith, rest_more)

    pub measured_more : (k : ℕ) → FitsAfter last here → k ≡ length (entry_bytes here) → k ≤ 60030 → Measured es (i + 1) (last + here.difference) (len + k)
    measured_more k f e b = grind (arith, length-append, rest_more)

  pub measured_end : length es ≤ i → AllFit 0 (map view_entry es) × (len ≡ length (packed_track es))
  measured_end done = grind (arith, length-map, drop_all)
