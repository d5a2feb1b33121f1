-- In a bundle with no fault each track is packed from just one list of records.
use Rattle.std.proofs.Common.{◌≡◌, ℕ, ◌+◌, ◌-◌, ◌≤◌, List, [], ◌∷◌, ◌++◌, length, take, drop, Ok, Result, subst, arith}
use Rattle.std.specs.List.{flat_map, AllByRecursion}
use Rattle.std.proofs.lemmas.List.{length-append, length-take, take-append-drop, get_or-take, get_or_past}
use Rattle.std.proofs.lemmas.Grind.{common_steps}
use Rattle.fault.specs.declared.Fault.{Fault}
use Rattle.fault.specs.declared.Span.{Span}
use Rattle.fault.specs.Faults.{next}
use Rattle.number.specs.Numbers.{encode, Bytes}
use Rattle.track.specs.Records.{numbers_at}
use Rattle.track.specs.Tracks.{Timed, Piece, entries_of}
use Rattle.track.proofs.RecordLaws.{next_ok, number_ok, numbers_one, bytes_after}
use Rattle.track.proofs.TrackLaws.{legal_track_has_one_list}
use Rattle.bundle.specs.Bundles.{Contents, pieces_from, value_at, pieces_at, cut_at, header_at, header_span, header_of, bundle_of, EachHasOneList}
use Rattle.bundle.proofs.BundleLaws.{checked}

-- bytes, at most m of them
abbrev Sound : ℕ → List ℕ → Type 0
Sound m bs = Bytes bs × (length bs ≤ m)

sound_after : (m : ℕ) (xs ys : List ℕ) → Sound m (xs ++ ys) → Sound m ys
sound_after m xs ys h = (bytes_after xs ys h.0, omega (arith, h.1, length-append xs ys))

module _ (m n : ℕ) (bs : List ℕ) (h : Sound m bs) where
  sound_take : Sound m (take n bs)
  sound_take = grind (arith, get_or-take, get_or_past, length-take)

  sound_drop : Sound m (drop n bs)
  sound_drop = grind (arith, common_steps, take-append-drop, sound_after)

pieces_sound : (m i start : ℕ) (ns left : List ℕ) → Sound m left → AllByRecursion (λ p. Sound m p.bytes) (pieces_at i start ns left)
pieces_sound m i start [] left h = tt
pieces_sound m i start (n ∷ ns) left h = (sound_take m n left h, pieces_sound m (i + 1) (start + n) ns (drop n left) (sound_drop m n left h))

module _ (m : ℕ) (s : Span) where
  -- what follows a header number that was read, by a continuation
  value_ok : {Z : Type 0} (low high : ℕ) (bs : List ℕ) (f : ℕ → List ℕ → Result Contents Fault) (w : Contents) → Sound m bs → next (value_at s low high bs) f ≡ Ok w → ((n : ℕ) (r : List ℕ) → Sound m r → f n r ≡ Ok w → Z) → Z
  value_ok low high bs f w h e k =
      let a = next_ok (value_at s low high bs) f w e in
      number_ok s bs _ a.0 h.0 a.1 (λ n r lt is by e₁.
      k a.0.0 a.0.1 (grind (arith, length-append)) a.2)

  tracks_sound : (count : ℕ) (bs : List ℕ) (ps : List Piece) → Sound m bs → pieces_from s count bs ≡ Ok ps → AllByRecursion (λ p. Sound m p.bytes) ps
  tracks_sound count bs ps h e =
      let a = next_ok (numbers_at s count bs) (cut_at s) ps e in
      let ns = numbers_one s count bs a.0 h.0 a.1 in
      let body = sound_after m (flat_map encode a.0.0) a.0.1 (subst (Sound m) ns.2 h) in
      let all = pieces_sound m 0 (s.end - length a.0.1) a.0.0 a.0.1 body in
      grind arith

  header_sound : (bs : List ℕ) (c : Contents) → Sound m bs → header_at s bs ≡ Ok c → AllByRecursion (λ p. Sound m p.bytes) c.pieces
  header_sound bs c h e =
      value_ok 1 1 bs _ c h e (λ version r₁ h₁ e₁. value_ok 1 2 r₁ _ c h₁ e₁ (λ platform r₂ h₂ e₂. value_ok 1 2 r₂ _ c h₂ e₂ (λ clock r₃ h₃ e₃.
      value_ok 0 0 r₃ _ c h₃ e₃ (λ zero r₄ h₄ e₄. value_ok 1 8 r₄ _ c h₄ e₄ (λ count r₅ h₅ e₅. tracks_sound count r₅ c.pieces h₅ (grind arith))))))

one_list_each : (ps : List Piece) → AllByRecursion (λ p. Sound 60000 p.bytes) ps → AllByRecursion (λ p. (es : List Timed) × (entries_of p ≡ Ok es)) ps → EachHasOneList ps
one_list_each [] s t = tt
one_list_each (p ∷ ps) s t = ((t.0.0, t.0.1, legal_track_has_one_list p.end p.number p.bytes t.0.0 s.0.0 s.0.1 t.0.1), one_list_each ps s.1 t.1)

pub accepted_has_one_list : (bs : List ℕ) (d : Contents) → Bytes bs → bundle_of bs ≡ Ok d → EachHasOneList d.pieces
unfolding bundle_of header_of
accepted_has_one_list bs d bytes e =
    let short : length bs ≤ 60000 = grind arith in
    let c = checked (header_of bs) d e in
    let head : header_at (header_span bs) bs ≡ Ok d = grind arith in
    one_list_each d.pieces (header_sound 60000 (header_span bs) bs d (bytes, short) head) c.1
