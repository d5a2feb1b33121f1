-- The entries of a track are read back, and what is read is the one packing of its entries.
use Rattle.std.proofs.Common.{◌≡◌, ℕ, zero, suc, ◌+◌, ◌<◌, ◌≤◌, List, [], ◌∷◌, ◌++◌, map, length, Ok, Err, Result, sym, refl, ap, ◌∙◌, subst, append_assoc, arith, rules}
use Rattle.std.proofs.lemmas.List.{length-append}
use Rattle.std.proofs.lemmas.Bool.{le-ltb}
use Rattle.fault.specs.declared.Span.{Span}
use Rattle.fault.specs.declared.Fault.{Fault}
use Rattle.track.specs.declared.tracks.Entry.{Entry}
use Rattle.fault.specs.Faults.{next}
use Rattle.number.specs.Numbers.{Bytes}
use Rattle.track.specs.Records.{record_at, Whole, Fits}
use Rattle.track.specs.Tracks.{limit, Timed, timed, view_entry, entry_at, prepend, record_span, track_in, track_of, stamp_after, entry_bytes, track_bytes, Wholes, AllFit, Taken, RecordReadBack, RecordOnePacking, TrackReadBack, LegalTrackHasOneList}
use Rattle.number.proofs.NumberLaws.{encode_some}
use Rattle.track.proofs.RecordLaws.{number_then, number_ok, next_ok, bytes_after, record_back, record_one, whole_view}

pub entry_back : (s : Span) (last : ℕ) (e : Timed) (rest : List ℕ) → last + e.difference ≤ limit → Whole e.what → entry_at s last (entry_bytes e ++ rest) ≡ Ok (e, rest)
entry_back s last e rest h w = grind (arith, append_assoc, number_then, record_back)

some_entry : (e : Timed) → 0 < length (entry_bytes e)
some_entry e = grind (arith, length-append, encode_some)

taken : (last : ℕ) (bs : List ℕ) (e : Timed) (rest : List ℕ) → last + e.difference ≤ limit → Whole e.what → bs ≡ entry_bytes e ++ rest → Taken last bs e rest
taken last bs e rest l w b = grind (arith, length-append, some_entry)

pub entry_one : (s : Span) (last : ℕ) (bs : List ℕ) (e : Timed) (rest : List ℕ) → Bytes bs → entry_at s last bs ≡ Ok (e, rest) → Taken last bs e rest
entry_one s last bs e rest h ok =
    number_ok s bs _ (e, rest) h ok (λ d r lt is by e₁.
    let within : last + d ≤ limit = grind arith in
    let a = next_ok (record_at s r) _ (e, rest) (rw (le-ltb limit (last + d) within) at e₁) in
    let one = record_one s r a.0 by a.1 in
    let t = taken last bs (timed d a.0.0) a.0.1 within one.0 (grind (arith, append_assoc, one)) in
    grind (arith, t))

-- one step of a loop that reads a track

-- what was read, and then what is still to be read
abbrev before : List Timed → Result (List Timed) Fault → Result (List Timed) Fault
before [] r = r
before (e ∷ es) r = prepend e (before es r)

before_push : (es : List Timed) (e : Timed) (r : Result (List Timed) Fault) → before es (prepend e r) ≡ before (es ++ e ∷ []) r
before_push [] e r = refl
before_push (x ∷ es) e r = grind (arith, before_push es e r)

before_err : (es : List Timed) (f : Fault) → before es (Err f) ≡ Err f
before_err [] f = refl
before_err (e ∷ es) f = grind (arith, before_err es f)

before_end : (es : List Timed) → before es (Ok []) ≡ Ok es
before_end [] = refl
before_end (e ∷ es) = grind (arith, before_end es)

stamp_push : (last : ℕ) (es : List Timed) (e : Timed) → stamp_after last (es ++ e ∷ []) ≡ stamp_after last es + e.difference
stamp_push last [] e = refl
stamp_push last (x ∷ es) e = stamp_push (last + x.difference) es e

-- of the track bs the records done are read, i of them, the last with the stamp last, and rest is unread
pub record Left (end track : ℕ) (bs : List ℕ) (done : List Timed) (i last : ℕ) (rest : List ℕ) : Type 0 where
  pub fuel : ℕ
  pub enough : length rest ≤ fuel
  pub is : track_of end track bs ≡ before done (track_in end track fuel i last rest)
  pub count : i ≡ length done
  pub stamp : last ≡ stamp_after 0 done
  pub within : last ≤ limit
  pub few : i + length rest ≤ length bs

pub left_none : (end track : ℕ) (bs : List ℕ) → Left end track bs [] 0 0 bs
unfolding track_of
left_none end track bs = search rules

abbrev after : ℕ → ℕ → ℕ → ℕ → ℕ → Timed → List ℕ → Result (List Timed) Fault
after end track k i last e r = prepend e (track_in end track k (i + 1) (last + e.difference) r)

module _ (end track i last : ℕ) where
  -- an entry is read
  pub track_more : (fuel : ℕ) (rest : List ℕ) (e : Timed) (r : List ℕ) → 0 < length rest → length rest ≤ fuel → entry_at (record_span end track i) last rest ≡ Ok (e, r) → (k : ℕ) × (length rest ≤ suc k) × (track_in end track fuel i last rest ≡ after end track k i last e r)
  track_more zero rest e r some h is = absurd (omega arith)
  track_more (suc k) [] e r some h is = absurd (omega arith)
  track_more (suc k) (b ∷ bs) e r some h is = (k, h, ap (λ g. next g (after end track k i last)) is)

  -- a fault is met
  track_stop : (fuel : ℕ) (rest : List ℕ) (f : Fault) → 0 < length rest → length rest ≤ fuel → entry_at (record_span end track i) last rest ≡ Err f → track_in end track fuel i last rest ≡ Err f
  track_stop fuel rest f some h is = search rules

  -- nothing is left
  track_end : (fuel : ℕ) (rest : List ℕ) → length rest ≡ 0 → track_in end track fuel i last rest ≡ Ok []
  track_end fuel rest h = search rules

  module _ (bs : List ℕ) (done : List Timed) (rest : List ℕ) (l : Left end track bs done i last rest) where
    pub left_more : (e : Timed) (r : List ℕ) → 0 < length rest → entry_at (record_span end track i) last rest ≡ Ok (e, r) → Taken last rest e r → Left end track bs (done ++ e ∷ []) (i + 1) (last + e.difference) r
    left_more e r some is t =
        let m = track_more l.fuel rest e r some l.enough is in
        record {
          fuel = m.0;
          enough = grind arith;
          is = grind (arith, before_push);
          count = grind (arith, l.count, length-append);
          stamp = grind (arith, stamp_push);
          within = t.within;
          few = grind arith;
        }

    pub left_stop : (f : Fault) → 0 < length rest → entry_at (record_span end track i) last rest ≡ Err f → track_of end track bs ≡ Err f
    left_stop f some is = search (rules, before_err, track_stop)

    pub left_end : length rest ≡ 0 → track_of end track bs ≡ Ok done
    left_end none = grind (arith, before_end, track_end)

-- whole tracks

pub record_read_back : RecordReadBack
record_read_back s last e rest f = entry_back s last (view_entry e) rest f.0 (whole_view e.«record» f.1)

-- what is read from few bytes has a short name
fits_whole : (e : Timed) (bs rest : List ℕ) → bs ≡ entry_bytes e ++ rest → length bs ≤ 60000 → Whole e.what → Fits e.what
fits_whole e bs rest is h w = grind (arith, length-append)

pub record_one_packing : RecordOnePacking
record_one_packing s last bs e rest by h is =
    let t = entry_one s last bs e rest by is in
    ((t.within, fits_whole e bs rest t.bytes h t.whole), t.bytes)

module _ (end track : ℕ) where
  back_in : (fuel i last : ℕ) (es : List Timed) → Wholes last es → length (track_bytes es) ≤ fuel → track_in end track fuel i last (track_bytes es) ≡ Ok es
  back_in fuel i last [] w h = grind (arith, track_end)
  back_in fuel i last (e ∷ es) w h =
      let m = track_more end track i last fuel (track_bytes (e ∷ es)) e (track_bytes es) (grind (arith, length-append, some_entry)) h (entry_back (record_span end track i) last e (track_bytes es) w.0 w.1) in
      grind (arith, length-append, some_entry, back_in m.0 (i + 1) (last + e.difference) es)

  prepend_ok : (e : Timed) (r : Result (List Timed) Fault) (es : List Timed) → prepend e r ≡ Ok es → (fs : List Timed) × (r ≡ Ok fs) × (e ∷ fs ≡ es)
  prepend_ok e r es h = search rules

  one_in : (fuel i last : ℕ) (bs : List ℕ) (es : List Timed) → Bytes bs → length bs ≤ fuel → length bs ≤ 60000 → track_in end track fuel i last bs ≡ Ok es → AllFit last es × (bs ≡ track_bytes es)
  one_in zero i last [] es by h small is = grind arith
  one_in zero i last (b ∷ bs) es by h small is = absurd (omega arith)
  one_in (suc k) i last [] es by h small is = grind arith
  one_in (suc k) i last (b ∷ bs) es by h small is =
      let a = next_ok (entry_at (record_span end track i) last (b ∷ bs)) _ es is in
      let p = record_one_packing (record_span end track i) last (b ∷ bs) a.0.0 a.0.1 by small a.1 in
      let t = entry_one (record_span end track i) last (b ∷ bs) a.0.0 a.0.1 by a.1 in
      let q = prepend_ok a.0.0 _ es a.2 in
      let more = one_in k (i + 1) (last + a.0.0.difference) a.0.1 q.0 (bytes_after (entry_bytes a.0.0) a.0.1 (subst Bytes t.bytes by)) (omega (arith, t.shorter)) (omega (arith, t.shorter)) q.1 in
      rw (sym q.2) ((p.0, more.0), t.bytes ∙ ap (λ l. entry_bytes a.0.0 ++ l) more.1)

wholes_view : (last : ℕ) (es : List Entry) → AllFit last (map view_entry es) → Wholes last (map view_entry es)
wholes_view last [] f = tt
wholes_view last (e ∷ es) f = grind (arith, whole_view, wholes_view (last + e.difference) es)

pub track_read_back : TrackReadBack
unfolding track_of
track_read_back end track es f = grind (arith, back_in, wholes_view)

pub legal_track_has_one_list : LegalTrackHasOneList
unfolding track_of
legal_track_has_one_list end track bs read by h is =
    let p = one_in end track (length bs) 0 0 bs read by (omega arith) h is in
    (p.0, sym p.1, λ es f e. grind (arith, track_read_back end track es))
