-- The number of a track is its place among the tracks.
use Rattle.std.proofs.Common.{◌≡◌, ℕ, zero, suc, ◌+◌, ◌<◌, List, [], ◌∷◌, ◌++◌, length, get_or, sym, refl, ap, ◌∙◌, ⊎_elim, arith}
use Rattle.std.proofs.lemmas.Bool.{cases_lt}
use Rattle.std.proofs.lemmas.List.{length-append, get_or_append_left, get_or-append-add, get_or-map}
use Rattle.track.specs.declared.tracks.Track.{Track}
use Rattle.bundle.specs.Numbered.{below, Numbered}

length-below : (n : ℕ) → length (below n) ≡ n
length-below zero = refl
length-below (suc n) = omega (arith, length-append (below n) (n ∷ []), length-below n)

below-at : (n i : ℕ) → i < n → get_or (below n) i 0 ≡ i
below-at zero i h = absurd (omega arith)
below-at (suc n) i h = ⊎_elim
    (λ lt. get_or_append_left (below n) (n ∷ []) 0 i (omega (arith, length-below n)) ∙ below-at n i lt)
    (λ le. let e : i ≡ length (below n) + 0 = omega (arith, length-below n) in ap (λ k. get_or (below n ++ n ∷ []) k 0) e ∙ get_or-append-add (below n) (n ∷ []) 0 0 ∙ omega arith)
    (cases_lt i n)

pub numbered_at : (ts : List Track) (i : ℕ) (d : Track) → Numbered (length ts) ts → i < length ts → (get_or ts i d).number ≡ i
numbered_at ts i d h lt = sym (get_or-map (λ t. t.number) ts i d 0 lt) ∙ ap (λ ns. get_or ns i 0) h ∙ below-at (length ts) i lt
