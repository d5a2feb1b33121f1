-- The numbers of the tracks of a bundle.
use Rattle.std.specs.Prelude.{◌≡◌, ℕ, zero, suc, List, [], ◌∷◌, ◌++◌, map}
use Rattle.track.specs.declared.tracks.Track.{Track}

-- 0, 1 and so on, below a number
abbrev pub below : ℕ → List ℕ
below zero = []
below (suc n) = below n ++ n ∷ []

-- tracks that are numbered in their order
abbrev pub Numbered : ℕ → List Track → Type 0
Numbered count ts = map (λ t. t.number) ts ≡ below count
