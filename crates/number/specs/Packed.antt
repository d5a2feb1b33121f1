-- What packing answers, and what it leaves in the slice.
use Rattle.std.specs.Prelude.{◌≡◌, ℕ, ◌<◌, ◌≤◌, List, ◌++◌, length, drop, Option, Some, None, Ok, Err, Result}
use Rattle.fault.specs.declared.Refusal.{Refusal}
use Rattle.fault.specs.declared.Refusal.TheVariants.{Unfit, Short}

-- bs, of which fit says whether it may be packed, goes to the start of a slice: a refusal leaves every byte, and done leaves every byte past the end
abbrev pub Packed : Type 0 → List ℕ → List ℕ → List ℕ → Result ℕ Refusal → Type 0
Packed fit bs old new (Ok k) = fit × (k ≡ length bs) × (k ≤ length old) × (new ≡ bs ++ drop k old)
Packed fit bs old new (Err (Short k)) = fit × (k ≡ length bs) × (length old < k) × (new ≡ old)
Packed fit bs old new (Err Unfit) = (fit → ⊥) × (new ≡ old)

-- how many bytes bs takes, or none where it may not be packed
abbrev pub Needs : Type 0 → List ℕ → Option ℕ → Type 0
Needs fit bs (Some k) = fit × (k ≡ length bs)
Needs fit bs None = fit → ⊥

-- bs stands at the start of a slice, k is how many bytes it takes, and every byte past it stays
pub record Put (bs old new : List ℕ) (k : ℕ) : Type 0 where
  pub end : k ≡ length bs
  pub after : new ≡ bs ++ drop (length bs) old
