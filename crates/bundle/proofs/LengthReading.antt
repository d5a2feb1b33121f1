-- What the loop over the lengths keeps.
use Rattle.std.proofs.Common.{◌≡◌, ℕ, ◌+◌, ◌-◌, ◌*◌, ◌^◌, ◌<◌, ◌≤◌, List, [], ◌∷◌, ◌++◌, length, take, set, Ok, Err, sum, ◌∙◌, append_assoc, append-nil, arith, rules}
use Rattle.std.proofs.lemmas.List.{take_more_set, length-set, take_all}
use Rattle.std.proofs.lemmas.List.Sums.{sum_by-append}
use Rattle.fault.specs.declared.Reader.{Reader}
use Rattle.fault.specs.declared.Fault.{Fault}
use Rattle.fault.specs.Faults.{Reads, next}
use Rattle.number.specs.Numbers.{number_at}
use Rattle.track.specs.Records.{numbers_at}

-- the lengths that are read, and then those that are still to be read
abbrev before : List ℕ → Reads (List ℕ) → Reads (List ℕ)
before ns (Ok w) = Ok (ns ++ w.0, w.1)
before ns (Err f) = Err f

before_more : (ns : List ℕ) (n : ℕ) (g : Reads (List ℕ)) → before ns (next g (λ ms r. Ok (n ∷ ms, r))) ≡ before (ns ++ n ∷ []) g
before_more ns n g = grind (arith, append_assoc)

-- of the count numbers that the reader old gives, the first i are the first of ns, and now gives the others
pub record Lengths (old : Reader) (count i : ℕ) (ns : List ℕ) (now : Reader) : Type 0 where
  pub is : numbers_at old.span count old.rest.now ≡ before (take i ns) (numbers_at old.span (count - i) now.rest.now)
  pub same : now.span ≡ old.span
  pub room : length ns ≡ count
  pub small : sum (take i ns) ≤ i * 2 ^ 42

pub lengths_none : (old : Reader) (ns : List ℕ) → Lengths old (length ns) 0 ns old
lengths_none old ns = search rules

module _ (old : Reader) (count i : ℕ) (ns : List ℕ) (now : Reader) (l : Lengths old count i ns now) where
  module _ (lt : i < count) where
    abbrev left : ℕ
    left = count - (i + 1)

    abbrev others : Reads ℕ → Reads (List ℕ)
    others g = next {Y = List ℕ × List ℕ} g (λ n r. next (numbers_at old.span left r) (λ ms r. Ok (n ∷ ms, r)))

    one : (g : Reads ℕ) → number_at now.span now.rest.now ≡ g → numbers_at old.span count old.rest.now ≡ before (take i ns) (others g)
    one g e = search rules

    pub lengths_more : (n : ℕ) (then : Reader) → n < 2 ^ 42 → number_at now.span now.rest.now ≡ Ok (n, then.rest.now) → then.span ≡ now.span → Lengths old count (i + 1) (set ns i n) then
    lengths_more n then small e same = record {
      is = one _ e ∙ grind (arith, before_more, take_more_set);
      same = grind arith;
      room = grind (arith, length-set);
      small = grind (arith, take_more_set, sum_by-append);
    }

    pub lengths_stop : (f : Fault) → number_at now.span now.rest.now ≡ Err f → numbers_at old.span count old.rest.now ≡ Err f
    lengths_stop f e = one _ e

  pub lengths_end : i ≡ count → (numbers_at old.span count old.rest.now ≡ Ok (ns, now.rest.now)) × (sum ns ≤ length ns * 2 ^ 42)
  lengths_end e = grind (arith, take_all, append-nil)
