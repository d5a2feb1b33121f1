-- What is put into a slice, one part after another.
use Rattle.std.proofs.Common.{◌≡◌, ℕ, ◌+◌, ◌-◌, ◌<◌, ◌≤◌, List, [], ◌++◌, length, get_or, take, drop, append_assoc, arith}
use Rattle.std.specs.List.{flat_map}
use Rattle.std.proofs.lemmas.List.{length-append, length-take, length-drop, take_at, take_more, drop_at, drop-drop, take_rest, drop_all, append-nil, flat_map_more}
use Rattle.std.proofs.lemmas.List.Concat.{length-flat_map}
use Rattle.std.proofs.lemmas.List.Sums.{sum_by_more_le}
use borrow.Rule.Slice.PartMut.{put_mid}
use Rattle.number.specs.Packed.{Put}

-- one part, and then another at the start of what is left of the slice
pub put_more : (xs bs old mid part : List ℕ) (k j : ℕ) → Put xs old mid k → Put bs (take (length mid - k) (drop k mid)) part j → Put (xs ++ bs) old (put_mid k (length mid - k) mid part) (k + j)
put_more xs bs old mid part k j p q = grind (arith, length-append, length-drop, append_assoc, append-nil, take_at, take_rest, drop_at, drop_all, drop-drop)

-- of the parts of a list i are put, x is the next, and there is room for all
module _ {X : Type 0} (f : X → List ℕ) (xs : List X) (i : ℕ) (x : X) (lt : i < length xs) (is : x ≡ get_or xs i x) (old mid : List ℕ) (k : ℕ) (p : Put (flat_map f (take i xs)) old mid k) where
  pub put_room : length (flat_map f xs) ≤ length mid → length (f x) ≤ length (take (length mid - k) (drop k mid))
  put_room room = grind (arith, length-take, length-drop, length-flat_map, sum_by_more_le)

  pub put_turn : (part : List ℕ) (j : ℕ) → Put (f x) (take (length mid - k) (drop k mid)) part j → Put (flat_map f (take (i + 1) xs)) old (put_mid k (length mid - k) mid part) (k + j)
  put_turn part j q =
      let e : flat_map f (take (i + 1) xs) ≡ flat_map f (take i xs) ++ f x = grind (arith, take_more, flat_map_more f []) in
      rw e (put_more _ _ _ _ _ _ _ p q)
