use Rattle.std.proofs.Common.{[], ◌∷◌, ◌++◌, ap, append_assoc, append-nil, arith, rules}
use Rattle.std.specs.List.{flat_map}
use Rattle.std.proofs.lemmas.Str.{IsUtf8-from_ascii}
use Rattle.std.proofs.lemmas.Grind.{put_two, flat_map-append}
use Rattle.std.proofs.lemmas.List.{nil_from_length}
use Rattle.listing.specs.Text.{shown}
use Rattle.listing.proofs.NameDisplay.fmt.Goals as goal

pub unreachable-requires : goal.unreachable-requires
unreachable-requires g c = c.in_default.ensures.cases.0 (IsUtf8-from_ascii _ c.show-len.ensures.ascii)

pub loop-piece-init : goal.loop-piece-init
loop-piece-init g c = (search rules, tt, search rules, λ plain. ([], search rules, search rules))

pub loop-piece-preserved : goal.loop-piece-preserved
loop-piece-preserved g c =
    let steps = c.in-Some.ensures.steps in (
      search rules,
      tt,
      grind arith,
      λ plain.
          let w = c.loop-piece.invariant.3 plain in
          (w.0 ++ c.in-Some.piece.now, grind (arith, append_assoc, flat_map-append, put_two), grind (arith, append_assoc)),
    )

pub returns-clause-writes : goal.returns-clause-writes
returns-clause-writes g c = λ plain ok.
    let w = c.loop-piece.invariant.3 plain in
    let none = nil_from_length _ c.in-None.ensures.steps.1.0 in
    let all = rw (none, append-nil) at w.2 in
    put_two _ _ _ _ _ _ _ w.1 (c.write_str-2.ensures.writes w.1.plain ok) (ap (λ bs. 32 ∷ 34 ∷ (flat_map shown bs ++ 34 ∷ [])) all)
