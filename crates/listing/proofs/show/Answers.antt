use Rattle.std.proofs.Common.{◌≡◌, take, sym, subst, arith}
use Rattle.std.specs.List.{flat_map}
use Rattle.std.specs.Str.{IsAscii}
use Rattle.std.proofs.lemmas.List.{take_all}
use Rattle.listing.specs.Text.{shown}
use Rattle.listing.proofs.Names.{shown_ascii}
use Rattle.listing.proofs.show.Goals as goal

pub returns-clause-ascii : goal.returns-clause-ascii
returns-clause-ascii c =
    let is : take c.loop-byte.len c.loop-byte.text ≡ flat_map shown c.args.piece.now = grind (arith, take_all) in
    subst IsAscii (sym is) (shown_ascii c.args.piece.now (λ i. omega (arith, c.type_inv.piece i)))
