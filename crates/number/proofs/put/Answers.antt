use Rattle.std.proofs.Common.{◌≡◌, ◌+◌, ◌/◌, ◌<◌, length, ap, ◌∙◌, arith}
use Rattle.std.proofs.lemmas.Grind.{elements}
use Rattle.std.proofs.lemmas.List.{get_or-set_same, get_or-set_other}
use Rattle.number.specs.Numbers.{encode}
use Rattle.number.proofs.NumberLaws.{encode_some, next_left, group_at, last_left, few_left}
use Rattle.number.proofs.put.Goals as goal

pub loop-byte-init : goal.loop-byte-init
loop-byte-init c = grind (arith, encode_some c.args.n)

pub loop-byte-preserved : goal.loop-byte-preserved
loop-byte-preserved c =
    let i = c.loop-byte.byte-index in
    let left = c.loop-byte.invariant.0 in
    let more : i + 1 < length (encode c.args.n) = grind (arith, last_left i c.args.n) in
    let at = group_at i c.args.n c.requires.small c.loop-byte.invariant.1 in
    (ap (λ m. m / 128) left ∙ next_left i c.args.n, more, grind (arith, get_or-set_same, get_or-set_other, left, at, more))

pub returns-then-left-lt128 : goal.returns-then-left-lt128
returns-then-left-lt128 c =
    let i = c.loop-byte.byte-index in
    let end : length (encode c.args.n) ≡ i + 1 = grind (arith, few_left i c.args.n) in
    grind (arith, elements, end, group_at i c.args.n c.requires.small c.loop-byte.invariant.1)

pub returns : goal.returns
returns c = absurd (omega (arith, c.requires.room, c.loop-byte-test.false, c.loop-byte.invariant.1))
