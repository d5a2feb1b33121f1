use Rattle.std.proofs.Common.{◌+◌, ◌<◌, ◌∙◌, arith}
use Rattle.number.specs.Numbers.{Bytes}
use Rattle.number.proofs.NumberReading.{kept_none, kept_end, kept_more, kept_last, first_group, next_group, done, after_first, after_group, other_at}
use Rattle.number.proofs.read_groups.Goals as goal

pub returns-in_default-clause-is : goal.returns-in_default-clause-is
returns-in_default-clause-is c = kept_end _ 0 0 (kept_none _) (omega arith) (omega arith)

pub returns-then-first-lt128 : goal.returns-then-first-lt128
returns-then-first-lt128 c =
    let by : Bytes c.args.bytes.now = λ i. omega (arith, c.type_inv.bytes i) in
    let is = kept_last _ 0 0 (kept_none c.args.bytes.now) (omega arith) (omega arith) c.from.result (omega (arith, c.from.ensures)) c.if-first-lt128.true (λ z. omega arith) in
    let d = done _ _ _ 1 by (after_first c.args.bytes.now) is in
    record { is = d.is; bound = d.bound; whole = d.whole; shorter = d.short; bytes = by }

pub loop-i-init : goal.loop-i-init
loop-i-init c = kept_more _ 0 0 (kept_none _) (omega arith) (omega arith) _ (first_group _ _ c.from-value.ensures) c.if-first-lt128.false (omega (arith, c.type_inv.bytes 0))

pub returns-then-group-lt128 : goal.returns-then-group-lt128
returns-then-group-lt128 c =
    let by : Bytes c.args.bytes.now = λ i. omega (arith, c.type_inv.bytes i) in
    let g = other_at c.args.bytes.now _ c.loop-i.i c.loop-i-test.true in
    let few : c.loop-i.i + 1 < 6 = omega (arith, g.1) in
    let value = next_group _ _ _ _ few c.loop-i.invariant.below c.from-in-loop-i.ensures in
    let d =
    done _ _ _ _ by (after_group c.args.bytes.now c.loop-i.i)
    (kept_last _ _ _ c.loop-i.invariant few g.0 _ (rw (← g.2) value) (rw (← g.2) c.if-group-lt128.true) (λ z. absurd (c.if-group-eq0.false (g.2 ∙ z)))) in
    record { is = d.is; bound = d.bound; whole = d.whole; shorter = d.short; bytes = by }

pub loop-i-preserved : goal.loop-i-preserved
loop-i-preserved c =
    let g = other_at c.args.bytes.now _ c.loop-i.i c.loop-i-test.true in
    let few : c.loop-i.i + 1 < 6 = omega (arith, g.1) in
    kept_more _ _ _ c.loop-i.invariant few g.0 _ (rw (← g.2) (next_group _ _ _ _ few c.loop-i.invariant.below c.from-in-loop-i.ensures)) (omega (arith, g.2, c.if-group-lt128.false)) (omega (arith, c.type_inv.bytes (c.loop-i.i + 1)))
