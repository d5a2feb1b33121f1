-- What the numbers of a header stand for.
use Rattle.std.specs.Prelude.{ℕ, cond, ◌&&◌, Ok, Err, Result, ◌==◌, nat_le}
use Rattle.bundle.specs.declared.bundles.UnknownValue.{UnknownValue}
use Rattle.bundle.specs.declared.bundles.PlatformKind.{PlatformKind}
use Rattle.bundle.specs.declared.bundles.PlatformKind.TheVariants.{Idle, Firmware}
use Rattle.bundle.specs.declared.bundles.ClockKind.{ClockKind}
use Rattle.bundle.specs.declared.bundles.ClockKind.TheVariants as clock

abbrev pub platform_of : ℕ → PlatformKind
platform_of n = cond (n == 1) Idle Firmware

abbrev pub clock_of : ℕ → ClockKind
clock_of n = cond (n == 1) clock.Track clock.Tick

-- 1 and 2 stand for something
abbrev pub one_of_two : {X : Type 0} → (ℕ → X) → ℕ → Result X UnknownValue
one_of_two of n = cond (nat_le 1 n && nat_le n 2) (Ok (of n)) (Err (record { 0 = n }))

abbrev pub platform_at : ℕ → Result PlatformKind UnknownValue
platform_at n = one_of_two platform_of n

abbrev pub clock_at : ℕ → Result ClockKind UnknownValue
clock_at n = one_of_two clock_of n
