-- The words of the header.
use Rattle.std.specs.Prelude.{ℕ, List, codes}
use Rattle.bundle.specs.declared.bundles.PlatformKind.{PlatformKind}
use Rattle.bundle.specs.declared.bundles.PlatformKind.TheVariants.{Idle, Firmware}
use Rattle.bundle.specs.declared.bundles.ClockKind.{ClockKind}
use Rattle.bundle.specs.declared.bundles.ClockKind.TheVariants.{Track, Tick}

abbrev pub platform_name : PlatformKind → List ℕ
platform_name Idle = codes "idle"
platform_name Firmware = codes "firmware"

abbrev pub clock_name : ClockKind → List ℕ
clock_name Track = codes "track"
clock_name Tick = codes "tick"
