-- The words of the kinds.
use Rattle.std.specs.Prelude.{ℕ, List, codes}
use Rattle.track.specs.declared.records.Kind.{Kind}
use Rattle.track.specs.declared.records.Kind.TheVariants.{Enrol, Event, Stay, Relax, Tick, Read, Write, Step, Autosleep, Round, Load, Unknown}

abbrev pub kind_name : Kind → List ℕ
kind_name Enrol = codes "enrol"
kind_name Event = codes "event"
kind_name Stay = codes "stay"
kind_name Relax = codes "relax"
kind_name Tick = codes "tick"
kind_name Read = codes "read"
kind_name Write = codes "write"
kind_name Step = codes "step"
kind_name Autosleep = codes "autosleep"
kind_name Round = codes "round"
kind_name Load = codes "load"
kind_name (Unknown n) = codes "unknown"
