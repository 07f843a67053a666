-- What few groups have beside their parts, wherever it lies (the bridge's own).
use Rattle.std.specs.Prelude.{Option, None, Some}
use Rattle.std.specs.declared.alloc.Global.{Global}
use Rattle.std.specs.declared.boxed.Box.{Box}
use Rattle.sample_groups.specs.declared.extra.Extra.{Extra}
use Rattle.sample_groups.specs.ExtraValues.{ExtraValue, no_extra}

-- it, or none of it
abbrev pub extra_in : Option (Box Extra Global) → ExtraValue
extra_in None = no_extra
extra_in (Some b) = b.value
