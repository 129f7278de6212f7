-- Numbers that stand to two others as they are to.
use Rattle.std.specs.Prelude.{◌&&◌, ℤ, Bool}
use Rattle.query_text.specs.Truth.{relates}
use Rattle.match_views.specs.declared.ranges.Bound.{Bound}

abbrev pub within : Bound → Bound → ℤ → Bool
within one two q = relates one.rel one.number q && relates two.rel two.number q
