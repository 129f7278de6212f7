-- What stands under a key of a line that was read has keys that rise.
use Rattle.std.proofs.Common.{◌≡◌, ℕ, List, Option, None, Some, option_map, IfSome, Bor, true, sym}
use Rattle.serde_json.specs.Data.{Data}
use Rattle.serde_json.specs.Find.{get}
use Rattle.line_values.specs.Order.{keys_rise, HasRising}
use Rattle.line_values.specs.View.{view}
use Rattle.line_values.specs.declared.line_value.LineValue.{LineValue}

pub found_rises : (o : Option (Bor LineValue)) (d : Data) (key : List ℕ) → HasRising d → option_map (λ v. view v.now) o ≡ get key d → IfSome o (λ v. keys_rise (view v.now) ≡ true)
found_rises None d key rising e = tt
found_rises (Some v) d key rising e = rising key (view v.now) (sym e)
