-- Which fields make no document.
use Rattle.std.specs.Prelude.{Option, Some, None, nat_lt, if◌then◌else◌}
use Rattle.documents.specs.Fields.{FieldMap}
use Rattle.documents.specs.Sizes.{largest, size_of}
use Rattle.documents.specs.declared.fault.DocumentFault.{DocumentFault}
use Rattle.documents.specs.declared.fault.DocumentFault.TheVariants.{TooLarge}

-- they are too large together
abbrev pub size_fault : FieldMap → Option DocumentFault
size_fault fields = if nat_lt largest (size_of fields) then Some (TooLarge (size_of fields)) else None
