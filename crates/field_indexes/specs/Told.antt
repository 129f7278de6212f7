-- The fields that an index of them tells.
use Rattle.field_indexes.specs.declared.field_indexes.FieldIndexes.{FieldIndexes}
use Rattle.field_indexes.specs.Fields.{Fields, field_at}

abbrev pub fields_of : FieldIndexes → Fields
fields_of i = field_at i.types
