-- `SchemaTexts` says which JSON values are schemas, `Schemas` their faults and what they say; `Json` what JSON says
-- of fields and how fields are shown, `DocumentFaults` which objects are documents, `Words` what the words of an
-- update mean, and `Updates` which objects are updates.
pub mod SchemaTexts
pub mod Schemas
pub mod Json
pub mod DocumentFaults
pub mod Words
pub mod Updates
