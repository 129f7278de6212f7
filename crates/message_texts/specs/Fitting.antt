-- The messages that a schema allows.
use Rattle.std.specs.Prelude.{◌≡◌, ◌<◌, ◌≤◌, ◌^◌, ℕ, ℤ, pos, negsuc, List, true, is_some, Option, Some, None}
use Rattle.std.specs.List.{AllByRecursion}
use Rattle.std.specs.FinMap as fin
use Rattle.bucket_ids.specs.Buckets.{Low, IsBucket}
use Rattle.document_ids.specs.Grammar.{IsId}
use Rattle.document_ids.specs.Parts.{type_of}
use Rattle.stamps.specs.Printed.{IsStamp}
use Rattle.doc_types.specs.SchemaCodes.{Types}
use Rattle.doc_types.specs.declared.values.FieldValue.{FieldValue}
use Rattle.doc_types.specs.declared.values.FieldValue.TheVariants.{Int, Text, Ints, Texts}
use Rattle.documents.specs.Fields.{Contents}
use Rattle.documents.specs.Fitting as documents
use Rattle.documents.specs.Kinds.{kinds_of}
use Rattle.documents.specs.Sizes.{size_of, largest}
use Rattle.documents.specs.declared.entry.Entry.{Entry}
use Rattle.entry_maps.specs.EntryCodes.{Entries}
use Rattle.entry_maps.specs.Entries.{in_bucket}
use Rattle.messages.specs.declared.body.Body.{Body}
use Rattle.messages.specs.declared.body.Body.TheVariants as body
use Rattle.messages.specs.declared.message.Message.{Message}

-- a number of 64 bits with its sign
abbrev pub IsSigned : ℤ → Type 0
IsSigned (pos n) = n < 2 ^ 63
IsSigned (negsuc n) = n < 2 ^ 63

abbrev pub HasSigned : FieldValue → Type 0
HasSigned (Int z) = IsSigned z
HasSigned (Text t) = Unit {0}
HasSigned (Ints zs) = AllByRecursion IsSigned zs
HasSigned (Texts ts) = Unit {0}

-- the document of an id: its type is there, its fields are that type's, with numbers of 64 bits, and it isn't too large
pub record FitsDocument (types : Types) (id : List ℕ) (d : Contents) : Type 0 where
  pub own : d.id ≡ id
  pub there : is_some (fin.get types (type_of id)) ≡ true
  pub fields : documents.Fits (kinds_of types (type_of id)) (fin.entries d.fields)
  pub numbers : AllByRecursion (λ e. HasSigned e.1) (fin.entries d.fields)
  pub size : size_of d.fields ≤ largest

-- a remove has no document
abbrev pub FitsIfThere : Types → List ℕ → Option Contents → Type 0
FitsIfThere types id None = Unit {0}
FitsIfThere types id (Some d) = FitsDocument types id d

pub record FitsEntry (types : Types) (e : Entry) : Type 0 where
  pub id : IsId e.id
  pub stamp : IsStamp e.stamp
  pub body : FitsIfThere types e.id e.body

-- each entry stands under its document's id, whose key lies in the bucket
pub record FitsAt (types : Types) (b : Low) (id : List ℕ) (e : Entry) : Type 0 where
  pub entry : FitsEntry types e
  pub own : e.id ≡ id
  pub inside : in_bucket b id ≡ true

abbrev pub FitEntries : Types → Low → Entries → Type 0
FitEntries types b m = (id : List ℕ) (e : Entry) → fin.get m id ≡ Some e → FitsAt types b id e

abbrev pub FitsBody : Types → Body → Type 0
FitsBody types body.Ask = Unit {0}
FitsBody types (body.Read b None) = IsBucket b
FitsBody types (body.Read b (Some id)) = IsBucket b × IsId id
FitsBody types (body.Store e) = FitsEntry types e
FitsBody types (body.Apply b m) = IsBucket b × FitEntries types b m
FitsBody types (body.Delete b serial) = IsBucket b × (serial < 2 ^ 64)
FitsBody types (body.Split b) = IsBucket b
FitsBody types (body.Join b) = IsBucket b
FitsBody types (body.Ready b) = IsBucket b
FitsBody types (body.Activate b) = IsBucket b

-- numbers of 32 and 8 bits, and a body whose parts the schema allows
pub record Fits (types : Types) (m : Message) : Type 0 where
  pub version : m.version < 2 ^ 32
  pub lane : m.lane < 2 ^ 8
  pub sender : m.sender < 2 ^ 8
  pub receiver : m.receiver < 2 ^ 8
  pub body : FitsBody types m.body
