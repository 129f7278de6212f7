-- The text of a message is read again.
use Rattle.std.proofs.Common.{◌≡◌, ◌∙◌, ◌≤◌, ◌<◌, ◌^◌, ℕ, Bool, true, false, cond, ◌||◌, List, [], ◌∷◌, map, Option, Some, None, option_and_then, refl, ap, arith}
use Rattle.std.specs.FinMap as fin
use Rattle.std.specs.Prelude.{codes, ℤ, pos, negsuc}
use Rattle.std.specs.Str.{bytes_eq, IsUtf8}
use Rattle.std.proofs.lemmas.Slice.Eq.{bytes_eq-Decides}
use Rattle.std.proofs.lemmas.Str.{is_utf8-from_IsUtf8}
use Rattle.serde_json.specs.Data.{Data, string, depth, items_depth, members_depth}
use Rattle.serde_json.specs.Read.{read, max_depth}
use Rattle.serde_json.specs.View.{items_of}
use Rattle.serde_json.specs.Written.{has_float, items_have_float, members_have_float}
use Rattle.doc_types.specs.SchemaCodes.{Types}
use Rattle.doc_types.specs.declared.values.FieldValue.{FieldValue}
use Rattle.doc_types.specs.declared.values.FieldValue.TheVariants.{Int, Text, Ints, Texts}
use Rattle.documents.specs.Fields.{Contents}
use Rattle.documents.specs.declared.entry.Entry.{Entry}
use Rattle.json_documents.specs.Json.{number_json, value_json, members_json}
use Rattle.messages.specs.declared.body.Body.{Body}
use Rattle.messages.specs.declared.body.Body.TheVariants as body
use Rattle.messages.specs.declared.message.Message.{Message}
use Rattle.message_texts.specs.Bodies.{body_in}
use Rattle.message_texts.specs.ByKey.{by_key}
use Rattle.message_texts.specs.Entries.{fields_data, entry_data}
use Rattle.message_texts.specs.Fitting.{Fits}
use Rattle.message_texts.specs.Parts.{below, number_at}
use Rattle.message_texts.specs.Texts.{message_data, text_of, message_by, said_by, if_text, value_in, message_in, IsTextOf}
use Rattle.message_texts.proofs.EntryLaws.{AreRead}
use Rattle.message_texts.proofs.BodyLaws.{body_back}
use Rattle.message_texts.proofs.PlainLaws.{message_plain}
use Rattle.message_texts.proofs.PrintLaws.{text_back}
use Rattle.message_texts.proofs.PartLaws.{small_below}

-- ---- how deep it nests

number_flat : (z : ℤ) → depth (number_json z) ≡ 0
number_flat z = refl

numbers_flat : (zs : List ℤ) → items_depth (items_of (map number_json zs)) ≡ 0
numbers_flat [] = refl
numbers_flat (z ∷ zs) = omega (arith, numbers_flat zs)

texts_flat : (ts : List (List ℕ)) → items_depth (items_of (map string ts)) ≡ 0
texts_flat [] = refl
texts_flat (t ∷ ts) = omega (arith, texts_flat ts)

value_depth : (v : FieldValue) → depth (value_json v) ≤ 1
value_depth (Int z) = omega arith
value_depth (Text t) = omega arith
value_depth (Ints zs) = omega (arith, numbers_flat zs)
value_depth (Texts ts) = omega (arith, texts_flat ts)

fields_depth : (es : List (List ℕ × FieldValue)) → members_depth (members_json es) ≤ 1
fields_depth [] = omega arith
fields_depth (e ∷ es) = omega (arith, value_depth e.1, fields_depth es)

body_depth : (d : Option Contents) → depth (fields_data d) ≤ 2
body_depth None = omega arith
body_depth (Some d) = omega (arith, fields_depth (fin.entries d.fields))

entry_depth : (e : Entry) → depth (entry_data e) ≤ 3
entry_depth e = omega (arith, body_depth e.body)

entries_depth : (es : List Entry) → items_depth (items_of (map entry_data es)) ≤ 3
entries_depth [] = omega arith
entries_depth (e ∷ es) = omega (arith, entry_depth e, entries_depth es)

data_depth : (v l s r : ℕ) (b : Body) → depth (message_data (record { version = v; lane = l; sender = s; receiver = r; body = b })) ≤ 6
data_depth v l s r body.Ask = omega arith
data_depth v l s r (body.Read b None) = omega arith
data_depth v l s r (body.Read b (Some id)) = omega arith
data_depth v l s r (body.Store e) = omega (arith, entry_depth e)
data_depth v l s r (body.Apply b m) = omega (arith, entries_depth (by_key m))
data_depth v l s r (body.Delete b serial) = omega arith
data_depth v l s r (body.Split b) = omega arith
data_depth v l s r (body.Join b) = omega arith
data_depth v l s r (body.Ready b) = omega arith
data_depth v l s r (body.Activate b) = omega arith

pub is_shallow : (m : Message) → depth (message_data m) ≤ max_depth
is_shallow m = omega (arith, data_depth m.version m.lane m.sender m.receiver m.body)

-- ---- it has no float

either : (a b : Bool) → a ≡ false → b ≡ false → (a || b) ≡ false
either true b p q = cc
either false b p q = q

whole_number : (z : ℤ) → has_float (number_json z) ≡ false
whole_number (pos n) = refl
whole_number (negsuc n) = refl

whole_numbers : (zs : List ℤ) → items_have_float (items_of (map number_json zs)) ≡ false
whole_numbers [] = refl
whole_numbers (z ∷ zs) = either _ _ (whole_number z) (whole_numbers zs)

texts_whole : (ts : List (List ℕ)) → items_have_float (items_of (map string ts)) ≡ false
texts_whole [] = refl
texts_whole (t ∷ ts) = texts_whole ts

value_whole : (v : FieldValue) → has_float (value_json v) ≡ false
value_whole (Int z) = whole_number z
value_whole (Text t) = refl
value_whole (Ints zs) = whole_numbers zs
value_whole (Texts ts) = texts_whole ts

fields_whole : (es : List (List ℕ × FieldValue)) → members_have_float (members_json es) ≡ false
fields_whole [] = refl
fields_whole (e ∷ es) = either _ _ (value_whole e.1) (fields_whole es)

body_whole : (d : Option Contents) → has_float (fields_data d) ≡ false
body_whole None = refl
body_whole (Some d) = fields_whole (fin.entries d.fields)

entry_whole : (e : Entry) → has_float (entry_data e) ≡ false
entry_whole e = either _ _ (body_whole e.body) refl

entries_whole : (es : List Entry) → items_have_float (items_of (map entry_data es)) ≡ false
entries_whole [] = refl
entries_whole (e ∷ es) = either _ _ (entry_whole e) (entries_whole es)

data_whole : (v l s r : ℕ) (b : Body) → has_float (message_data (record { version = v; lane = l; sender = s; receiver = r; body = b })) ≡ false
data_whole v l s r body.Ask = refl
data_whole v l s r (body.Read b None) = refl
data_whole v l s r (body.Read b (Some id)) = refl
data_whole v l s r (body.Store e) = either _ _ (entry_whole e) refl
data_whole v l s r (body.Apply b m) = either _ _ (entries_whole (by_key m)) refl
data_whole v l s r (body.Delete b serial) = refl
data_whole v l s r (body.Split b) = refl
data_whole v l s r (body.Join b) = refl
data_whole v l s r (body.Ready b) = refl
data_whole v l s r (body.Activate b) = refl

pub has_no_float : (m : Message) → has_float (message_data m) ≡ false
has_no_float m = data_whole m.version m.lane m.sender m.receiver m.body

-- ---- what it says

module _ (v l s r : ℕ) where
  abbrev data_of : Body → Data
  data_of b = message_data (record { version = v; lane = l; sender = s; receiver = r; body = b })

  -- its numbers
  record HasNumbers (b : Body) : Type 0 where
    version : number_at (2 ^ 32) (codes "version") (data_of b) ≡ below (2 ^ 32) v
    lane : number_at (2 ^ 8) (codes "lane") (data_of b) ≡ below (2 ^ 8) l
    sender : number_at (2 ^ 8) (codes "sender") (data_of b) ≡ below (2 ^ 8) s
    receiver : number_at (2 ^ 8) (codes "receiver") (data_of b) ≡ below (2 ^ 8) r

  numbers : (b : Body) → HasNumbers b
  numbers body.Ask = record { version = refl; lane = refl; sender = refl; receiver = refl }
  numbers (body.Read b None) = record { version = refl; lane = refl; sender = refl; receiver = refl }
  numbers (body.Read b (Some id)) = record { version = refl; lane = refl; sender = refl; receiver = refl }
  numbers (body.Store e) = record { version = refl; lane = refl; sender = refl; receiver = refl }
  numbers (body.Apply b m) = record { version = refl; lane = refl; sender = refl; receiver = refl }
  numbers (body.Delete b serial) = record { version = refl; lane = refl; sender = refl; receiver = refl }
  numbers (body.Split b) = record { version = refl; lane = refl; sender = refl; receiver = refl }
  numbers (body.Join b) = record { version = refl; lane = refl; sender = refl; receiver = refl }
  numbers (body.Ready b) = record { version = refl; lane = refl; sender = refl; receiver = refl }
  numbers (body.Activate b) = record { version = refl; lane = refl; sender = refl; receiver = refl }

  said_parts : (types : Types) (b : Body) → v < 2 ^ 32 → l < 2 ^ 8 → s < 2 ^ 8 → r < 2 ^ 8 → body_in types (data_of b) ≡ Some b
      → said_by types (data_of b) ≡ Some (record { version = v; lane = l; sender = s; receiver = r; body = b })
  said_parts types b cv cl cs cr is =
      let n = numbers b in
      λ i. message_by ((n.version ∙ small_below (2 ^ 32) v cv) i) ((n.lane ∙ small_below (2 ^ 8) l cl) i) ((n.sender ∙ small_below (2 ^ 8) s cs) i) ((n.receiver ∙ small_below (2 ^ 8) r cr) i) (is i)

pub said_back : AreRead → (types : Types) (m : Message) → Fits types m → said_by types (message_data m) ≡ Some m
said_back read types m fits =
    said_parts m.version m.lane m.sender m.receiver types m.body fits.version fits.lane fits.sender fits.receiver (body_back read types m.version m.lane m.sender m.receiver m.body fits.body)

-- the text of a message that fits is that message
pub text_reads : AreRead → (types : Types) (m : Message) (text : List ℕ) → text ≡ text_of m → IsUtf8 text → read text ≡ Some (message_data m) → Fits types m → message_in types text ≡ Some m
unfolding message_in
text_reads are types m text is utf8 said fits =
    ap (λ (t : Bool). option_and_then (if_text text) (option_and_then (said_by types) (cond t (read text) None))) (is_utf8-from_IsUtf8 text utf8)
    ∙ ap (λ (o : Option Data). option_and_then (if_text text) (option_and_then (said_by types) o)) said
    ∙ ap (option_and_then (if_text text)) (said_back are types m fits)
    ∙ ap (λ (t : Bool). cond t (Some m) None) ((bytes_eq-Decides text (text_of m)).1 is)

-- its text is read as that message, by the definitions alone
pub its_text_reads : AreRead → (types : Types) (m : Message) (text : List ℕ) → IsTextOf types m text → message_in types text ≡ Some m
unfolding text_of
its_text_reads are types m text its =
    text_reads are types m text its.is its.utf8 (ap read its.is ∙ text_back (message_data m) (message_plain types m its.fits) (is_shallow m)) its.fits

-- ---- what a reader finds

pub read_text : (types : Types) (text : List ℕ) (d : Data) (m : Message) → value_in text ≡ Some d → said_by types d ≡ Some m → text ≡ text_of m → message_in types text ≡ Some m
unfolding message_in
read_text types text d m said is same =
    ap (λ (o : Option Data). option_and_then (if_text text) (option_and_then (said_by types) o)) said
    ∙ ap (option_and_then (if_text text)) is
    ∙ ap (λ (t : Bool). cond t (Some m) None) ((bytes_eq-Decides text (text_of m)).1 same)

pub other_text : (types : Types) (text : List ℕ) (d : Data) (m : Message) → value_in text ≡ Some d → said_by types d ≡ Some m → bytes_eq text (text_of m) ≡ false → message_in types text ≡ None
unfolding message_in
other_text types text d m said is other =
    ap (λ (o : Option Data). option_and_then (if_text text) (option_and_then (said_by types) o)) said
    ∙ ap (option_and_then (if_text text)) is
    ∙ ap (λ (t : Bool). cond t (Some m) None) other

pub says_none : (types : Types) (text : List ℕ) (d : Data) → value_in text ≡ Some d → said_by types d ≡ None → message_in types text ≡ None
unfolding message_in
says_none types text d said none =
    ap (λ (o : Option Data). option_and_then (if_text text) (option_and_then (said_by types) o)) said ∙ ap (option_and_then (if_text text)) none

pub no_value : (types : Types) (text : List ℕ) → value_in text ≡ None → message_in types text ≡ None
unfolding message_in
no_value types text none = ap (λ (o : Option Data). option_and_then (if_text text) (option_and_then (said_by types) o)) none
