-- The text of a message, and the message of a text.
use Rattle.std.specs.Prelude.{◌≡◌, ◌^◌, ℕ, List, codes, Option, Some, None, option_and_then, if◌then◌else◌}
use Rattle.std.specs.Str.{bytes_eq, is_utf8, IsUtf8}
use Rattle.serde_json.specs.Data.{Data, object, put}
use Rattle.serde_json.specs.Read.{read}
use Rattle.serde_json.specs.Written.{compact_text}
use Rattle.doc_types.specs.SchemaCodes.{Types}
use Rattle.messages.specs.declared.body.Body.{Body}
use Rattle.messages.specs.declared.message.Message.{Message}
use Rattle.message_texts.specs.Bodies.{body_members, body_in}
use Rattle.message_texts.specs.Fitting.{Fits}
use Rattle.message_texts.specs.Parts.{num, number_at}

-- a message as a value: its numbers beside the members of its body
abbrev pub message_data : Message → Data
message_data m = object (put (codes "version") (num m.version) (put (codes "sender") (num m.sender) (put (codes "receiver") (num m.receiver) (put (codes "lane") (num m.lane) (body_members m.body)))))

-- the text of a message: that value in compact JSON, with its keys in rising order
unfoldable pub text_of : Message → List ℕ
text_of m = compact_text (message_data m)

abbrev pub message_by : Option ℕ → Option ℕ → Option ℕ → Option ℕ → Option Body → Option Message
message_by (Some version) (Some lane) (Some sender) (Some receiver) (Some body) = Some (record { version = version; lane = lane; sender = sender; receiver = receiver; body = body })
message_by _ _ _ _ _ = None

-- the message that a value says
abbrev pub said_by : Types → Data → Option Message
said_by types d = message_by (number_at (2 ^ 32) (codes "version") d) (number_at (2 ^ 8) (codes "lane") d) (number_at (2 ^ 8) (codes "sender") d) (number_at (2 ^ 8) (codes "receiver") d) (body_in types d)

-- a message of which a text is the very text
abbrev pub if_text : List ℕ → Message → Option Message
if_text text m = if bytes_eq text (text_of m) then Some m else None

-- what a text says in JSON, if it is one
abbrev pub value_in : List ℕ → Option Data
value_in text = if is_utf8 text then read text else None

-- the message of a text, if it is one that the schema allows
unfoldable pub message_in : Types → List ℕ → Option Message
message_in types text = option_and_then (if_text text) (option_and_then (said_by types) (value_in text))

-- a text in UTF-8 is that of a message that the schema allows
pub record IsTextOf (types : Types) (m : Message) (text : List ℕ) : Type 0 where
  pub fits : Fits types m
  pub is : text ≡ text_of m
  pub utf8 : IsUtf8 text
