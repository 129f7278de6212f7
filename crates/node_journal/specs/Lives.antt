-- The node that takes messages from the start.
use Rattle.std.specs.Prelude.{◌≡◌, ◌≤◌, List, [], ◌∷◌, nat_lt, if◌then◌else◌, Bool, true, false}
use Rattle.node_model.specs.Nodes.{Node, new_node, adopt, after_body}
use Rattle.node_model.specs.Takes.{told}
use Rattle.pieces.specs.Told.{Told, Accepted, NoBucket, Differs}
use Rattle.messages.specs.declared.message.Message.{Message}
use Rattle.messages.specs.declared.body.Body.{Body}
use Rattle.messages.specs.declared.reply.Reply.{Reply}
use Rattle.messages.specs.declared.reply.Reply.TheVariants as reply

abbrev pub is_accepted : Told → Bool
is_accepted Accepted = true
is_accepted NoBucket = false
is_accepted Differs = false

-- a body that is not too old changes a node where it is accepted
abbrev pub treated : Body → Node → Node
treated b n = if is_accepted (told b n.pieces) then after_body b n else n

-- what a message makes of a node, where memory serves
abbrev pub after : Message → Node → Node
after m n = if nat_lt m.version n.version then n else treated m.body (adopt m.version n)

-- what messages make of it, the first one first
abbrev pub after_all : List Message → Node → Node
after_all [] n = n
after_all (m ∷ ms) n = after_all ms (after m n)

-- a node that took these messages from the start, and heard since perhaps of a greater version in a message
-- for which memory was wanting
pub record IsLive (ms : List Message) (n : Node) : Type 0 where
  pub version : (after_all ms new_node).version ≤ n.version
  pub is : n ≡ adopt n.version (after_all ms new_node)

-- memory was wanting
abbrev pub is_wanting : Reply → Bool
is_wanting (reply.Answer pieces entries) = false
is_wanting (reply.Newer v) = false
is_wanting reply.NoBucket = false
is_wanting reply.Differs = false
is_wanting reply.NoMemory = true

-- a message with this reply is recorded
abbrev pub is_recorded : Reply → Bool
is_recorded (reply.Answer pieces entries) = true
is_recorded (reply.Newer v) = false
is_recorded reply.NoBucket = true
is_recorded reply.Differs = true
is_recorded reply.NoMemory = false

-- what a take with this reply adds to the recorded messages
abbrev pub added : Reply → Message → List Message
added r m = if is_recorded r then m ∷ [] else []
