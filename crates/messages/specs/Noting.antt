-- Messages of an origin, and bodies and replies in which each entry is named by its stamp.
use Rattle.std.specs.Prelude.{ℕ}
use Rattle.entry_maps.specs.Stamps.{stamps_of}
use Rattle.messages.specs.declared.message.Message.{Message}
use Rattle.messages.specs.declared.message.Origin.{Origin}
use Rattle.messages.specs.declared.body.Body.{Body}
use Rattle.messages.specs.declared.body.Body.TheVariants as body
use Rattle.messages.specs.declared.reply.Reply.{Reply}
use Rattle.messages.specs.declared.reply.Reply.TheVariants as reply
use Rattle.messages.specs.declared.noted.NotedBody.{NotedBody}
use Rattle.messages.specs.declared.noted.NotedBody.TheVariants as noted
use Rattle.messages.specs.declared.noted.NotedReply.{NotedReply}
use Rattle.messages.specs.declared.noted.NotedReply.TheVariants as told

-- the message of an origin to a node
abbrev pub message_of : Origin → ℕ → Body → Message
message_of o receiver b = record { version = o.version; lane = o.lane; sender = o.sender; receiver = receiver; body = b }

-- the body with each entry named by its stamp
abbrev pub noted_body : Body → NotedBody
noted_body body.Ask = noted.Ask
noted_body (body.Read b only) = noted.Read b only
noted_body (body.Store e) = noted.Store e.stamp
noted_body (body.Apply b m) = noted.Apply b (stamps_of m)
noted_body (body.Delete b s) = noted.Delete b s
noted_body (body.Split b) = noted.Split b
noted_body (body.Join b) = noted.Join b
noted_body (body.Ready b) = noted.Ready b
noted_body (body.Activate b) = noted.Activate b

-- the reply with each entry named by its stamp
abbrev pub noted_reply : Reply → NotedReply
noted_reply (reply.Answer ps m) = told.Answer ps (stamps_of m)
noted_reply (reply.Newer v) = told.Newer v
noted_reply reply.NoBucket = told.NoBucket
noted_reply reply.Differs = told.Differs
noted_reply reply.NoMemory = told.NoMemory
