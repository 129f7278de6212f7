-- What a view shows of a node as the code has it, and the changes that the node tells of a message.
use Rattle.std.specs.Prelude.{◌++◌, List}
use Rattle.messages.specs.declared.body.Body.{Body}
use Rattle.messages.specs.declared.body.Body.TheVariants as body
use Rattle.messages.specs.declared.message.Message.{Message}
use Rattle.messages.specs.declared.reply.Reply.{Reply}
use Rattle.messages.specs.declared.reply.Reply.TheVariants as reply
use Rattle.node_model.specs.Nodes.{Node}
use Rattle.view_changes.specs.Shown.{Keeping, adopt}
use Rattle.view_changes.specs.Deeds.{NodeDeed, Looks, Stores, Unites, Drops, Activates, adoption, changes_of as changes_told}
use Rattle.view_changes.specs.declared.change.LaneChange.{LaneChange}

abbrev pub kept_of : Node → Keeping
kept_of x = record { version = x.version; regions = x.regions; entries = x.entries }

abbrev pub deed_in : Body → NodeDeed
deed_in (body.Store e) = Stores e
deed_in (body.Apply b es) = Unites es
deed_in (body.Delete b s) = Drops b
deed_in (body.Activate b) = Activates b
deed_in _ = Looks

abbrev pub deed_replied : Body → Reply → NodeDeed
deed_replied x (reply.Answer ps es) = deed_in x
deed_replied x _ = Looks

-- an Adopt first, where the message's version is greater, and then what the node accepted
abbrev pub changes_taken : Node → Message → Reply → List LaneChange
changes_taken x m r = adoption m.receiver m.version (kept_of x) ++ changes_told m.receiver (adopt m.version (kept_of x)) (deed_replied m.body r)
