-- Words for the steps of `NodePart::take`.
use Rattle.std.specs.Prelude.{◌≡◌, ◌⊎◌, ℕ, nat_lt, List, [], ◌∷◌, Option, None, Some, Result, Ok, Err, if◌then◌else◌}
use Rattle.std.specs.FinMap as fin
use Rattle.messages.specs.declared.body.Body.{Body}
use Rattle.messages.specs.declared.reply.Reply.{Reply}
use Rattle.messages.specs.declared.reply.Reply.TheVariants as reply
use Rattle.node_model.specs.Nodes.{Node}
use Rattle.node_model.specs.Takes.{told, shown_pieces, shown_entries}
use Rattle.pieces.specs.Told.{Accepted, IsAnsweredAs}
use Rattle.pieces.specs.declared.fault.StoreFault.{StoreFault}
use Rattle.pieces.specs.declared.fault.StoreFault.TheVariants as fault
use Rattle.view_changes.specs.declared.change.LaneChange.{LaneChange}
use Rattle.view_changes.specs.declared.change.LaneChange.TheVariants.{Adopt}

-- the reply of a refusal
abbrev pub refusal : StoreFault → Reply
refusal fault.NoBucket = reply.NoBucket
refusal fault.Differs = reply.Differs
refusal fault.NoMemory = reply.NoMemory

-- the reply to a body that shows nothing
abbrev pub done_reply : {A : Type 0} → Result A StoreFault → Reply
done_reply (Ok x) = reply.Answer [] fin.empty
done_reply (Err e) = refusal e

-- the reply is the one that was made, where memory serves
abbrev pub IsReplyTo : Result Reply StoreFault → Reply → Type 0
IsReplyTo (Ok r) y = (y ≡ r) ⊎ (y ≡ reply.NoMemory)
IsReplyTo (Err e) y = y ≡ refusal e

-- what a body asks to see of a node that does not change
abbrev pub Shows : Node → Body → Result Reply StoreFault → Type 0
Shows n x (Ok r) = (told x n.pieces ≡ Accepted) × (r ≡ reply.Answer (shown_pieces x n.pieces) (shown_entries x n.entries))
Shows n x (Err e) = IsAnsweredAs {A = Reply} (told x n.pieces) (Err e)

-- a change that may come first, and others behind it
abbrev pub after_first : Option LaneChange → List LaneChange → List LaneChange
after_first None cs = cs
after_first (Some c) cs = c ∷ cs

-- the change of a version, where it is greater
abbrev pub adoption_of : ℕ → ℕ → Node → Option LaneChange
adoption_of n w x = if nat_lt x.version w then Some (Adopt n w) else None

-- what an accepted body tells, and a refusal nothing
abbrev pub told_in : Result (List LaneChange) StoreFault → List LaneChange
told_in (Ok cs) = cs
told_in (Err e) = []

-- the first of the changes and the others; where there is none, the list is empty
abbrev pub IsSplit : List LaneChange → Option (LaneChange × List LaneChange) → Type 0
IsSplit cs None = cs ≡ []
IsSplit cs (Some p) = cs ≡ p.0 ∷ p.1
