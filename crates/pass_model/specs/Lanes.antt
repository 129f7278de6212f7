-- The nodes of a lane as nodes of a pass, and what the messages of a pass make of them.
use Rattle.std.specs.Prelude.{ℕ, Bool, true, false}
use Rattle.std.specs.FinMap as fin
use Rattle.std.specs.List.{list_any}
use Rattle.messages.specs.declared.body.Body.{Body}
use Rattle.messages.specs.declared.body.Body.TheVariants as body
use Rattle.messages.specs.declared.reply.Reply.{Reply}
use Rattle.messages.specs.declared.reply.Reply.TheVariants as reply
use Rattle.pieces.specs.Pieces.{is_over, is_inside}
use Rattle.node_model.specs.Nodes as lane
use Rattle.lane_keeping.specs.NodeKeeping.{stamp_of}
use Rattle.pass_model.specs.Nodes.{Node, apply_once, split_once, join_once, can_ready, ready_once, can_activate, activate_once, can_delete, delete_once}

-- a lane's node, with what is to come to it twice, and how many messages came
abbrev pub seen_node : (ℕ → Bool) → ℕ → lane.Node → Node
seen_node doubled came y = record { pieces = y.pieces; serial = y.serial; store = λ id. stamp_of (fin.get y.entries id); regions = y.regions; doubled = doubled; came = came }

-- what a pass says to nodes, the questions aside
abbrev pub IsPassBody : Body → Type 0
IsPassBody body.Ask = ⊥
IsPassBody (body.Read b only) = ⊥
IsPassBody (body.Store e) = ⊥
IsPassBody _ = Unit {0}

-- what one taking of a body makes of a node of a pass
abbrev pub after_once : Body → Node → Node
after_once (body.Apply b m) x = apply_once b (λ id. stamp_of (fin.get m id)) x
after_once (body.Split b) x = split_once b x
after_once (body.Join b) x = join_once b x
after_once (body.Ready b) x = ready_once b x
after_once (body.Activate b) x = activate_once b x
after_once (body.Delete b s) x = delete_once b s x
after_once _ x = x

-- whether it answers
abbrev pub is_taken : Body → Node → Bool
is_taken (body.Split b) x = list_any (is_over b) x.pieces
is_taken (body.Join b) x = list_any (is_inside b) x.pieces
is_taken (body.Ready b) x = can_ready b x
is_taken (body.Activate b) x = can_activate b x
is_taken (body.Delete b s) x = can_delete b s x
is_taken _ x = true

-- the reply is none for want of memory
abbrev pub IsNoWant : Reply → Type 0
IsNoWant reply.NoMemory = ⊥
IsNoWant _ = Unit {0}

abbrev pub is_answer : Reply → Bool
is_answer (reply.Answer ps es) = true
is_answer _ = false
