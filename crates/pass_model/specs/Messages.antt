-- Which message a turn sends, if it is one that sends any.
use Rattle.std.specs.Prelude.{◌&&◌, ℕ, nat_lt, Bool, true, false, ◌∷◌, Option, None, Some, slice_get, if◌then◌else◌}
use Rattle.bucket_ids.specs.Buckets.{Low, first_child}
use Rattle.messages.specs.declared.body.Body.{Body}
use Rattle.messages.specs.declared.body.Body.TheVariants as body
use Rattle.pass_model.specs.Nodes.{Node}
use Rattle.pass_model.specs.Shapes.{Shape, Same, Over, Inside}
use Rattle.pass_model.specs.Rows.{Settings, Row}
use Rattle.pass_model.specs.Settling.{needs_align, is_asked}
use Rattle.pass_model.specs.Passes.{World}
use Rattle.pass_model.specs.Scripts.{told_node}
use Rattle.pass_model.specs.Turns.{Doing, ResendingDelete, ResendingActivate, Rounding, JoinTold, JoinRound, SplitTold, SplitFirst, SplitSecond, Aligning, AlignRound, Readying, Activating, DeleteTold}

-- what is said to a node
pub record Message : Type 0 where
  pub node : ℕ
  pub body : Body

abbrev pub message : ℕ → Body → Option Message
message node x = Some (record { node = node; body = x })

abbrev pub message_if : Bool → ℕ → Body → Option Message
message_if said node x = if said then message node x else None

-- the message about a row, if there is the row
abbrev pub of_row : Option Row → (Row → Option Message) → Option Message
of_row None f = None
of_row (Some r) f = f r

abbrev pub activate_to : Low → Option ℕ → Option Message
activate_to b None = None
activate_to b (Some node) = message node (body.Activate b)

-- Activate to the active node, unless it accepted
abbrev pub activate_message : Row → Option Message
activate_message r = if r.accepted then None else activate_to r.bucket r.active

abbrev pub align_to : Low → ℕ → Shape → Option Message
align_to b node Over = message node (body.Split b)
align_to b node Inside = message node (body.Join b)
align_to b node _ = None

abbrev pub align_message : Settings → ℕ → Row → Option Message
align_message s node r = if nat_lt node 32 && needs_align s r node then align_to r.bucket node (r.shown node) else None

abbrev pub delete_to : Low → ℕ → Shape → Option Message
delete_to b node (Same serial) = message node (body.Delete b serial)
delete_to b node _ = None

abbrev pub message_of : Settings → Doing → World → Option Message
message_of s (ResendingDelete (d ∷ ds)) w = message d.node (body.Delete d.bucket d.serial)
message_of s (ResendingActivate at) w = of_row (slice_get w.rows at) activate_message
message_of s (JoinTold t bits at p node) w = message_if (nat_lt node 32 && s.serving node) node (body.Join p)
message_of s (SplitTold at p node) w = message_if (nat_lt node 32 && s.serving node) node (body.Split (first_child p))
message_of s (Aligning t at node any) w = of_row (slice_get w.rows at) (align_message s node)
message_of s (Readying t at node ready) w = of_row (slice_get w.rows at) (λ r. message_if (nat_lt node 32 && is_asked s r node) node (body.Ready r.bucket))
message_of s (Activating t at) w = of_row (slice_get w.rows at) activate_message
message_of s (DeleteTold t at node) w = of_row (slice_get w.rows at) (λ r. delete_to r.bucket node (r.shown node))
message_of s _ w = None

-- what the message makes of the nodes
abbrev pub after_message : Option Message → (ℕ → Node) → ℕ → Node
after_message None ns = ns
after_message (Some m) ns = told_node m.node m.body ns

-- the turn is a round, and not one message
abbrev pub is_round : Doing → Bool
is_round (Rounding at) = true
is_round (JoinRound t bits at p) = true
is_round (SplitFirst at p) = true
is_round (SplitSecond at p) = true
is_round (AlignRound t at) = true
is_round _ = false
