-- A plan that can be begun.
use Rattle.std.specs.Prelude.{◌≡◌, ◌≤◌, ℕ, Bool, true, false, not, List, Option, None, Some, is_some}
use Rattle.node_sets.specs.Members.{has_node, size_of}
use Rattle.stamps.specs.declared.stamp.Stamp.{Stamp}
use Rattle.messages.specs.declared.message.Origin.{Origin}
use Rattle.messages.specs.declared.operation.Operation.{Operation}
use Rattle.messages.specs.declared.operation.OpKind.{OpKind}
use Rattle.messages.specs.declared.operation.OpKind.TheVariants.{Put, Update, Remove, Get}
use Rattle.op_machine.specs.declared.plan.Plan.{Plan}

abbrev pub IsMember : Option ℕ → ℕ → Type 0
IsMember None set = Unit {0}
IsMember (Some n) set = has_node set n ≡ true

abbrev pub is_get : OpKind → Bool
is_get Get = true
is_get (Put d) = false
is_get (Update u) = false
is_get Remove = false

abbrev pub plan_of : Origin → Operation → Option Stamp → ℕ → Option ℕ → ℕ → Plan
plan_of origin operation stamp recipients active acks = record { origin = origin; operation = operation; stamp = stamp; recipients = recipients; active = active; acks = acks }

-- a put's document is the operation's
abbrev pub IsOwn : List ℕ → OpKind → Type 0
IsOwn id (Put d) = d.id ≡ id
IsOwn id (Update u) = Unit {0}
IsOwn id Remove = Unit {0}
IsOwn id Get = Unit {0}

-- a get has no condition
abbrev pub IsPlainGet : Operation → Type 0
IsPlainGet o = is_get o.kind ≡ true → o.condition ≡ None

pub record IsPlan (p : Plan) : Type 0 where
  pub some : 1 ≤ p.acks
  pub enough : p.acks ≤ size_of p.recipients
  pub active : IsMember p.active p.recipients
  pub stamped : is_some p.stamp ≡ not (is_get p.operation.kind)
  pub own : IsOwn p.operation.id p.operation.kind
