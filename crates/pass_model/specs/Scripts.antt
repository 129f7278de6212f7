-- Which messages of a span are taken twice, as a journal says it.
use Rattle.std.specs.Prelude.{◌≡◌, ◌==◌, ◌&&◌, ℕ, ◌+◌, Bool, true, false, not, nat_lt, is_some, [], ◌∷◌, Option, None, Some, if◌then◌else◌}
use Rattle.messages.specs.declared.body.Body.{Body as Told}
use Rattle.messages.specs.declared.body.Body.TheVariants as body
use Rattle.lane_journals.specs.Events.{Body, Ask, Read, ReadDoc, Reply, NoMemory, Delivered}
use Rattle.lane_journals.specs.Readers.{Journal, Message, sent, first_reply}
use Rattle.lane_keeping.specs.NodeKeeping.{stamp_of}
use Rattle.std.specs.FinMap as fin
use Rattle.pass_model.specs.Nodes.{Node, apply_node, split_node, join_node, ready_node, activate_node, delete_node}

-- by node and number: whether the message that comes there as this number is taken twice
abbrev pub Script : Type 0
Script = ℕ → ℕ → Bool

-- it may change a node
abbrev pub is_telling : Body → Bool
is_telling Ask = false
is_telling (Read b) = false
is_telling (ReadDoc id) = false
is_telling _ = true

abbrev pub tells : ℕ → Option Message → Bool
tells n None = false
tells n (Some m) = (m.receiver == n) && is_telling m.body

-- how many messages came to a node, questions aside, each counted once
abbrev pub came : ℕ → Journal → ℕ
came n [] = 0
came n (Delivered k r ∷ H) = if tells n (sent k H) && not (is_some (first_reply k H)) then came n H + 1 else came n H
came n (_ ∷ H) = came n H

-- how many had come to the node when a message first came there
abbrev pub came_before : ℕ → ℕ → Journal → ℕ
came_before n k [] = 0
came_before n k (Delivered j r ∷ H) = if (j == k) && not (is_some (first_reply k H)) then came n H else came_before n k H
came_before n k (_ ∷ H) = came_before n k H

abbrev pub is_want : Reply → Bool
is_want NoMemory = true
is_want _ = false

-- how often a message was taken, where there was memory for it
abbrev pub takings : ℕ → Journal → ℕ
takings k [] = 0
takings k (Delivered j r ∷ H) = if (j == k) && not (is_want r) then takings k H + 1 else takings k H
takings k (_ ∷ H) = takings k H

-- the script says of each message that was sent behind the first journal what the second one says
abbrev pub Agrees : Script → Journal → Journal → Type 0
Agrees d J K = (k : ℕ) (m : Message) → sent k J ≡ None → sent k K ≡ Some m → is_telling m.body ≡ true
    → d m.receiver (came_before m.receiver k K) ≡ nat_lt 1 (takings k K)

-- ---- what a message makes of the nodes

abbrev pub told_body : Told → Node → Node
told_body (body.Apply b m) x = apply_node b (λ id. stamp_of (fin.get m id)) x
told_body (body.Split b) x = split_node b x
told_body (body.Join b) x = join_node b x
told_body (body.Ready b) x = ready_node b x
told_body (body.Activate b) x = activate_node b x
told_body (body.Delete b s) x = delete_node b s x
told_body _ x = x

-- the node that is told changes
abbrev pub told_node : ℕ → Told → (ℕ → Node) → ℕ → Node
told_node node x ns n = if n == node then told_body x (ns n) else ns n
