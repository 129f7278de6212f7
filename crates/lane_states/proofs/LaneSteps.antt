-- The events and the nodes of a lane, as lists.
use Rattle.std.proofs.Common.{◌≡◌, ℕ, ◌<◌, ◌-◌, ◌^◌, List, [], ◌∷◌, ◌++◌, length, slice_set, get_or, refl, sym, subst}
use Rattle.std.proofs.lemmas.List.{reverse-append, length-reverse}
use Rattle.messages.specs.declared.message.Message.{Message}
use Rattle.messages.specs.declared.body.Body.{Body}
use Rattle.messages.specs.declared.body.Body.TheVariants as body
use Rattle.messages.specs.declared.reply.Reply.{Reply}
use Rattle.node_model.specs.Nodes.{Node, new_node}
use Rattle.node_model.specs.Takes.{Takes, HasRoom}
use Rattle.lane_journals.specs.KeptJournals.{past}
use Rattle.lane_journals.specs.declared.event.LaneEvent.{LaneEvent}
use Rattle.proof_basics.proofs.Lists.{set-own, set-other}
use Rattle.lane_states.proofs.Places.{default-any}
use Rattle.lane_keeping.specs.LaneKeeping.{node_in}
use Rattle.lane_keeping.specs.Asking.{IsTakenBy}

pub past-push : (events : List LaneEvent) (e : LaneEvent) → past (events ++ e ∷ []) ≡ e ∷ past events
unfolding past
past-push events e = reverse-append events (e ∷ [])

pub past-length : (events : List LaneEvent) → length (past events) ≡ length events
unfolding past
past-length events = length-reverse events

pub past-nil : past [] ≡ []
unfolding past
past-nil = refl

-- the receiver takes the message in its place
pub taken-at : (xs : List Node) (m : Message) (x y : Node) (r : Reply) → m.receiver < length xs → x ≡ get_or xs m.receiver x → Takes x m y r → IsTakenBy xs (slice_set xs m.receiver y) m r
taken-at xs m x y r h e t = record {
  takes = subst (λ (z : Node). Takes (node_in xs m.receiver) m z r) (sym (set-own xs m.receiver y new_node h)) (subst (λ (z : Node). Takes z m y r) (sym (default-any xs m.receiver x new_node h e)) t);
  others = λ n off. set-other xs m.receiver n y new_node off;
}

-- a node that drew no more serials than there are events finds one
pub has-room : (b : Body) (s : ℕ) → s < 2 ^ 64 - 1 → HasRoom b s
has-room body.Ask s h = tt
has-room (body.Read b only) s h = tt
has-room (body.Delete b k) s h = tt
has-room (body.Store e) s h = h
has-room (body.Apply b es) s h = h
has-room (body.Split b) s h = h
has-room (body.Join b) s h = h
has-room (body.Ready b) s h = h
has-room (body.Activate b) s h = h

pub node-at : (xs : List Node) (n : ℕ) (x : Node) → n < length xs → x ≡ get_or xs n x → node_in xs n ≡ x
node-at xs n x h e = default-any xs n x new_node h e
