-- A round: which message comes next, and what an answer makes of it.
use Rattle.std.specs.Prelude.{◌≡◌, ◌⊎◌, ◌==◌, ◌||◌, ◌&&◌, ℕ, ◌+◌, ◌<◌, ◌≤◌, Bool, true, false, nat_lt, List, [], ◌∷◌, ◌++◌, Option, None, Some, IsSome, if◌then◌else◌}
use Rattle.std.specs.List.{list_any}
use Rattle.std.specs.FinMap as fin
use Rattle.bucket_ids.specs.Buckets.{Low}
use Rattle.node_sets.specs.Members.{has_node, size_of, size_below}
use Rattle.pieces.specs.declared.piece.Piece.{Piece}
use Rattle.entry_maps.specs.EntryCodes.{Entries}
use Rattle.entry_maps.specs.Joins.{joined}
use Rattle.messages.specs.Noting.{message_of}
use Rattle.messages.specs.declared.message.Message.{Message}
use Rattle.messages.specs.declared.message.Origin.{Origin}
use Rattle.messages.specs.declared.body.Body.TheVariants as body
use Rattle.messages.specs.declared.reply.Reply.{Reply}
use Rattle.messages.specs.declared.reply.Reply.TheVariants as reply
use Rattle.messages.specs.declared.step.NodePieces.{NodePieces}

-- a round: its readers and receivers; how many Reads and Applies were sent, and whose answer isn't told
-- yet; what the answers to Reads showed, in their order, and the join of their entries; and the receivers
-- that answered the Apply
pub record RoundState : Type 0 where
  pub origin : Origin
  pub row : Low
  pub readers : ℕ
  pub receivers : ℕ
  pub reads : ℕ
  pub applies : ℕ
  pub awaited : Option ℕ
  pub shown : List NodePieces
  pub union : Entries
  pub holders : ℕ

-- nothing was sent
abbrev pub new_round : Origin → Low → ℕ → ℕ → RoundState
new_round origin row readers receivers = record {
  origin = origin;
  row = row;
  readers = readers;
  receivers = receivers;
  reads = 0;
  applies = 0;
  awaited = None;
  shown = [];
  union = fin.empty;
  holders = 0;
}

-- the node's answer was shown
abbrev pub did_show : ℕ → List NodePieces → Bool
did_show node shown = list_any (λ p. p.node == node) shown

-- and had an entry
abbrev pub did_give : ℕ → List NodePieces → Bool
did_give node shown = list_any (λ p. p.entries && p.node == node) shown

-- each reader has answered
abbrev pub HaveAllShown : ℕ → List NodePieces → Type 0
HaveAllShown readers shown = (node : ℕ) → has_node readers node ≡ true → did_show node shown ≡ true

-- the pieces that the node's answer showed
abbrev pub pieces_by : ℕ → List NodePieces → List Piece
pieces_by node [] = []
pieces_by node (p ∷ shown) = if p.node == node then p.pieces else pieces_by node shown

-- ---- what is sent

-- a member of the set before which it has so many
pub record IsNth (set before node : ℕ) : Type 0 where
  pub member : has_node set node ≡ true
  pub place : size_below set node ≡ before
  pub small : node < 32

-- a Read of the row, to the reader whose turn it is
pub record IsRead (r : RoundState) (m : Message) : Type 0 where
  pub turn : r.reads < size_of r.readers
  pub to : IsNth r.readers r.reads m.receiver
  pub is : m ≡ message_of r.origin m.receiver (body.Read r.row None)

-- once all readers have answered, an Apply of the union, to the receiver whose turn it is
pub record IsApply (r : RoundState) (m : Message) : Type 0 where
  pub read : size_of r.readers ≤ r.reads
  pub whole : HaveAllShown r.readers r.shown
  pub turn : r.applies < size_of r.receivers
  pub to : IsNth r.receivers r.applies m.receiver
  pub is : m ≡ message_of r.origin m.receiver (body.Apply r.row r.union)

-- nothing is left to send: each reader was asked, and each receiver told, if all readers answered
pub record IsOver (r : RoundState) : Type 0 where
  pub read : size_of r.readers ≤ r.reads
  pub applied : HaveAllShown r.readers r.shown → size_of r.receivers ≤ r.applies

-- the message that comes next
abbrev pub IsNext : RoundState → Option Message → Type 0
IsNext r None = IsOver r
IsNext r (Some m) = IsRead r m ⊎ IsApply r m

-- the round once it is sent
abbrev pub after_send : RoundState → Option Message → RoundState
after_send r None = r
after_send r (Some m) =
    if nat_lt r.reads (size_of r.readers)
    then record r { reads = r.reads + 1; awaited = Some m.receiver }
    else record r { applies = r.applies + 1; awaited = Some m.receiver }

-- ---- what an answer makes of it; a reply that is no answer, and none, count for nothing

abbrev pub is_answer : Option Reply → Bool
is_answer (Some (reply.Answer pieces entries)) = true
is_answer _ = false

abbrev pub shown_by : ℕ → List Piece → Entries → NodePieces
shown_by node pieces entries = record { node = node; pieces = pieces; entries = nat_lt 0 (fin.len entries) }

abbrev pub shown_after : List NodePieces → ℕ → Option Reply → List NodePieces
shown_after shown node (Some (reply.Answer pieces entries)) = shown ++ shown_by node pieces entries ∷ []
shown_after shown node _ = shown

abbrev pub union_after : Entries → Option Reply → Entries
union_after union (Some (reply.Answer pieces entries)) = joined union entries
union_after union _ = union

-- the same by the entries that were shown, if any were
abbrev pub union_with : Entries → Option Entries → Entries
union_with union None = union
union_with union (Some entries) = joined union entries

-- the round once the reply to a Read is told
abbrev pub after_read : RoundState → ℕ → Option Reply → RoundState
after_read r node reply =
    record r { awaited = None; shown = shown_after r.shown node reply; union = union_after r.union reply }

-- the round once the reply to an Apply is told
pub record IsAfterApply (r s : RoundState) (node : ℕ) (reply : Option Reply) : Type 0 where
  pub holders : (n : ℕ) → has_node s.holders n ≡ (has_node r.holders n || (is_answer reply && n == node))
  pub rest : s ≡ record r { awaited = None; holders = s.holders }

-- ---- what holds of every round

-- while an answer is awaited all that was shown before is in the union, and there is a place for what a Read shows
pub record IsRound (awaited : Option ℕ) (applies : ℕ) (heard : Option Entries) (shown places : ℕ) : Type 0 where
  pub united : IsSome awaited → heard ≡ None
  pub place : IsSome awaited → applies ≡ 0 → shown + 1 ≤ places
