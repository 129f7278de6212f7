-- What a node replies to a message, and what it has then.
use Rattle.std.specs.Prelude.{◌≡◌, ◌<◌, ◌≤◌, ◌-◌, ◌^◌, ℕ, List, [], filter, None, Some}
use Rattle.std.specs.FinMap as fin
use Rattle.global_ids.specs.Keys.{key_of}
use Rattle.entry_maps.specs.EntryCodes.{Entries}
use Rattle.entry_maps.specs.Entries.{in_bucket}
use Rattle.pieces.specs.declared.piece.Piece.{Piece}
use Rattle.messages.specs.declared.body.Body.{Body}
use Rattle.messages.specs.declared.body.Body.TheVariants as body
use Rattle.messages.specs.declared.message.Message.{Message}
use Rattle.messages.specs.declared.reply.Reply.{Reply}
use Rattle.messages.specs.declared.reply.Reply.TheVariants as reply
use Rattle.pieces.specs.Pieces.{does_meet}
use Rattle.pieces.specs.Told.{Told, Accepted, NoBucket, Differs, key_told, delete_told, split_told, join_told, ready_told, activate_told}
use Rattle.replica_store.specs.Replicas.{LieIn}
use Rattle.node_model.specs.Nodes.{Node, adopt, after_body, only_entry}

-- the documents of an Apply's entries have their keys in its bucket
abbrev pub IsInside : Body → Type 0
IsInside (body.Apply b entries) = LieIn b entries
IsInside _ = Unit {0}

-- the key is that of the document that the body names, if it names one
abbrev pub IsKeyOf : Body → ℕ → Type 0
IsKeyOf (body.Store entry) key = key ≡ key_of entry.id
IsKeyOf (body.Read b (Some id)) key = key ≡ key_of id
IsKeyOf _ key = Unit {0}

-- a body that may draw a serial finds one
abbrev pub HasRoom : Body → ℕ → Type 0
HasRoom body.Ask serial = Unit {0}
HasRoom (body.Read b only) serial = Unit {0}
HasRoom (body.Delete b s) serial = Unit {0}
HasRoom _ serial = serial < 2 ^ 64 - 1

-- whether a body that is not too old is accepted
abbrev pub told : Body → List Piece → Told
told body.Ask ps = Accepted
told (body.Read b None) ps = Accepted
told (body.Read b (Some id)) ps = key_told (key_of id) ps
told (body.Store entry) ps = key_told (key_of entry.id) ps
told (body.Apply b entries) ps = Accepted
told (body.Delete b s) ps = delete_told b s ps
told (body.Split b) ps = split_told b ps
told (body.Join b) ps = join_told b ps
told (body.Ready b) ps = ready_told b ps
told (body.Activate b) ps = activate_told b ps

-- the entries and the pieces that an answer shows
abbrev pub shown_entries : Body → Entries → Entries
shown_entries (body.Read b None) m = fin.retain_keys m (in_bucket b)
shown_entries (body.Read b (Some id)) m = only_entry (fin.get m id)
shown_entries _ m = fin.empty

abbrev pub shown_pieces : Body → List Piece → List Piece
shown_pieces body.Ask ps = ps
shown_pieces (body.Read b None) ps = filter (does_meet b) ps
shown_pieces _ ps = []

-- a body that is not too old is treated: an answer comes exactly where it is accepted, and a refusal where
-- that is told; want of memory may stand in place of an answer alone, and then nothing changes
abbrev pub Treats : Node → Body → Node → Reply → Type 0
Treats old x new (reply.Answer pieces entries) = (told x old.pieces ≡ Accepted) × ((pieces ≡ shown_pieces x old.pieces) × ((entries ≡ shown_entries x old.entries) × (new ≡ after_body x old)))
Treats old x new (reply.Newer v) = ⊥
Treats old x new reply.NoBucket = (told x old.pieces ≡ NoBucket) × (new ≡ old)
Treats old x new reply.Differs = (told x old.pieces ≡ Differs) × (new ≡ old)
Treats old x new reply.NoMemory = (told x old.pieces ≡ Accepted) × (new ≡ old)

-- any message: one of a smaller version changes nothing, and another first makes its version the node's
pub record Takes (old : Node) (m : Message) (new : Node) (r : Reply) : Type 0 where
  pub too_old : m.version < old.version → (r ≡ reply.Newer old.version) × (new ≡ old)
  pub treated : old.version ≤ m.version → Treats (adopt m.version old) m.body new r

-- ---- words for the laws

-- memory served
abbrev pub IsServed : Reply → Type 0
IsServed reply.NoMemory = ⊥
IsServed _ = Unit {0}

-- the reply is no answer
abbrev pub IsRefused : Reply → Type 0
IsRefused (reply.Answer pieces entries) = ⊥
IsRefused _ = Unit {0}
