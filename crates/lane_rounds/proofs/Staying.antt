-- What stays over the events of messages stays while an owner asks node after node.
use Rattle.std.proofs.Common.{◌≡◌, ℕ, Bool, List, ◌∷◌, Option, Some, None, sym, subst}
use Rattle.bucket_ids.specs.Buckets.{Low}
use Rattle.messages.specs.declared.message.Message.{Message as Letter}
use Rattle.distributor_part.specs.declared.rules.Rules.{Rules}
use Rattle.distributor_part.specs.Parts.{Part}
use Rattle.lane_journals.specs.Readers.{running}
use Rattle.lane_journals.specs.Facts.{Idle}
use Rattle.lane_journals.specs.Meanings.{history}
use Rattle.lane_journals.specs.declared.event.LaneEvent.{LaneEvent}
use Rattle.lane_journals.specs.declared.event.LaneEvent.TheVariants.{Sent, Delivered, Returned, Opened}
use Rattle.lane_keeping.specs.Replaying.{sending}
use Rattle.lane_states.specs.declared.lane_state.LaneState.{LaneState}
use Rattle.lane_states.specs.LaneStates.{journal_of, part_of}
use Rattle.lane_rounds.specs.Openings.{IsGone, IsAsked, Nobody, More, EndsBy, StopsAfter}
use Rattle.lane_carriage.proofs.Staying.{IsOfMessage, stays-delivered, stays-dealt}

module _ (P : List LaneEvent → Type 0) (stays : (e : LaneEvent) (J : List LaneEvent) → IsOfMessage e → P J → P (e ∷ J)) where
  pub stays-gone : (n : ℕ) (m : Letter) (J K : List LaneEvent) → IsGone n m J K → P J → P K
  stays-gone n m J K g p = stays-delivered P stays g.numbers g.between K g.late (stays-dealt P stays g.fate n (sending n m ∷ J) g.between g.dealt (stays (sending n m) J tt p))

  pub stays-asked : (lane : Low) (rules : Rules) (d : ℕ) (J : List LaneEvent) (p : Part) (K : List LaneEvent) (q : Part) (short : Bool) → IsAsked lane rules d J p K q short → P J → P K
  stays-asked lane rules d J p _ _ _ Nobody h = h
  stays-asked lane rules d J p _ _ _ (More K L q asked heard number m was one before keeps asks gone settled told) h = stays-gone number m K L gone (stays-asked lane rules d J p K q was before h)

  module _ (opened : (d v : ℕ) (buckets : List Low) (J : List LaneEvent) → P J → P (Opened d v buckets ∷ J)) where
    pub stays-ended : (c : LaneState) (d : ℕ) (missing : Option ℕ) (short : Bool) (K : List LaneEvent) (q : Part) → EndsBy c d missing short K q → P (journal_of c) → P K
    stays-ended c d None short K q e p = subst P (sym e.grows) (opened d ((e.opens).state).version e.buckets e.before (stays-asked c.lane c.rules d (journal_of c) (part_of c d) e.before e.part short e.asked p))
    stays-ended c d (Some missing) short K q e p = stays-asked c.lane c.rules d (journal_of c) (part_of c d) K e.part short e.asked p

    pub stays-stopped : (c : LaneState) (d : ℕ) (K : List LaneEvent) (q : Part) → StopsAfter c d K q → P (journal_of c) → P K
    stays-stopped c d K q s p = stays-asked c.lane c.rules d (journal_of c) (part_of c d) K s.part s.short s.asked p

-- the rounds that are under way are the same, and no operation is prepared
abbrev pub RunsAs : List LaneEvent → List LaneEvent → Type 0
RunsAs J K = (v : ℕ) (b : Low) → running v b (history K) ≡ running v b (history J)

abbrev pub IsIdleIn : List LaneEvent → Type 0
IsIdleIn J = (v : ℕ) (b : Low) → Idle v b (history J)

pub runs-stay : (J : List LaneEvent) (e : LaneEvent) (K : List LaneEvent) → IsOfMessage e → RunsAs J K → RunsAs J (e ∷ K)
runs-stay J (Sent n v d to body) K i h = h
runs-stay J (Delivered n r) K i h = h
runs-stay J (Returned n) K i h = h
runs-stay J _ K i h = absurd i

pub runs-opened : (J : List LaneEvent) (d v : ℕ) (buckets : List Low) (K : List LaneEvent) → RunsAs J K → RunsAs J (Opened d v buckets ∷ K)
runs-opened J d v buckets K h = h

pub idle-opened : (d v : ℕ) (buckets : List Low) (K : List LaneEvent) → IsIdleIn K → IsIdleIn (Opened d v buckets ∷ K)
idle-opened d v buckets K h = λ w b line begin p o is. h w b line begin p (record { began = o.began; version = o.version; prepared = o.prepared; unclosed = o.unclosed }) is

pub idle-stays : (e : LaneEvent) (J : List LaneEvent) → IsOfMessage e → ((v : ℕ) (b : Low) → Idle v b (history J)) → (v : ℕ) (b : Low) → Idle v b (history (e ∷ J))
idle-stays (Sent n v d to body) J i h = λ w b line begin p o is. h w b line begin p (record { began = o.began; version = o.version; prepared = o.prepared; unclosed = o.unclosed }) is
idle-stays (Delivered n r) J i h = λ w b line begin p o is. h w b line begin p (record { began = o.began; version = o.version; prepared = o.prepared; unclosed = o.unclosed }) is
idle-stays (Returned n) J i h = λ w b line begin p o is. h w b line begin p (record { began = o.began; version = o.version; prepared = o.prepared; unclosed = o.unclosed }) is
idle-stays _ J i h = absurd i
