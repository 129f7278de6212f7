-- What a lane remembers of the Activates that were answered, after one more event and after its parts changed.
use Rattle.std.proofs.Common.{◌≡◌, ℕ, ◌<◌, List, [], ◌∷◌, length, Option, slice_set, inl, inr, sym, subst}
use Rattle.std.proofs.lemmas.Bool.{cases_eq}
use Rattle.bucket_ids.specs.Buckets.{Low}
use Rattle.cluster_states.specs.declared.cluster_state.ClusterState.{ClusterState}
use Rattle.proof_basics.proofs.Lists.{all_map}
use Rattle.bucket_db.specs.declared.row.Row.{Row}
use Rattle.bucket_db.specs.Rows.{Rows}
use Rattle.messages.specs.declared.reply.Reply.{Reply}
use Rattle.messages.specs.declared.reply.Reply.TheVariants as reply
use Rattle.distributor_part.specs.declared.rules.Rules.{Rules}
use Rattle.distributor_part.specs.Parts.{Part, rows_of, version_of, new_part}
use Rattle.lane_journals.specs.Events.{Event}
use Rattle.lane_journals.specs.Readers.{Journal}
use Rattle.lane_journals.specs.Facts.{InRegion}
use Rattle.lane_journals.specs.Meanings.{history, meaning}
use Rattle.lane_journals.specs.declared.event.LaneEvent.{LaneEvent}
use Rattle.lane_journals.proofs.Basics.{sent-stays, Accepted-stays}
use Rattle.lane_keeping.specs.LaneKeeping.{part_in}
use Rattle.lane_keeping.specs.Asking.{OthersStay, IsPartTold}
use Rattle.lane_states.specs.Accepting.{IsAccepted, AreRowsAccepted, IsPartAccepted, AreAccepted}
use Rattle.lane_keeping.proofs.Parts.{part-own, part-others}

-- ---- one more event

region-stays : (v n key : ℕ) (H : Journal) (e : Event) → InRegion v n key H → InRegion v n key (e ∷ H)
region-stays v n key H e h = record {
  number = h.number;
  message = h.message;
  bucket = h.bucket;
  was_sent = sent-stays h.number H h.message e h.was_sent;
  receiver = h.receiver;
  version = h.version;
  body = h.body;
  accepted = Accepted-stays h.number H e h.accepted;
  inside = h.inside;
}

row-stays : (v : ℕ) (H : Journal) (e : Event) (row : Row) → IsAccepted v H row → IsAccepted v (e ∷ H) row
row-stays v H e row h is = let was = h is in record { node = was.node; active = was.active; keys = λ key k. region-stays v was.node key H e (was.keys key k) }

pub accepted-stays : (lane : Low) (rules : Rules) (J : List LaneEvent) (e : LaneEvent) (parts : List Part) → AreAccepted lane rules J parts → AreAccepted lane rules (e ∷ J) parts
accepted-stays lane rules J e parts h d =
    let p = part_in lane rules parts d in
    all_map (IsAccepted (version_of p.state) (history J)) (IsAccepted (version_of p.state) (meaning J e ∷ history J)) (rows_of p.rows) (row-stays (version_of p.state) (history J) (meaning J e)) (h d)

-- ---- parts

-- where nothing happened
pub accepted-none : (lane : Low) (rules : Rules) → AreAccepted lane rules [] []
accepted-none lane rules d = tt

-- the parts are the same
pub accepted-same : (lane : Low) (rules : Rules) (J : List LaneEvent) (parts now : List Part) → ((d : ℕ) → part_in lane rules now d ≡ part_in lane rules parts d) → AreAccepted lane rules J parts → AreAccepted lane rules J now
accepted-same lane rules J parts now same h d = subst (IsPartAccepted (history J)) (sym (same d)) (h d)

-- one part is another
pub accepted-but : (lane : Low) (rules : Rules) (J : List LaneEvent) (parts now : List Part) (d : ℕ) → OthersStay lane rules parts now d → IsPartAccepted (history J) (part_in lane rules now d)
    → AreAccepted lane rules J parts → AreAccepted lane rules J now
accepted-but lane rules J parts now d others here h e = elim (cases_eq e d) [
  | inl is ↦ subst (λ (n : ℕ). IsPartAccepted (history J) (part_in lane rules now n)) (sym is) here
  | inr off ↦ subst (IsPartAccepted (history J)) (sym (others e off)) (h e)
]

pub accepted-at : (lane : Low) (rules : Rules) (J : List LaneEvent) (parts : List Part) (d : ℕ) (p q : Part) → d < length parts → part_in lane rules parts d ≡ p
    → (IsPartAccepted (history J) p → IsPartAccepted (history J) q) → AreAccepted lane rules J parts → AreAccepted lane rules J (slice_set parts d q)
accepted-at lane rules J parts d p q within is f h = accepted-but lane rules J parts (slice_set parts d q) d (part-others lane rules parts d q)
    (subst (IsPartAccepted (history J)) (sym (part-own lane rules parts d q within)) (f (subst (IsPartAccepted (history J)) is (h d)))) h

-- ---- one part

module _ (H : Journal) (p q : Part) where
  -- without rows
  pub accepted-fresh : (number : ℕ) (lane : Low) (rules : Rules) (state : Option ClusterState) → q ≡ new_part number lane rules state → IsPartAccepted H q
  accepted-fresh number lane rules state is = subst (IsPartAccepted H) (sym is) tt

  -- the state and the rows are the same
  pub accepted-alike : q.state ≡ p.state → q.rows ≡ p.rows → IsPartAccepted H p → IsPartAccepted H q
  accepted-alike state rows h =
      subst (λ (o : Option ClusterState). AreRowsAccepted (version_of o) H (rows_of q.rows)) (sym state)
      (subst (λ (o : Option Rows). AreRowsAccepted (version_of p.state) H (rows_of o)) (sym rows) h)

  pub accepted-told : (node : ℕ) (r : Reply) → IsPartTold p q node r → IsPartAccepted H p → IsPartAccepted H q
  accepted-told node (reply.Answer pieces entries) t = accepted-alike (t.alike).state_is (t.alike).rows_are
  accepted-told node (reply.Newer v) t = accepted-alike (t.alike).state_is (t.alike).rows_are
  accepted-told node reply.NoBucket t = accepted-alike (t.alike).state_is (t.alike).rows_are
  accepted-told node reply.Differs t = accepted-alike (t.alike).state_is (t.alike).rows_are
  accepted-told node reply.NoMemory t = accepted-alike (t.alike).state_is (t.alike).rows_are
