-- What a lane keeps, after one more event.
use Rattle.std.proofs.Common.{◌≡◌, ◌∙◌, ◌≤◌, ◌<◌, ◌+◌, ℕ, Bool, true, false, cond, nat_le, List, [], ◌∷◌, length, Option, refl, sym, subst, arith}
use Rattle.bucket_ids.specs.Buckets.{Low}
use Rattle.view_changes.specs.declared.change.LaneChange.{LaneChange}
use Rattle.cluster_states.specs.declared.cluster_state.ClusterState.{ClusterState}
use Rattle.messages.specs.declared.noted.NotedBody.{NotedBody}
use Rattle.messages.specs.declared.noted.NotedReply.{NotedReply}
use Rattle.node_model.specs.Nodes.{Node}
use Rattle.distributor_part.specs.declared.rules.Rules.{Rules}
use Rattle.distributor_part.specs.Parts.{Part}
use Rattle.messages.specs.Waiting.{Each, AreSentBefore, kept}
use Rattle.messages.specs.declared.late.Late.{Late}
use Rattle.node_sets.specs.Members.{has_node}
use Rattle.lane_journals.specs.Readers.{stopped}
use Rattle.lane_journals.specs.Meanings.{history}
use Rattle.lane_journals.specs.declared.event.LaneEvent.{LaneEvent}
use Rattle.lane_journals.specs.declared.event.LaneEvent.TheVariants.{Sent, Delivered}
use Rattle.lane_keeping.specs.Flights.{IsInFlight}
use Rattle.lane_keeping.proofs.Flying.{flight-stays}
use Rattle.lane_keeping.specs.NodeKeeping.{NodeKeeps}
use Rattle.lane_keeping.specs.LaneKeeping.{node_in, Keeps}
use Rattle.lane_changes.specs.Changes.{TellsNothing}
use Rattle.lane_states.specs.Accepting.{AreAccepted}
use Rattle.lane_states.specs.LaneStates.{IsComing, AreStopped, IsKeptBy}
use Rattle.lane_states.proofs.Accepting.{accepted-stays}
use Rattle.lane_states.specs.Told.{Tells, IsTold}
use Rattle.lane_states.proofs.Counts.{no-stop, told-quiet, told-roomier}
use Rattle.lane_states.proofs.Stops.{stops-on}

pub each-more : {P Q : Late → Type 0} (late : List Late) → ((l : Late) → P l → Q l) → Each P late → Each Q late
each-more [] f h = tt
each-more (l ∷ late) f h = (f l h.0, each-more late f h.1)

-- late messages stay on their way, while nodes are made
pub still-coming : (J : List LaneEvent) (nodes nodes2 : List Node) (late : List Late) → length nodes ≤ length nodes2 → Each (IsComing J nodes) late → Each (IsComing J nodes2) late
still-coming J nodes nodes2 late more h = each-more late (λ l x. record { flight = x.flight; there = let t = x.there in omega arith }) h

pub coming-stays : (J : List LaneEvent) (e : LaneEvent) (nodes : List Node) (late : List Late) → Each (IsComing J nodes) late → Each (IsComing (e ∷ J) nodes) late
coming-stays J e nodes late h = each-more late (λ l x. record { flight = flight-stays J e l.number l.message x.flight; there = x.there }) h

-- one more late message
pub each-kept : (P : Late → Type 0) (l : Late) (late : List Late) → P l → Each P late → Each P (kept l late)
each-kept P l [] p h = (p, tt)
each-kept P l (m ∷ late) p h = by_test (nat_le m.due l.due) (each-kept P l late p h.1)
  where
    by_test : (t : Bool) → Each P (kept l late) → Each P (cond t (m ∷ kept l late) (l ∷ m ∷ late))
    by_test true further = (h.0, further)
    by_test false further = (p, h)

pub length-kept : (l : Late) (late : List Late) → length (kept l late) ≡ length late + 1
length-kept l [] = refl
length-kept l (m ∷ late) = by_test (nat_le m.due l.due) (length-kept l late)
  where
    by_test : (t : Bool) → length (kept l late) ≡ length late + 1 → length (cond t (m ∷ kept l late) (l ∷ m ∷ late)) ≡ length (m ∷ late) + 1
    by_test true more = omega (arith, more)
    by_test false more = omega arith

module _ {lane : Low} {rules : Rules} {J : List LaneEvent} {newest : Option ClusterState} {last : ℕ} {nodes : List Node} {parts : List Part} {late : List Late} {stops : ℕ} {t : Tells} (k : IsKeptBy lane rules J newest last nodes parts late stops t) where
  -- the journal is the same
  pub kept_still : {nodes2 : List Node} {parts2 : List Part} → length nodes ≤ length nodes2 → Keeps lane rules J newest last nodes2 parts2 → AreAccepted lane rules J parts2 → IsKeptBy lane rules J newest last nodes2 parts2 late stops t
  kept_still {nodes2} more keeps accepted = record { small = k.small; keeps = keeps; coming = still-coming J nodes nodes2 late more k.coming; counted = k.counted; stops_are = k.stops_are; accepted = accepted; told_is = k.told_is }

  -- one event more, which sends nothing and gives no change
  pub kept_more : {e : LaneEvent} {newest2 : Option ClusterState} {parts2 : List Part} → Keeps lane rules (e ∷ J) newest2 last nodes parts2 → TellsNothing e → AreAccepted lane rules J parts2 → IsKeptBy lane rules (e ∷ J) newest2 last nodes parts2 late stops t
  kept_more {e} {newest2} {parts2} keeps nothing accepted = record { small = k.small; keeps = keeps; coming = coming-stays J e nodes late k.coming; counted = (let le = k.counted in omega arith); stops_are = stops-on J e stops (no-stop e nothing) k.stops_are; accepted = accepted-stays lane rules J e parts2 accepted; told_is = told-quiet J e t nothing k.told_is }

  -- a node took a message
  pub kept_taken : {n : ℕ} {r : NotedReply} {nodes2 : List Node} {t2 : Tells} → length nodes ≤ length nodes2 → Keeps lane rules (Delivered n r ∷ J) newest last nodes2 parts → IsTold (Delivered n r ∷ J) t2
      → IsKeptBy lane rules (Delivered n r ∷ J) newest last nodes2 parts late stops t2
  kept_taken {n} {r} {nodes2} more keeps told_is = record { small = k.small; keeps = keeps; coming = coming-stays J (Delivered n r) nodes2 late (still-coming J nodes nodes2 late more k.coming); counted = (let le = k.counted in omega arith); stops_are = k.stops_are; accepted = accepted-stays lane rules J (Delivered n r) parts k.accepted; told_is = told_is }

  -- a message is sent
  pub kept_sent : {n v d to : ℕ} {body : NotedBody} → Keeps lane rules (Sent n v d to body ∷ J) newest (last + 1) nodes parts → IsKeptBy lane rules (Sent n v d to body ∷ J) newest (last + 1) nodes parts late stops t
  kept_sent {n} {v} {d} {to} {body} keeps = record { small = k.small; keeps = keeps; coming = coming-stays J (Sent n v d to body) nodes late k.coming; counted = (let le = k.counted in omega arith); stops_are = k.stops_are; accepted = accepted-stays lane rules J (Sent n v d to body) parts k.accepted; told_is = told-quiet J (Sent n v d to body) t tt k.told_is }

  -- a node stopped or started
  pub kept_stop : {e : LaneEvent} {stops2 : ℕ} {t2 : Tells} → Keeps lane rules (e ∷ J) newest last nodes parts → AreStopped (λ n. stopped n (history (e ∷ J))) stops2 → IsTold (e ∷ J) t2
      → IsKeptBy lane rules (e ∷ J) newest last nodes parts late stops2 t2
  kept_stop {e} keeps now told_is = record { small = k.small; keeps = keeps; coming = coming-stays J e nodes late k.coming; counted = (let le = k.counted in omega arith); stops_are = now; accepted = accepted-stays lane rules J e parts k.accepted; told_is = told_is }

  -- with one more late message
  pub kept_late : (l : Late) → IsInFlight J l.number l.message → l.message.receiver < length nodes → IsKeptBy lane rules J newest last nodes parts (kept l late) stops t
  kept_late l flight there = record { small = k.small; keeps = k.keeps; coming = each-kept (IsComing J nodes) l late (record { flight = flight; there = there }) k.coming; counted = k.counted; stops_are = k.stops_are; accepted = k.accepted; told_is = k.told_is }

  -- without the first late message
  pub kept_first : {l : Late} {rest : List Late} → late ≡ l ∷ rest → IsKeptBy lane rules J newest last nodes parts rest stops t
  kept_first {l} {rest} is = record { small = k.small; keeps = k.keeps; coming = (subst (λ (x : List Late). Each (IsComing J nodes) x) is k.coming).1; counted = k.counted; stops_are = k.stops_are; accepted = k.accepted; told_is = k.told_is }

  -- with more places for the changes that are kept
  pub kept-roomier : {kept2 : List (List LaneChange)} {lists2 places2 : ℕ} → kept2 ≡ (t.log).kept → lists2 ≡ (t.log).lists → (t.log).places ≤ places2
      → IsKeptBy lane rules J newest last nodes parts late stops (record { log = record { told = (t.log).told; kept = kept2; lists = lists2; places = places2; turn_room = (t.log).turn_room }; handed = t.handed })
  kept-roomier {kept2} {lists2} {places2} same count more = record { small = k.small; keeps = k.keeps; coming = k.coming; counted = k.counted; stops_are = k.stops_are; accepted = k.accepted; told_is = told-roomier J t kept2 lists2 places2 (t.log).turn_room same (λ room. let free = (k.told_is).place room in omega (arith, free, count, more)) k.told_is }

  -- a node that isn't among the stopped ones runs
  pub kept_runs : (n : ℕ) → has_node stops n ≡ false → stopped n (history J) ≡ false
  kept_runs n e = k.stops_are n ∙ e

  pub first_coming : {l : Late} {rest : List Late} → late ≡ l ∷ rest → IsComing J nodes l
  first_coming {l} {rest} is = (subst (λ (x : List Late). Each (IsComing J nodes) x) is k.coming).0

  -- the next message has a number above those of all late ones
  pub sent-before : AreSentBefore (last + 1) late
  sent-before = each-more late (λ l x. let le = k.keeps.numbered l.number x.flight.sending x.flight.was_sent in omega arith) k.coming

-- ---- nodes and parts that are made

module _ {lane : Low} {rules : Rules} {J : List LaneEvent} {newest : Option ClusterState} {last : ℕ} {nodes : List Node} {parts : List Part} (k : Keeps lane rules J newest last nodes parts) where
  pub keeps-nodes : (nodes2 : List Node) → ((n : ℕ) → node_in nodes2 n ≡ node_in nodes n) → Keeps lane rules J newest last nodes2 parts
  keeps-nodes nodes2 same = record {
    legal = k.legal;
    newest_is = k.newest_is;
    numbered = k.numbered;
    nodes_are = λ n. subst (λ (x : Node). NodeKeeps J n x) (sym (same n)) (k.nodes_are n);
    parts_are = k.parts_are;
  }
