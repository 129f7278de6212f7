-- A line that is begun or refused, and what waits while other events come.
use Rattle.std.proofs.Common.{◌≡◌, ◌≢◌, ℕ, ◌+◌, Bool, true, false, cond, List, ◌∷◌, Option, Some, None, refl, ap, ◌∙◌, subst, eqb, eq-eqb}
use Rattle.bucket_ids.specs.Buckets.{Low}
use Rattle.stamps.specs.declared.stamp.Stamp.{Stamp}
use Rattle.cluster_states.specs.declared.cluster_state.ClusterState.{ClusterState}
use Rattle.ideal_nodes.specs.Placement.{IsOwner}
use Rattle.messages.specs.declared.operation.Operation.{Operation}
use Rattle.messages.specs.declared.outcome.Outcome.TheVariants.{OwnedElsewhere}
use Rattle.node_model.specs.Nodes.{Node}
use Rattle.distributor_part.specs.declared.rules.Rules.{Rules}
use Rattle.distributor_part.specs.Parts.{Part}
use Rattle.lane_journals.specs.Buckets.{Id, contains, key_of}
use Rattle.lane_journals.specs.Readers.{Beginning, or_else, only_if, began, refused, prepared, wrote, closed, stamps_of, held, asked, opened}
use Rattle.lane_journals.specs.Legal.{IsNextStamp}
use Rattle.lane_journals.specs.RowLists.{row_with, rows}
use Rattle.lane_journals.specs.Meanings.{history}
use Rattle.lane_journals.specs.Places.{state_in}
use Rattle.lane_journals.specs.KeptJournals.{IsLegalStep}
use Rattle.lane_journals.specs.declared.event.LaneEvent.{LaneEvent}
use Rattle.lane_journals.specs.declared.event.LaneEvent.TheVariants as event
use Rattle.lane_keeping.specs.LaneKeeping.{setting_of, Holds, part_in, Keeps}
use Rattle.lane_keeping.specs.Acting.{IsActing}
use Rattle.proof_basics.proofs.Numbers.{apart}
use Rattle.operation_keeping.specs.OperationKeeping.{beginning_of, IsUnderWay, KnowsPreparing}
use Rattle.lane_keeping.specs.Lines.{IsOfNoLine, IsNotOf, IsFresh}
use Rattle.lane_journals.specs.Facts.{AllClosed}
use Rattle.operation_keeping.specs.Laws.{drawn, IsFree, MayBeginNext}

-- ---- what waits

pub preparing-waits : (lane : Low) (J : List LaneEvent) (e : LaneEvent) (d : ℕ) (s : ClusterState) (line : ℕ) (o : Operation) (stamp : Option Stamp) → IsOfNoLine e → KnowsPreparing lane (history J) d s line o stamp → KnowsPreparing lane (history (e ∷ J)) d s line o stamp
preparing-waits lane J (event.Begun l e v id t) d s line o stamp h k = absurd h
preparing-waits lane J (event.Refused l e outcome) d s line o stamp h k = absurd h
preparing-waits lane J (event.Prepared l b set) d s line o stamp h k = absurd h
preparing-waits lane J (event.Wrote l entry) d s line o stamp h k = absurd h
preparing-waits lane J (event.Closed l outcome) d s line o stamp h k = absurd h
preparing-waits lane J _ d s line o stamp h k = k

pub under_way-waits : (lane : Low) (J : List LaneEvent) (e : LaneEvent) (d : ℕ) (s : ClusterState) (line : ℕ) (o : Operation) (stamp : Option Stamp) → IsOfNoLine e → IsUnderWay lane (history J) d s line o stamp → IsUnderWay lane (history (e ∷ J)) d s line o stamp
under_way-waits lane J (event.Begun l e v id t) d s line o stamp h k = absurd h
under_way-waits lane J (event.Refused l e outcome) d s line o stamp h k = absurd h
under_way-waits lane J (event.Prepared l b set) d s line o stamp h k = absurd h
under_way-waits lane J (event.Wrote l entry) d s line o stamp h k = absurd h
under_way-waits lane J (event.Closed l outcome) d s line o stamp h k = absurd h
under_way-waits lane J _ d s line o stamp h k = k

pub closed-waits : (J : List LaneEvent) (e : LaneEvent) → IsOfNoLine e → AllClosed (history J) → AllClosed (history (e ∷ J))
closed-waits J (event.Begun l e v id t) h k = absurd h
closed-waits J (event.Refused l e outcome) h k = absurd h
closed-waits J (event.Prepared l b set) h k = absurd h
closed-waits J (event.Wrote l entry) h k = absurd h
closed-waits J (event.Closed l outcome) h k = absurd h
closed-waits J _ h k = k

pub drawn-waits : (J : List LaneEvent) (e : LaneEvent) (v : ℕ) → IsOfNoLine e → stamps_of v (history (e ∷ J)) ≡ stamps_of v (history J)
drawn-waits J (event.Begun l e w id t) v h = absurd h
drawn-waits J _ v h = refl

off : {A : Type 0} (l line : ℕ) (o : Option A) (x : A) → l ≢ line → o ≡ None → or_else o (only_if (eqb l line) x) ≡ None
off l line o x h none = ap (λ z. or_else z (only_if (eqb l line) x)) none ∙ ap (λ t. only_if t x) (apart l line h)

not-here : (l line : ℕ) (was : Bool) → l ≢ line → was ≡ false → cond (eqb l line) true was ≡ false
not-here l line was h none = ap (λ t. cond t true was) (apart l line h) ∙ none

pub fresh-waits : (J : List LaneEvent) (e : LaneEvent) (line : ℕ) → IsNotOf line e → IsFresh (history J) line → IsFresh (history (e ∷ J)) line
fresh-waits J (event.Begun l e v id t) line h k = record { unbegun = off l line (began line (history J)) _ h k.unbegun; unrefused = k.unrefused; unprepared = k.unprepared; unwritten = k.unwritten; unclosed = k.unclosed }
fresh-waits J (event.Refused l e outcome) line h k = record { unbegun = k.unbegun; unrefused = not-here l line (refused line (history J)) h k.unrefused; unprepared = k.unprepared; unwritten = k.unwritten; unclosed = k.unclosed }
fresh-waits J (event.Prepared l b set) line h k = record { unbegun = k.unbegun; unrefused = k.unrefused; unprepared = off l line (prepared line (history J)) _ h k.unprepared; unwritten = k.unwritten; unclosed = k.unclosed }
fresh-waits J (event.Wrote l entry) line h k = record { unbegun = k.unbegun; unrefused = k.unrefused; unprepared = k.unprepared; unwritten = not-here l line (wrote line (history J)) h k.unwritten; unclosed = k.unclosed }
fresh-waits J (event.Closed l outcome) line h k = record { unbegun = k.unbegun; unrefused = k.unrefused; unprepared = k.unprepared; unwritten = k.unwritten; unclosed = not-here l line (closed line (history J)) h k.unclosed }
fresh-waits J _ line h k = k

pub drawn-begun : (J : List LaneEvent) (line d v : ℕ) (id : Id) (stamp : Option Stamp) → stamps_of v (history (event.Begun line d v id stamp ∷ J)) ≡ drawn stamp (stamps_of v (history J))
drawn-begun J line d v id None = refl
drawn-begun J line d v id (Some t) = ap (λ z. cond z (stamps_of v (history J) + 1) (stamps_of v (history J))) (eq-eqb v v refl)

-- ---- a line begins

module _ (lane : Low) (rules : Rules) (J : List LaneEvent) (newest : Option ClusterState) (last : ℕ) (nodes : List Node) (parts : List Part) (keep : Keeps lane rules J newest last nodes parts) where
  pub begun-next : (d : ℕ) (s : ClusterState) (line : ℕ) (o : Operation) (stamp : Option Stamp) → IsActing lane J d s → IsFree (history J) o.id → IsFresh (history J) line → contains lane (key_of o.id) ≡ true
      → IsNextStamp (history J) s.version stamp → MayBeginNext lane rules J d s line o stamp
  begun-next d s line o stamp acts free fresh inside next = record {
    legal = record {
      noted = tt;
      permitted = record { fresh = fresh.unbegun; unrefused = fresh.unrefused; holder = acts.holds; alone = free; stamp = next };
      placed = (record { state = s; published = acts.published; owner = acts.owner }, inside);
      ended = tt;
    };
    preparing = record {
      is_under_way = record {
        begun_as = ap (λ (z : Option Beginning). or_else z (only_if (eqb line line) (beginning_of d s o stamp))) fresh.unbegun ∙ ap (λ (t : Bool). only_if t (beginning_of d s o stamp)) (eq-eqb line line refl);
        unclosed = fresh.unclosed;
        in_lane = inside;
      };
      unprepared = fresh.unprepared;
      unwritten = fresh.unwritten;
    };
  }

  abbrev HoldsAt : ℕ → Option ClusterState → Type 0
  HoldsAt d o = Holds lane d (held d (history J)) (λ v. state_in v J) (λ v n. asked v n (history J)) (λ v. opened v (history J)) (λ v key. row_with key (rows v (history J))) o (part_in lane rules parts d)

  -- what a part says of its state
  pub holds-state : (d : ℕ) (s : ClusterState) → (part_in lane rules parts d).state ≡ Some s → HoldsAt d (Some s)
  holds-state d s e = subst (λ (o : Option ClusterState). HoldsAt d o) e (keep.parts_are d).heard

  pub refused-elsewhere : (d owner line : ℕ) (s : ClusterState) → (part_in lane rules parts d).state ≡ Some s → IsOwner lane s owner → owner ≢ d → IsFresh (history J) line
      → IsLegalStep (setting_of lane rules) J (event.Refused line d (OwnedElsewhere owner s.version))
  refused-elsewhere d owner line s heard own other fresh = let h = holds-state d s heard in record {
    noted = tt;
    permitted = record { fresh = fresh.unbegun; unrefused = fresh.unrefused; holder = h.0 };
    placed = (record { state = s; published = h.1; owner = own }, other);
    ended = tt;
  }
