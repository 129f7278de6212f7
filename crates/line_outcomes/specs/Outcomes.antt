-- With which outcome an operation ends, read off the journal: the first shortage that it met, what it saw comes to, or
-- what became of its Stores.
use Rattle.std.specs.Prelude.{◌≡◌, ◌⊎◌, ℕ, true, false, List, Option, None, Some, IsSome}
use Rattle.bucket_ids.specs.Buckets.{Low}
use Rattle.node_sets.specs.Members.{has_node}
use Rattle.stamps.specs.declared.stamp.Stamp.{Stamp}
use Rattle.cluster_states.specs.declared.cluster_state.ClusterState.{ClusterState}
use Rattle.cluster_states.specs.Publishing.{serves}
use Rattle.documents.specs.declared.entry.Entry.{Entry}
use Rattle.messages.specs.declared.operation.Operation.{Operation}
use Rattle.messages.specs.declared.outcome.Outcome.{Outcome}
use Rattle.messages.specs.declared.outcome.Outcome.TheVariants.{Acked, TooFew}
use Rattle.op_machine.specs.declared.verdict.Verdict.TheVariants.{Ends}
use Rattle.op_machine.specs.Judging.{looks, judged}
use Rattle.lane_journals.specs.Sets.{count, AtLeast}
use Rattle.lane_journals.specs.Stamps.{Le}
use Rattle.lane_journals.specs.Buckets.{key_of}
use Rattle.lane_journals.specs.Events.{Content}
use Rattle.lane_journals.specs.Readers.{Journal, Beginning, Preparing, began, prepared, wrote, opened, row_at, round_of, running, asked, answer, answered_store, complete, active}
use Rattle.lane_journals.specs.Facts.{AnsweredApply, ReadBack}
use Rattle.lane_journals.specs.Legal.{EnoughRead}
use Rattle.lane_journals.specs.Meanings.{history, entry_at}
use Rattle.lane_journals.specs.Endings.{UnpreparedFellShort}
use Rattle.lane_journals.specs.Places.{Setting, state_in, receivers_of}
use Rattle.lane_journals.specs.declared.event.LaneEvent.{LaneEvent}
use Rattle.lane_keeping.specs.NodeKeeping.{stamp_of}
use Rattle.operation_keeping.specs.OperationKeeping.{beginning_of, WasRead, WasStored, IsReadOf, IsStoreOf, WasShort, WasShortSince}
use Rattle.operation_keeping.specs.Wants.{is_ask, is_round_read, is_round_apply}
use Rattle.line_outcomes.specs.Shortages.{IsTooFewOf, AreFewer}

-- ---- before it is prepared, from where its search for a row began

-- the state isn't opened: not all that serve have answered an Ask
pub record EndsUnopened (J : List LaneEvent) (from : Journal) (s : ClusterState) (x : Outcome) : Type 0 where
  pub unopened : opened s.version (history J) ≡ false
  pub few : IsTooFewOf (WasShortSince from (history J) (is_ask s.version))
      (λ n. (serves s n ≡ true) × IsSome (asked s.version n (history J))) (count (serves s))
      (λ n. (serves s n ≡ true) × (IsSome (asked s.version n (history J)) → ⊥)) None x

-- the row of its key has had a round since, and has fewer complete members than a write needs
pub record IsAfterRound (acks : ℕ) (J : List LaneEvent) (from : Journal) (key v : ℕ) (row : Low) : Type 0 where
  pub opened_is : opened v (history J) ≡ true
  pub at : row_at v key (history J) ≡ Some row
  pub had_round : round_of v row (history J) ≡ round_of v row from → ⊥
  pub over : running v row (history J) ≡ false
  pub fewer : AreFewer acks (λ n. complete v n key (history J) ≡ true)

-- the node answered the Read of the row's newest round
abbrev pub HasShown : List LaneEvent → ℕ → Low → ℕ → Type 0
HasShown J v row n = IsSome (answer v (round_of v row (history J)) n (history J))

-- all that serve did
abbrev pub HaveAllShown : List LaneEvent → ClusterState → Low → Type 0
HaveAllShown J s row = (n : ℕ) → serves s n ≡ true → HasShown J s.version row n

-- the union of that round was to go to the node
abbrev pub IsReceiver : List LaneEvent → ℕ → Low → ℕ → Type 0
IsReceiver J v row n = (set : ℕ) × (receivers_of v row J ≡ Some set) × (has_node set n ≡ true)

-- and the node didn't answer it
abbrev pub LacksUnion : List LaneEvent → ℕ → Low → ℕ → Type 0
LacksUnion J v row n = IsReceiver J v row n × (AnsweredApply v (round_of v row (history J)) n row (history J) → ⊥)

-- not all that serve did
pub record EndsUnread (acks : ℕ) (J : List LaneEvent) (from : Journal) (key : ℕ) (s : ClusterState) (x : Outcome) : Type 0 where
  pub row : Low
  pub after : IsAfterRound acks J from key s.version row
  pub unread : HaveAllShown J s row → ⊥
  pub few : IsTooFewOf (WasShortSince from (history J) (is_round_read s.version row (round_of s.version row (history J))))
      (λ n. (serves s n ≡ true) × HasShown J s.version row n) (count (serves s))
      (λ n. (serves s n ≡ true) × (HasShown J s.version row n → ⊥)) (active s.version key (history J)) x

-- all did, and too few are complete members all the same
pub record EndsUnited (acks : ℕ) (J : List LaneEvent) (from : Journal) (key : ℕ) (s : ClusterState) (x : Outcome) : Type 0 where
  pub row : Low
  pub after : IsAfterRound acks J from key s.version row
  pub read : HaveAllShown J s row
  pub few : IsTooFewOf (WasShortSince from (history J) (is_round_apply s.version row (round_of s.version row (history J))))
      (λ n. complete s.version n key (history J) ≡ true) acks (LacksUnion J s.version row) (active s.version key (history J)) x

-- ---- once it is prepared

-- the node answered a Read of the line
abbrev pub HasRead : Journal → ℕ → Beginning → ℕ → Type 0
HasRead H line b n = (content : Content) × ReadBack n line b content H

-- each recipient was sent a Read, of an operation that looks at its document, and nothing is written
pub record HasLooked (J : List LaneEvent) (line : ℕ) (o : Operation) (b : Beginning) (p : Preparing) : Type 0 where
  pub looks_at : looks o ≡ true
  pub all_asked : (n : ℕ) → p.recipients n ≡ true → WasRead (history J) None line b n
  pub unwritten : wrote line (history J) ≡ false

-- fewer recipients than a write needs answered
pub record EndsUnseen (acks : ℕ) (J : List LaneEvent) (line : ℕ) (o : Operation) (b : Beginning) (p : Preparing) (x : Outcome) : Type 0 where
  pub looked : HasLooked J line o b p
  pub fewer : AreFewer acks (λ n. (p.recipients n ≡ true) × HasRead (history J) line b n)
  pub few : IsTooFewOf (WasShort (history J) line (IsReadOf b))
      (λ n. (p.recipients n ≡ true) × HasRead (history J) line b n) acks
      (λ n. (p.recipients n ≡ true) × (HasRead (history J) line b n → ⊥)) (active b.version (key_of b.id) (history J)) x

-- the newest entry that was shown, if one was
pub record IsSeen (J : List LaneEvent) (line : ℕ) (b : Beginning) (seen : Option Entry) : Type 0 where
  pub newest : (n : ℕ) (content : Content) → ReadBack n line b content (history J) → Le (content b.id) (stamp_of seen)
  pub shown : (s : Stamp) → stamp_of seen ≡ Some s → (n : ℕ) × (content : Content) × ReadBack n line b content (history J) × (content b.id ≡ Some s)
  pub written : (e : Entry) → seen ≡ Some e → entry_at e.stamp J ≡ Some e

-- enough did, and what was seen decides: the condition fails, a get shows it, or an update can't be
pub record EndsJudged (acks : ℕ) (J : List LaneEvent) (line : ℕ) (o : Operation) (b : Beginning) (p : Preparing) (x : Outcome) : Type 0 where
  pub looked : HasLooked J line o b p
  pub enough : EnoughRead acks (history J) line b p
  pub seen : Option Entry
  pub is_seen : IsSeen J line b seen
  pub judged_so : judged o b.stamp seen ≡ Ends x

-- the entry was written and sent to each recipient
pub record HasStored (J : List LaneEvent) (line : ℕ) (b : Beginning) (p : Preparing) (stamp : Stamp) : Type 0 where
  pub stamped : b.stamp ≡ Some stamp
  pub written : wrote line (history J) ≡ true
  pub all_sent : (n : ℕ) → p.recipients n ≡ true → WasStored (history J) None b n

-- enough recipients answered the Store, the active node among them if there is one
pub record IsAcknowledged (acks : ℕ) (H : Journal) (b : Beginning) (p : Preparing) (stamp : Stamp) : Type 0 where
  pub enough : AtLeast acks (λ n. (p.recipients n ≡ true) × (answered_store b.version b.id stamp n H ≡ true))
  pub active_did : (n : ℕ) → active b.version (key_of b.id) H ≡ Some n → answered_store b.version b.id stamp n H ≡ true

pub record EndsStored (acks : ℕ) (J : List LaneEvent) (line : ℕ) (b : Beginning) (p : Preparing) (x : Outcome) : Type 0 where
  pub stamp : Stamp
  pub stored : HasStored J line b p stamp
  pub acknowledged : IsAcknowledged acks (history J) b p stamp
  pub is : x ≡ Acked stamp

pub record EndsUnstored (acks : ℕ) (J : List LaneEvent) (line : ℕ) (b : Beginning) (p : Preparing) (x : Outcome) : Type 0 where
  pub stamp : Stamp
  pub stored : HasStored J line b p stamp
  pub unacknowledged : IsAcknowledged acks (history J) b p stamp → ⊥
  pub few : IsTooFewOf (WasShort (history J) line (IsStoreOf b))
      (λ n. (p.recipients n ≡ true) × (answered_store b.version b.id stamp n (history J) ≡ true)) acks
      (λ n. (p.recipients n ≡ true) × (answered_store b.version b.id stamp n (history J) ≡ true → ⊥)) (active b.version (key_of b.id) (history J)) x

-- ---- the outcome

-- before it is prepared, and then
abbrev pub EndsWith : ℕ → List LaneEvent → ℕ → Operation → Journal → ClusterState → Beginning → Option Preparing → Outcome → Type 0
EndsWith acks J line o from s b None x = EndsUnopened J from s x ⊎ (EndsUnread acks J from (key_of o.id) s x ⊎ EndsUnited acks J from (key_of o.id) s x)
EndsWith acks J line o from s b (Some p) x =
    EndsUnseen acks J line o b p x ⊎ (EndsJudged acks J line o b p x ⊎ (EndsStored acks J line b p x ⊎ EndsUnstored acks J line b p x))

-- the operation of the line ends so, whose search for a row began with an earlier journal
pub record IsOutcome (acks : ℕ) (line : ℕ) (o : Operation) (from : Journal) (J : List LaneEvent) (x : Outcome) : Type 0 where
  pub distributor : ℕ
  pub state : ClusterState
  pub stamp : Option Stamp
  pub published : state_in state.version J ≡ Some state
  pub begun : began line (history J) ≡ Some (beginning_of distributor state o stamp)
  pub ends : EndsWith acks J line o from state (beginning_of distributor state o stamp) (prepared line (history J)) x

-- ---- what is told of a shortage is so now

-- where too few are told of by a line that isn't prepared, it falls short so as the journal stands
abbrev pub FallsShortNow : Setting → List LaneEvent → ℕ → Outcome → Type 0
FallsShortNow S J line (TooFew answered needed absent) = (b : Beginning) → began line (history J) ≡ Some b → prepared line (history J) ≡ None → UnpreparedFellShort S J line b answered needed absent
FallsShortNow S J line _ = Unit {0}
