-- The state under which a pass comes to rest, and what the journal says of it.
use Rattle.std.proofs.Common.{◌≡◌, ◌==◌, ◌++◌, ◌-◌, ◌⊎◌, ◌≤◌, ◌<◌, ℕ, Bool, true, List, [], ◌∷◌, length, length-append, Some, None, slice_get, inl, inr, refl, ap, ◌∙◌, subst, arith, eq-eqb, if◌then◌else◌}
use Rattle.bucket_ids.specs.Buckets.{Low}
use Rattle.cluster_states.specs.declared.cluster_state.ClusterState.{ClusterState}
use Rattle.cluster_states.specs.Publishing.{newest_of as newest_state, serves}
use Rattle.lane_journals.specs.Events.{Content}
use Rattle.lane_journals.specs.Readers.{only_if, published, opened, version}
use Rattle.lane_journals.specs.Legal.{Legal, MayPublish}
use Rattle.lane_journals.specs.States.{state_of}
use Rattle.lane_journals.specs.Meanings.{history}
use Rattle.lane_journals.specs.Places.{Setting, state_in, published_states}
use Rattle.lane_journals.specs.KeptJournals.{IsLegal}
use Rattle.lane_journals.specs.declared.event.LaneEvent.{LaneEvent}
use Rattle.lane_journals.specs.declared.event.LaneEvent.TheVariants as event
use Rattle.lane_journals.proofs.Basics.{or_else-cases, only_if-some}
use Rattle.lane_journals.proofs.Meant.{meant-legal, state-published}
use Rattle.lane_journals.proofs.Versions.{opened-version}
use Rattle.lane_journals.proofs.Replies.{version-below}
use Rattle.lane_rest.specs.Rest.{documents}
use Rattle.upkeep_spans.specs.Spans.{IsUpkeepEvent, AreUpkeep, Nothing, More}

-- ---- the newest state

last-of : (xs : List ClusterState) (x : ClusterState) → slice_get (xs ++ x ∷ []) (length xs) ≡ Some x
last-of [] x = refl
last-of (y ∷ ys) x = last-of ys x

newest-last : (xs : List ClusterState) (s : ClusterState) → newest_state (xs ++ s ∷ []) ≡ Some s
newest-last xs s = ap (λ (k : ℕ). slice_get (xs ++ s ∷ []) k) (ap (λ (k : ℕ). k - 1) (length-append xs (s ∷ [])) ∙ (omega arith)) ∙ last-of xs s

-- the state of the greatest version was published last
pub newest-said : (S : Setting) (J : List LaneEvent) → IsLegal S J → (s : ClusterState) → state_in s.version J ≡ Some s → ((w : ℕ) → published w (history J) ≡ true → w ≤ s.version) → newest_state (published_states J) ≡ Some s
newest-said S [] l s e most = cc
newest-said S (event.Published t ∷ J) l s e most = by_case (or_else-cases (state_in s.version J) _ s e)
  where
    by_case : (state_in s.version J ≡ Some s) ⊎ ((state_in s.version J ≡ None) × (only_if (t.version == s.version) t ≡ Some s)) → newest_state (published_states J ++ t ∷ []) ≡ Some s
    by_case (inl old) =
        let may : MayPublish S.acks (state_of (history (event.Published t ∷ J))) (history J) t.version (serves t) = (l.1).permitted in
        let less : s.version < t.version = may.newest s.version (state-published s.version J s old) in
        let more : t.version ≤ s.version = most t.version (ap (λ (b : Bool). if b then true else published t.version (history J)) (eq-eqb t.version t.version refl)) in
        absurd (omega (arith, less, more))
    by_case (inr new) = subst (λ (x : ClusterState). newest_state (published_states J ++ t ∷ []) ≡ Some x) (only_if-some (t.version == s.version) t s new.1).1 (newest-last (published_states J) t)
newest-said S (event.Heard d v ∷ J) l s e most = newest-said S J l.0 s e most
newest-said S (event.Begun k d v id t ∷ J) l s e most = newest-said S J l.0 s e most
newest-said S (event.Refused k d x ∷ J) l s e most = newest-said S J l.0 s e most
newest-said S (event.Opened d v rows ∷ J) l s e most = newest-said S J l.0 s e most
newest-said S (event.Prepared k b set ∷ J) l s e most = newest-said S J l.0 s e most
newest-said S (event.Wrote k x ∷ J) l s e most = newest-said S J l.0 s e most
newest-said S (event.Sent k v d n b ∷ J) l s e most = newest-said S J l.0 s e most
newest-said S (event.Delivered k r ∷ J) l s e most = newest-said S J l.0 s e most
newest-said S (event.Returned k ∷ J) l s e most = newest-said S J l.0 s e most
newest-said S (event.Closed k x ∷ J) l s e most = newest-said S J l.0 s e most
newest-said S (event.Decided d v x ∷ J) l s e most = newest-said S J l.0 s e most
newest-said S (event.Stopped n ∷ J) l s e most = newest-said S J l.0 s e most
newest-said S (event.Started n ∷ J) l s e most = newest-said S J l.0 s e most

-- ---- the versions of the nodes

equal-from : (a b : ℕ) → a ≤ b → b ≤ a → b ≡ a
equal-from a b h g = omega (arith, h, g)

-- each node that serves under the newest state knows it once it is opened
pub current-once : (S : Setting) (J : List LaneEvent) → IsLegal S J → 1 ≤ S.acks → (s : ClusterState) → ((n : ℕ) → state_of (history J) s.version n ≡ serves s n) → opened s.version (history J) ≡ true
    → ((w : ℕ) → published w (history J) ≡ true → w ≤ s.version) → (n : ℕ) → serves s n ≡ true → version n (history J) ≡ s.version
current-once S J l some s serve is_open most n serving =
    let legal : Legal S.acks (state_of (history J)) (history J) = meant-legal S J l in
    equal-from s.version (version n (history J)) (opened-version S.acks (state_of (history J)) some (history J) legal s.version n is_open (serve n ∙ serving))
    (version-below S.acks (state_of (history J)) (history J) legal s.version most n)

-- ---- documents

-- a pass writes no entries
pub documents-stay : (d v : ℕ) (J K : List LaneEvent) → AreUpkeep d v J K → (b : Low) (held : Content) → documents b held K ≡ documents b held J
documents-stay d v J K Nothing b held = refl
documents-stay d v J K (More L e h more) b held = by_event e h (documents-stay d v J L more b held)
  where
    by_event : (e : LaneEvent) → IsUpkeepEvent d v e → documents b held L ≡ documents b held J → documents b held (e ∷ L) ≡ documents b held J
    by_event (event.Opened f w rows) h ih = ih
    by_event (event.Sent k w f n x) h ih = ih
    by_event (event.Delivered k r) h ih = ih
    by_event (event.Returned k) h ih = ih
    by_event (event.Decided f w x) h ih = ih
    by_event (event.Published t) h ih = absurd h
    by_event (event.Heard f w) h ih = absurd h
    by_event (event.Begun k f w id t) h ih = absurd h
    by_event (event.Refused k f x) h ih = absurd h
    by_event (event.Prepared k x set) h ih = absurd h
    by_event (event.Wrote k x) h ih = absurd h
    by_event (event.Closed k x) h ih = absurd h
    by_event (event.Stopped n) h ih = absurd h
    by_event (event.Started n) h ih = absurd h

-- one upkeep behind another
pub upkeep-then : (d v : ℕ) (I J K : List LaneEvent) → AreUpkeep d v I J → AreUpkeep d v J K → AreUpkeep d v I K
upkeep-then d v I J K a Nothing = a
upkeep-then d v I J K a (More L e h b) = More L e h (upkeep-then d v I J L a b)
