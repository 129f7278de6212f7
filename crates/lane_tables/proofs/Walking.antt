-- Walks over a journal, whose oldest event stands first.
use Rattle.std.proofs.Common.{◌≡◌, ◌+◌, ◌<◌, ◌≤◌, ℕ, suc, List, [], ◌∷◌, ◌++◌, length, take, slice_index_or, None, IsSome, Result, Ok, Err, OnOk, refl, sym, ap, ◌∙◌, subst, arith}
use Rattle.std.proofs.Math.Seq.{take-suc}
use Rattle.std.proofs.lemmas.List.{reverse-append, take_all}
use Rattle.cluster_states.specs.declared.cluster_state.ClusterState.{ClusterState}
use Rattle.bucket_ids.specs.Buckets.{Low}
use Rattle.distributor_part.specs.declared.rules.Rules.{Rules}
use Rattle.cluster_states.specs.Publishing.{Told, publish_fault}
use Rattle.lane_journals.specs.Places.{published_states, told}
use Rattle.lane_keeping.specs.LaneKeeping.{setting_of}
use Rattle.lane_journals.specs.KeptJournals.{past}
use Rattle.lane_journals.specs.Meanings.{history}
use Rattle.lane_keeping.specs.Lines.{IsFresh}
use Rattle.lane_journals.specs.declared.event.LaneEvent.{LaneEvent}
use Rattle.lane_journals.specs.declared.event.LaneEvent.TheVariants as event
use Rattle.lane_keeping.specs.Tidings.{last_state}

past-push : (events : List LaneEvent) (e : LaneEvent) → past (events ++ e ∷ []) ≡ e ∷ past events
unfolding past
past-push events e = reverse-append events (e ∷ [])

-- with one event more
pub past-more : (events : List LaneEvent) (i : ℕ) (e : LaneEvent) → i < length events → e ≡ slice_index_or events i e → past (take (i + 1) events) ≡ e ∷ past (take i events)
past-more events i e lt is =
    let suc-next : i + 1 ≡ suc i = omega arith in
    let taken : take (i + 1) events ≡ take i events ++ slice_index_or events i e ∷ [] = ap (λ (n : ℕ). take n events) suc-next ∙ take-suc events i e lt in
    ap past (taken ∙ ap (λ (f : LaneEvent). take i events ++ f ∷ []) (sym is)) ∙ past-push (take i events) e

-- behind the last
pub past-all : (events : List LaneEvent) (i : ℕ) → length events ≤ i → past (take i events) ≡ past events
past-all events i le = ap past (take_all i events le)

-- nothing happened in front of the first
pub none-past : (events : List LaneEvent) → past (take 0 events) ≡ []
unfolding past
none-past events = refl

pub fresh-none : (line : ℕ) → IsFresh (history []) line
fresh-none line = record { unbegun = refl; unrefused = refl; unprepared = refl; unwritten = refl; unclosed = refl }

pub none-published : (events : List LaneEvent) → [] ≡ published_states (past (take 0 events))
none-published events = ap published_states (sym (none-past events))

pub told-same : (told : Told) (acks : ℕ) (states : List ClusterState) → told.acks ≡ acks → told.states ≡ states → told ≡ record { acks = acks; states = states }
told-same told acks states a s = rw (sym a) rw (sym s) refl

abbrev told_of : ℕ → List ClusterState → Told
told_of acks states = record { acks = acks; states = states }

-- the states of the lane accept what they accept that were told of its events
pub accepted-by : {A E : Type 0} (r : Result A E) (x : Told) (lane : Low) (rules : Rules) (acks : ℕ) (events J : List LaneEvent) (state : ClusterState) → x ≡ told_of acks (published_states (past events)) → past events ≡ J → acks ≡ rules.acks
    → OnOk r (publish_fault x state ≡ None) → OnOk r (publish_fault (told (setting_of lane rules) J) state ≡ None)
accepted-by (Ok v) x lane rules acks events J state is all same h =
    subst (λ (t : Told). publish_fault t state ≡ None) (is ∙ ap (λ (K : List LaneEvent). told_of acks (published_states K)) all ∙ ap (λ (a : ℕ). told_of a (published_states J)) same) h
accepted-by (Err e) x lane rules acks events J state is all same h = tt

-- a state that is published was; and it stays so
pub published-here : (e : LaneEvent) (s : ClusterState) (J : List LaneEvent) → e ≡ event.Published s → IsSome (last_state (e ∷ J))
published-here e s J is = subst (λ (f : LaneEvent). IsSome (last_state (f ∷ J))) (sym is) refl

pub published-stays : (e : LaneEvent) (J : List LaneEvent) → IsSome (last_state J) → IsSome (last_state (e ∷ J))
published-stays (event.Published s) J h = refl
published-stays _ J h = h
