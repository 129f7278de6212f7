-- What a lane keeps over the events that leave its parts as they are.
use Rattle.std.proofs.Common.{◌≡◌, ◌≢◌, ℕ, ◌+◌, Bool, true, false, List, [], ◌∷◌, cond, Option, Some, None, IsSome, inl, inr, refl, sym, ap, ◌∙◌, subst, arith, eqb, eq-eqb}
use Rattle.std.proofs.lemmas.Bool.{eqb-true}
use Rattle.bucket_ids.specs.Buckets.{Low}
use Rattle.cluster_states.specs.declared.cluster_state.ClusterState.{ClusterState}
use Rattle.messages.specs.declared.message.Message.{Message}
use Rattle.messages.specs.declared.body.Body.{Body}
use Rattle.messages.specs.declared.body.Body.TheVariants as body
use Rattle.messages.specs.declared.reply.Reply.{Reply}
use Rattle.messages.specs.declared.outcome.Outcome.{Outcome}
use Rattle.messages.specs.declared.outcome.Outcome.TheVariants.{Acked}
use Rattle.messages.specs.declared.decision.Decision.{Decision}
use Rattle.messages.specs.declared.decision.Decision.TheVariants as choice
use Rattle.messages.specs.Noting.{noted_reply}
use Rattle.node_model.specs.Nodes.{Node}
use Rattle.distributor_part.specs.declared.rules.Rules.{Rules}
use Rattle.distributor_part.specs.Parts.{Part}
use Rattle.lane_journals.specs.Events as plain
use Rattle.lane_journals.specs.Readers as readers
use Rattle.lane_journals.specs.Readers.{Given, or_else, only_if, sent, first_reply, returned, stopped, published, held, asked, asked_of, is_ask, given_by, opened}
use Rattle.lane_journals.specs.RowLists.{row_with, rows}
use Rattle.lane_journals.specs.Meanings.{history, meaning, entry_at, meaning_reply, is_acked}
use Rattle.lane_journals.specs.Places.{Setting, state_in}
use Rattle.lane_journals.specs.KeptJournals.{IsLegal, IsLegalStep}
use Rattle.lane_journals.specs.declared.event.LaneEvent.{LaneEvent}
use Rattle.lane_journals.specs.declared.event.LaneEvent.TheVariants as event
use Rattle.lane_journals.proofs.Basics.{or_else-cases, only_if-some, sent-stays, first_reply-stays}
use Rattle.lane_keeping.specs.NodeKeeping.{NodeKeeps}
use Rattle.lane_keeping.specs.Flights.{IsInFlight, Brings, IsWhole, meant}
use Rattle.lane_keeping.specs.Replaying.{IsNoDelivery, IsTaken, OfTaken, sending, delivered}
use Rattle.lane_keeping.specs.LaneKeeping.{setting_of, AreNumbered, IsNewest, IsPartOf, node_in, PartsKeep, part_in, Keeps}
use Rattle.lane_keeping.specs.Asking.{IsJustSent, IsTakenBy}
use Rattle.lane_keeping.specs.Laws.{IsQuietEvent, IsNoAsk, IsKeptNext, IsSentNext}
use Rattle.lane_keeping.proofs.Pushes.{keeps-sent, keeps-delivered}
use Rattle.lane_keeping.proofs.Openings.{or_none, some-of}

-- ---- a number that no message has

pub replied-sent : (S : Setting) (J : List LaneEvent) (k : ℕ) (r : plain.Reply) → IsLegal S J → first_reply k (history J) ≡ Some r → (m : readers.Message) × (sent k (history J) ≡ Some m)
replied-sent S [] k r l h = cc
replied-sent S (e ∷ J) k r l h = by_event e l.1 h (replied-sent S J k r l.0)
  where
    stays : (e : LaneEvent) → (m : readers.Message) × (sent k (history J) ≡ Some m) → (m : readers.Message) × (sent k (history (e ∷ J)) ≡ Some m)
    stays e x = (x.0, sent-stays k (history J) x.0 (meaning J e) x.1)

    by_event : (e : LaneEvent) → IsLegalStep S J e → first_reply k (history (e ∷ J)) ≡ Some r → (first_reply k (history J) ≡ Some r → (m : readers.Message) × (sent k (history J) ≡ Some m)) → (m : readers.Message) × (sent k (history (e ∷ J)) ≡ Some m)
    by_event (event.Delivered n w) p h ih = elim (or_else-cases (first_reply k (history J)) _ r h) [
      | inl old ↦ stays (event.Delivered n w) (ih old)
      | inr new ↦ (let same = eqb-true n k (only_if-some (eqb n k) _ r new.1).0 in ((p.permitted).message, ap (λ (x : ℕ). sent x (history J)) (sym same) ∙ (p.permitted).was_sent))
    ]
    by_event e p h ih = stays e (ih h)

-- a reply that was returned is there
pub returned-replied : (S : Setting) (J : List LaneEvent) (k : ℕ) → IsLegal S J → returned k (history J) ≡ true → (r : plain.Reply) × (first_reply k (history J) ≡ Some r)
returned-replied S [] k l h = cc
returned-replied S (e ∷ J) k l h = by_event e l.1 h (returned-replied S J k l.0)
  where
    stays : (e : LaneEvent) → (r : plain.Reply) × (first_reply k (history J) ≡ Some r) → (r : plain.Reply) × (first_reply k (history (e ∷ J)) ≡ Some r)
    stays e x = (x.0, first_reply-stays k (history J) x.0 (meaning J e) x.1)

    by_event : (e : LaneEvent) → IsLegalStep S J e → returned k (history (e ∷ J)) ≡ true → (returned k (history J) ≡ true → (r : plain.Reply) × (first_reply k (history J) ≡ Some r)) → (r : plain.Reply) × (first_reply k (history (e ∷ J)) ≡ Some r)
    by_event (event.Returned n) p h ih = by_test (eqb n k) refl h
      where
        by_test : (t : Bool) → eqb n k ≡ t → cond t true (returned k (history J)) ≡ true → (r : plain.Reply) × (first_reply k (history (event.Returned n ∷ J)) ≡ Some r)
        by_test true e h = stays (event.Returned n) ((p.permitted).reply, ap (λ (x : ℕ). first_reply x (history J)) (sym (eqb-true n k e)) ∙ (p.permitted).replied)
        by_test false e h = stays (event.Returned n) (ih h)
    by_event e p h ih = stays e (ih h)

pub unreplied-fresh : (S : Setting) (J : List LaneEvent) (k : ℕ) → IsLegal S J → ((m : readers.Message) → sent k (history J) ≡ Some m → ⊥) → first_reply k (history J) ≡ None
unreplied-fresh S J k l none = by_reply (first_reply k (history J)) refl
  where
    by_reply : (o : Option plain.Reply) → first_reply k (history J) ≡ o → first_reply k (history J) ≡ None
    by_reply None e = e
    by_reply (Some r) e = let x = replied-sent S J k r l e in absurd (none x.0 x.1)

pub unreturned-fresh : (S : Setting) (J : List LaneEvent) (k : ℕ) → IsLegal S J → ((m : readers.Message) → sent k (history J) ≡ Some m → ⊥) → returned k (history J) ≡ false
unreturned-fresh S J k l none = by_test (returned k (history J)) refl
  where
    by_test : (t : Bool) → returned k (history J) ≡ t → returned k (history J) ≡ false
    by_test true e = let r = returned-replied S J k l e in let x = replied-sent S J k r.0 l r.1 in absurd (none x.0 x.1)
    by_test false e = e

-- ---- the return of a reply to a message that is no Ask

no_ask : (b : Body) → IsNoAsk b → is_ask (meant b) ≡ false
no_ask body.Ask h = absurd h
no_ask (body.Read b None) h = refl
no_ask (body.Read b (Some id)) h = refl
no_ask (body.Store e) h = refl
no_ask (body.Apply b m) h = refl
no_ask (body.Delete b s) h = refl
no_ask (body.Split b) h = refl
no_ask (body.Join b) h = refl
no_ask (body.Ready b) h = refl
no_ask (body.Activate b) h = refl

asked-same : (H : readers.Journal) (k : ℕ) (x : readers.Message) → sent k H ≡ Some x → is_ask x.body ≡ false → (v n : ℕ) → asked v n (plain.Returned k ∷ H) ≡ asked v n H
asked-same H k x was other v n =
    ap (λ (o : Option readers.Message). or_else (asked v n H) (asked_of v n o (first_reply k H))) was ∙ ap (λ (o : Option Given). or_else (asked v n H) o) (nothing (first_reply k H)) ∙ or_none (asked v n H)
  where
    nothing : (y : Option plain.Reply) → asked_of v n (Some x) y ≡ None
    nothing None = refl
    nothing (Some y) = ap (λ (t : Bool). cond t (cond (eqb x.version v) (cond (eqb x.receiver n) (given_by y) None) None) None) other

-- ---- the lane

module _ (lane : Low) (rules : Rules) (J : List LaneEvent) (newest : Option ClusterState) (last : ℕ) (nodes : List Node) (parts : List Part) (keep : Keeps lane rules J newest last nodes parts) where
  abbrev S : Setting
  S = setting_of lane rules

  module _ (waits : (J : List LaneEvent) (e : LaneEvent) (n : ℕ) (x : Node) → IsNoDelivery e → NodeKeeps J n x → NodeKeeps (e ∷ J) n x) where
    next : (e : LaneEvent) → IsLegalStep S J e → IsNoDelivery e → IsNewest (λ v. state_in v (e ∷ J)) (λ v. published v (history (e ∷ J))) newest → AreNumbered (λ k. sent k (history (e ∷ J))) last
        → PartsKeep lane rules (e ∷ J) parts → Keeps lane rules (e ∷ J) newest last nodes parts
    next e step none newest_is numbered parts_are = record {
      legal = (keep.legal, step);
      newest_is = newest_is;
      numbered = numbered;
      nodes_are = λ n. waits J e n (node_in nodes n) none (keep.nodes_are n);
      parts_are = parts_are;
    }

    by_outcome : (line : ℕ) (o : Outcome) → is_acked o ≡ false → IsLegalStep S J (event.Closed line o) → Keeps lane rules (event.Closed line o ∷ J) newest last nodes parts
    by_outcome line (Acked t) q step = cc
    by_outcome line o q step = next (event.Closed line o) step tt keep.newest_is keep.numbered keep.parts_are

    by_decision : (d v : ℕ) (x : Decision) → IsQuietEvent (event.Decided d v x) → IsLegalStep S J (event.Decided d v x) → Keeps lane rules (event.Decided d v x ∷ J) newest last nodes parts
    by_decision d v (choice.RoundBegun b set) q step = next (event.Decided d v (choice.RoundBegun b set)) step tt keep.newest_is keep.numbered keep.parts_are
    by_decision d v x q step = absurd q

    -- an event that leaves nodes and parts as they are
    pub keeps-quiet : (e : LaneEvent) → IsQuietEvent e → IsLegalStep S J e → Keeps lane rules (e ∷ J) newest last nodes parts
    keeps-quiet (event.Begun l d v id s) q step = next (event.Begun l d v id s) step tt keep.newest_is keep.numbered keep.parts_are
    keeps-quiet (event.Refused l d o) q step = next (event.Refused l d o) step tt keep.newest_is keep.numbered keep.parts_are
    keeps-quiet (event.Prepared l b set) q step = next (event.Prepared l b set) step tt keep.newest_is keep.numbered keep.parts_are
    keeps-quiet (event.Wrote l entry) q step = next (event.Wrote l entry) step tt keep.newest_is keep.numbered keep.parts_are
    keeps-quiet (event.Closed l o) q step = by_outcome l o q step
    keeps-quiet (event.Decided d v x) q step = by_decision d v x q step
    keeps-quiet (event.Stopped n) q step = next (event.Stopped n) step tt keep.newest_is keep.numbered keep.parts_are
    keeps-quiet (event.Started n) q step = next (event.Started n) step tt keep.newest_is keep.numbered keep.parts_are
    keeps-quiet e q step = absurd q

  -- a message is sent
  pub keeps-going : (fly : (S : Setting) (J : List LaneEvent) (number : ℕ) (m : Message) → IsLegalStep S J (sending number m) → Brings (λ s. entry_at s J) m.body → IsWhole m.body → IsInFlight (sending number m ∷ J) number m)
      (m : Message) → IsLegalStep S J (sending (last + 1) m) → Brings (λ s. entry_at s J) m.body → IsWhole m.body → IsSentNext lane rules J newest last nodes parts m
  keeps-going fly m step brings whole = record {
    legal = step;
    keeps = keeps-sent lane rules J newest last nodes parts m keep step;
    just = record {
      flight = fly S J (last + 1) m step brings whole;
      unreplied = unreplied-fresh S J (last + 1) keep.legal none;
      unreturned = unreturned-fresh S J (last + 1) keep.legal none;
    };
  }
    where
      none : (x : readers.Message) → sent (last + 1) (history J) ≡ Some x → ⊥
      none x h = let le = keep.numbered (last + 1) x h in omega (arith, le)

  -- a message is delivered
  pub keeps-taken : (permitted : OfTaken (λ S J number m y r. IsLegalStep S J (delivered number r))) (replays : OfTaken (λ S J number m y r. NodeKeeps (delivered number r ∷ J) m.receiver y))
      (apart : (J : List LaneEvent) (number : ℕ) (r : _) (m : Message) (n : ℕ) (x : Node) → IsInFlight J number m → m.receiver ≢ n → NodeKeeps J n x → NodeKeeps (event.Delivered number r ∷ J) n x)
      (number : ℕ) (m : Message) (r : Reply) (now : List Node) → IsInFlight J number m → stopped m.receiver (history J) ≡ false → IsTakenBy nodes now m r → Keeps lane rules (delivered number r ∷ J) newest last now parts
  keeps-taken permitted replays apart number m r now flight runs taken = keeps-delivered lane rules J newest last nodes now parts number m.receiver r (node_in now m.receiver) keep
      (permitted S J number m (node_in nodes m.receiver) (node_in now m.receiver) r is-taken) (replays S J number m (node_in nodes m.receiver) (node_in now m.receiver) r is-taken)
      (λ n x ne h. apart J number (noted_reply r) m n x flight ne h) refl taken.others
    where
      is-taken : IsTaken S J number m (node_in nodes m.receiver) (node_in now m.receiver) r
      is-taken = record { legal = keep.legal; flight = flight; runs = runs; keeps = keep.nodes_are m.receiver; takes = taken.takes }

  -- a reply that says nothing of an opening is returned
  pub returned-next : (number : ℕ) (m : Message) → IsInFlight J number m → IsNoAsk m.body → IsSome (first_reply number (history J)) → returned number (history J) ≡ false → IsKeptNext lane rules J newest last nodes parts (event.Returned number)
  returned-next number m flight other there once = record {
    legal = step;
    keeps = record {
      legal = (keep.legal, step);
      newest_is = keep.newest_is;
      numbered = keep.numbered;
      nodes_are = keep.nodes_are;
      parts_are = λ d. subst (λ (f : ℕ → ℕ → Option Given). IsPartOf lane rules d (held d (history J)) (λ v. state_in v J) f (λ v. opened v (history J)) (λ v key. row_with key (rows v (history J))) (part_in lane rules parts d))
          (λ i v n. sym (asked-same (history J) number flight.sending flight.was_sent (ap is_ask flight.body_is ∙ no_ask m.body other) v n) i) (keep.parts_are d);
    };
  }
    where
      step : IsLegalStep S J (event.Returned number)
      step = let y = some-of (first_reply number (history J)) there in record { noted = tt; permitted = record { once = once; reply = y.0; replied = y.1 }; placed = tt; ended = tt }

-- a message is delivered and its reply returned
pub keeps-answered : (lane : Low) (rules : Rules) (J : List LaneEvent) (newest : Option ClusterState) (last : ℕ) (nodes : List Node) (parts : List Part) (number : ℕ) (m : Message) (r : Reply) (now : List Node)
    → Keeps lane rules (delivered number r ∷ J) newest last now parts → IsInFlight (delivered number r ∷ J) number m → IsJustSent J number m → IsNoAsk m.body → Keeps lane rules (event.Returned number ∷ delivered number r ∷ J) newest last now parts
keeps-answered lane rules J newest last nodes parts number m r now keep flight just other =
    (returned-next lane rules (delivered number r ∷ J) newest last now parts keep number m flight other there just.unreturned).keeps
  where
    there : IsSome (first_reply number (history (delivered number r ∷ J)))
    there = subst IsSome (sym (ap (λ (o : Option plain.Reply). or_else o (only_if (eqb number number) (meaning_reply J (noted_reply r)))) just.unreplied ∙ ap (λ (t : Bool). only_if t (meaning_reply J (noted_reply r))) (eq-eqb number number refl))) refl
