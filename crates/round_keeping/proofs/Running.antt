-- The round under way, over the events of its messages.
use Rattle.std.proofs.Common.{◌≡◌, ◌↔◌, ◌<◌, ◌||◌, ◌&&◌, not, ℕ, zero, suc, Bool, true, false, cond, List, ◌∷◌, Option, Some, None, refl, sym, ap, subst, ◌∙◌, eqb, eq-eqb, arith}
use mathlib.Core.Bool.{true≢false}
use Rattle.bucket_ids.specs.Buckets.{Low}
use Rattle.cluster_states.specs.declared.cluster_state.ClusterState.{ClusterState}
use Rattle.messages.specs.Noting.{noted_reply, message_of}
use Rattle.messages.specs.declared.message.Message.{Message}
use Rattle.messages.specs.declared.body.Body.TheVariants as body
use Rattle.messages.specs.declared.reply.Reply.{Reply}
use Rattle.messages.specs.declared.reply.Reply.TheVariants as reply
use Rattle.messages.specs.declared.noted.NotedReply.{NotedReply}
use Rattle.node_model.specs.Nodes.{Node}
use Rattle.distributor_part.specs.declared.rules.Rules.{Rules}
use Rattle.distributor_part.specs.Parts.{Part}
use Rattle.merge_rounds.specs.Rounds.{RoundState, after_read, IsAfterApply}
use Rattle.lane_journals.specs.Events as plain
use Rattle.lane_journals.specs.Readers as readers
use Rattle.lane_journals.specs.Readers.{first_reply, round_of, or_else, only_if}
use Rattle.lane_journals.specs.Meanings.{history, meaning_reply}
use Rattle.lane_journals.specs.Places.{Setting}
use Rattle.lane_journals.specs.KeptJournals.{IsLegal}
use Rattle.lane_journals.specs.declared.event.LaneEvent.{LaneEvent}
use Rattle.lane_journals.specs.declared.event.LaneEvent.TheVariants as event
use Rattle.lane_carriage.specs.Carriage.{AreDelivered}
use Rattle.lane_keeping.specs.Flights.{meant}
use Rattle.lane_keeping.specs.Replaying.{sending, delivered}
use Rattle.lane_keeping.specs.LaneKeeping.{setting_of, Keeps}
use Rattle.lane_keeping.specs.Asking.{IsTakenBy}
use Rattle.lane_keeping.specs.Laws.{IsNoAsk}
use Rattle.lane_keeping.specs.RoundKeeping.{KnowsRound, IsAwaited, body_of}
use Rattle.round_keeping.proofs.Waiting.{knows-delivered}
use Rattle.round_keeping.specs.RoundRuns.{IsRunning, IsAfterReply, is_refusal, is_read_in, is_apply_in, KnowsRefusals, GoesOn, IsRunToldBy, left}
use Rattle.round_keeping.specs.declared.round_run.RoundRun.{RoundRun}
use Rattle.lane_carriage.proofs.GivenOut.{over-all}
use Rattle.round_keeping.proofs.Refusals.{refusals-delivered, refusals-sent, refusals-returned}

-- ---- what stays of a round

pub round-gone : (r q t : RoundState) → q ≡ t → t ≡ record r { reads = t.reads; applies = t.applies; awaited = t.awaited; shown = t.shown; union = t.union; holders = t.holders }
    → q ≡ record r { reads = q.reads; applies = q.applies; awaited = q.awaited; shown = q.shown; union = q.union; holders = q.holders }
round-gone r q t e h = subst (λ (x : RoundState). x ≡ record r { reads = x.reads; applies = x.applies; awaited = x.awaited; shown = x.shown; union = x.union; holders = x.holders }) (sym e) h

run-gone : (x y t : RoundRun) → y ≡ t → t ≡ record x { round = t.round; unread = t.unread; unapplied = t.unapplied } → y ≡ record x { round = y.round; unread = y.unread; unapplied = y.unapplied }
run-gone x y t e h = subst (λ (z : RoundRun). z ≡ record x { round = z.round; unread = z.unread; unapplied = z.unapplied }) (sym e) h

pub goes-none : (x : RoundRun) → GoesOn x x
goes-none x = record { run_is = refl; round_is = refl }

-- only the round is another
pub goes-round : (x : RoundRun) (q : RoundState) → q ≡ record x.round { reads = q.reads; applies = q.applies; awaited = q.awaited; shown = q.shown; union = q.union; holders = q.holders } → GoesOn x (record x { round = q })
goes-round x q e = record { run_is = refl; round_is = e }

pub goes-on : (x y z : RoundRun) → GoesOn x y → GoesOn y z → GoesOn x z
goes-on x y z a b = record {
  run_is = b.run_is ∙ ap (λ (t : RoundRun). record t { round = z.round; unread = z.unread; unapplied = z.unapplied }) a.run_is;
  round_is = b.round_is ∙ ap (λ (t : RoundState). record t { reads = (z.round).reads; applies = (z.round).applies; awaited = (z.round).awaited; shown = (z.round).shown; union = (z.round).union; holders = (z.round).holders }) a.round_is;
}

-- what the round is told changes only what it knows of answers
pub reply-goes : (r q : RoundState) (n : ℕ) (o : Option Reply) → IsAfterReply r q n o → q ≡ record r { reads = q.reads; applies = q.applies; awaited = q.awaited; shown = q.shown; union = q.union; holders = q.holders }
reply-goes r q n o h = by_count r.applies refl
  where
    by_count : (a : ℕ) → r.applies ≡ a → q ≡ record r { reads = q.reads; applies = q.applies; awaited = q.awaited; shown = q.shown; union = q.union; holders = q.holders }
    by_count zero e = round-gone r q (after_read r n o) (h.read e) refl
    by_count (suc a) e = round-gone r q (record r { awaited = None; holders = q.holders }) (h.applied (omega (arith, e))).rest refl

pub reply-told : (r q : RoundState) (n : ℕ) (o : Option Reply) → IsAfterReply r q n o → q.awaited ≡ None
reply-told r q n o h = by_count r.applies refl
  where
    by_count : (a : ℕ) → r.applies ≡ a → q.awaited ≡ None
    by_count zero e = ap (λ (x : RoundState). x.awaited) (h.read e)
    by_count (suc a) e = ap (λ (x : RoundState). x.awaited) (h.applied (omega (arith, e))).rest

pub reply-left : (r q : RoundState) (n : ℕ) (o : Option Reply) → IsAfterReply r q n o → left q ≡ left r
reply-left r q n o h = by_count r.applies refl
  where
    by_count : (a : ℕ) → r.applies ≡ a → left q ≡ left r
    by_count zero e = ap left (h.read e)
    by_count (suc a) e = ap left (h.applied (omega (arith, e))).rest

pub reply-row : (r q : RoundState) (n : ℕ) (o : Option Reply) → IsAfterReply r q n o → q.row ≡ r.row
reply-row r q n o h = ap (λ (x : RoundState). x.row) (reply-goes r q n o h)

-- ---- the round under way

-- another round, of which the same is known
pub running-as : (lane : Low) (J : List LaneEvent) (x : RoundRun) (q : RoundState) → IsRunning lane J x → q.row ≡ (x.round).row → KnowsRound lane J x.distributor x.state q → IsRunning lane J (record x { round = q })
running-as lane J x q k row w = record {
  acting = k.acting;
  knows = w;
  others = k.others;
  refusals = subst (λ (b : Low). KnowsRefusals (history J) (x.state).version (round_of (x.state).version b (history J)) b x.unread x.unapplied) (sym row) k.refusals;
}

-- a message is delivered, be it late or a second time
pub running-delivered : (S : Setting) (lane : Low) (J : List LaneEvent) → IsLegal S J → (x : RoundRun) → IsRunning lane J x → (n : ℕ) (y : NotedReply) → IsRunning lane (event.Delivered n y ∷ J) x
running-delivered S lane J legal x k n y = record {
  acting = record { holds = (k.acting).holds; published = (k.acting).published; owner = (k.acting).owner };
  knows = knows-delivered S J legal x.state x.round (round_of (x.state).version (x.round).row (history J)) lane x.distributor n y k.knows;
  others = k.others;
  refusals = refusals-delivered S J legal (x.state).version (round_of (x.state).version (x.round).row (history J)) (x.round).row x.unread x.unapplied k.refusals n y;
}

-- one after the other
pub running-all : (S : Setting) (lane : Low) (ns : List ℕ) (J K : List LaneEvent) → AreDelivered ns J K → IsLegal S K → (x : RoundRun) → IsRunning lane J x → IsRunning lane K x
running-all S lane ns J K h l x k = over-all (λ (y : List LaneEvent). IsLegal S y → IsRunning lane y x) (λ n r y f legal. running-delivered S lane y legal.0 x (f legal.0) n r) ns J K h (λ legal. k) l

module _ {lane : Low} {rules : Rules} {J : List LaneEvent} {newest : Option ClusterState} {last : ℕ} {nodes : List Node} {parts : List Part} (keep : Keeps lane rules J newest last nodes parts) (x : RoundRun) (k : IsRunning lane J x) where
  -- the next message of the round is sent
  pub running-sent : (n : ℕ) (m : Message) (q : RoundState) → q.row ≡ (x.round).row → KnowsRound lane (sending n m ∷ J) x.distributor x.state q → IsRunning lane (sending n m ∷ J) (record x { round = q })
  running-sent n m q row w = record {
    acting = record { holds = (k.acting).holds; published = (k.acting).published; owner = (k.acting).owner };
    knows = w;
    others = k.others;
    refusals = subst (λ (b : Low). KnowsRefusals (history (sending n m ∷ J)) (x.state).version (round_of (x.state).version b (history J)) b x.unread x.unapplied) (sym row)
        (refusals-sent (setting_of lane rules) J keep.legal (x.state).version (round_of (x.state).version (x.round).row (history J)) (x.round).row x.unread x.unapplied k.refusals n m.version m.sender m.receiver _);
  }

-- ---- the reply is returned

-- a round's message is no Ask
pub no-ask : (r : RoundState) (m : Message) → m ≡ message_of r.origin m.receiver (body_of r) → IsNoAsk m.body
no-ask r m e = subst IsNoAsk (sym (ap (λ (b : Message). b.body) e)) (by_test (eqb r.applies 0))
  where
    by_test : (t : Bool) → IsNoAsk (cond t (body.Read r.row None) (body.Apply r.row r.union))
    by_test true = tt
    by_test false = tt

means-refusal : (J : List LaneEvent) (w : Reply) → (is_refusal (noted_reply w) ≡ true) ↔ (meaning_reply J (noted_reply w) ≡ plain.NoMemory)
means-refusal J (reply.Answer ps es) = (λ h. absurd (true≢false (sym h)), λ h. cc)
means-refusal J (reply.Newer v) = (λ h. absurd (true≢false (sym h)), λ h. cc)
means-refusal J reply.NoBucket = (λ h. absurd (true≢false (sym h)), λ h. cc)
means-refusal J reply.Differs = (λ h. absurd (true≢false (sym h)), λ h. cc)
means-refusal J reply.NoMemory = (λ h. refl, λ h. refl)

some-of : {A : Type 0} (x y : A) → Some x ≡ Some y → x ≡ y
some-of x y h = cc

-- a flag that is raised by a reply in one phase alone
in-phase : (t c : Bool) (T P : Type 0) → (t ≡ true → T) → (T → t ≡ true) → ((c ≡ true) ↔ P) → ((t && c) ≡ true) ↔ (T × P)
in-phase true c T P into only p = (λ h. (into refl, p.0 h), λ z. p.1 z.1)
in-phase false c T P into only p = (λ h. absurd (true≢false (sym h)), λ z. absurd (true≢false (sym (only z.0))))

module _ {lane : Low} {rules : Rules} {J : List LaneEvent} {newest : Option ClusterState} {last : ℕ} {nodes : List Node} {parts : List Part} (keep : Keeps lane rules J newest last nodes parts)
    (x z : RoundRun) (k : IsRunning lane J x) (number : ℕ) (m : Message) (w : Reply) (now : List Node) (wait : IsAwaited J x.round number m) (taken : IsTakenBy nodes now m w)
    (told : IsRunToldBy x z m.receiver w) where
  abbrev r : RoundState
  r = x.round

  abbrev q : RoundState
  q = z.round

  abbrev noted : NotedReply
  noted = noted_reply w

  abbrev letter : readers.Message
  letter = ((wait.just).flight).sending

  body-by : (t : Bool) → eqb r.applies 0 ≡ t → letter.body ≡ meant (cond t (body.Read r.row None) (body.Apply r.row r.union))
  body-by t e = ((wait.just).flight).body_is ∙ ap (λ (b : Message). meant b.body) wait.is ∙ ap (λ (t : Bool). meant (cond t (body.Read r.row None) (body.Apply r.row r.union))) e

  abbrev K : List LaneEvent
  K = delivered number w ∷ J

  -- what is known of the round then
  pub knows-as : (r.applies ≡ 0 → KnowsRound lane (event.Returned number ∷ K) x.distributor x.state (after_read r m.receiver (Some w)))
      → ((after : RoundState) → 0 < r.applies → IsAfterApply r after m.receiver (Some w) → KnowsRound lane (event.Returned number ∷ K) x.distributor x.state after) → KnowsRound lane (event.Returned number ∷ K) x.distributor x.state q
  knows-as read applied = by_count r.applies refl
    where
      by_count : (a : ℕ) → r.applies ≡ a → KnowsRound lane (event.Returned number ∷ K) x.distributor x.state q
      by_count zero e = subst (λ (y : RoundState). KnowsRound lane (event.Returned number ∷ K) x.distributor x.state y) (sym ((told.told).read e)) (read e)
      by_count (suc a) e = applied q (omega (arith, e)) ((told.told).applied (omega (arith, e)))

  v-is : letter.version ≡ (x.state).version
  v-is = ((wait.just).flight).version_is ∙ ap (λ (b : Message). b.version) wait.is ∙ ap (λ o. o.version) (k.knows).origin_is

  i-is : letter.round ≡ round_of (x.state).version r.row (history J)
  i-is = wait.of_round letter ((wait.just).flight).was_sent ∙ ap (λ (v : ℕ). round_of v r.row (history J)) (ap (λ (b : Message). b.version) wait.is ∙ ap (λ o. o.version) (k.knows).origin_is)

  first-is : first_reply number (history K) ≡ Some (meaning_reply J (noted_reply w))
  first-is = ap (λ (o : Option plain.Reply). or_else o (only_if (eqb number number) (meaning_reply J (noted_reply w)))) (wait.just).unreplied ∙ ap (λ (t : Bool). or_else None (only_if t (meaning_reply J (noted_reply w)))) (eq-eqb number number refl)

  abbrev i : ℕ
  i = round_of (x.state).version r.row (history J)

  read-flag : (t : Bool) → eqb r.applies 0 ≡ t → ((t && is_refusal noted) ≡ true) ↔ (is_read_in (x.state).version r.row i letter × (meaning_reply J (noted_reply w) ≡ plain.NoMemory))
  read-flag t e = in-phase t (is_refusal noted) (is_read_in (x.state).version r.row i letter) (meaning_reply J (noted_reply w) ≡ plain.NoMemory) (into t e) (only t e)
      (means-refusal J w)
    where
      into : (t : Bool) → eqb r.applies 0 ≡ t → t ≡ true → is_read_in (x.state).version r.row i letter
      into true e h = (v-is, i-is, body-by true e)
      into false e h = absurd (true≢false (sym h))

      only : (t : Bool) → eqb r.applies 0 ≡ t → is_read_in (x.state).version r.row i letter → t ≡ true
      only true e h = refl
      only false e h = absurd (no-read (sym (body-by false e) ∙ h.2))
        where
          no-read : {u : _} → plain.Apply r.row u ≡ plain.Read r.row → ⊥
          no-read h = cc

  apply-flag : (t : Bool) → eqb r.applies 0 ≡ t → ((not t && is_refusal noted) ≡ true) ↔ (is_apply_in (x.state).version r.row i letter × (meaning_reply J (noted_reply w) ≡ plain.NoMemory))
  apply-flag t e = in-phase (not t) (is_refusal noted) (is_apply_in (x.state).version r.row i letter) (meaning_reply J (noted_reply w) ≡ plain.NoMemory) (into t e) (only t e)
      (means-refusal J w)
    where
      into : (t : Bool) → eqb r.applies 0 ≡ t → not t ≡ true → is_apply_in (x.state).version r.row i letter
      into true e h = absurd (true≢false (sym h))
      into false e h = (v-is, i-is, (_, body-by false e))

      only : (t : Bool) → eqb r.applies 0 ≡ t → is_apply_in (x.state).version r.row i letter → not t ≡ true
      only true e h = absurd (no-apply (sym (body-by true e) ∙ (h.2).1))
        where
          no-apply : {u : _} → plain.Read r.row ≡ plain.Apply r.row u → ⊥
          no-apply h = cc
      only false e h = refl

  abbrev back : RoundRun
  back = record x { round = q; unread = x.unread || (eqb r.applies 0 && is_refusal noted); unapplied = x.unapplied || (not (eqb r.applies 0) && is_refusal noted) }

  running-back : IsLegal (setting_of lane rules) K → KnowsRound lane (event.Returned number ∷ K) x.distributor x.state q → IsRunning lane (event.Returned number ∷ K) back
  running-back legal w2 = record {
    acting = record { holds = (k.acting).holds; published = (k.acting).published; owner = (k.acting).owner };
    knows = w2;
    others = k.others;
    refusals = subst (λ (b : Low). KnowsRefusals (history (event.Returned number ∷ K)) (x.state).version (round_of (x.state).version b (history J)) b back.unread back.unapplied) (sym (reply-row r q m.receiver (Some w) told.told))
        (refusals-returned (setting_of lane rules) K legal (x.state).version i r.row x.unread x.unapplied
        (refusals-delivered (setting_of lane rules) J keep.legal (x.state).version i r.row x.unread x.unapplied k.refusals number (noted_reply w))
        number letter (meaning_reply J (noted_reply w)) (eqb r.applies 0 && is_refusal noted) (not (eqb r.applies 0) && is_refusal noted) ((wait.just).flight).was_sent first-is (read-flag (eqb r.applies 0) refl) (apply-flag (eqb r.applies 0) refl));
  }

  pub runs-back : IsLegal (setting_of lane rules) K → KnowsRound lane (event.Returned number ∷ K) x.distributor x.state q → IsRunning lane (event.Returned number ∷ K) z
  runs-back legal w2 = subst (λ (y : RoundRun). IsRunning lane (event.Returned number ∷ K) y) (sym told.run_is) (running-back legal w2)

  pub goes-back : GoesOn x z
  goes-back = record { run_is = run-gone x z back told.run_is refl; round_is = reply-goes r q m.receiver (Some w) told.told }
