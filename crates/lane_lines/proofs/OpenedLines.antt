-- A line for which the state is opened: what the opening came to.
use Rattle.std.proofs.Common.{◌≡◌, ◌↔◌, ℕ, Bool, true, false, List, ◌∷◌, Option, Some, None, IsSome, inl, refl, sym, subst, ap, ◌∙◌}
use Rattle.std.proofs.lemmas.Bool.{eqb-true}
use Rattle.bucket_ids.specs.Buckets.{Low, IsIn}
use Rattle.node_sets.specs.Members.{has_node}
use Rattle.node_sets.proofs.Bits.{has_none}
use Rattle.stamps.specs.declared.stamp.Stamp.{Stamp}
use Rattle.cluster_states.specs.declared.cluster_state.ClusterState.{ClusterState}
use Rattle.cluster_states.specs.Publishing.{serves}
use Rattle.global_ids.proofs.KeyLaws.{key_small}
use Rattle.ideal_nodes.specs.Placement.{IsOwner}
use Rattle.messages.specs.declared.operation.Operation.{Operation}
use Rattle.messages.specs.declared.outcome.Outcome.TheVariants.{NoMemory}
use Rattle.distributor_part.specs.declared.rules.Rules.{Rules}
use Rattle.distributor_part.specs.Parts.{Part}
use Rattle.lane_journals.specs.Buckets.{Id, contains, key_of}
use Rattle.lane_journals.specs.Facts.{AnsweredAsk, Idle}
use Rattle.lane_journals.proofs.Basics.{sent-stays}
use Rattle.lane_journals.proofs.Meant.{meant-legal}
use Rattle.lane_journals.proofs.Rows.{was-prepared}
use mathlib.Core.Bool.{true≢false}
use Rattle.lane_journals.specs.Readers.{Journal, Beginning, opened}
use Rattle.lane_journals.specs.Places.{Setting}
use Rattle.lane_journals.specs.States.{state_of}
use Rattle.lane_journals.specs.Meanings.{history, meaning}
use Rattle.lane_journals.specs.KeptJournals.{IsLegal, IsLegalStep}
use Rattle.lane_journals.specs.declared.event.LaneEvent.{LaneEvent}
use Rattle.lane_journals.specs.declared.event.LaneEvent.TheVariants.{Sent, Delivered, Returned, Opened, Closed}
use Rattle.lane_keeping.specs.LaneKeeping.{PartKeeps, setting_of}
use Rattle.operation_keeping.specs.Wants.{IsRunSince, IsEndSince}
use Rattle.lane_states.specs.declared.lane_state.LaneState.{LaneState}
use Rattle.lane_rounds.specs.declared.opening.OpeningEnd.{OpeningEnd}
use Rattle.lane_lines.specs.declared.readying.Shortage.{Shortage}
use Rattle.lane_states.specs.LaneStates.{journal_of, part_of, IsResting}
use Rattle.lane_rounds.specs.Openings as openings
use Rattle.lane_rounds.specs.Openings.{IsOpening, OpensAfter, LacksAfter, StopsAfter, EndsBy, EndsOpening, StopsOpening, GivesUp}
use Rattle.lane_lines.specs.OpeningRuns.{KnowsAsking, opening_shortage}
use Rattle.lane_lines.specs.Readying.{IsToPrepare, BeganNoRound, HasSent, GoesOnWith, IsCutOffWith, EndsShort, IsOpenedFor, outcome_of, search_from}
use Rattle.lane_lines.specs.Steps.{IsUneventful}
use Rattle.proof_basics.proofs.Options.{some_same as some-same}
use Rattle.lane_lines.proofs.OpeningAsks.{asks-none, asks-all}
use Rattle.lane_lines.proofs.OpeningEnds.{runs-opened, prepare-opened, is-opened, short-wanted, short-legal}
use Rattle.lane_carriage.proofs.Staying.{IsOfMessage}
use Rattle.lane_rounds.proofs.Staying.{stays-ended}

-- ---- what stays over each event of an opening

pub quiet-stays : (J : List LaneEvent) (e : LaneEvent) (K : List LaneEvent) → IsOfMessage e → IsUneventful J K → IsUneventful J (e ∷ K)
quiet-stays J (Sent n v from to x) K i q = record { newest = q.newest; counted = q.counted; rounds = q.rounds }
quiet-stays J (Delivered n r) K i q = record { newest = q.newest; counted = q.counted; rounds = q.rounds }
quiet-stays J (Returned n) K i q = record { newest = q.newest; counted = q.counted; rounds = q.rounds }
quiet-stays J _ K i q = absurd i

pub quiet-opened : (J : List LaneEvent) (d v : ℕ) (buckets : List Low) (K : List LaneEvent) → IsUneventful J K → IsUneventful J (Opened d v buckets ∷ K)
quiet-opened J d v buckets K q = record { newest = q.newest; counted = q.counted; rounds = q.rounds }

pub quiet-none : (J : List LaneEvent) → IsUneventful J J
quiet-none J = record { newest = refl; counted = λ v. refl; rounds = λ v b. refl }

no-round-stays : (from : Journal) (v : ℕ) (e : LaneEvent) (K : List LaneEvent) → IsOfMessage e → BeganNoRound K from v → BeganNoRound (e ∷ K) from v
no-round-stays from v (Sent n w x to body) K i h = h
no-round-stays from v (Delivered n r) K i h = h
no-round-stays from v (Returned n) K i h = h
no-round-stays from v _ K i h = absurd i

no-round-opened : (from : Journal) (v : ℕ) (d w : ℕ) (buckets : List Low) (K : List LaneEvent) → BeganNoRound K from v → BeganNoRound (Opened d w buckets ∷ K) from v
no-round-opened from v d w buckets K h = h

-- what was sent is, and no operation of the version is prepared
sent-stays-in : (from : Journal) (e : LaneEvent) (K : List LaneEvent) → HasSent from K → HasSent from (e ∷ K)
sent-stays-in from e K h = λ k m s. sent-stays k (history K) m (meaning K e) (h k m s)

abbrev IsIdleAt : ℕ → List LaneEvent → Type 0
IsIdleAt v K = (b : Low) → Idle v b (history K)

idle-stays : (v : ℕ) (e : LaneEvent) (K : List LaneEvent) → IsOfMessage e → IsIdleAt v K → IsIdleAt v (e ∷ K)
idle-stays v (Sent n w x to body) K i h = λ b line begin p o is. h b line begin p (record { began = o.began; version = o.version; prepared = o.prepared; unclosed = o.unclosed }) is
idle-stays v (Delivered n r) K i h = λ b line begin p o is. h b line begin p (record { began = o.began; version = o.version; prepared = o.prepared; unclosed = o.unclosed }) is
idle-stays v (Returned n) K i h = λ b line begin p o is. h b line begin p (record { began = o.began; version = o.version; prepared = o.prepared; unclosed = o.unclosed }) is
idle-stays v _ K i h = absurd i

idle-opened : (v d w : ℕ) (buckets : List Low) (K : List LaneEvent) → IsIdleAt v K → IsIdleAt v (Opened d w buckets ∷ K)
idle-opened v d w buckets K h = λ b line begin p o is. h b line begin p (record { began = o.began; version = o.version; prepared = o.prepared; unclosed = o.unclosed }) is

-- under a state that isn't opened none is prepared
pub idle-unopened : (S : Setting) (J : List LaneEvent) (v : ℕ) → IsLegal S J → opened v (history J) ≡ false → IsIdleAt v J
idle-unopened S J v legal closed b line begin p o is =
    let w = was-prepared S.acks (state_of (history J)) (history J) (meant-legal S J legal) line p o.prepared in
    let same : w.begin ≡ begin = some-same w.begin begin (sym w.begun ∙ o.began) in
    let is_open : opened v (history J) ≡ true = subst (λ (z : ℕ). opened z (history J) ≡ true) (ap (λ (z : Beginning). z.version) same ∙ o.version) w.opened in
    true≢false (sym is_open ∙ closed)

-- ---- the part before it

-- the key of a document of the lane
pub key-inside : (lane : Low) (id : Id) → contains lane (key_of id) ≡ true → IsIn lane (key_of id)
unfolding contains key_of
key-inside lane id h = (key_small id, eqb-true _ lane.low h)

pub opening-of : (lane : Low) (rules : Rules) (J : List LaneEvent) (d : ℕ) (p : Part) (s : ClusterState) → PartKeeps lane rules J d p → IsOwner lane s d → p.state ≡ Some s → p.rows ≡ None → IsResting p → IsOpening p
opening-of lane rules J d p s k own heard unopened rests = record {
  owns = record {
    state = s;
    heard = heard;
    owner = subst (λ (l : Low). IsOwner l s p.number) (sym k.lane_is) (subst (λ (n : ℕ). IsOwner lane s n) (sym k.number_is) own);
  };
  unopened = unopened;
  told = rests.told;
  no_round = rests.no_round;
}

-- ---- what it came to

module _ (c : LaneState) (d line : ℕ) (o : Operation) (s : ClusterState) (stamp : Option Stamp) (rests : IsResting (part_of c d)) (heard : (part_of c d).state ≡ Some s)
    (still : IsToPrepare c.lane (journal_of c) line o d s stamp) (K : List LaneEvent) (legal : IsLegal (setting_of c.lane c.rules) K) where
  abbrev Knows : List LaneEvent → Part → Bool → Type 0
  Knows L q short = KnowsAsking c.lane c.rules (journal_of c) line o d s stamp L q short

  before-legal : (L : List LaneEvent) (e : LaneEvent) → K ≡ e ∷ L → IsLegal (setting_of c.lane c.rules) L
  before-legal L e grows = (subst (λ (X : List LaneEvent). IsLegal (setting_of c.lane c.rules) X) grows legal).0

  knows : (L : List LaneEvent) (q : Part) (short : Bool) → openings.IsAsked c.lane c.rules d (journal_of c) (part_of c d) L q short → IsLegal (setting_of c.lane c.rules) L → Knows L q short
  knows L q short asked l = asks-all c.lane c.rules (journal_of c) line o d s stamp (part_of c d) L q short asked l
      (asks-none c.lane c.rules (journal_of c) line o d s stamp (part_of c d) (λ n. ap (λ (z : ℕ). has_node z n) rests.unasked ∙ has_none n) still heard)

  -- the run of the line, and that it is still to be prepared
  abbrev pub Goes : Type 0
  Goes = IsRunSince c.lane c.rules line o (search_from c) (journal_of c) K × IsToPrepare c.lane K line o d s stamp

  module _ (short : Bool) (q : Part) where
    opened-knows : (x : OpensAfter c d short K q) → Knows x.before x.part short
    opened-knows x = knows x.before x.part short x.asked (before-legal x.before _ x.grows)

    goes-opened : OpensAfter c d short K q → Goes
    goes-opened x = (
      subst (λ (X : List LaneEvent). IsRunSince c.lane c.rules line o (search_from c) (journal_of c) X) (sym x.grows) (runs-opened c.lane c.rules (journal_of c) line o d s stamp x.before x.part short (opened-knows x) x.keeps q x.buckets x.opens),
      subst (λ (X : List LaneEvent). IsToPrepare c.lane X line o d s stamp) (sym x.grows) (prepare-opened c.lane c.rules (journal_of c) line o d s stamp x.before x.part short (opened-knows x) x.keeps q x.buckets x.opens),
    )

    opened-now : (x : OpensAfter c d short K q) → opened s.version (history K) ≡ true
    opened-now x = subst (λ (X : List LaneEvent). opened s.version (history X) ≡ true) (sym x.grows) (is-opened c.lane c.rules (journal_of c) line o d s stamp x.before x.part short (opened-knows x) x.keeps q x.buckets x.opens)

    lacking-knows : (missing : ℕ) (x : LacksAfter c d missing short K q) → Knows K x.part short
    lacking-knows missing x = knows K x.part short x.asked legal

    goes-lacking : (missing : ℕ) → LacksAfter c d missing short K q → Goes
    goes-lacking missing x = let k = lacking-knows missing x in (k.run, k.still)

    pub goes-ended : (missing : Option ℕ) → EndsBy c d missing short K q → Goes
    goes-ended None x = goes-opened x
    goes-ended (Some missing) x = goes-lacking missing x

    -- nobody is left to ask: the line wants to end
    module _ (missing : ℕ) (x : LacksAfter c d missing short K q) where
      pub lacking-wanted : IsEndSince c.lane c.rules line o (search_from c) K (outcome_of (opening_shortage (serves s) q.answered missing short))
      lacking-wanted = subst (λ (n : ℕ). IsEndSince c.lane c.rules line o (search_from c) K (outcome_of (opening_shortage (serves s) n missing short))) (sym (ap (λ (y : Part). y.answered) x.after))
          (short-wanted c.lane c.rules (journal_of c) line o d s stamp K x.part short (lacking-knows missing x) x.keeps missing x.lacks)

      -- and may
      pub lacking-legal : ((n : ℕ) → (has_node q.answered n ≡ true) ↔ AnsweredAsk s.version n (history K)) → (all : ℕ) → ((n : ℕ) → has_node all n ≡ serves s n) → IsLegalStep (setting_of c.lane c.rules) K (Closed line NoMemory)
          → IsLegalStep (setting_of c.lane c.rules) K (Closed line (outcome_of (opening_shortage (serves s) q.answered missing short)))
      lacking-legal told all all_serve quits = subst (λ (n : ℕ). IsLegalStep (setting_of c.lane c.rules) K (Closed line (outcome_of (opening_shortage (serves s) n missing short)))) (sym same)
          (short-legal c.lane c.rules (journal_of c) line o d s stamp K x.part short (lacking-knows missing x) x.keeps missing x.lacks legal
          (λ n. subst (λ (z : ℕ). (has_node z n ≡ true) ↔ AnsweredAsk s.version n (history K)) same (told n)) all all_serve quits)
        where
          same : q.answered ≡ (x.part).answered
          same = ap (λ (y : Part). y.answered) x.after

  -- memory was wanted
  pub goes-stopped : (q : Part) → StopsAfter c d K q → Goes
  goes-stopped q x = let k = knows K x.part x.short x.asked legal in (k.run, k.still)

-- ---- in the lane

module _ (c e : LaneState) (d line : ℕ) (o : Operation) (s : ClusterState) (stamp : Option Stamp) (rests : IsResting (part_of c d)) (heard : (part_of c d).state ≡ Some s)
    (still : IsToPrepare c.lane (journal_of c) line o d s stamp) (lane : e.lane ≡ c.lane) (rules : e.rules ≡ c.rules) (before : IsLegal (setting_of c.lane c.rules) (journal_of c)) (legal : IsLegal (setting_of e.lane e.rules) (journal_of e)) where
  at-first : IsLegal (setting_of c.lane c.rules) (journal_of e)
  at-first = subst (λ (r : Rules). IsLegal (setting_of c.lane r) (journal_of e)) rules (subst (λ (l : Low). IsLegal (setting_of l e.rules) (journal_of e)) lane legal)

  pub goes-on : (end : OpeningEnd) → EndsOpening c e d end → GoesOnWith (search_from c) c e line o d s stamp
  goes-on end x = let g = goes-ended c d line o s stamp rests heard still (journal_of e) at-first end.short x.part end.missing x.ends in record { run = g.0; still = g.1 }

  pub cut-off : StopsOpening c e d → IsCutOffWith (search_from c) c e line o d s stamp
  cut-off x = let g = goes-stopped c d line o s stamp rests heard still (journal_of e) at-first x.part x.stops in record { run = (journal_of e, g.0, inl refl); still = g.1 }

  -- it is still to be prepared
  pub still-here : (end : OpeningEnd) → EndsOpening c e d end → IsToPrepare e.lane (journal_of e) line o d s stamp
  still-here end x = subst (λ (l : Low). IsToPrepare l (journal_of e) line o d s stamp) (sym lane) (goes-on end x).still

  -- the nodes that serve under the state that its part has
  pub serve-alike : (t : ClusterState) (all : ℕ) → (part_of e d).state ≡ Some s → (part_of e d).state ≡ Some t → ((n : ℕ) → has_node all n ≡ serves t n) → (n : ℕ) → has_node all n ≡ serves s n
  serve-alike t all own other same = subst (λ (u : ClusterState). (n : ℕ) → has_node all n ≡ serves u n) (some-same t s (sym other ∙ own)) same

  module _ (short : Bool) (q : Part) (over : GivesUp q (part_of e d)) where
    pub opens-none : EndsBy c d None short (journal_of e) q → opened s.version (history (journal_of c)) ≡ false → IsOpenedFor (search_from c) e d s
    opens-none x closed = record {
      opened_is = opened-now c d line o s stamp rests heard still (journal_of e) at-first short q x;
      rows = subst (λ (r : _). IsSome r) (sym (ap (λ (y : Part). y.rows) over.after ∙ ap (λ (y : Part). y.rows) ((x.opens).rows).after)) refl;
      no_round = stays-ended (λ (K : List LaneEvent). BeganNoRound K (search_from c) s.version) (no-round-stays (search_from c) s.version) (no-round-opened (search_from c) s.version) c d None short (journal_of e) q x (λ b. refl);
      sent_stays = stays-ended (λ (K : List LaneEvent). HasSent (search_from c) K) (λ y K i h. sent-stays-in (search_from c) y K h) (λ y w buckets K h. sent-stays-in (search_from c) (Opened y w buckets) K h) c d None short (journal_of e) q x (λ k m h. h);
      idle = stays-ended (IsIdleAt s.version) (idle-stays s.version) (idle-opened s.version) c d None short (journal_of e) q x (idle-unopened (setting_of c.lane c.rules) (journal_of c) s.version before closed);
    }

    module _ (missing all : ℕ) (x : EndsBy c d (Some missing) short (journal_of e) q) (told : (n : ℕ) → (has_node (part_of e d).answered n ≡ true) ↔ AnsweredAsk s.version n (history (journal_of e)))
        (all_serve : (n : ℕ) → has_node all n ≡ serves s n) (quits : IsLegalStep (setting_of e.lane e.rules) (journal_of e) (Closed line NoMemory)) where
      same-answered : (part_of e d).answered ≡ q.answered
      same-answered = ap (λ (y : Part). y.answered) over.after

      first-quits : IsLegalStep (setting_of c.lane c.rules) (journal_of e) (Closed line NoMemory)
      first-quits = subst (λ (r : Rules). IsLegalStep (setting_of c.lane r) (journal_of e) (Closed line NoMemory)) rules (subst (λ (l : Low). IsLegalStep (setting_of l e.rules) (journal_of e) (Closed line NoMemory)) lane quits)

      abbrev shortage : Shortage
      shortage = opening_shortage (serves s) q.answered missing short

      ends-first : IsEndSince c.lane c.rules line o (search_from c) (journal_of e) (outcome_of shortage) × IsLegalStep (setting_of c.lane c.rules) (journal_of e) (Closed line (outcome_of shortage))
      ends-first = (
        lacking-wanted c d line o s stamp rests heard still (journal_of e) at-first short q missing x,
        lacking-legal c d line o s stamp rests heard still (journal_of e) at-first short q missing x
            (λ n. subst (λ (z : ℕ). (has_node z n ≡ true) ↔ AnsweredAsk s.version n (history (journal_of e))) same-answered (told n)) all all_serve first-quits,
      )

      ends-now : IsEndSince e.lane e.rules line o (search_from c) (journal_of e) (outcome_of shortage) × IsLegalStep (setting_of e.lane e.rules) (journal_of e) (Closed line (outcome_of shortage))
      ends-now = subst (λ (l : Low). IsEndSince l e.rules line o (search_from c) (journal_of e) (outcome_of shortage) × IsLegalStep (setting_of l e.rules) (journal_of e) (Closed line (outcome_of shortage))) (sym lane)
          (subst (λ (r : Rules). IsEndSince c.lane r line o (search_from c) (journal_of e) (outcome_of shortage) × IsLegalStep (setting_of c.lane r) (journal_of e) (Closed line (outcome_of shortage))) (sym rules) ends-first)

      ends-here : EndsShort (search_from c) e line o shortage
      ends-here = let z = ends-now in record { wanted = z.0; legal = z.1 }

      pub opens-some : (y : Shortage) → y ≡ opening_shortage (λ n. has_node all n) (part_of e d).answered missing short → EndsShort (search_from c) e line o y
      opens-some y is = subst (λ (z : Shortage). EndsShort (search_from c) e line o z) (sym (is ∙ same)) ends-here
        where
          same : opening_shortage (λ n. has_node all n) (part_of e d).answered missing short ≡ shortage
          same = ap (λ (n : ℕ). opening_shortage (λ i. has_node all i) n missing short) same-answered ∙ ap (λ (f : ℕ → Bool). opening_shortage f q.answered missing short) (λ i n. all_serve n i)
