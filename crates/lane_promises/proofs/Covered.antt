-- What an upkeep that rested leaves covered stays covered while no state is announced and no node stops.
use Rattle.std.proofs.Common.{◌≡◌, ◌==◌, ◌≤◌, ◌++◌, ℕ, Bool, true, false, cond, List, [], ◌∷◌, length, Some, refl, sym, ap, ◌∙◌, subst, arith, if◌then◌else◌}
use Rattle.std.proofs.lemmas.List.{append_assoc}
use Rattle.carriers.specs.declared.fate.Fate.{Fate}
use Rattle.bucket_ids.specs.Buckets.{Low, has_key}
use Rattle.lane_journals.specs.Events as plain
use Rattle.lane_journals.specs.Facts.{InRegion}
use Rattle.lane_journals.specs.KeptJournals.{IsLegal}
use Rattle.lane_journals.specs.Meanings.{history, meaning}
use Rattle.lane_journals.specs.Readers.{Journal, version, stopped}
use Rattle.lane_journals.specs.States.{state_of}
use Rattle.lane_journals.specs.declared.event.LaneEvent.{LaneEvent}
use Rattle.lane_journals.specs.declared.event.LaneEvent.TheVariants.{Started}
use Rattle.lane_journals.proofs.Basics.{sent-stays, Accepted-stays, version-grows}
use Rattle.lane_journals.proofs.Meant.{meant-legal}
use Rattle.lane_journals.proofs.Replies.{version-below}
use Rattle.lane_keeping.specs.LaneKeeping.{setting_of}
use Rattle.lane_keeping.specs.Tidings.{last_state}
use Rattle.upkeep_spans.specs.Spans.{earlier}
use Rattle.upkeep_spans.proofs.Leaving as leaving
use Rattle.upkeep_spans.specs.declared.answers.Upkeep.TheVariants.{Rested}
use Rattle.lane_lives.specs.declared.setting.Setting.{Setting}
use Rattle.lane_lives.specs.declared.spans.UpkeepSpan.{UpkeepSpan}
use Rattle.lane_lives.specs.Lives.{Deed, Announces, Stops, Starts, Runs, Feeds, Maintains, IsLife, newest_in, deed_events}
use Rattle.lane_lives.specs.Rested.{RestsIn, IsCovered, AreCalm}
use Rattle.lane_lives.specs.Upkeep.{SpanStands}
use Rattle.lane_calls.specs.Upkept.{HaveRun}
use Rattle.lane_lives.proofs.Living.{events_told, newest_published}
use Rattle.lane_calls.proofs.Told.{stopped_told}
use Rattle.lane_promises.proofs.Before.{Grown, grown_deed, legal_tail}
use Rattle.lane_promises.proofs.Newest.{newest_is}

-- ---- calm deeds

newest_same : (s : Setting) (more deeds : List Deed) → AreCalm more → newest_in s (more ++ deeds) ≡ newest_in s deeds
newest_same s [] deeds calm = refl
newest_same s (Announces state deaf ∷ more) deeds calm = absurd calm
newest_same s (Stops n ∷ more) deeds calm = absurd calm
newest_same s (Starts n ∷ more) deeds calm = newest_same s more deeds calm
newest_same s (Runs line ∷ more) deeds calm = newest_same s more deeds calm
newest_same s (Feeds feeders lines left ∷ more) deeds calm = newest_same s more deeds calm
newest_same s (Maintains noted ∷ more) deeds calm = newest_same s more deeds calm

started_runs : (n m : ℕ) (E : List LaneEvent) (t : Bool) → stopped n (history E) ≡ false → stopped n (history (if t then Started m ∷ E else E)) ≡ false
started_runs n m E false h = h
started_runs n m E true h = by_test (m == n) h
  where
    by_test : (t : Bool) → stopped n (history E) ≡ false → cond t false (stopped n (history E)) ≡ false
    by_test true h = refl
    by_test false h = h

-- a node that runs goes on running
runs_on : (s : Setting) (more deeds : List Deed) → AreCalm more → (n : ℕ) → stopped n (history (deed_events s deeds)) ≡ false → stopped n (history (deed_events s (more ++ deeds))) ≡ false
runs_on s [] deeds calm n h = h
runs_on s (Announces state deaf ∷ more) deeds calm n h = absurd calm
runs_on s (Stops m ∷ more) deeds calm n h = absurd calm
runs_on s (Starts m ∷ more) deeds calm n h = let E = deed_events s (more ++ deeds) in started_runs n m E (stopped m (history E)) (runs_on s more deeds calm n h)
runs_on s (Runs line ∷ more) deeds calm n h = runs_on s more deeds calm n h
runs_on s (Feeds feeders lines left ∷ more) deeds calm n h = runs_on s more deeds calm n h
runs_on s (Maintains noted ∷ more) deeds calm n h = runs_on s more deeds calm n h

-- ---- the journal before them

pub record WasBefore (s : Setting) (lane : Low) (deeds : List Deed) (whole : List LaneEvent) : Type 0 where
  pub journal : List LaneEvent
  pub life : IsLife s lane deeds journal
  pub grown : Grown whole journal

pub was_before : (whole : List LaneEvent) (s : Setting) (lane : Low) (more deeds : List Deed) (K : List LaneEvent) → IsLife s lane (more ++ deeds) K → Grown whole K → WasBefore s lane deeds whole
was_before whole s lane [] deeds K life grown = record { journal = K; life = life; grown = grown }
was_before whole s lane (deed ∷ more) deeds K life grown = was_before whole s lane more deeds life.0 life.1.0 (grown_deed whole s lane deed life.0 K life.1.1 grown)

-- of one journal there is one first part of a length
same_first : (M N J K : List LaneEvent) → M ++ J ≡ N ++ K → length J ≡ length K → J ≡ K
same_first M N J K same size = sym (leaving.before J M) ∙ ap (earlier (length J)) same ∙ ap (λ (n : ℕ). earlier n (N ++ K)) size ∙ leaving.before K N

-- ---- what stays

region_stays : (v n key : ℕ) (N J : List LaneEvent) → InRegion v n key (history J) → InRegion v n key (history (N ++ J))
region_stays v n key [] J r = r
region_stays v n key (e ∷ N) J r =
    let x = region_stays v n key N J r in
    let H : Journal = history (N ++ J) in
    let y : plain.Event = meaning (N ++ J) e in
    record { number = x.number; message = x.message; bucket = x.bucket; was_sent = sent-stays x.number H x.message y x.was_sent; receiver = x.receiver; version = x.version; body = x.body; accepted = Accepted-stays x.number H y x.accepted; inside = x.inside }

version_grown : (n : ℕ) (N J : List LaneEvent) → version n (history J) ≤ version n (history (N ++ J))
version_grown n [] J = omega arith
version_grown n (e ∷ N) J = omega (arith, version_grown n N J, version-grows n (history (N ++ J)) (meaning (N ++ J) e))

module _ (s : Setting) (lane : Low) (more deeds : List Deed) (calm : AreCalm more) where
  -- over the deeds
  stays_covered : (N J : List LaneEvent) → IsLife s lane deeds J → IsLife s lane (more ++ deeds) (N ++ J) → IsLegal (setting_of lane s.rules) (N ++ J) → (key : ℕ) → IsCovered key J → IsCovered key (N ++ J)
  stays_covered N J life after legal key x = record {
    state = x.state;
    newest = last;
    node = x.node;
    current = omega (arith, most, least, x.current);
    runs = sym (stopped_told x.node (N ++ J)) ∙ ap (λ (E : List LaneEvent). stopped x.node (history E)) (events_told s lane (more ++ deeds) (N ++ J) after)
        ∙ runs_on s more deeds calm x.node (sym (ap (λ (E : List LaneEvent). stopped x.node (history E)) (events_told s lane deeds J life)) ∙ stopped_told x.node J ∙ x.runs);
    region = region_stays (x.state).version x.node key N J x.region;
  }
    where
      last : last_state (N ++ J) ≡ Some x.state
      last = newest_published s lane (more ++ deeds) (N ++ J) after ∙ ap (λ t. Some t) (newest_same s more deeds calm) ∙ sym (newest_published s lane deeds J life) ∙ x.newest

      most : version x.node (history (N ++ J)) ≤ (x.state).version
      most = version-below (s.rules).acks (state_of (history (N ++ J))) (history (N ++ J)) (meant-legal (setting_of lane s.rules) (N ++ J) legal) (x.state).version (newest_is (setting_of lane s.rules) (N ++ J) legal x.state last).0 x.node

      least : version x.node (history J) ≤ version x.node (history (N ++ J))
      least = version_grown x.node N J

abbrev pub RestCovers : Type 0
RestCovers = (s : Setting) (lane : Low) (J : List LaneEvent) → IsLegal (setting_of lane s.rules) J → RestsIn s lane J → HaveRun J → (key : ℕ) → has_key lane key ≡ true → IsCovered key J

pub rested_covered : RestCovers → (s : Setting) (lane : Low) (more deeds : List Deed) (given : List Fate) (J K later : List LaneEvent) (span : UpkeepSpan) → IsLegal (setting_of lane s.rules) J → SpanStands s lane deeds given J span → span.answer ≡ Rested → AreCalm more
    → IsLife s lane (more ++ Maintains (Some span) ∷ deeds) K → J ≡ later ++ K → (key : ℕ) → has_key lane key ≡ true → IsCovered key K
rested_covered covers s lane more deeds given J K later span legal stands rested calm life whole key has =
    let was = was_before K s lane more (Maintains (Some span) ∷ deeds) K life ([], refl) in
    let N = (was.grown).0 in
    let M = was.journal in
    let grown : K ≡ N ++ M = (was.grown).1 in
    let same : M ≡ stands.after = same_first (later ++ N) stands.later M stands.after
    (append_assoc later N M ∙ sym (ap (λ (L : List LaneEvent). later ++ L) grown) ∙ sym whole ∙ stands.whole)
    (sym ((was.life).1.1).to ∙ stands.to) in
    let legal_after = legal_tail (setting_of lane s.rules) stands.later stands.after (subst (IsLegal (setting_of lane s.rules)) stands.whole legal) in
    let at_end = covers s lane stands.after legal_after (stands.at_rest rested) (stands.run rested) key has in
    let legal_now = legal_tail (setting_of lane s.rules) later K (subst (IsLegal (setting_of lane s.rules)) whole legal) in
    subst (IsCovered key) (sym grown)
    (stays_covered s lane more (Maintains (Some span) ∷ deeds) calm N M was.life (subst (IsLife s lane (more ++ Maintains (Some span) ∷ deeds)) grown life) (subst (IsLegal (setting_of lane s.rules)) grown legal_now) key (subst (IsCovered key) (sym same) at_end))
