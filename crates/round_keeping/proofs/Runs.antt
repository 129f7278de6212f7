-- The messages that a round sends one after the other.
use Rattle.std.proofs.Common.{◌≡◌, ◌+◌, ℕ, List, [], ◌∷◌, ◌++◌, length, sym, ap, subst, ◌∙◌, arith, append_assoc}
use Rattle.std.proofs.lemmas.List.{length-append, append-nil}
use Rattle.bucket_ids.specs.Buckets.{Low}
use Rattle.cluster_states.specs.declared.cluster_state.ClusterState.{ClusterState}
use Rattle.carriers.specs.declared.fate.Fate.{Fate}
use Rattle.messages.specs.Noting.{noted_body}
use Rattle.messages.specs.declared.decision.Decision.{Decision}
use Rattle.messages.specs.declared.message.Message.{Message}
use Rattle.messages.specs.declared.late.Late.{Late}
use Rattle.lane_journals.specs.declared.event.LaneEvent.{LaneEvent}
use Rattle.lane_journals.specs.declared.event.LaneEvent.TheVariants.{Decided}
use Rattle.lane_keeping.specs.Replaying.{sending}
use Rattle.lane_carriage.specs.Carriage as carriage
use Rattle.lane_carriage.specs.Carriage.{IsDealt, AreDelivered, due, IsMessage, Other}
use Rattle.lane_carriage.specs.Waits.{numbers, IsWaiting}
use Rattle.lane_carriage.specs.Laws.{OfTaken}
use Rattle.lane_carriage.specs.Carrying.{met_at, AreCarried}
use Rattle.round_keeping.specs.RoundRuns.{Sends, SendsNext, IsRoundRun, Nothing, Further, RunsOn, GoesOn}
use Rattle.round_keeping.specs.declared.round_run.RoundRun.{RoundRun}

module _ (lane : Low) (d : ℕ) (s : ClusterState) where
  pub runs-nothing : (given : List Fate) (last : ℕ) (late : List Late) (J : List LaneEvent) → RunsOn lane d s given given last last late late J J
  runs-nothing given last late J = record { fates = []; given_are = sym (append-nil given); last_is = omega arith; run = Nothing }

  pub sends-at : (fate : Fate) (n k : ℕ) (late rest : List Late) (J K : List LaneEvent) → n ≡ k → SendsNext lane d s fate n late J rest K → SendsNext lane d s fate k late J rest K
  sends-at fate n k late rest J K e h = subst (λ (i : ℕ). SendsNext lane d s fate i late J rest K) e h

  run-then : (last mid : ℕ) (late late2 : List Late) (J K : List LaneEvent) (fs gs : List Fate) (rest : List Late) (L : List LaneEvent) → mid ≡ last + length fs
      → IsRoundRun lane d s last late J fs late2 K → IsRoundRun lane d s mid late2 K gs rest L → IsRoundRun lane d s last late J (fs ++ gs) rest L
  run-then last mid late late2 J K fs gs rest L e a Nothing = subst (λ (f : List Fate). IsRoundRun lane d s last late J f rest L) (sym (append-nil fs)) a
  run-then last mid late late2 J K fs gs rest L e a (Further hs between M fate rest2 N b h) =
      subst (λ (f : List Fate). IsRoundRun lane d s last late J f rest L) (append_assoc fs hs (fate ∷ []))
      (Further (fs ++ hs) between M fate rest L (run-then last mid late late2 J K fs hs between M e a b)
      (sends-at fate (mid + length hs) (last + length (fs ++ hs)) between rest M L (let more = length-append fs hs in omega (arith, e, more)) h))

  -- some more
  pub runs-then : (given mid now : List Fate) (last then after : ℕ) (late late2 rest : List Late) (J K L : List LaneEvent)
      → RunsOn lane d s given mid last then late late2 J K → RunsOn lane d s mid now then after late2 rest K L → RunsOn lane d s given now last after late rest J L
  runs-then given mid now last then after late late2 rest J K L a b = record {
    fates = a.fates ++ b.fates;
    given_are = b.given_are ∙ ap (λ (f : List Fate). f ++ b.fates) a.given_are ∙ append_assoc given a.fates b.fates;
    last_is = (let x = a.last_is in let y = b.last_is in let more = length-append a.fates b.fates in omega (arith, x, y, more));
    run = run-then last then late late2 J K a.fates b.fates rest L a.last_is a.run b.run;
  }

  -- from the same
  pub runs-from : (given now : List Fate) (last then after : ℕ) (late late2 rest : List Late) (J K L : List LaneEvent) → then ≡ last → late2 ≡ late → K ≡ J
      → RunsOn lane d s given now then after late2 rest K L → RunsOn lane d s given now last after late rest J L
  runs-from given now last then after late late2 rest J K L a b c h =
      subst (λ (x : List LaneEvent). RunsOn lane d s given now last after late rest x L) c
      (subst (λ (x : List Late). RunsOn lane d s given now last after x rest K L) b
      (subst (λ (x : ℕ). RunsOn lane d s given now x after late2 rest K L) a h))

  -- the same is left
  pub runs-still : (given : List Fate) (last then : ℕ) (late rest : List Late) (J K : List LaneEvent) → then ≡ last → rest ≡ late → K ≡ J → RunsOn lane d s given given last then late rest J K
  runs-still given last then late rest J K a b c =
      subst (λ (x : List LaneEvent). RunsOn lane d s given given last then late rest J x) (sym c)
      (subst (λ (x : List Late). RunsOn lane d s given given last then late x J J) (sym b)
      (subst (λ (x : ℕ). RunsOn lane d s given given last x late late J J) (sym a) (runs-nothing given last late J)))

-- the numbers go with the fates
pub runs-numbered : (lane : Low) (d : ℕ) (s : ClusterState) (given now : List Fate) (last then : ℕ) (late rest : List Late) (J K : List LaneEvent) → last ≡ length given → RunsOn lane d s given now last then late rest J K → then ≡ length now
runs-numbered lane d s given now last then late rest J K e h =
    let sum = length-append given h.fates in
    let len = ap (λ (f : List Fate). length f) h.given_are in
    let next = h.last_is in
    omega (arith, e, sum, len, next)

pub runs-in : (l k : Low) (d : ℕ) (s : ClusterState) (given now : List Fate) (last then : ℕ) (late rest : List Late) (J K : List LaneEvent) → l ≡ k → RunsOn l d s given now last then late rest J K → RunsOn k d s given now last then late rest J K
runs-in l k d s given now last then late rest J K e h = subst (λ (x : Low). RunsOn x d s given now last then late rest J K) e h

pub runs-of : (l k : Low) (x y : RoundRun) (given now : List Fate) (last then : ℕ) (late rest : List Late) (J K : List LaneEvent) → l ≡ k → GoesOn y x → RunsOn l x.distributor x.state given now last then late rest J K → RunsOn k y.distributor y.state given now last then late rest J K
runs-of l k x y given now last then late rest J K e go h =
    runs-in l k y.distributor y.state given now last then late rest J K e
    (subst (λ (s : ClusterState). RunsOn l y.distributor s given now last then late rest J K) (ap (λ (z : RoundRun). z.state) go.run_is)
    (subst (λ (d : ℕ). RunsOn l d x.state given now last then late rest J K) (ap (λ (z : RoundRun). z.distributor) go.run_is) h))

-- ---- the fates

-- a decision is no message
pub carried-decided : (given : List Fate) (J : List LaneEvent) (last : ℕ) (late : List Late) (d v : ℕ) (x : Decision) → AreCarried given J last late → AreCarried given (Decided d v x ∷ J) last late
carried-decided given J last late d v x c = record { carried = Other given J (Decided d v x) tt c.carried; waiting = c.waiting }

module _ (waits : OfTaken (λ given last late f taken rest. IsWaiting (given ++ f ∷ []) (last + 1) rest)) (are_due : OfTaken (λ given last late f taken rest. numbers taken ≡ due (given ++ f ∷ []) (last + 1))) where
  sends-carried : (m : Message) (fate : Fate) (last : ℕ) (late : List Late) (J : List LaneEvent) (rest : List Late) (K : List LaneEvent) (given : List Fate) → Sends m fate last late J rest K → AreCarried given J last late
      → AreCarried (given ++ fate ∷ []) K (last + 1) rest
  sends-carried m fate last late J rest K given h c = record {
    carried = carriage.Message given J fate K message c.carried;
    waiting = waits given last late fate m (h.due).taken rest c.waiting (h.due).are_taken h.none_left;
  }
    where
      message : IsMessage given fate J K
      message = record {
        version = m.version;
        sender = m.sender;
        receiver = m.receiver;
        body = noted_body m.body;
        after = h.after;
        dealt = subst (λ (i : ℕ). IsDealt (met_at J m fate) (i + 1) (sending (i + 1) m ∷ J) h.after) (c.waiting).counted h.dealt;
        late = subst (λ (i : ℕ). AreDelivered (due (given ++ fate ∷ []) (i + 1)) h.after K) (c.waiting).counted
            (subst (λ (ns : List ℕ). AreDelivered ns h.after K) (are_due given last late fate m (h.due).taken rest c.waiting (h.due).are_taken h.none_left) (h.due).delivered);
      }

  run-carried : (lane : Low) (d : ℕ) (s : ClusterState) (last : ℕ) (late : List Late) (J : List LaneEvent) (fates : List Fate) (rest : List Late) (K : List LaneEvent) (given : List Fate) → IsRoundRun lane d s last late J fates rest K → AreCarried given J last late
      → AreCarried (given ++ fates) K (last + length fates) rest
  run-carried lane d s last late J fates rest K given Nothing c = subst (λ (f : List Fate). AreCarried f J (last + 0) late) (sym (append-nil given)) (subst (λ (n : ℕ). AreCarried given J n late) (omega arith) c)
  run-carried lane d s last late J fates rest K given (Further before mid M fate left L run h) c =
      subst (λ (f : List Fate). AreCarried f L (last + length (before ++ fate ∷ [])) left) (append_assoc given before (fate ∷ []))
      (subst (λ (n : ℕ). AreCarried ((given ++ before) ++ fate ∷ []) L n left) (let more = length-append before (fate ∷ []) in omega (arith, more))
      (sends-carried h.message fate (last + length before) mid M left L (given ++ before) h.sends (run-carried lane d s last late J before mid M given run c)))

  pub runs-carried : (lane : Low) (d : ℕ) (s : ClusterState) (given after : List Fate) (last now : ℕ) (late rest : List Late) (J K : List LaneEvent) → RunsOn lane d s given after last now late rest J K → AreCarried given J last late → AreCarried after K now rest
  runs-carried lane d s given after last now late rest J K h c =
      subst (λ (f : List Fate). AreCarried f K now rest) (sym h.given_are) (subst (λ (n : ℕ). AreCarried (given ++ h.fates) K n rest) (sym h.last_is) (run-carried lane d s last late J h.fates rest K given h.run c))
