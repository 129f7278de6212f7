-- A line that has node after node asked while its owner's part opens the state does what it wants.
use Rattle.std.proofs.Common.{◌≡◌, ◌↔◌, ◌||◌, ℕ, Bool, true, false, List, ◌∷◌, Option, None, Some, inl, inr, refl, sym, subst, ap, ◌∙◌}
use Rattle.bucket_ids.specs.Buckets.{Low}
use Rattle.node_sets.specs.Members.{has_node}
use Rattle.stamps.specs.declared.stamp.Stamp.{Stamp}
use Rattle.cluster_states.specs.declared.cluster_state.ClusterState.{ClusterState}
use Rattle.messages.specs.declared.body.Body.TheVariants as body
use Rattle.messages.specs.declared.message.Message.{Message as Letter}
use Rattle.messages.specs.declared.operation.Operation.{Operation}
use Rattle.messages.specs.declared.step.Step.TheVariants.{Send}
use Rattle.distributor_part.specs.declared.rules.Rules.{Rules}
use Rattle.distributor_part.specs.Parts.{Part}
use Rattle.distributor_part.specs.Steps as steps
use Rattle.lane_journals.specs.Readers.{Message as Heard, sent}
use Rattle.lane_journals.specs.Meanings.{history}
use Rattle.lane_journals.specs.KeptJournals.{IsLegal}
use Rattle.lane_journals.specs.declared.event.LaneEvent.{LaneEvent}
use Rattle.lane_journals.specs.declared.event.LaneEvent.TheVariants.{Delivered, Returned}
use Rattle.lane_keeping.specs.Replaying.{sending}
use Rattle.lane_keeping.specs.LaneKeeping.{PartKeeps, setting_of}
use Rattle.operation_keeping.specs.Wants.{IsRunSince, Still, Longer, WasAskedSince}
use Rattle.lane_states.specs.Growing.{HasHeard, IsSettled}
use Rattle.lane_rounds.specs.Openings as openings
use Rattle.lane_rounds.specs.Openings.{IsGone, IsAsked, Nobody}
use Rattle.lane_lines.specs.OpeningRuns.{KnowsAsking}
use Rattle.lane_lines.specs.Readying.{IsToPrepare}
use Rattle.lane_rounds.proofs.OpeningSends.{carried, legal-sent}
use Rattle.lane_lines.proofs.OpeningRuns.{IsAskSent, prepare-stays, just, sent-after, asked-after, short-after}
use Rattle.lane_rounds.proofs.Staying.{stays-gone}

module _ (lane : Low) (rules : Rules) (J : List LaneEvent) (line : ℕ) (o : Operation) (d : ℕ) (s : ClusterState) (stamp : Option Stamp) where
  pub same-state : (q asked : Part) (m : Letter) → q.state ≡ Some s → (a : steps.Asks q asked m) → a.state ≡ s
  same-state q asked m heard a = let h = sym (a.unopened).heard ∙ heard in cc

  -- one node more is asked
  pub asks-on : (K L : List LaneEvent) (q asked heard : Part) (number : ℕ) (m : Letter) (was one : Bool) → IsLegal (setting_of lane rules) L → PartKeeps lane rules K d q → steps.Asks q asked m → IsGone number m K L → IsSettled number L one → HasHeard asked heard
      → KnowsAsking lane rules J line o d s stamp K q was → KnowsAsking lane rules J line o d s stamp L heard (was || one)
  asks-on K L q asked heard number m was one legal keeps a gone settled told k = record {
    run = carried (λ (X : List LaneEvent). IsRunSince lane rules line o (history J) J X) number (λ n r X p. Longer (Delivered n r) X p (inl tt)) (λ X p. Longer (Returned number) X p (inl (asked-now).later)) m K L gone (Longer (sending number m) K k.run (inr (record {
      distributor = d;
      state = s;
      stamp = stamp;
      acting = (k.still).acting;
      under_way = ((k.still).knows).is_under_way;
      wants = inl (
        ((k.still).knows).unprepared,
        inl (record {
          part = q;
          after = asked;
          step = Send m;
          keeps = keeps;
          heard = k.heard;
          unopened = (a.unopened).unopened;
          no_round = (a.unopened).no_round;
          asked = k.asked;
          is_step = a;
          gives = (number, refl);
        }),
      );
    })));
    still = stays-gone (λ (X : List LaneEvent). IsToPrepare lane X line o d s stamp) (prepare-stays lane line o d s stamp) number m K L gone k.still;
    heard = ap (λ (x : Part). x.state) told.after ∙ ap (λ (x : Part). x.state) a.after ∙ k.heard;
    asked = subst (λ (z : ℕ). (n : ℕ) → (has_node z n ≡ true) ↔ WasAskedSince (history J) (history L) s.version n) (sym (ap (λ (x : Part). x.asked) told.after))
        (asked-after lane rules line o d s stamp K L number m legal gone (history J) k.sent_stays version_is body_is q asked a k.asked);
    short_is = short-after lane rules line o d s stamp K L number m legal gone (history J) k.sent_stays version_is body_is was one settled k.short_is;
    sent_stays = sent-after lane rules line o d s stamp K L number m legal gone (history J) k.sent_stays version_is body_is;
  }
    where
      version_is : m.version ≡ s.version
      version_is = ap (λ (x : Letter). x.version) a.message ∙ ap (λ (x : ClusterState). x.version) (same-state q asked m k.heard a)

      body_is : m.body ≡ body.Ask
      body_is = ap (λ (x : Letter). x.body) a.message

      asked-now : IsAskSent (history J) (history (sending number m ∷ K)) number m
      asked-now = just lane rules line o d s stamp K L number m legal gone (history J) k.sent_stays version_is body_is

  -- node after node is
  pub asks-all : (p : Part) (K : List LaneEvent) (q : Part) (short : Bool) → IsAsked lane rules d J p K q short → IsLegal (setting_of lane rules) K → KnowsAsking lane rules J line o d s stamp J p false → KnowsAsking lane rules J line o d s stamp K q short
  asks-all p _ _ _ Nobody legal k = k
  asks-all p _ _ _ (openings.More K L q asked heard number m was one before keeps a gone settled told) legal k =
      asks-on K L q asked heard number m was one legal keeps a gone settled told (asks-all p K q was before ((legal-sent (setting_of lane rules) number m K L gone legal).0) k)

  -- nobody was asked yet
  pub asks-none : (p : Part) → ((n : ℕ) → has_node p.asked n ≡ false) → IsToPrepare lane J line o d s stamp → p.state ≡ Some s → KnowsAsking lane rules J line o d s stamp J p false
  asks-none p none still heard = record {
    run = Still;
    still = still;
    heard = heard;
    asked = λ n. (λ h. absurd (let no : false ≡ true = sym (none n) ∙ h in cc), λ w. absurd (unsent (sent w.number (history J)) w.was_sent w.later));
    short_is = (λ h. absurd (let no : false ≡ true = h in cc), λ w. absurd (unsent (sent w.number (history J)) w.was_sent w.later));
    sent_stays = λ k m h. h;
  }
    where
      unsent : {m : Heard} (x : Option Heard) → x ≡ Some m → x ≡ None → ⊥
      unsent {m} x is not = let none : None ≡ Some m = sym not ∙ is in cc
