-- What a session's clauses say of its lanes, from what it keeps.
use Rattle.std.proofs.Common.{◌<◌, ℕ, List, refl, sym, ap, ◌∙◌, subst, arith, length}
use Rattle.std.proofs.lemmas.List.{length-map}
use Rattle.carriers.specs.declared.fate.Fate.{Fate}
use Rattle.cluster_states.specs.Publishing.{Told}
use Rattle.lane_journals.specs.Meanings.{history}
use Rattle.lane_keeping.specs.Lines.{IsFresh}
use Rattle.lane_lives.specs.declared.setting.Setting.{Setting}
use Rattle.lane_lives.specs.Lives as life
use Rattle.lane_lives.specs.Lives.{Deed, IsLife}
use Rattle.lane_calls.specs.Lines.{IsNone}
use Rattle.lane_lives.specs.Serving.{bucket_in}
use Rattle.lane_lives.proofs.Living.{others_fresh, events_told, states_published}
use Rattle.session_cluster.specs.Cells.{Cell, journals_of}
use Rattle.session_cluster.specs.Deeds.{deeds_of_lane}
use Rattle.session_cluster.specs.Keeping.{HaveDone, IsKept, AreAllAlike}
use Rattle.session_cluster.specs.Lanes.{journal_in, AreTogether}
use Rattle.cell_session.specs.LanePromises.{AreShownRight}
use Rattle.cell_session.specs.Operations.{HaveOutcomes, HaveFates}
use Rattle.session_cluster.specs.declared.asked.Asked.{Asked}
use Rattle.session_cluster.specs.declared.cluster.LineSpans.{LineSpans}
use Rattle.session_cluster.proofs.AlikeDeeds.{alike_self}
use Rattle.session_cluster.proofs.DeedLists.{deeds_together, deeds_told}
use Rattle.session_cluster.proofs.KeptLanes.{lane_there, in_lanes}
use Rattle.session_cluster.proofs.LaneLists.{journal_is, journal_at}

module _ {deeds : ℕ → List Deed} (s : Setting) (plans : ℕ → List Fate) (cs : List Asked) (c : Cell) (done : HaveDone s plans cs deeds c) where
  -- a lane that is there lived by the deeds
  done_life : (lane : ℕ) → lane < length (journals_of c) → IsLife s (bucket_in s lane) (deeds lane) (journal_in lane (journals_of c))
  done_life lane there =
      let found = lane_there c.lanes lane (omega (arith, there, length-map c.lanes journal_is)) in
      subst (IsLife s (bucket_in s lane) (deeds lane)) (sym (journal_at c.lanes lane found.0 found.1)) (done.serving lane found.0 found.1).life

  pub done_outcomes : HaveOutcomes s deeds c
  done_outcomes = record {
    lives = λ lane there. done_life lane (omega (arith, there, length-map c.lanes journal_is));
    no_others = λ lane line. in_lanes (λ n J. IsNone line (life.lines_of (deeds n)) → IsFresh (history J) line) c.lanes
        (λ n none. record { unbegun = refl; unrefused = refl; unprepared = refl; unwritten = refl; unclosed = refl })
        (λ n v at none. others_fresh s (bucket_in s n) (deeds n) v.journal (done.serving n v at).life line none) lane;
  }

  pub done_fates : HaveFates plans cs c.lanes
  done_fates lane v at = let is = done.serving lane v at in record { carried = (is.holds).carried; planned_are = is.planned_are }

  -- where the deeds are like those of the lines, states, stops and starts come to all lanes alike
  pub done_together : AreAllAlike s c.upkeeps cs deeds → AreTogether (journals_of c)
  done_together alike lane other a b =
      events_told s (bucket_in s lane) (deeds lane) (journal_in lane (journals_of c)) (done_life lane a)
      ∙ (alike lane).events ∙ deeds_together s c.upkeeps lane other cs ∙ sym (alike other).events
      ∙ sym (events_told s (bucket_in s other) (deeds other) (journal_in other (journals_of c)) (done_life other b))

  pub done_shown : AreAllAlike s c.upkeeps cs deeds → AreShownRight s c
  done_shown alike lane v at =
      let is = done.serving lane v at in
      record {
        bits_are = done.bits;
        lane_is = is.lane_is;
        rules_are = is.rules_are;
        states_are = ap (λ (t : Told). t.states) (done.told ∙ sym (deeds_told s c.upkeeps lane cs)) ∙ sym (alike lane).states
            ∙ sym (states_published s (bucket_in s lane) (deeds lane) v.journal is.life);
      }

-- of lines one after the other
kept_alike : (s : Setting) (us : List LineSpans) (cs : List Asked) → AreAllAlike s us cs (λ lane. deeds_of_lane s us lane cs)
kept_alike s us cs lane = alike_self s (deeds_of_lane s us lane cs)

pub kept_together : (s : Setting) (plans : ℕ → List Fate) (cs : List Asked) (c : Cell) → IsKept s plans cs c → AreTogether (journals_of c)
kept_together s plans cs c kept = done_together s plans cs c kept (kept_alike s c.upkeeps cs)

pub kept_shown : (s : Setting) (plans : ℕ → List Fate) (cs : List Asked) (c : Cell) → IsKept s plans cs c → AreShownRight s c
kept_shown s plans cs c kept = done_shown s plans cs c kept (kept_alike s c.upkeeps cs)
