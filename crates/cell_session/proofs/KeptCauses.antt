-- Why lines of a session were refused or got too few answers, and who heard which state, from what it keeps.
use Rattle.std.proofs.Common.{◌≡◌, ◌<◌, ℕ, false, List, ◌∷◌, ◌++◌, Some, subst, slice_get}
use Rattle.node_sets.specs.Members.{has_node}
use Rattle.bucket_ids.specs.Buckets.{Low}
use Rattle.carriers.specs.declared.fate.Fate.{Fate}
use Rattle.messages.specs.declared.outcome.Outcome.TheVariants.{TooFew, OwnedElsewhere}
use Rattle.lane_journals.specs.KeptJournals.{IsLegal}
use Rattle.lane_journals.specs.Meanings.{history}
use Rattle.lane_journals.specs.Readers.{held}
use Rattle.lane_journals.specs.declared.event.LaneEvent.TheVariants.{Heard}
use Rattle.lane_carriage.specs.Carriage.{IsCarried}
use Rattle.lane_keeping.specs.LaneKeeping.{setting_of}
use Rattle.lane_calls.specs.LaneValues.{LaneValue}
use Rattle.lane_lives.specs.Settings.{IsSetting}
use Rattle.lane_lives.specs.declared.setting.Setting.{Setting}
use Rattle.lane_promises.specs.Hearings.{deaf_in, HeardNewest}
use Rattle.lane_lives.specs.Lives.{Deed, IsLife, lines_of, AreAlone, newest_in}
use Rattle.lane_calls.specs.Readings.{outcome_in}
use Rattle.lane_promises.specs.Promises.{WasRefused, LineFellShort, LineFellShortBeside}
use Rattle.lane_lives.specs.Serving.{bucket_in}
use Rattle.cell_session.specs.Causes.{AreRefused, HaveCauses, HaveCausesBeside}
use Rattle.session_cluster.specs.Cells.{Cell}
use Rattle.cell_session.specs.Operations.{deeds_in}
use Rattle.cell_session.specs.Hearing.{HaveHeard}
use Rattle.session_cluster.specs.Keeping.{HaveDone, IsKept}
use Rattle.session_cluster.specs.Lanes.{Journal}
use Rattle.session_cluster.specs.declared.asked.Asked.{Asked}
use Rattle.session_cluster.proofs.KeptLanes.{kept_legal}
use Rattle.session_cluster.proofs.DeedLists.{lines_alone}
use Rattle.session_cluster.proofs.LaneLists.{journal_at}

-- what is promised of every lane
abbrev pub AllRefused : Type 0
AllRefused = (s : Setting) (lane : Low) (deeds : List Deed) (J : Journal) → IsLife s lane deeds J → IsLegal (setting_of lane s.rules) J → (line owner version : ℕ) → outcome_in line J ≡ Some (OwnedElsewhere owner version)
    → WasRefused lane (lines_of deeds) J line owner version

abbrev pub AllShort : Type 0
AllShort = (s : Setting) → IsSetting s → (lane : Low) (deeds : List Deed) (J : Journal) (given : List Fate) → IsLife s lane deeds J → AreAlone deeds → IsLegal (setting_of lane s.rules) J → IsCarried given J → (line answered needed absent : ℕ)
    → outcome_in line J ≡ Some (TooFew answered needed absent) → LineFellShort given (lines_of deeds) J line answered needed absent

abbrev pub AllHold : Type 0
AllHold = (s : Setting) (lane : Low) (deeds : List Deed) (J : Journal) → IsLife s lane deeds J → (d : ℕ) → d < 32 → has_node (deaf_in deeds) d ≡ false → held d (history J) ≡ Some (newest_in s deeds).version

abbrev pub AllHear : Type 0
AllHear = (s : Setting) (lane : Low) (deeds : List Deed) (J : Journal) → IsLife s lane deeds J → (after before : Journal) (d version : ℕ) → J ≡ after ++ Heard d version ∷ before → HeardNewest s lane deeds before d version

abbrev pub AllShortBeside : Type 0
AllShortBeside = (s : Setting) → IsSetting s → (lane : Low) (deeds : List Deed) (J : Journal) (given : List Fate) → IsLife s lane deeds J → IsLegal (setting_of lane s.rules) J → IsCarried given J → (line answered needed absent : ℕ)
    → outcome_in line J ≡ Some (TooFew answered needed absent) → LineFellShortBeside given (lines_of deeds) J line answered needed absent

module _ {deeds : ℕ → List Deed} (s : Setting) (plans : ℕ → List Fate) (cs : List Asked) (c : Cell) (done : HaveDone s plans cs deeds c) where
  legal_at : (lane : ℕ) (v : LaneValue) → slice_get c.lanes lane ≡ Some v → IsLegal (setting_of (bucket_in s lane) s.rules) v.journal
  legal_at lane v at = subst (λ J. IsLegal (setting_of (bucket_in s lane) s.rules) J) (journal_at c.lanes lane v at) (kept_legal s plans cs c done lane)

  done_refused : AllRefused → AreRefused s deeds c
  done_refused refused lane v at line owner version = refused s (bucket_in s lane) (deeds lane) v.journal (done.serving lane v at).life (legal_at lane v at) line owner version

  pub done_causes : AllRefused → AllShort → IsSetting s → ((lane : ℕ) → AreAlone (deeds lane)) → HaveCauses s deeds c
  done_causes refused short setting alone = record {
    refused = done_refused refused;
    short = λ lane v at line answered needed absent.
        let is = done.serving lane v at in
        short s setting (bucket_in s lane) (deeds lane) v.journal v.given is.life (alone lane) (legal_at lane v at) (is.holds).carried line answered needed absent;
  }

  pub done_beside : AllRefused → AllShortBeside → IsSetting s → HaveCausesBeside s deeds c
  done_beside refused short setting = record {
    refused = done_refused refused;
    short = λ lane v at line answered needed absent.
        let is = done.serving lane v at in
        short s setting (bucket_in s lane) (deeds lane) v.journal v.given is.life (legal_at lane v at) (is.holds).carried line answered needed absent;
  }

  pub done_heard : AllHold → AllHear → HaveHeard s deeds c
  done_heard hold hear = record {
    holds = λ lane v at. hold s (bucket_in s lane) (deeds lane) v.journal (done.serving lane v at).life;
    hears = λ lane v at. hear s (bucket_in s lane) (deeds lane) v.journal (done.serving lane v at).life;
  }

pub kept_causes : AllRefused → AllShort → (s : Setting) → IsSetting s → (plans : ℕ → List Fate) (cs : List Asked) (c : Cell) → IsKept s plans cs c → HaveCauses s (deeds_in s cs c) c
kept_causes refused short s setting plans cs c kept = done_causes s plans cs c kept refused short setting (λ lane. lines_alone s c.upkeeps lane cs)
