-- Each deed of a lane's life is as it is promised.
use Rattle.std.proofs.Common.{List, [], ◌∷◌, refl}
use Rattle.bucket_ids.specs.Buckets.{Low}
use Rattle.lane_carriage.specs.Carriage.{IsCarried}
use Rattle.lane_journals.specs.KeptJournals.{IsLegal}
use Rattle.lane_journals.specs.declared.event.LaneEvent.{LaneEvent}
use Rattle.lane_keeping.specs.LaneKeeping.{setting_of}
use Rattle.operation_keeping.specs.RuleBounds.{AreRules}
use Rattle.lane_calls.specs.LaneValues.{LaneValue}
use Rattle.lane_lives.specs.declared.setting.Setting.{Setting}
use Rattle.lane_lives.specs.Lives.{Deed, Announces, Stops, Starts, Runs, Feeds, Maintains, Does, IsLife}
use Rattle.lane_promises.specs.Promises.{IsPromised, AreServed, IsComplete}
use Rattle.lane_promises.proofs.Before.{legal_before, Grown, grown_deed, carried_line}
use Rattle.lane_promises.proofs.Completing.{Laws, well_by}
use Rattle.lane_promises.proofs.CompletingBeside.{lines_done}
use Rattle.lane_promises.proofs.Later.{Stays, stays_itself, stays-trans, deed_stays, served_later}

module _ (laws : Laws) (s : Setting) (are : AreRules s.rules) (lane : Low) (v : LaneValue) (carried : IsCarried v.given v.journal) where
  promised : (deed : Deed) (J K : List LaneEvent) → IsLegal (setting_of lane s.rules) K → Grown v.journal K → Stays K v.journal → Does s lane deed J K → IsPromised lane v deed J K
  promised (Announces state deaf) J K legal grown keep does = tt
  promised (Stops n) J K legal grown keep does = tt
  promised (Starts n) J K legal grown keep does = tt
  promised (Feeds feeders lines left) J K legal grown keep does = lines_done laws s are lane v carried feeders lines J K legal grown keep does.grew
  promised (Maintains noted) J K legal grown keep does = tt
  promised (Runs line) J K legal grown keep does = λ goes.
      let t = carried_line v.given v.journal lane s.rules line line.via J K does carried grown in
      let w = well_by laws lane s.rules are v.given line J K legal t line.via does goes in
      record {
        outcome = w.outcome;
        ended = keep.outcomes line.number w.outcome w.ended;
        unrefused = w.unrefused;
        served = λ none. served_later K v.journal keep line (w.served none);
      }

  deeds_promised : (deeds : List Deed) (K : List LaneEvent) → IsLegal (setting_of lane s.rules) K → Grown v.journal K → Stays K v.journal → (life : IsLife s lane deeds K) → AreServed s lane v deeds K life
  deeds_promised [] K legal grown keep life = tt
  deeds_promised (deed ∷ deeds) K legal grown keep life =
      let J = life.0 in
      let does = life.1.1 in (
        promised deed J K legal grown keep does,
        deeds_promised deeds J (legal_before (setting_of lane s.rules) s lane deed J K does legal) (grown_deed v.journal s lane deed J K does grown)
            (stays-trans J K v.journal (deed_stays s lane deed J K does) keep) life.1.0,
      )

pub all_served : Laws → (s : Setting) → AreRules s.rules → (lane : Low) (v : LaneValue) → IsLegal (setting_of lane s.rules) v.journal → IsCarried v.given v.journal → IsComplete s lane v
all_served laws s are lane v legal carried deeds life = deeds_promised laws s are lane v carried deeds v.journal legal ([], refl) (stays_itself v.journal) life
