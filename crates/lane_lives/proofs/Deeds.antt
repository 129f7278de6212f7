-- What a deed leaves of all lines but its own.
use Rattle.std.proofs.Common.{◌≡◌, ◌⊎◌, ℕ, List, Option, None, Some, inr, sym, subst}
use Rattle.bucket_ids.specs.Buckets.{Low}
use Rattle.lane_journals.specs.declared.event.LaneEvent.{LaneEvent}
use Rattle.lane_calls.specs.Upkept.{IsMaintained}
use Rattle.lane_calls.proofs.OneLine.{IsLine, line_is, line_passes, passes_announced, passes_start, passes_stop, passes_upkeep}
use Rattle.lane_lives.specs.declared.setting.Setting.{Setting}
use Rattle.lane_lives.specs.declared.spans.UpkeepSpan.{UpkeepSpan}
use Rattle.lane_lives.specs.Lives.{Deed, Announces, Stops, Starts, Runs, Feeds, Maintains, Does, MakesPass}

-- nothing was done, or a pass was made
pub pass_or_none : (lane : Low) (noted : Option UpkeepSpan) (J K : List LaneEvent) → MakesPass lane noted J K → (K ≡ J) ⊎ IsMaintained lane J K
pass_or_none lane None J K does = does
pass_or_none lane (Some span) J K does = inr does.pass

-- the number is that of the deed, if that is a line; feeders have no number of their own
abbrev pub IsOf : ℕ → Deed → Type 0
IsOf n (Runs line) = line.number ≡ n
IsOf n (Feeds feeders lines left) = ⊥
IsOf n _ = Unit {0}

pub deed_is : (s : Setting) (lane : Low) (deed : Deed) (n : ℕ) → IsOf n deed → (J K : List LaneEvent) → Does s lane deed J K → IsLine n J K
deed_is s lane (Announces state deaf) n of J K does = subst (IsLine n J) (sym does) (line_passes n J _ (passes_announced deaf state J))
deed_is s lane (Stops m) n of J K does = subst (IsLine n J) (sym does) (line_passes n J _ (passes_stop m J))
deed_is s lane (Starts m) n of J K does = subst (IsLine n J) (sym does) (line_passes n J _ (passes_start m J))
deed_is s lane (Runs line) n of J K does = subst (λ k. IsLine k J K) of (line_is lane s.rules line line.via J K does)
deed_is s lane (Feeds feeders lines left) n of J K does = absurd of
deed_is s lane (Maintains noted) n of J K does = line_passes n J K (passes_upkeep lane J K (pass_or_none lane noted J K does))
