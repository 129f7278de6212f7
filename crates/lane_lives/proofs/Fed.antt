-- A lane that serves does so after a segment.
use Rattle.std.proofs.Common.{◌≡◌, ◌⊎◌, ℕ, List, [], ◌∷◌, ◌∙◌, subst}
use Rattle.std.specs.Option.{IsSome}
use Rattle.bucket_ids.specs.Buckets.{Low}
use Rattle.carriers.specs.declared.fate.Fate.{Fate}
use Rattle.distributor_part.specs.declared.rules.Rules.{Rules}
use Rattle.lane_calls.specs.LaneValues.{LaneValue, IsLaneValue}
use Rattle.lane_calls.specs.Lines.{FeedLine, Lines, AreRising}
use Rattle.lane_calls.specs.Readings.{outcome_in}
use Rattle.lane_calls.specs.Segments.{IsAmong, IsSegment}
use Rattle.lane_calls.specs.Growth.{Grows}
use Rattle.lane_lives.specs.declared.setting.Setting.{Setting}
use Rattle.lane_lives.specs.Lives.{Deed, Feeds, lines_of}
use Rattle.lane_lives.specs.Serving.{bucket_in, IsServing}

-- what is known of segments
abbrev pub AllGrow : Type 0
AllGrow = (feeders : ℕ) (lines : Lines) (first last : LaneValue) → IsSegment feeders lines first last → Grows feeders lines first.lane first.rules first.journal last.journal

abbrev pub AllHold : Type 0
AllHold = (feeders : ℕ) (lines : Lines) (first last : LaneValue) → IsSegment feeders lines first last → IsLaneValue last

abbrev pub AllAreSame : Type 0
AllAreSame = (feeders : ℕ) (lines : Lines) (first last : LaneValue) → IsSegment feeders lines first last → (last.lane ≡ first.lane) × (last.rules ≡ first.rules)

abbrev pub AllAreKept : Type 0
AllAreKept = (feeders : ℕ) (lines : Lines) (first last : LaneValue) → IsSegment feeders lines first last → (last.types ≡ first.types) × (last.planned ≡ first.planned) × (last.takes_plans ≡ first.takes_plans)

pub fed_serves : AllGrow → AllHold → AllAreSame → AllAreKept → (s : Setting) (planned : List Fate) (lane : ℕ) (deeds : List Deed) (v w : LaneValue) (feeders : ℕ) (lines left : Lines) → IsServing s planned lane deeds v
    → IsSegment feeders lines v w → w.under_way ≡ [] → AreRising (lines_of (Feeds feeders lines left ∷ deeds)) → ((line : FeedLine) → IsAmong lines line → IsAmong left line ⊎ IsSome (outcome_in line.number w.journal))
    → IsServing s planned lane (Feeds feeders lines left ∷ deeds) w
fed_serves grows holds same kept s planned lane deeds v w feeders lines left is segment idle rising answered =
    let grew : Grows feeders lines (bucket_in s lane) s.rules v.journal w.journal =
    subst (λ (r : Rules). Grows feeders lines (bucket_in s lane) r v.journal w.journal) is.rules_are
    (subst (λ (b : Low). Grows feeders lines b v.rules v.journal w.journal) is.lane_is (grows feeders lines v w segment)) in
    record {
      lane_is = (same feeders lines v w segment).0 ∙ is.lane_is;
      rules_are = (same feeders lines v w segment).1 ∙ is.rules_are;
      types_are = (kept feeders lines v w segment).0 ∙ is.types_are;
      planned_are = (kept feeders lines v w segment).1 ∙ is.planned_are;
      idle = idle;
      rising = rising;
      life = (v.journal, (is.life, record { grew = grew; answered = answered }));
      holds = holds feeders lines v w segment;
    }
