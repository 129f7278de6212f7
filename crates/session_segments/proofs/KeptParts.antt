-- One part more keeps what the parts of a session keep.
use Rattle.std.proofs.Common.{◌≡◌, ◌⊎◌, ◌<◌, ◌≤◌, ◌+◌, ℕ, List, [], ◌∷◌, ◌++◌, None, Some, IsSome, sym, ap, ◌∙◌, subst, arith, length, length-append, take, slice_get}
use Rattle.carriers.specs.declared.fate.Fate.{Fate}
use Rattle.lane_calls.specs.LaneValues.{LaneValue}
use Rattle.lane_calls.specs.Lines.{FeedLine, Lines, last_line, AreRising}
use Rattle.lane_calls.specs.Readings.{outcome_in}
use Rattle.lane_calls.specs.Segments.{IsAmong, IsSegment}
use Rattle.lane_calls.proofs.Calling.{segment-kept}
use Rattle.lane_lives.specs.Settings.{IsSetting}
use Rattle.lane_lives.specs.declared.setting.Setting.{Setting}
use Rattle.lane_lives.specs.Lives.{Deed, Feeds, lines_of}
use Rattle.lane_lives.specs.Serving.{IsServing}
use Rattle.session_cluster.specs.Cells.{Cell}
use Rattle.session_cluster.specs.Deeds.{first_told, told_of, with_line, planned_for}
use Rattle.session_cluster.specs.Keeping.{HaveDone, IsReady}
use Rattle.session_cluster.specs.Searches.{fronts_of, fronts_now}
use Rattle.session_cluster.specs.Spans.{spans_of}
use Rattle.session_cluster.specs.Steps.{IsAfter}
use Rattle.session_cluster.specs.declared.asked.Asked.{Asked}
use Rattle.session_cluster.proofs.AlikeDeeds.{alike_low}
use Rattle.session_cluster.proofs.DeedLists.{told_append, planned_append}
use Rattle.session_cluster.proofs.SessionSteps.{done_more, done_as, lane_was, leaves_spans}
use Rattle.session_segments.specs.Parts.{AreStill, AreStillIn, Part, Alone, Together, asked_in}
use Rattle.session_segments.specs.FedDeeds.{fed_lines, fed_deeds}
use Rattle.session_segments.specs.Fed.{fronts_from, AreFedIn, AreDealt, IsFed, IsFedShort, HaveFed}
use Rattle.session_segments.proofs.PartLists.{told_still, planned_still, asked_push, fed_push, fed_same, fed_lines_is, rising_fed, fed_alike}
use Rattle.session_segments.proofs.SegmentFronts.{fronts_behind, fronts_later, take_short}

-- that a lane serves after a segment of further lines
abbrev pub AllServe : Type 0
AllServe = (s : Setting) (planned : List Fate) (lane : ℕ) (deeds : List Deed) (v w : LaneValue) (feeders : ℕ) (lines left : Lines) → IsServing s planned lane deeds v → IsSegment feeders lines v w → w.under_way ≡ []
    → AreRising (lines_of (Feeds feeders lines left ∷ deeds)) → ((line : FeedLine) → IsAmong lines line → IsAmong left line ⊎ IsSome (outcome_in line.number w.journal))
    → IsServing s planned lane (Feeds feeders lines left ∷ deeds) w

-- the next line may be dealt with
pub ready_of_parts : (s : Setting) (plans : ℕ → List Fate) (feeders line : ℕ) (ps : List Part) (c : Cell) → IsSetting s → HaveFed s plans feeders ps c → AreStillIn ps → line ≡ length (asked_in ps) + 1 → IsReady s line c
ready_of_parts s plans feeders line ps c setting done still next = record {
  setting = setting;
  plans = plans;
  commands = asked_in ps;
  deeds = λ lane. fed_deeds s c.upkeeps feeders lane ps;
  done = done;
  alike = fed_alike s c.upkeeps feeders ps still;
  next = next;
}

-- ---- a line alone

pub kept_alone : (s : Setting) (plans : ℕ → List Fate) (feeders k : ℕ) (ps : List Part) (c : Asked) (old new : Cell) → HaveFed s plans feeders ps old → AreStillIn ps → k ≡ length (asked_in ps) + 1
    → IsAfter s k c old new → HaveFed s plans feeders (ps ++ Alone c ∷ []) new
kept_alone s plans feeders k ps c old new done still is after =
    subst (λ (cs : List Asked). HaveDone s plans cs (λ lane. fed_deeds s new.upkeeps feeders lane (ps ++ Alone c ∷ [])) new) (sym (asked_push ps (Alone c)))
    (done_as s plans (asked_in ps ++ c ∷ []) (λ lane. with_line s new.upkeeps lane old.told k c (fed_deeds s old.upkeeps feeders lane ps)) (λ lane. fed_deeds s new.upkeeps feeders lane (ps ++ Alone c ∷ [])) new same
    (done_more s plans (asked_in ps) (λ lane. fed_deeds s old.upkeeps feeders lane ps) c old new k done (fed_alike s old.upkeeps feeders ps still) is after))
  where
    same : (lane : ℕ) → with_line s new.upkeeps lane old.told k c (fed_deeds s old.upkeeps feeders lane ps) ≡ fed_deeds s new.upkeeps feeders lane (ps ++ Alone c ∷ [])
    same lane =
        ap (λ t. with_line s new.upkeeps lane t k c (fed_deeds s old.upkeeps feeders lane ps)) done.told
        ∙ ap (λ ds. with_line s new.upkeeps lane (told_of s (asked_in ps)) k c ds) (sym (fed_same s old.upkeeps new.upkeeps k feeders lane ps (omega (arith, is)) (leaves_spans s c old new k after)))
        ∙ sym (fed_push s new.upkeeps feeders lane k ps (Alone c) is)

-- ---- a segment

module _ (serve : AllServe) (s : Setting) (plans : ℕ → List Fate) (feeders k : ℕ) (ps : List Part) (cs first : List Asked) (left : ℕ → Lines) (old new : Cell) (done : HaveFed s plans feeders ps old) (still_in : AreStillIn ps) (still : AreStill cs)
    (is : k ≡ length (asked_in ps) + 1) (fed : AreFedIn s feeders k cs left old new) (fewer : length first ≤ length cs) (now : AreDealt k first cs old new) where
  abbrev all : List Asked
  all = asked_in ps ++ cs

  abbrev deeds : ℕ → List Deed
  deeds lane = fed_deeds s old.upkeeps feeders lane ps

  abbrev more : ℕ → List Deed
  more lane = Feeds feeders (fed_lines s lane k cs []) (left lane) ∷ deeds lane

  rising : (lane : ℕ) → AreRising (lines_of (deeds lane)) → AreRising (lines_of (more lane))
  rising lane was =
      let low : last_line (lines_of (deeds lane)) ≤ length (asked_in ps) = alike_low s old.upkeeps (asked_in ps) deeds (fed_alike s old.upkeeps feeders ps still_in) lane in
      subst AreRising (fed_lines_is s lane k cs (lines_of (deeds lane))) (rising_fed s lane k cs (lines_of (deeds lane)) was (omega (arith, low, is)))

  serves : (lane : ℕ) (v w : LaneValue) → slice_get old.lanes lane ≡ Some v → slice_get new.lanes lane ≡ Some w → IsServing s (planned_for lane w.takes_plans (plans lane) all) lane (more lane) w
  serves lane v w was at =
      let f = fed.each lane v w was at in
      let serving = done.serving lane v was in
      let takes = (segment-kept feeders (fed_lines s lane k cs []) v w f.segment).2 in
      let planned : planned_for lane v.takes_plans (plans lane) (asked_in ps) ≡ planned_for lane w.takes_plans (plans lane) all
      = ap (λ t. planned_for lane t (plans lane) (asked_in ps)) (sym takes) ∙ sym (planned_append lane w.takes_plans (plans lane) (asked_in ps) cs ∙ planned_still lane w.takes_plans (planned_for lane w.takes_plans (plans lane) (asked_in ps)) cs still) in
      subst (λ (p : List Fate). IsServing s p lane (more lane) w) planned
      (serve s (planned_for lane v.takes_plans (plans lane) (asked_in ps)) lane (deeds lane) v w feeders (fed_lines s lane k cs []) (left lane) serving f.segment f.idle (rising lane serving.rising) f.answered)

  same : (lane : ℕ) → more lane ≡ fed_deeds s new.upkeeps feeders lane (ps ++ Together cs left ∷ [])
  same lane =
      sym (fed_push s old.upkeeps feeders lane k ps (Together cs left) is)
      ∙ ap (λ us. fed_deeds s us feeders lane (ps ++ Together cs left ∷ [])) (sym (ap (λ (x : Cell). x.upkeeps) now))

  count : new.dealt ≡ length all
  count = let dealt : new.dealt ≡ old.dealt + length cs = ap (λ (x : Cell). x.dealt) now in omega (arith, dealt, done.dealt, length-append (asked_in ps) cs)

  unread : (line : ℕ) → new.dealt < line → fronts_of line new.fronts ≡ None
  unread line late =
      let dealt : new.dealt ≡ old.dealt + length cs = ap (λ (x : Cell). x.dealt) now in
      let before : fronts_of line old.fronts ≡ None = done.unread line (omega (arith, late, dealt)) in
      ap (λ (x : Cell). fronts_of line x.fronts) now
      ∙ fronts_behind line old.fronts (fronts_from k first (fronts_now new.lanes)) before
      ∙ fronts_later k line first (fronts_now new.lanes) (omega (arith, late, dealt, is, done.dealt, fewer))

  all_done : HaveDone s plans all more new
  all_done = record {
    bits = ap (λ (x : Cell). x.bits) now ∙ done.bits;
    told = ap (λ (x : Cell). x.told) now ∙ (done.told ∙ sym (told_append (first_told s) (asked_in ps) cs ∙ told_still (told_of s (asked_in ps)) cs still));
    dealt = count;
    lanes = fed.count ∙ done.lanes;
    serving = λ lane w at. let was = lane_was old.lanes new.lanes lane w fed.count at in serves lane was.0 w was.1 at;
    unkept = λ line late.
        let dealt : new.dealt ≡ old.dealt + length cs = ap (λ (x : Cell). x.dealt) now in
        ap (λ (x : Cell). spans_of line x.upkeeps) now ∙ done.unkept line (omega (arith, late, dealt));
    unread = unread;
  }

  pub kept_together : HaveFed s plans feeders (ps ++ Together cs left ∷ []) new
  kept_together =
      subst (λ (ds : List Asked). HaveDone s plans ds (λ lane. fed_deeds s new.upkeeps feeders lane (ps ++ Together cs left ∷ [])) new) (sym (asked_push ps (Together cs left)))
      (done_as s plans all more (λ lane. fed_deeds s new.upkeeps feeders lane (ps ++ Together cs left ∷ [])) new same all_done)

pub kept_fed : AllServe → (s : Setting) (plans : ℕ → List Fate) (feeders k : ℕ) (ps : List Part) (cs : List Asked) (left : ℕ → Lines) (old new : Cell) → HaveFed s plans feeders ps old → AreStillIn ps → AreStill cs
    → k ≡ length (asked_in ps) + 1 → IsFed s feeders k cs left old new → HaveFed s plans feeders (ps ++ Together cs left ∷ []) new
kept_fed serve s plans feeders k ps cs left old new done still_in still is fed = kept_together serve s plans feeders k ps cs cs left old new done still_in still is fed.lanes (omega arith) fed.now

pub kept_short : AllServe → (s : Setting) (plans : ℕ → List Fate) (feeders k : ℕ) (ps : List Part) (cs : List Asked) (old new : Cell) → HaveFed s plans feeders ps old → AreStillIn ps → AreStill cs
    → k ≡ length (asked_in ps) + 1 → (f : IsFedShort s feeders k cs old new) → HaveFed s plans feeders (ps ++ Together cs f.left ∷ []) new
kept_short serve s plans feeders k ps cs old new done still_in still is f =
    kept_together serve s plans feeders k ps cs (take f.searched cs) f.left old new done still_in still is f.lanes (take_short f.searched cs) f.now
