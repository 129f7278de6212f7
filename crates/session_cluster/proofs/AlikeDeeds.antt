-- Deeds that are like those of the lines: of the same lines, states and nodes, whatever ran at once.
use Rattle.std.proofs.Common.{◌≡◌, ◌==◌, ◌≤◌, ◌+◌, ℕ, suc, Bool, true, false, List, [], ◌∷◌, ◌++◌, Option, None, Some, refl, sym, ap, ◌∙◌, subst, length, if◌then◌else◌}
use Rattle.carriers.specs.declared.fate.Fate.{Fate}
use Rattle.cluster_states.specs.Publishing.{Told, publish_fault}
use Rattle.cluster_states.specs.declared.cluster_state.ClusterState.{ClusterState}
use Rattle.cluster_states.specs.declared.states.PublishFault.{PublishFault}
use Rattle.lane_keeping.specs.Tidings.{stopped_next, started_next}
use Rattle.lane_journals.specs.declared.event.LaneEvent.TheVariants.{Published}
use Rattle.lane_calls.specs.Lines.{FeedLine, Lines, last_line}
use Rattle.lane_lives.specs.Settings.{IsSetting}
use Rattle.lane_lives.specs.declared.setting.Setting.{Setting}
use Rattle.lane_lives.specs.Lives.{Deed, Runs, lines_of}
use Rattle.session_cluster.specs.Cells.{Cell}
use Rattle.session_cluster.specs.Deeds.{told_next, with_state, with_line, with_lines, deeds_of_lane}
use Rattle.session_cluster.specs.Keeping.{IsKept, AreAlike, AreAllAlike, IsReady}
use Rattle.session_cluster.specs.Lanes.{lane_of_id}
use Rattle.session_cluster.specs.declared.cluster.LineSpans.{LineSpans}
use Rattle.session_cluster.specs.declared.asked.Asked.{Asked}
use Rattle.session_cluster.specs.declared.asked.Asked.TheVariants as command
use Rattle.session_cluster.proofs.DeedLists.{lines_low}

-- deeds are like themselves
pub alike_self : (s : Setting) (deeds : List Deed) → AreAlike s deeds deeds
alike_self s deeds = record { lines = refl; states = refl; events = refl }

pub alike_then : (s : Setting) (ds es fs : List Deed) → AreAlike s ds es → AreAlike s es fs → AreAlike s ds fs
alike_then s ds es fs a b = record { lines = a.lines ∙ b.lines; states = a.states ∙ b.states; events = a.events ∙ b.events }

-- the next line is ready after lines one after the other
pub ready_of_kept : (s : Setting) (plans : ℕ → List Fate) (cs : List Asked) (line : ℕ) (c : Cell) → IsSetting s → IsKept s plans cs c → line ≡ length cs + 1 → IsReady s line c
ready_of_kept s plans cs line c setting kept next = record {
  setting = setting;
  plans = plans;
  commands = cs;
  deeds = λ lane. deeds_of_lane s c.upkeeps lane cs;
  done = kept;
  alike = λ lane. alike_self s (deeds_of_lane s c.upkeeps lane cs);
  next = next;
}

-- ---- numbers

-- no line among the deeds has a greater number
abbrev pub AreLow : (ℕ → List Deed) → ℕ → Type 0
AreLow deeds n = (lane : ℕ) → last_line (lines_of (deeds lane)) ≤ n

pub alike_low : (s : Setting) (us : List LineSpans) (cs : List Asked) (deeds : ℕ → List Deed) → AreAllAlike s us cs deeds → AreLow deeds (length cs)
alike_low s us cs deeds alike lane = subst (λ (ls : Lines). last_line ls ≤ length cs) (sym (alike lane).lines) (lines_low s us lane cs)

-- ---- a line more

alike_run : (s : Setting) (t : Bool) (line : FeedLine) (ds es : List Deed) → AreAlike s ds es → AreAlike s (if t then Runs line ∷ ds else ds) (if t then Runs line ∷ es else es)
alike_run s true line ds es a = record { lines = ap (λ (ls : Lines). line ∷ ls) a.lines; states = a.states; events = a.events }
alike_run s false line ds es a = a

alike_state : (s : Setting) (o : Option PublishFault) (state : ClusterState) (deaf : ℕ) (ds es : List Deed) → AreAlike s ds es → AreAlike s (with_state o state deaf ds) (with_state o state deaf es)
alike_state s None state deaf ds es a = record { lines = a.lines; states = ap (λ (ss : List ClusterState). ss ++ state ∷ []) a.states; events = ap (λ J. Published state ∷ J) a.events }
alike_state s (Some why) state deaf ds es a = a

pub alike_line : (s : Setting) (us : List LineSpans) (lane : ℕ) (told : Told) (line : ℕ) (c : Asked) (ds es : List Deed) → AreAlike s ds es → AreAlike s (with_line s us lane told line c ds) (with_line s us lane told line c es)
alike_line s us lane told line command.Blank ds es a = a
alike_line s us lane told line command.TooLong ds es a = a
alike_line s us lane told line command.Barrier ds es a = a
alike_line s us lane told line (command.Bad why) ds es a = a
alike_line s us lane told line (command.Feed op via) ds es a = alike_run s (lane_of_id s.bits op.id == lane) (record { number = line; operation = op; via = via }) ds es a
alike_line s us lane told line (command.State state deaf) ds es a = alike_state s (publish_fault told state) state deaf ds es a
alike_line s us lane told line (command.BadState offset) ds es a = a
alike_line s us lane told line (command.Stop node) ds es a = record { lines = a.lines; states = a.states; events = ap (stopped_next node) a.events }
alike_line s us lane told line (command.Start node) ds es a = record { lines = a.lines; states = a.states; events = ap (started_next node) a.events }
alike_line s us lane told line (command.Net at fates) ds es a = a
alike_line s us lane told line command.Maintain ds es a = record { lines = a.lines; states = a.states; events = a.events }
alike_line s us lane told line (command.Search query) ds es a = a
alike_line s us lane told line (command.BadQuery offset) ds es a = a

pub alike_lines : (s : Setting) (us : List LineSpans) (lane : ℕ) (told : Told) (line : ℕ) (cs : List Asked) (ds es : List Deed) → AreAlike s ds es → AreAlike s (with_lines s us lane told line cs ds) (with_lines s us lane told line cs es)
alike_lines s us lane told line [] ds es a = a
alike_lines s us lane told line (c ∷ cs) ds es a =
    alike_lines s us lane (told_next c told) (suc line) cs (with_line s us lane told line c ds) (with_line s us lane told line c es) (alike_line s us lane told line c ds es a)
