-- The states, the deeds and the plans of a session's lines, line by line.
use Rattle.std.proofs.Common.{◌≡◌, ◌≢◌, ◌==◌, ◌<◌, ◌≤◌, ◌+◌, ℕ, suc, Bool, true, false, List, [], ◌∷◌, ◌++◌, Option, None, Some, option_and_then, slice_get, refl, sym, ap, ap₂, ◌∙◌, arith, length, if◌then◌else◌}
use Rattle.std.proofs.lemmas.Bool.Decides.{nat_tests}
use Rattle.carriers.specs.Fates.{planned_with}
use Rattle.carriers.specs.declared.fate.Fate.{Fate}
use Rattle.cluster_states.specs.Publishing.{Told, publish_fault}
use Rattle.cluster_states.specs.declared.cluster_state.ClusterState.{ClusterState}
use Rattle.cluster_states.specs.declared.states.PublishFault.{PublishFault}
use Rattle.messages.specs.declared.operation.Operation.{Operation}
use Rattle.lane_keeping.specs.Tidings.{stopped_next, started_next}
use Rattle.lane_journals.specs.declared.event.LaneEvent.TheVariants.{Published}
use Rattle.lane_lives.specs.declared.setting.Setting.{Setting}
use Rattle.lane_lives.specs.Lives.{Deed, Runs, Maintains, lines_of, AreAlone, states_in, deed_events}
use Rattle.lane_calls.specs.Lines.{last_line}
use Rattle.session_cluster.specs.Deeds.{first_told, told_with, told_next, told_by, told_of, with_operation, with_state, with_line, with_lines, deeds_of_lane, planned_next, planned_for}
use Rattle.session_cluster.specs.Lanes.{lane_of_id}
use Rattle.session_cluster.specs.Spans.{spans_of}
use Rattle.session_cluster.specs.declared.cluster.LineSpans.{LineSpans}
use Rattle.session_cluster.specs.declared.asked.Asked.{Asked}
use Rattle.session_cluster.specs.declared.asked.Asked.TheVariants as command

-- ---- lines behind others

pub told_append : (told : Told) (cs ds : List Asked) → told_by told (cs ++ ds) ≡ told_by (told_by told cs) ds
told_append told [] ds = refl
told_append told (x ∷ cs) ds = told_append (told_next x told) cs ds

pub with_append : (s : Setting) (us : List LineSpans) (lane : ℕ) (told : Told) (line : ℕ) (cs ds : List Asked) (deeds : List Deed)
    → with_lines s us lane told line (cs ++ ds) deeds ≡ with_lines s us lane (told_by told cs) (line + length cs) ds (with_lines s us lane told line cs deeds)
with_append s us lane told line [] ds deeds = ap (λ n. with_lines s us lane told n ds deeds) (omega arith)
with_append s us lane told line (x ∷ cs) ds deeds =
    let more = with_line s us lane told line x deeds in
    with_append s us lane (told_next x told) (suc line) cs ds more
    ∙ ap (λ n. with_lines s us lane (told_by (told_next x told) cs) n ds (with_lines s us lane (told_next x told) (suc line) cs more)) (omega arith)

pub planned_append : (lane : ℕ) (takes : Bool) (planned : List Fate) (cs ds : List Asked) → planned_for lane takes planned (cs ++ ds) ≡ planned_for lane takes (planned_for lane takes planned cs) ds
planned_append lane takes planned [] ds = refl
planned_append lane takes planned (x ∷ cs) ds = planned_append lane takes (planned_next lane takes x planned) cs ds

-- ---- one line more

pub told_push : (told : Told) (cs : List Asked) (c : Asked) → told_by told (cs ++ c ∷ []) ≡ told_next c (told_by told cs)
told_push told cs c = told_append told cs (c ∷ [])

with_push : (s : Setting) (us : List LineSpans) (lane : ℕ) (told : Told) (line : ℕ) (cs : List Asked) (c : Asked) (deeds : List Deed)
    → with_lines s us lane told line (cs ++ c ∷ []) deeds ≡ with_line s us lane (told_by told cs) (line + length cs) c (with_lines s us lane told line cs deeds)
with_push s us lane told line cs c deeds = with_append s us lane told line cs (c ∷ []) deeds

pub deeds_push : (s : Setting) (us : List LineSpans) (lane k : ℕ) (cs : List Asked) (c : Asked) → k ≡ length cs + 1
    → deeds_of_lane s us lane (cs ++ c ∷ []) ≡ with_line s us lane (told_of s cs) k c (deeds_of_lane s us lane cs)
deeds_push s us lane k cs c is =
    with_push s us lane (first_told s) 1 cs c [] ∙ ap (λ n. with_line s us lane (told_of s cs) n c (deeds_of_lane s us lane cs)) (omega (arith, is))

pub planned_push : (lane : ℕ) (takes : Bool) (planned : List Fate) (cs : List Asked) (c : Asked) → planned_for lane takes planned (cs ++ c ∷ []) ≡ planned_next lane takes c (planned_for lane takes planned cs)
planned_push lane takes planned cs c = planned_append lane takes planned cs (c ∷ [])

-- ---- the spans of a later line

-- where only the spans of another line differ, a line does the same
pub same_line : (s : Setting) (us ws : List LineSpans) (lane : ℕ) (told : Told) (line : ℕ) (c : Asked) (deeds : List Deed) → spans_of line ws ≡ spans_of line us → with_line s ws lane told line c deeds ≡ with_line s us lane told line c deeds
same_line s us ws lane told line command.Blank deeds same = refl
same_line s us ws lane told line command.TooLong deeds same = refl
same_line s us ws lane told line command.Barrier deeds same = refl
same_line s us ws lane told line (command.Bad why) deeds same = refl
same_line s us ws lane told line (command.Feed op via) deeds same = refl
same_line s us ws lane told line (command.State state deaf) deeds same = refl
same_line s us ws lane told line (command.BadState offset) deeds same = refl
same_line s us ws lane told line (command.Stop node) deeds same = refl
same_line s us ws lane told line (command.Start node) deeds same = refl
same_line s us ws lane told line (command.Net at fates) deeds same = refl
same_line s us ws lane told line (command.Search query) deeds same = refl
same_line s us ws lane told line (command.BadQuery offset) deeds same = refl
same_line s us ws lane told line command.Maintain deeds same = ap (λ o. Maintains (option_and_then (λ spans. slice_get spans lane) o) ∷ deeds) same

pub same_lines : (s : Setting) (us ws : List LineSpans) (k lane : ℕ) → ((line : ℕ) → k ≢ line → spans_of line ws ≡ spans_of line us) → (told : Told) (line : ℕ) (cs : List Asked) (deeds : List Deed) → line + length cs ≤ k
    → with_lines s ws lane told line cs deeds ≡ with_lines s us lane told line cs deeds
same_lines s us ws k lane same told line [] deeds low = refl
same_lines s us ws k lane same told line (c ∷ cs) deeds low =
    ap (λ ds. with_lines s ws lane (told_next c told) (suc line) cs ds) (same_line s us ws lane told line c deeds (same line (λ e. absurd (omega (arith, e, low)))))
    ∙ same_lines s us ws k lane same (told_next c told) (suc line) cs (with_line s us lane told line c deeds) (omega (arith, low))

-- the deeds of the lines before a line are the same where only its own spans differ
pub deeds_same : (s : Setting) (us ws : List LineSpans) (k lane : ℕ) (cs : List Asked) → length cs < k → ((line : ℕ) → k ≢ line → spans_of line ws ≡ spans_of line us) → deeds_of_lane s ws lane cs ≡ deeds_of_lane s us lane cs
deeds_same s us ws k lane cs low same = same_lines s us ws k lane same (first_told s) 1 cs [] (omega (arith, low))

-- ---- the lane of an operation, and others

same_lane : (a b : ℕ) → a ≡ b → (a == b) ≡ true
same_lane a b h = grind (arith, nat_tests)

other_lane : (a b : ℕ) → a ≢ b → (a == b) ≡ false
other_lane a b h = grind (arith, nat_tests)

pub with_own : (s : Setting) (lane line : ℕ) (op : Operation) (via : Option ℕ) (deeds : List Deed) → lane_of_id s.bits op.id ≡ lane
    → with_operation s lane line op via deeds ≡ Runs (record { number = line; operation = op; via = via }) ∷ deeds
with_own s lane line op via deeds h = ap (λ t. if t then Runs (record { number = line; operation = op; via = via }) ∷ deeds else deeds) (same_lane _ _ h)

pub with_other : (s : Setting) (lane line : ℕ) (op : Operation) (via : Option ℕ) (deeds : List Deed) → lane_of_id s.bits op.id ≢ lane → with_operation s lane line op via deeds ≡ deeds
with_other s lane line op via deeds h = ap (λ t. if t then Runs (record { number = line; operation = op; via = via }) ∷ deeds else deeds) (other_lane _ _ h)

pub plan_own : (lane at : ℕ) (takes : Bool) (fates planned : List Fate) → at ≡ lane → planned_next lane takes (command.Net at fates) planned ≡ planned_with takes planned fates
plan_own lane at takes fates planned h = ap (λ t. if t then planned_with takes planned fates else planned) (same_lane _ _ h)

pub plan_other : (lane at : ℕ) (takes : Bool) (fates planned : List Fate) → at ≢ lane → planned_next lane takes (command.Net at fates) planned ≡ planned
plan_other lane at takes fates planned h = ap (λ t. if t then planned_with takes planned fates else planned) (other_lane _ _ h)

-- ---- no line among the deeds has a greater number than there are lines

last_if : (t : Bool) (line : ℕ) (op : Operation) (via : Option ℕ) (deeds : List Deed) → last_line (lines_of deeds) < line
    → last_line (lines_of (if t then Runs (record { number = line; operation = op; via = via }) ∷ deeds else deeds)) < suc line
last_if true line op via deeds h = omega arith
last_if false line op via deeds h = omega (arith, h)

last_state : (o : Option PublishFault) (state : ClusterState) (deaf line : ℕ) (deeds : List Deed) → last_line (lines_of deeds) < line → last_line (lines_of (with_state o state deaf deeds)) < suc line
last_state None state deaf line deeds h = omega (arith, h)
last_state (Some why) state deaf line deeds h = omega (arith, h)

last_with : (s : Setting) (us : List LineSpans) (lane : ℕ) (told : Told) (line : ℕ) (c : Asked) (deeds : List Deed) → last_line (lines_of deeds) < line → last_line (lines_of (with_line s us lane told line c deeds)) < suc line
last_with s us lane told line command.Blank deeds h = omega (arith, h)
last_with s us lane told line command.TooLong deeds h = omega (arith, h)
last_with s us lane told line command.Barrier deeds h = omega (arith, h)
last_with s us lane told line (command.Bad why) deeds h = omega (arith, h)
last_with s us lane told line (command.Feed op via) deeds h = last_if (lane_of_id s.bits op.id == lane) line op via deeds h
last_with s us lane told line (command.State state deaf) deeds h = last_state (publish_fault told state) state deaf line deeds h
last_with s us lane told line (command.BadState offset) deeds h = omega (arith, h)
last_with s us lane told line (command.Stop node) deeds h = omega (arith, h)
last_with s us lane told line (command.Start node) deeds h = omega (arith, h)
last_with s us lane told line (command.Net at fates) deeds h = omega (arith, h)
last_with s us lane told line command.Maintain deeds h = omega (arith, h)
last_with s us lane told line (command.Search query) deeds h = omega (arith, h)
last_with s us lane told line (command.BadQuery offset) deeds h = omega (arith, h)

last_low : (s : Setting) (us : List LineSpans) (lane : ℕ) (told : Told) (line : ℕ) (cs : List Asked) (deeds : List Deed) → last_line (lines_of deeds) < line → last_line (lines_of (with_lines s us lane told line cs deeds)) < line + length cs
last_low s us lane told line [] deeds h = omega (arith, h)
last_low s us lane told line (c ∷ cs) deeds h =
    let low = last_low s us lane (told_next c told) (suc line) cs (with_line s us lane told line c deeds) (last_with s us lane told line c deeds h) in
    omega (arith, low)

pub lines_low : (s : Setting) (us : List LineSpans) (lane : ℕ) (cs : List Asked) → last_line (lines_of (deeds_of_lane s us lane cs)) ≤ length cs
lines_low s us lane cs = let low = last_low s us lane (first_told s) 1 cs [] (omega arith) in omega (arith, low)

-- ---- no feeders are among the deeds

alone_if : (t : Bool) (line : ℕ) (op : Operation) (via : Option ℕ) (deeds : List Deed) → AreAlone deeds → AreAlone (if t then Runs (record { number = line; operation = op; via = via }) ∷ deeds else deeds)
alone_if true line op via deeds h = h
alone_if false line op via deeds h = h

alone_state : (o : Option PublishFault) (state : ClusterState) (deaf : ℕ) (deeds : List Deed) → AreAlone deeds → AreAlone (with_state o state deaf deeds)
alone_state None state deaf deeds h = h
alone_state (Some why) state deaf deeds h = h

alone_with : (s : Setting) (us : List LineSpans) (lane : ℕ) (told : Told) (line : ℕ) (c : Asked) (deeds : List Deed) → AreAlone deeds → AreAlone (with_line s us lane told line c deeds)
alone_with s us lane told line command.Blank deeds h = h
alone_with s us lane told line command.TooLong deeds h = h
alone_with s us lane told line command.Barrier deeds h = h
alone_with s us lane told line (command.Bad why) deeds h = h
alone_with s us lane told line (command.Feed op via) deeds h = alone_if (lane_of_id s.bits op.id == lane) line op via deeds h
alone_with s us lane told line (command.State state deaf) deeds h = alone_state (publish_fault told state) state deaf deeds h
alone_with s us lane told line (command.BadState offset) deeds h = h
alone_with s us lane told line (command.Stop node) deeds h = h
alone_with s us lane told line (command.Start node) deeds h = h
alone_with s us lane told line (command.Net at fates) deeds h = h
alone_with s us lane told line command.Maintain deeds h = h
alone_with s us lane told line (command.Search query) deeds h = h
alone_with s us lane told line (command.BadQuery offset) deeds h = h

alone_by : (s : Setting) (us : List LineSpans) (lane : ℕ) (told : Told) (line : ℕ) (cs : List Asked) (deeds : List Deed) → AreAlone deeds → AreAlone (with_lines s us lane told line cs deeds)
alone_by s us lane told line [] deeds h = h
alone_by s us lane told line (c ∷ cs) deeds h = alone_by s us lane (told_next c told) (suc line) cs (with_line s us lane told line c deeds) (alone_with s us lane told line c deeds h)

pub lines_alone : (s : Setting) (us : List LineSpans) (lane : ℕ) (cs : List Asked) → AreAlone (deeds_of_lane s us lane cs)
lines_alone s us lane cs = alone_by s us lane (first_told s) 1 cs [] tt

-- ---- the states among the deeds are those that are told

states_operation : (s : Setting) (lane line : ℕ) (op : Operation) (via : Option ℕ) (deeds : List Deed) (t : Bool) → states_in s (if t then Runs (record { number = line; operation = op; via = via }) ∷ deeds else deeds) ≡ states_in s deeds
states_operation s lane line op via deeds true = refl
states_operation s lane line op via deeds false = refl

states_state : (s : Setting) (o : Option PublishFault) (state : ClusterState) (deaf : ℕ) (told : Told) (deeds : List Deed) → states_in s deeds ≡ told.states → states_in s (with_state o state deaf deeds) ≡ (told_with o state told).states
states_state s None state deaf told deeds h = ap (λ l. l ++ state ∷ []) h
states_state s (Some why) state deaf told deeds h = h

states_with : (s : Setting) (us : List LineSpans) (lane : ℕ) (told : Told) (line : ℕ) (c : Asked) (deeds : List Deed) → states_in s deeds ≡ told.states → states_in s (with_line s us lane told line c deeds) ≡ (told_next c told).states
states_with s us lane told line command.Blank deeds h = h
states_with s us lane told line command.TooLong deeds h = h
states_with s us lane told line command.Barrier deeds h = h
states_with s us lane told line (command.Bad why) deeds h = h
states_with s us lane told line (command.Feed op via) deeds h = states_operation s lane line op via deeds (lane_of_id s.bits op.id == lane) ∙ h
states_with s us lane told line (command.State state deaf) deeds h = states_state s (publish_fault told state) state deaf told deeds h
states_with s us lane told line (command.BadState offset) deeds h = h
states_with s us lane told line (command.Stop node) deeds h = h
states_with s us lane told line (command.Start node) deeds h = h
states_with s us lane told line (command.Net at fates) deeds h = h
states_with s us lane told line command.Maintain deeds h = h
states_with s us lane told line (command.Search query) deeds h = h
states_with s us lane told line (command.BadQuery offset) deeds h = h

states_by : (s : Setting) (us : List LineSpans) (lane : ℕ) (told : Told) (line : ℕ) (cs : List Asked) (deeds : List Deed) → states_in s deeds ≡ told.states → states_in s (with_lines s us lane told line cs deeds) ≡ (told_by told cs).states
states_by s us lane told line [] deeds h = h
states_by s us lane told line (c ∷ cs) deeds h = states_by s us lane (told_next c told) (suc line) cs (with_line s us lane told line c deeds) (states_with s us lane told line c deeds h)

acks_with : (o : Option PublishFault) (state : ClusterState) (told : Told) → (told_with o state told).acks ≡ told.acks
acks_with None state told = refl
acks_with (Some why) state told = refl

acks_next : (c : Asked) (told : Told) → (told_next c told).acks ≡ told.acks
acks_next command.Blank told = refl
acks_next command.TooLong told = refl
acks_next command.Barrier told = refl
acks_next (command.Bad why) told = refl
acks_next (command.Feed op via) told = refl
acks_next (command.State state deaf) told = acks_with (publish_fault told state) state told
acks_next (command.BadState offset) told = refl
acks_next (command.Stop node) told = refl
acks_next (command.Start node) told = refl
acks_next (command.Net at fates) told = refl
acks_next command.Maintain told = refl
acks_next (command.Search query) told = refl
acks_next (command.BadQuery offset) told = refl

acks_by : (told : Told) (cs : List Asked) → (told_by told cs).acks ≡ told.acks
acks_by told [] = refl
acks_by told (c ∷ cs) = acks_by (told_next c told) cs ∙ acks_next c told

abbrev pub told_as : ℕ → List ClusterState → Told
told_as acks states = record { acks = acks; states = states }

pub deeds_told : (s : Setting) (us : List LineSpans) (lane : ℕ) (cs : List Asked) → told_as (s.rules).acks (states_in s (deeds_of_lane s us lane cs)) ≡ told_of s cs
deeds_told s us lane cs = ap₂ told_as (sym (acks_by (first_told s) cs)) (states_by s us lane (first_told s) 1 cs [] refl)

-- ---- the events of states and nodes are the same in every lane

events_operation : (s : Setting) (line : ℕ) (op : Operation) (via : Option ℕ) (deeds : List Deed) (t : Bool) → deed_events s (if t then Runs (record { number = line; operation = op; via = via }) ∷ deeds else deeds) ≡ deed_events s deeds
events_operation s line op via deeds true = refl
events_operation s line op via deeds false = refl

events_state : (s : Setting) (o : Option PublishFault) (state : ClusterState) (deaf : ℕ) (ds es : List Deed) → deed_events s ds ≡ deed_events s es → deed_events s (with_state o state deaf ds) ≡ deed_events s (with_state o state deaf es)
events_state s None state deaf ds es h = ap (λ J. Published state ∷ J) h
events_state s (Some why) state deaf ds es h = h

events_with : (s : Setting) (us : List LineSpans) (lane other : ℕ) (told : Told) (line : ℕ) (c : Asked) (ds es : List Deed) → deed_events s ds ≡ deed_events s es
    → deed_events s (with_line s us lane told line c ds) ≡ deed_events s (with_line s us other told line c es)
events_with s us lane other told line command.Blank ds es h = h
events_with s us lane other told line command.TooLong ds es h = h
events_with s us lane other told line command.Barrier ds es h = h
events_with s us lane other told line (command.Bad why) ds es h = h
events_with s us lane other told line (command.Feed op via) ds es h =
    events_operation s line op via ds (lane_of_id s.bits op.id == lane) ∙ h ∙ sym (events_operation s line op via es (lane_of_id s.bits op.id == other))
events_with s us lane other told line (command.State state deaf) ds es h = events_state s (publish_fault told state) state deaf ds es h
events_with s us lane other told line (command.BadState offset) ds es h = h
events_with s us lane other told line (command.Stop node) ds es h = ap (stopped_next node) h
events_with s us lane other told line (command.Start node) ds es h = ap (started_next node) h
events_with s us lane other told line (command.Net at fates) ds es h = h
events_with s us lane other told line command.Maintain ds es h = h
events_with s us lane other told line (command.Search query) ds es h = h
events_with s us lane other told line (command.BadQuery offset) ds es h = h

events_by : (s : Setting) (us : List LineSpans) (lane other : ℕ) (told : Told) (line : ℕ) (cs : List Asked) (ds es : List Deed) → deed_events s ds ≡ deed_events s es
    → deed_events s (with_lines s us lane told line cs ds) ≡ deed_events s (with_lines s us other told line cs es)
events_by s us lane other told line [] ds es h = h
events_by s us lane other told line (c ∷ cs) ds es h =
    events_by s us lane other (told_next c told) (suc line) cs (with_line s us lane told line c ds) (with_line s us other told line c es) (events_with s us lane other told line c ds es h)

pub deeds_together : (s : Setting) (us : List LineSpans) (lane other : ℕ) (cs : List Asked) → deed_events s (deeds_of_lane s us lane cs) ≡ deed_events s (deeds_of_lane s us other cs)
deeds_together s us lane other cs = events_by s us lane other (first_told s) 1 cs [] [] refl
