-- The deeds of parts, part by part.
use Rattle.std.proofs.Common.{◌≡◌, ◌≢◌, ◌==◌, ◌<◌, ◌≤◌, ◌+◌, ℕ, suc, Bool, true, false, List, [], ◌∷◌, ◌++◌, Option, refl, sym, ap, ◌∙◌, subst, arith, length, length-append, append_assoc, append-nil, if◌then◌else◌}
use Rattle.carriers.specs.declared.fate.Fate.{Fate}
use Rattle.cluster_states.specs.Publishing.{Told}
use Rattle.messages.specs.declared.operation.Operation.{Operation}
use Rattle.lane_calls.specs.Lines.{FeedLine, Lines, last_line, AreRising}
use Rattle.lane_lives.specs.declared.setting.Setting.{Setting}
use Rattle.lane_lives.specs.Lives.{Deed, Runs, Feeds, lines_of, states_in, deed_events}
use Rattle.session_cluster.specs.Asking.{IsOwnAsked}
use Rattle.session_cluster.specs.Deeds.{first_told, told_next, told_by, told_of, with_line, with_lines, planned_next, planned_for}
use Rattle.session_cluster.specs.Keeping.{AreAlike, AreAllAlike}
use Rattle.session_cluster.specs.Lanes.{lane_of_id}
use Rattle.session_cluster.specs.Spans.{spans_of}
use Rattle.session_cluster.specs.declared.cluster.LineSpans.{LineSpans}
use Rattle.session_cluster.specs.declared.asked.Asked.{Asked}
use Rattle.session_cluster.specs.declared.asked.Asked.TheVariants as command
use Rattle.session_cluster.proofs.AlikeDeeds.{alike_self, alike_line}
use Rattle.session_cluster.proofs.DeedLists.{told_append, with_append, same_line}
use Rattle.session_segments.specs.Parts.{cuts, AreStill, AreOwn, Part, Alone, Together, asked_of, asked_in, AreStillIn, most_together, IsFull, AreCut, AreEnded, NoneLeft}
use Rattle.session_segments.specs.FedDeeds.{with_fed, fed_lines, with_part, with_parts, fed_deeds}
use Rattle.session_segments.proofs.PartPlaces.{parts_append}

clash : {A : Type 0} → true ≡ false → A
clash e = absurd (let h : true ≡ false = e in cc)

-- ---- lines that cut nothing

pub still_push : (cs : List Asked) (c : Asked) → AreStill cs → cuts c ≡ false → AreStill (cs ++ c ∷ [])
still_push [] c still is = (is, tt)
still_push (x ∷ cs) c still is = (still.0, still_push cs c still.1 is)

pub own_push : (bits : ℕ) (cs : List Asked) (c : Asked) → AreOwn bits cs → IsOwnAsked bits c → AreOwn bits (cs ++ c ∷ [])
own_push bits [] c own is = (is, tt)
own_push bits (x ∷ cs) c own is = (own.0, own_push bits cs c own.1 is)

-- no state is told
next_still : (c : Asked) (told : Told) → cuts c ≡ false → told_next c told ≡ told
next_still command.Blank told h = refl
next_still command.TooLong told h = refl
next_still command.Barrier told h = refl
next_still (command.Bad why) told h = refl
next_still (command.Feed op via) told h = refl
next_still (command.State state deaf) told h = clash h
next_still (command.BadState offset) told h = refl
next_still (command.Stop node) told h = refl
next_still (command.Start node) told h = refl
next_still (command.Net at fates) told h = refl
next_still command.Maintain told h = refl
next_still (command.Search query) told h = refl
next_still (command.BadQuery offset) told h = refl

pub told_still : (told : Told) (cs : List Asked) → AreStill cs → told_by told cs ≡ told
told_still told [] still = refl
told_still told (c ∷ cs) still = ap (λ (t : Told). told_by t cs) (next_still c told still.0) ∙ told_still told cs still.1

-- no fate is planned
plan_still : (lane : ℕ) (takes : Bool) (c : Asked) (planned : List Fate) → cuts c ≡ false → planned_next lane takes c planned ≡ planned
plan_still lane takes command.Blank planned h = refl
plan_still lane takes command.TooLong planned h = refl
plan_still lane takes command.Barrier planned h = refl
plan_still lane takes (command.Bad why) planned h = refl
plan_still lane takes (command.Feed op via) planned h = refl
plan_still lane takes (command.State state deaf) planned h = refl
plan_still lane takes (command.BadState offset) planned h = refl
plan_still lane takes (command.Stop node) planned h = refl
plan_still lane takes (command.Start node) planned h = refl
plan_still lane takes (command.Net at fates) planned h = clash h
plan_still lane takes command.Maintain planned h = refl
plan_still lane takes (command.Search query) planned h = refl
plan_still lane takes (command.BadQuery offset) planned h = refl

pub planned_still : (lane : ℕ) (takes : Bool) (planned : List Fate) (cs : List Asked) → AreStill cs → planned_for lane takes planned cs ≡ planned
planned_still lane takes planned [] still = refl
planned_still lane takes planned (c ∷ cs) still = ap (λ (p : List Fate). planned_for lane takes p cs) (plan_still lane takes c planned still.0) ∙ planned_still lane takes planned cs still.1

-- ---- one part more

pub asked_push : (ps : List Part) (p : Part) → asked_in (ps ++ p ∷ []) ≡ asked_in ps ++ asked_of p
asked_push [] p = append-nil (asked_of p)
asked_push (x ∷ ps) p = ap (λ (cs : List Asked). asked_of x ++ cs) (asked_push ps p) ∙ sym (append_assoc (asked_of x) (asked_in ps) (asked_of p))

pub parts_push : (s : Setting) (us : List LineSpans) (feeders lane : ℕ) (told : Told) (line : ℕ) (ps : List Part) (p : Part) (deeds : List Deed)
    → with_parts s us feeders lane told line (ps ++ p ∷ []) deeds
    ≡ with_part s us feeders lane (told_by told (asked_in ps)) (line + length (asked_in ps)) p (with_parts s us feeders lane told line ps deeds)
parts_push s us feeders lane told line ps p deeds = parts_append s us feeders lane told line ps (p ∷ []) deeds

-- the deeds with one part more, of which the first line has this number
pub fed_push : (s : Setting) (us : List LineSpans) (feeders lane k : ℕ) (ps : List Part) (p : Part) → k ≡ length (asked_in ps) + 1
    → fed_deeds s us feeders lane (ps ++ p ∷ []) ≡ with_part s us feeders lane (told_of s (asked_in ps)) k p (fed_deeds s us feeders lane ps)
fed_push s us feeders lane k ps p is =
    parts_push s us feeders lane (first_told s) 1 ps p []
    ∙ ap (λ n. with_part s us feeders lane (told_of s (asked_in ps)) n p (fed_deeds s us feeders lane ps)) (omega (arith, is))

-- ---- the spans of a later line

same_part : (s : Setting) (us ws : List LineSpans) (k feeders lane : ℕ) → ((line : ℕ) → k ≢ line → spans_of line ws ≡ spans_of line us) → (told : Told) (line : ℕ) (p : Part) (deeds : List Deed)
    → line + length (asked_of p) ≤ k → with_part s ws feeders lane told line p deeds ≡ with_part s us feeders lane told line p deeds
same_part s us ws k feeders lane same told line (Alone c) deeds low = same_line s us ws lane told line c deeds (same line (λ e. absurd (omega (arith, e, low))))
same_part s us ws k feeders lane same told line (Together cs left) deeds low = refl

same_parts : (s : Setting) (us ws : List LineSpans) (k feeders lane : ℕ) → ((line : ℕ) → k ≢ line → spans_of line ws ≡ spans_of line us) → (told : Told) (line : ℕ) (ps : List Part) (deeds : List Deed)
    → line + length (asked_in ps) ≤ k → with_parts s ws feeders lane told line ps deeds ≡ with_parts s us feeders lane told line ps deeds
same_parts s us ws k feeders lane same told line [] deeds low = refl
same_parts s us ws k feeders lane same told line (p ∷ ps) deeds low =
    let all = length-append (asked_of p) (asked_in ps) in
    ap (λ (ds : List Deed). with_parts s ws feeders lane (told_by told (asked_of p)) (line + length (asked_of p)) ps ds) (same_part s us ws k feeders lane same told line p deeds (omega (arith, low, all)))
    ∙ same_parts s us ws k feeders lane same (told_by told (asked_of p)) (line + length (asked_of p)) ps (with_part s us feeders lane told line p deeds) (omega (arith, low, all))

-- the deeds of the parts before a line are the same where only its own spans differ
pub fed_same : (s : Setting) (us ws : List LineSpans) (k feeders lane : ℕ) (ps : List Part) → length (asked_in ps) < k → ((line : ℕ) → k ≢ line → spans_of line ws ≡ spans_of line us)
    → fed_deeds s ws feeders lane ps ≡ fed_deeds s us feeders lane ps
fed_same s us ws k feeders lane ps low same = same_parts s us ws k feeders lane same (first_told s) 1 ps [] (omega (arith, low))

-- ---- the lines of a segment in a lane

feed_append : (t : Bool) (line : FeedLine) (lines : Lines) → (if t then line ∷ lines else lines) ≡ (if t then line ∷ [] else []) ++ lines
feed_append true line lines = refl
feed_append false line lines = refl

-- a line stands in front of others
pub with_fed_is : (s : Setting) (lane line : ℕ) (c : Asked) (lines : Lines) → with_fed s lane line c lines ≡ with_fed s lane line c [] ++ lines
with_fed_is s lane line command.Blank lines = refl
with_fed_is s lane line command.TooLong lines = refl
with_fed_is s lane line command.Barrier lines = refl
with_fed_is s lane line (command.Bad why) lines = refl
with_fed_is s lane line (command.Feed op via) lines = feed_append (lane_of_id s.bits op.id == lane) (record { number = line; operation = op; via = via }) lines
with_fed_is s lane line (command.State state deaf) lines = refl
with_fed_is s lane line (command.BadState offset) lines = refl
with_fed_is s lane line (command.Stop node) lines = refl
with_fed_is s lane line (command.Start node) lines = refl
with_fed_is s lane line (command.Net at fates) lines = refl
with_fed_is s lane line command.Maintain lines = refl
with_fed_is s lane line (command.Search query) lines = refl
with_fed_is s lane line (command.BadQuery offset) lines = refl

pub fed_lines_is : (s : Setting) (lane line : ℕ) (cs : List Asked) (lines : Lines) → fed_lines s lane line cs lines ≡ fed_lines s lane line cs [] ++ lines
fed_lines_is s lane line [] lines = refl
fed_lines_is s lane line (c ∷ cs) lines =
    fed_lines_is s lane (suc line) cs (with_fed s lane line c lines)
    ∙ ap (λ (ls : Lines). fed_lines s lane (suc line) cs [] ++ ls) (with_fed_is s lane line c lines)
    ∙ sym (append_assoc (fed_lines s lane (suc line) cs []) (with_fed s lane line c []) lines)
    ∙ ap (λ (ls : Lines). ls ++ lines) (sym (fed_lines_is s lane (suc line) cs (with_fed s lane line c [])))

-- each has a greater number than those before it
rising_if : (t : Bool) (line : ℕ) (op : Operation) (via : Option ℕ) (lines : Lines) → AreRising lines → last_line lines < line
    → AreRising (if t then record { number = line; operation = op; via = via } ∷ lines else lines) × (last_line (if t then record { number = line; operation = op; via = via } ∷ lines else lines) < suc line)
rising_if true line op via lines rising low = ((low, rising), omega arith)
rising_if false line op via lines rising low = (rising, omega (arith, low))

rising_with : (s : Setting) (lane line : ℕ) (c : Asked) (lines : Lines) → AreRising lines → last_line lines < line → AreRising (with_fed s lane line c lines) × (last_line (with_fed s lane line c lines) < suc line)
rising_with s lane line command.Blank lines rising low = (rising, omega (arith, low))
rising_with s lane line command.TooLong lines rising low = (rising, omega (arith, low))
rising_with s lane line command.Barrier lines rising low = (rising, omega (arith, low))
rising_with s lane line (command.Bad why) lines rising low = (rising, omega (arith, low))
rising_with s lane line (command.Feed op via) lines rising low = rising_if (lane_of_id s.bits op.id == lane) line op via lines rising low
rising_with s lane line (command.State state deaf) lines rising low = (rising, omega (arith, low))
rising_with s lane line (command.BadState offset) lines rising low = (rising, omega (arith, low))
rising_with s lane line (command.Stop node) lines rising low = (rising, omega (arith, low))
rising_with s lane line (command.Start node) lines rising low = (rising, omega (arith, low))
rising_with s lane line (command.Net at fates) lines rising low = (rising, omega (arith, low))
rising_with s lane line command.Maintain lines rising low = (rising, omega (arith, low))
rising_with s lane line (command.Search query) lines rising low = (rising, omega (arith, low))
rising_with s lane line (command.BadQuery offset) lines rising low = (rising, omega (arith, low))

pub rising_fed : (s : Setting) (lane line : ℕ) (cs : List Asked) (lines : Lines) → AreRising lines → last_line lines < line → AreRising (fed_lines s lane line cs lines)
rising_fed s lane line [] lines rising low = rising
rising_fed s lane line (c ∷ cs) lines rising low =
    let one = rising_with s lane line c lines rising low in
    rising_fed s lane (suc line) cs (with_fed s lane line c lines) one.0 one.1

-- ---- the same lines, one after the other

-- what lines that run one after the other are among the deeds
lines_if : (t : Bool) (line : FeedLine) (deeds : List Deed) → lines_of (if t then Runs line ∷ deeds else deeds) ≡ (if t then line ∷ lines_of deeds else lines_of deeds)
lines_if true line deeds = refl
lines_if false line deeds = refl

states_if : (s : Setting) (t : Bool) (line : FeedLine) (deeds : List Deed) → states_in s (if t then Runs line ∷ deeds else deeds) ≡ states_in s deeds
states_if s true line deeds = refl
states_if s false line deeds = refl

events_if : (s : Setting) (t : Bool) (line : FeedLine) (deeds : List Deed) → deed_events s (if t then Runs line ∷ deeds else deeds) ≡ deed_events s deeds
events_if s true line deeds = refl
events_if s false line deeds = refl

-- a line that cuts nothing is among the lines where it asks for an operation, and tells nothing
record IsQuiet (s : Setting) (lane line : ℕ) (c : Asked) (deeds more : List Deed) : Type 0 where
  lines : lines_of more ≡ with_fed s lane line c (lines_of deeds)
  states : states_in s more ≡ states_in s deeds
  events : deed_events s more ≡ deed_events s deeds

quiet_with : (s : Setting) (us : List LineSpans) (lane : ℕ) (told : Told) (line : ℕ) (c : Asked) (deeds : List Deed) → cuts c ≡ false → IsQuiet s lane line c deeds (with_line s us lane told line c deeds)
quiet_with s us lane told line command.Blank deeds h = record { lines = refl; states = refl; events = refl }
quiet_with s us lane told line command.TooLong deeds h = record { lines = refl; states = refl; events = refl }
quiet_with s us lane told line command.Barrier deeds h = clash h
quiet_with s us lane told line (command.Bad why) deeds h = record { lines = refl; states = refl; events = refl }
quiet_with s us lane told line (command.Feed op via) deeds h =
    let t = lane_of_id s.bits op.id == lane in
    let fed : FeedLine = record { number = line; operation = op; via = via } in
    record { lines = lines_if t fed deeds; states = states_if s t fed deeds; events = events_if s t fed deeds }
quiet_with s us lane told line (command.State state deaf) deeds h = clash h
quiet_with s us lane told line (command.BadState offset) deeds h = clash h
quiet_with s us lane told line (command.Stop node) deeds h = clash h
quiet_with s us lane told line (command.Start node) deeds h = clash h
quiet_with s us lane told line (command.Net at fates) deeds h = clash h
quiet_with s us lane told line command.Maintain deeds h = clash h
quiet_with s us lane told line (command.Search query) deeds h = record { lines = refl; states = refl; events = refl }
quiet_with s us lane told line (command.BadQuery offset) deeds h = record { lines = refl; states = refl; events = refl }

record AreQuiet (s : Setting) (lane line : ℕ) (cs : List Asked) (deeds more : List Deed) : Type 0 where
  lines : lines_of more ≡ fed_lines s lane line cs (lines_of deeds)
  states : states_in s more ≡ states_in s deeds
  events : deed_events s more ≡ deed_events s deeds

quiet_by : (s : Setting) (us : List LineSpans) (lane : ℕ) (told : Told) (line : ℕ) (cs : List Asked) (deeds : List Deed) → AreStill cs → AreQuiet s lane line cs deeds (with_lines s us lane told line cs deeds)
quiet_by s us lane told line [] deeds still = record { lines = refl; states = refl; events = refl }
quiet_by s us lane told line (c ∷ cs) deeds still =
    let one = quiet_with s us lane told line c deeds still.0 in
    let rest = quiet_by s us lane (told_next c told) (suc line) cs (with_line s us lane told line c deeds) still.1 in
    record {
      lines = rest.lines ∙ ap (λ (ls : Lines). fed_lines s lane (suc line) cs ls) one.lines;
      states = rest.states ∙ one.states;
      events = rest.events ∙ one.events;
    }

-- feeders that run lines at once do so too
fed_alone : (s : Setting) (us : List LineSpans) (feeders lane : ℕ) (told : Told) (line : ℕ) (cs : List Asked) (left : Lines) (ds es : List Deed) → AreStill cs → AreAlike s ds es
    → AreAlike s (Feeds feeders (fed_lines s lane line cs []) left ∷ ds) (with_lines s us lane told line cs es)
fed_alone s us feeders lane told line cs left ds es still a =
    let q = quiet_by s us lane told line cs es still in
    record {
      lines = ap (λ (ls : Lines). fed_lines s lane line cs [] ++ ls) a.lines ∙ sym (fed_lines_is s lane line cs (lines_of es)) ∙ sym q.lines;
      states = a.states ∙ sym q.states;
      events = a.events ∙ sym q.events;
    }

alike_parts : (s : Setting) (us : List LineSpans) (feeders lane : ℕ) (told : Told) (line : ℕ) (ps : List Part) (ds es : List Deed) → AreStillIn ps → AreAlike s ds es
    → AreAlike s (with_parts s us feeders lane told line ps ds) (with_lines s us lane told line (asked_in ps) es)
alike_parts s us feeders lane told line [] ds es still a = a
alike_parts s us feeders lane told line (Alone c ∷ ps) ds es still a =
    let one : line + 1 ≡ suc line = omega arith in
    subst (λ (n : ℕ). AreAlike s (with_parts s us feeders lane (told_next c told) n ps (with_line s us lane told line c ds)) (with_lines s us lane (told_next c told) (suc line) (asked_in ps) (with_line s us lane told line c es)))
    (sym one) (alike_parts s us feeders lane (told_next c told) (suc line) ps (with_line s us lane told line c ds) (with_line s us lane told line c es) still (alike_line s us lane told line c ds es a))
alike_parts s us feeders lane told line (Together cs left ∷ ps) ds es still a =
    subst (λ (fs : List Deed). AreAlike s (with_parts s us feeders lane (told_by told cs) (line + length cs) ps (Feeds feeders (fed_lines s lane line cs []) (left lane) ∷ ds)) fs)
    (sym (with_append s us lane told line cs (asked_in ps) es))
    (alike_parts s us feeders lane (told_by told cs) (line + length cs) ps (Feeds feeders (fed_lines s lane line cs []) (left lane) ∷ ds) (with_lines s us lane told line cs es) still.1
    (fed_alone s us feeders lane told line cs (left lane) ds es still.0 a))

-- the deeds of parts are like those of their lines, one after the other
pub fed_alike : (s : Setting) (us : List LineSpans) (feeders : ℕ) (ps : List Part) → AreStillIn ps → AreAllAlike s us (asked_in ps) (λ lane. fed_deeds s us feeders lane ps)
fed_alike s us feeders ps still lane = alike_parts s us feeders lane (first_told s) 1 ps [] [] still (alike_self s [])

-- ---- where parts are cut

pub cut_still : (ps : List Part) → AreCut ps → AreStillIn ps
cut_still [] cut = absurd cut
cut_still (Alone c ∷ ps) cut = absurd cut
cut_still (Together cs left ∷ []) cut = (cut.0, tt)
cut_still (Together cs left ∷ Alone c ∷ ps) cut = (cut.0, cut_still ps cut.3)
cut_still (Together cs left ∷ Together ds more ∷ ps) cut = (cut.0, cut_still (Together ds more ∷ ps) cut.2)

pub ended_still : (ps : List Part) → AreEnded ps → AreStillIn ps
ended_still [] ended = tt
ended_still (Alone c ∷ ps) ended = absurd ended
ended_still (Together cs left ∷ []) ended = (ended.0, tt)
ended_still (Together cs left ∷ Alone c ∷ ps) ended = (ended.0, ended_still ps ended.3)
ended_still (Together cs left ∷ Together ds more ∷ ps) ended = (ended.0, ended_still (Together ds more ∷ ps) ended.2)

-- a segment stands behind them, and a line that cuts behind that
pub cut_more : (ps : List Part) (cs : List Asked) (left : ℕ → Lines) → AreEnded ps → AreStill cs → length cs ≤ most_together → AreCut (ps ++ Together cs left ∷ [])
cut_more [] cs left ended still few = (still, few)
cut_more (Alone c ∷ ps) cs left ended still few = absurd ended
cut_more (Together ds more ∷ []) cs left ended still few = (ended.0, ended.1, (still, few))
cut_more (Together ds more ∷ Alone c ∷ ps) cs left ended still few = (ended.0, ended.1, ended.2, cut_more ps cs left ended.3 still few)
cut_more (Together ds more ∷ Together es other ∷ ps) cs left ended still few = (ended.0, ended.1, cut_more (Together es other ∷ ps) cs left ended.2 still few)

-- or it is full, and more stand behind it
pub full_more : (ps : List Part) (cs : List Asked) (left : ℕ → Lines) → AreEnded ps → AreStill cs → IsFull cs → AreEnded (ps ++ Together cs left ∷ [])
full_more [] cs left ended still full = (still, full)
full_more (Alone c ∷ ps) cs left ended still full = absurd ended
full_more (Together ds more ∷ []) cs left ended still full = (ended.0, ended.1, (still, full))
full_more (Together ds more ∷ Alone c ∷ ps) cs left ended still full = (ended.0, ended.1, ended.2, full_more ps cs left ended.3 still full)
full_more (Together ds more ∷ Together es other ∷ ps) cs left ended still full = (ended.0, ended.1, full_more (Together es other ∷ ps) cs left ended.2 still full)

pub ended_more : (ps : List Part) (c : Asked) → AreCut ps → cuts c ≡ true → AreEnded (ps ++ Alone c ∷ [])
ended_more [] c cut is = absurd cut
ended_more (Alone d ∷ ps) c cut is = absurd cut
ended_more (Together cs left ∷ []) c cut is = (cut.0, cut.1, is, tt)
ended_more (Together cs left ∷ Alone d ∷ ps) c cut is = (cut.0, cut.1, cut.2, ended_more ps c cut.3 is)
ended_more (Together cs left ∷ Together ds more ∷ ps) c cut is = (cut.0, cut.1, ended_more (Together ds more ∷ ps) c cut.2 is)

-- ---- parts of which no line is left

pub none_left_alone : (ps : List Part) (c : Asked) → NoneLeft ps → NoneLeft (ps ++ Alone c ∷ [])
none_left_alone [] c none = tt
none_left_alone (Alone d ∷ ps) c none = none_left_alone ps c none
none_left_alone (Together cs left ∷ ps) c none = (none.0, none_left_alone ps c none.1)

pub none_left_together : (ps : List Part) (cs : List Asked) (left : ℕ → Lines) → NoneLeft ps → ((lane : ℕ) → left lane ≡ []) → NoneLeft (ps ++ Together cs left ∷ [])
none_left_together [] cs left none now = (now, tt)
none_left_together (Alone d ∷ ps) cs left none now = none_left_together ps cs left none now
none_left_together (Together ds more ∷ ps) cs left none now = (none.0, none_left_together ps cs left none.1 now)
