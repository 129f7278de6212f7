-- A segment as a whole: what its lanes may run, and what the session's cell is behind it.
use Rattle.std.proofs.Common.{◌≡◌, ◌⊎◌, ◌||◌, ◌<◌, ◌≤◌, ◌+◌, ◌^◌, ℕ, zero, suc, Bool, true, false, List, [], ◌∷◌, Option, None, Some, IfSome, IsSome, inl, inr, refl, sym, ap, ◌∙◌, subst, arith, length, take, append-nil, slice_get}
use Rattle.std.proofs.Math.Pow.{pow_mono}
use Rattle.bucket_ids.specs.Buckets.{Low, IsIn}
use Rattle.carriers.specs.declared.fate.Fate.{Fate}
use Rattle.global_ids.specs.Keys as keys
use Rattle.global_ids.proofs.KeyLaws.{key_small}
use Rattle.messages.specs.declared.outcome.Outcome.{Outcome}
use Rattle.reports.specs.declared.answer.Answer.{Answer}
use Rattle.lane_journals.specs.Buckets.{key_of}
use Rattle.lane_journals.specs.Meanings.{history}
use Rattle.lane_journals.specs.Readers.{held}
use Rattle.lane_journals.specs.declared.event.LaneEvent.{LaneEvent}
use Rattle.lane_calls.specs.LaneValues.{LaneValue, IsLaneValue}
use Rattle.lane_calls.specs.Lines.{FeedLine, Lines, last_line}
use Rattle.lane_calls.specs.Readings.{outcome_in}
use Rattle.lane_calls.specs.Segments.{IsAmong}
use Rattle.lane_calls.proofs.Calling.{segment-kept}
use Rattle.lane_core.proofs.Places.{get-within, within-get}
use Rattle.lane_core.proofs.Served.{serving_fresh, serving_heard, serving_newest}
use Rattle.lane_lives.specs.Settings.{lane_count}
use Rattle.lane_lives.specs.Lives.{Deed, lines_of}
use Rattle.lane_lives.specs.Serving.{bucket_in, IsServing}
use Rattle.lane_lives.specs.declared.setting.Setting.{Setting}
use Rattle.lane_locks.specs.Lines.{Listed}
use Rattle.lane_locks.specs.declared.lines.Stage.{Stage}
use Rattle.session_cluster.specs.Cells.{Cell, journals_of}
use Rattle.session_cluster.specs.Keeping.{IsReady}
use Rattle.session_cluster.specs.Lanes.{lane_of_id, journal_in}
use Rattle.session_cluster.specs.Searches.{fronts_of}
use Rattle.session_cluster.specs.Steps.{EachLane, HasTypes}
use Rattle.session_cluster.specs.declared.searching.LineFronts.{LineFronts}
use Rattle.session_cluster.specs.declared.asked.Asked.{Asked}
use Rattle.session_cluster.specs.declared.asked.Asked.TheVariants as command
use Rattle.session_cluster.proofs.AlikeDeeds.{alike_low}
use Rattle.session_cluster.proofs.LaneLists.{journal_at, lane_small}
use Rattle.session_cluster.proofs.SessionSteps.{lane_was}
use Rattle.session_segments.specs.FedDeeds.{with_fed, fed_lines}
use Rattle.session_segments.specs.Fed.{IsFedIn, AreFedIn, AreDealt, IsFed, left_by, left_in, IsFedShort, answers_from}
use Rattle.session_segments.specs.Lanes.{MayAllRun}
use Rattle.session_segments.specs.Parts.{AreOwn}
use Rattle.session_segments.specs.Sorted.{lane_lines, AreListed, feeds, any_feeds, all_answered, lines_in, lines_at, TellOutcomes, HaveRun, MayBeAnswered, IsUnread, read_by, AreAnsweredSoFar, WasReadSoFar}
use Rattle.session_segments.proofs.AnsweredLines.{all_so_far}
use Rattle.session_segments.proofs.SameLines.{fed_among, fed_segment}
use Rattle.session_segments.proofs.SegmentFronts.{take_front}
use Rattle.session_segments.proofs.SortedLists.{each_lane_line}

-- ---- before it

in-bucket : (bits : ℕ) (id : List ℕ) → IsIn (keys.lane_bucket bits (lane_of_id bits id)) (key_of id)
unfolding lane_of_id key_of
in-bucket bits id = (key_small id, refl)

via-holds : (s : Setting) (planned : List Fate) (lane : ℕ) (deeds : List Deed) (v : LaneValue) (via : Option ℕ) → IsServing s planned lane deeds v → IfSome via (λ d. d < 32) → IfSome via (λ d. IsSome (held d (history v.journal)))
via-holds s planned lane deeds v None is small = tt
via-holds s planned lane deeds v (Some d) is small = serving_heard s planned lane deeds v d is small

pub may_all_run : (s : Setting) (feeders first : ℕ) (cs : List Asked) (c : Cell) (lists : List Listed) → IsReady s first c → AreOwn s.bits cs → AreListed s feeders first cs lists → MayAllRun feeders c.lanes lists
may_all_run s feeders first cs c lists ready own listed lane v list at there =
    let deeds = ready.deeds lane in
    let serving = (ready.done).serving lane v at in
    let low : last_line (lines_of deeds) ≤ length ready.commands = alike_low s c.upkeeps ready.commands ready.deeds ready.alike lane in
    let is = listed.each lane list there in
    let lines = ap (λ (l : Listed). l.lines) is in
    let one = λ (place : ℕ) (x : FeedLine) (found : slice_get list.lines place ≡ Some x). each_lane_line s lane first (first + length cs) cs (omega arith) own place x (ap (λ (ls : Lines). slice_get ls place) (sym lines) ∙ found) in
    record {
      idle = serving.idle;
      feeders_are = ap (λ (l : Listed). l.feeders) is;
      of_lane = record {
        published = subst IsSome (sym (serving_newest s _ lane deeds v serving)) refl;
        each = λ place x found. record {
          in_lane = subst (λ (b : Low). IsIn b (key_of x.operation.id)) (sym (serving.lane_is ∙ ap (bucket_in s) (sym (one place x found).lane_is))) (in-bucket s.bits x.operation.id);
          holds = via-holds s _ lane deeds v x.via serving (one place x found).via;
        };
      };
      fresh = λ place x found. serving_fresh s _ lane deeds v x.number serving (let late = (one place x found).late in omega (arith, low, late, ready.next));
    }

pub all_hold : (s : Setting) (first : ℕ) (c : Cell) → IsReady s first c → EachLane IsLaneValue c.lanes
all_hold s first c ready lane v at = ((ready.done).serving lane v at).holds

pub all_idle : (s : Setting) (first : ℕ) (c : Cell) → IsReady s first c → (lane : ℕ) (v : LaneValue) → slice_get c.lanes lane ≡ Some v → v.under_way ≡ []
all_idle s first c ready lane v at = ((ready.done).serving lane v at).idle

pub all_typed : (s : Setting) (first : ℕ) (c : Cell) → IsReady s first c → EachLane (HasTypes s.schema) c.lanes
all_typed s first c ready lane v at = ((ready.done).serving lane v at).types_are

pub unread_from : (s : Setting) (first : ℕ) (c : Cell) → IsReady s first c → IsUnread first c
unread_from s first c ready line late = (ready.done).unread line (omega (arith, late, ready.next, (ready.done).dealt))

-- no line asks for an operation
or-left : (a b : Bool) → (a || b) ≡ false → a ≡ false
or-left true b h = cc h
or-left false b h = refl

or-right : (a b : Bool) → (a || b) ≡ false → b ≡ false
or-right true b h = cc h
or-right false b h = h

still-lines : (s : Setting) (lane line : ℕ) (c : Asked) (lines : Lines) → feeds c ≡ false → with_fed s lane line c lines ≡ lines
still-lines s lane line command.Blank lines h = refl
still-lines s lane line command.TooLong lines h = refl
still-lines s lane line command.Barrier lines h = refl
still-lines s lane line (command.Bad why) lines h = refl
still-lines s lane line (command.Feed op via) lines h = absurd (let clash : true ≡ false = h in cc)
still-lines s lane line (command.State state deaf) lines h = refl
still-lines s lane line (command.BadState offset) lines h = refl
still-lines s lane line (command.Stop node) lines h = refl
still-lines s lane line (command.Start node) lines h = refl
still-lines s lane line (command.Net at fates) lines h = refl
still-lines s lane line command.Maintain lines h = refl
still-lines s lane line (command.Search query) lines h = refl
still-lines s lane line (command.BadQuery offset) lines h = refl

no-lines : (s : Setting) (lane line : ℕ) (cs : List Asked) → any_feeds cs ≡ false → lane_lines s lane line cs ≡ []
no-lines s lane line [] h = refl
no-lines s lane line (c ∷ cs) h = still-lines s lane line c (lane_lines s lane (suc line) cs) (or-left (feeds c) (any_feeds cs) h) ∙ no-lines s lane (suc line) cs (or-right (feeds c) (any_feeds cs) h)

none-in : (s : Setting) (feeders first lane : ℕ) (cs : List Asked) (lists : List Listed) (o : Option Listed) → AreListed s feeders first cs lists → any_feeds cs ≡ false → slice_get lists lane ≡ o → lines_in o ≡ []
none-in s feeders first lane cs lists None listed h is = refl
none-in s feeders first lane cs lists (Some list) listed h is = ap (λ (l : Listed). l.lines) (listed.each lane list is) ∙ no-lines s lane first cs h

pub none_listed : (s : Setting) (feeders first : ℕ) (cs : List Asked) (lists : List Listed) → AreListed s feeders first cs lists → any_feeds cs ≡ false → (lane : ℕ) → lines_at lists lane ≡ []
none_listed s feeders first cs lists listed h lane = none-in s feeders first lane cs lists (slice_get lists lane) listed h refl

-- ---- behind it

-- each line has its outcome, or is left
among-left-in : (J : List LaneEvent) (lines : Lines) (place : ℕ) (line : FeedLine) → slice_get lines place ≡ Some line → IsAmong (left_in J lines) line ⊎ IsSome (outcome_in line.number J)
among-left-in J [] zero line h = cc h
among-left-in J [] (suc place) line h = cc h
among-left-in J (x ∷ lines) zero line h = by-outcome (outcome_in x.number J) refl
  where
    some-is : Some x ≡ Some line → x ≡ line
    some-is e = cc

    by-outcome : (o : Option Outcome) → outcome_in x.number J ≡ o → IsAmong (left_by (outcome_in x.number J) x (left_in J lines)) line ⊎ IsSome (outcome_in line.number J)
    by-outcome None is = inl (subst (λ (p : Option Outcome). IsAmong (left_by p x (left_in J lines)) line) (sym is) (zero, h))
    by-outcome (Some y) is = inr (subst (λ (z : FeedLine). IsSome (outcome_in z.number J)) (some-is h) (subst IsSome (sym is) refl))
among-left-in J (x ∷ lines) (suc place) line h = by-outcome (outcome_in x.number J) (among-left-in J lines place line h)
  where
    by-outcome : (o : Option Outcome) → IsAmong (left_in J lines) line ⊎ IsSome (outcome_in line.number J) → IsAmong (left_by o x (left_in J lines)) line ⊎ IsSome (outcome_in line.number J)
    by-outcome None (inl among) = inl (suc among.0, among.1)
    by-outcome None (inr some) = inr some
    by-outcome (Some y) rest = rest

module _ (s : Setting) (feeders first : ℕ) (cs : List Asked) (lists : List Listed) (old mid new : Cell) (stages : List (List Stage)) (listed : AreListed s feeders first cs lists) (lanes : length old.lanes ≡ lane_count s) (ran : HaveRun feeders lists old mid stages) (same : new.lanes ≡ mid.lanes) where
  lines-of : (lane : ℕ) (w : LaneValue) → slice_get mid.lanes lane ≡ Some w → lines_at lists lane ≡ lane_lines s lane first cs
  lines-of lane w at =
      let within : lane < length mid.lanes = get-within mid.lanes lane w at in
      let l = within-get lists lane (omega (arith, within, ran.count, lanes, listed.count)) in
      ap lines_in l.1 ∙ ap (λ (x : Listed). x.lines) (listed.each lane l.0 l.1)

  there : (lane : ℕ) (w : LaneValue) → slice_get new.lanes lane ≡ Some w → slice_get mid.lanes lane ≡ Some w
  there lane w at = subst (λ (vs : List LaneValue). slice_get vs lane ≡ Some w) same at

  -- the lane was fed, but for these
  fed-lane : (left : Lines) (lane : ℕ) (v w : LaneValue) → slice_get old.lanes lane ≡ Some v → slice_get new.lanes lane ≡ Some w → ((line : FeedLine) → IsAmong (fed_lines s lane first cs []) line → IsAmong left line ⊎ IsSome (outcome_in line.number w.journal))
      → IsFedIn feeders (fed_lines s lane first cs []) left v w
  fed-lane left lane v w was at answered =
      let run = ran.each lane v w was (there lane w at) in
      record { segment = fed_segment s lane feeders first cs v w (lines_at lists lane) (lines-of lane w (there lane w at)) run.0; idle = run.1; answered = answered }

  count : length new.lanes ≡ length old.lanes
  count = ap length same ∙ ran.count

  pub fed_whole : all_answered stages ≡ true → AreFedIn s feeders first cs (λ _. []) old new
  fed_whole all = record {
    count = count;
    each = λ lane v w was at. fed-lane [] lane v w was at (λ line among. inr (ran.answered all lane w line (there lane w at)
        (subst (λ (ls : Lines). IsAmong ls line) (sym (lines-of lane w (there lane w at))) (fed_among s lane first cs line among))));
  }

  abbrev pub left_now : ℕ → Lines
  left_now lane = left_in (journal_in lane (journals_of new)) (fed_lines s lane first cs [])

  left-is : (lane : ℕ) (w : LaneValue) → slice_get new.lanes lane ≡ Some w → left_now lane ≡ left_in w.journal (fed_lines s lane first cs [])
  left-is lane w at = ap (λ (J : List LaneEvent). left_in J (fed_lines s lane first cs [])) (journal_at new.lanes lane w at)

  pub fed_short : AreFedIn s feeders first cs left_now old new
  fed_short = record {
    count = count;
    each = λ lane v w was at. fed-lane (left_now lane) lane v w was at (λ line among.
        subst (λ (ls : Lines). IsAmong ls line ⊎ IsSome (outcome_in line.number w.journal)) (sym (left-is lane w at)) (among-left-in w.journal (fed_lines s lane first cs []) among.0 line among.1));
  }

-- the cell once the lines are dealt with, and the first searches are made
abbrev dealt-to : Cell → ℕ → Cell
dealt-to c n = record c { dealt = n }

pub now_dealt : (first last : ℕ) (cs done : List Asked) (old mid up new : Cell) → mid ≡ record old { lanes = mid.lanes } → up ≡ record mid { dealt = last } → new ≡ read_by first done up → last ≡ old.dealt + length cs
    → (new.lanes ≡ mid.lanes) × AreDealt first done cs old new
now_dealt first last cs done old mid up new ran dealt read is =
    let whole : new ≡ read_by first done (dealt-to (record old { lanes = mid.lanes }) last) = read ∙ ap (read_by first done) (dealt ∙ ap (λ (c : Cell). dealt-to c last) ran) in
    let lanes : new.lanes ≡ mid.lanes = ap (λ (c : Cell). c.lanes) whole in (
      lanes,
      whole
          ∙ ap (λ (n : ℕ). read_by first done (dealt-to (record old { lanes = mid.lanes }) n)) is
          ∙ ap (λ (vs : List LaneValue). read_by first done (dealt-to (record old { lanes = vs }) (old.dealt + length cs))) (sym lanes),
    )

-- nothing was read yet
pub read_none : (first : ℕ) (c d : Cell) → d ≡ c → d ≡ read_by first [] c
read_none first c d is = is ∙ sym (ap (λ (fs : List LineFronts). record c { fronts = fs }) (append-nil c.fronts))

-- the segment is short, once some of its searches are made
pub is_short : (s : Setting) (feeders first last : ℕ) (cs : List Asked) (lists : List Listed) (old mid up new : Cell) (stages : List (List Stage)) → AreListed s feeders first cs lists → length old.lanes ≡ lane_count s → HaveRun feeders lists old mid stages
    → up ≡ record mid { dealt = last } → WasReadSoFar first cs up new → last ≡ old.dealt + length cs → IsFedShort s feeders first cs old new
is_short s feeders first last cs lists old mid up new stages listed lanes ran dealt read is =
    let now = now_dealt first last cs read.done old mid up new ran.now dealt read.now is in
    record {
      left = left_now s feeders first cs lists old mid new stages listed lanes ran now.0;
      left_are = left-is s feeders first cs lists old mid new stages listed lanes ran now.0;
      lanes = fed_short s feeders first cs lists old mid new stages listed lanes ran now.0;
      searched = length read.done;
      now = subst (λ (xs : List Asked). AreDealt first xs cs old new) (sym (ap (take (length read.done)) read.whole ∙ take_front read.done read.rest)) now.1;
    }

-- it is fed, once all of them are
pub is_fed : (s : Setting) (feeders first last : ℕ) (cs : List Asked) (lists : List Listed) (old mid up new : Cell) (stages : List (List Stage)) → AreListed s feeders first cs lists → length old.lanes ≡ lane_count s → HaveRun feeders lists old mid stages
    → up ≡ record mid { dealt = last } → new ≡ read_by first cs up → last ≡ old.dealt + length cs → all_answered stages ≡ true → IsFed s feeders first cs (λ _. []) old new
is_fed s feeders first last cs lists old mid up new stages listed lanes ran dealt read is all =
    let now = now_dealt first last cs cs old mid up new ran.now dealt read is in
    record { lanes = fed_whole s feeders first cs lists old mid new stages listed lanes ran now.0 all; now = now.1 }

-- ---- what its lines are answered from

-- lanes keep their types
typed-on : (s : Setting) (feeders : ℕ) (lists : List Listed) (old mid : Cell) (stages : List (List Stage)) → HaveRun feeders lists old mid stages → EachLane (HasTypes s.schema) old.lanes → EachLane (HasTypes s.schema) mid.lanes
typed-on s feeders lists old mid stages ran typed lane w at =
    let was = lane_was old.lanes mid.lanes lane w ran.count at in
    (segment-kept feeders (lines_at lists lane) was.0 w (ran.each lane was.0 w was.1 at).0).0 ∙ typed lane was.0 was.1

pub may_answer : (s : Setting) (feeders first last : ℕ) (cs : List Asked) (lists : List Listed) (old mid up : Cell) (stages : List (List Stage)) → IsReady s first old → AreOwn s.bits cs → AreListed s feeders first cs lists → HaveRun feeders lists old mid stages
    → up ≡ record mid { dealt = last } → MayBeAnswered s (λ lane. lane_lines s lane first cs) stages up
may_answer s feeders first last cs lists old mid up stages ready own listed ran dealt =
    subst (MayBeAnswered s (λ lane. lane_lines s lane first cs) stages) (sym dealt) (record { typed = typed-on s feeders lists old mid stages ran (all_typed s first old ready); told = told })
  where
    told : TellOutcomes (λ lane. lane_lines s lane first cs) stages (journals_of mid)
    told lane place line x found is =
        let one = each_lane_line s lane first (first + length cs) cs (omega arith) own place line found in
        let small : lane < lane_count s = subst (λ n. n < 2 ^ s.bits) one.lane_is (lane_small s.bits line.operation.id) in
        let l = within-get lists lane (subst (λ n. lane < n) (sym listed.count) small) in
        let lines : lines_at lists lane ≡ lane_lines s lane first cs = ap lines_in l.1 ∙ ap (λ (b : Listed). b.lines) (listed.each lane l.0 l.1) in
        ran.told lane place line x (subst (λ (ls : Lines). slice_get ls place ≡ Some line) (sym lines) found) is

pub unread_on : (first last : ℕ) (old mid up : Cell) → mid ≡ record old { lanes = mid.lanes } → up ≡ record mid { dealt = last } → IsUnread first old → IsUnread first up
unread_on first last old mid up ran dealt unread line late = ap (λ (c : Cell). fronts_of line c.fronts) dealt ∙ (ap (λ (c : Cell). fronts_of line c.fronts) ran ∙ unread line late)

-- ---- all of it

module _ (s : Setting) (feeders many first last : ℕ) (cs : List Asked) (lists : List Listed) (old mid up : Cell) (stages : List (List Stage)) (ready : IsReady s first old) (own : AreOwn s.bits cs) (listed : AreListed s feeders first cs lists) (count : many ≡ feeders) (run : HaveRun many lists old mid stages)
    (dealt : up ≡ record mid { dealt = last }) (at : last + 1 ≡ first + length cs) where
  ran : HaveRun feeders lists old mid stages
  ran = subst (λ n. HaveRun n lists old mid stages) count run

  last-is : last ≡ old.dealt + length cs
  last-is = omega (arith, at, ready.next, (ready.done).dealt)

  -- where memory was wanted
  pub whole_short : (new : Cell) → WasReadSoFar first cs up new → IsFedShort s feeders first cs old new
  whole_short new read = is_short s feeders first last cs lists old mid up new stages listed (ready.done).lanes ran dealt read last-is

  pub whole_unread : (new : Cell) → new ≡ up → IsFedShort s feeders first cs old new
  whole_unread new same = whole_short new (record { done = []; rest = cs; whole = refl; now = read_none first up new same })

  pub whole_may : (now : Cell) → now ≡ up → MayBeAnswered s (λ lane. lane_lines s lane first cs) stages now
  whole_may now same = subst (MayBeAnswered s (λ lane. lane_lines s lane first cs) stages) (sym same) (may_answer s feeders first last cs lists old mid up stages ready own listed ran dealt)

  pub whole_new : (now : Cell) → now ≡ up → IsUnread first now
  whole_new now same = subst (IsUnread first) (sym same) (unread_on first last old mid up ran.now dealt (unread_from s first old ready))

  pub whole_few : (now : Cell) → now ≡ up → length old.lanes ≤ 64 → length now.lanes ≤ 64
  whole_few now same few =
      let here : length now.lanes ≡ length up.lanes = ap (λ (c : Cell). length c.lanes) same in
      let there : length up.lanes ≡ length mid.lanes = ap (λ (c : Cell). length c.lanes) dealt in
      let ran-count = ran.count in
      omega (arith, here, there, ran-count, few)

  -- where all lines are answered
  pub whole_fed : (now new : Cell) (got : List (Option Answer)) → now ≡ up → all_answered stages ≡ true → AreAnsweredSoFar s (λ lane. lane_lines s lane first cs) first cs [] now new got
      → IsFed s feeders first cs (λ _. []) old new × (got ≡ answers_from s old.told first cs new)
  whole_fed now new got same all so =
      let a = all_so_far s (λ lane. lane_lines s lane first cs) first cs now new got so in
      let told : now.told ≡ old.told = ap (λ (c : Cell). c.told) same ∙ (ap (λ (c : Cell). c.told) dealt ∙ ap (λ (c : Cell). c.told) ran.now) in (
        is_fed s feeders first last cs lists old mid up new stages listed (ready.done).lanes ran dealt (a.0 ∙ ap (read_by first cs) same) last-is all,
        a.1 ∙ ap (λ t. answers_from s t first cs new) told,
      )

  pub whole_read : (now new : Cell) → now ≡ up → WasReadSoFar first cs now new → IsFedShort s feeders first cs old new
  whole_read now new same read = whole_short new (subst (λ (c : Cell). WasReadSoFar first cs c new) same read)

few-of : (bits : ℕ) → bits ≤ 6 → 2 ^ bits ≤ 64
few-of bits few = pow_mono few

pub lanes_few : (s : Setting) (first : ℕ) (c : Cell) → IsReady s first c → length c.lanes ≤ 64
lanes_few s first c ready = subst (λ n. n ≤ 64) (sym (ready.done).lanes) (few-of s.bits (ready.setting).most)

pub lanes_all : (s : Setting) (first : ℕ) (c : Cell) → IsReady s first c → length c.lanes ≡ 2 ^ c.bits
lanes_all s first c ready = (ready.done).lanes ∙ ap (λ n. 2 ^ n) (sym (ready.done).bits)
