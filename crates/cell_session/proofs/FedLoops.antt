-- The segments of a session, and the lines that end them, one after the other.
use Rattle.std.proofs.Common.{◌≡◌, ◌≢◌, ℕ, suc, ◌+◌, ◌<◌, ◌≤◌, Bool, false, List, [], ◌∷◌, ◌++◌, Option, None, Some, inl, inr, refl, sym, ap, ap₂, ◌∙◌, subst, arith, length, length-append, append_assoc, append-nil, take}
use Rattle.std.proofs.KnownBytes.{Appends-nil, Appends-trans}
use Rattle.std.specs.Io.KnownBytes.{Appends, Keeps}
use Rattle.std.specs.List.{count_by}
use Rattle.carriers.specs.declared.fate.Fate.{Fate}
use Rattle.cluster_states.specs.Publishing.{Told}
use Rattle.doc_types.specs.SchemaCodes.{Types}
use Rattle.io_ends.specs.Reading.{Reading}
use Rattle.lane_calls.specs.Lines.{Lines}
use Rattle.lane_lives.specs.Settings.{IsSetting}
use Rattle.lane_lives.specs.declared.setting.Setting.{Setting}
use Rattle.reports.specs.declared.answer.Answer.{Answer}
use Rattle.session_cluster.specs.Cells.{Cell, journals_of}
use Rattle.session_cluster.specs.Deeds.{told_next, told_by, told_of, first_told}
use Rattle.session_cluster.specs.Keeping.{IsKept, IsReady}
use Rattle.session_cluster.specs.Output.{bytes_of, report_in, output_from, output_of}
use Rattle.session_cluster.specs.Searches.{fronts_of}
use Rattle.session_cluster.specs.Steps.{IsAfter}
use Rattle.session_cluster.specs.declared.asked.Asked.{Asked}
use Rattle.session_cluster.specs.declared.asked.Asked.TheVariants as command
use Rattle.session_cluster.proofs.DeedLists.{told_append}
use Rattle.session_cluster.proofs.KeptLanes.{kept_legal}
use Rattle.session_segments.specs.Fed.{IsFed, IsFedShort, answers_from, HaveFed}
use Rattle.session_segments.specs.Parts.{cuts, AreStill, AreStillIn, Part, Alone, Together, asked_of, asked_in, most_together, IsFull, AreCut, AreEnded, AreInTurn, NoneLeft}
use Rattle.session_segments.proofs.PartLists.{told_still, asked_push, ended_still, cut_more, full_more, none_left_together}
use Rattle.cell_session.specs.Counting.{is_state, is_maintain, state_lines, maintain_lines, AreFew}
use Rattle.cell_session.specs.Ends.{IfTold, AreFirst, EndsAtLimit}
use Rattle.cell_session.specs.FedAnswering.{IsCutShort, StopsSegmentAs}
use Rattle.cell_session.specs.FedDealing.{AreNoted, EndsFedAs}
use Rattle.cell_session.specs.FedEnds.{EndsInLines, StopsFed, TakesPartFront, TakesPart, WritesFed}
use Rattle.cell_session.specs.Limits.{most_lines, most_bytes}
use Rattle.cell_session.specs.Reporting.{reports_from, TakesReports, TakesReportsFront}
use Rattle.cell_session.specs.SegmentReads.{ReadsOn}
use Rattle.cell_session.specs.SoFar.{first_reading, IsBehind}
use Rattle.cell_session.specs.declared.answering.Stop.TheVariants as stop
use Rattle.cell_session.specs.declared.counts.Counts.{Counts}
use Rattle.cell_session.specs.declared.status.Status.{Status}
use Rattle.cell_session.specs.declared.status.Status.TheVariants as status
use Rattle.cell_session.proofs.FedNoted.{take_at, taken_from, none_noted, noted_at, noted_together}
use Rattle.cell_session.proofs.FedOutput.{GoesOn, AreAnswered, ReadWithin, journals_grow, all_answered_on, answered_append, output_on}
use Rattle.cell_session.proofs.FedSteps.{fed_goes, fed_within, fed_answered}
use Rattle.cell_session.proofs.Loops.{AreCounts, first_of, few_of, no_counts, told_none, appends_kept}
use Rattle.cell_session.proofs.SegmentLaws.{not_counted, not_state, not_maintain}

-- ---- the lines of a segment count for nothing

still_kind : (of_kind : Asked → Bool) → ((c : Asked) → cuts c ≡ false → of_kind c ≡ false) → (cs ds : List Asked) → AreStill ds → count_by of_kind (cs ++ ds) ≡ count_by of_kind cs
still_kind of_kind none cs [] still = ap (count_by of_kind) (append-nil cs)
still_kind of_kind none cs (d ∷ ds) still =
    ap (count_by of_kind) (sym (append_assoc cs (d ∷ []) ds)) ∙ still_kind of_kind none (cs ++ d ∷ []) ds still.1 ∙ not_counted of_kind cs d (none d still.0)

still_states : (cs ds : List Asked) → AreStill ds → state_lines (cs ++ ds) ≡ state_lines cs
still_states cs ds still = still_kind is_state not_state cs ds still

still_maintains : (cs ds : List Asked) → AreStill ds → maintain_lines (cs ++ ds) ≡ maintain_lines cs
still_maintains cs ds still = still_kind is_maintain not_maintain cs ds still

-- ---- their reports

pub output_append : (s : Setting) (told : Told) (line : ℕ) (cs ds : List Asked) (c : Cell) → output_from s told line (cs ++ ds) c ≡ output_from s told line cs c ++ output_from s (told_by told cs) (line + length cs) ds c
output_append s told line [] ds c = ap (λ n. output_from s told n ds c) (omega arith)
output_append s told line (x ∷ cs) ds c =
    let next = told_next x told in
    ap (λ l. report_in s told line x c ++ l) (output_append s next (suc line) cs ds c ∙ ap (λ n. output_from s next (suc line) cs c ++ output_from s (told_by next cs) n ds c) (omega arith))
    ∙ sym (append_assoc (report_in s told line x c) (output_from s next (suc line) cs c) (output_from s (told_by next cs) (line + suc (length cs)) ds c))

told_one : (c : Asked) (told : Told) → cuts c ≡ false → told_next c told ≡ told
told_one c told still = told_still told (c ∷ []) (still, tt)

reports_are : (s : Setting) (told : Told) (line : ℕ) (cs : List Asked) (c : Cell) → AreStill cs → reports_from line (answers_from s told line cs c) ≡ output_from s told line cs c
reports_are s told line [] c still = refl
reports_are s told line (x ∷ cs) c still =
    ap (λ l. report_in s told line x c ++ l) (reports_are s told (suc line) cs c still.1 ∙ ap (λ t. output_from s t (suc line) cs c) (sym (told_one x told still.0)))

-- where the answers are parted the lines are
record IsParted (s : Setting) (told : Told) (line : ℕ) (cs : List Asked) (c : Cell) (front back : List (Option Answer)) : Type 0 where
  earlier : List Asked
  later : List Asked
  all : cs ≡ earlier ++ later
  front_is : answers_from s told line earlier c ≡ front
  back_is : answers_from s told (line + length earlier) later c ≡ back

tail_is : {A : Type 0} (x y : A) (xs ys : List A) → x ∷ xs ≡ y ∷ ys → xs ≡ ys
tail_is x y xs ys e = cc

head_is : {A : Type 0} (x y : A) (xs ys : List A) → x ∷ xs ≡ y ∷ ys → x ≡ y
head_is x y xs ys e = cc

parted : (s : Setting) (told : Told) (line : ℕ) (cs : List Asked) (c : Cell) (front back : List (Option Answer)) → answers_from s told line cs c ≡ front ++ back → IsParted s told line cs c front back
parted s told line cs c [] back is = record {
  earlier = [];
  later = cs;
  all = refl;
  front_is = refl;
  back_is = ap (λ n. answers_from s told n cs c) (omega arith) ∙ is;
}
parted s told line [] c (a ∷ front) back is = absurd (omega (arith, ap length is))
parted s told line (x ∷ cs) c (a ∷ front) back is =
    let rest = parted s told (suc line) cs c front back (tail_is _ a _ (front ++ back) is) in
    record {
      earlier = x ∷ rest.earlier;
      later = rest.later;
      all = ap (λ l. x ∷ l) rest.all;
      front_is = ap₂ (λ b bs. b ∷ bs) (head_is _ a _ (front ++ back) is) rest.front_is;
      back_is = ap (λ n. answers_from s told n rest.later c) (omega arith) ∙ rest.back_is;
    }

still_front : (cs ds : List Asked) → AreStill (cs ++ ds) → AreStill cs
still_front [] ds still = tt
still_front (c ∷ cs) ds still = (still.0, still_front cs ds still.1)

pub answers_long : (s : Setting) (told : Told) (line : ℕ) (cs : List Asked) (c : Cell) → length (answers_from s told line cs c) ≡ length cs
answers_long s told line [] c = refl
answers_long s told line (x ∷ cs) c = ap suc (answers_long s told (suc line) cs c)

-- ---- what is promised of segments

-- where just these parts were done, just these and one more are done
pub record SegmentLaws : Type 0 where
  pub together : (s : Setting) (plans : ℕ → List Fate) (feeders line : ℕ) (ps : List Part) (cs : List Asked) (left : ℕ → Lines) (old new : Cell) → HaveFed s plans feeders ps old → AreStillIn ps → AreStill cs
      → line ≡ length (asked_in ps) + 1 → IsFed s feeders line cs left old new → HaveFed s plans feeders (ps ++ Together cs left ∷ []) new
  pub short : (s : Setting) (plans : ℕ → List Fate) (feeders line : ℕ) (ps : List Part) (cs : List Asked) (old new : Cell) → HaveFed s plans feeders ps old → AreStillIn ps → AreStill cs
      → line ≡ length (asked_in ps) + 1 → (f : IsFedShort s feeders line cs old new) → HaveFed s plans feeders (ps ++ Together cs f.left ∷ []) new
  pub alone : (s : Setting) (plans : ℕ → List Fate) (feeders line : ℕ) (ps : List Part) (c : Asked) (old new : Cell) → HaveFed s plans feeders ps old → AreStillIn ps
      → line ≡ length (asked_in ps) + 1 → IsAfter s line c old new → HaveFed s plans feeders (ps ++ Alone c ∷ []) new
  pub ready : (s : Setting) (plans : ℕ → List Fate) (feeders line : ℕ) (ps : List Part) (c : Cell) → IsSetting s → HaveFed s plans feeders ps c → AreStillIn ps
      → line ≡ length (asked_in ps) + 1 → IsReady s line c

-- ---- between two parts

-- the parts so far were done, and what their lines are answered was written
pub record IsFedTo (shape : List Part → Type 0) (s : Setting) (types : Types) (feeders : ℕ) (plans : ℕ → List Fate) (text : Option (List ℕ)) (reader : Reading) (left : Option (List ℕ))
    (counts : Counts) (c : Cell) (before now : Option (List ℕ)) : Type 0 where
  pub setting : IsSetting s
  pub parts : List Part
  pub cut : shape parts
  pub none_left : NoneLeft parts
  pub count : length (asked_in parts) ≡ reader.lines
  pub few : length (asked_in parts) ≤ most_lines
  pub counts_are : AreCounts counts (state_lines (asked_in parts)) (maintain_lines (asked_in parts))
  pub done : HaveFed s plans feeders parts c
  pub output : Appends before now (output_of s (asked_in parts) c)
  pub answered : AreAnswered s 1 (asked_in parts) (journals_of c)
  pub within : ReadWithin c
  pub noted : AreNoted status.Done s feeders parts c
  pub told : IfTold text (IsBehind types s.bits reader left (asked_in parts))

none_within : (c : Cell) → c.fronts ≡ [] → ReadWithin c
none_within c none line gs has = absurd (nothing (sym (ap (fronts_of line) none) ∙ has))
  where
    nothing : fronts_of line [] ≡ Some gs → ⊥
    nothing h = cc h

pub fed_to_none : (s : Setting) (types : Types) (feeders : ℕ) (plans : ℕ → List Fate) (text before : Option (List ℕ)) (reader : Reading) (c : Cell) → IsSetting s → reader ≡ first_reading → IsKept s plans [] c → c.upkeeps ≡ [] → c.fronts ≡ []
    → IsFedTo AreEnded s types feeders plans text reader text no_counts c before before
fed_to_none s types feeders plans text before reader c setting is kept unkept unread = subst (λ r. IsFedTo AreEnded s types feeders plans text r text no_counts c before before) (sym is) (record {
  setting = setting;
  parts = [];
  cut = tt;
  none_left = tt;
  count = refl;
  few = omega arith;
  counts_are = record { states_are = refl; few_states = omega arith; maintains_are = refl; few_maintains = omega arith };
  done = kept;
  output = Appends-nil before;
  answered = tt;
  within = none_within c unread;
  noted = none_noted status.Done s feeders c unkept unread;
  told = told_none types s.bits text;
})

-- ---- how it ends

-- of these lines
pub ended : (end : Status) (s : Setting) (types : Types) (feeders : ℕ) (plans : ℕ → List Fate) (text left : Option (List ℕ)) (c : Cell) (before now : Option (List ℕ)) (ps : List Part) (cs : List Asked) → asked_in ps ≡ cs
    → AreInTurn ps → (end ≢ status.NoMemory → NoneLeft ps) → HaveFed s plans feeders ps c → IfTold text (λ t. AreFirst types s.bits t cs) → IfTold text (λ t. StopsFed end types s.bits t left ps)
    → WritesFed end s ps c before now → AreNoted end s feeders ps c → AreFew cs → EndsAtLimit end cs → EndsFedAs end s types feeders plans text left c before now
ended end s types feeders plans text left c before now ps cs is turns none done first stops wrote noted few reached = inr (record {
  parts = ps;
  turns = turns;
  none_left = none;
  done = done;
  first = subst (λ ds. IfTold text (λ t. AreFirst types s.bits t ds)) (sym is) first;
  stops = stops;
  output = wrote;
  noted = noted;
  few = subst AreFew (sym is) few;
  reached = subst (EndsAtLimit end) (sym is) reached;
})

pub all_told : (text : Option (List ℕ)) (P : Type 0) → P → IfTold text (λ t. P)
all_told None P holds = tt
all_told (Some t) P holds = holds

-- where memory wanted, nothing is claimed of what was read
pub short_stops : (types : Types) (bits : ℕ) (text left : Option (List ℕ)) (ps : List Part) → IfTold text (λ t. StopsFed status.NoMemory types bits t left ps)
short_stops types bits None left ps = tt
short_stops types bits (Some t) left ps = tt

pub ends_in_lines : (ps : List Part) (p : Part) → 0 < length (asked_of p) → EndsInLines (ps ++ p ∷ [])
ends_in_lines [] p some = some
ends_in_lines (x ∷ []) p some = some
ends_in_lines (x ∷ y ∷ ps) p some = ends_in_lines (y ∷ ps) p some

module _ (laws : SegmentLaws) (s : Setting) (types : Types) (feeders : ℕ) (plans : ℕ → List Fate) (text : Option (List ℕ)) where
  abbrev pub To : (List Part → Type 0) → Reading → Option (List ℕ) → Counts → Cell → Option (List ℕ) → Option (List ℕ) → Type 0
  To shape reader left counts c before now = IsFedTo shape s types feeders plans text reader left counts c before now

  abbrev pub Ends : Status → Option (List ℕ) → Cell → Option (List ℕ) → Option (List ℕ) → Type 0
  Ends end left c before now = EndsFedAs end s types feeders plans text left c before now

  pub fed_ready : (shape : List Part → Type 0) → ((ps : List Part) → shape ps → AreStillIn ps) → (reader : Reading) (left : Option (List ℕ)) (counts : Counts) (c : Cell) (before now : Option (List ℕ)) (line : ℕ)
      → To shape reader left counts c before now → line ≡ reader.lines + 1 → IsReady s line c
  fed_ready shape still reader left counts c before now line so is = laws.ready s plans feeders line so.parts c so.setting so.done (still so.parts so.cut) (omega (arith, is, so.count))

  few_lines : (cs : List Asked) (counts : Counts) → AreCounts counts (state_lines cs) (maintain_lines cs) → length cs ≤ most_lines → AreFew cs
  few_lines cs counts are few = few_of cs counts are few

  -- memory wanted, and all is as it was
  pub same_ends : (shape : List Part → Type 0) → ((ps : List Part) → shape ps → AreInTurn ps) → (reader : Reading) (left left' : Option (List ℕ)) (counts : Counts) (c : Cell) (before now : Option (List ℕ))
      → To shape reader left counts c before now → Ends status.NoMemory left' c before now
  same_ends shape cut reader left left' counts c before now so =
      ended status.NoMemory s types feeders plans text left' c before now so.parts (asked_in so.parts) refl (cut so.parts so.cut) (λ other. so.none_left) so.done
      (first_of types s.bits text (asked_in so.parts) reader left so.told) (short_stops types s.bits text left' so.parts) (inl so.output) (noted_at status.NoMemory s feeders so.parts c so.noted)
      (few_lines (asked_in so.parts) counts so.counts_are so.few) tt

  -- ---- a segment

  module _ (reader mid : Reading) (left between : Option (List ℕ)) (counts : Counts) (old new : Cell) (before now now' : Option (List ℕ)) (first : ℕ) (cs : List Asked)
      (so : To AreEnded reader left counts old before now) (lines : reader.max_lines ≡ most_lines) (bytes : reader.max_bytes ≡ most_bytes) (within_limit : reader.lines ≤ most_lines)
      (is : first ≡ reader.lines + 1) (on : ReadsOn types s.bits reader mid left between cs) (still : AreStill cs) (fits : length cs ≤ most_together) where
    abbrev ps : List Part
    ps = so.parts

    abbrev was : List Asked
    was = asked_in so.parts

    abbrev none : ℕ → Lines
    none lane = []

    number : first ≡ length was + 1
    number = omega (arith, is, so.count)

    behind : IfTold text (IsBehind types s.bits mid between (was ++ cs))
    behind = on.behind text was so.count lines bytes so.told

    long : length (was ++ cs) ≡ mid.lines
    long = omega (arith, length-append was cs, so.count, on.grows.lines)

    limit : length (was ++ cs) ≤ most_lines
    limit = let few = on.few (omega (arith, within_limit, lines)) in omega (arith, long, few, on.grows.max_lines, lines)

    counted : AreCounts counts (state_lines (was ++ cs)) (maintain_lines (was ++ cs))
    counted = subst (λ n. AreCounts counts n (maintain_lines (was ++ cs))) (sym (still_states was cs still)) (subst (AreCounts counts (state_lines was)) (sym (still_maintains was cs still)) so.counts_are)

    few : AreFew (was ++ cs)
    few = few_lines (was ++ cs) counts counted limit

    legal_before : (goes : GoesOn (length was) old new) → output_of s was new ≡ output_of s was old
    legal_before goes = output_on s (length was) old new goes (kept_legal s plans was old so.done) so.within (first_told s) 1 was (omega arith) so.answered

    module _ (fed : IsFed s feeders first cs none old new) where
      goes : GoesOn (length was) old new
      goes = fed_goes s feeders first cs none old new fed.lanes cs fed.now (length was) (omega (arith, number))

      done : HaveFed s plans feeders (ps ++ Together cs none ∷ []) new
      done = laws.together s plans feeders first ps cs none old new so.done (ended_still ps so.cut) still number fed

      asked : asked_in (ps ++ Together cs none ∷ []) ≡ was ++ cs
      asked = asked_push ps (Together cs none)

      whole : AreCut (ps ++ Together cs none ∷ [])
      whole = cut_more ps cs none so.cut still fits

      left_none : NoneLeft (ps ++ Together cs none ∷ [])
      left_none = none_left_together ps cs none so.none_left (λ lane. refl)

      -- the bytes of these first lines and those of the segment's first ones
      bytes_more : (es : List Asked) → AreStill es → output_of s (was ++ es) new ≡ output_of s was old ++ reports_from first (answers_from s old.told first es new)
      bytes_more es quiet =
          output_append s (first_told s) 1 was es new
          ∙ ap₂ (λ a b. a ++ b) (legal_before goes)
          (ap₂ (λ t n. output_from s t n es new) (sym (so.done).told) (omega (arith, number)) ∙ sym (reports_are s old.told first es new quiet))

      wrote_more : (es : List Asked) → AreStill es → Appends now now' (reports_from first (answers_from s old.told first es new)) → Appends before now' (output_of s (was ++ es) new)
      wrote_more es quiet wrote = subst (Appends before now') (sym (bytes_more es quiet)) (Appends-trans before now now' (output_of s was old) (reports_from first (answers_from s old.told first es new)) so.output wrote)

      all_answered : AreAnswered s 1 (was ++ cs) (journals_of new)
      all_answered = answered_append s 1 was cs (journals_of new) (all_answered_on s 1 was (journals_of old) (journals_of new) (journals_grow (length was) old new goes) so.answered)
          (subst (λ n. AreAnswered s n cs (journals_of new)) (omega (arith, number)) (fed_answered s feeders first cs old new fed done.lanes))

      within_now : ReadWithin new
      within_now = fed_within s feeders first cs none old new fed.lanes cs fed.now so.within

      noted_now : AreNoted status.Done s feeders (ps ++ Together cs none ∷ []) new
      noted_now = noted_together status.Done s plans feeders first ps cs cs none old new so.done done still number fed.lanes fed.now so.noted (λ j q asks. inl asks) (λ j q asks. asks) within_now

      fed_as : (shape : List Part → Type 0) → shape (ps ++ Together cs none ∷ []) → Appends now now' (reports_from first (answers_from s old.told first cs new)) → To shape mid between counts new before now'
      fed_as shape cut wrote = record {
        setting = so.setting;
        parts = ps ++ Together cs none ∷ [];
        cut = cut;
        none_left = left_none;
        count = ap length asked ∙ long;
        few = subst (λ (ds : List Asked). length ds ≤ most_lines) (sym asked) limit;
        counts_are = subst (λ (ds : List Asked). AreCounts counts (state_lines ds) (maintain_lines ds)) (sym asked) counted;
        done = done;
        output = subst (λ (ds : List Asked). Appends before now' (output_of s ds new)) (sym asked) (wrote_more cs still wrote);
        answered = subst (λ (ds : List Asked). AreAnswered s 1 ds (journals_of new)) (sym asked) all_answered;
        within = within_now;
        noted = noted_now;
        told = subst (λ (ds : List Asked). IfTold text (IsBehind types s.bits mid between ds)) (sym asked) behind;
      }

      pub fed_more : Appends now now' (reports_from first (answers_from s old.told first cs new)) → To AreCut mid between counts new before now'
      fed_more wrote = fed_as AreCut whole wrote

      -- where no more fit into it
      pub fed_full : IsFull cs → Appends now now' (reports_from first (answers_from s old.told first cs new)) → To AreEnded mid between counts new before now'
      fed_full full wrote = fed_as AreEnded (full_more ps cs none so.cut still full) wrote

      -- the sink took a front of one of its reports
      front_taken : TakesReportsFront first (answers_from s old.told first cs new) now now' → TakesPartFront s (ps ++ Together cs none ∷ []) new before now'
      front_taken t =
          let p = parted s old.told first cs new t.earlier (t.last ∷ t.later) t.all in
          by_later p.earlier p.later p.all p.front_is p.back_is
        where
          by_later : (es ls : List Asked) → cs ≡ es ++ ls → answers_from s old.told first es new ≡ t.earlier → answers_from s old.told (first + length es) ls new ≡ t.last ∷ t.later → TakesPartFront s (ps ++ Together cs none ∷ []) new before now'
          by_later es [] all front back = absurd (omega (arith, ap length back))
          by_later es (l ∷ ls) all front back =
              let quiet = still_front es (l ∷ ls) (subst AreStill all still) in
              let size : length t.earlier ≡ length es = ap length (sym front) ∙ answers_long s old.told first es new in
              let told : told_of s (was ++ es) ≡ old.told = told_append (first_told s) was es ∙ ap (λ u. told_by u es) (sym (so.done).told) ∙ told_still old.told es quiet in
              record {
                whole = ps;
                last = Together cs none;
                all = refl;
                earlier = es;
                line = l;
                later = ls;
                lines = all;
                front = t.front;
                rest = t.rest;
                cut = t.cut;
                report = ap₂ (λ u n. report_in s u n l new) told (omega (arith, length-append was es, number))
                    ∙ ap (bytes_of (first + length es)) (head_is _ t.last _ t.later back) ∙ ap (λ n. bytes_of (first + n) t.last) (sym size) ∙ t.report;
                output = subst (Appends before now') (append_bytes es quiet front)
                    (Appends-trans before now now' (output_of s was old) (reports_from first t.earlier ++ t.front) so.output t.output);
              }
            where
              append_bytes : (es : List Asked) → AreStill es → answers_from s old.told first es new ≡ t.earlier → output_of s was old ++ (reports_from first t.earlier ++ t.front) ≡ output_of s (was ++ es) new ++ t.front
              append_bytes es quiet front =
                  sym (append_assoc (output_of s was old) (reports_from first t.earlier) t.front)
                  ∙ ap (λ l. l ++ t.front) (ap (λ xs. output_of s was old ++ reports_from first xs) (sym front) ∙ sym (bytes_more es quiet))

      -- or some whole ones
      some_taken : TakesReports first (answers_from s old.told first cs new) now now' → TakesPart s (ps ++ Together cs none ∷ []) new before now'
      some_taken t =
          let p = parted s old.told first cs new t.earlier t.later t.all in
          let quiet = still_front p.earlier p.later (subst AreStill p.all still) in
          record {
            whole = ps;
            last = Together cs none;
            all = refl;
            earlier = p.earlier;
            later = p.later;
            lines = p.all;
            output = wrote_more p.earlier quiet (subst (λ xs. Appends now now' (reports_from first xs)) (sym p.front_is) t.output);
          }

      some_line : TakesReportsFront first (answers_from s old.told first cs new) now now' → 0 < length cs
      some_line t = let size = answers_long s old.told first cs new in omega (arith, ap length t.all, size, length-append t.earlier (t.last ∷ t.later))

      fault_end : (left' : Option (List ℕ)) → TakesReportsFront first (answers_from s old.told first cs new) now now' → Ends status.WriteFault left' new before now'
      fault_end left' t = ended status.WriteFault s types feeders plans text left' new before now' (ps ++ Together cs none ∷ []) (was ++ cs) asked (inl whole) (λ other. left_none) done
          (first_of types s.bits text (was ++ cs) mid between behind) (all_told text (EndsInLines (ps ++ Together cs none ∷ [])) (ends_in_lines ps (Together cs none) (some_line t))) (front_taken t) (noted_at status.WriteFault s feeders (ps ++ Together cs none ∷ []) new noted_now) few tt

      memory_end : (left' : Option (List ℕ)) → TakesReports first (answers_from s old.told first cs new) now now' → Ends status.NoMemory left' new before now'
      memory_end left' t = ended status.NoMemory s types feeders plans text left' new before now' (ps ++ Together cs none ∷ []) (was ++ cs) asked (inl whole) (λ other. left_none) done
          (first_of types s.bits text (was ++ cs) mid between behind) (short_stops types s.bits text left' (ps ++ Together cs none ∷ [])) (inr (some_taken t)) (noted_at status.NoMemory s feeders (ps ++ Together cs none ∷ []) new noted_now) few tt

    -- where memory wanted as the segment ran
    short_end : (left' : Option (List ℕ)) → IsFedShort s feeders first cs old new → Keeps now now' → Ends status.NoMemory left' new before now'
    short_end left' f kept =
        let parts = ps ++ Together cs f.left ∷ [] in
        let goes = fed_goes s feeders first cs f.left old new f.lanes (take f.searched cs) f.now (length was) (omega (arith, number)) in
        let done = laws.short s plans feeders first ps cs old new so.done (ended_still ps so.cut) still number f in
        let within = fed_within s feeders first cs f.left old new f.lanes (take f.searched cs) f.now so.within in
        ended status.NoMemory s types feeders plans text left' new before now' parts (was ++ cs) (asked_push ps (Together cs f.left)) (inl (cut_more ps cs f.left so.cut still fits))
        (λ other. absurd (other refl)) done (first_of types s.bits text (was ++ cs) mid between behind) (short_stops types s.bits text left' parts)
        (inr (record {
          whole = ps;
          last = Together cs f.left;
          all = refl;
          earlier = [];
          later = cs;
          lines = refl;
          output = subst (λ es. Appends before now' (output_of s es new)) (sym (append-nil was)) (subst (Appends before now') (sym (legal_before goes)) (appends_kept before now now' (output_of s was old) so.output kept));
        }))
        (noted_together status.NoMemory s plans feeders first ps cs (take f.searched cs) f.left old new so.done done still number f.lanes f.now so.noted
        (λ j q asks. elim (take_at f.searched cs j (command.Search q) asks) [
          | inl there ↦ inl there
          | inr past ↦ inr (refl, past)
        ]) (λ j q asks. taken_from f.searched cs j (command.Search q) asks) within) few tt

    -- or before it ran
    unfed_end : (left' : Option (List ℕ)) → new ≡ old → Keeps now now' → Ends status.NoMemory left' new before now'
    unfed_end left' same kept = subst (λ (c : Cell). Ends status.NoMemory left' c before now') (sym same) (same_ends AreEnded (λ qs cut. inr cut) reader left left' counts old before now' (still_so (appends_kept before now now' (output_of s was old) so.output kept)))
      where
        still_so : Appends before now' (output_of s was old) → To AreEnded reader left counts old before now'
        still_so wrote = record {
          setting = so.setting;
          parts = so.parts;
          cut = so.cut;
          none_left = so.none_left;
          count = so.count;
          few = so.few;
          counts_are = so.counts_are;
          done = so.done;
          output = wrote;
          answered = so.answered;
          within = so.within;
          noted = so.noted;
          told = so.told;
        }

    pub segment_fault : (left' : Option (List ℕ)) → StopsSegmentAs stop.Fault s feeders first cs old new now now' → Ends status.WriteFault left' new before now'
    segment_fault left' stopped = fault_end stopped.0 left' stopped.1

    cut_short : (left' : Option (List ℕ)) → IsCutShort s feeders first cs old new now now' → Ends status.NoMemory left' new before now'
    cut_short left' (inl before_answers) = elim before_answers.0 [
      | inl same ↦ unfed_end left' same before_answers.1
      | inr short ↦ short_end left' short before_answers.1
    ]
    cut_short left' (inr at_reports) = memory_end at_reports.0 left' at_reports.1

    pub segment_memory : (left' : Option (List ℕ)) → StopsSegmentAs stop.Memory s feeders first cs old new now now' → Ends status.NoMemory left' new before now'
    segment_memory left' stopped = cut_short left' stopped
