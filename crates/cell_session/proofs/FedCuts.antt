-- A line that ends a segment, and how the session ends behind one.
use Rattle.std.proofs.Common.{◌≡◌, ℕ, ◌+◌, ◌≤◌, true, List, [], ◌∷◌, ◌++◌, Option, Ok, Err, inl, inr, refl, sym, ap, ap₂, ◌∙◌, subst, arith, length, length-append, append-nil}
use Rattle.std.proofs.KnownBytes.{Appends-trans}
use Rattle.std.specs.Io.KnownBytes.{Appends, Keeps}
use Rattle.carriers.specs.declared.fate.Fate.{Fate}
use Rattle.doc_types.specs.SchemaCodes.{Types}
use Rattle.io_ends.specs.Causes.{AppendsFront}
use Rattle.io_ends.specs.Reading.{Reading}
use Rattle.io_ends.specs.declared.next.LimitKind.{LimitKind}
use Rattle.lane_lives.specs.declared.setting.Setting.{Setting}
use Rattle.session_cluster.specs.Cells.{Cell, journals_of}
use Rattle.session_cluster.specs.Deeds.{first_told, told_of}
use Rattle.session_cluster.specs.Output.{report_in, output_of}
use Rattle.session_cluster.specs.Steps.{IsRoomier, IsSpanNoted, IsAfter, IsDealt, IsAllOrNothing}
use Rattle.session_cluster.specs.declared.asked.Asked.{Asked}
use Rattle.session_cluster.proofs.KeptLanes.{kept_legal}
use Rattle.session_cluster.proofs.SessionSteps.{done_roomier, done_as}
use Rattle.session_segments.specs.Fed.{HaveFed}
use Rattle.session_segments.specs.FedDeeds.{fed_deeds}
use Rattle.session_segments.specs.Parts.{cuts, Part, Alone, asked_in, AreCut, AreEnded, NoneLeft}
use Rattle.session_segments.proofs.PartLists.{asked_push, cut_still, ended_more, none_left_alone}
use Rattle.cell_session.specs.Answering.{StopsAs}
use Rattle.cell_session.specs.Counting.{state_lines, maintain_lines, counts_with, AreFew}
use Rattle.cell_session.specs.Ends.{IfTold, StopsAt}
use Rattle.cell_session.specs.FedDealing.{AreNoted}
use Rattle.cell_session.specs.FedEnds.{EndsInLines, StopsFed, WritesFed}
use Rattle.cell_session.specs.Limits.{most_lines, most_bytes, most_states, most_maintains}
use Rattle.cell_session.specs.Reads.{IsReadEnd}
use Rattle.cell_session.specs.SegmentReads.{TakesStep}
use Rattle.cell_session.specs.SoFar.{IsBehind}
use Rattle.cell_session.specs.declared.answering.Stop.TheVariants as stop
use Rattle.cell_session.specs.declared.counts.Counts.{Counts}
use Rattle.cell_session.specs.declared.next_command.Step.TheVariants as step
use Rattle.cell_session.specs.declared.status.Status.{Status}
use Rattle.cell_session.specs.declared.status.Status.TheVariants as status
use Rattle.cell_session.proofs.FedLoops.{SegmentLaws, IsFedTo, Ends, ended, short_stops, ends_in_lines, all_told, output_append}
use Rattle.cell_session.proofs.FedNoted.{noted_at, noted_roomier, noted_alone}
use Rattle.cell_session.proofs.FedOutput.{GoesOn, AreAnswered, journals_grow, all_answered_on, answered_append, output_on}
use Rattle.cell_session.proofs.FedSteps.{cut_goes, cut_within, cut_answered}
use Rattle.cell_session.proofs.Loops.{AreCounts, counts_more, counts_full, full_passes, full_reached, told_more, first_of, few_of, stops_of, reached_of, appends_kept}
use Rattle.cell_session.proofs.OutputLaws.{roomier_output}
use Rattle.cell_session.proofs.UpkeepLaws.{noted_last, cut_last}

-- ---- ends of reading

-- one that comes of reading stops the session as where each line runs alone
stops_same : (end : Status) (types : Types) (bits : ℕ) (text left : Option (List ℕ)) (ps : List Part) (last : Option ℕ) (a b : ℕ) → IsReadEnd end last a b → IfTold text (λ t. StopsAt end types bits t left (asked_in ps))
    → IfTold text (λ t. StopsFed end types bits t left ps)
stops_same status.Done types bits text left ps last a b may stops = stops
stops_same status.ReadFault types bits text left ps last a b may stops = stops
stops_same status.NoMemory types bits text left ps last a b may stops = stops
stops_same (status.Limit which) types bits text left ps last a b may stops = stops
stops_same status.Usage types bits text left ps last a b may stops = absurd may
stops_same status.WriteFault types bits text left ps last a b may stops = absurd may

written_same : (end : Status) (s : Setting) (ps : List Part) (c : Cell) (before now : Option (List ℕ)) (last : Option ℕ) (a b : ℕ) → IsReadEnd end last a b → Appends before now (output_of s (asked_in ps) c) → WritesFed end s ps c before now
written_same status.Done s ps c before now last a b may wrote = wrote
written_same status.ReadFault s ps c before now last a b may wrote = wrote
written_same status.NoMemory s ps c before now last a b may wrote = inl wrote
written_same (status.Limit which) s ps c before now last a b may wrote = wrote
written_same status.Usage s ps c before now last a b may wrote = absurd may
written_same status.WriteFault s ps c before now last a b may wrote = absurd may

module _ (laws : SegmentLaws) (s : Setting) (types : Types) (feeders : ℕ) (plans : ℕ → List Fate) (text : Option (List ℕ)) where
  abbrev Behind : Reading → Option (List ℕ) → Counts → Cell → Option (List ℕ) → Option (List ℕ) → Type 0
  Behind reader left counts c before now = IsFedTo AreCut s types feeders plans text reader left counts c before now

  abbrev EndsSo : Status → Option (List ℕ) → Cell → Option (List ℕ) → Option (List ℕ) → Type 0
  EndsSo end left c before now = Ends laws s types feeders plans text end left c before now

  -- no line is left
  pub over_end : (end : Status) (mid reader : Reading) (between left : Option (List ℕ)) (counts : Counts) (c : Cell) (before now : Option (List ℕ)) (last : Option ℕ) (a b : ℕ)
      → Behind mid between counts c before now → mid.max_lines ≡ most_lines → mid.max_bytes ≡ most_bytes → TakesStep types s.bits mid reader between left (step.Over end) → IsReadEnd end last a b → EndsSo end left c before now
  over_end end mid reader between left counts c before now last a b so lines bytes takes may =
      let was = asked_in so.parts in
      ended end s types feeders plans text left c before now so.parts was refl (inl so.cut) (λ other. so.none_left) so.done (first_of types s.bits text was mid between so.told)
      (stops_same end types s.bits text left so.parts last a b may (stops_of end types s.bits text between left mid reader was so.told so.count lines bytes takes.shows takes.stands takes.advances last a b may))
      (written_same end s so.parts c before now last a b may so.output) (noted_at end s feeders so.parts c so.noted) (few_of was counts so.counts_are so.few) (reached_of end mid reader was so.count lines takes.advances)

  -- one line more is of a kind of which there may be no more
  pub limit_end : (which : LimitKind) (mid reader : Reading) (between left : Option (List ℕ)) (counts : Counts) (c : Cell) (before now : Option (List ℕ)) (number : ℕ) (command : Asked)
      → Behind mid between counts c before now → mid.max_lines ≡ most_lines → mid.max_bytes ≡ most_bytes → TakesStep types s.bits mid reader between left (step.Command number command) → counts_with counts command ≡ Err which
      → EndsSo (status.Limit which) left c before now
  limit_end which mid reader between left counts c before now number command so lines bytes takes full =
      let was = asked_in so.parts in
      let is_full = counts_full counts command which full in
      ended (status.Limit which) s types feeders plans text left c before now so.parts was refl (inl so.cut) (λ other. so.none_left) so.done (first_of types s.bits text was mid between so.told)
      (full_passes which types s.bits text between mid counts was number command so.told so.count (so.counts_are).states_are (so.counts_are).maintains_are lines bytes takes.shows is_full)
      so.output (noted_at (status.Limit which) s feeders so.parts c so.noted) (few_of was counts so.counts_are so.few) (full_reached which counts was command (so.counts_are).states_are (so.counts_are).maintains_are is_full)

  -- ---- one line more

  module _ (mid reader : Reading) (between left : Option (List ℕ)) (counts counted : Counts) (old new : Cell) (before now now' : Option (List ℕ)) (number : ℕ) (c : Asked)
      (so : Behind mid between counts old before now) (lines : mid.max_lines ≡ most_lines) (bytes : mid.max_bytes ≡ most_bytes) (takes : TakesStep types s.bits mid reader between left (step.Command number c))
      (cut : cuts c ≡ true) (with : counts_with counts c ≡ Ok counted) where
    abbrev ps : List Part
    ps = so.parts

    abbrev was : List Asked
    was = asked_in so.parts

    abbrev more : List Asked
    more = was ++ c ∷ []

    next : number ≡ length was + 1
    next = let is = (takes.advances).numbered in omega (arith, is, so.count)

    asked : asked_in (ps ++ Alone c ∷ []) ≡ more
    asked = asked_push ps (Alone c)

    long : length more ≡ reader.lines
    long = let grows = ((takes.advances).grows).lines in omega (arith, length-append was (c ∷ []), so.count, grows)

    limit : length more ≤ most_lines
    limit = let few = (takes.advances).few in let same = ((takes.advances).grows).max_lines in omega (arith, long, few, same, lines)

    grown : AreCounts counted (state_lines more) (maintain_lines more)
    grown = counts_more counts counted was c so.counts_are with

    few : AreFew more
    few = few_of more counted grown limit

    behind : IfTold text (IsBehind types s.bits reader left more)
    behind = told_more types s.bits text mid reader between left was number c so.told so.count lines bytes takes.shows takes.stands
        (subst (λ n. n ≤ most_states) grown.states_are grown.few_states) (subst (λ n. n ≤ most_maintains) grown.maintains_are grown.few_maintains)

    module _ (after : IsAfter s number c old new) where
      done : HaveFed s plans feeders (ps ++ Alone c ∷ []) new
      done = laws.alone s plans feeders number ps c old new so.done (cut_still ps so.cut) next after

      goes : GoesOn (length was) old new
      goes = cut_goes s plans feeders ps c old new number so.done after (done.lanes ∙ sym (so.done).lanes) (length was) (omega (arith, next))

      earlier : output_of s was new ≡ output_of s was old
      earlier = output_on s (length was) old new goes (kept_legal s plans was old so.done) so.within (first_told s) 1 was (omega arith) so.answered

      bytes_more : output_of s more new ≡ output_of s was old ++ report_in s old.told number c new
      bytes_more =
          output_append s (first_told s) 1 was (c ∷ []) new
          ∙ ap₂ (λ a b. a ++ b) earlier (append-nil _ ∙ ap₂ (λ t n. report_in s t n c new) (sym (so.done).told) (omega (arith, next)))

      whole : AreEnded (ps ++ Alone c ∷ [])
      whole = ended_more ps c so.cut cut

      left_none : NoneLeft (ps ++ Alone c ∷ [])
      left_none = none_left_alone ps c so.none_left

      all_answered : AreAnswered s 1 more (journals_of new)
      all_answered = answered_append s 1 was (c ∷ []) (journals_of new) (all_answered_on s 1 was (journals_of old) (journals_of new) (journals_grow (length was) old new goes) so.answered)
          (cut_answered s (1 + length was) c (journals_of new) cut, tt)

      noted_by : IsSpanNoted number c old new → (end : Status) → AreNoted end s feeders (ps ++ Alone c ∷ []) new
      noted_by spans end = noted_alone s plans feeders ps c old new number so.done next after so.noted end cut (noted_last s c old new number end spans)

      cut_more : IsSpanNoted number c old new → Appends now now' (report_in s old.told number c new) → IsFedTo AreEnded s types feeders plans text reader left counted new before now'
      cut_more spans wrote = record {
        setting = so.setting;
        parts = ps ++ Alone c ∷ [];
        cut = whole;
        none_left = left_none;
        count = ap length asked ∙ long;
        few = subst (λ (ds : List Asked). length ds ≤ most_lines) (sym asked) limit;
        counts_are = subst (λ (ds : List Asked). AreCounts counted (state_lines ds) (maintain_lines ds)) (sym asked) grown;
        done = done;
        output = subst (λ (ds : List Asked). Appends before now' (output_of s ds new)) (sym asked)
            (subst (Appends before now') (sym bytes_more) (Appends-trans before now now' (output_of s was old) (report_in s old.told number c new) so.output wrote));
        answered = subst (λ (ds : List Asked). AreAnswered s 1 ds (journals_of new)) (sym asked) all_answered;
        within = cut_within s plans feeders ps c old new number so.done after cut so.within;
        noted = noted_by spans status.Done;
        told = subst (λ (ds : List Asked). IfTold text (IsBehind types s.bits reader left ds)) (sym asked) behind;
      }

      front_end : IsSpanNoted number c old new → AppendsFront now now' (report_in s old.told number c new) → EndsSo status.WriteFault left new before now'
      front_end spans (front, (rest, (all, (some, wrote)))) =
          ended status.WriteFault s types feeders plans text left new before now' (ps ++ Alone c ∷ []) more asked (inr whole) (λ other. left_none) done (first_of types s.bits text more reader left behind)
          (all_told text (EndsInLines (ps ++ Alone c ∷ [])) (ends_in_lines ps (Alone c) (omega arith))) (record {
            whole = ps;
            last = Alone c;
            all = refl;
            earlier = [];
            line = c;
            later = [];
            lines = refl;
            front = front;
            rest = rest;
            cut = some;
            report = ap (λ es. report_in s (told_of s es) (length es + 1) c new) (append-nil was) ∙ ap₂ (λ t n. report_in s t n c new) (sym (so.done).told) (sym next) ∙ all;
            output = subst (λ es. Appends before now' (output_of s es new ++ front)) (sym (append-nil was))
                (subst (λ x. Appends before now' (x ++ front)) (sym earlier) (Appends-trans before now now' (output_of s was old) front so.output wrote));
          }) (noted_by spans status.WriteFault) few tt

      unreported_end : Keeps now now' → EndsSo status.NoMemory left new before now'
      unreported_end kept =
          ended status.NoMemory s types feeders plans text left new before now' (ps ++ Alone c ∷ []) more asked (inr whole) (λ other. left_none) done (first_of types s.bits text more reader left behind)
          (short_stops types s.bits text left (ps ++ Alone c ∷ []))
          (inr (record {
            whole = ps;
            last = Alone c;
            all = refl;
            earlier = [];
            later = c ∷ [];
            lines = refl;
            output = subst (λ es. Appends before now' (output_of s es new)) (sym (append-nil was)) (subst (Appends before now') (sym earlier) (appends_kept before now now' (output_of s was old) so.output kept));
          })) (noted_alone s plans feeders ps c old new number so.done next after so.noted status.NoMemory cut (cut_last s c old new number after)) few tt

    room_end : IsRoomier old new → Keeps now now' → EndsSo status.NoMemory left new before now'
    room_end room kept =
        let same = ap (λ (x : Cell). x.upkeeps) room.rest in
        let done = done_as s plans was (λ lane. fed_deeds s old.upkeeps feeders lane ps) (λ lane. fed_deeds s new.upkeeps feeders lane ps) new (λ lane. ap (λ us. fed_deeds s us feeders lane ps) (sym same))
        (done_roomier s plans was (λ lane. fed_deeds s old.upkeeps feeders lane ps) old new room so.done) in
        ended status.NoMemory s types feeders plans text left new before now' ps was refl (inl so.cut) (λ other. so.none_left) done (first_of types s.bits text was mid between so.told) (short_stops types s.bits text left ps)
        (inl (subst (Appends before now') (sym (roomier_output s was old new room)) (appends_kept before now now' (output_of s was old) so.output kept)))
        (noted_roomier status.NoMemory s feeders ps old new room so.noted) (few_of was counts so.counts_are so.few) tt

    pub line_more : IsDealt s number c old new → Appends now now' (report_in s old.told number c new) → IsFedTo AreEnded s types feeders plans text reader left counted new before now'
    line_more dealt wrote = cut_more dealt.0 dealt.1 wrote

    pub line_fault : StopsAs stop.Fault s number c old new now now' → EndsSo status.WriteFault left new before now'
    line_fault stopped = front_end stopped.0.0 stopped.0.1 stopped.1

    by_all : IsAllOrNothing s number c old new → Keeps now now' → EndsSo status.NoMemory left new before now'
    by_all (inl room) kept = room_end room kept
    by_all (inr after) kept = unreported_end after kept

    pub line_memory : StopsAs stop.Memory s number c old new now now' → EndsSo status.NoMemory left new before now'
    line_memory stopped = by_all stopped.0 stopped.1
