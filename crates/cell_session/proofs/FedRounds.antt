-- A segment and the line that ends it, as a session goes round.
use Rattle.std.proofs.Common.{◌≡◌, ℕ, ◌+◌, ◌≤◌, ◌<◌, true, List, [], Option, None, Some, Ok, Err, inr, refl, sym, ◌∙◌, subst, arith, length}
use Rattle.std.specs.Io.KnownBytes.{Appends}
use Rattle.carriers.specs.declared.fate.Fate.{Fate}
use Rattle.doc_types.specs.SchemaCodes.{Types}
use Rattle.io_ends.specs.Causes.{HasRisen}
use Rattle.io_ends.specs.Reading.{Reading}
use Rattle.io_ends.specs.declared.next.LimitKind.{LimitKind}
use Rattle.lane_lives.specs.declared.setting.Setting.{Setting}
use Rattle.session_cluster.specs.Cells.{Cell}
use Rattle.session_cluster.specs.Keeping.{IsReady}
use Rattle.session_cluster.specs.Output.{report_in}
use Rattle.session_cluster.specs.Steps.{IsDealt}
use Rattle.session_cluster.specs.declared.asked.Asked.{Asked}
use Rattle.session_segments.specs.Fed.{IsFed, answers_from}
use Rattle.session_segments.specs.Parts.{cuts, AreStill, most_together, IsFull, AreCut, AreEnded}
use Rattle.session_segments.proofs.PartLists.{cut_still, ended_still}
use Rattle.cell_session.specs.Answering.{StopsAs, stop_status}
use Rattle.cell_session.specs.Counting.{counts_with}
use Rattle.cell_session.specs.FedAnswering.{StopsSegmentAs}
use Rattle.cell_session.specs.FedDealing.{EndsFedAs}
use Rattle.cell_session.specs.Limits.{most_lines, most_bytes, most_states, most_maintains}
use Rattle.cell_session.specs.Reads.{IsReadEnd, CausedBySource}
use Rattle.cell_session.specs.Reporting.{reports_from}
use Rattle.cell_session.specs.SegmentReads.{TakesStep, TakesNext, ReadsSegment, IsCutBy, CausedBehind}
use Rattle.cell_session.specs.declared.answering.Stop.{Stop}
use Rattle.cell_session.specs.declared.answering.Stop.TheVariants as stop
use Rattle.cell_session.specs.declared.counts.Counts.{Counts}
use Rattle.cell_session.specs.declared.next_command.Step.{Step}
use Rattle.cell_session.specs.declared.next_command.Step.TheVariants as step
use Rattle.cell_session.specs.declared.status.Status.{Status}
use Rattle.cell_session.specs.declared.status.Status.TheVariants as status
use Rattle.cell_session.proofs.FedCuts.{over_end, limit_end, line_more, line_fault, line_memory}
use Rattle.cell_session.proofs.FedLoops.{SegmentLaws, IsFedTo, fed_ready, same_ends, fed_more, fed_full, segment_fault, segment_memory}

-- ---- why it stops

pub fault_is : (why : Stop) → stop_status why ≡ status.WriteFault → why ≡ stop.Fault
fault_is stop.Fault is = refl
fault_is stop.Memory is = cc is

-- a fault of the source comes of it
pub read_risen : (next : Option Step) (end : Status) (last : Option ℕ) (a b : ℕ) → next ≡ Some (step.Over end) → end ≡ status.ReadFault → CausedBehind next last a b → HasRisen last a b
read_risen next end last a b same is caused = subst (λ e. IsReadEnd e last a b) is (subst (λ n. CausedBehind n last a b) same caused)

pub read_no_fault : (next : Option Step) (end : Status) (last : Option ℕ) (a b : ℕ) → next ≡ Some (step.Over end) → end ≡ status.WriteFault → CausedBehind next last a b → ⊥
read_no_fault next end last a b same is caused = subst (λ e. IsReadEnd e last a b) is (subst (λ n. CausedBehind n last a b) same caused)

-- as many lines as are dealt with together, or fewer
fits_in : (cs : List Asked) (next : Option Step) → IsCutBy cs next → length cs ≤ most_together
fits_in cs None ends = omega (arith, ends)
fits_in cs (Some (step.Command number command)) ends = omega (arith, ends.0)
fits_in cs (Some (step.Over end)) ends = omega (arith, ends)

module _ (laws : SegmentLaws) (s : Setting) (types : Types) (feeders : ℕ) (plans : ℕ → List Fate) (text : Option (List ℕ)) (reader : Reading) (left : Option (List ℕ)) (counts : Counts) (old : Cell) (before wrote : Option (List ℕ))
    (so : IsFedTo AreEnded s types feeders plans text reader left counts old before wrote) where
  abbrev EndsSo : Status → Option (List ℕ) → Cell → Option (List ℕ) → Type 0
  EndsSo end now c written = EndsFedAs end s types feeders plans text now c before written

  -- ---- before a segment

  pub round_ready : (line : ℕ) → line ≡ reader.lines + 1 → IsReady s line old
  round_ready line is = fed_ready laws s types feeders plans text AreEnded ended_still reader left counts old before wrote line so is

  pub round_unread : (now : Option (List ℕ)) → EndsSo status.NoMemory now old wrote
  round_unread now = same_ends laws s types feeders plans text AreEnded (λ ps cut. inr cut) reader left now counts old before wrote so

  -- ---- the segment

  module _ (new : Reading) (now : Option (List ℕ)) (first : ℕ) (cs : List Asked) (next : Option Step) (lines : reader.max_lines ≡ most_lines) (bytes : reader.max_bytes ≡ most_bytes) (limit : reader.lines ≤ most_lines)
      (is : first ≡ reader.lines + 1) (read : ReadsSegment types s.bits reader new left now cs next) (still : AreStill cs) (ends : IsCutBy cs next) where
    fits : length cs ≤ most_together
    fits = fits_in cs next ends

    pub round_few : first + length cs ≤ 50001
    round_few =
        let on = read.lines in
        let few = on.few (omega (arith, limit, lines)) in
        omega (arith, is, on.grows.lines, on.grows.max_lines, few, lines)

    pub segment_stop : (why : Stop) (mid : Cell) (wrote' : Option (List ℕ)) → StopsSegmentAs why s feeders first cs old mid wrote wrote' → EndsSo (stop_status why) now mid wrote'
    segment_stop stop.Fault mid wrote' stopped =
        segment_fault laws s types feeders plans text reader read.mid left read.between counts old mid before wrote wrote' first cs so lines bytes limit is read.lines still fits now stopped
    segment_stop stop.Memory mid wrote' stopped =
        segment_memory laws s types feeders plans text reader read.mid left read.between counts old mid before wrote wrote' first cs so lines bytes limit is read.lines still fits now stopped

    module _ (mid : Cell) (wrote' : Option (List ℕ)) (fed : IsFed s feeders first cs (λ _. []) old mid) (written : Appends wrote wrote' (reports_from first (answers_from s old.told first cs mid))) where
      behind : IsFedTo AreCut s types feeders plans text read.mid read.between counts mid before wrote'
      behind = fed_more laws s types feeders plans text reader read.mid left read.between counts old mid before wrote wrote' first cs so lines bytes limit is read.lines still fits fed written

      mid_lines : (read.mid).max_lines ≡ most_lines
      mid_lines = ((read.lines).grows).max_lines ∙ lines

      mid_bytes : (read.mid).max_bytes ≡ most_bytes
      mid_bytes = ((read.lines).grows).max_bytes ∙ bytes

      step_is : (n : Step) → next ≡ Some n → TakesStep types s.bits read.mid new read.between now n
      step_is n same = subst (TakesNext types s.bits read.mid new read.between now) same read.step

      pub round_over : (end : Status) (last : Option ℕ) (a b : ℕ) → next ≡ Some (step.Over end) → CausedBehind next last a b → EndsSo end now mid wrote'
      round_over end last a b same caused =
          over_end laws s types feeders plans text end read.mid new read.between now counts mid before wrote' last a b behind mid_lines mid_bytes (step_is (step.Over end) same)
          (subst (λ n. CausedBehind n last a b) same caused)

      pub round_counts : (counts.states ≤ most_states) × (counts.maintains ≤ most_maintains)
      round_counts = ((behind.counts_are).few_states, (behind.counts_are).few_maintains)

      -- ---- where no line ends it

      full_step : next ≡ None → (new ≡ read.mid) × (now ≡ read.between)
      full_step none = subst (TakesNext types s.bits read.mid new read.between now) none read.step

      pub round_full : next ≡ None → IsFedTo AreEnded s types feeders plans text new now counts mid before wrote'
      round_full none =
          let same = full_step none in
          let full : IsFull cs = subst (IsCutBy cs) none ends in
          subst (λ r. IsFedTo AreEnded s types feeders plans text r now counts mid before wrote') (sym same.0)
          (subst (λ l. IsFedTo AreEnded s types feeders plans text read.mid l counts mid before wrote') (sym same.1)
          (fed_full laws s types feeders plans text reader read.mid left read.between counts old mid before wrote wrote' first cs so lines bytes limit is read.lines still fits fed full written))

      -- the reader stands behind them
      pub record IsFilled : Type 0 where
        pub max_lines : new.max_lines ≡ most_lines
        pub max_bytes : new.max_bytes ≡ most_bytes
        pub few : new.lines ≤ most_lines
        pub stands : new.lines ≡ reader.lines + length cs
        pub some : 0 < length cs

      pub full_on : next ≡ None → IsFilled
      full_on none =
          let same = (full_step none).0 in
          let full : IsFull cs = subst (IsCutBy cs) none ends in
          let on = (read.lines).grows in
          let few = (read.lines).few (omega (arith, limit, lines)) in
          record {
            max_lines = subst (λ (r : Reading). r.max_lines ≡ most_lines) (sym same) mid_lines;
            max_bytes = subst (λ (r : Reading). r.max_bytes ≡ most_bytes) (sym same) mid_bytes;
            few = subst (λ (r : Reading). r.lines ≤ most_lines) (sym same) (omega (arith, few, mid_lines));
            stands = subst (λ (r : Reading). r.lines ≡ reader.lines + length cs) (sym same) on.lines;
            some = omega (arith, full);
          }

      -- ---- the line that ends it

      module _ (number : ℕ) (c : Asked) (same : next ≡ Some (step.Command number c)) where
        takes : TakesStep types s.bits read.mid new read.between now (step.Command number c)
        takes = step_is (step.Command number c) same

        pub round_limit : (which : LimitKind) → counts_with counts c ≡ Err which → EndsSo (status.Limit which) now mid wrote'
        round_limit which full = limit_end laws s types feeders plans text which read.mid new read.between now counts mid before wrote' number c behind mid_lines mid_bytes takes full

        pub line_ready : IsReady s number mid
        line_ready = fed_ready laws s types feeders plans text AreCut cut_still read.mid read.between counts mid before wrote' number behind (takes.advances).numbered

        -- the reader stands behind it
        pub record IsOn : Type 0 where
          pub max_lines : new.max_lines ≡ most_lines
          pub max_bytes : new.max_bytes ≡ most_bytes
          pub few : new.lines ≤ most_lines
          pub stands : new.lines ≡ number
          pub more : reader.lines + 1 ≤ new.lines

        pub line_on : IsOn
        line_on =
            let at = takes.advances in
            let on = at.grows in
            let came = ((read.lines).grows).lines in
            record {
              max_lines = on.max_lines ∙ mid_lines;
              max_bytes = on.max_bytes ∙ mid_bytes;
              few = omega (arith, at.few, on.max_lines, mid_lines);
              stands = omega (arith, on.lines, at.numbered);
              more = omega (arith, on.lines, came);
            }

        module _ (counted : Counts) (with : counts_with counts c ≡ Ok counted) (last : Cell) (wrote'' : Option (List ℕ)) where
          cut : cuts c ≡ true
          cut = (subst (IsCutBy cs) same ends).1

          pub line_stop : (why : Stop) → StopsAs why s number c mid last wrote' wrote'' → EndsSo (stop_status why) now last wrote''
          line_stop stop.Fault stopped = line_fault laws s types feeders plans text read.mid new read.between now counts counted mid last before wrote' wrote'' number c behind mid_lines mid_bytes takes cut with stopped
          line_stop stop.Memory stopped = line_memory laws s types feeders plans text read.mid new read.between now counts counted mid last before wrote' wrote'' number c behind mid_lines mid_bytes takes cut with stopped

          pub round_more : IsDealt s number c mid last → Appends wrote' wrote'' (report_in s mid.told number c last) → IsFedTo AreEnded s types feeders plans text new now counted last before wrote''
          round_more dealt reported = line_more laws s types feeders plans text read.mid new read.between now counts counted mid last before wrote' wrote'' number c behind mid_lines mid_bytes takes cut with dealt reported
