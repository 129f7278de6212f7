-- What the source's last call gave, and that none came after it.
use Rattle.std.proofs.Common.{◌≡◌, ℕ, ◌+◌, ◌-◌, List, [], ◌∷◌, ◌++◌, length, drop, Option, None, Some, sym, ap, ◌∙◌, subst, subst₂, arith, append_assoc, length-append}
use Rattle.carriers.specs.declared.fate.Fate.{Fate}
use Rattle.doc_types.specs.SchemaCodes.{Types}
use Rattle.io_ends.specs.Lines.{end_of}
use Rattle.io_ends.specs.Reading.{Reading, StandsIn, IsNearEnd, CameLast}
use Rattle.lane_lives.specs.declared.setting.Setting.{Setting}
use Rattle.session_cluster.specs.Cells.{Cell}
use Rattle.session_cluster.specs.declared.asked.Asked.{Asked}
use Rattle.session_cluster.proofs.SessionSteps.{kept_more}
use Rattle.cell_session.specs.Answering.{StopsAs}
use Rattle.cell_session.specs.Ends.{IfTold, IsReadBy, ReadsNoMore}
use Rattle.cell_session.specs.Reads.{EndsRead}
use Rattle.cell_session.specs.SoFar.{IsSoFar}
use Rattle.cell_session.specs.declared.answering.Stop.{Stop}
use Rattle.cell_session.specs.declared.answering.Stop.TheVariants as stop
use Rattle.cell_session.specs.declared.counts.Counts.{Counts}
use Rattle.cell_session.specs.declared.next_command.Step.{Step}
use Rattle.cell_session.specs.declared.next_command.Step.TheVariants as step

-- whatever comes of a line that was given
pub command_ends : (gave : ℕ) (text : List ℕ) (old new : Reading) (result : Step) → CameLast gave text old.given (new.passed + length new.ahead) → EndsRead gave text old new result
command_ends gave text old new (step.Command number command) came = came
command_ends gave text old new (step.Over end) came = tt

-- before the first call nothing lies ahead
pub near_none : (gave : ℕ) (ahead : List ℕ) → ahead ≡ [] → IsNearEnd gave ahead
near_none gave ahead none at feed = absurd (omega (arith, feed.within, ap length none))

-- behind the last line there is what the reader holds, which came with the source's last call
read_by : (text : List ℕ) (r n : Reading) (gave count : ℕ) (left now : Option (List ℕ)) → StandsIn text r left → StandsIn text n now
    → CameLast gave text r.given (n.passed + length n.ahead) → count ≡ n.lines → n.lines ≡ r.lines + 1 → IfTold now (IsReadBy gave text count)
read_by text r n gave count None now at stood came is more = absurd at
read_by text r n gave count (Some left) None at stood came is more = absurd stood
read_by text r n gave count (Some left) (Some now) at stood came is more =
    let held = stood.split.front ++ n.ahead in
    let begins : r.given ≡ end_of (count - 1) text = at.given ∙ ap (λ k. end_of k text) (omega (arith, is, more)) in
    let size : n.passed + length n.ahead ≡ length held = omega (arith, length-append stood.split.front n.ahead, stood.split.size) in (
      held,
      (
        subst₂ (CameLast gave text) begins size came,
        ap (λ k. drop (end_of k text) text) is ∙ ap (λ k. drop k text) (sym stood.given) ∙ stood.after ∙ stood.split.whole ∙ sym (append_assoc stood.split.front n.ahead now),
      ),
    )

-- where the sink failed
pub fault_reads : (why : Stop) (s : Setting) (types : Types) (plans : ℕ → List Fate) (text left now : Option (List ℕ)) (r n : Reading) (counts : Counts) (old new : Cell) (before wrote written : Option (List ℕ)) (number gave : ℕ) (c : Asked)
    → IsSoFar s types plans text r left counts old before wrote → ((t : List ℕ) → StandsIn t r left → StandsIn t n now)
    → ((t : List ℕ) → StandsIn t r left → CameLast gave t r.given (n.passed + length n.ahead))
    → number ≡ r.lines + 1 → n.lines ≡ r.lines + 1 → why ≡ stop.Fault → StopsAs why s number c old new wrote written → ReadsNoMore text now gave new.dealt
fault_reads why s types plans None left now r n counts old new before wrote written number gave c so stands came is more fault stopped = tt
fault_reads why s types plans (Some text) left now r n counts old new before wrote written number gave c so stands came is more fault stopped =
    read_by text r n gave new.dealt left now so.told.1 (stands text so.told.1) (came text so.told.1) (dealt (subst (λ w. StopsAs w s number c old new wrote written) fault stopped)) more
  where
    dealt : StopsAs stop.Fault s number c old new wrote written → new.dealt ≡ n.lines
    dealt h =
        let kept = kept_more s plans so.commands c old new number so.kept (omega (arith, is, so.count)) h.0.0 in
        omega (arith, kept.dealt, length-append so.commands (c ∷ []), so.count, more)
