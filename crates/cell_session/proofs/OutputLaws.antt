-- One line more adds its report to the output.
use Rattle.std.proofs.Common.{◌≡◌, ◌≢◌, ◌⊎◌, ℕ, suc, ◌+◌, ◌≤◌, List, [], ◌∷◌, ◌++◌, Option, None, Some, inl, inr, refl, sym, ap, ap₂, ◌∙◌, arith, length, append_assoc, append-nil}
use Rattle.carriers.specs.declared.fate.Fate.{Fate}
use Rattle.documents.specs.declared.entry.Entry.{Entry}
use Rattle.stamps.specs.declared.stamp.Stamp.{Stamp}
use Rattle.lane_journals.specs.Meanings.{entry_at}
use Rattle.cluster_states.specs.Publishing.{Told}
use Rattle.messages.specs.declared.outcome.Outcome.{Outcome}
use Rattle.messages.specs.declared.outcome.Outcome.TheVariants as outcome
use Rattle.lane_calls.specs.LaneValues.{LaneValue}
use Rattle.lane_journals.specs.KeptJournals.{IsLegal}
use Rattle.lane_keeping.specs.LaneKeeping.{setting_of}
use Rattle.lane_lives.specs.declared.setting.Setting.{Setting}
use Rattle.lane_calls.specs.Readings.{outcome_in}
use Rattle.lane_lives.specs.Serving.{bucket_in}
use Rattle.lane_promises.proofs.Answered.{found_written}
use Rattle.lane_calls.proofs.OneLine.{IsLine}
use Rattle.session_cluster.specs.Cells.{Cell, journals, journals_of}
use Rattle.session_cluster.specs.Deeds.{first_told, told_next, told_by, told_of}
use Rattle.session_cluster.specs.Keeping.{IsKept}
use Rattle.session_cluster.specs.Lanes.{Journal, lane_of_id, journal_in, AreLegal}
use Rattle.session_cluster.specs.Output.{outcome_answer, closed_answer, operation_answer, upkeep_answer, found_answer_of, bytes_of, report_in, output_from, output_of}
use Rattle.session_cluster.specs.Searches.{fronts_of, version_now}
use Rattle.search_views.specs.Answers.{search_answer}
use Rattle.session_cluster.specs.Steps.{IsRoomier, IsAfter}
use Rattle.session_cluster.specs.declared.asked.Asked.{Asked}
use Rattle.session_cluster.specs.declared.asked.Asked.TheVariants as command
use Rattle.session_cluster.proofs.KeptLanes.{kept_legal}
use Rattle.session_cluster.proofs.Moving.{Moves, moves, answer_seen}
use Rattle.session_cluster.proofs.SessionSteps.{LeavesSpans, LeavesFronts, leaves_spans, leaves_fronts}
use Rattle.cell_session.specs.Operations.{deeds_before}
use Rattle.cell_session.specs.Searches.{AreRead}
use Rattle.cell_session.proofs.ReadLaws.{ViewsStay, views_stay}
use Rattle.doc_types.specs.SchemaCodes.{Types}
use Rattle.query_text.specs.Grammar.{Said}
use Rattle.reports.specs.declared.answer.Answer.TheVariants as answer

-- an earlier line's answer stays
pub closed_same : (s : Setting) (lane j : ℕ) (J K : Journal) (o : Option Outcome) → IsLegal (setting_of (bucket_in s lane) s.rules) J → ((t : Stamp) (e : Entry) → entry_at t J ≡ Some e → entry_at t K ≡ Some e) → outcome_in j J ≡ o → closed_answer o K ≡ closed_answer o J
closed_same s lane j J K None legal entries is = refl
closed_same s lane j J K (Some (outcome.Acked t)) legal entries is = refl
closed_same s lane j J K (Some (outcome.Missing seen)) legal entries is = refl
closed_same s lane j J K (Some (outcome.Nothing seen)) legal entries is = refl
closed_same s lane j J K (Some (outcome.ConditionFailed seen)) legal entries is = refl
closed_same s lane j J K (Some (outcome.BadUpdate fault)) legal entries is = refl
closed_same s lane j J K (Some (outcome.TooFew answered needed absent)) legal entries is = refl
closed_same s lane j J K (Some (outcome.OwnedElsewhere owner version)) legal entries is = refl
closed_same s lane j J K (Some outcome.NoMemory) legal entries is = refl
closed_same s lane j J K (Some (outcome.Found t)) legal entries is =
    let was = found_written (setting_of (bucket_in s lane) s.rules) J legal j t is in
    ap (outcome_answer (outcome.Found t)) (entries t was.0 was.1 ∙ sym was.1)

moved_answer : (s : Setting) (lane k j : ℕ) (J K : Journal) → IsLine k J K ⊎ (K ≡ J) → IsLegal (setting_of (bucket_in s lane) s.rules) J → j ≢ k → closed_answer (outcome_in j K) K ≡ closed_answer (outcome_in j J) J
moved_answer s lane k j J K (inl line) legal h = ap (λ o. closed_answer o K) (line.outcome_is j h) ∙ closed_same s lane j J K (outcome_in j J) legal line.entries refl
moved_answer s lane k j J K (inr same) legal h = ap (λ x. closed_answer (outcome_in j x) x) same

operation_stays : (s : Setting) (j k : ℕ) (id : List ℕ) (vs ws : List LaneValue) → Moves k vs ws → AreLegal s (journals vs) → j ≢ k → operation_answer s j id (journals ws) ≡ operation_answer s j id (journals vs)
operation_stays s j k id vs ws m legal h = let lane = lane_of_id s.bits id in moved_answer s lane k j (journal_in lane (journals vs)) (journal_in lane (journals ws)) (m.journal lane) (legal lane) h

-- what a search found stays, where the views to which it read do
pub found_same : (types : Types) (told : Told) (q : Said) (j : ℕ) (vs ws : Cell) (o : Option (List ℕ)) → ViewsStay types vs ws → fronts_of j vs.fronts ≡ o → found_answer_of types told q o (journals ws.lanes) ≡ found_answer_of types told q o (journals vs.lanes)
found_same types told q j vs ws None views is = refl
found_same types told q j vs ws (Some gs) views is = ap (λ us. Some (answer.Search (search_answer q (version_now told) us))) (views j gs is)

found_stays : (types : Types) (told : Told) (q : Said) (j k : ℕ) (vs ws : Cell) → LeavesFronts k vs ws → ViewsStay types vs ws → j ≢ k
    → found_answer_of types told q (fronts_of j ws.fronts) (journals ws.lanes) ≡ found_answer_of types told q (fronts_of j vs.fronts) (journals vs.lanes)
found_stays types told q j k vs ws fronts views h =
    ap (λ o. found_answer_of types told q o (journals ws.lanes)) (fronts j (λ e. h (sym e))) ∙ found_same types told q j vs ws (fronts_of j vs.fronts) views refl

report_stays : (s : Setting) (told : Told) (j k : ℕ) (c : Asked) (vs ws : Cell) → Moves k vs.lanes ws.lanes → LeavesSpans k vs ws → LeavesFronts k vs ws → ViewsStay s.schema vs ws → AreLegal s (journals_of vs) → j ≢ k
    → report_in s told j c ws ≡ report_in s told j c vs
report_stays s told j k command.Blank vs ws m spans fronts views legal h = refl
report_stays s told j k command.TooLong vs ws m spans fronts views legal h = refl
report_stays s told j k command.Barrier vs ws m spans fronts views legal h = refl
report_stays s told j k (command.Bad why) vs ws m spans fronts views legal h = refl
report_stays s told j k (command.Feed op via) vs ws m spans fronts views legal h = ap (bytes_of j) (operation_stays s j k op.id vs.lanes ws.lanes m legal h)
report_stays s told j k (command.State state deaf) vs ws m spans fronts views legal h = refl
report_stays s told j k (command.BadState offset) vs ws m spans fronts views legal h = refl
report_stays s told j k (command.Stop node) vs ws m spans fronts views legal h = refl
report_stays s told j k (command.Start node) vs ws m spans fronts views legal h = refl
report_stays s told j k (command.Net lane fates) vs ws m spans fronts views legal h = ap (bytes_of j) (m.plans lane)
report_stays s told j k command.Maintain vs ws m spans fronts views legal h = ap (λ o. bytes_of j (upkeep_answer o)) (spans j (λ e. h (sym e)))
report_stays s told j k (command.Search q) vs ws m spans fronts views legal h = ap (bytes_of j) (found_stays s.schema told q j k vs ws fronts views h)
report_stays s told j k (command.BadQuery offset) vs ws m spans fronts views legal h = refl

below_apart : (start n k : ℕ) → start + suc n ≤ k → start ≢ k
below_apart start n k h e = omega arith

output_stays : (s : Setting) (told : Told) (start k : ℕ) (cs : List Asked) (vs ws : Cell) → Moves k vs.lanes ws.lanes → LeavesSpans k vs ws → LeavesFronts k vs ws → ViewsStay s.schema vs ws → AreLegal s (journals_of vs) → start + length cs ≤ k
    → output_from s told start cs ws ≡ output_from s told start cs vs
output_stays s told start k [] vs ws m spans fronts views legal h = refl
output_stays s told start k (c ∷ cs) vs ws m spans fronts views legal h =
    ap₂ (λ a b. a ++ b) (report_stays s told start k c vs ws m spans fronts views legal (below_apart start (length cs) k h)) (output_stays s (told_next c told) (suc start) k cs vs ws m spans fronts views legal (omega arith))

output-push : (s : Setting) (told : Told) (start : ℕ) (cs : List Asked) (c : Asked) (vs : Cell)
    → output_from s told start (cs ++ c ∷ []) vs ≡ output_from s told start cs vs ++ report_in s (told_by told cs) (start + length cs) c vs
output-push s told start [] c vs = append-nil (report_in s told start c vs) ∙ ap (λ n. report_in s told n c vs) (omega arith)
output-push s told start (x ∷ cs) c vs =
    let next = told_next x told in
    ap (λ l. report_in s told start x vs ++ l) (output-push s next (suc start) cs c vs ∙ ap (λ n. output_from s next (suc start) cs vs ++ report_in s (told_by next cs) n c vs) (omega arith))
    ∙ sym (append_assoc (report_in s told start x vs) (output_from s next (suc start) cs vs) (report_in s (told_by next cs) (start + suc (length cs)) c vs))

-- the output of the earlier lines stays
pub output_kept : (s : Setting) (plans : ℕ → List Fate) (cs : List Asked) (c : Asked) (old new : Cell) (k : ℕ) → IsKept s plans cs old → k ≡ length cs + 1 → IsAfter s k c old new → AreRead s (deeds_before s cs old) cs old → output_of s cs new ≡ output_of s cs old
output_kept s plans cs c old new k kept is after so =
    output_stays s (first_told s) 1 k cs old new (moves s plans cs c old new k kept after) (leaves_spans s c old new k after) (leaves_fronts s c old new k after) (views_stay s plans cs c old new k kept is after so s.schema)
    (kept_legal s plans cs old kept) (omega (arith, is))

pub output_more : (s : Setting) (plans : ℕ → List Fate) (cs : List Asked) (c : Asked) (old new : Cell) (k : ℕ) → IsKept s plans cs old → k ≡ length cs + 1 → IsAfter s k c old new → AreRead s (deeds_before s cs old) cs old
    → output_of s (cs ++ c ∷ []) new ≡ output_of s cs old ++ report_in s old.told k c new
output_more s plans cs c old new k kept is after so =
    output-push s (first_told s) 1 cs c new ∙ ap₂ (λ a n. a ++ report_in s (told_of s cs) n c new) (output_kept s plans cs c old new k kept is after so) (omega (arith, is))
    ∙ ap (λ t. output_of s cs old ++ report_in s t k c new) (sym kept.told)

-- room changes no report
report_seen : (s : Setting) (told : Told) (j : ℕ) (c : Asked) (vs ws : Cell) → IsRoomier vs ws → report_in s told j c ws ≡ report_in s told j c vs
report_seen s told j c vs ws room = ap (bytes_of j) (answer_seen s told j c vs ws room.lanes (ap (λ (x : Cell). x.upkeeps) room.rest) (ap (λ (x : Cell). x.fronts) room.rest))

output_seen : (s : Setting) (told : Told) (start : ℕ) (cs : List Asked) (vs ws : Cell) → IsRoomier vs ws → output_from s told start cs ws ≡ output_from s told start cs vs
output_seen s told start [] vs ws room = refl
output_seen s told start (c ∷ cs) vs ws room = ap₂ (λ a b. a ++ b) (report_seen s told start c vs ws room) (output_seen s (told_next c told) (suc start) cs vs ws room)

pub roomier_output : (s : Setting) (cs : List Asked) (old new : Cell) → IsRoomier old new → output_of s cs new ≡ output_of s cs old
roomier_output s cs old new room = output_seen s (first_told s) 1 cs old new room
