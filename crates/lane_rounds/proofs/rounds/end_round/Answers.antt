use Rattle.std.proofs.Common.{rules, ◌≡◌, ◌∙◌, ◌<◌, ◌∷◌, None, IsSome, length, slice_set, ap, refl, sym, subst}
use Rattle.bucket_ids.specs.Buckets.{Low}
use Rattle.node_sets.specs.Members.{has_node}
use Rattle.bucket_db.specs.declared.row.Row.{Row}
use Rattle.messages.specs.declared.decision.Decision.TheVariants.{RoundEnded}
use Rattle.merge_rounds.specs.Rounds.{RoundState}
use Rattle.distributor_part.specs.declared.stage.Stage.TheVariants.{Before, Over}
use Rattle.distributor_part.specs.Parts.{Part}
use Rattle.distributor_part.specs.Steps as steps
use Rattle.distributor_part.specs.Steps.{EndsRound}
use Rattle.lane_journals.specs.Readers.{round_of}
use Rattle.lane_journals.specs.Meanings.{history}
use Rattle.lane_journals.specs.KeptJournals.{IsLegalStep}
use Rattle.lane_journals.specs.declared.event.LaneEvent.TheVariants.{Decided}
use Rattle.lane_keeping.specs.LaneKeeping.{part_in, PartKeeps, setting_of}
use Rattle.lane_keeping.specs.RoundKeeping.{KnowsAnswers, NoRound}
use Rattle.lane_states.specs.LaneStates.{journal_of}
use Rattle.round_keeping.specs.RoundRuns.{IsRunBy, IsStageOver, EndsJob, EndsRun, KnowsRefusals}
use Rattle.lane_states.proofs.Kept.{kept_more}
use Rattle.lane_states.proofs.Places.{part-at}
use Rattle.lane_keeping.proofs.Parts.{part-own, part-others}
use Rattle.round_keeping.proofs.Refusals.{refusals-decided}
use Rattle.round_keeping.proofs.RoundEnds.{both-at, alike-at, others-then, ended-as, over-owning, over-inside, end-by, none-then, answers-as, same-row}
use Rattle.round_keeping.proofs.Runs.{carried-decided}
use Rattle.lane_states.proofs.Accepting.{accepted-at, accepted-alike}
use Rattle.lane_rounds.proofs.Accepting.{accepted-ended}
use Rattle.lane_rounds.proofs.rounds.end_round.Goals as goal

pub tell_over-requires : goal.tell_over-requires
tell_over-requires c =
    let x = c.args.lane.now in
    let y = c.args.run.now in
    let d = y.distributor in
    let p : Part = c.index_mut-part.result.now in
    let here : d < length x.parts.items = search rules in
    let is : part_in x.lane x.rules x.parts.items d ≡ p = part-at x.lane x.rules x.parts.items d p here (rw c.from.ensures at c.index_mut-part.ensures.value) in
    let run : IsRunBy p y = subst (λ (z : Part). IsRunBy z y) is c.requires.run_by in
    subst steps.IsRunning (sym run.running) tt

pub end_step-row-requires-clause-over : goal.end_step-row-requires-clause-over
end_step-row-requires-clause-over c =
    let x = c.args.lane.now in
    let y = c.args.run.now in
    let d = y.distributor in
    let p : Part = c.index_mut-part.result.now in
    let here : d < length x.parts.items = search rules in
    let is : part_in x.lane x.rules x.parts.items d ≡ p = part-at x.lane x.rules x.parts.items d p here (rw c.from.ensures at c.index_mut-part.ensures.value) in
    let run : IsRunBy p y = subst (λ (z : Part). IsRunBy z y) is c.requires.run_by in
    let over : Part = c.tell_over.new.part in
    let told = c.tell_over.ensures in
    subst IsStageOver (sym (ap (λ (z : Part). z.stage) told.after)) tt

pub end_step-row-requires-clause-opened : goal.end_step-row-requires-clause-opened
end_step-row-requires-clause-opened c =
    let x = c.args.lane.now in
    let y = c.args.run.now in
    let d = y.distributor in
    let p : Part = c.index_mut-part.result.now in
    let here : d < length x.parts.items = search rules in
    let is : part_in x.lane x.rules x.parts.items d ≡ p = part-at x.lane x.rules x.parts.items d p here (rw c.from.ensures at c.index_mut-part.ensures.value) in
    let run : IsRunBy p y = subst (λ (z : Part). IsRunBy z y) is c.requires.run_by in
    let over : Part = c.tell_over.new.part in
    let told = c.tell_over.ensures in
    subst (λ o. IsSome o) (sym (ap (λ (z : Part). z.rows) told.after ∙ run.opened)) refl

pub end_step-row-requires-clause-told : goal.end_step-row-requires-clause-told
end_step-row-requires-clause-told c =
    let x = c.args.lane.now in
    let y = c.args.run.now in
    let d = y.distributor in
    let p : Part = c.index_mut-part.result.now in
    let here : d < length x.parts.items = search rules in
    let is : part_in x.lane x.rules x.parts.items d ≡ p = part-at x.lane x.rules x.parts.items d p here (rw c.from.ensures at c.index_mut-part.ensures.value) in
    let run : IsRunBy p y = subst (λ (z : Part). IsRunBy z y) is c.requires.run_by in
    let over : Part = c.tell_over.new.part in
    let told = c.tell_over.ensures in
    ap (λ (z : Part). z.awaited) told.after ∙ run.told

pub end_step-row-requires-clause-owner : goal.end_step-row-requires-clause-owner
end_step-row-requires-clause-owner c =
    let x = c.args.lane.now in
    let y = c.args.run.now in
    let d = y.distributor in
    let p : Part = c.index_mut-part.result.now in
    let here : d < length x.parts.items = search rules in
    let is : part_in x.lane x.rules x.parts.items d ≡ p = part-at x.lane x.rules x.parts.items d p here (rw c.from.ensures at c.index_mut-part.ensures.value) in
    let run : IsRunBy p y = subst (λ (z : Part). IsRunBy z y) is c.requires.run_by in
    let over : Part = c.tell_over.new.part in
    let told = c.tell_over.ensures in
    let kept : PartKeeps x.lane x.rules (journal_of x) d p = subst (λ (z : Part). PartKeeps x.lane x.rules (journal_of x) d z) is (c.requires.keeps.keeps.parts_are d) in
    over-owning x.lane x.rules (journal_of x) d y.round.holders p over y kept c.requires.runs.runs.acting.owner run told

pub end_step-row-requires-clause-inside : goal.end_step-row-requires-clause-inside
end_step-row-requires-clause-inside c =
    let x = c.args.lane.now in
    let y = c.args.run.now in
    let d = y.distributor in
    let p : Part = c.index_mut-part.result.now in
    let here : d < length x.parts.items = search rules in
    let is : part_in x.lane x.rules x.parts.items d ≡ p = part-at x.lane x.rules x.parts.items d p here (rw c.from.ensures at c.index_mut-part.ensures.value) in
    let run : IsRunBy p y = subst (λ (z : Part). IsRunBy z y) is c.requires.run_by in
    let over : Part = c.tell_over.new.part in
    let told = c.tell_over.ensures in
    let kept : PartKeeps x.lane x.rules (journal_of x) d p = subst (λ (z : Part). PartKeeps x.lane x.rules (journal_of x) d z) is (c.requires.keeps.keeps.parts_are d) in
    over-inside x.lane x.rules (journal_of x) d y.key y.round.holders p over kept c.requires.inside told

pub returns-clause-keeps : goal.returns-clause-keeps
returns-clause-keeps c =
    let x = c.args.lane.now in
    let y = c.args.run.now in
    let d = y.distributor in
    let p : Part = c.index_mut-part.result.now in
    let here : d < length x.parts.items = search rules in
    let is : part_in x.lane x.rules x.parts.items d ≡ p = part-at x.lane x.rules x.parts.items d p here (rw c.from.ensures at c.index_mut-part.ensures.value) in
    let run : IsRunBy p y = subst (λ (z : Part). IsRunBy z y) is c.requires.run_by in
    let over : Part = c.tell_over.new.part in
    let told = c.tell_over.ensures in
    let q : Part = c.end_step-row.new.part in
    let ends = c.end_step-row.ensures in
    let keep = c.requires.keeps.keeps in
    let cut = c.requires.runs in
    let row_is : y.round.row ≡ cut.round.row = ap (λ (r : RoundState). r.row) cut.rest in
    let s = y.state in
    let b = y.round.row in
    let h = y.round.holders in
    let legal : IsLegalStep (setting_of x.lane x.rules) (journal_of x) (Decided d s.version (RoundEnded b h)) = subst (λ (r : Low). IsLegalStep (setting_of x.lane x.rules) (journal_of x) (Decided d s.version (RoundEnded r h))) (sym row_is)
    (c.rounds_end.ensures.legal _ _ _ _ _ _ _ keep d s cut.round cut.runs.acting cut.runs.knows h (λ n. ap (λ (r : RoundState). has_node r.holders n) cut.rest)) in
    let parts1 = slice_set x.parts.items d over in
    let parts2 = slice_set x.parts.items d ends.ended in
    let parts3 = slice_set x.parts.items d q in
    let keep1 = c.parts_are_told.ensures.alike _ _ _ _ _ _ _ keep d parts1 p.asked p.awaited (Over told.at h told.missing)
    (alike-at x.lane x.rules x.parts.items d p over here is p.asked p.awaited (Over told.at h told.missing) told.after) (part-others x.lane x.rules x.parts.items d over) in
    let ended : EndsRound (part_in x.lane x.rules parts1 d) (part_in x.lane x.rules parts2 d) b h =
    subst (λ (z : Part). EndsRound z (part_in x.lane x.rules parts2 d) b h) (sym (part-own x.lane x.rules x.parts.items d over here))
    (subst (λ (z : Part). EndsRound over z b h) (sym (part-own x.lane x.rules x.parts.items d ends.ended here)) (ended-as p over q y c.end_step-row.result run told ends)) in
    let keep2 = c.marks_are_kept.ensures.ended _ _ _ _ _ _ _ keep1 parts2 d s b h cut.runs.acting ended (others-then x.lane x.rules x.parts.items d over ends.ended) legal in
    let keep3 = c.parts_are_told.ensures.alike _ _ _ _ _ _ _ keep2 d parts3 0 None Before
    (part-own x.lane x.rules x.parts.items d q here ∙ ends.after ∙ ap (λ (z : Part). record z { asked = 0; awaited = None; stage = Before }) (sym (part-own x.lane x.rules x.parts.items d ends.ended here)))
    (others-then x.lane x.rules x.parts.items d ends.ended q) in
    rw (c.push_within.ensures.past, c.version.ensures.value, c.row.ensures, c.holders.ensures, c.from.ensures) (kept_more c.requires.keeps keep3 tt
    (accepted-at x.lane x.rules (journal_of x) x.parts.items d p q here is (λ a. accepted-alike (history (journal_of x)) ends.ended q (ap (λ (z : Part). z.state) ends.after) (ap (λ (z : Part). z.rows) ends.after)
    (accepted-ended (history (journal_of x)) over ends.ended b h (ended-as p over q y c.end_step-row.result run told ends)
    (accepted-alike (history (journal_of x)) p over (ap (λ (z : Part). z.state) told.after) (ap (λ (z : Part). z.rows) told.after) a))) c.requires.keeps.accepted))

pub returns-clause-grows : goal.returns-clause-grows
returns-clause-grows c =
    rw (c.push_within.ensures.past, c.version.ensures.value, c.row.ensures, c.holders.ensures) refl

pub returns-clause-none_runs : goal.returns-clause-none_runs
returns-clause-none_runs c v b2 =
    let x = c.args.lane.now in
    let y = c.args.run.now in
    let d = y.distributor in
    let p : Part = c.index_mut-part.result.now in
    let here : d < length x.parts.items = search rules in
    let is : part_in x.lane x.rules x.parts.items d ≡ p = part-at x.lane x.rules x.parts.items d p here (rw c.from.ensures at c.index_mut-part.ensures.value) in
    let run : IsRunBy p y = subst (λ (z : Part). IsRunBy z y) is c.requires.run_by in
    let over : Part = c.tell_over.new.part in
    let told = c.tell_over.ensures in
    let q : Part = c.end_step-row.new.part in
    let ends = c.end_step-row.ensures in
    let keep = c.requires.keeps.keeps in
    let cut = c.requires.runs in
    let row_is : y.round.row ≡ cut.round.row = ap (λ (r : RoundState). r.row) cut.rest in
    let s = y.state in
    let b = y.round.row in
    let h = y.round.holders in
    rw (c.push_within.ensures.past, c.version.ensures.value, c.row.ensures)
    (none-then x.lane (journal_of x) y b h cut.runs.others (subst (λ (r : Low). NoRound (Decided d s.version (RoundEnded r h) ∷ journal_of x) s) (sym row_is)
    (c.rounds_end.ensures.over _ _ _ _ _ _ _ keep d s cut.round cut.runs.acting cut.runs.knows h)) v b2)

pub returns-clause-end : goal.returns-clause-end
returns-clause-end c =
    let x = c.args.lane.now in
    let y = c.args.run.now in
    let d = y.distributor in
    let p : Part = c.index_mut-part.result.now in
    let here : d < length x.parts.items = search rules in
    let is : part_in x.lane x.rules x.parts.items d ≡ p = part-at x.lane x.rules x.parts.items d p here (rw c.from.ensures at c.index_mut-part.ensures.value) in
    let run : IsRunBy p y = subst (λ (z : Part). IsRunBy z y) is c.requires.run_by in
    let over : Part = c.tell_over.new.part in
    let told = c.tell_over.ensures in
    let q : Part = c.end_step-row.new.part in
    let ends = c.end_step-row.ensures in
    let keep = c.requires.keeps.keeps in
    let cut = c.requires.runs in
    let row_is : y.round.row ≡ cut.round.row = ap (λ (r : RoundState). r.row) cut.rest in
    let s = y.state in
    let b = y.round.row in
    let h = y.round.holders in
    let legal : IsLegalStep (setting_of x.lane x.rules) (journal_of x) (Decided d s.version (RoundEnded b h)) = subst (λ (r : Low). IsLegalStep (setting_of x.lane x.rules) (journal_of x) (Decided d s.version (RoundEnded r h))) (sym row_is)
    (c.rounds_end.ensures.legal _ _ _ _ _ _ _ keep d s cut.round cut.runs.acting cut.runs.knows h (λ n. ap (λ (r : RoundState). has_node r.holders n) cut.rest)) in
    let parts1 = slice_set x.parts.items d over in
    let parts2 = slice_set x.parts.items d ends.ended in
    let parts3 = slice_set x.parts.items d q in
    let keep1 = c.parts_are_told.ensures.alike _ _ _ _ _ _ _ keep d parts1 p.asked p.awaited (Over told.at h told.missing)
    (alike-at x.lane x.rules x.parts.items d p over here is p.asked p.awaited (Over told.at h told.missing) told.after) (part-others x.lane x.rules x.parts.items d over) in
    let ended : EndsRound (part_in x.lane x.rules parts1 d) (part_in x.lane x.rules parts2 d) b h =
    subst (λ (z : Part). EndsRound z (part_in x.lane x.rules parts2 d) b h) (sym (part-own x.lane x.rules x.parts.items d over here))
    (subst (λ (z : Part). EndsRound over z b h) (sym (part-own x.lane x.rules x.parts.items d ends.ended here)) (ended-as p over q y c.end_step-row.result run told ends)) in
    let keep2 = c.marks_are_kept.ensures.ended _ _ _ _ _ _ _ keep1 parts2 d s b h cut.runs.acting ended (others-then x.lane x.rules x.parts.items d over ends.ended) legal in
    let keep3 = c.parts_are_told.ensures.alike _ _ _ _ _ _ _ keep2 d parts3 0 None Before
    (part-own x.lane x.rules x.parts.items d q here ∙ ends.after ∙ ap (λ (z : Part). record z { asked = 0; awaited = None; stage = Before }) (sym (part-own x.lane x.rules x.parts.items d ends.ended here)))
    (others-then x.lane x.rules x.parts.items d ends.ended q) in
    let K = Decided d s.version (RoundEnded b h) ∷ journal_of x in
    let row = c.end_step-row.result in
    let acting3 = c.owners_act.ensures.stays x.lane (journal_of x) d s (Decided d s.version (RoundEnded b h)) tt cut.runs.acting in
    let known3 = c.owners_act.ensures.rows _ _ _ _ _ _ _ keep3 d s acting3 ends.rows y.key ends.at row (ap (λ (z : Part). z.rows) (part-own x.lane x.rules x.parts.items d q here) ∙ ap (λ (z : Part). z.rows) ends.after ∙ ends.opened) ends.is_row in
    let known = c.owners_act.ensures.rows _ _ _ _ _ _ _ keep d s cut.runs.acting run.rows y.key run.at run.row (ap (λ (z : Part). z.rows) is ∙ run.opened) run.is_row in
    let inside3 = c.owners_act.ensures.inside ends.rows y.key ends.at row ends.is_row in
    let inside = c.owners_act.ensures.inside run.rows y.key run.at run.row run.is_row in
    rw (c.push_within.ensures.past, c.version.ensures.value, c.row.ensures, c.holders.ensures)
    (end-by K y c.end_of.result row c.end_of.ensures.row known3 inside3 (run.row_is ∙ same-row s.version (history (journal_of x)) d s.version b _ y.key run.row row known known3 inside inside3)
    (answers-as K s cut.round y.round cut.rest (subst (λ (r : Low). KnowsAnswers (Decided d s.version (RoundEnded r h) ∷ journal_of x) s cut.round) (sym row_is) (c.rounds_end.ensures.answers _ _ _ _ _ _ _ keep d s cut.round cut.runs.acting cut.runs.knows h)))
    (subst (λ (r : Low). KnowsRefusals (history K) s.version (round_of s.version r (history (journal_of x))) r y.unread y.unapplied) (sym row_is)
    (refusals-decided (history (journal_of x)) d s.version _ s.version (round_of s.version cut.round.row (history (journal_of x))) cut.round.row y.unread y.unapplied cut.runs.refusals))
    c.end_of.ensures.whole c.end_of.ensures.missing c.end_of.ensures.short)

pub returns-clause-job : goal.returns-clause-job
returns-clause-job c =
    let x = c.args.lane.now in
    let y = c.args.run.now in
    let d = y.distributor in
    let p : Part = c.index_mut-part.result.now in
    let here : d < length x.parts.items = search rules in
    let is : part_in x.lane x.rules x.parts.items d ≡ p = part-at x.lane x.rules x.parts.items d p here (rw c.from.ensures at c.index_mut-part.ensures.value) in
    let run : IsRunBy p y = subst (λ (z : Part). IsRunBy z y) is c.requires.run_by in
    let over : Part = c.tell_over.new.part in
    let told = c.tell_over.ensures in
    let q : Part = c.end_step-row.new.part in
    let ends = c.end_step-row.ensures in
    let keep = c.requires.keeps.keeps in
    let cut = c.requires.runs in
    let row_is : y.round.row ≡ cut.round.row = ap (λ (r : RoundState). r.row) cut.rest in
    rw c.from.ensures (both-at x.lane x.rules x.parts.items d p q here is (λ a z. EndsRun a z y c.end_of.result.row)
    (record { over = over; told = told; ends = subst (λ (r : Row). EndsJob over q y.key r) (sym c.end_of.ensures.row) ends }))

pub returns-clause-carried : goal.returns-clause-carried
returns-clause-carried c given h = rw c.push_within.ensures.past (carried-decided given (journal_of c.args.lane.now) c.args.lane.now.last c.args.lane.now.late.late _ _ _ h)
