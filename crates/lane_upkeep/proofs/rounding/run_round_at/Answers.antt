use Rattle.std.proofs.Common.{◌∙◌, ℕ, sym, subst}
use Rattle.lane_states.specs.LaneStates.{journal_of, part_of}
use Rattle.proof_basics.proofs.Results.{if_ok}
use Rattle.lane_upkeep.specs.RoundNotes.{NotesRound, NotesRun, GainsMarks}
use Rattle.lane_upkeep.proofs.NotesStay.{knows-of}
use Rattle.lane_upkeep.proofs.QuietRan.{rounds-quietly}
use Rattle.lane_upkeep.proofs.rounding.run_round_at.Goals as goal

pub returns-clause-gains : goal.returns-clause-gains
returns-clause-gains g c =
    let d = c.args.owner.now.distributor in
    if_ok c.note_of.result (λ note i. subst (λ (set : ℕ). GainsMarks (part_of c.args.lane.now d) (part_of c.run_at.new.lane d) c.args.at set) (sym i.holders_are) c.in_ok-run.ensures.gains) c.note_of.ensures

pub returns-clause-row : goal.returns-clause-row
returns-clause-row g c = if_ok c.note_of.result (λ note i row found. i.bucket_is ∙ c.in_ok-run.ensures.row row found) c.note_of.ensures

pub returns-clause-noted : goal.returns-clause-noted
returns-clause-noted g c = if_ok c.note_of.result (λ note i. record { round = c.in_ok-run.run'.round; answers = c.in_ok-run.ensures.answers; note_is = i }) c.note_of.ensures

pub returns-clause-knows : goal.returns-clause-knows
returns-clause-knows g c = if_ok c.note_of.result (λ note i.
    let n : NotesRound (journal_of c.run_at.new.lane) c.args.owner.now.state note = record { round = c.in_ok-run.run'.round; answers = c.in_ok-run.ensures.answers; note_is = i } in
    knows-of (journal_of c.run_at.new.lane) c.args.owner.now.state note n) c.note_of.ensures

pub returns-clause-others : goal.returns-clause-others
returns-clause-others g c = if_ok c.note_of.result (λ note i other off k. c.in_ok-run.ensures.others other (λ same. off (same ∙ sym i.bucket_is)) k) c.note_of.ensures

pub returns-clause-ran : goal.returns-clause-ran
returns-clause-ran g c = if_ok c.note_of.result (λ note i. record {
  run = c.in_ok-run.run';
  ran = c.in_ok-run.ensures.ran;
  note_is = i;
  all_read = c.in_ok-run.ensures.had.read;
  all_applied = c.in_ok-run.ensures.had.applied;
}) c.note_of.ensures

pub returns-clause-quiet : goal.returns-clause-quiet
returns-clause-quiet g c = if_ok c.note_of.result (λ note i.
    let x = c.args.lane.now in
    let e = c.run_at.new.lane in
    let o = c.args.owner.now in
    let r : NotesRun x e o c.args.at (g.C.Carrier.given c.args.carrier.now) (g.C.Carrier.given c.run_at.new.carrier) note = record {
      run = c.in_ok-run.run';
      ran = c.in_ok-run.ensures.ran;
      note_is = i;
      all_read = c.in_ok-run.ensures.had.read;
      all_applied = c.in_ok-run.ensures.had.applied;
    } in
    rounds-quietly c.undisturbed_rounds_end.ensures c.targets_are_of_the_list.ensures x e o c.args.at (g.C.Carrier.given c.args.carrier.now) (g.C.Carrier.given c.run_at.new.carrier) note r
    c.requires.passing c.run_at.ensures.passing c.run_at.ensures.on
    (subst (λ (set : ℕ). GainsMarks (part_of x o.distributor) (part_of e o.distributor) c.args.at set) (sym i.holders_are) c.in_ok-run.ensures.gains) c.run_at.ensures.gives) c.note_of.ensures

pub returns-clause-none_is_short : goal.returns-clause-none_is_short
returns-clause-none_is_short g c = if_ok c.note_of.result (λ note i. c.in_ok-run.ensures.none_is_short) c.note_of.ensures
