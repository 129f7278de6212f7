use Rattle.std.proofs.Common.{ℕ, List, Option, is_some, sym, ap, subst, ◌∙◌}
use Rattle.bucket_ids.specs.Buckets.{IsIn}
use Rattle.lane_journals.specs.declared.event.LaneEvent.{LaneEvent}
use Rattle.lane_states.specs.declared.lane_state.LaneState.{LaneState}
use Rattle.lane_states.specs.LaneStates.{journal_of, part_of}
use Rattle.lane_rounds.specs.Openings.{EndsBy}
use Rattle.bucket_db.specs.Rows.{Rows}
use Rattle.lane_lines.specs.Readying.{OfUnprepared, IsCutOffWith, search_from}
use Rattle.lane_lines.specs.Steps.{IsUneventful}
use Rattle.lane_rounds.proofs.Askings.{on-err}
use Rattle.lane_lines.proofs.EntryFree.{adds-ended, adds-stopped}
use Rattle.lane_lines.proofs.OpenedLines.{key-inside, opening-of, goes-on, cut-off, still-here, serve-alike, opens-none, opens-some, quiet-none, quiet-stays, quiet-opened}
use Rattle.lane_rounds.proofs.Staying.{stays-ended, stays-stopped}
use Rattle.lane_lines.proofs.opened_lines.open_for_line.Goals as goal

pub open_state-requires-clause-opening : goal.open_state-requires-clause-opening
open_state-requires-clause-opening g c =
    let x = c.args.lane.now in
    let d = c.args.distributor in
    let l = c.requires.for_line in
    opening-of x.lane x.rules (journal_of x) d (part_of x d) l.state (c.requires.keeps.keeps.parts_are d) ((l.waits).acting).owner
    (c.owners_act.ensures.heard _ _ _ _ _ _ _ c.requires.keeps.keeps d l.state (l.waits).acting) c.requires.unopened c.requires.resting

pub open_state-requires-clause-key : goal.open_state-requires-clause-key
open_state-requires-clause-key g c =
    let l = c.requires.for_line in
    subst (λ (n : ℕ). IsIn c.args.lane.now.lane n) (sym l.key_is) (key-inside c.args.lane.now.lane (l.operation).id (((l.waits).knows).is_under_way).in_lane)

pub returns-in_err-end-clause-cut : goal.returns-in_err-end-clause-cut
returns-in_err-end-clause-cut g c =
    let x = c.args.lane.now in
    let y = c.open_state.new.lane in
    let d = c.args.distributor in
    let after = c.in_err-end.ensures.after in
    on-err c.from_residual.result (OfUnprepared x d c.args.key (λ line o s stamp. IsCutOffWith (search_from x) x y line o d s stamp)) (λ line o s stamp waits key.
    cut-off x y d line o s stamp c.requires.resting (c.owners_act.ensures.heard _ _ _ _ _ _ _ c.requires.keeps.keeps d s waits.acting) waits
    (ap (λ (w : LaneState). w.lane) after) (ap (λ (w : LaneState). w.rules) after) c.requires.keeps.keeps.legal c.in_err-end.ensures.keeps.keeps.legal c.in_err-end.ensures.stops)

pub returns-in_err-end-clause-quiet : goal.returns-in_err-end-clause-quiet
returns-in_err-end-clause-quiet g c =
    let x = c.args.lane.now in
    let y = c.open_state.new.lane in
    let z = c.in_err-end.ensures.stops in
    stays-stopped (λ (K : List LaneEvent). IsUneventful (journal_of x) K) (quiet-stays (journal_of x)) (quiet-opened (journal_of x)) x c.args.distributor (journal_of y) z.part z.stops (quiet-none (journal_of x))

pub returns-in-None-clause-goes_on : goal.returns-in-None-clause-goes_on
returns-in-None-clause-goes_on g c = λ line o s stamp waits key.
    let x = c.args.lane.now in
    let y = c.open_state.new.lane in
    let after = c.in_ok-end.ensures.after in
    goes-on x y c.args.distributor line o s stamp c.requires.resting (c.owners_act.ensures.heard _ _ _ _ _ _ _ c.requires.keeps.keeps c.args.distributor s waits.acting) waits
    (ap (λ (w : LaneState). w.lane) after) (ap (λ (w : LaneState). w.rules) after) c.requires.keeps.keeps.legal c.in_ok-end.ensures.keeps.keeps.legal c.in_ok-end.end c.in_ok-end.ensures.ends

pub returns-in-None-clause-opens : goal.returns-in-None-clause-opens
returns-in-None-clause-opens g c = λ line o s stamp waits key.
    let x = c.args.lane.now in
    let y = c.open_state.new.lane in
    let d = c.args.distributor in
    let end = c.in_ok-end.end in
    let z = c.in_ok-end.ensures.ends in
    let after = c.in_ok-end.ensures.after in
    opens-none x y d line o s stamp c.requires.resting (c.owners_act.ensures.heard _ _ _ _ _ _ _ c.requires.keeps.keeps d s waits.acting) waits
    (ap (λ (w : LaneState). w.lane) after) (ap (λ (w : LaneState). w.rules) after) c.requires.keeps.keeps.legal c.in_ok-end.ensures.keeps.keeps.legal end.short z.part z.gives_up
    (subst (λ (m : Option ℕ). EndsBy x d m end.short (journal_of y) z.part) c.in-None.is z.ends) (c.owners_act.ensures.opened _ _ _ _ _ _ _ c.requires.keeps.keeps d s waits.acting ∙ ap (λ (r : Option Rows). is_some r) c.requires.unopened)

pub returns-in-None-clause-quiet : goal.returns-in-None-clause-quiet
returns-in-None-clause-quiet g c =
    let x = c.args.lane.now in
    let y = c.open_state.new.lane in
    let z = c.in_ok-end.ensures.ends in
    stays-ended (λ (K : List LaneEvent). IsUneventful (journal_of x) K) (quiet-stays (journal_of x)) (quiet-opened (journal_of x)) x c.args.distributor c.in_ok-end.end.missing c.in_ok-end.end.short (journal_of y) z.part z.ends (quiet-none (journal_of x))

pub returns-in-Some-state_at-clause-goes_on : goal.returns-in-Some-state_at-clause-goes_on
returns-in-Some-state_at-clause-goes_on g c = λ line o s stamp waits key.
    let x = c.args.lane.now in
    let y = c.open_state.new.lane in
    let after = c.in_ok-end.ensures.after in
    goes-on x y c.args.distributor line o s stamp c.requires.resting (c.owners_act.ensures.heard _ _ _ _ _ _ _ c.requires.keeps.keeps c.args.distributor s waits.acting) waits
    (ap (λ (w : LaneState). w.lane) after) (ap (λ (w : LaneState). w.rules) after) c.requires.keeps.keeps.legal c.in_ok-end.ensures.keeps.keeps.legal c.in_ok-end.end c.in_ok-end.ensures.ends

pub returns-in-Some-state_at-clause-opens : goal.returns-in-Some-state_at-clause-opens
returns-in-Some-state_at-clause-opens g c = λ line o s stamp waits key.
    let x = c.args.lane.now in
    let y = c.open_state.new.lane in
    let d = c.args.distributor in
    let end = c.in_ok-end.end in
    let missing = c.in-Some.missing in
    let z = c.in_ok-end.ensures.ends in
    let after = c.in_ok-end.ensures.after in
    let kept = c.in_ok-end.ensures.keeps in
    let heard = c.owners_act.ensures.heard _ _ _ _ _ _ _ c.requires.keeps.keeps d s waits.acting in
    let lane = ap (λ (w : LaneState). w.lane) after in
    let rules = ap (λ (w : LaneState). w.rules) after in
    let still = still-here x y d line o s stamp c.requires.resting heard waits lane rules c.requires.keeps.keeps.legal kept.keeps.legal end z in
    let own = c.owners_act.ensures.heard _ _ _ _ _ _ _ kept.keeps d s still.acting in
    opens-some x y d line o s stamp c.requires.resting heard waits lane rules c.requires.keeps.keeps.legal kept.keeps.legal end.short z.part z.gives_up missing c.serving.result
    (subst (λ (m : Option ℕ). EndsBy x d m end.short (journal_of y) z.part) c.in-Some.is z.ends) (c.owners_act.ensures.told _ _ _ _ _ _ _ kept.keeps d s still.acting)
    (serve-alike x y d line o s stamp c.requires.resting heard waits lane rules c.requires.keeps.keeps.legal kept.keeps.legal c.in-Some-state_at.state c.serving.result own (sym c.state_at.ensures ∙ c.in-Some-state_at.is) c.serving.ensures)
    (c.operations_end.ensures.gives_up _ _ _ _ _ _ _ kept.keeps d s line o stamp (still.knows).is_under_way) c.shortage_of.result
    (rw (sym c.answered_at-answered.ensures) c.shortage_of.ensures)

pub returns-in-Some-state_at-clause-quiet : goal.returns-in-Some-state_at-clause-quiet
returns-in-Some-state_at-clause-quiet g c =
    let x = c.args.lane.now in
    let y = c.open_state.new.lane in
    let z = c.in_ok-end.ensures.ends in
    stays-ended (λ (K : List LaneEvent). IsUneventful (journal_of x) K) (quiet-stays (journal_of x)) (quiet-opened (journal_of x)) x c.args.distributor c.in_ok-end.end.missing c.in_ok-end.end.short (journal_of y) z.part z.ends (quiet-none (journal_of x))

pub returns-in_err-end-clause-entries : goal.returns-in_err-end-clause-entries
returns-in_err-end-clause-entries g c =
    adds-stopped c.args.lane.now c.open_state.new.lane c.args.distributor c.in_err-end.ensures.stops

pub returns-in-None-clause-entries : goal.returns-in-None-clause-entries
returns-in-None-clause-entries g c =
    adds-ended c.args.lane.now c.open_state.new.lane c.args.distributor c.in_ok-end.end c.in_ok-end.ensures.ends

pub returns-in-Some-state_at-clause-entries : goal.returns-in-Some-state_at-clause-entries
returns-in-Some-state_at-clause-entries g c =
    adds-ended c.args.lane.now c.open_state.new.lane c.args.distributor c.in_ok-end.end c.in_ok-end.ensures.ends
