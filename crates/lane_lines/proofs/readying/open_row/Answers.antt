use Rattle.std.proofs.Common.{◌∙◌, ap, sym, subst}
use Rattle.lane_states.specs.declared.lane_state.LaneState.{LaneState}
use Rattle.lane_states.specs.LaneStates.{journal_of}
use Rattle.proof_basics.proofs.Results.{if_ok, on_err}
use Rattle.lane_rounds.proofs.Askings.{on-err}
use Rattle.lane_lines.proofs.RunningSteps.{quiet-on}
use Rattle.lane_states.proofs.Giving.{gives_then}
use Rattle.lane_lines.proofs.Entries.{adds-on}
use Rattle.bucket_ids.specs.Buckets.{Low}
use Rattle.lane_keeping.specs.Acting.{IsActing}
use Rattle.lane_lines.specs.Readying.{search_from, GoesOnWith, IsOpenedFor}
use Rattle.proof_basics.proofs.Options.{some_same as some-same}
use Rattle.lane_lines.proofs.RowsFound.{none-on, free-so, opened-so, short-so, moved-then, line-on, rows-on, goes-then, finds-then, cuts-then, parts-then}
use Rattle.lane_lines.proofs.readying.open_row.Goals as goal

pub returns-in_err-shortage-clause-cut : goal.returns-in_err-shortage-clause-cut
returns-in_err-shortage-clause-cut g c =
    on-err c.from_residual.result _ c.in_err-shortage.ensures.cut

pub fill_row-requires-clause-none_runs : goal.fill_row-requires-clause-none_runs
fill_row-requires-clause-none_runs g c =
    none-on (journal_of c.args.lane.now) (journal_of c.open_for_line.new.lane) c.requires.none_runs c.open_for_line.ensures.quiet

pub fill_row-requires-clause-for_line : goal.fill_row-requires-clause-for_line
fill_row-requires-clause-for_line g c =
    let x = c.args.lane.now in
    let y = c.open_for_line.new.lane in
    line-on x y y c.args.distributor c.args.key (ap (λ (w : LaneState). w.lane) c.open_for_line.ensures.after) (ap (λ (w : LaneState). w.rules) c.open_for_line.ensures.after)
    c.in_ok-shortage.ensures.goes_on (λ line o s stamp w e. opened-so (search_from x) y c.args.distributor line o s c.in_ok-shortage.field-0 (c.in_ok-shortage.ensures.opens line o s stamp w e) c.in-None.is) c.requires.for_line

pub fill_row-requires-clause-opened : goal.fill_row-requires-clause-opened
fill_row-requires-clause-opened g c =
    let x = c.args.lane.now in
    let y = c.open_for_line.new.lane in
    rows-on x y y c.args.distributor c.args.key (ap (λ (w : LaneState). w.lane) c.open_for_line.ensures.after) (ap (λ (w : LaneState). w.rules) c.open_for_line.ensures.after)
    c.in_ok-shortage.ensures.goes_on (λ line o s stamp w e. opened-so (search_from x) y c.args.distributor line o s c.in_ok-shortage.field-0 (c.in_ok-shortage.ensures.opens line o s stamp w e) c.in-None.is) c.requires.for_line

pub fill_row-requires-clause-free : goal.fill_row-requires-clause-free
fill_row-requires-clause-free g c = λ s heard.
    let x = c.args.lane.now in
    let y = c.open_for_line.new.lane in
    let d = c.args.distributor in
    let f = c.requires.for_line in
    let opened : IsOpenedFor (search_from x) y d f.state = opened-so (search_from x) y d f.line f.operation f.state c.in_ok-shortage.field-0 (c.in_ok-shortage.ensures.opens f.line f.operation f.state f.stamp f.waits f.key_is) c.in-None.is in
    let goes : GoesOnWith (search_from x) x y f.line f.operation d f.state f.stamp = c.in_ok-shortage.ensures.goes_on f.line f.operation f.state f.stamp f.waits f.key_is in
    let acting : IsActing y.lane (journal_of y) d f.state = subst (λ (l : Low). IsActing l (journal_of y) d f.state) (sym (ap (λ (w : LaneState). w.lane) c.open_for_line.ensures.after)) goes.still.acting in
    free-so y s f.state y.rules.acks c.args.key (some-same s f.state (sym heard ∙ c.owners_act.ensures.heard _ _ _ _ _ _ _ c.open_for_line.ensures.keeps.keeps d f.state acting)) opened.idle

pub returns-in-Some-clause-goes_on : goal.returns-in-Some-clause-goes_on
returns-in-Some-clause-goes_on g c =
    c.in_ok-shortage.ensures.goes_on

pub returns-in-Some-clause-finds : goal.returns-in-Some-clause-finds
returns-in-Some-clause-finds g c =
    λ line o s stamp w e. short-so (search_from c.args.lane.now) c.open_for_line.new.lane c.args.distributor line o s c.in_ok-shortage.field-0 (c.in_ok-shortage.ensures.opens line o s stamp w e) c.in-Some.shortage c.in-Some.is

pub returns-in-None-clause-goes_on : goal.returns-in-None-clause-goes_on
returns-in-None-clause-goes_on g c =
    let x = c.args.lane.now in
    let y = c.open_for_line.new.lane in
    let z = c.fill_row.new.lane in
    if_ok c.fill_row.result (λ end h. goes-then x y z c.args.distributor c.args.key (ap (λ (w : LaneState). w.lane) c.open_for_line.ensures.after) (ap (λ (w : LaneState). w.rules) c.open_for_line.ensures.after)
    c.in_ok-shortage.ensures.goes_on (λ line o s stamp w e. opened-so (search_from x) y c.args.distributor line o s c.in_ok-shortage.field-0 (c.in_ok-shortage.ensures.opens line o s stamp w e) c.in-None.is) h) c.fill_row.ensures.goes_on

pub returns-in-None-clause-finds : goal.returns-in-None-clause-finds
returns-in-None-clause-finds g c =
    let x = c.args.lane.now in
    let y = c.open_for_line.new.lane in
    let z = c.fill_row.new.lane in
    if_ok c.fill_row.result (λ end h. finds-then x y z c.args.distributor c.args.key (ap (λ (w : LaneState). w.lane) c.open_for_line.ensures.after) (ap (λ (w : LaneState). w.rules) c.open_for_line.ensures.after)
    c.in_ok-shortage.ensures.goes_on (λ line o s stamp w e. opened-so (search_from x) y c.args.distributor line o s c.in_ok-shortage.field-0 (c.in_ok-shortage.ensures.opens line o s stamp w e) c.in-None.is) end h) c.fill_row.ensures.finds

pub returns-in-None-clause-cut : goal.returns-in-None-clause-cut
returns-in-None-clause-cut g c =
    let x = c.args.lane.now in
    let y = c.open_for_line.new.lane in
    let z = c.fill_row.new.lane in
    on_err c.fill_row.result (λ h. cuts-then x y z c.args.distributor c.args.key (ap (λ (w : LaneState). w.lane) c.open_for_line.ensures.after) (ap (λ (w : LaneState). w.rules) c.open_for_line.ensures.after)
    c.in_ok-shortage.ensures.goes_on (λ line o s stamp w e. opened-so (search_from x) y c.args.distributor line o s c.in_ok-shortage.field-0 (c.in_ok-shortage.ensures.opens line o s stamp w e) c.in-None.is) h) c.fill_row.ensures.cut

pub returns-in-None-clause-gives : goal.returns-in-None-clause-gives
returns-in-None-clause-gives g c = gives_then _ _ _ c.open_for_line.ensures.gives c.fill_row.ensures.gives

pub returns-in-None-clause-quiet : goal.returns-in-None-clause-quiet
returns-in-None-clause-quiet g c =
    let x = c.args.lane.now in
    let y = c.open_for_line.new.lane in
    let z = c.fill_row.new.lane in
    quiet-on (journal_of x) (journal_of y) (journal_of z) c.open_for_line.ensures.quiet c.fill_row.ensures.quiet

pub returns-in-None-clause-others : goal.returns-in-None-clause-others
returns-in-None-clause-others g c =
    let x = c.args.lane.now in
    let y = c.open_for_line.new.lane in
    let z = c.fill_row.new.lane in
    parts-then x y z c.args.distributor (ap (λ (w : LaneState). w.lane) c.open_for_line.ensures.after) (ap (λ (w : LaneState). w.rules) c.open_for_line.ensures.after) c.open_for_line.ensures.others c.fill_row.ensures.others

pub returns-in-None-clause-after : goal.returns-in-None-clause-after
returns-in-None-clause-after g c =
    let x = c.args.lane.now in
    let y = c.open_for_line.new.lane in
    let z = c.fill_row.new.lane in
    moved-then x y z c.open_for_line.ensures.after c.fill_row.ensures.after

pub returns-in-None-clause-parts : goal.returns-in-None-clause-parts
returns-in-None-clause-parts g c =
    c.fill_row.ensures.parts ∙ c.open_for_line.ensures.parts

pub returns-in-None-clause-entries : goal.returns-in-None-clause-entries
returns-in-None-clause-entries g c =
    adds-on (journal_of c.args.lane.now) (journal_of c.open_for_line.new.lane) (journal_of c.fill_row.new.lane) c.open_for_line.ensures.entries c.fill_row.ensures.entries
