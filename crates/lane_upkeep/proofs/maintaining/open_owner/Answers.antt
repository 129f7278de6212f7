use Rattle.std.proofs.Common.{ℕ, ap, refl, ◌∙◌}
use Rattle.node_sets.specs.Members.{has_node}
use Rattle.node_sets.proofs.Bits.{has_none}
use Rattle.lane_states.specs.declared.lane_state.LaneState.{LaneState}
use Rattle.lane_states.specs.LaneStates.{journal_of}
use Rattle.lane_states.proofs.Giving.{gives_same}
use Rattle.lane_rounds.proofs.Shortages.{none-nothing, once-still}
use Rattle.lane_upkeep.proofs.Betweens.{passes-none, between-on, passing-of, open-now, opened-passes, stopped-passes, none-run-on}
use Rattle.lane_upkeep.proofs.QuietOpenings.{opened-quietly}
use Rattle.lane_upkeep.proofs.maintaining.open_owner.Goals as goal

pub returns-then-is_opened-clause-on : goal.returns-then-is_opened-clause-on
returns-then-is_opened-clause-on g c = passes-none c.args.lane.now c.args.owner.now

pub returns-then-is_opened-clause-gives : goal.returns-then-is_opened-clause-gives
returns-then-is_opened-clause-gives g c = gives_same _ _ refl

pub returns-in-Ok-clause-on : goal.returns-in-Ok-clause-on
returns-in-Ok-clause-on g c =
    opened-passes c.args.lane.now c.open_state.new.lane c.args.owner.now _ c.requires.between
    (c.owners_act.ensures.heard _ _ _ _ _ _ _ c.requires.between.keeps.keeps c.args.owner.now.distributor c.args.owner.now.state c.requires.between.acting)
    c.in-Ok.ensures.others c.in-Ok.ensures.parts c.in-Ok.ensures.after c.in-Ok.end c.in-Ok.ensures.ends

pub returns-in-Ok-clause-between : goal.returns-in-Ok-clause-between
returns-in-Ok-clause-between g c =
    between-on c.upkeep_leaves_states.ensures.held c.upkeep_leaves_states.ensures.state c.upkeep_leaves_lines.ensures.idle c.args.lane.now c.open_state.new.lane c.args.owner.now _ _ c.requires.between
    (returns-in-Ok-clause-on g c) c.in-Ok.ensures.keeps c.in-Ok.ensures.spare c.in-Ok.ensures.carried c.in-Ok.ensures.resting
    (none-run-on (journal_of c.args.lane.now) (journal_of c.open_state.new.lane) c.in-Ok.ensures.rounds c.requires.between.none_runs)

pub returns-in-Ok-clause-passing : goal.returns-in-Ok-clause-passing
returns-in-Ok-clause-passing g c is =
    passing-of c.open_state.new.lane c.args.owner.now _ (returns-in-Ok-clause-between g c)
    (c.owners_act.ensures.heard _ _ _ _ _ _ _ c.in-Ok.ensures.keeps.keeps c.args.owner.now.distributor c.args.owner.now.state (returns-in-Ok-clause-between g c).acting)
    (open-now c.args.lane.now c.open_state.new.lane c.args.owner.now.distributor c.in-Ok.end c.in-Ok.ensures.ends (c.is_open.ensures.opened is))

pub returns-in-Err-clause-on : goal.returns-in-Err-clause-on
returns-in-Err-clause-on g c =
    stopped-passes c.args.lane.now c.open_state.new.lane c.args.owner.now _ c.requires.between
    (c.owners_act.ensures.heard _ _ _ _ _ _ _ c.requires.between.keeps.keeps c.args.owner.now.distributor c.args.owner.now.state c.requires.between.acting)
    c.in-Err.ensures.others c.in-Err.ensures.parts c.in-Err.ensures.after c.in-Err.ensures.stops

pub returns-in-Err-clause-between : goal.returns-in-Err-clause-between
returns-in-Err-clause-between g c =
    between-on c.upkeep_leaves_states.ensures.held c.upkeep_leaves_states.ensures.state c.upkeep_leaves_lines.ensures.idle c.args.lane.now c.open_state.new.lane c.args.owner.now _ _ c.requires.between
    (returns-in-Err-clause-on g c) c.in-Err.ensures.keeps c.in-Err.ensures.spare c.in-Err.ensures.carried c.in-Err.ensures.resting
    (none-run-on (journal_of c.args.lane.now) (journal_of c.open_state.new.lane) c.in-Err.ensures.rounds c.requires.between.none_runs)

pub returns-in-Ok-clause-lacking : goal.returns-in-Ok-clause-lacking
returns-in-Ok-clause-lacking g c closed all =
    let after = c.in-Ok.ensures.after in
    c.is_open.ensures.lacking closed
    (opened-quietly c.upkeep_goes_on.ensures.span c.args.lane.now c.open_state.new.lane c.args.owner.now.distributor (c.args.owner.now.state).version c.args.owner.now.state c.in-Ok.end c.requires.between.acting c.requires.newest
    (c.owners_act.ensures.heard _ _ _ _ _ _ _ c.requires.between.keeps.keeps c.args.owner.now.distributor c.args.owner.now.state c.requires.between.acting)
    (λ n. ap (λ (z : ℕ). has_node z n) c.requires.between.resting.unasked ∙ has_none n)
    c.in-Ok.ensures.keeps (ap (λ (z : LaneState). z.lane) after) (ap (λ (z : LaneState). z.rules) after) (ap (λ (z : LaneState). z.newest) after)
    c.in-Ok.ensures.ends (c.in-Ok.ensures.fine refl) (returns-in-Ok-clause-on g c).grows all)

pub returns-then-is_opened-clause-none_is_short : goal.returns-then-is_opened-clause-none_is_short
returns-then-is_opened-clause-none_is_short g c = none-nothing c.args.lane.now.last c.args.lane.now.last _ refl

pub returns-then-is_opened-clause-at_once : goal.returns-then-is_opened-clause-at_once
returns-then-is_opened-clause-at_once g c = once-still c.args.lane.now.last c.args.lane.now.last _ refl

pub returns-in-Ok-clause-none_is_short : goal.returns-in-Ok-clause-none_is_short
returns-in-Ok-clause-none_is_short g c = c.in-Ok.ensures.none_is_short refl

pub returns-in-Ok-clause-at_once : goal.returns-in-Ok-clause-at_once
returns-in-Ok-clause-at_once g c = c.in-Ok.ensures.at_once refl

pub returns-in-Err-clause-at_once : goal.returns-in-Err-clause-at_once
returns-in-Err-clause-at_once g c = c.in-Err.ensures.at_once refl
