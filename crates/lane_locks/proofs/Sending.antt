-- A lane may go to another thread. A condition is a tree, for which rattle finds no such fact where it stands deep within other
-- types: so each type between it and a lane has its own here.
use denote.RattleType.{RattleType}
use denote.Struct.Declared.{shape}
use denote.Param.Send.{IsSend, IsSync, view_send, recorded_send, struct_send, sendable}
use Rattle.std.proofs.Crossing as crossing
use Rattle.std.proofs.MapsCrossing as maps
use Rattle.std.proofs.sync.ledger.Share.TheSendSync as share
use Rattle.std.specs.declared.sync.ledger.Ledger as ledger
use Rattle.conditions.proofs.tree.Tree.TheLaws.TheKnot as tree
use Rattle.document_ids.proofs.doc_id.DocId.TheSendSync as doc_id
use Rattle.stamps.proofs.stamp.Stamp.TheSendSync as stamp
use Rattle.stamps.proofs.places.StampPlaces.TheSendSync as places
use Rattle.cluster_states.proofs.cluster_state.ClusterState.TheSendSync as cluster_state
use Rattle.entry_maps.proofs.entry_map.EntryMap.TheSendSync as entry_map
use Rattle.node_rows.proofs.shared_schema.SharedSchema.TheSendSync as schema
use Rattle.service_layer.proofs.node_part.NodePart.TheSendSync as node
use Rattle.distributor_part.proofs.part.DistributorPart.TheSendSync as part
use Rattle.doc_selection.proofs.terms.Term.TheSendSync as term
use Rattle.doc_selection.specs.contracts.selection.Selection as selection
use Rattle.messages.proofs.late_list.LateList.TheSendSync as late
use Rattle.messages.proofs.message.Origin.TheSendSync as origin
use Rattle.messages.proofs.operation.OpKind.TheSendSync as kind
use Rattle.messages.proofs.outcome.Outcome.TheSendSync as outcome
use Rattle.messages.specs.contracts.operation.Operation as operation
use Rattle.messages.specs.contracts.shared_operation.SharedOperation as shared
use Rattle.op_machine.proofs.tally.Heard.TheSendSync as heard
use Rattle.op_machine.proofs.verdict.Verdict.TheSendSync as verdict
use Rattle.op_machine.specs.contracts.plan.Plan as plan
use Rattle.op_machine.specs.contracts.machine.OpMachine as machine
use Rattle.carriers.specs.declared.carrier.Carrier as carrier
use Rattle.view_changes.proofs.change.LaneChange.TheSendSync as change
use Rattle.lane_views.proofs.view.LaneView.TheSendSync as view
use Rattle.shelves.specs.declared.shelf.Shelf as shelf
use Rattle.shelves.specs.contracts.plain_shelf.PlainShelf as plain_shelf
use Rattle.upkeep_spans.proofs.watching.Watching.TheSendSync as watching
use Rattle.lane_states.proofs.known_owner.KnownOwner.TheSendSync as owner
use Rattle.lane_states.proofs.event_log.EventLog.TheSendSync as log
use Rattle.lane_states.specs.contracts.lane_state.LaneState as state
use Rattle.lane_core.specs.contracts.work.Phase as phase
use Rattle.lane_core.specs.contracts.work.Job as job
use Rattle.lane_core.specs.contracts.work.Work as work
use Rattle.lane_core.specs.contracts.lane.Lane as lane
use Rattle.lane_locks.proofs.lines.Stage.TheSendSync as stage
use Rattle.lane_locks.specs.declared.names.Segment as segment
use Rattle.lane_locks.specs.contracts.lines.Line as line
use Rattle.lane_locks.specs.contracts.slot.Slot as slot
use Rattle.lane_locks.specs.contracts.slot.Slot.TheInside as inside

-- ---- an operation

selection_send : IsSend selection.the_row
selection_send = search (term.the_send, term.the_sync, crossing.crosses, tree.crosses, sendable) depth 60 fits 20000

selection_sync : IsSync selection.the_row
selection_sync = search (term.the_send, term.the_sync, crossing.crosses, tree.crosses, sendable) depth 60 fits 20000

operation_send : IsSend operation.the_row
operation_send = search (doc_id.the_send, kind.the_field_send, selection_send, crossing.crosses, sendable) depth 60 fits 20000

operation_sync : IsSync operation.the_row
operation_sync = search (doc_id.the_sync, kind.the_field_sync, selection_sync, crossing.crosses, sendable) depth 60 fits 20000

shared_send : IsSend shared.the_row
shared_send = search (operation_send, operation_sync, crossing.crosses, sendable) depth 60 fits 20000

-- ---- what is under way

plan_send : IsSend (plan.the_field).row
plan_send = search (origin.the_field_send, shared_send, stamp.the_send, crossing.crosses, sendable) depth 60 fits 20000

machine_send : IsSend machine.the_row
machine_send = search (plan_send, heard.the_field_send, entry_map.the_send, verdict.the_send, crossing.crosses, sendable) depth 60 fits 20000

phase_send : IsSend (phase.the_field).row
phase_send = search (machine_send, outcome.the_field_send, crossing.crosses, sendable) depth 60 fits 20000

job_send : IsSend job.the_row
job_send = search (shared_send, stamp.the_send, phase_send, crossing.crosses, sendable) depth 60 fits 20000

-- ---- the lane

pub shelf_send : IsSend plain_shelf.the_row
shelf_send = search (view.the_send, change.the_send, crossing.crosses, sendable) depth 60 fits 40000

state_send : IsSend (state.the_field).row
state_send = search (schema.the_send, log.the_field_send, cluster_state.the_send, node.the_send, part.the_send, late.the_send, crossing.crosses, sendable) depth 200 fits 400000

work_send : IsSend (work.the_field).row
work_send = search (state_send, schema.the_send, places.the_field_send, job_send, maps.crosses, crossing.crosses, sendable) depth 60 fits 20000

lane_send : (C H N M : RattleType) (g : carrier.Ghosts C.Denot) (h : shelf.Ghosts H.Denot N.Denot M.Denot) → IsSend C → IsSend H → IsSend (lane.the_row C H N M g h)
lane_send C H N M g h c s = search (work_send, owner.the_send, watching.the_send, crossing.crosses, sendable) depth 60 fits 40000

line_send : IsSend line.the_row
line_send = search (shared_send, crossing.crosses, sendable) depth 60 fits 20000

slot_inside_send : (S C H N M : RattleType) (n : segment.Ghosts S.Denot M.Denot) (l : ledger.Ghosts S.Denot) (g : carrier.Ghosts C.Denot) (h : shelf.Ghosts H.Denot N.Denot M.Denot)
    → IsSend C → IsSend H → IsSend (inside.the_field S C H N M n l g h).row
slot_inside_send S C H N M n l g h c s = struct_send (shape (inside.the_type S C H N M n l g h)) (
  search sendable,
  (
    lane_send C H N M g h c s,
    (
      search (line_send, crossing.crosses, sendable) depth 60 fits 20000,
      (search (stage.the_send, crossing.crosses, sendable) depth 60 fits 20000, (share.the_send S l, tt)),
    ),
  ),
)

pub slot_send : (S C H N M : RattleType) (n : segment.Ghosts S.Denot M.Denot) (l : ledger.Ghosts S.Denot) (g : carrier.Ghosts C.Denot) (h : shelf.Ghosts H.Denot N.Denot M.Denot)
    → IsSend C → IsSend H → IsSend (slot.the_row S C H N M n l g h)
slot_send S C H N M n l g h c s = view_send _ _ _ _ _ (recorded_send _ _ _ (inside.the_type S C H N M n l g h).to_one (slot_inside_send S C H N M n l g h c s))
