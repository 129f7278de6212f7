use Rattle.std.proofs.Common.{rules, ◌≡◌, ◌≤◌, ◌<◌, ◌+◌, ◌∷◌, ◌++◌, min, List, length, slice_set, get_or, refl, ap, ◌∙◌, subst, arith}
use Rattle.node_model.specs.Nodes.{Node}
use Rattle.node_model.specs.Telling.{changes_taken}
use Rattle.lane_keeping.specs.NodeKeeping.{NodeKeeps}
use Rattle.lane_keeping.specs.LaneKeeping.{setting_of, node_in}
use Rattle.lane_keeping.specs.Replaying.{delivered}
use Rattle.lane_changes.specs.Changes.{changes_of}
use Rattle.lane_states.specs.LaneStates.{journal_of, tells_of}
use Rattle.lane_states.specs.Told.{all_kept}
use Rattle.view_changes.specs.declared.change.LaneChange.{LaneChange}
use Rattle.lane_states.proofs.Kept.{kept_taken, kept_runs}
use Rattle.lane_states.proofs.Counts.{told-more}
use Rattle.lane_states.proofs.LaneSteps.{past-length, has-room, node-at, taken-at}
use Rattle.lane_states.proofs.NodeSpans.{go-one}
use Rattle.lane_states.proofs.lane_state.LaneState.deliver.Goals as goal

pub take_at-reply-requires-clause-room : goal.take_at-reply-requires-clause-room
take_at-reply-requires-clause-room c =
    let x = c.args.self.now in
    let n = c.args.message.now.receiver in
    let within : n < length x.nodes.items = search rules in
    let is : node_in x.nodes.items n ≡ c.index_mut.result.now = node-at x.nodes.items n c.index_mut.result.now within (rw c.from.ensures at c.index_mut.ensures.value) in
    let few : c.index_mut.result.now.serial ≤ length (journal_of x) = c.nodes_hold.ensures.serials (journal_of x) n c.index_mut.result.now (subst (λ (y : Node). NodeKeeps (journal_of x) n y) is (c.requires.keeps.1.keeps.nodes_are n)) in
    let same : length (journal_of x) ≡ length x.journal.events.items = past-length x.journal.events.items in
    has-room c.args.message.now.body c.index_mut.result.now.serial (omega (arith, few, same, x.journal.events.ok.0, x.journal.events.small))

pub returns-clause-keeps : goal.returns-clause-keeps
returns-clause-keeps c parts k =
    let x = c.args.self.now in
    let m = c.args.message.now in
    let y = c.index_mut.result.now in
    let r = c.take_at-reply.result.reply in
    let within : m.receiver < length x.nodes.items = search rules in
    let here : y ≡ get_or x.nodes.items m.receiver y = rw c.from.ensures at c.index_mut.ensures.value in
    let is : node_in x.nodes.items m.receiver ≡ y = node-at x.nodes.items m.receiver y within here in
    let told : changes_of (delivered c.args.number r ∷ journal_of x) ≡ changes_of (journal_of x) ++ changes_taken y m r
    = c.nodes_tell_changes.ensures.told (setting_of x.lane x.rules) (journal_of x) c.args.number m y r k.keeps.legal c.requires.flight
    (subst (λ (z : Node). NodeKeeps (journal_of x) m.receiver z) is (k.keeps.nodes_are m.receiver)) in
    rw (c.push_telling.ensures.past, c.take_at-reply.ensures.noted, c.from.ensures)
    (kept_taken k (search rules) (c.events_are_kept.ensures.taken _ _ _ _ _ _ _ k.keeps c.args.number m r (slice_set x.nodes.items m.receiver c.take_at-reply.new.self) c.requires.flight (kept_runs k m.receiver c.requires.receives)
    (taken-at x.nodes.items m y c.take_at-reply.new.self r within here c.take_at-reply.ensures.takes))
    (told-more (journal_of x) (delivered c.args.number r) (changes_taken y m r) (tells_of x) _ k.told_is told refl
    (c.push_telling.ensures.told ∙ ap (λ (cs : List LaneChange). min (x.journal.told + length cs) 18446744073709551615) c.take_at-reply.ensures.changes)
    (c.push_telling.ensures.kept ∙ ap (λ (cs : List LaneChange). all_kept x.journal.kept.items ++ cs) c.take_at-reply.ensures.changes)
    (λ _. search rules)))

pub returns-clause-taken : goal.returns-clause-taken
returns-clause-taken c =
    let within : c.args.message.now.receiver < length c.args.self.now.nodes.items = search rules in
    rw (c.from.ensures)
    (taken-at c.args.self.now.nodes.items c.args.message.now c.index_mut.result.now c.take_at-reply.new.self c.take_at-reply.result.reply within
    (rw c.from.ensures at c.index_mut.ensures.value) c.take_at-reply.ensures.takes)

pub returns-clause-took : goal.returns-clause-took
returns-clause-took c =
    let x = c.args.self.now in
    let within : c.args.message.now.receiver < length x.nodes.items = search rules in
    rw (c.push_telling.ensures.past, c.take_at-reply.ensures.noted, c.from.ensures)
    (go-one (journal_of x) x.nodes.items (slice_set x.nodes.items c.args.message.now.receiver c.take_at-reply.new.self) c.args.number c.args.message.now c.take_at-reply.result.reply c.requires.flight c.requires.keeps.1.keeps.nodes_are
    (taken-at x.nodes.items c.args.message.now c.index_mut.result.now c.take_at-reply.new.self c.take_at-reply.result.reply within
    (rw c.from.ensures at c.index_mut.ensures.value) c.take_at-reply.ensures.takes))
