use Rattle.std.proofs.Common.{◌∙◌, [], Err, ap}
use Rattle.session_cluster.specs.Cells.{journals_of}
use Rattle.session_cluster.specs.Lanes.{AreLegal}
use Rattle.session_settings.specs.declared.choice.Choice.{Choice}
use Rattle.session_settings.proofs.Choosing.{chosen_setting, few_feeders}
use Rattle.cell_session.specs.Ends.{IfTold, HasLanes}
use Rattle.cell_session.specs.FedEnds.{OfParts, StopsFed, WritesFed}
use Rattle.cell_session.specs.FedLines.{HaveFedLines, CountOnceFed}
use Rattle.cell_session.specs.Orders.{GoInOrder}
use Rattle.cell_session.specs.LanePromises.{AreComplete, AreShownRight}
use Rattle.cell_session.specs.declared.status.Status.TheVariants as status
use Rattle.cell_session.proofs.Clauses.{legal_durable, legal_complete, empty_legal, empty_together, empty_fates, empty_shown, empty_order, usage_written}
use Rattle.cell_session.proofs.FedClauses.{of_chosen, fed_legal, fed_together, fed_lanes, fed_shown, fed_complete, fed_dealt, fed_lines_clause, fed_written, fed_usage, fed_limit, fed_unmade, fed_searches, fed_order}
use Rattle.cell_session.proofs.feeding.run_many.Goals as goal

pub feed_session-requires-clause-setting : goal.feed_session-requires-clause-setting
feed_session-requires-clause-setting g c κs lives =
    chosen_setting _ c.in-Ok.choice c.in-Ok.ensures.chosen.chooses

pub feed_session-requires-clause-feeders : goal.feed_session-requires-clause-feeders
feed_session-requires-clause-feeders g c κs lives =
    (c.in-Ok.ensures.chosen.some, few_feeders _ c.in-Ok.choice c.in-Ok.ensures.chosen.chooses)

pub returns-in-Ok-clause-legal_lanes : goal.returns-in-Ok-clause-legal_lanes
returns-in-Ok-clause-legal_lanes g c x p =
    of_chosen _ c.in-Ok.choice x (λ (y : Choice). AreLegal y.setting (journals_of c.feed_session.new.cluster)) c.in-Ok.ensures.chosen p
    (fed_legal c.feed_session.result c.in-Ok.choice.setting c.in-Ok.choice.setting.schema c.in-Ok.choice.feeders (g.C.Carriers.plans c.args.carriers.now) (g.S.Source.left c.args.source.now) (g.S.Source.left c.feed_session.new.source) c.feed_session.new.cluster (g.K.Sink.written c.args.sink.now) (g.K.Sink.written c.feed_session.new.sink) c.feed_session.ensures.ended)

pub returns-in-Ok-clause-durability : goal.returns-in-Ok-clause-durability
returns-in-Ok-clause-durability g c x p =
    legal_durable c.lanes_are_durable.ensures _ x (journals_of c.feed_session.new.cluster) p.chooses
    (of_chosen _ c.in-Ok.choice x (λ (y : Choice). AreLegal y.setting (journals_of c.feed_session.new.cluster)) c.in-Ok.ensures.chosen p
    (fed_legal c.feed_session.result c.in-Ok.choice.setting c.in-Ok.choice.setting.schema c.in-Ok.choice.feeders (g.C.Carriers.plans c.args.carriers.now) (g.S.Source.left c.args.source.now) (g.S.Source.left c.feed_session.new.source) c.feed_session.new.cluster (g.K.Sink.written c.args.sink.now) (g.K.Sink.written c.feed_session.new.sink) c.feed_session.ensures.ended))

pub returns-in-Ok-clause-state_events : goal.returns-in-Ok-clause-state_events
returns-in-Ok-clause-state_events g c =
    fed_together c.feed_session.result c.in-Ok.choice.setting c.in-Ok.choice.setting.schema c.in-Ok.choice.feeders (g.C.Carriers.plans c.args.carriers.now) (g.S.Source.left c.args.source.now) (g.S.Source.left c.feed_session.new.source) c.feed_session.new.cluster (g.K.Sink.written c.args.sink.now) (g.K.Sink.written c.feed_session.new.sink) c.feed_session.ensures.ended

pub returns-in-Ok-clause-lanes : goal.returns-in-Ok-clause-lanes
returns-in-Ok-clause-lanes g c x p =
    of_chosen _ c.in-Ok.choice x (λ (y : Choice). HasLanes c.feed_session.result y.setting c.feed_session.new.cluster) c.in-Ok.ensures.chosen p
    (fed_lanes c.feed_session.result c.in-Ok.choice.setting c.in-Ok.choice.setting.schema c.in-Ok.choice.feeders (g.C.Carriers.plans c.args.carriers.now) (g.S.Source.left c.args.source.now) (g.S.Source.left c.feed_session.new.source) c.feed_session.new.cluster (g.K.Sink.written c.args.sink.now) (g.K.Sink.written c.feed_session.new.sink) c.feed_session.ensures.ended)

pub returns-in-Ok-clause-shown : goal.returns-in-Ok-clause-shown
returns-in-Ok-clause-shown g c x p =
    of_chosen _ c.in-Ok.choice x (λ (y : Choice). AreShownRight y.setting c.feed_session.new.cluster) c.in-Ok.ensures.chosen p
    (fed_shown c.feed_session.result c.in-Ok.choice.setting c.in-Ok.choice.setting.schema c.in-Ok.choice.feeders (g.C.Carriers.plans c.args.carriers.now) (g.S.Source.left c.args.source.now) (g.S.Source.left c.feed_session.new.source) c.feed_session.new.cluster (g.K.Sink.written c.args.sink.now) (g.K.Sink.written c.feed_session.new.sink) c.feed_session.ensures.ended)

pub returns-in-Ok-clause-completeness : goal.returns-in-Ok-clause-completeness
returns-in-Ok-clause-completeness g c x p =
    of_chosen _ c.in-Ok.choice x (λ (y : Choice). AreComplete y.setting c.feed_session.new.cluster.lanes) c.in-Ok.ensures.chosen p
    (fed_complete c.lanes_are_complete.ensures (record { refused = c.lines_are_refused_with_cause.ensures; short = c.lines_fall_short_with_cause.ensures.beside; hold = c.hearings_follow_deeds.ensures.hold; hear = c.hearings_follow_deeds.ensures.hear; in_turn = c.deeds_come_in_order.ensures; searches = record { few = c.journals_are_read.ensures.few; shown = c.journals_are_shown.ensures.shown; view = c.journals_are_shown.ensures.view; once = c.fronts_count_once.ensures.once; current = c.fronts_count_once.ensures.current; full = c.fronts_count_once.ensures.full; answers = c.answers_are_of_what_is_read.ensures }; covered = c.rested_lanes_stay_covered.ensures }) _ c.in-Ok.choice c.in-Ok.ensures.chosen.chooses c.feed_session.result c.in-Ok.choice.setting.schema c.in-Ok.choice.feeders (g.C.Carriers.plans c.args.carriers.now) (g.S.Source.left c.args.source.now) (g.S.Source.left c.feed_session.new.source) c.feed_session.new.cluster (g.K.Sink.written c.args.sink.now) (g.K.Sink.written c.feed_session.new.sink) c.feed_session.ensures.ended)

pub returns-in-Ok-clause-dealt_with : goal.returns-in-Ok-clause-dealt_with
returns-in-Ok-clause-dealt_with g c x p =
    of_chosen _ c.in-Ok.choice x (λ (y : Choice). IfTold (g.S.Source.left c.args.source.now) (λ t. OfParts y.setting.schema (y.setting).bits t c.feed_session.new.cluster.dealt (StopsFed c.feed_session.result y.setting.schema (y.setting).bits t (g.S.Source.left c.feed_session.new.source)))) c.in-Ok.ensures.chosen p
    (fed_dealt c.feed_session.result c.in-Ok.choice.setting c.in-Ok.choice.setting.schema c.in-Ok.choice.feeders (g.C.Carriers.plans c.args.carriers.now) (g.S.Source.left c.args.source.now) (g.S.Source.left c.feed_session.new.source) c.feed_session.new.cluster (g.K.Sink.written c.args.sink.now) (g.K.Sink.written c.feed_session.new.sink) c.feed_session.ensures.ended)

pub returns-in-Ok-clause-lines : goal.returns-in-Ok-clause-lines
returns-in-Ok-clause-lines g c x p =
    of_chosen _ c.in-Ok.choice x (λ (y : Choice). HaveFedLines c.feed_session.result y.setting y.setting.schema y.feeders (g.C.Carriers.plans c.args.carriers.now) (g.S.Source.left c.args.source.now) c.feed_session.new.cluster (g.K.Sink.written c.args.sink.now) (g.K.Sink.written c.feed_session.new.sink)) c.in-Ok.ensures.chosen p
    (fed_lines_clause c.feed_session.result c.in-Ok.choice.setting c.in-Ok.choice.setting.schema c.in-Ok.choice.feeders (g.C.Carriers.plans c.args.carriers.now) (g.S.Source.left c.args.source.now) (g.S.Source.left c.feed_session.new.source) c.feed_session.new.cluster (g.K.Sink.written c.args.sink.now) (g.K.Sink.written c.feed_session.new.sink) (record { refused = c.lines_are_refused_with_cause.ensures; short = c.lines_fall_short_with_cause.ensures.beside; hold = c.hearings_follow_deeds.ensures.hold; hear = c.hearings_follow_deeds.ensures.hear; in_turn = c.deeds_come_in_order.ensures; searches = record { few = c.journals_are_read.ensures.few; shown = c.journals_are_shown.ensures.shown; view = c.journals_are_shown.ensures.view; once = c.fronts_count_once.ensures.once; current = c.fronts_count_once.ensures.current; full = c.fronts_count_once.ensures.full; answers = c.answers_are_of_what_is_read.ensures }; covered = c.rested_lanes_stay_covered.ensures }) (chosen_setting _ c.in-Ok.choice c.in-Ok.ensures.chosen.chooses) c.feed_session.ensures.ended)

pub returns-in-Ok-clause-bytes_written : goal.returns-in-Ok-clause-bytes_written
returns-in-Ok-clause-bytes_written g c x p =
    of_chosen _ c.in-Ok.choice x (λ (y : Choice). IfTold (g.S.Source.left c.args.source.now) (λ t. OfParts y.setting.schema (y.setting).bits t c.feed_session.new.cluster.dealt (λ parts. WritesFed c.feed_session.result y.setting parts c.feed_session.new.cluster (g.K.Sink.written c.args.sink.now) (g.K.Sink.written c.feed_session.new.sink)))) c.in-Ok.ensures.chosen p
    (fed_written c.feed_session.result c.in-Ok.choice.setting c.in-Ok.choice.setting.schema c.in-Ok.choice.feeders (g.C.Carriers.plans c.args.carriers.now) (g.S.Source.left c.args.source.now) (g.S.Source.left c.feed_session.new.source) c.feed_session.new.cluster (g.K.Sink.written c.args.sink.now) (g.K.Sink.written c.feed_session.new.sink) c.feed_session.ensures.ended)

pub returns-in-Ok-clause-passes_in_order : goal.returns-in-Ok-clause-passes_in_order
returns-in-Ok-clause-passes_in_order g c x p =
    of_chosen _ c.in-Ok.choice x (λ (y : Choice). GoInOrder y.setting c.feed_session.new.cluster) c.in-Ok.ensures.chosen p
    (fed_order c.feed_session.result c.in-Ok.choice.setting c.in-Ok.choice.setting.schema c.in-Ok.choice.feeders (g.C.Carriers.plans c.args.carriers.now) (g.S.Source.left c.args.source.now) (g.S.Source.left c.feed_session.new.source) c.feed_session.new.cluster (g.K.Sink.written c.args.sink.now) (g.K.Sink.written c.feed_session.new.sink) c.feed_session.ensures.ended)

pub returns-in-Ok-clause-searches : goal.returns-in-Ok-clause-searches
returns-in-Ok-clause-searches g c x p =
    of_chosen _ c.in-Ok.choice x (λ (y : Choice). CountOnceFed c.feed_session.result y.setting y.setting.schema y.feeders (g.S.Source.left c.args.source.now) c.feed_session.new.cluster) c.in-Ok.ensures.chosen p
    (fed_searches c.feed_session.result c.in-Ok.choice.setting c.in-Ok.choice.setting.schema c.in-Ok.choice.feeders (g.C.Carriers.plans c.args.carriers.now) (g.S.Source.left c.args.source.now) (g.S.Source.left c.feed_session.new.source) c.feed_session.new.cluster (g.K.Sink.written c.args.sink.now) (g.K.Sink.written c.feed_session.new.sink) (record { few = c.journals_are_read.ensures.few; shown = c.journals_are_shown.ensures.shown; view = c.journals_are_shown.ensures.view; once = c.fronts_count_once.ensures.once; current = c.fronts_count_once.ensures.current; full = c.fronts_count_once.ensures.full; answers = c.answers_are_of_what_is_read.ensures }) (chosen_setting _ c.in-Ok.choice c.in-Ok.ensures.chosen.chooses) c.feed_session.ensures.ended)

pub returns-in-Ok-clause-wrong_words : goal.returns-in-Ok-clause-wrong_words
returns-in-Ok-clause-wrong_words g c wrong =
    absurd (wrong c.in-Ok.choice c.in-Ok.ensures.chosen)

pub returns-in-Ok-clause-nothing_read : goal.returns-in-Ok-clause-nothing_read
returns-in-Ok-clause-nothing_read g c wrong =
    absurd (wrong c.in-Ok.choice c.in-Ok.ensures.chosen)

pub returns-in-Ok-clause-usage : goal.returns-in-Ok-clause-usage
returns-in-Ok-clause-usage g c is =
    absurd (fed_usage c.feed_session.result c.in-Ok.choice.setting c.in-Ok.choice.setting.schema c.in-Ok.choice.feeders (g.C.Carriers.plans c.args.carriers.now) (g.S.Source.left c.args.source.now) (g.S.Source.left c.feed_session.new.source) c.feed_session.new.cluster (g.K.Sink.written c.args.sink.now) (g.K.Sink.written c.feed_session.new.sink) c.feed_session.ensures.ended is)

pub returns-in-Ok-clause-limit : goal.returns-in-Ok-clause-limit
returns-in-Ok-clause-limit g c which is =
    (c.in-Ok.choice, (c.in-Ok.ensures.chosen, fed_limit c.feed_session.result c.in-Ok.choice.setting c.in-Ok.choice.setting.schema c.in-Ok.choice.feeders (g.C.Carriers.plans c.args.carriers.now) (g.S.Source.left c.args.source.now) (g.S.Source.left c.feed_session.new.source) c.feed_session.new.cluster (g.K.Sink.written c.args.sink.now) (g.K.Sink.written c.feed_session.new.sink) c.feed_session.ensures.ended which is))

pub returns-in-Err-Usage-clause-legal_lanes : goal.returns-in-Err-Usage-clause-legal_lanes
returns-in-Err-Usage-clause-legal_lanes g c x p =
    empty_legal x.setting c.args.cluster.now c.requires

pub returns-in-Err-Usage-clause-durability : goal.returns-in-Err-Usage-clause-durability
returns-in-Err-Usage-clause-durability g c x p =
    legal_durable c.lanes_are_durable.ensures _ x _ p.chooses (empty_legal x.setting c.args.cluster.now c.requires)

pub returns-in-Err-Usage-clause-state_events : goal.returns-in-Err-Usage-clause-state_events
returns-in-Err-Usage-clause-state_events g c =
    empty_together c.args.cluster.now c.requires

pub returns-in-Err-Usage-clause-lanes : goal.returns-in-Err-Usage-clause-lanes
returns-in-Err-Usage-clause-lanes g c x p =
    absurd ((c.choose_fed.ensures.usage (c.in-Err-Usage.is ∙ ap Err c.in-Err-Usage.field-0-is)) x p)

pub returns-in-Err-Usage-clause-dealt_with : goal.returns-in-Err-Usage-clause-dealt_with
returns-in-Err-Usage-clause-dealt_with g c x p =
    absurd ((c.choose_fed.ensures.usage (c.in-Err-Usage.is ∙ ap Err c.in-Err-Usage.field-0-is)) x p)

pub returns-in-Err-Usage-clause-lines : goal.returns-in-Err-Usage-clause-lines
returns-in-Err-Usage-clause-lines g c x p =
    absurd ((c.choose_fed.ensures.usage (c.in-Err-Usage.is ∙ ap Err c.in-Err-Usage.field-0-is)) x p)

pub returns-in-Err-Usage-clause-bytes_written : goal.returns-in-Err-Usage-clause-bytes_written
returns-in-Err-Usage-clause-bytes_written g c x p =
    absurd ((c.choose_fed.ensures.usage (c.in-Err-Usage.is ∙ ap Err c.in-Err-Usage.field-0-is)) x p)

pub returns-in-Err-Usage-clause-passes_in_order : goal.returns-in-Err-Usage-clause-passes_in_order
returns-in-Err-Usage-clause-passes_in_order g c x p =
    empty_order x.setting c.args.cluster.now c.requires

pub returns-in-Err-Usage-clause-searches : goal.returns-in-Err-Usage-clause-searches
returns-in-Err-Usage-clause-searches g c x p =
    absurd ((c.choose_fed.ensures.usage (c.in-Err-Usage.is ∙ ap Err c.in-Err-Usage.field-0-is)) x p)

pub returns-in-Err-Usage-clause-shown : goal.returns-in-Err-Usage-clause-shown
returns-in-Err-Usage-clause-shown g c x p =
    empty_shown x.setting c.args.cluster.now c.requires

pub returns-in-Err-Usage-clause-completeness : goal.returns-in-Err-Usage-clause-completeness
returns-in-Err-Usage-clause-completeness g c x p =
    legal_complete c.lanes_are_complete.ensures _ x (λ lane. []) [] _ p.chooses (empty_legal x.setting c.args.cluster.now c.requires) (empty_fates (λ lane. []) c.args.cluster.now c.requires)

pub returns-in-Err-Usage-clause-usage : goal.returns-in-Err-Usage-clause-usage
returns-in-Err-Usage-clause-usage g c is =
    ((c.choose_fed.ensures.usage (c.in-Err-Usage.is ∙ ap Err c.in-Err-Usage.field-0-is)), usage_written _ _ _ c.refuse_words.ensures.ended is)

pub returns-in-Err-NoMemory-clause-legal_lanes : goal.returns-in-Err-NoMemory-clause-legal_lanes
returns-in-Err-NoMemory-clause-legal_lanes g c x p =
    empty_legal x.setting c.args.cluster.now c.requires

pub returns-in-Err-NoMemory-clause-durability : goal.returns-in-Err-NoMemory-clause-durability
returns-in-Err-NoMemory-clause-durability g c x p =
    legal_durable c.lanes_are_durable.ensures _ x _ p.chooses (empty_legal x.setting c.args.cluster.now c.requires)

pub returns-in-Err-NoMemory-clause-state_events : goal.returns-in-Err-NoMemory-clause-state_events
returns-in-Err-NoMemory-clause-state_events g c =
    empty_together c.args.cluster.now c.requires

pub returns-in-Err-NoMemory-clause-lanes : goal.returns-in-Err-NoMemory-clause-lanes
returns-in-Err-NoMemory-clause-lanes g c x p =
    fed_lanes status.NoMemory x.setting x.setting.schema x.feeders (g.C.Carriers.plans c.args.carriers.now) (g.S.Source.left c.args.source.now) (g.S.Source.left c.args.source.now) c.args.cluster.now (g.K.Sink.written c.args.sink.now) (g.K.Sink.written c.args.sink.now) (fed_unmade x.setting x.setting.schema x.feeders (g.C.Carriers.plans c.args.carriers.now) (g.S.Source.left c.args.source.now) (g.S.Source.left c.args.source.now) c.args.cluster.now (g.K.Sink.written c.args.sink.now) c.requires)

pub returns-in-Err-NoMemory-clause-shown : goal.returns-in-Err-NoMemory-clause-shown
returns-in-Err-NoMemory-clause-shown g c x p =
    empty_shown x.setting c.args.cluster.now c.requires

pub returns-in-Err-NoMemory-clause-completeness : goal.returns-in-Err-NoMemory-clause-completeness
returns-in-Err-NoMemory-clause-completeness g c x p =
    legal_complete c.lanes_are_complete.ensures _ x (λ lane. []) [] _ p.chooses (empty_legal x.setting c.args.cluster.now c.requires) (empty_fates (λ lane. []) c.args.cluster.now c.requires)

pub returns-in-Err-NoMemory-clause-dealt_with : goal.returns-in-Err-NoMemory-clause-dealt_with
returns-in-Err-NoMemory-clause-dealt_with g c x p =
    fed_dealt status.NoMemory x.setting x.setting.schema x.feeders (g.C.Carriers.plans c.args.carriers.now) (g.S.Source.left c.args.source.now) (g.S.Source.left c.args.source.now) c.args.cluster.now (g.K.Sink.written c.args.sink.now) (g.K.Sink.written c.args.sink.now) (fed_unmade x.setting x.setting.schema x.feeders (g.C.Carriers.plans c.args.carriers.now) (g.S.Source.left c.args.source.now) (g.S.Source.left c.args.source.now) c.args.cluster.now (g.K.Sink.written c.args.sink.now) c.requires)

pub returns-in-Err-NoMemory-clause-lines : goal.returns-in-Err-NoMemory-clause-lines
returns-in-Err-NoMemory-clause-lines g c x p =
    fed_lines_clause status.NoMemory x.setting x.setting.schema x.feeders (g.C.Carriers.plans c.args.carriers.now) (g.S.Source.left c.args.source.now) (g.S.Source.left c.args.source.now) c.args.cluster.now (g.K.Sink.written c.args.sink.now) (g.K.Sink.written c.args.sink.now) (record { refused = c.lines_are_refused_with_cause.ensures; short = c.lines_fall_short_with_cause.ensures.beside; hold = c.hearings_follow_deeds.ensures.hold; hear = c.hearings_follow_deeds.ensures.hear; in_turn = c.deeds_come_in_order.ensures; searches = record { few = c.journals_are_read.ensures.few; shown = c.journals_are_shown.ensures.shown; view = c.journals_are_shown.ensures.view; once = c.fronts_count_once.ensures.once; current = c.fronts_count_once.ensures.current; full = c.fronts_count_once.ensures.full; answers = c.answers_are_of_what_is_read.ensures }; covered = c.rested_lanes_stay_covered.ensures }) (chosen_setting _ x p.chooses) (fed_unmade x.setting x.setting.schema x.feeders (g.C.Carriers.plans c.args.carriers.now) (g.S.Source.left c.args.source.now) (g.S.Source.left c.args.source.now) c.args.cluster.now (g.K.Sink.written c.args.sink.now) c.requires)

pub returns-in-Err-NoMemory-clause-bytes_written : goal.returns-in-Err-NoMemory-clause-bytes_written
returns-in-Err-NoMemory-clause-bytes_written g c x p =
    fed_written status.NoMemory x.setting x.setting.schema x.feeders (g.C.Carriers.plans c.args.carriers.now) (g.S.Source.left c.args.source.now) (g.S.Source.left c.args.source.now) c.args.cluster.now (g.K.Sink.written c.args.sink.now) (g.K.Sink.written c.args.sink.now) (fed_unmade x.setting x.setting.schema x.feeders (g.C.Carriers.plans c.args.carriers.now) (g.S.Source.left c.args.source.now) (g.S.Source.left c.args.source.now) c.args.cluster.now (g.K.Sink.written c.args.sink.now) c.requires)

pub returns-in-Err-NoMemory-clause-passes_in_order : goal.returns-in-Err-NoMemory-clause-passes_in_order
returns-in-Err-NoMemory-clause-passes_in_order g c x p =
    empty_order x.setting c.args.cluster.now c.requires

pub returns-in-Err-NoMemory-clause-searches : goal.returns-in-Err-NoMemory-clause-searches
returns-in-Err-NoMemory-clause-searches g c x p =
    fed_searches status.NoMemory x.setting x.setting.schema x.feeders (g.C.Carriers.plans c.args.carriers.now) (g.S.Source.left c.args.source.now) (g.S.Source.left c.args.source.now) c.args.cluster.now (g.K.Sink.written c.args.sink.now) (g.K.Sink.written c.args.sink.now) (record { few = c.journals_are_read.ensures.few; shown = c.journals_are_shown.ensures.shown; view = c.journals_are_shown.ensures.view; once = c.fronts_count_once.ensures.once; current = c.fronts_count_once.ensures.current; full = c.fronts_count_once.ensures.full; answers = c.answers_are_of_what_is_read.ensures }) (chosen_setting _ x p.chooses) (fed_unmade x.setting x.setting.schema x.feeders (g.C.Carriers.plans c.args.carriers.now) (g.S.Source.left c.args.source.now) (g.S.Source.left c.args.source.now) c.args.cluster.now (g.K.Sink.written c.args.sink.now) c.requires)
