use Rattle.std.proofs.Common.{◌∙◌, [], None, Err, ap}
use Rattle.cell_session.proofs.Clauses.{legal_durable, legal_complete, ends_in_order, ends_together, ends_limit, chosen_legal, chosen_lanes, chosen_shown, chosen_order, chosen_lines, chosen_dealt, chosen_written, chosen_searches, empty_legal, empty_in_order, empty_together, empty_fates, empty_shown, empty_order, empty_ends, usage_written}
use Rattle.cell_session.proofs.SearchCounts.{SearchLaws}
use Rattle.cell_session.proofs.running.run_one.Goals as goal

-- ---- the words choose a session

pub returns-in-Ok-clause-legal_lanes : goal.returns-in-Ok-clause-legal_lanes
returns-in-Ok-clause-legal_lanes g c s x = chosen_legal _ _ s _ _ _ _ _ _ _ (c.in-Ok.ensures.chosen).chooses x.chooses c.run_lines.ensures.ended

pub returns-in-Ok-clause-durability : goal.returns-in-Ok-clause-durability
returns-in-Ok-clause-durability g c s x = legal_durable c.lanes_are_durable.ensures _ s _ x.chooses (chosen_legal _ _ s _ _ _ _ _ _ _ (c.in-Ok.ensures.chosen).chooses x.chooses c.run_lines.ensures.ended)

pub returns-in-Ok-clause-completeness : goal.returns-in-Ok-clause-completeness
returns-in-Ok-clause-completeness g c s x =
    let ended = c.run_lines.ensures.ended in
    let lines = chosen_lines (record { refused = c.lines_are_refused_with_cause.ensures; short = c.lines_fall_short_with_cause.ensures.alone; hold = c.hearings_follow_deeds.ensures.hold; hear = c.hearings_follow_deeds.ensures.hear; searches = record { few = c.journals_are_read.ensures.few; shown = c.journals_are_shown.ensures.shown; view = c.journals_are_shown.ensures.view; once = c.fronts_count_once.ensures.once; current = c.fronts_count_once.ensures.current; full = c.fronts_count_once.ensures.full; answers = c.answers_are_of_what_is_read.ensures }; covered = c.rested_lanes_stay_covered.ensures }) _ _ s _ _ _ _ _ _ _ (c.in-Ok.ensures.chosen).chooses x.chooses ended in
    legal_complete c.lanes_are_complete.ensures _ s _ lines.asked _ x.chooses (chosen_legal _ _ s _ _ _ _ _ _ _ (c.in-Ok.ensures.chosen).chooses x.chooses ended) lines.fates

pub returns-in-Ok-clause-lines_in_order : goal.returns-in-Ok-clause-lines_in_order
returns-in-Ok-clause-lines_in_order g c = ends_in_order _ _ _ _ _ _ _ _ _ c.run_lines.ensures.ended

pub returns-in-Ok-clause-state_events : goal.returns-in-Ok-clause-state_events
returns-in-Ok-clause-state_events g c = ends_together _ _ _ _ _ _ _ _ _ c.run_lines.ensures.ended

pub returns-in-Ok-clause-lanes : goal.returns-in-Ok-clause-lanes
returns-in-Ok-clause-lanes g c s x = chosen_lanes _ _ s _ _ _ _ _ _ _ (c.in-Ok.ensures.chosen).chooses x.chooses c.run_lines.ensures.ended

pub returns-in-Ok-clause-shown : goal.returns-in-Ok-clause-shown
returns-in-Ok-clause-shown g c s x = chosen_shown _ _ s _ _ _ _ _ _ _ (c.in-Ok.ensures.chosen).chooses x.chooses c.run_lines.ensures.ended

pub returns-in-Ok-clause-dealt_with : goal.returns-in-Ok-clause-dealt_with
returns-in-Ok-clause-dealt_with g c s x = chosen_dealt _ _ s _ _ _ _ _ _ _ (c.in-Ok.ensures.chosen).chooses x.chooses c.run_lines.ensures.ended

pub returns-in-Ok-clause-lines : goal.returns-in-Ok-clause-lines
returns-in-Ok-clause-lines g c s x = chosen_lines (record { refused = c.lines_are_refused_with_cause.ensures; short = c.lines_fall_short_with_cause.ensures.alone; hold = c.hearings_follow_deeds.ensures.hold; hear = c.hearings_follow_deeds.ensures.hear; searches = record { few = c.journals_are_read.ensures.few; shown = c.journals_are_shown.ensures.shown; view = c.journals_are_shown.ensures.view; once = c.fronts_count_once.ensures.once; current = c.fronts_count_once.ensures.current; full = c.fronts_count_once.ensures.full; answers = c.answers_are_of_what_is_read.ensures }; covered = c.rested_lanes_stay_covered.ensures }) _ _ s _ _ _ _ _ _ _ (c.in-Ok.ensures.chosen).chooses x.chooses c.run_lines.ensures.ended

pub returns-in-Ok-clause-bytes_written : goal.returns-in-Ok-clause-bytes_written
returns-in-Ok-clause-bytes_written g c s x = chosen_written _ _ s _ _ _ _ _ _ _ (c.in-Ok.ensures.chosen).chooses x.chooses c.run_lines.ensures.ended

pub returns-in-Ok-clause-searches : goal.returns-in-Ok-clause-searches
returns-in-Ok-clause-searches g c s x = chosen_searches laws _ _ s _ _ _ _ _ _ _ (c.in-Ok.ensures.chosen).chooses x.chooses c.run_lines.ensures.ended
  where
    laws : SearchLaws
    laws = record {
      few = c.journals_are_read.ensures.few;
      shown = c.journals_are_shown.ensures.shown;
      view = c.journals_are_shown.ensures.view;
      once = c.fronts_count_once.ensures.once;
      current = c.fronts_count_once.ensures.current;
      full = c.fronts_count_once.ensures.full;
      answers = c.answers_are_of_what_is_read.ensures;
    }

pub returns-in-Ok-clause-limit : goal.returns-in-Ok-clause-limit
returns-in-Ok-clause-limit g c which is = (_, (c.in-Ok.ensures.chosen, ends_limit _ _ _ _ _ _ _ _ _ c.run_lines.ensures.ended which is))

pub returns-in-Ok-clause-passes_in_order : goal.returns-in-Ok-clause-passes_in_order
returns-in-Ok-clause-passes_in_order g c s x = chosen_order _ _ s _ _ _ _ _ _ _ (c.in-Ok.ensures.chosen).chooses x.chooses c.run_lines.ensures.ended

pub returns-in-Ok-clause-nothing_more : goal.returns-in-Ok-clause-nothing_more
returns-in-Ok-clause-nothing_more g c s x is = c.run_lines.ensures.nothing_more is

-- ---- the words are wrong

pub returns-in-Err-Usage-clause-durability : goal.returns-in-Err-Usage-clause-durability
returns-in-Err-Usage-clause-durability g c s x = legal_durable c.lanes_are_durable.ensures _ s _ x.chooses (empty_legal s.setting c.args.cluster.now c.requires)

pub returns-in-Err-Usage-clause-completeness : goal.returns-in-Err-Usage-clause-completeness
returns-in-Err-Usage-clause-completeness g c s x =
    legal_complete c.lanes_are_complete.ensures _ s (λ lane. []) [] _ x.chooses (empty_legal s.setting c.args.cluster.now c.requires) (empty_fates (λ lane. []) c.args.cluster.now c.requires)

pub returns-in-Err-Usage-clause-lines_in_order : goal.returns-in-Err-Usage-clause-lines_in_order
returns-in-Err-Usage-clause-lines_in_order g c = empty_in_order c.args.cluster.now c.requires

pub returns-in-Err-Usage-clause-state_events : goal.returns-in-Err-Usage-clause-state_events
returns-in-Err-Usage-clause-state_events g c = empty_together c.args.cluster.now c.requires

pub returns-in-Err-Usage-clause-lanes : goal.returns-in-Err-Usage-clause-lanes
returns-in-Err-Usage-clause-lanes g c s x = absurd (c.choose_alone.ensures.usage (c.in-Err-Usage.is ∙ ap Err c.in-Err-Usage.field-0-is) s x)

pub returns-in-Err-Usage-clause-shown : goal.returns-in-Err-Usage-clause-shown
returns-in-Err-Usage-clause-shown g c s x = empty_shown s.setting c.args.cluster.now c.requires

pub returns-in-Err-Usage-clause-dealt_with : goal.returns-in-Err-Usage-clause-dealt_with
returns-in-Err-Usage-clause-dealt_with g c s x = absurd (c.choose_alone.ensures.usage (c.in-Err-Usage.is ∙ ap Err c.in-Err-Usage.field-0-is) s x)

pub returns-in-Err-Usage-clause-lines : goal.returns-in-Err-Usage-clause-lines
returns-in-Err-Usage-clause-lines g c s x = absurd (c.choose_alone.ensures.usage (c.in-Err-Usage.is ∙ ap Err c.in-Err-Usage.field-0-is) s x)

pub returns-in-Err-Usage-clause-bytes_written : goal.returns-in-Err-Usage-clause-bytes_written
returns-in-Err-Usage-clause-bytes_written g c s x = absurd (c.choose_alone.ensures.usage (c.in-Err-Usage.is ∙ ap Err c.in-Err-Usage.field-0-is) s x)

pub returns-in-Err-Usage-clause-searches : goal.returns-in-Err-Usage-clause-searches
returns-in-Err-Usage-clause-searches g c s x = absurd (c.choose_alone.ensures.usage (c.in-Err-Usage.is ∙ ap Err c.in-Err-Usage.field-0-is) s x)

pub returns-in-Err-Usage-clause-passes_in_order : goal.returns-in-Err-Usage-clause-passes_in_order
returns-in-Err-Usage-clause-passes_in_order g c s x = empty_order s.setting c.args.cluster.now c.requires

pub returns-in-Err-Usage-clause-nothing_more : goal.returns-in-Err-Usage-clause-nothing_more
returns-in-Err-Usage-clause-nothing_more g c s x = absurd (c.choose_alone.ensures.usage (c.in-Err-Usage.is ∙ ap Err c.in-Err-Usage.field-0-is) s x)

pub returns-in-Err-Usage-clause-usage : goal.returns-in-Err-Usage-clause-usage
returns-in-Err-Usage-clause-usage g c e =
    (c.choose_alone.ensures.usage (c.in-Err-Usage.is ∙ ap Err c.in-Err-Usage.field-0-is), usage_written _ _ _ c.refuse_words.ensures.ended e)

-- ---- memory wanted before the words were read

pub returns-in-Err-NoMemory-clause-legal_lanes : goal.returns-in-Err-NoMemory-clause-legal_lanes
returns-in-Err-NoMemory-clause-legal_lanes g c s x = empty_legal s.setting c.args.cluster.now c.requires

pub returns-in-Err-NoMemory-clause-passes_in_order : goal.returns-in-Err-NoMemory-clause-passes_in_order
returns-in-Err-NoMemory-clause-passes_in_order g c s x = empty_order s.setting c.args.cluster.now c.requires

pub returns-in-Err-NoMemory-clause-durability : goal.returns-in-Err-NoMemory-clause-durability
returns-in-Err-NoMemory-clause-durability g c s x = legal_durable c.lanes_are_durable.ensures _ s _ x.chooses (empty_legal s.setting c.args.cluster.now c.requires)

pub returns-in-Err-NoMemory-clause-completeness : goal.returns-in-Err-NoMemory-clause-completeness
returns-in-Err-NoMemory-clause-completeness g c s x =
    legal_complete c.lanes_are_complete.ensures _ s (λ lane. []) [] _ x.chooses (empty_legal s.setting c.args.cluster.now c.requires) (empty_fates (λ lane. []) c.args.cluster.now c.requires)

pub returns-in-Err-NoMemory-clause-lines_in_order : goal.returns-in-Err-NoMemory-clause-lines_in_order
returns-in-Err-NoMemory-clause-lines_in_order g c = empty_in_order c.args.cluster.now c.requires

pub returns-in-Err-NoMemory-clause-state_events : goal.returns-in-Err-NoMemory-clause-state_events
returns-in-Err-NoMemory-clause-state_events g c = empty_together c.args.cluster.now c.requires

pub returns-in-Err-NoMemory-clause-shown : goal.returns-in-Err-NoMemory-clause-shown
returns-in-Err-NoMemory-clause-shown g c s x = empty_shown s.setting c.args.cluster.now c.requires

pub returns-in-Err-NoMemory-clause-dealt_with : goal.returns-in-Err-NoMemory-clause-dealt_with
returns-in-Err-NoMemory-clause-dealt_with g c s x =
    let left = g.S.Source.left c.args.source.now in
    chosen_dealt _ s s _ (λ lane. []) left left c.args.cluster.now None None x.chooses x.chooses (empty_ends s.setting s.setting.schema (λ lane. []) left left c.args.cluster.now None c.requires)

pub returns-in-Err-NoMemory-clause-lines : goal.returns-in-Err-NoMemory-clause-lines
returns-in-Err-NoMemory-clause-lines g c s x =
    chosen_lines (record { refused = c.lines_are_refused_with_cause.ensures; short = c.lines_fall_short_with_cause.ensures.alone; hold = c.hearings_follow_deeds.ensures.hold; hear = c.hearings_follow_deeds.ensures.hear; searches = record { few = c.journals_are_read.ensures.few; shown = c.journals_are_shown.ensures.shown; view = c.journals_are_shown.ensures.view; once = c.fronts_count_once.ensures.once; current = c.fronts_count_once.ensures.current; full = c.fronts_count_once.ensures.full; answers = c.answers_are_of_what_is_read.ensures }; covered = c.rested_lanes_stay_covered.ensures }) _ s s _ _ _ None c.args.cluster.now None None x.chooses x.chooses (empty_ends s.setting s.setting.schema _ _ None c.args.cluster.now None c.requires)

pub returns-in-Err-NoMemory-clause-lanes : goal.returns-in-Err-NoMemory-clause-lanes
returns-in-Err-NoMemory-clause-lanes g c s x =
    chosen_lanes _ s s _ (λ lane. []) None None c.args.cluster.now None None x.chooses x.chooses (empty_ends s.setting s.setting.schema (λ lane. []) None None c.args.cluster.now None c.requires)

pub returns-in-Err-NoMemory-clause-bytes_written : goal.returns-in-Err-NoMemory-clause-bytes_written
returns-in-Err-NoMemory-clause-bytes_written g c s x =
    chosen_written _ s s _ (λ lane. []) _ None c.args.cluster.now _ _ x.chooses x.chooses (empty_ends s.setting s.setting.schema (λ lane. []) _ None c.args.cluster.now _ c.requires)

pub returns-in-Err-NoMemory-clause-searches : goal.returns-in-Err-NoMemory-clause-searches
returns-in-Err-NoMemory-clause-searches g c s x = chosen_searches laws _ s s _ (λ lane. []) _ None c.args.cluster.now None None x.chooses x.chooses (empty_ends s.setting s.setting.schema (λ lane. []) _ None c.args.cluster.now None c.requires)
  where
    laws : SearchLaws
    laws = record { few = c.journals_are_read.ensures.few; shown = c.journals_are_shown.ensures.shown; view = c.journals_are_shown.ensures.view; once = c.fronts_count_once.ensures.once; current = c.fronts_count_once.ensures.current; full = c.fronts_count_once.ensures.full; answers = c.answers_are_of_what_is_read.ensures }
