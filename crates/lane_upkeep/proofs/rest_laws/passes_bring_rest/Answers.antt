use Rattle.lane_upkeep.proofs.Begun.{begun}
use Rattle.lane_upkeep.proofs.Resting.{maintained-rests}
use Rattle.lane_upkeep.proofs.rest_laws.passes_bring_rest.Goals as goal

pub returns : goal.returns
returns c = λ x m e o given now h. maintained-rests (record {
  ordered = c.settings_are_found.ensures.ordered;
  sound = c.settings_are_found.ensures.sound;
  lane = c.settings_are_found.ensures.lane;
}) (record {
  brings = c.a_pass_brings_rest.ensures;
  is_read = c.rest_is_read_off_the_journal.ensures;
  said = c.nodes_are_seen.ensures.said;
}) (record {
  knows = c.owners_act.ensures.knows;
  serving = c.owners_act.ensures.serving;
}) (begun c.nodes_are_seen.ensures.sound) c.undisturbed_spans_have_scripts.ensures c.undisturbed_spans_part.ensures.second x m e o given now h
