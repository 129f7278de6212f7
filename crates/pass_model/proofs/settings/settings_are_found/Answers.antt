use Rattle.ideal_nodes.proofs.Listing.{ideal_there}
use Rattle.pass_model.proofs.Found.{sound, of-lane}
use Rattle.pass_model.proofs.settings.settings_are_found.Goals as goal

pub returns : goal.returns
returns c = record {
  ordered = λ s b. (let listed = ideal_there b s in (listed.nodes, listed.is_ideal));
  sound = λ S first most v s J ideal legal is some enough bits are. sound S first most v s J ideal legal is some enough bits are;
  lane = of-lane;
}
