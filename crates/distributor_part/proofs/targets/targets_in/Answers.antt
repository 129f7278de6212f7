use Rattle.std.proofs.Common.{take, inl, inr, subst}
use Rattle.ideal_nodes.specs.Scores.{Has}
use Rattle.distributor_part.proofs.PartLaws.{ideal_small}
use Rattle.distributor_part.proofs.targets.targets_in.Goals as goal

pub first_nodes-requires : goal.first_nodes-requires
first_nodes-requires c = ideal_small _ _ _ c.version-version.ensures.valid c.requires.ideal

pub returns : goal.returns
returns c n = (
  λ h. elim ((c.with_active.ensures n).0 h) [
    | inl first ↦ inl (record {
      ideal = c.args.list.now;
      is_ideal = c.requires.ideal;
      among = (c.first_nodes.ensures n).0 first;
    })
    | inr active ↦ inr active
  ],
  λ t. (c.with_active.ensures n).1 (elim t [
    | inl first ↦ inl ((c.first_nodes.ensures n).1 (subst (λ nodes. Has n (take c.args.redundancy nodes))
        (c.state_has_one_list.ensures c.args.row.now.bucket c.args.state.now first.ideal c.args.list.now first.is_ideal c.requires.ideal)
        first.among))
    | inr active ↦ inr active
  ]),
)
