use Rattle.std.proofs.Common.{rules, ◌<◌, ◌^◌, ℕ, sym, subst}
use Rattle.global_ids.proofs.KeyLaws.{key_small}
use Rattle.service_layer.proofs.node_part.key_or.Goals as goal

-- the key is that of the id
pub returns-in-Some-clause-small : goal.returns-in-Some-clause-small
returns-in-Some-clause-small c = subst (λ (k : ℕ). k < 2 ^ 58) (sym (search rules)) (key_small c.args.id.now)
