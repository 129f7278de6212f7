use Rattle.std.proofs.Common.{◌+◌, refl, sym, ap, ◌∙◌, subst, arith}
use Rattle.global_ids.specs.Keys as keys
use Rattle.lane_calls.specs.Lines.{Lines}
use Rattle.lane_locks.specs.Lines.{Listed, IsAbove}
use Rattle.messages.specs.declared.operation.Operation.{Operation}
use Rattle.feeder_tables.specs.Lines.{AreOf}
use Rattle.feeder_tables.proofs.Asking.{key_lies, more_above, more_of, where_ok}
use Rattle.feeder_tables.proofs.lines.add.Goals as goal

pub returns-clause-above : goal.returns-clause-above
returns-clause-above c =
    let lines = c.args.list.now.lines in
    where_ok c.push.result _ _ (λ is. subst (λ (ls : Lines). IsAbove ls (c.args.number + 1)) (sym (ap (λ (l : Listed). l.lines) is)) (more_above lines _ c.args.number refl c.requires.above)) c.push.ensures.ok

pub returns-clause-of_lane : goal.returns-clause-of_lane
returns-clause-of_lane c =
    let lines = c.args.list.now.lines in
    let bits = c.args.setting.now.bits in
    let same = ap (λ (o : Operation). o.id) c.in_ok-new.ensures in
    let key_is = c.key_of-key.ensures.value ∙ ap keys.key_of (sym same) in
    let lane_is = sym c.lane_of.ensures.value ∙ omega (arith, c.if-lane_of-lane.false) in
    where_ok c.push.result _ _ (λ is. subst (λ (ls : Lines). AreOf bits c.args.lane ls) (sym (ap (λ (l : Listed). l.lines) is)) (more_of lines _ bits c.args.lane (record {
      number = c.requires.number;
      in_lane = key_lies bits c.args.lane c.key_of-key.result _ key_is lane_is;
      no_via = refl;
    }) c.requires.of_lane)) c.push.ensures.ok
