use Rattle.lane_promises.proofs.Shortfalls.{Laws, short_with_cause}
use Rattle.lane_promises.proofs.ShortfallsBeside.{short_beside}
use Rattle.lane_promises.proofs.laws.lines_fall_short_with_cause.Goals as goal

pub returns : goal.returns
returns c =
    let laws : Laws = record {
      missing = c.too_few_has_its_cause.ensures.alone;
      missing_since = c.too_few_has_its_cause.ensures.since;
      in_turn = c.replies_return_in_turn.ensures;
      lost = c.unheard_messages_are_lost.ensures;
      unsent = c.messages_are_carried.ensures.unsent;
    } in
    record {
      alone = λ s is. short_with_cause laws s (record { some = is.rules.some_acks; enough = is.rules.few_acks });
      beside = λ s is. short_beside laws s (record { some = is.rules.some_acks; enough = is.rules.few_acks });
    }
