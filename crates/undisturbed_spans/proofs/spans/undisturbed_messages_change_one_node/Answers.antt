use Rattle.std.proofs.Common.{◌∷◌, true, false, ◌∙◌, refl}
use Rattle.messages.specs.declared.reply.Reply.TheVariants.{NoMemory}
use Rattle.lane_journals.specs.Meanings.{history}
use Rattle.pass_model.specs.Scripts.{came}
use Rattle.lane_keeping.specs.Replaying.{sending, delivered}
use Rattle.lane_journals.specs.declared.event.LaneEvent.TheVariants.{Returned}
use Rattle.undisturbed_spans.proofs.Changing.{moved, came-own, came-other, came-again, script-once, script-again, no-want}
use Rattle.undisturbed_spans.proofs.spans.undisturbed_messages_change_one_node.Goals as goal

pub returns : goal.returns
returns c = record {
  once = λ d J k m unsent silent untaken of y z r valid inside w t a.
      moved (d m.receiver) (came m.receiver (history J)) (came m.receiver (history (Returned k ∷ delivered k r ∷ sending k m ∷ J))) z m.body y (came-own J k m unsent silent untaken of r)
      (c.messages_do_the_same.ensures.once (came m.receiver (history J)) (d m.receiver) y z m.body r of valid inside w t (script-once J k m unsent silent untaken of r d w a));
  twice = λ d J k m unsent silent untaken of y z v r q valid next inside w u t more a.
      moved (d m.receiver) (came m.receiver (history J)) (came m.receiver (history (delivered k q ∷ Returned k ∷ delivered k r ∷ sending k m ∷ J))) v m.body y (came-again J k m unsent silent untaken of r q m.receiver ∙ came-own J k m unsent silent untaken of r)
      (c.messages_do_the_same.ensures.twice (came m.receiver (history J)) (d m.receiver) y z v m.body r q of valid next inside w u t more (script-again J k m unsent silent untaken of r q d false (no-want (Returned k ∷ delivered k r ∷ sending k m ∷ J) q u) w a));
  short = λ d J k m unsent silent untaken of y z r valid inside w t a.
      moved (d m.receiver) (came m.receiver (history J)) (came m.receiver (history (delivered k NoMemory ∷ Returned k ∷ delivered k r ∷ sending k m ∷ J))) z m.body y (came-again J k m unsent silent untaken of r NoMemory m.receiver ∙ came-own J k m unsent silent untaken of r)
      (c.messages_do_the_same.ensures.once (came m.receiver (history J)) (d m.receiver) y z m.body r of valid inside w t (script-again J k m unsent silent untaken of r NoMemory d true refl w a));
  others = λ d J k m unsent silent untaken of n r q off. (
    came-other J k m unsent silent untaken of r n off,
    came-again J k m unsent silent untaken of r q n ∙ came-other J k m unsent silent untaken of r n off,
  );
}
