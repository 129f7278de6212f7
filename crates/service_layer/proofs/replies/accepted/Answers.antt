use Rattle.std.proofs.Common.{◌∙◌, sym, ap, ap₂}
use Rattle.entry_maps.specs.Stamps.{stamps_of}
use Rattle.messages.specs.declared.noted.NotedReply.TheVariants as told
use Rattle.service_layer.proofs.Treating.{stamps-empty}
use Rattle.service_layer.proofs.replies.accepted.Goals as goal

pub returns-clause-noted : goal.returns-clause-noted
returns-clause-noted c =
    ap₂ told.Answer (c.of-2.ensures ∙ c.new-3.ensures.items ∙ sym (c.of.ensures ∙ c.new.ensures.items))
    (c.of-3.ensures ∙ c.new-4.ensures.items ∙ sym (ap stamps_of c.new-2.ensures ∙ stamps-empty))
