use Rattle.message_texts.proofs.EntryLaws.{AreRead}
use Rattle.message_texts.proofs.TextLaws.{its_text_reads}
use Rattle.message_texts.proofs.ReadLaws.{AreRight, is_its_text, reads_none, none_reads}
use Rattle.message_texts.proofs.laws.texts_are_messages.Goals as goal

pub returns-clause-one : goal.returns-clause-one
returns-clause-one c types text m =
    let right : AreRight = record { ids = c.ids_are_spelled.ensures.only; stamps = c.texts_are_stamps.ensures.only } in
    let read : AreRead = record { ids = c.ids_are_spelled.ensures.accepts; stamps = c.texts_are_stamps.ensures.of; right = c.json_and_back.ensures.right; same = c.json_and_back.ensures.same } in
    (is_its_text right types text m, its_text_reads read types m text)

pub returns-clause-none : goal.returns-clause-none
returns-clause-none c types text =
    let right : AreRight = record { ids = c.ids_are_spelled.ensures.only; stamps = c.texts_are_stamps.ensures.only } in
    let read : AreRead = record { ids = c.ids_are_spelled.ensures.accepts; stamps = c.texts_are_stamps.ensures.of; right = c.json_and_back.ensures.right; same = c.json_and_back.ensures.same } in
    (none_reads types text (λ m is. its_text_reads read types m text is), reads_none types text (λ m is. is_its_text right types text m is))
