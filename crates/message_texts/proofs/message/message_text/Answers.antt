use Rattle.std.proofs.Common.{◌∙◌, ◌≤◌, ap, subst, sym, Some, Option}
use Rattle.serde_json.specs.Data.{Data, depth}
use Rattle.serde_json.specs.Read.{max_depth}
use Rattle.serde_json.specs.Written.{has_float, compact_text}
use Rattle.message_texts.specs.Texts.{text_of}
use Rattle.message_texts.proofs.EntryLaws.{AreRead}
use Rattle.message_texts.proofs.TextLaws.{is_shallow, has_no_float, text_reads}
use Rattle.message_texts.proofs.message.message_text.Goals as goal

pub returns-clause-text : goal.returns-clause-text
unfolding text_of
returns-clause-text c =
    c.in_ok-text.ensures.text (ap has_float c.in_ok-value.ensures ∙ has_no_float c.args.message.now) ∙ ap compact_text c.in_ok-value.ensures

pub returns-clause-reads : goal.returns-clause-reads
returns-clause-reads c types fits =
    let m = c.args.message.now in
    let some : Data → Option Data = λ d. Some d in
    let read : AreRead = record { ids = c.ids_are_spelled.ensures.accepts; stamps = c.texts_are_stamps.ensures.of; right = c.json_and_back.ensures.right; same = c.json_and_back.ensures.same } in
    let shallow = subst (λ (d : Data). depth d ≤ max_depth) (sym c.in_ok-value.ensures) (is_shallow m) in
    text_reads read types m c.in_ok-text.text.items (returns-clause-text c) c.in_ok-text.ensures.utf8 (c.in_ok-text.ensures.reads_back shallow ∙ ap some c.in_ok-value.ensures) fits
