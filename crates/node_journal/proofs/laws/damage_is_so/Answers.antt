use Rattle.std.proofs.Common.{sym, ◌∙◌, ap}
use Rattle.message_texts.specs.Texts.{message_in}
use Rattle.node_journal.specs.Files.{read_in}
use Rattle.node_journal.proofs.Damages.{damage_in}
use Rattle.node_journal.proofs.laws.damage_is_so.Goals as goal

pub returns : goal.returns
returns c schema file at is =
    let h = damage_in (message_in schema) file at is in
    record {
      within = h.within;
      gate = h.gate;
      nothing = λ text m some its. (c.texts_are_messages.ensures.none schema text).0 (sym (ap (read_in (message_in schema)) some) ∙ h.none) m its;
    }
