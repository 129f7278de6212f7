use Rattle.std.proofs.Common.{◌≡◌, ◌+◌, ℕ, List, length, drop, Some, None, Result, Err, sym, ◌∙◌, ap, subst, arith}
use Rattle.message_texts.specs.Texts.{message_in}
use Rattle.messages.specs.declared.message.Message.{Message}
use Rattle.message_texts.specs.declared.fault.MessageFault.{MessageFault}
use Rattle.node_journal.specs.Files.{text_in, read_in}
use Rattle.node_journal.specs.Opening.{texts, IsBehind}
use Rattle.node_journal.proofs.Openings.{damaged_here, found_behind}
use Rattle.node_journal.proofs.records.record_at.Goals as goal

pub returns-in_default-clause-cause : goal.returns-in_default-clause-cause
returns-in_default-clause-cause g c =
    let file = (g.D.Disk.state c.args.disk.now).seen in
    let gate = sym c.in_ok-byte_at.ensures.byte ∙ c.if-branch-ne-OPEN.false in
    let none : text_in (drop (c.args.at + 1) file) ≡ None =
    ap (λ (f : List ℕ). text_in (drop (c.args.at + 1) f)) (sym c.byte_at.ensures.rests.seen) ∙ sym c.in_ok-text.ensures.text ∙ ap texts c.in_default.is in
    damaged_here (message_in c.args.schema.now) file c.args.at (omega (arith, c.requires.within, c.requires.size)) gate (ap (read_in (message_in c.args.schema.now)) none)

pub returns-in-Ok-clause-found : goal.returns-in-Ok-clause-found
returns-in-Ok-clause-found g c =
    let file = (g.D.Disk.state c.args.disk.now).seen in
    let gate = sym c.in_ok-byte_at.ensures.byte ∙ c.if-branch-ne-OPEN.false in
    let some : text_in (drop (c.args.at + 1) file) ≡ Some c.in-Some.text.items =
    ap (λ (f : List ℕ). text_in (drop (c.args.at + 1) f)) (sym c.byte_at.ensures.rests.seen) ∙ sym c.in_ok-text.ensures.text ∙ ap texts c.in-Some.is in
    let reads : message_in c.args.schema.now c.in-Some.text.items ≡ Some c.in-Ok.message = ap (message_in c.args.schema.now) (sym c.deref.ensures.value) ∙ c.in-Ok.ensures.reads in
    let size : c.args.at + 5 + length c.in-Some.text.items ≡ c.args.at + 5 + c.len.result = omega (arith, c.len.ensures, c.in-Some.text.ok.0) in
    subst (λ (k : ℕ). IsBehind c.args.schema.now file c.args.at c.in-Ok.message k) size
    (found_behind c.args.schema.now file c.in-Some.text.items c.args.at c.in-Ok.message (omega (arith, c.requires.within, c.requires.size)) gate some reads c.in-Ok.ensures.message.fits)

pub returns-in-Err-BadMessage-clause-cause : goal.returns-in-Err-BadMessage-clause-cause
returns-in-Err-BadMessage-clause-cause g c =
    let file = (g.D.Disk.state c.args.disk.now).seen in
    let gate = sym c.in_ok-byte_at.ensures.byte ∙ c.if-branch-ne-OPEN.false in
    let some : text_in (drop (c.args.at + 1) file) ≡ Some c.in-Some.text.items =
    ap (λ (f : List ℕ). text_in (drop (c.args.at + 1) f)) (sym c.byte_at.ensures.rests.seen) ∙ sym c.in_ok-text.ensures.text ∙ ap texts c.in-Some.is in
    let none : message_in c.args.schema.now c.in-Some.text.items ≡ None = ap (message_in c.args.schema.now) (sym c.deref.ensures.value) ∙ c.in-Err-BadMessage.ensures.none (let err : MessageFault → Result Message MessageFault = λ e. Err e in ap err c.in-Err-BadMessage.field-0-is) in
    damaged_here (message_in c.args.schema.now) file c.args.at (omega (arith, c.requires.within, c.requires.size)) gate (ap (read_in (message_in c.args.schema.now)) some ∙ none)
