use Rattle.std.proofs.Common.{inl, [], ◌∷◌, ◌≡◌, ◌+◌, false, Option, Some, IfSome, IfNone, sym, subst}
use Rattle.lane_journals.specs.Readers.{returned}
use Rattle.lane_journals.specs.Meanings.{history}
use Rattle.messages.specs.declared.message.Message.{Message}
use Rattle.messages.specs.declared.reply.Reply.{Reply}
use Rattle.row_keeping.specs.Telling.{IsTelling}
use Rattle.lane_states.specs.LaneStates.{journal_of, part_of}
use Rattle.lane_states.specs.Tellings.{IsAnsweredBy, IsFirstReply}
use Rattle.proof_basics.proofs.Results.{if_ok}
use Rattle.lane_states.proofs.Giving.{gives_same}
use Rattle.lane_states.proofs.TellingBack.{kept-back}
use Rattle.lane_states.proofs.Tellings.{row-no-ask, stays-went, answered-by, first-by, silent-by}
use Rattle.lane_upkeep.specs.CameBack.{CameBack}
use Rattle.lane_upkeep.specs.Notes.{KnowsNote}
use Rattle.lane_upkeep.proofs.NotesStay.{note-message}
use Rattle.lane_upkeep.proofs.Passing.{telling-of, went-passing, went-passes, went-as, still-passing, still-passes}
use Rattle.lane_upkeep.proofs.Tellings.{row-body, came-all}
use Rattle.messages.specs.declared.reply.Reply.TheVariants as replies
use Rattle.lane_upkeep.specs.Quiet.{InQuiet, IsToldQuietly}
use Rattle.lane_upkeep.proofs.QuietTellings.{both-ok, quiet-told}
use Rattle.lane_upkeep.proofs.telling.tell_node.Goals as goal

pub exchange-requires-clause-may : goal.exchange-requires-clause-may
exchange-requires-clause-may g c =
    let x = c.args.lane.now in
    let o = c.args.owner.now in
    let m = c.message_to-message.result in
    let keep = c.requires.passing.keeps.keeps in
    let may = c.requires.may in
    let t : IsTelling x.lane (journal_of x) o.distributor o.state (part_of x o.distributor) m = telling-of x o _ c.args.node c.args.body m c.requires.passing may c.message_to-message.ensures in
    record {
      legal = c.rows_are_told.ensures.legal _ _ _ _ _ _ _ keep o.distributor o.state m t;
      brings = c.rows_are_told.ensures.brings _ _ _ _ _ _ _ keep o.distributor o.state m t;
      whole = c.rows_are_told.ensures.whole _ _ _ _ _ _ _ keep o.distributor o.state m t;
      asker = inl (row-no-ask m.body (rw c.message_to-message.ensures (row-body may.row c.args.node c.args.body may.of_row)));
    }

pub returns-clause-passing : goal.returns-clause-passing
returns-clause-passing g c =
    let may = c.requires.may in
    let x = c.args.lane.now in
    let e = c.exchange.new.self in
    let o = c.args.owner.now in
    let m = c.message_to-message.result in
    went-passing c.upkeep_leaves_states.ensures.held c.upkeep_leaves_states.ensures.state c.upkeep_leaves_lines.ensures.idle x e o _ _ c.args.node c.args.body m c.requires.passing c.requires.may c.message_to-message.ensures c.exchange.ensures.after
    c.in_ok-reply.ensures.exchanged.went (kept-back x e c.exchange.ensures.after m c.in_ok-reply.reply (row-no-ask m.body (rw c.message_to-message.ensures (row-body may.row c.args.node c.args.body may.of_row))) c.in_ok-reply.ensures.keeps) c.exchange.ensures.spare c.exchange.ensures.carried

pub returns-clause-on : goal.returns-clause-on
returns-clause-on g c =
    let x = c.args.lane.now in
    let e = c.exchange.new.self in
    let o = c.args.owner.now in
    let m = c.message_to-message.result in
    went-passes c.upkeep_leaves_states.ensures.held c.upkeep_leaves_states.ensures.state c.upkeep_leaves_lines.ensures.idle x e o _ _ c.args.node c.args.body m c.requires.passing c.requires.may c.message_to-message.ensures c.exchange.ensures.after
    c.in_ok-reply.ensures.exchanged.went

pub returns-clause-known : goal.returns-clause-known
returns-clause-known g c note k =
    let x = c.args.lane.now in
    let e = c.exchange.new.self in
    let o = c.args.owner.now in
    let m = c.message_to-message.result in
    stays-went (λ J. KnowsNote J o.state note) (note-message o.state note) x e m _ _ c.in_ok-reply.ensures.exchanged.went k

pub returns-clause-came : goal.returns-clause-came
returns-clause-came g c =
    let o = c.args.owner.now in
    let t = c.requires.may in
    let e = c.exchange.new.self in
    let m = c.message_to-message.result in
    let back : IfSome c.in_ok-reply.reply (IsAnsweredBy (journal_of e) o.state.version c.args.node c.args.body) =
    subst (λ (y : Message). IfSome c.in_ok-reply.reply (IsAnsweredBy (journal_of e) y.version y.receiver y.body)) c.message_to-message.ensures (answered-by c.args.lane.now e m _ _ c.in_ok-reply.reply c.in_ok-reply.ensures.exchanged) in
    if_ok c.unless_short.result (λ y same. subst (λ (z : Option Reply). IfSome z (λ r. CameBack (journal_of e) o c.args.node c.args.body r)) (sym same)
    (came-all (journal_of e) o c.args.node c.args.body c.in_ok-reply.reply (row-body t.row c.args.node c.args.body t.of_row) back)) c.unless_short.ensures.same

pub returns-in_err-reply-clause-passing : goal.returns-in_err-reply-clause-passing
returns-in_err-reply-clause-passing g c =
    let x = c.args.lane.now in
    let e = c.exchange.new.self in
    let o = c.args.owner.now in
    let m = c.message_to-message.result in
    still-passing c.upkeep_leaves_states.ensures.held c.upkeep_leaves_states.ensures.state c.upkeep_leaves_lines.ensures.idle x e o _ _ c.args.node c.args.body m c.requires.passing c.requires.may c.message_to-message.ensures c.exchange.ensures.after
    c.in_err-reply.ensures.stays.journal c.in_err-reply.ensures.kept c.exchange.ensures.spare c.exchange.ensures.carried

pub returns-in_err-reply-clause-on : goal.returns-in_err-reply-clause-on
returns-in_err-reply-clause-on g c =
    let x = c.args.lane.now in
    let e = c.exchange.new.self in
    let o = c.args.owner.now in
    let m = c.message_to-message.result in
    still-passes c.upkeep_leaves_states.ensures.held c.upkeep_leaves_states.ensures.state c.upkeep_leaves_lines.ensures.idle x e o _ [] c.args.node c.args.body m c.requires.passing c.requires.may c.message_to-message.ensures c.exchange.ensures.after
    c.in_err-reply.ensures.stays.journal

pub returns-in_err-reply-clause-known : goal.returns-in_err-reply-clause-known
returns-in_err-reply-clause-known g c note k = subst (λ J. KnowsNote J c.args.owner.now.state note) (sym c.in_err-reply.ensures.stays.journal) k

pub returns-clause-went : goal.returns-clause-went
returns-clause-went g c = if_ok c.unless_short.result (λ y same. went-as c.message_to-message.ensures c.in_ok-reply.ensures.exchanged.went) c.unless_short.ensures.same

pub returns-clause-gives : goal.returns-clause-gives
returns-clause-gives g c = let w = c.in_ok-reply.ensures.exchanged.went in (w.fate ∷ [], w.fates)

pub returns-in_err-reply-clause-gives : goal.returns-in_err-reply-clause-gives
returns-in_err-reply-clause-gives g c = gives_same _ _ c.in_err-reply.ensures.given

pub returns-clause-silent : goal.returns-clause-silent
returns-clause-silent g c =
    let x = c.args.lane.now in
    let e = c.exchange.new.self in
    if_ok c.unless_short.result (λ y same. subst (λ (z : Option Reply). IfNone z (returned (x.last + 1) (history (journal_of e)) ≡ false)) (sym same)
    (silent-by x e c.message_to-message.result _ _ c.in_ok-reply.reply c.in_ok-reply.ensures.exchanged)) c.unless_short.ensures.same

pub returns-clause-quiet : goal.returns-clause-quiet
returns-clause-quiet g c =
    let x = c.args.lane.now in
    let e = c.exchange.new.self in
    let o = c.args.owner.now in
    let now = g.C.Carrier.given c.exchange.new.carrier in
    let t = c.requires.may in
    let m = c.message_to-message.result in
    let back : IfSome c.in_ok-reply.reply (IsAnsweredBy (journal_of e) o.state.version c.args.node c.args.body) =
    subst (λ (y : Message). IfSome c.in_ok-reply.reply (IsAnsweredBy (journal_of e) y.version y.receiver y.body)) c.message_to-message.ensures (answered-by c.args.lane.now e m _ _ c.in_ok-reply.reply c.in_ok-reply.ensures.exchanged) in
    let came = came-all (journal_of e) o c.args.node c.args.body c.in_ok-reply.reply (row-body t.row c.args.node c.args.body t.of_row) back in
    both-ok (λ y. y ≡ c.in_ok-reply.reply) (λ y. y ≡ Some replies.NoMemory → ⊥) (λ y. InQuiet now x e o (λ d s. IsToldQuietly d x e c.args.node c.args.body y)) c.unless_short.result
    (λ y same fine d s settings current goes.
    quiet-told c.late_messages_wait.ensures.taken c.undisturbed_tellings_are_told.ensures.back c.undisturbed_tellings_are_told.ensures.told x e o (g.C.Carrier.given c.args.carrier.now) now c.args.node c.args.body c.requires.passing c.requires.may
    (went-as c.message_to-message.ensures c.in_ok-reply.ensures.exchanged.went) c.exchange.ensures.took (kept-back x e c.exchange.ensures.after m c.in_ok-reply.reply (row-no-ask m.body (rw c.message_to-message.ensures (row-body t.row c.args.node c.args.body t.of_row))) c.in_ok-reply.ensures.keeps) d current goes y
    (subst (λ (z : Option Reply). IfSome z (IsFirstReply (journal_of e) (x.last + 1))) (sym same) (first-by x e m _ _ c.in_ok-reply.reply c.in_ok-reply.ensures.exchanged))
    (subst (λ (z : Option Reply). IfNone z (returned (x.last + 1) (history (journal_of e)) ≡ false)) (sym same) (silent-by x e m _ _ c.in_ok-reply.reply c.in_ok-reply.ensures.exchanged)) fine
    (subst (λ (z : Option Reply). IfSome z (λ r. CameBack (journal_of e) o c.args.node c.args.body r)) (sym same) came))
    c.unless_short.ensures.same c.unless_short.ensures.fine
