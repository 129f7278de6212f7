use Rattle.std.proofs.Common.{inr, ap, sym}
use Rattle.lane_journals.specs.KeptJournals.{past}
use Rattle.upkeep_spans.specs.Watches.{Watched, known_from}
use Rattle.upkeep_spans.proofs.Telling.{told}
use Rattle.upkeep_spans.proofs.watching.Watching.tell.Goals as goal

pub returns : goal.returns
returns g c = inr (told c.args.self.now.given _ c.args.from c.args.sent (known_from c.self.inside.unknown) c.self.inside.at_once.items (past c.args.journal.now) c.seen_behind.result c.cause.result
    (sym (ap (λ (w : Watched). w.given) c.self.view_is)) c.requires.carried c.self.invariant (c.is_unknown.ensures c.if-is_unknown.false) (rw c.deref.ensures.value at c.seen_behind.ensures c.requires.before) c.cause.ensures)
