use Rattle.upkeep_spans.proofs.Seeing.{seen-sent, seen-returned, seen-delivered, delivered-at, silent, seen-silent}
use Rattle.upkeep_spans.proofs.Placing.{placed}
use Rattle.upkeep_spans.proofs.Absences.{absent}
use Rattle.upkeep_spans.proofs.scan.seen_next.Goals as goal

pub returns-in-Sent : goal.returns-in-Sent
returns-in-Sent c = λ given from sent J le knows placed s. seen-sent given from sent J c.args.event.now _ _ _ _ _ c.args.seen c.or.result c.in-Sent.is le placed c.or.ensures s

pub returns-in-Returned : goal.returns-in-Returned
returns-in-Returned c = λ given from sent J le knows placed s. seen-returned given from sent J c.args.event.now _ c.args.seen c.in-Returned.is le s

pub returns-in_default : goal.returns-in_default
returns-in_default c = λ given from sent J le knows placed s. seen-silent given from sent J c.args.event.now c.args.seen (silent c.args.event.now c.in_default.not-Sent c.in_default.not-Delivered c.in_default.not-Returned) le s

pub returns-in-Delivered : goal.returns-in-Delivered
returns-in-Delivered c = λ given from sent J le knows placed s. seen-delivered given from sent J c.args.event.now _ _ c.args.seen c.late_next.result c.in-Delivered.is le
    (c.late_next.ensures given sent s.behind knows (delivered-at given J c.args.event.now _ _ c.args.seen.last c.in-Delivered.is s.last placed)) s
