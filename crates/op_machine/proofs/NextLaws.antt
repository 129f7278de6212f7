-- What comes next, case by case.
use Rattle.std.proofs.Common.{◌≡◌, ℕ, ◌<◌, Bool, true, false, cond, refl, sym, ap, subst, ◌∙◌, Option, None, Some}
use Rattle.documents.specs.declared.entry.Entry.{Entry}
use Rattle.messages.specs.Noting.{message_of}
use Rattle.messages.specs.declared.message.Message.{Message}
use Rattle.op_machine.specs.declared.plan.Plan.{Plan}
use Rattle.op_machine.specs.declared.verdict.Verdict.{Verdict}
use Rattle.op_machine.specs.declared.verdict.Verdict.TheVariants.{Ends, Writes}
use Rattle.op_machine.specs.Nodes.{first_node}
use Rattle.op_machine.specs.Judging.{looks}
use Rattle.op_machine.specs.Outcomes.{Answers, Next, Asks, Finishes, waits, verdict, reader, read_body, store_next, stored_outcome, verdict_outcome, verdict_next, read_next, next_of, message_in, outcome_in, store_to, store_message}
use Rattle.op_machine.specs.declared.machine.Standing.{Standing}
use Rattle.op_machine.specs.Standings.{next_at, MayAnswer, IsTo, entry_in}
use Rattle.op_machine.proofs.NodeLaws.{first_node-least}

-- ---- the receiver is a node

reader_small : (p : Plan) (reads : Answers) (n : ℕ) → reader p reads ≡ Some n → n < 32
reader_small p reads n e = by (looks p.operation) e
  where
    by : (t : Bool) → cond t (first_node (waits p reads)) None ≡ Some n → n < 32
    by true e = (first_node-least (waits p reads) n e).within
    by false e = absurd (cc)

pub asked_small : (p : Plan) (reads stores : Answers) (node : ℕ) → IsTo node (next_of p reads stores) → node < 32
asked_small p reads stores node h = by_reader (reader p reads) refl h
  where
    by_storer : (o : Option ℕ) (e : Entry) → first_node (waits p stores) ≡ o → IsTo node (store_next o p stores e) → node < 32
    by_storer (Some n) e found h = subst (λ k. k < 32) h (first_node-least (waits p stores) n found).within
    by_storer None e found h = absurd h

    by_verdict : (v : Verdict) → IsTo node (verdict_next v p stores) → node < 32
    by_verdict (Ends x) h = absurd h
    by_verdict (Writes e) h = by_storer (first_node (waits p stores)) e refl h

    by_reader : (o : Option ℕ) → reader p reads ≡ o → IsTo node (read_next o p reads stores) → node < 32
    by_reader (Some n) e h = subst (λ k. k < 32) h (reader_small p reads n e)
    by_reader None e h = by_verdict (verdict p reads) h

-- ---- what comes next

pub next_read : (p : Plan) (reads stores : Answers) (n : ℕ) → reader p reads ≡ Some n → message_in (next_of p reads stores) ≡ Some (message_of p.origin n (read_body p.operation.id))
next_read p reads stores n e = ap (λ o. message_in (read_next o p reads stores)) e

pub next_store : (p : Plan) (reads stores : Answers) → reader p reads ≡ None → message_in (next_of p reads stores) ≡ store_message p stores (entry_in (verdict p reads))
next_store p reads stores e = ap (λ o. message_in (read_next o p reads stores)) e ∙ by_verdict (verdict p reads)
  where
    by_storer : (o : Option ℕ) (x : Entry) → message_in (store_next o p stores x) ≡ store_to o p x
    by_storer (Some n) x = refl
    by_storer None x = refl

    by_verdict : (v : Verdict) → message_in (verdict_next v p stores) ≡ store_message p stores (entry_in v)
    by_verdict (Ends x) = refl
    by_verdict (Writes x) = by_storer (first_node (waits p stores)) x

-- ---- the outcome

pub reads_on : (p : Plan) (reads stores : Answers) (n : ℕ) → reader p reads ≡ Some n → outcome_in (next_of p reads stores) ≡ None
reads_on p reads stores n e = ap (λ o. outcome_in (read_next o p reads stores)) e

pub next_outcome : (p : Plan) (reads stores : Answers) → reader p reads ≡ None → outcome_in (next_of p reads stores) ≡ verdict_outcome (verdict p reads) p stores
next_outcome p reads stores e = ap (λ o. outcome_in (read_next o p reads stores)) e ∙ by_verdict (verdict p reads)
  where
    by_storer : (o : Option ℕ) (x : Entry) → outcome_in (store_next o p stores x) ≡ stored_outcome o p stores x.stamp
    by_storer (Some n) x = refl
    by_storer None x = refl

    by_verdict : (v : Verdict) → outcome_in (verdict_next v p stores) ≡ verdict_outcome v p stores
    by_verdict (Ends x) = refl
    by_verdict (Writes x) = by_storer (first_node (waits p stores)) x

-- ---- who may answer

asked_by : (next : Next) (m : Message) → message_in next ≡ Some m → IsTo m.receiver next
asked_by (Asks x) m e = let same : x ≡ m = cc in ap (λ y. y.receiver) same
asked_by (Finishes x) m e = absurd (cc)

pub may_answer : (s : Standing) (o : Option Message) → o ≡ message_in (next_at s) → MayAnswer s o
may_answer s None e = tt
may_answer s (Some m) e = asked_by (next_at s) m (sym e)
