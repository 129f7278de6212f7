-- The messages of an operation name its document, whose key is known.
use Rattle.std.proofs.Common.{◌≡◌, ℕ, Option, Some, None, refl, sym, ap, subst}
use Rattle.global_ids.specs.Keys.{key_of}
use Rattle.documents.specs.declared.entry.Entry.{Entry}
use Rattle.messages.specs.Noting.{message_of}
use Rattle.messages.specs.declared.body.Body.TheVariants.{Store}
use Rattle.messages.specs.declared.message.Message.{Message}
use Rattle.node_model.specs.Takes.{IsKeyOf}
use Rattle.op_machine.specs.declared.machine.Standing.{Standing}
use Rattle.op_machine.specs.declared.plan.Plan.{Plan}
use Rattle.op_machine.specs.declared.verdict.Verdict.{Verdict}
use Rattle.op_machine.specs.declared.verdict.Verdict.TheVariants.{Ends, Writes}
use Rattle.op_machine.specs.Nodes.{first_node}
use Rattle.op_machine.specs.Outcomes.{Answers, answers_of, waits, verdict, read_body, reader, Asks, store_next, verdict_next, read_next}
use Rattle.op_machine.specs.Standings.{next_at}
use Rattle.operation_keeping.proofs.Judged.{verdict-writes}

asked-same : (m l : Message) → Asks l ≡ Asks m → l ≡ m
asked-same m l e = cc

module _ (p : Plan) (reads stores : Answers) (m : Message) where
  abbrev Names : Type 0
  Names = IsKeyOf m.body (key_of p.operation.id)

  by_store : (o : Option ℕ) (e : Entry) → e.id ≡ p.operation.id → store_next o p stores e ≡ Asks m → Names
  by_store None e id is = absurd (cc)
  by_store (Some n) e id is = subst (λ (x : Message). IsKeyOf x.body (key_of p.operation.id)) (asked-same m (message_of p.origin n (Store e)) is) (sym (ap key_of id))

  by_verdict : (v : Verdict) → verdict p reads ≡ v → verdict_next v p stores ≡ Asks m → Names
  by_verdict (Ends x) v is = absurd (cc)
  by_verdict (Writes e) v is = by_store (first_node (waits p stores)) e (verdict-writes p reads e v).1 is

  by_reader : (o : Option ℕ) → read_next o p reads stores ≡ Asks m → Names
  by_reader None is = by_verdict (verdict p reads) refl is
  by_reader (Some n) is = subst (λ (x : Message). IsKeyOf x.body (key_of p.operation.id)) (asked-same m (message_of p.origin n (read_body p.operation.id)) is) refl

-- whatever comes next
pub message-key : (t : Standing) (m : Message) (key : ℕ) → next_at t ≡ Asks m → key ≡ key_of t.plan.operation.id → IsKeyOf m.body key
message-key t m key is e = subst (λ (k : ℕ). IsKeyOf m.body k) (sym e) (by_reader t.plan (answers_of t.reads) (answers_of t.stores) m (reader t.plan (answers_of t.reads)) is)
