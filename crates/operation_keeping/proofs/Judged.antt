-- What the machine gives next, case by case: which message, and which end.
use Rattle.std.proofs.Common.{◌≡◌, ℕ, Bool, true, false, cond, not, ◌||◌, List, Option, Some, None, is_some, refl, sym, ap, ◌∙◌, Result, Ok, Err}
use mathlib.Core.Bool.{true≢false}
use Rattle.stamps.specs.declared.stamp.Stamp.{Stamp}
use Rattle.documents.specs.Fields.{Contents}
use Rattle.doc_updates.specs.declared.fault.UpdateFault.{UpdateFault}
use Rattle.conditions.specs.Formulas.{Formula}
use Rattle.doc_selection.specs.declared.terms.Term.{Term}
use Rattle.documents.specs.declared.entry.Entry.{Entry}
use Rattle.messages.specs.Meaning.{decide_by, decide, effect}
use Rattle.messages.specs.Noting.{message_of}
use Rattle.messages.specs.declared.body.Body.TheVariants as body
use Rattle.messages.specs.declared.message.Message.{Message}
use Rattle.messages.specs.declared.operation.Decided.{Decided}
use Rattle.messages.specs.declared.operation.Decided.TheVariants.{GoesAhead, ConditionFails, DoesNothing}
use Rattle.messages.specs.declared.operation.Operation.{Operation}
use Rattle.messages.specs.declared.operation.OpKind.{OpKind}
use Rattle.messages.specs.declared.operation.OpKind.TheVariants.{Put, Update, Remove, Get}
use Rattle.messages.specs.declared.outcome.Outcome.{Outcome}
use Rattle.op_machine.specs.declared.plan.Plan.{Plan}
use Rattle.op_machine.specs.declared.machine.Standing.{Standing}
use Rattle.op_machine.specs.declared.verdict.Verdict.{Verdict}
use Rattle.op_machine.specs.declared.verdict.Verdict.TheVariants.{Ends, Writes}
use Rattle.op_machine.specs.Nodes.{first_node}
use Rattle.op_machine.specs.Judging.{looks, looks_by, document_in, judged, judged_by, written_by}
use Rattle.op_machine.specs.Outcomes.{Answers, answers_of, waits, has_enough, stored, too_few, read_verdict, verdict, reader, read_body, Next, Asks, Finishes, store_next, verdict_next, read_next}
use Rattle.op_machine.specs.Plans.{is_get}
use Rattle.op_machine.specs.Standings.{next_at, due_by, due_entry, entry_in}

-- ---- the next message

-- a Read of the document, or the Store of the entry that is due
pub data NextMessage (t : Standing) (m : Message) : Type 0 where
  ARead : (n : ℕ) → reader t.plan (answers_of t.reads) ≡ Some n → m ≡ message_of t.plan.origin n (read_body t.plan.operation.id) → NextMessage t m
  AStore : (n : ℕ) (e : Entry) → reader t.plan (answers_of t.reads) ≡ None → verdict t.plan (answers_of t.reads) ≡ Writes e → first_node (waits t.plan (answers_of t.stores)) ≡ Some n
      → m ≡ message_of t.plan.origin n (body.Store e) → NextMessage t m

asks-same : (x m : Message) → ◌≡◌ {A = Next} (Asks x) (Asks m) → m ≡ x
asks-same x m e = cc

pub next-message : (t : Standing) (m : Message) → next_at t ≡ Asks m → NextMessage t m
next-message t m h = by_reader (reader t.plan (answers_of t.reads)) refl h
  where
    by_storer : (o : Option ℕ) (e : Entry) → reader t.plan (answers_of t.reads) ≡ None → verdict t.plan (answers_of t.reads) ≡ Writes e → first_node (waits t.plan (answers_of t.stores)) ≡ o
        → store_next o t.plan (answers_of t.stores) e ≡ Asks m → NextMessage t m
    by_storer (Some n) e over v first h = AStore n e over v first (asks-same _ m h)
    by_storer None e over v first h = absurd (cc)

    by_verdict : (v : Verdict) → reader t.plan (answers_of t.reads) ≡ None → verdict t.plan (answers_of t.reads) ≡ v → verdict_next v t.plan (answers_of t.stores) ≡ Asks m → NextMessage t m
    by_verdict (Ends x) over v h = absurd (cc)
    by_verdict (Writes e) over v h = by_storer (first_node (waits t.plan (answers_of t.stores))) e over v refl h

    by_reader : (o : Option ℕ) → reader t.plan (answers_of t.reads) ≡ o → read_next o t.plan (answers_of t.reads) (answers_of t.stores) ≡ Asks m → NextMessage t m
    by_reader (Some n) r h = ARead n r (asks-same _ m h)
    by_reader None r h = by_verdict (verdict t.plan (answers_of t.reads)) r refl h

-- ---- the end

-- the Reads end the operation, or all Stores were told
pub data NextEnd (t : Standing) (x : Outcome) : Type 0 where
  ByReads : reader t.plan (answers_of t.reads) ≡ None → verdict t.plan (answers_of t.reads) ≡ Ends x → NextEnd t x
  ByStores : (e : Entry) → reader t.plan (answers_of t.reads) ≡ None → verdict t.plan (answers_of t.reads) ≡ Writes e → first_node (waits t.plan (answers_of t.stores)) ≡ None
      → x ≡ stored t.plan (answers_of t.stores) e.stamp → NextEnd t x

finishes-same : (y x : Outcome) → ◌≡◌ {A = Next} (Finishes y) (Finishes x) → x ≡ y
finishes-same y x e = cc

pub next-end : (t : Standing) (x : Outcome) → next_at t ≡ Finishes x → NextEnd t x
next-end t x h = by_reader (reader t.plan (answers_of t.reads)) refl h
  where
    by_storer : (o : Option ℕ) (e : Entry) → reader t.plan (answers_of t.reads) ≡ None → verdict t.plan (answers_of t.reads) ≡ Writes e → first_node (waits t.plan (answers_of t.stores)) ≡ o
        → store_next o t.plan (answers_of t.stores) e ≡ Finishes x → NextEnd t x
    by_storer (Some n) e over v first h = absurd (cc)
    by_storer None e over v first h = ByStores e over v first (finishes-same _ x h)

    by_verdict : (v : Verdict) → reader t.plan (answers_of t.reads) ≡ None → verdict t.plan (answers_of t.reads) ≡ v → verdict_next v t.plan (answers_of t.stores) ≡ Finishes x → NextEnd t x
    by_verdict (Ends y) over v h = ByReads over (v ∙ ap Ends (sym (finishes-same y x h)))
    by_verdict (Writes e) over v h = by_storer (first_node (waits t.plan (answers_of t.stores))) e over v refl h

    by_reader : (o : Option ℕ) → reader t.plan (answers_of t.reads) ≡ o → read_next o t.plan (answers_of t.reads) (answers_of t.stores) ≡ Finishes x → NextEnd t x
    by_reader (Some n) r h = absurd (cc)
    by_reader None r h = by_verdict (verdict t.plan (answers_of t.reads)) r refl h

-- ---- what is due

pub due-written : (p : Plan) (reads : Answers) (e : Entry) → due_entry p reads ≡ Some e → (reader p reads ≡ None) × (verdict p reads ≡ Writes e)
due-written p reads e h = by_reader (reader p reads) refl h
  where
    by_verdict : (v : Verdict) → entry_in v ≡ Some e → v ≡ Writes e
    by_verdict (Ends x) h = absurd (cc)
    by_verdict (Writes y) h = let same : y ≡ e = cc in ap Writes same

    by_reader : (o : Option ℕ) → reader p reads ≡ o → due_by o p reads ≡ Some e → (reader p reads ≡ None) × (verdict p reads ≡ Writes e)
    by_reader (Some n) r h = absurd (cc)
    by_reader None r h = (r, by_verdict (verdict p reads) h)

pub due-by : (p : Plan) (reads : Answers) (v : Verdict) → reader p reads ≡ None → verdict p reads ≡ v → due_entry p reads ≡ entry_in v
due-by p reads v over is = ap (λ o. due_by o p reads) over ∙ ap entry_in is

pub store-due : (t : Standing) (m : Message) (e : Entry) → next_at t ≡ Asks m → m.body ≡ body.Store e → due_entry t.plan (answers_of t.reads) ≡ Some e
store-due t m e h is = by_next (next-message t m h)
  where
    same : (x : Entry) → body.Store x ≡ body.Store e → x ≡ e
    same x q = cc

    read-no-store : (id : List ℕ) → read_body id ≡ body.Store e → ⊥
    read-no-store id q = cc

    by_next : NextMessage t m → due_entry t.plan (answers_of t.reads) ≡ Some e
    by_next (ARead n r w) = absurd (read-no-store t.plan.operation.id (sym (ap (λ (y : Message). y.body) w) ∙ is))
    by_next (AStore n x over v first w) = due-by t.plan (answers_of t.reads) (Writes x) over v ∙ ap (λ (y : Entry). Some y) (same x (sym (ap (λ (y : Message). y.body) w) ∙ is))

-- ---- what is judged

written-of : (id : List ℕ) (s : Stamp) (r : Result (Option Contents) UpdateFault) (e : Entry) → written_by id s r ≡ Writes e → (e.stamp ≡ s) × (e.id ≡ id)
written-of id s (Ok b) e h = let same : record { stamp = s; id = id; body = b } ≡ e = cc in (ap (λ (x : Entry). x.stamp) (sym same), ap (λ (x : Entry). x.id) (sym same))
written-of id s (Err fault) e h = absurd (cc)

-- an entry that is written has the operation's stamp and document
judged-writes : (w : Decided) (o : Operation) (stamp : Option Stamp) (seen : Option Entry) (e : Entry) → judged_by w o stamp seen ≡ Writes e → (stamp ≡ Some e.stamp) × (e.id ≡ o.id)
judged-writes GoesAhead o (Some s) seen e h = let x = written-of o.id s (effect o.id o.kind (document_in seen)) e h in (ap (λ (y : Stamp). Some y) (sym x.0), x.1)
judged-writes GoesAhead o None seen e h = absurd (cc)
judged-writes ConditionFails o stamp seen e h = absurd (cc)
judged-writes DoesNothing o stamp seen e h = absurd (cc)

plain-goes : (id : List ℕ) (kind : OpKind) (condition : Option (Formula Term)) (create : Bool) (stamp : Option Stamp) (seen : Option Entry) (x : Outcome) → is_some stamp ≡ not (is_get kind)
    → judged_by (decide_by condition kind create (document_in seen)) (record { id = id; kind = kind; condition = condition; create = create }) stamp seen ≡ Ends x → (is_some condition || looks_by kind) ≡ true
plain-goes id kind (Some f) create stamp seen x stamped h = refl
plain-goes id (Put d) None create (Some s) seen x stamped h = absurd (cc)
plain-goes id (Put d) None create None seen x stamped h = absurd (true≢false (sym stamped))
plain-goes id (Update u) None create stamp seen x stamped h = refl
plain-goes id Remove None create (Some s) seen x stamped h = absurd (cc)
plain-goes id Remove None create None seen x stamped h = absurd (true≢false (sym stamped))
plain-goes id Get None create stamp seen x stamped h = refl

-- only an operation that looks ends without having written
pub ends-looks : (o : Operation) (stamp : Option Stamp) (seen : Option Entry) (x : Outcome) → is_some stamp ≡ not (is_get o.kind) → judged o stamp seen ≡ Ends x → looks o ≡ true
ends-looks o stamp seen x stamped h = plain-goes o.id o.kind o.condition o.create stamp seen x stamped h

pub verdict-writes : (p : Plan) (a : Answers) (e : Entry) → verdict p a ≡ Writes e → (p.stamp ≡ Some e.stamp) × (e.id ≡ p.operation.id)
verdict-writes p a e v = by_looks (looks p.operation) v
  where
    by_enough : (z : Bool) → cond z (judged p.operation p.stamp a.seen) (Ends (too_few p a)) ≡ Writes e → (p.stamp ≡ Some e.stamp) × (e.id ≡ p.operation.id)
    by_enough true h = judged-writes (decide p.operation (document_in a.seen)) p.operation p.stamp a.seen e h
    by_enough false h = absurd (cc)

    by_looks : (z : Bool) → cond z (read_verdict p a) (judged p.operation p.stamp None) ≡ Writes e → (p.stamp ≡ Some e.stamp) × (e.id ≡ p.operation.id)
    by_looks true h = by_enough (has_enough p a) h
    by_looks false h = judged-writes (decide p.operation None) p.operation p.stamp None e h
