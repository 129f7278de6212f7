-- How a journal grows by an operation that is prepared.
use Rattle.std.proofs.Common.{◌≡◌, ◌<◌, arith, ℕ, Bool, true, false, List, ◌∷◌, Option, Some, None, is_some, inl, inr, refl, sym, ap, ◌∙◌, subst}
use Rattle.bucket_ids.specs.Buckets.{Low}
use Rattle.documents.specs.declared.entry.Entry.{Entry}
use Rattle.messages.specs.declared.body.Body.{Body}
use Rattle.messages.specs.declared.body.Body.TheVariants as body
use Rattle.messages.specs.declared.message.Message.{Message}
use Rattle.messages.specs.declared.noted.NotedReply.{NotedReply}
use Rattle.messages.specs.declared.operation.Operation.{Operation}
use Rattle.messages.specs.declared.reply.Reply.{Reply}
use Rattle.node_model.specs.Nodes.{Node}
use Rattle.distributor_part.specs.declared.rules.Rules.{Rules}
use Rattle.op_machine.specs.declared.plan.Plan.{Plan}
use Rattle.op_machine.specs.declared.machine.Standing.{Standing}
use Rattle.op_machine.specs.Outcomes.{answers_of, Next, Asks, Finishes, message_in}
use Rattle.op_machine.specs.Standings.{next_at, due_entry, IsTo}
use Rattle.lane_journals.specs.Readers.{Journal, sent}
use Rattle.lane_journals.specs.Meanings.{history, meaning}
use Rattle.lane_journals.proofs.Basics.{sent-stays}
use Rattle.proof_basics.proofs.Options.{some-none}
use Rattle.lane_journals.specs.KeptJournals.{IsLegal}
use Rattle.lane_journals.specs.declared.event.LaneEvent.{LaneEvent}
use Rattle.lane_journals.specs.declared.event.LaneEvent.TheVariants as event
use Rattle.lane_keeping.specs.Replaying.{sending}
use Rattle.lane_keeping.specs.LaneKeeping.{setting_of, AreNumbered}
use Rattle.lane_keeping.specs.Laws.{IsNoAsk}
use Rattle.operation_keeping.specs.OperationKeeping.{HasWritten, KnowsEntry}
use Rattle.operation_keeping.specs.Laws.{MayWriteNext}
use Rattle.operation_keeping.proofs.Judged.{NextMessage, ARead, AStore, next-message, store-due}
use Rattle.operation_keeping.specs.Wants.{Adds, BodyGives, NextGives, IsWantedSince, IsRunSince, Still, Longer}
use Rattle.lane_states.specs.declared.lane_state.LaneState.{LaneState}
use Rattle.lane_states.specs.LaneStates.{journal_of}
use Rattle.lane_states.specs.Exchanging.{Brought}
use Rattle.lane_states.proofs.Exchanging.{over-brought}
use Rattle.lane_lines.proofs.Standing.{standing-wrote}
use Rattle.lane_lines.specs.Readying.{HasSent}
use Rattle.lane_lines.specs.Steps.{sender_of, IsGoing, IsStanding, StandsIn, RunsIn, GoesIn, WritesOn, SendsIn, IsReady, IsUneventful}

-- ---- the next message

pub next-no-ask : (t : Standing) (m : Message) → next_at t ≡ Asks m → IsNoAsk m.body
next-no-ask t m h = by_next (next-message t m h)
  where
    by_next : NextMessage t m → IsNoAsk m.body
    by_next (ARead n r is) = subst (λ (z : Body). IsNoAsk z) (sym (ap (λ (x : Message). x.body) is)) tt
    by_next (AStore n e over v first is) = subst (λ (z : Body). IsNoAsk z) (sym (ap (λ (x : Message). x.body) is)) tt

pub next-asked : (t : Standing) (m : Message) → next_at t ≡ Asks m → IsTo m.receiver (next_at t)
next-asked t m h = subst (λ (n : Next). IsTo m.receiver n) (sym h) refl

-- the entry of a Store that comes next is the one that was written
pub has-written : (lane : Low) (rules : Rules) (J : List LaneEvent) (line : ℕ) (row : Low) (written : Bool) (t : Standing) (m : Message) (x : IsStanding lane rules J line row written t) → next_at t ≡ Asks m → IsReady written m.body → HasWritten x.entry m.body
has-written lane rules J line row written t m x next ready = by_body m.body refl ready
  where
    by_entry : (o : Option Entry) (e : Entry) → KnowsEntry J line t o → is_some o ≡ true → due_entry t.plan (answers_of t.reads) ≡ Some e → o ≡ Some e
    by_entry None e k h due = let none : false ≡ true = h in absurd (cc)
    by_entry (Some y) e k h due = sym k.1 ∙ due

    by_body : (z : Body) → m.body ≡ z → IsReady written z → HasWritten x.entry z
    by_body (body.Store e) is ready = by_entry x.entry e ((x.stands).knows).entry (sym x.written_is ∙ ready) (store-due t m e next is)
    by_body body.Ask is ready = tt
    by_body (body.Read b o) is ready = tt
    by_body (body.Apply b es) is ready = tt
    by_body (body.Delete b k) is ready = tt
    by_body (body.Split b) is ready = tt
    by_body (body.Join b) is ready = tt
    by_body (body.Ready b) is ready = tt
    by_body (body.Activate b) is ready = tt

pub unwritten : (lane : Low) (rules : Rules) (J : List LaneEvent) (line : ℕ) (row : Low) (written : Bool) (t : Standing) (x : IsStanding lane rules J line row written t) → written ≡ false → x.entry ≡ None
unwritten lane rules J line row written t x is = by_entry x.entry (sym is ∙ x.written_is)
  where
    by_entry : (o : Option Entry) → false ≡ is_some o → o ≡ None
    by_entry None h = refl
    by_entry (Some e) h = let none : false ≡ true = h in absurd (cc)

pub asks-of : (n : Next) (m : Message) → Some m ≡ message_in n → n ≡ Asks m
asks-of (Asks x) m h = let same : m ≡ x = cc in ap Asks (sym same)
asks-of (Finishes x) m h = let none : Some m ≡ None = h in absurd (cc)

-- ---- what is wanted

module _ (lane : Low) (rules : Rules) (J : List LaneEvent) (line : ℕ) (row : Low) (written : Bool) (t : Standing) (m : Message) (x : IsStanding lane rules J line row written t) (next : next_at t ≡ Asks m) where
  wants : (from : Journal) (e : LaneEvent) → BodyGives line x.entry m m.body e → IsWantedSince lane rules line t.plan.operation from e J
  wants from e gives = inr (record {
    distributor = sender_of t;
    state = x.state;
    stamp = t.plan.stamp;
    acting = x.acting;
    under_way = (((x.stands).knows).plan).is_under_way;
    wants = inr (record {
      row = row;
      written = x.entry;
      standing = t;
      stands = x.stands;
      gives = subst (λ (n : Next). NextGives line x.entry n (Adds e)) (sym next) gives;
    });
  })

  pub wants-sent : (from : Journal) (number : ℕ) → HasWritten x.entry m.body → IsWantedSince lane rules line t.plan.operation from (sending number m) J
  wants-sent from number has = wants from (sending number m) (gives x.entry m.body has)
    where
      gives : (o : Option Entry) (z : Body) → HasWritten o z → BodyGives line o m z (sending number m)
      gives None (body.Store e) h = let none : None ≡ Some e = h in absurd (cc)
      gives None body.Ask h = (number, refl)
      gives None (body.Read b only) h = (number, refl)
      gives None (body.Apply b es) h = (number, refl)
      gives None (body.Delete b k) h = (number, refl)
      gives None (body.Split b) h = (number, refl)
      gives None (body.Join b) h = (number, refl)
      gives None (body.Ready b) h = (number, refl)
      gives None (body.Activate b) h = (number, refl)
      gives (Some e) z h = (number, refl)

  pub wants-wrote : (from : Journal) (e : Entry) → x.entry ≡ None → m.body ≡ body.Store e → IsWantedSince lane rules line t.plan.operation from (event.Wrote line e) J
  wants-wrote from e none is = wants from (event.Wrote line e) (subst (λ (o : Option Entry). BodyGives line o m m.body (event.Wrote line e)) (sym none)
      (subst (λ (z : Body). BodyGives line None m z (event.Wrote line e)) (sym is) refl))

-- ---- it stays under way

module _ (lane : Low) (line : ℕ) (p : Plan) where
  going-delivered : (J : List LaneEvent) (n : ℕ) (r : NotedReply) → IsGoing lane J line p → IsGoing lane (event.Delivered n r ∷ J) line p
  going-delivered J n r g = record { state = g.state; acting = record { holds = (g.acting).holds; published = (g.acting).published; owner = (g.acting).owner }; under_way = g.under_way }

  going-returned : (J : List LaneEvent) (n : ℕ) → IsGoing lane J line p → IsGoing lane (event.Returned n ∷ J) line p
  going-returned J n g = record { state = g.state; acting = record { holds = (g.acting).holds; published = (g.acting).published; owner = (g.acting).owner }; under_way = g.under_way }

  pub going-sent : (J : List LaneEvent) (n : ℕ) (m : Message) → IsGoing lane J line p → IsGoing lane (sending n m ∷ J) line p
  going-sent J n m g = record { state = g.state; acting = record { holds = (g.acting).holds; published = (g.acting).published; owner = (g.acting).owner }; under_way = g.under_way }

  pub going-wrote : (J : List LaneEvent) (e : Entry) → IsGoing lane J line p → IsGoing lane (event.Wrote line e ∷ J) line p
  going-wrote J e g = record { state = g.state; acting = record { holds = (g.acting).holds; published = (g.acting).published; owner = (g.acting).owner }; under_way = g.under_way }

pub going-of : (lane : Low) (rules : Rules) (J : List LaneEvent) (line : ℕ) (row : Low) (written : Bool) (t : Standing) → IsStanding lane rules J line row written t → IsGoing lane J line t.plan
going-of lane rules J line row written t x = record { state = x.state; acting = x.acting; under_way = (((x.stands).knows).plan).is_under_way }

pub run-more : (lane : Low) (rules : Rules) (line : ℕ) (o : Operation) (from : Journal) (I J K : List LaneEvent) → IsRunSince lane rules line o from I J → IsRunSince lane rules line o from J K → IsRunSince lane rules line o from I K
run-more lane rules line o from I J K run Still = run
run-more lane rules line o from I J K run (Longer e L r w) = Longer e L (run-more lane rules line o from I J L run r) w

-- what was sent before a run is sent after it
pub sent-run : (lane : Low) (rules : Rules) (line : ℕ) (o : Operation) (from since : Journal) (J K : List LaneEvent) → IsRunSince lane rules line o from J K → HasSent since J → HasSent since K
sent-run lane rules line o from since J K Still h = h
sent-run lane rules line o from since J K (Longer e L r w) h = λ k m s. sent-stays k (history L) m (meaning L e) (sent-run lane rules line o from since J L r h k m s)

-- a number above the last is none of an earlier journal
pub unsent-since : (from : Journal) (J : List LaneEvent) (last number : ℕ) → HasSent from J → AreNumbered (λ k. sent k (history J)) last → last < number → sent number from ≡ None
unsent-since from J last number has numbered less = some-none (sent number from) (λ x h. let few = numbered number x (has number x h) in omega (arith, few, less))

-- ---- in a lane

pub stands-to : (c e : LaneState) (K : List LaneEvent) (line : ℕ) (row : Low) (written : Bool) (t : Standing) → e.lane ≡ c.lane → e.rules ≡ c.rules → journal_of e ≡ K → IsStanding c.lane c.rules K line row written t → StandsIn e line row written t
stands-to c e K line row written t lane rules is h =
    subst (λ (b : Low). IsStanding b e.rules (journal_of e) line row written t) (sym lane) (subst (λ (r : Rules). IsStanding c.lane r (journal_of e) line row written t) (sym rules)
    (subst (λ (J : List LaneEvent). IsStanding c.lane c.rules J line row written t) (sym is) h))

pub run-same : (c e : LaneState) (line : ℕ) (t : Standing) → journal_of e ≡ journal_of c → RunsIn c e line t
run-same c e line t is = λ from has. subst (λ (J : List LaneEvent). IsRunSince c.lane c.rules line t.plan.operation from (journal_of c) J) (sym is) Still

pub run-on : (c b e : LaneState) (line : ℕ) (t : Standing) → b.lane ≡ c.lane → b.rules ≡ c.rules → RunsIn c b line t → RunsIn b e line t → RunsIn c e line t
run-on c b e line t lane rules first next = λ from has.
    let then = next from (sent-run c.lane c.rules line t.plan.operation from from (journal_of c) (journal_of b) (first from has) has) in
    run-more c.lane c.rules line t.plan.operation from (journal_of c) (journal_of b) (journal_of e) (first from has)
    (subst (λ (l : Low). IsRunSince l c.rules line t.plan.operation from (journal_of b) (journal_of e)) lane (subst (λ (r : Rules). IsRunSince b.lane r line t.plan.operation from (journal_of b) (journal_of e)) rules then))

pub goes-to : (c e : LaneState) (line : ℕ) (p : Plan) → e.lane ≡ c.lane → journal_of e ≡ journal_of c → GoesIn c line p → GoesIn e line p
goes-to c e line p lane is g = subst (λ (l : Low). IsGoing l (journal_of e) line p) (sym lane) (subst (λ (J : List LaneEvent). IsGoing c.lane J line p) (sym is) g)

-- the entry is written
pub writes-on : (c e : LaneState) (line : ℕ) (row : Low) (written : Bool) (t : Standing) (m : Message) (x : Entry) → e.lane ≡ c.lane → e.rules ≡ c.rules → journal_of e ≡ event.Wrote line x ∷ journal_of c
    → written ≡ false → m.body ≡ body.Store x → next_at t ≡ Asks m → (st : StandsIn c line row written t) → MayWriteNext c.lane c.rules (journal_of c) (sender_of t) st.state line row t x → StandsIn e line row true t × RunsIn c e line t
writes-on c e line row written t m x lane rules is not_yet body next st may = (
  stands-to c e (event.Wrote line x ∷ journal_of c) line row true t lane rules is (standing-wrote c.lane c.rules (journal_of c) line row written t st x may),
  (λ from has. subst (λ (J : List LaneEvent). IsRunSince c.lane c.rules line t.plan.operation from (journal_of c) J) (sym is)
      (Longer (event.Wrote line x) (journal_of c) Still (wants-wrote c.lane c.rules (journal_of c) line row written t m st next from x (unwritten c.lane c.rules (journal_of c) line row written t st not_yet) body))),
)

-- the entry is written, and room is made
pub wrote-in : (c b a : LaneState) (line : ℕ) (written now : Bool) (m : Message) (t : Standing) → b.lane ≡ c.lane → b.rules ≡ c.rules → a.lane ≡ b.lane → a.rules ≡ b.rules → journal_of a ≡ journal_of b → WritesOn c b line written now m → next_at t ≡ Asks m
    → (row : Low) → StandsIn c line row written t → RunsIn c a line t × StandsIn a line row now t
wrote-in c b a line written now m t bl br al ar is writes next row st =
    let w = writes row t next st in
    (run-on c b a line t bl br w.1 (run-same b a line t is), stands-to b a (journal_of b) line row now t al ar is w.0)

-- and the message is sent
pub sent-in : (c a e : LaneState) (line : ℕ) (now : Bool) (m : Message) (t : Standing) (row : Low) → a.lane ≡ c.lane → a.rules ≡ c.rules → SendsIn a e m t → IsReady now m.body → RunsIn c a line t × StandsIn a line row now t → RunsIn c e line t × GoesIn e line t.plan
sent-in c a e line now m t row lane rules sends ready w = let s = sends line row now ready w.1 in (run-on c a e line t lane rules w.0 s.0, s.1)

-- ---- nothing else happens

pub quiet-on : (J K L : List LaneEvent) → IsUneventful J K → IsUneventful K L → IsUneventful J L
quiet-on J K L p q = record { newest = q.newest ∙ p.newest; counted = λ v. q.counted v ∙ p.counted v; rounds = λ v b. q.rounds v b ∙ p.rounds v b }

pub quiet-same : (J K : List LaneEvent) → K ≡ J → IsUneventful J K
quiet-same J K e = subst (λ (X : List LaneEvent). IsUneventful J X) (sym e) (record { newest = refl; counted = λ v. refl; rounds = λ v b. refl })

module _ (J : List LaneEvent) where
  quiet-delivered : (K : List LaneEvent) (n : ℕ) (r : NotedReply) → IsUneventful J K → IsUneventful J (event.Delivered n r ∷ K)
  quiet-delivered K n r q = record { newest = q.newest; counted = q.counted; rounds = q.rounds }

  quiet-returned : (K : List LaneEvent) (n : ℕ) → IsUneventful J K → IsUneventful J (event.Returned n ∷ K)
  quiet-returned K n q = record { newest = q.newest; counted = q.counted; rounds = q.rounds }

  pub quiet-sent : (n : ℕ) (m : Message) → IsUneventful J (sending n m ∷ J)
  quiet-sent n m = record { newest = refl; counted = λ v. refl; rounds = λ v b. refl }

  pub quiet-wrote : (line : ℕ) (e : Entry) → IsUneventful J (event.Wrote line e ∷ J)
  quiet-wrote line e = record { newest = refl; counted = λ v. refl; rounds = λ v b. refl }

-- ---- all that becomes of a message

module _ (number : ℕ) (J : List LaneEvent) (nodes : List Node) (m : Message) (y : Option Reply) (K : List LaneEvent) (back : Brought J nodes number m y K) where
  pub run-brought : (lane : Low) (rules : Rules) (line : ℕ) (o : Operation) (from : Journal) (I : List LaneEvent) → sent number from ≡ None → IsRunSince lane rules line o from I J → IsRunSince lane rules line o from I K
  run-brought lane rules line o from I none run = over-brought (λ (X : List LaneEvent). IsRunSince lane rules line o from I X) (λ n r X x. Longer (event.Delivered n r) X x (inl tt)) number (λ X x. Longer (event.Returned number) X x (inl none)) J nodes m y K back run

  pub going-brought : (lane : Low) (line : ℕ) (p : Plan) → IsGoing lane J line p → IsGoing lane K line p
  going-brought lane line p g = over-brought (λ (X : List LaneEvent). IsGoing lane X line p) (λ n r X x. going-delivered lane line p X n r x) number (λ X x. going-returned lane line p X number x) J nodes m y K back g

  pub quiet-brought : (I : List LaneEvent) → IsUneventful I J → IsUneventful I K
  quiet-brought I q = over-brought (λ (X : List LaneEvent). IsUneventful I X) (λ n r X x. quiet-delivered I X n r x) number (λ X x. quiet-returned I X number x) J nodes m y K back q

-- and the machine is told of it
pub told-in : (c e : LaneState) (line : ℕ) (row : Low) (written : Bool) (x : Standing) → e.lane ≡ c.lane → e.rules ≡ c.rules → IsLegal (setting_of e.lane e.rules) (journal_of e)
    → (IsLegal (setting_of c.lane c.rules) (journal_of e) → IsStanding c.lane c.rules (journal_of e) line row written x) → StandsIn e line row written x
told-in c e line row written x lane rules legal h = stands-to c e (journal_of e) line row written x lane rules refl
    (h (subst (λ (l : Low). IsLegal (setting_of l c.rules) (journal_of e)) lane (subst (λ (r : Rules). IsLegal (setting_of e.lane r) (journal_of e)) rules legal)))
