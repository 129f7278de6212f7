-- Who acts: a state has one owner, and whoever sent under a version, or opened it, held that version then.
use Rattle.std.proofs.Common.{◌≡◌, ℕ, ◌<◌, ◌≤◌, Bool, true, false, List, [], ◌∷◌, cond, Option, Some, None, inl, inr, refl, sym, ap, ◌∙◌, subst, arith, codes, eqb, eq-eqb}
use Rattle.std.proofs.lemmas.Bool.{eqb-true}
use Rattle.bucket_ids.specs.Buckets.{Low}
use Rattle.cluster_states.specs.declared.cluster_state.ClusterState.{ClusterState}
use Rattle.ideal_nodes.specs.Scores.{score_of, Ranks}
use Rattle.ideal_nodes.specs.Placement.{IsOwner}
use Rattle.distributor_part.specs.Parts.{Part}
use Rattle.lane_journals.specs.Events.{Body, Ask, Reply, Answer, Event, Returned}
use Rattle.lane_journals.specs.Readers.{Journal, Message, Given, sent, first_reply, returned, held, opened, asked, asked_of, is_ask, given_by}
use Rattle.lane_journals.specs.Facts.{AnsweredAsk}
use Rattle.lane_journals.specs.RowLists.{row_with, rows}
use Rattle.lane_journals.specs.Meanings.{history}
use Rattle.lane_journals.specs.Places.{Setting, state_in}
use Rattle.lane_journals.specs.KeptJournals.{IsLegal, IsLegalStep}
use Rattle.lane_journals.specs.declared.event.LaneEvent.{LaneEvent}
use Rattle.lane_journals.specs.declared.event.LaneEvent.TheVariants as event
use Rattle.lane_journals.proofs.Basics.{or_else-some, or_else-cases, only_if-some, sent-stays, first_reply-stays, returned-stays}
use Rattle.lane_keeping.specs.LaneKeeping.{Holds}

-- what is known of a distributor that heard a state, or none
abbrev pub HoldsAt : Low → List LaneEvent → ℕ → Option ClusterState → Part → Type 0
HoldsAt lane J e o p = Holds lane e (held e (history J)) (λ v. state_in v J) (λ v n. asked v n (history J)) (λ v. opened v (history J)) (λ v key. row_with key (rows v (history J))) o p

-- ---- one owner

not-both : (score : ℕ → ℕ) (a b : ℕ) → Ranks score a b → Ranks score b a → ⊥
not-both score a b (inl p) (inl q) = omega (arith, p, q)
not-both score a b (inl p) (inr q) = let e = q.0 in omega (arith, p, e)
not-both score a b (inr p) (inl q) = let e = p.0 in omega (arith, q, e)
not-both score a b (inr p) (inr q) = let x = p.1 in let y = q.1 in omega (arith, x, y)

pub one-owner : (lane : Low) (s : ClusterState) (a b : ℕ) → IsOwner lane s a → IsOwner lane s b → a ≡ b
one-owner lane s a b x y = elim (x.first b y.up) [
  | inl same ↦ sym same
  | inr before ↦ elim (y.first a x.up) [ inl same ↦ same | inr after ↦ absurd (not-both (score_of (codes "owner") lane) a b before after) ]
]

-- ---- whoever acted held the version

-- the owner of a version holds it, or a greater one by now
pub record Acted (S : Setting) (J : List LaneEvent) (v : ℕ) : Type 0 where
  pub state : ClusterState
  pub distributor : ℕ
  pub at : state_in v J ≡ Some state
  pub owner : IsOwner S.lane state distributor
  pub version : ℕ
  pub holds : held distributor (history J) ≡ Some version
  pub newer : v ≤ version

acted-stays : (S : Setting) (J : List LaneEvent) (e : LaneEvent) (v : ℕ) → IsLegalStep S J e → Acted S J v → Acted S (e ∷ J) v
acted-stays S J (event.Published s) v p a = record { state = a.state; distributor = a.distributor; at = or_else-some (state_in v J) _ a.state a.at; owner = a.owner; version = a.version; holds = a.holds; newer = a.newer }
acted-stays S J (event.Heard d w) v p a = by_test (eqb d a.distributor) refl
  where
    less : d ≡ a.distributor → a.version < w
    less e = (p.permitted).newer a.version (subst (λ (x : ℕ). held x (history J) ≡ Some a.version) (sym e) a.holds)

    by_test : (t : Bool) → eqb d a.distributor ≡ t → Acted S (event.Heard d w ∷ J) v
    by_test true e = record { state = a.state; distributor = a.distributor; at = a.at; owner = a.owner; version = w; holds = ap (λ (t : Bool). cond t (Some w) (held a.distributor (history J))) e; newer = (let n = a.newer in let x = less (eqb-true d a.distributor e) in omega (arith, n, x)) }
    by_test false e = record { state = a.state; distributor = a.distributor; at = a.at; owner = a.owner; version = a.version; holds = ap (λ (t : Bool). cond t (Some w) (held a.distributor (history J))) e ∙ a.holds; newer = a.newer }
acted-stays S J _ v p a = record { state = a.state; distributor = a.distributor; at = a.at; owner = a.owner; version = a.version; holds = a.holds; newer = a.newer }

pub sent-acted : (S : Setting) (J : List LaneEvent) (k : ℕ) (m : Message) → IsLegal S J → sent k (history J) ≡ Some m → Acted S J m.version
sent-acted S [] k m l h = cc
sent-acted S (e ∷ J) k m l h = by_event e l.1 h (sent-acted S J k m l.0)
  where
    by_event : (e : LaneEvent) → IsLegalStep S J e → sent k (history (e ∷ J)) ≡ Some m → (sent k (history J) ≡ Some m → Acted S J m.version) → Acted S (e ∷ J) m.version
    by_event (event.Sent n v d to b) p h ih = elim (or_else-cases (sent k (history J)) _ m h) [
      | inl old ↦ acted-stays S J (event.Sent n v d to b) m.version p (ih old)
      | inr new ↦ (let o = only_if-some (eqb n k) _ m new.1 in subst (λ (x : Message). Acted S (event.Sent n v d to b ∷ J) x.version) o.1
          (record { state = p.placed.0.state; distributor = d; at = p.placed.0.published; owner = p.placed.0.owner; version = v; holds = p.permitted.holder; newer = omega arith }))
    ]
    by_event e p h ih = acted-stays S J e m.version p (ih h)

pub opened-acted : (S : Setting) (J : List LaneEvent) (v : ℕ) → IsLegal S J → opened v (history J) ≡ true → Acted S J v
opened-acted S [] v l h = cc
opened-acted S (e ∷ J) v l h = by_event e l.1 h (opened-acted S J v l.0)
  where
    by_event : (e : LaneEvent) → IsLegalStep S J e → opened v (history (e ∷ J)) ≡ true → (opened v (history J) ≡ true → Acted S J v) → Acted S (e ∷ J) v
    by_event (event.Opened d w rows) p h ih = by_test (eqb w v) refl h
      where
        by_test : (t : Bool) → eqb w v ≡ t → cond t true (opened v (history J)) ≡ true → Acted S (event.Opened d w rows ∷ J) v
        by_test true e h = subst (λ (x : ℕ). Acted S (event.Opened d w rows ∷ J) x) (eqb-true w v e)
            (record { state = p.placed.0.state; distributor = d; at = p.placed.0.published; owner = p.placed.0.owner; version = w; holds = p.permitted.holder; newer = omega arith })
        by_test false e h = acted-stays S J (event.Opened d w rows) v p (ih h)
    by_event e p h ih = acted-stays S J e v p (ih h)

-- ---- answers to Asks

record AskParts (v n : ℕ) (m : Option Message) (y : Option Reply) (g : Given) : Type 0 where
  message : Message
  is_message : m ≡ Some message
  version : message.version ≡ v
  receiver : message.receiver ≡ n
  body : message.body ≡ Ask
  reply : y ≡ Some (Answer g.content g.names)

giving : (g : Given) (y : Reply) → given_by y ≡ Some g → y ≡ Answer g.content g.names
giving g (Answer x names) f = let same : record { content = x; names = names } ≡ g = cc in ap (λ (z : Given). Answer z.content z.names) same
giving g _ f = cc

asking : (b : Body) → is_ask b ≡ true → b ≡ Ask
asking Ask e = refl
asking _ e = cc

ask-parts : (v n : ℕ) (m : Option Message) (y : Option Reply) (g : Given) → asked_of v n m y ≡ Some g → AskParts v n m y g
ask-parts v n None y g h = cc
ask-parts v n (Some m) None g h = cc
ask-parts v n (Some m) (Some y) g h = by_tests (is_ask m.body) (eqb m.version v) (eqb m.receiver n) refl refl refl h
  where
    by_tests : (a b c : Bool) → is_ask m.body ≡ a → eqb m.version v ≡ b → eqb m.receiver n ≡ c → cond a (cond b (cond c (given_by y) None) None) None ≡ Some g → AskParts v n (Some m) (Some y) g
    by_tests true true true e f i h = record { message = m; is_message = refl; version = eqb-true _ _ f; receiver = eqb-true _ _ i; body = asking m.body e; reply = ap (λ (z : Reply). Some z) (giving g y h) }
    by_tests true true false e f i h = cc
    by_tests true false c e f i h = cc
    by_tests false b c e f i h = cc

pub answered-stays : (v n : ℕ) (H : Journal) (e : Event) → AnsweredAsk v n H → AnsweredAsk v n (e ∷ H)
answered-stays v n H e a = record {
  number = a.number;
  message = a.message;
  content = a.content;
  names = a.names;
  was_sent = sent-stays a.number H a.message e a.was_sent;
  receiver = a.receiver;
  version = a.version;
  body = a.body;
  reply = first_reply-stays a.number H (Answer a.content a.names) e a.reply;
  back = returned-stays a.number H e a.back;
}

pub asked-answered : (v n : ℕ) (H : Journal) (g : Given) → asked v n H ≡ Some g → AnsweredAsk v n H
asked-answered v n [] g h = cc
asked-answered v n (e ∷ H) g h = by_event e h (asked-answered v n H g)
  where
    by_event : (e : Event) → asked v n (e ∷ H) ≡ Some g → (asked v n H ≡ Some g → AnsweredAsk v n H) → AnsweredAsk v n (e ∷ H)
    by_event (Returned k) h ih = elim (or_else-cases (asked v n H) _ g h) [
      | inl old ↦ answered-stays v n H (Returned k) (ih old)
      | inr new ↦ (let p = ask-parts v n (sent k H) (first_reply k H) g new.1 in record {
        number = k;
        message = p.message;
        content = g.content;
        names = g.names;
        was_sent = p.is_message;
        receiver = p.receiver;
        version = p.version;
        body = p.body;
        reply = p.reply;
        back = ap (λ (t : Bool). cond t true (returned k H)) (eq-eqb k k refl);
      })
    ]
    by_event e h ih = answered-stays v n H e (ih h)

-- ---- nothing was done under a state that its owner didn't hold yet

pub not-yet : (S : Setting) (J : List LaneEvent) (v d : ℕ) (s : ClusterState) → state_in v J ≡ Some s → IsOwner S.lane s d → ((w : ℕ) → held d (history J) ≡ Some w → w < v) → Acted S J v → ⊥
not-yet S J v d s at owner below a =
    let same : a.state ≡ s = (let x = a.at in let both = sym x ∙ at in cc) in
    let one = one-owner S.lane s d a.distributor owner (subst (λ (x : ClusterState). IsOwner S.lane x a.distributor) same a.owner) in
    let less = below a.version (ap (λ (x : ℕ). held x (history J)) one ∙ a.holds) in
    let more = a.newer in
    omega (arith, less, more)

pub unopened : (S : Setting) (J : List LaneEvent) (v : ℕ) → IsLegal S J → (Acted S J v → ⊥) → opened v (history J) ≡ false
unopened S J v l none = by_test (opened v (history J)) refl
  where
    by_test : (t : Bool) → opened v (history J) ≡ t → opened v (history J) ≡ false
    by_test true e = absurd (none (opened-acted S J v l e))
    by_test false e = e

pub unasked : (S : Setting) (J : List LaneEvent) (v n : ℕ) → IsLegal S J → (Acted S J v → ⊥) → asked v n (history J) ≡ None
unasked S J v n l none = by_answer (asked v n (history J)) refl
  where
    by_answer : (o : Option Given) → asked v n (history J) ≡ o → asked v n (history J) ≡ None
    by_answer None e = e
    by_answer (Some g) e = let a = asked-answered v n (history J) g e in absurd (none (subst (λ (x : ℕ). Acted S J x) a.version (sent-acted S J a.number a.message l a.was_sent)))
