-- An opening that lacks an answer isn't quiet.
use Rattle.std.proofs.Common.{◌≡◌, ◌≢◌, ◌==◌, ◌||◌, ◌++◌, ◌⊎◌, ◌≤◌, ℕ, Bool, true, false, not, List, [], ◌∷◌, length, Option, Some, None, is_some, if◌then◌else◌, inl, inr, refl, sym, ap, ◌∙◌, subst, arith, eq-eqb}
use Rattle.std.proofs.lemmas.Bool.Decides.{nat_tests}
use Rattle.std.proofs.lemmas.Bool.{eqb-true}
use Rattle.bucket_ids.specs.Buckets.{Low}
use Rattle.node_sets.specs.Members.{has_node}
use Rattle.cluster_states.specs.Publishing.{serves}
use Rattle.cluster_states.specs.declared.cluster_state.ClusterState.{ClusterState}
use Rattle.ideal_nodes.specs.Placement.{IsOwner}
use Rattle.messages.specs.declared.body.Body.{Body}
use Rattle.messages.specs.declared.body.Body.TheVariants as body
use Rattle.messages.specs.declared.message.Message.{Message as Letter}
use Rattle.messages.specs.declared.noted.NotedReply.{NotedReply}
use Rattle.distributor_part.specs.declared.rules.Rules.{Rules}
use Rattle.distributor_part.specs.Parts.{Part}
use Rattle.lane_journals.specs.Events as plain
use Rattle.lane_journals.specs.Readers as readers
use Rattle.lane_journals.specs.Readers.{or_else, only_if, sent, first_reply, returned, held, asked, opened, published}
use Rattle.lane_journals.specs.RowLists.{row_with, rows}
use Rattle.lane_journals.specs.Places.{Setting, state_in}
use Rattle.lane_journals.specs.States.{state_of}
use Rattle.lane_journals.specs.Meanings.{history, meaning}
use Rattle.lane_journals.specs.KeptJournals.{IsLegal}
use Rattle.lane_journals.specs.declared.event.LaneEvent.{LaneEvent}
use Rattle.lane_journals.specs.declared.event.LaneEvent.TheVariants as event
use Rattle.lane_journals.specs.declared.event.LaneEvent.TheVariants.{Delivered, Returned}
use Rattle.lane_journals.proofs.Basics.{sent-stays, first_reply-stays, returned-replied}
use Rattle.proof_basics.proofs.Options.{some-none}
use Rattle.lane_journals.proofs.Meant.{meant-legal}
use Rattle.lane_keeping.specs.Replaying.{sending}
use Rattle.lane_keeping.specs.LaneKeeping.{setting_of, IsNewest, PartKeeps, Holds, KnowsOpening}
use Rattle.lane_keeping.specs.Acting.{IsActing}
use Rattle.lane_journals.proofs.Replies.{IsOwed, known-owed, not-fenced}
use Rattle.lane_journals.proofs.Hearing.{answer-given, ask-counts}
use Rattle.lane_states.specs.declared.lane_state.LaneState.{LaneState}
use Rattle.lane_rounds.specs.declared.opening.OpeningEnd.{OpeningEnd}
use Rattle.lane_states.specs.LaneStates.{journal_of, part_of, IsKept}
use Rattle.lane_states.specs.Growing.{CameShort, IsSettled}
use Rattle.lane_rounds.specs.Openings.{IsGone, IsAsked, Nobody, More, LacksAfter, EndsBy, EndsOpening}
use Rattle.lane_rounds.proofs.OpeningSends.{carried, legal-sent}
use Rattle.lane_carriage.proofs.Staying.{IsOfMessage}
use Rattle.lane_rounds.proofs.Staying.{stays-asked}
use Rattle.upkeep_spans.specs.Spans.{AreUpkeep, OfUpkeep, later}
use Rattle.upkeep_spans.specs.Causes.{first_absent}

abbrev Events : Type 0
Events = List LaneEvent

-- ---- tests

never : {A : Type 0} → false ≡ true → A
never e = cc

or-parts : (a b : Bool) → (a || b) ≡ false → (a ≡ false) × (b ≡ false)
or-parts false b h = (refl, h)
or-parts true b h = cc

or-cases : (a b : Bool) → (a || b) ≡ true → (a ≡ true) ⊎ (b ≡ true)
or-cases true b h = inl refl
or-cases false b h = inr h

-- ---- what was sent and is returned

unless : (t : Bool) (n : ℕ) → only_if (not t) n ≡ None → t ≡ true
unless true n h = refl
unless false n h = cc

first-none : (a b : Option ℕ) → or_else a b ≡ None → (a ≡ None) × (b ≡ None)
first-none None b h = (refl, h)
first-none (Some x) b h = cc

only-same : {A : Type 0} (n k : ℕ) (x y : A) → only_if (n == k) x ≡ Some y → n ≡ k
only-same n k x y h = by_test (n == k) refl h
  where
    by_test : (t : Bool) → (n == k) ≡ t → only_if t x ≡ Some y → n ≡ k
    by_test true e h = eqb-true n k e
    by_test false e h = cc

sent-which : {A : Type 0} (o : Option A) (p : Option A) (m : A) → or_else o p ≡ Some m → (o ≡ Some m) ⊎ (p ≡ Some m)
sent-which None p m h = inr h
sent-which (Some x) p m h = inl h

module _ (p : ℕ → Bool) (k : ℕ) (m : readers.Message) (J : Events) (unsent : sent k (history J) ≡ None) where
  pub back-of : (N : Events) → sent k (history (N ++ J)) ≡ Some m → first_absent p N ≡ None → p k ≡ true
  back-of [] s a = let wrong : None ≡ Some m = sym unsent ∙ s in cc
  back-of (event.Published x ∷ N) s a = back-of N s a
  back-of (event.Heard x y ∷ N) s a = back-of N s a
  back-of (event.Begun l x y i t ∷ N) s a = back-of N s a
  back-of (event.Refused l x o ∷ N) s a = back-of N s a
  back-of (event.Opened x y rs ∷ N) s a = back-of N s a
  back-of (event.Prepared l b t ∷ N) s a = back-of N s a
  back-of (event.Wrote l x ∷ N) s a = back-of N s a
  back-of (event.Sent n w e to x ∷ N) s a = elim (sent-which (sent k (history (N ++ J))) _ m s) [
    | inl old ↦ back-of N old (first-none (first_absent p N) (only_if (not (p n)) to) a).0
    | inr new ↦ subst (λ (i : ℕ). p i ≡ true) (only-same n k _ m new) (unless (p n) to (first-none (first_absent p N) (only_if (not (p n)) to) a).1)
  ]
  back-of (event.Delivered n r ∷ N) s a = back-of N s a
  back-of (event.Returned n ∷ N) s a = back-of N s a
  back-of (event.Closed l o ∷ N) s a = back-of N s a
  back-of (event.Decided x y z ∷ N) s a = back-of N s a
  back-of (event.Stopped n ∷ N) s a = back-of N s a
  back-of (event.Started n ∷ N) s a = back-of N s a

-- ---- no reply says that the node wants memory

abbrev IsWilling : ℕ → Events → Type 0
IsWilling k X = CameShort k (history X) → ⊥

willing-delivered : (S : Setting) (k n : ℕ) (r : NotedReply) (X : Events) → IsLegal S X → IsWilling k X → IsWilling k (Delivered n r ∷ X)
willing-delivered S k n r X l not c =
    let y = returned-replied S.acks (state_of (history X)) (history X) (meant-legal S X l) k c.0 in
    let f = first_reply-stays k (history X) y.0 (meaning X (Delivered n r)) y.1 in
    let same : Some y.0 ≡ Some plain.NoMemory = sym f ∙ c.1 in
    not (c.0, y.1 ∙ same)

willing-back : (k n : ℕ) (X : Events) → n ≢ k → IsWilling k X → IsWilling k (Returned n ∷ X)
willing-back k n X off not c =
    let other : (n == k) ≡ false = grind (arith, nat_tests) in
    not (sym (ap (λ (t : Bool). if t then true else returned k (history X)) other) ∙ c.0, c.1)

-- ---- a node that was asked

-- an Ask was sent to it behind the first journal, whose reply didn't say so
record IsAskedIn (J L : Events) (v n : ℕ) : Type 0 where
  pub number : ℕ
  pub message : readers.Message
  pub unsent : sent number (history J) ≡ None
  pub was_sent : sent number (history L) ≡ Some message
  pub version : message.version ≡ v
  pub receiver : message.receiver ≡ n
  pub body : message.body ≡ plain.Ask
  pub willing : IsWilling number L

abbrev asking : Letter → readers.Message
asking m = record { version = m.version; receiver = m.receiver; body = plain.Ask; round = 0 }

module _ (lane : Low) (rules : Rules) (J K L : Events) (number : ℕ) (m : Letter) (gone : IsGone number m K L) (legal : IsLegal (setting_of lane rules) L) where
  abbrev S : Setting
  S = setting_of lane rules

  begins : IsLegal S (sending number m ∷ K)
  begins = legal-sent S number m K L gone legal

  fresh : sent number (history K) ≡ None
  fresh = some-none (sent number (history K)) (λ x h. let less = ((begins.1).permitted).greater number x h in omega (arith, less))

  -- over one Ask more
  asked-before : (v n : ℕ) → IsAskedIn J K v n → IsAskedIn J L v n
  asked-before v n a =
      let all = carried (λ (X : Events). IsLegal S X → (sent a.number (history X) ≡ Some a.message) × IsWilling a.number X) number
      (λ i r X p l. ((p l.0).0, willing-delivered S a.number i r X l.0 (p l.0).1))
      (λ X p l. ((p l.0).0, willing-back a.number number X off (p l.0).1))
      m K L gone (λ l. (sent-stays a.number (history K) a.message (meaning K (sending number m)) a.was_sent, λ c. a.willing c)) legal in
      record { number = a.number; message = a.message; unsent = a.unsent; was_sent = all.0; version = a.version; receiver = a.receiver; body = a.body; willing = all.1 }
    where
      off : number ≢ a.number
      off e = let there : sent number (history K) ≡ Some a.message = subst (λ (i : ℕ). sent i (history K) ≡ Some a.message) (sym e) a.was_sent in
          let wrong : None ≡ Some a.message = sym fresh ∙ there in cc

  asked-just : m.body ≡ body.Ask → sent number (history (sending number m ∷ K)) ≡ Some (asking m)
  asked-just is = subst (λ (b : Body). sent number (history (sending number (record m { body = b }) ∷ K)) ≡ Some (asking m)) (sym is)
      (ap (λ (x : Option readers.Message). or_else x (only_if (number == number) (asking m))) fresh ∙ ap (λ (t : Bool). only_if t (asking m)) (eq-eqb number number refl))

  -- and that one
  asked-now : (v : ℕ) → sent number (history J) ≡ None → m.version ≡ v → m.body ≡ body.Ask → IsSettled number L false → IsAskedIn J L v m.receiver
  asked-now v unsent version is settled = record {
    number = number;
    message = asking m;
    unsent = unsent;
    was_sent = carried (λ (X : Events). sent number (history X) ≡ Some (asking m)) number (λ i r X p. p) (λ X p. p) m K L gone (asked-just is);
    version = version;
    receiver = refl;
    body = refl;
    willing = λ c. never (settled.short_is.1 c);
  }

sent-on : (number : ℕ) (x : readers.Message) (e : LaneEvent) (X : Events) → IsOfMessage e → sent number (history X) ≡ Some x → sent number (history (e ∷ X)) ≡ Some x
sent-on number x e X i h = sent-stays number (history X) x (meaning X e) h

module _ (lane : Low) (rules : Rules) (d : ℕ) (s : ClusterState) (J : Events) (p : Part) (heard : p.state ≡ Some s) (nobody : (n : ℕ) → has_node p.asked n ≡ false) where
  heard-all : (K : Events) (q : Part) (short : Bool) → IsAsked lane rules d J p K q short → q.state ≡ Some s
  heard-all _ _ _ Nobody = heard
  heard-all _ _ _ (More K L q asked now number m was one before keeps a gone settled told) =
      ap (λ (x : Part). x.state) told.after ∙ ap (λ (x : Part). x.state) a.after ∙ heard-all K q was before

  unsent-first : (K : Events) (q : Part) (short : Bool) → IsAsked lane rules d J p K q short → (number : ℕ) → sent number (history K) ≡ None → sent number (history J) ≡ None
  unsent-first K q short before number none = some-none (sent number (history J)) (λ x h.
      let there : sent number (history K) ≡ Some x = stays-asked (λ (X : Events). sent number (history X) ≡ Some x) (sent-on number x) lane rules d J p K q short before h in
      let wrong : None ≡ Some x = sym none ∙ there in cc)

  asked-all : (K : Events) (q : Part) (short : Bool) → IsAsked lane rules d J p K q short → short ≡ false → IsLegal (setting_of lane rules) K → (n : ℕ) → has_node q.asked n ≡ true → IsAskedIn J K s.version n
  asked-all _ _ _ Nobody none legal n h = never (sym (nobody n) ∙ h)
  asked-all _ _ _ (More K L q asked now number m was one before keeps a gone settled told) none legal n h =
      let parts = or-parts was one none in
      let begins : IsLegal (setting_of lane rules) (sending number m ∷ K) = legal-sent (setting_of lane rules) number m K L gone legal in
      let same : a.state ≡ s = one-state a.state (sym (a.unopened).heard ∙ heard-all K q was before) in
      let marked : (has_node q.asked n || n == m.receiver) ≡ true = sym (a.marked n) ∙ sym (ap (λ (x : Part). has_node x.asked n) told.after) ∙ h in
      elim (or-cases (has_node q.asked n) (n == m.receiver) marked) [
        | inl old ↦ asked-before lane rules J K L number m gone legal s.version n (asked-all K q was before parts.0 begins.0 n old)
        | inr new ↦ subst (λ (i : ℕ). IsAskedIn J L s.version i) (sym (eqb-true n m.receiver new))
            (asked-now lane rules J K L number m gone legal s.version (unsent-first K q was before number (fresh lane rules J K L number m gone legal))
            (ap (λ (x : Letter). x.version) a.message ∙ ap (λ (x : ClusterState). x.version) same) (ap (λ (x : Letter). x.body) a.message)
            (subst (λ (t : Bool). IsSettled number L t) parts.1 settled))
      ]
    where
      one-state : (t : ClusterState) → Some t ≡ Some s → t ≡ s
      one-state t e = cc

-- ---- all have answered

answers-of : (lane : Low) (rules : Rules) (K : Events) (d : ℕ) (s : ClusterState) (p : Part) → PartKeeps lane rules K d p → p.state ≡ Some s → IsOwner lane s d → (n : ℕ) → has_node p.answered n ≡ is_some (asked s.version n (history K))
answers-of lane rules K d s p k heard owner n = (by_state p.state heard k.heard).answered_are n
  where
    by_state : (o : Option ClusterState) → o ≡ Some s → Holds lane d (held d (history K)) (λ v. state_in v K) (λ v n. asked v n (history K)) (λ v. opened v (history K)) (λ v key. row_with key (rows v (history K))) o p
        → KnowsOpening (λ n. asked s.version n (history K)) (opened s.version (history K)) (λ key. row_with key (rows s.version (history K))) s p
    by_state None e h = let none : None ≡ Some s = e in cc
    by_state (Some t) e h =
        let same : t ≡ s = cc in
        let owned : IsOwner lane t d = subst (λ (x : ClusterState). IsOwner lane x d) (sym same) owner in
        subst (λ (x : ClusterState). KnowsOpening (λ n. asked x.version n (history K)) (opened x.version (history K)) (λ key. row_with key (rows x.version (history K))) x p) same (h.2 owned)

-- the answer to an Ask counts
module _ (S : Setting) (K : Events) (v : ℕ) (legal : IsLegal S K) (newest : (w : ℕ) → published w (history K) ≡ true → w ≤ v) where
  counted : (J : Events) (n : ℕ) (a : IsAskedIn J K v n) → returned a.number (history K) ≡ true → is_some (asked v n (history K)) ≡ true
  counted J n a back =
      let l = meant-legal S K legal in
      let r = returned-replied S.acks (state_of (history K)) (history K) l a.number back in
      elim (known-owed S.acks (state_of (history K)) (a.message).version a.number a.message r.0 refl (history K) l (subst IsOwed (sym a.body) tt) a.was_sent r.1) [
        | inl heard ↦ elim heard [
          | inl answers ↦ (let g = answer-given r.0 answers in
              ask-counts S.acks (state_of (history K)) v n a.number a.message g.0 a.version a.receiver a.body (history K) l back a.was_sent (r.1 ∙ ap (λ (x : plain.Reply). Some x) g.1))
          | inr wants ↦ absurd (a.willing (back, r.1 ∙ ap (λ (x : plain.Reply). Some x) wants))
        ]
        | inr fenced ↦ absurd (not-fenced S.acks (state_of (history K)) v a.number a.message r.0 a.version (history K) l newest a.was_sent r.1 fenced)
      ]

lacks-none : (c : LaneState) (d missing : ℕ) (s : ClusterState) (K : Events) (q : Part) → LacksAfter c d missing false K q → (part_of c d).state ≡ Some s → ((n : ℕ) → has_node (part_of c d).asked n ≡ false) → IsOwner c.lane s d
    → IsLegal (setting_of c.lane c.rules) K → ((w : ℕ) → published w (history K) ≡ true → w ≤ s.version)
    → ((k : ℕ) (m : readers.Message) → sent k (history (journal_of c)) ≡ None → sent k (history K) ≡ Some m → returned k (history K) ≡ true) → ⊥
lacks-none c d missing s K q x heard nobody owner legal newest back = (x.lacks).some answered
  where
    answered : (n : ℕ) → serves (x.lacks).state n ≡ true → has_node (x.part).answered n ≡ true
    answered n serving = by_test (has_node (x.part).answered n) refl (has_node (x.part).asked n) refl
      where
        by_test : (t : Bool) → has_node (x.part).answered n ≡ t → (u : Bool) → has_node (x.part).asked n ≡ u → has_node (x.part).answered n ≡ true
        by_test true e u f = e
        by_test false e false f = absurd ((x.lacks).none_left n (record { serves = serving; unanswered = e; unasked = f }))
        by_test false e true f =
            let a : IsAskedIn (journal_of c) K s.version n = asked-all c.lane c.rules d s (journal_of c) (part_of c d) heard nobody K x.part false x.asked refl legal n f in
            answers-of c.lane c.rules K d s x.part x.keeps (heard-all c.lane c.rules d s (journal_of c) (part_of c d) heard nobody K x.part false x.asked) owner n
            ∙ counted (setting_of c.lane c.rules) K s.version legal newest (journal_of c) n a (back a.number a.message a.unsent a.was_sent)

-- where the owner under the newest state asked all that serve, and each message that it sent was returned, the state is
-- opened, or a node wants memory
pub opened-quietly : OfUpkeep (λ J K. K ≡ later (length J) K ++ J) → (c e : LaneState) (d v : ℕ) (s : ClusterState) (end : OpeningEnd) → IsActing c.lane (journal_of c) d s → c.newest ≡ Some s → (part_of c d).state ≡ Some s
    → ((n : ℕ) → has_node (part_of c d).asked n ≡ false) → IsKept e → e.lane ≡ c.lane → e.rules ≡ c.rules → e.newest ≡ c.newest → EndsOpening c e d end → end.short ≡ false
    → AreUpkeep d v (journal_of c) (journal_of e) → first_absent (λ n. returned n (history (journal_of e))) (later (length (journal_of c)) (journal_of e)) ≡ None → end.missing ≡ None
opened-quietly span c e d v s end acting newest heard nobody kept lane rules still ends short up none = by_missing end.missing (subst (λ (t : Bool). EndsBy c d end.missing t (journal_of e) ends.part) short ends.ends)
  where
    legal : IsLegal (setting_of c.lane c.rules) (journal_of e)
    legal = subst (λ (r : Rules). IsLegal (setting_of c.lane r) (journal_of e)) rules (subst (λ (l : Low). IsLegal (setting_of l e.rules) (journal_of e)) lane (kept.keeps).legal)

    top : IsNewest (λ w. state_in w (journal_of e)) (λ w. published w (history (journal_of e))) (Some s)
    top = subst (λ (o : Option ClusterState). IsNewest (λ w. state_in w (journal_of e)) (λ w. published w (history (journal_of e))) o) (still ∙ newest) (kept.keeps).newest_is

    back : (k : ℕ) (m : readers.Message) → sent k (history (journal_of c)) ≡ None → sent k (history (journal_of e)) ≡ Some m → returned k (history (journal_of e)) ≡ true
    back k m unsent was = back-of (λ n. returned n (history (journal_of e))) k m (journal_of c) unsent (later (length (journal_of c)) (journal_of e))
        (subst (λ (X : Events). sent k (history X) ≡ Some m) (span d v (journal_of c) (journal_of e) up) was) none

    by_missing : (o : Option ℕ) → EndsBy c d o false (journal_of e) ends.part → o ≡ None
    by_missing None x = refl
    by_missing (Some missing) x = absurd (lacks-none c d missing s (journal_of e) ends.part x heard nobody acting.owner legal top.1 back)
