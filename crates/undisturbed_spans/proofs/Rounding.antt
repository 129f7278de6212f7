-- A round in a quiet span, message by message.
use Rattle.std.proofs.Common.{◌≡◌, ◌≢◌, ◌==◌, ◌&&◌, ◌⊎◌, ◌+◌, ℕ, Bool, true, false, cond, List, [], ◌∷◌, Option, Some, None, is_some, inl, inr, refl, sym, ap, ap₂, ◌∙◌, subst, eqb, eqb-true, eq-eqb}
use mathlib.Core.Bool.{true≢false}
use Rattle.std.specs.FinMap as fin
use Rattle.bucket_ids.specs.Buckets.{Low, has_key}
use Rattle.entry_maps.specs.EntryCodes.{Entries}
use Rattle.entry_maps.specs.Stamps.{stamps_of}
use Rattle.messages.specs.declared.body.Body.{Body}
use Rattle.messages.specs.declared.body.Body.TheVariants as body
use Rattle.messages.specs.declared.message.Message.{Message}
use Rattle.messages.specs.declared.reply.Reply.{Reply}
use Rattle.messages.specs.declared.reply.Reply.TheVariants as reply
use Rattle.messages.specs.declared.noted.NotedReply.{NotedReply}
use Rattle.messages.specs.Noting.{noted_body, noted_reply}
use Rattle.node_model.specs.Nodes as lane
use Rattle.lane_journals.specs.Stamps.{newer}
use Rattle.lane_journals.specs.Buckets.{Id, key_of}
use Rattle.lane_journals.specs.Events as plain
use Rattle.lane_journals.specs.Events.{Content}
use Rattle.lane_journals.specs.Readers as readers
use Rattle.lane_journals.specs.Readers.{Given, or_else, sent, first_reply, returned, round_in, round_of, is_read, given_by, answer_of, answer}
use Rattle.lane_journals.specs.Facts.{AnsweredApply}
use Rattle.lane_journals.specs.Meanings.{history, content, names, meaning_body, meaning_reply}
use Rattle.lane_journals.specs.declared.event.LaneEvent.{LaneEvent}
use Rattle.lane_journals.specs.declared.event.LaneEvent.TheVariants.{Delivered, Returned}
use Rattle.lane_keeping.specs.NodeKeeping.{stamp_of}
use Rattle.lane_keeping.specs.Replaying.{sending}
use Rattle.pass_model.specs.Nodes.{Node, apply_once, apply_node, received, counted, once_or_twice, taken_in}
use Rattle.pieces.specs.Pieces.{apply_at}
use Rattle.pass_model.specs.Lanes.{is_taken, is_answer, seen_node}
use Rattle.pass_model.specs.Scripts.{Script, told_body}
use Rattle.lane_keeping.specs.RoundKeeping.{was_sent, is_apply, is_of}
use Rattle.round_keeping.proofs.Waiting.{answered-stays}
use Rattle.undisturbed_spans.specs.Undisturbed.{IsTakenOnce, IsTakenTwice}
use Rattle.undisturbed_spans.specs.Telling.{seen_nodes, IsShownIn, IsToldIn}
use Rattle.undisturbed_spans.proofs.Takings.{Nodes, Events, the, sent-now, first-is, second-is}
use Rattle.undisturbed_spans.specs.Rounding.{IsGiven, was_told, was_asked, applied_if, HasRounded, IsUnsent, IsNextOf, AreAlike}

-- ---- the beginning

pub begins : (d : Script) (J : Events) (old : Nodes) (v number : ℕ) (b : Low) (U : Content) → IsUnsent J v number → HasRounded d J J old old v number b U
begins d J old v number b U none = record {
  untold = λ n e. refl;
  seen = λ n. sym (ap (λ t. applied_if t b U (seen_nodes d J old n)) (none.told n));
  given = λ n g e. let f = sym (none.answers n) ∙ e in cc;
  answered = λ n e. absurd (true≢false (sym e ∙ none.asked n));
  accepted = λ n e. absurd (true≢false (sym e ∙ none.told n));
}

-- ---- unions that are alike

alike-taken : (b : Low) (u w held : Content) (id : Id) → (has_key b (key_of id) ≡ true → u id ≡ w id) → taken_in b u held id ≡ taken_in b w held id
alike-taken b u w held id h = by_test (has_key b (key_of id)) h
  where
    by_test : (t : Bool) → (t ≡ true → u id ≡ w id) → cond t (newer (u id) (held id)) (held id) ≡ cond t (newer (w id) (held id)) (held id)
    by_test true f = ap (λ o. newer o (held id)) (f refl)
    by_test false f = refl

alike-once : (b : Low) (u w : Content) → ((id : Id) → has_key b (key_of id) ≡ true → u id ≡ w id) → (x : Node) → apply_once b u x ≡ apply_once b w x
alike-once b u w h x = λ i. record { pieces = apply_at b (x.serial + 1) x.pieces; serial = x.serial + 1; store = λ id. alike-taken b u w x.store id (h id) i; regions = x.regions; doubled = x.doubled; came = x.came }

alike-applied : (b : Low) (u w : Content) → ((id : Id) → has_key b (key_of id) ≡ true → u id ≡ w id) → (x : Node) → apply_node b u x ≡ apply_node b w x
unfolding apply_node
alike-applied b u w h x = λ i. counted (once_or_twice (x.doubled x.came) (λ y. alike-once b u w h y i) x)

-- ---- one message

-- the second of two is found where the first is none
or-none : {A : Type 0} (o : Option A) → or_else o None ≡ o
or-none None = refl
or-none (Some a) = refl

or-some : {A : Type 0} (o : Option A) (a : A) → is_some (or_else o (Some a)) ≡ true
or-some None a = refl
or-some (Some b) a = refl

module _ (K L : Events) (k : ℕ) (m : Message) (unsent : sent k (history K) ≡ None) (silent : first_reply k (history K) ≡ None) (takings : IsTakenOnce k (sending k m ∷ K) L ⊎ IsTakenTwice k (sending k m ∷ K) L) where
  test-on : (t : readers.Message → Bool) → was_sent t (history L) ≡ cond (t (the K k m)) true (was_sent t (history K))
  test-on t = elim takings [
    | inl o ↦ ap (λ (E : Events). was_sent t (history E)) o.1
    | inr o ↦ ap (λ (E : Events). was_sent t (history E)) o.2
  ]

  sent-on : sent k (history L) ≡ Some (the K k m)
  sent-on = elim takings [
    | inl o ↦ ap (λ (E : Events). sent k (history E)) o.1 ∙ sent-now K k m unsent
    | inr o ↦ ap (λ (E : Events). sent k (history E)) o.2 ∙ sent-now K k m unsent
  ]

  returned-on : returned k (history L) ≡ true
  returned-on = elim takings [
    | inl o ↦ ap (λ (E : Events). returned k (history E)) o.1 ∙ ap (λ t. cond t true (returned k (history K))) (eq-eqb k k refl)
    | inr o ↦ ap (λ (E : Events). returned k (history E)) o.2 ∙ ap (λ t. cond t true (returned k (history K))) (eq-eqb k k refl)
  ]

  applied-on : (v r n : ℕ) (b : Low) → AnsweredApply v r n b (history K) → AnsweredApply v r n b (history L)
  applied-on v r n b a = elim takings [
    | inl o ↦ subst (λ (E : Events). AnsweredApply v r n b (history E)) (sym o.1) (answered-stays v r n b _ _ (answered-stays v r n b _ _ (answered-stays v r n b _ _ a)))
    | inr o ↦ subst (λ (E : Events). AnsweredApply v r n b (history E)) (sym o.2) (answered-stays v r n b _ _ (answered-stays v r n b _ _ (answered-stays v r n b _ _ (answered-stays v r n b _ _ a))))
  ]

  module _ (v r n : ℕ) (R : plain.Reply) where
    once-answer : (q : NotedReply) → first_reply k (history (Returned k ∷ Delivered k q ∷ sending k m ∷ K)) ≡ Some R
        → answer v r n (history (Returned k ∷ Delivered k q ∷ sending k m ∷ K)) ≡ or_else (answer v r n (history K)) (answer_of v r n (Some (the K k m)) (Some R))
    once-answer q f = ap₂ (λ o p. or_else (answer v r n (history K)) (answer_of v r n o p)) (sent-now K k m unsent) f

    answer-on : first_reply k (history L) ≡ Some R → answer v r n (history L) ≡ or_else (answer v r n (history K)) (answer_of v r n (Some (the K k m)) (Some R))
    answer-on f = elim takings [
      | inl o ↦ ap (λ (E : Events). answer v r n (history E)) o.1 ∙ once-answer o.0 (subst (λ (E : Events). first_reply k (history E) ≡ Some R) o.1 f)
      | inr o ↦ ap (λ (E : Events). answer v r n (history E)) o.2
          ∙ once-answer o.0 (first-is K k m silent o.0 ∙ sym (second-is K k m silent o.0 o.1) ∙ subst (λ (E : Events). first_reply k (history E) ≡ Some R) o.2 f)
    ]

-- ---- the messages of a round

module _ (K : Events) (k v number : ℕ) (b : Low) (m : Message) (version_is : m.version ≡ v) (round_is : round_of v b (history K) ≡ number) where
  abbrev read-one : readers.Message
  read-one = record { version = v; receiver = m.receiver; body = plain.Read b; round = number }

  the-read : m.body ≡ body.Read b None → the K k m ≡ read-one
  the-read e =
      let x : meaning_body K (noted_body m.body) ≡ plain.Read b = ap (λ y. meaning_body K (noted_body y)) e in
      let r : round_in m.version (meaning_body K (noted_body m.body)) (history K) ≡ number = ap₂ (λ w y. round_in w y (history K)) version_is x ∙ round_is in
      λ i. record { version = version_is i; receiver = m.receiver; body = x i; round = r i }

  abbrev apply-one : Entries → readers.Message
  apply-one u = record { version = v; receiver = m.receiver; body = plain.Apply b (content K (stamps_of u)); round = number }

  the-apply : (u : Entries) → m.body ≡ body.Apply b u → the K k m ≡ apply-one u
  the-apply u e =
      let x : meaning_body K (noted_body m.body) ≡ plain.Apply b (content K (stamps_of u)) = ap (λ y. meaning_body K (noted_body y)) e in
      let r : round_in m.version (meaning_body K (noted_body m.body)) (history K) ≡ number = ap₂ (λ w y. round_in w y (history K)) version_is x ∙ round_is in
      λ i. record { version = version_is i; receiver = m.receiver; body = x i; round = r i }

  -- of the round, by whom it goes to
  read-of : (n : ℕ) → is_of is_read v number n read-one ≡ (m.receiver == n)
  read-of n = rw (eq-eqb v v refl, eq-eqb number number refl) refl

  read-no-apply : (n : ℕ) → is_of is_apply v number n read-one ≡ false
  read-no-apply n = refl

  apply-of : (u : Entries) (n : ℕ) → is_of is_apply v number n (apply-one u) ≡ (m.receiver == n)
  apply-of u n = rw (eq-eqb v v refl, eq-eqb number number refl) refl

  apply-no-read : (u : Entries) (n : ℕ) → is_of is_read v number n (apply-one u) ≡ false
  apply-no-read u n = refl

  read-answer : (n : ℕ) (R : plain.Reply) → answer_of v number n (Some read-one) (Some R) ≡ cond (m.receiver == n) (given_by R) None
  read-answer n R = rw (eq-eqb v v refl, eq-eqb number number refl) refl

  apply-answer : (u : Entries) (n : ℕ) (R : plain.Reply) → answer_of v number n (Some (apply-one u)) (Some R) ≡ None
  apply-answer u n R = refl

module _ (d : Script) (J K L : Events) (old now next : Nodes) (v number : ℕ) (b : Low) (U : Content) (k : ℕ) (m : Message) (h : HasRounded d J K old now v number b U) (x : IsNextOf K L v number b k m) where
  abbrev q : ℕ
  q = m.receiver

  tests : (t : readers.Message → Bool) → was_sent t (history L) ≡ cond (t (the K k m)) true (was_sent t (history K))
  tests = test-on K L k m x.unsent x.silent x.takings

  -- ---- a Read

  module _ (e : m.body ≡ body.Read b None) (s : IsShownIn K L now next k m b) where
    same-told : (n : ℕ) → was_told v number n L ≡ was_told v number n K
    same-told n = tests (is_of is_apply v number n) ∙ ap (λ y. cond (is_of is_apply v number n y) true (was_told v number n K)) (the-read K k v number b m x.version_is x.round_is e)

    more-asked : (n : ℕ) → was_asked v number n L ≡ cond (q == n) true (was_asked v number n K)
    more-asked n = tests (is_of is_read v number n) ∙ ap (λ y. cond (is_of is_read v number n y) true (was_asked v number n K)) (the-read K k v number b m x.version_is x.round_is e)
        ∙ ap (λ t. cond t true (was_asked v number n K)) (read-of K k v number b m x.version_is x.round_is n)

    more-answers : (n : ℕ) → answer v number n (history L) ≡ or_else (answer v number n (history K)) (cond (q == n) (Some (record { content = s.content; names = s.named })) None)
    more-answers n = answer-on K L k m x.unsent x.silent x.takings v number n (plain.Answer s.content s.named) s.replied
        ∙ ap (λ y. or_else (answer v number n (history K)) (answer_of v number n (Some y) (Some (plain.Answer s.content s.named)))) (the-read K k v number b m x.version_is x.round_is e)
        ∙ ap (or_else (answer v number n (history K))) (read-answer K k v number b m x.version_is x.round_is n (plain.Answer s.content s.named))

    -- what the receiver had is what it had at first
    first-given : IsGiven b (old q) (record { content = s.content; names = s.named })
    first-given = subst (λ y. IsGiven b y (record { content = s.content; names = s.named })) (h.untold q x.untold) (record { held = s.held; names = s.names })

    given-by-test : (n : ℕ) (g : Given) (o : Option Given) (t : Bool) → answer v number n (history K) ≡ o → (q == n) ≡ t
        → or_else o (cond t (Some (record { content = s.content; names = s.named })) None) ≡ Some g → IsGiven b (old n) g
    given-by-test n g (Some f) t was test is = h.given n g (was ∙ is)
    given-by-test n g None true was test is = let same : record { content = s.content; names = s.named } ≡ g = inside is in
        subst (λ i. IsGiven b (old i) g) (eqb-true q n test) (subst (λ y. IsGiven b (old q) y) same first-given)
      where
        inside : {y z : Given} → ◌≡◌ {A = Option Given} (Some y) (Some z) → y ≡ z
        inside i = cc
    given-by-test n g None false was test is = cc

    answered-by-test : (n : ℕ) (t : Bool) → (q == n) ≡ t → cond t true (was_asked v number n K) ≡ true → is_some (or_else (answer v number n (history K)) (cond t (Some (record { content = s.content; names = s.named })) None)) ≡ true
    answered-by-test n true test is = or-some (answer v number n (history K)) _
    answered-by-test n false test is = ap is_some (or-none (answer v number n (history K))) ∙ h.answered n is

    pub asked : HasRounded d J L old next v number b U
    asked = record {
      untold = λ n f. s.nodes n ∙ h.untold n (sym (same-told n) ∙ f);
      seen = λ n. ap₂ (λ i y. seen_node (d n) i y) (s.came_as n) (s.nodes n) ∙ h.seen n ∙ ap (λ t. applied_if t b U (seen_nodes d J old n)) (sym (same-told n));
      given = λ n g f. given-by-test n g (answer v number n (history K)) (q == n) refl refl (sym (more-answers n) ∙ f);
      answered = λ n f. ap is_some (more-answers n) ∙ answered-by-test n (q == n) refl (sym (more-asked n) ∙ f);
      accepted = λ n f. applied-on K L k m x.unsent x.silent x.takings v number n b (h.accepted n (sym (same-told n) ∙ f));
    }

  -- ---- an Apply

  module _ (u : Entries) (e : m.body ≡ body.Apply b u) (alike : AreAlike b u U) (s : IsToldIn d K L now next k m) where
    more-told : (n : ℕ) → was_told v number n L ≡ cond (q == n) true (was_told v number n K)
    more-told n = tests (is_of is_apply v number n) ∙ ap (λ y. cond (is_of is_apply v number n y) true (was_told v number n K)) (the-apply K k v number b m x.version_is x.round_is u e)
        ∙ ap (λ t. cond t true (was_told v number n K)) (apply-of K k v number b m x.version_is x.round_is u n)

    same-asked : (n : ℕ) → was_asked v number n L ≡ was_asked v number n K
    same-asked n = tests (is_of is_read v number n) ∙ ap (λ y. cond (is_of is_read v number n y) true (was_asked v number n K)) (the-apply K k v number b m x.version_is x.round_is u e)

    same-answers : (n : ℕ) → answer v number n (history L) ≡ answer v number n (history K)
    same-answers n = answer-on K L k m x.unsent x.silent x.takings v number n (meaning_reply s.before (noted_reply s.reply)) s.replied
        ∙ ap (λ y. or_else (answer v number n (history K)) (answer_of v number n (Some y) (Some (meaning_reply s.before (noted_reply s.reply))))) (the-apply K k v number b m x.version_is x.round_is u e)
        ∙ or-none (answer v number n (history K))

    -- it took the union
    told-here : seen_nodes d L next q ≡ apply_node b U (seen_nodes d J old q)
    told-here = s.nodes q ∙ ap (λ t. cond t (told_body m.body (seen_nodes d K now q)) (seen_nodes d K now q)) (eq-eqb q q refl)
        ∙ ap (λ y. told_body y (seen_nodes d K now q)) e
        ∙ alike-applied b (λ id. stamp_of (fin.get u id)) U alike (seen_nodes d K now q)
        ∙ ap (apply_node b U) (h.seen q ∙ ap (λ t. applied_if t b U (seen_nodes d J old q)) x.untold)

    seen-by-test : (n : ℕ) (t : Bool) → (q == n) ≡ t → seen_nodes d L next n ≡ applied_if (cond t true (was_told v number n K)) b U (seen_nodes d J old n)
    seen-by-test n true test = subst (λ i. seen_nodes d L next i ≡ apply_node b U (seen_nodes d J old i)) (eqb-true q n test) told-here
    seen-by-test n false test = s.nodes n ∙ ap (λ t. cond t (told_body m.body (seen_nodes d K now n)) (seen_nodes d K now n)) (turned n test) ∙ h.seen n
      where
        turned : (n : ℕ) → (q == n) ≡ false → (n == q) ≡ false
        turned n f = by_test (eqb n q) refl
          where
            by_test : (t : Bool) → eqb n q ≡ t → t ≡ false
            by_test true g = absurd (true≢false (sym (eq-eqb q n (sym (eqb-true n q g))) ∙ f))
            by_test false g = refl

    untold-by-test : (n : ℕ) (t : Bool) → (q == n) ≡ t → cond t true (was_told v number n K) ≡ false → next n ≡ old n
    untold-by-test n true test is = absurd (true≢false is)
    untold-by-test n false test is = s.others n (λ i. true≢false (sym (eq-eqb q n (sym i)) ∙ test)) ∙ h.untold n is

    -- it accepted
    record Accepts : Type 0 where
      content_is : Content
      named : _
      is : first_reply k (history L) ≡ Some (plain.Answer content_is named)

    by-reply : (r : Reply) → is_answer r ≡ true → first_reply k (history L) ≡ Some (meaning_reply s.before (noted_reply r)) → Accepts
    by-reply (reply.Answer ps es) a f = record { content_is = content s.before (stamps_of es); named = names ps; is = f }
    by-reply (reply.Newer w) a f = absurd (true≢false (sym a))
    by-reply reply.NoBucket a f = absurd (true≢false (sym a))
    by-reply reply.Differs a f = absurd (true≢false (sym a))
    by-reply reply.NoMemory a f = absurd (true≢false (sym a))

    accepts : Accepts
    accepts = by-reply s.reply (s.answers ∙ ap (λ y. is_taken y (seen_nodes d K now m.receiver)) e) s.replied

    accepted-here : AnsweredApply v number q b (history L)
    accepted-here = record {
      number = k;
      message = apply-one K k v number b m x.version_is x.round_is u;
      union = content K (stamps_of u);
      content = accepts.content_is;
      names = accepts.named;
      was_sent = sent-on K L k m x.unsent x.silent x.takings ∙ ap (λ y. Some y) (the-apply K k v number b m x.version_is x.round_is u e);
      receiver = refl;
      version = refl;
      round = refl;
      body = refl;
      reply = accepts.is;
      back = returned-on K L k m x.unsent x.silent x.takings;
    }

    accepted-by-test : (n : ℕ) (t : Bool) → (q == n) ≡ t → cond t true (was_told v number n K) ≡ true → AnsweredApply v number n b (history L)
    accepted-by-test n true test is = subst (λ i. AnsweredApply v number i b (history L)) (eqb-true q n test) accepted-here
    accepted-by-test n false test is = applied-on K L k m x.unsent x.silent x.takings v number n b (h.accepted n is)

    pub told : HasRounded d J L old next v number b U
    told = record {
      untold = λ n f. untold-by-test n (q == n) refl (sym (more-told n) ∙ f);
      seen = λ n. seen-by-test n (q == n) refl ∙ ap (λ t. applied_if t b U (seen_nodes d J old n)) (sym (more-told n));
      given = λ n g f. h.given n g (sym (same-answers n) ∙ f);
      answered = λ n f. ap is_some (same-answers n) ∙ h.answered n (sym (same-asked n) ∙ f);
      accepted = λ n f. accepted-by-test n (q == n) refl (sym (more-told n) ∙ f);
    }
