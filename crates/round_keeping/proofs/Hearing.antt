-- The reply to the message that is waited for is returned and told, or none is.
use Rattle.std.proofs.Common.{◌≡◌, ◌||◌, ◌&&◌, ℕ, zero, suc, ◌<◌, Bool, true, false, cond, List, [], ◌∷◌, ◌++◌, Option, Some, None, is_some, inl, inr, ◌⊎◌, refl, sym, ap, ◌∙◌, subst, arith, eqb, eq-eqb}
use mathlib.Core.Bool.{true≢false}
use Rattle.std.proofs.lemmas.Bool.{eqb-true}
use Rattle.std.proofs.lemmas.Bool.Decides.{nat_tests}
use Rattle.std.proofs.lemmas.List.Elements.{Contains-append_cases}
use Rattle.std.proofs.lemmas.List.Folds.{list_any-append}
use Rattle.std.specs.List.{Contains}
use Rattle.bucket_ids.specs.Buckets.{Low}
use Rattle.node_sets.specs.Members.{has_node}
use Rattle.cluster_states.specs.declared.cluster_state.ClusterState.{ClusterState}
use Rattle.entry_maps.specs.EntryCodes.{Entries}
use Rattle.entry_maps.specs.Stamps.{stamps_of}
use Rattle.entry_maps.specs.Joins.{joined}
use Rattle.pieces.specs.declared.piece.Piece.{Piece}
use Rattle.messages.specs.Noting.{noted_reply}
use Rattle.messages.specs.declared.message.Message.{Message as Letter}
use Rattle.messages.specs.declared.body.Body.{Body as LetterBody}
use Rattle.messages.specs.declared.body.Body.TheVariants as body
use Rattle.messages.specs.declared.reply.Reply.{Reply}
use Rattle.messages.specs.declared.reply.Reply.TheVariants as reply
use Rattle.messages.specs.declared.step.NodePieces.{NodePieces}
use Rattle.node_model.specs.Nodes.{Node}
use Rattle.distributor_part.specs.declared.rules.Rules.{Rules}
use Rattle.distributor_part.specs.Parts.{Part}
use Rattle.merge_rounds.specs.Rounds.{RoundState, did_show, is_answer, shown_by, after_read, IsAfterApply}
use Rattle.lane_journals.specs.Buckets.{same_bucket}
use Rattle.lane_journals.specs.Events as plain
use Rattle.lane_journals.specs.Readers.{Journal, Message, Given, or_else, only_if, sent, first_reply, returned, stopped, given_by, answer, answer_of, is_read, round_of, running}
use Rattle.lane_journals.specs.Facts.{AnsweredApply}
use Rattle.lane_journals.specs.Legal.{Legal}
use Rattle.lane_journals.specs.States.{state_of}
use Rattle.lane_journals.specs.Meanings.{history, entry_at, meaning_reply, content, names}
use Rattle.lane_journals.specs.Places.{Setting}
use Rattle.lane_journals.specs.declared.event.LaneEvent.{LaneEvent}
use Rattle.lane_journals.specs.declared.event.LaneEvent.TheVariants as event
use Rattle.lane_journals.proofs.BucketLaws.{same_bucket-refl}
use Rattle.lane_journals.proofs.Meant.{meant-legal}
use Rattle.proof_basics.proofs.Lists.{contains-none, contains-one}
use Rattle.lane_keeping.specs.Flights.{meant, BringsBack}
use Rattle.lane_keeping.specs.Replaying.{IsTaken, delivered}
use Rattle.lane_keeping.specs.Unions.{IsUnion}
use Rattle.lane_keeping.proofs.Stamping.{written-apply, content-is}
use Rattle.lane_keeping.proofs.Sending.{taken-back}
use Rattle.lane_keeping.proofs.Uniting.{union-stays, union-joins, union-lies}
use Rattle.lane_keeping.specs.LaneKeeping.{setting_of, node_in, Keeps}
use Rattle.lane_keeping.specs.Asking.{IsTakenBy}
use Rattle.lane_keeping.specs.RoundKeeping.{was_sent, is_apply, is_of, IsNamed, AreAnswers, IsReading, KnowsRoundOf, KnowsRound, body_of, IsAwaited}
use Rattle.round_keeping.proofs.Waiting.{named-still, answered-in, answered-stays, delivered-back, returned-back, NoApply, NoRead, answer-other}

-- ---- tests

or-none : {A : Type 0} (o : Option A) (t : Bool) → or_else o (cond t None None) ≡ o
or-none None true = refl
or-none None false = refl
or-none (Some x) t = refl

or-some : {A : Type 0} (o : Option A) (t : Bool) (x : A) → is_some (or_else o (cond t (Some x) None)) ≡ (is_some o || (t || false))
or-some None true x = refl
or-some None false x = refl
or-some (Some y) t x = refl

either : (a b : Bool) → (a || (b || false)) ≡ true → (a ≡ true) ⊎ (b ≡ true)
either true b h = inl refl
either false true h = inr refl
either false false h = absurd (true≢false (sym h))

one-of : (a b c : Bool) → (a || (b && c)) ≡ true → (a ≡ true) ⊎ ((b ≡ true) × (c ≡ true))
one-of true b c h = inl refl
one-of false true true h = inr (refl, refl)
one-of false true false h = absurd (true≢false (sym h))
one-of false false c h = absurd (true≢false (sym h))

with-more : (a t : Bool) → a ≡ true → (a || t) ≡ true
with-more a t h = ap (λ (x : Bool). x || t) h

union-at : (v i : ℕ) (H : Journal) (did now : ℕ → Bool) (u : Entries) → ((n : ℕ) → now n ≡ true → did n ≡ true) → IsUnion v i H did u → IsUnion v i H now u
union-at v i H did now u same h = record { covers = λ n e. h.covers n (same n e); attained = h.attained }

is-answer : (w : Reply) → is_answer (Some w) ≡ true → (ps : List Piece) × (es : Entries) × (w ≡ reply.Answer ps es)
is-answer (reply.Answer ps es) h = (ps, es, refl)
is-answer (reply.Newer v) h = absurd (true≢false (sym h))
is-answer reply.NoBucket h = absurd (true≢false (sym h))
is-answer reply.Differs h = absurd (true≢false (sym h))
is-answer reply.NoMemory h = absurd (true≢false (sym h))

means-answer : (J : List LaneEvent) (w : Reply) (x : plain.Content) (ns : _) → meaning_reply J (noted_reply w) ≡ plain.Answer x ns → is_answer (Some w) ≡ true
means-answer J (reply.Answer ps es) x ns h = refl
means-answer J (reply.Newer v) x ns h = cc
means-answer J reply.NoBucket x ns h = cc
means-answer J reply.Differs x ns h = cc
means-answer J reply.NoMemory x ns h = cc

-- pieces are named among themselves
named-later : (q p : Piece) (ps : List Piece) → names ps p.bucket p.serial ≡ true → names (q ∷ ps) p.bucket p.serial ≡ true
named-later q p ps h = by (same_bucket q.bucket p.bucket) (eqb q.serial p.serial)
  where
    by : (a b : Bool) → cond a (cond b true (names ps p.bucket p.serial)) (names ps p.bucket p.serial) ≡ true
    by true true = refl
    by true false = h
    by false b = h

own-names : (ps : List Piece) (p : Piece) → Contains ps p → names ps p.bucket p.serial ≡ true
own-names [] p h = absurd (contains-none p h)
own-names (q ∷ ps) p (zero, lt, is) =
    rw (ap (λ (x : Piece). same_bucket x.bucket p.bucket) is ∙ same_bucket-refl p.bucket, ap (λ (x : Piece). eqb x.serial p.serial) is ∙ eq-eqb p.serial p.serial refl) refl
own-names (q ∷ ps) p (suc k, lt, is) = named-later q p ps (own-names ps p (k, omega arith, is))

-- ---- what is told

-- other events sent nothing and began no round
told : (J K : List LaneEvent) (lane : Low) (d : ℕ) (s : ClusterState) (r : RoundState) (i : ℕ) → ((b : Low) → running s.version b (history K) ≡ running s.version b (history J))
    → ((test : Message → Bool) → was_sent test (history K) ≡ was_sent test (history J)) → KnowsRoundOf i lane J d s r
    → (shown : List NodePieces) (union : Entries) (holders : ℕ) → AreAnswers i K s r.row r.readers r.receivers shown union holders
    → KnowsRoundOf i lane K d s (record r { awaited = None; shown = shown; union = union; holders = holders })
told J K lane d s r i same_running same_sent w shown union holders a = record {
  valid = w.valid;
  origin_is = w.origin_is;
  under_way = same_running r.row ∙ w.under_way;
  only = λ b h. w.only b (sym (same_running b) ∙ h);
  reads_are = λ n. same_sent (is_of is_read s.version i n) ∙ w.reads_are n;
  applies_are = λ n. same_sent (is_of is_apply s.version i n) ∙ w.applies_are n;
  order = w.order;
  reading = λ n h e. cc;
  receivers_serve = w.receivers_serve;
  answers = a;
}

pub unread : (lane : Low) (J : List LaneEvent) (d : ℕ) (s : ClusterState) (r : RoundState) (n : ℕ) → KnowsRound lane J d s r → KnowsRound lane J d s (after_read r n None)
unread lane J d s r n w = told J J lane d s r (round_of s.version r.row (history J)) (λ b. refl) (λ test. refl) w r.shown r.union r.holders w.answers

pub unapplied : (lane : Low) (J : List LaneEvent) (d : ℕ) (s : ClusterState) (r after : RoundState) (n : ℕ) → KnowsRound lane J d s r → IsAfterApply r after n None → KnowsRound lane J d s after
unapplied lane J d s r after n w h = subst (λ (x : RoundState). KnowsRound lane J d s x) (sym h.rest) (told J J lane d s r (round_of s.version r.row (history J)) (λ b. refl) (λ test. refl) w r.shown r.union after.holders (let a = w.answers in record {
  readers_are = a.readers_are;
  receivers_are = a.receivers_are;
  shown_are = a.shown_are;
  pieces_are = a.pieces_are;
  reading = a.reading;
  union_is = a.union_is;
  written = a.written;
  lies = a.lies;
  holders_are = λ j. (λ e. (a.holders_are j).0 (same j ∙ e), λ x. sym (same j) ∙ (a.holders_are j).1 x);
}))
  where
    none : (t : Bool) → (t || false) ≡ t
    none true = refl
    none false = refl

    same : (j : ℕ) → has_node r.holders j ≡ has_node after.holders j
    same j = sym (none (has_node r.holders j)) ∙ sym (h.holders j)

-- ---- the reply

module _ (lane : Low) (rules : Rules) (J : List LaneEvent) (newest : Option ClusterState) (last : ℕ) (nodes : List Node) (parts : List Part) (keep : Keeps lane rules J newest last nodes parts)
    (d : ℕ) (s : ClusterState) (r : RoundState) (know : KnowsRound lane J d s r) (number : ℕ) (m : Letter) (y : Reply) (now : List Node) (wait : IsAwaited J r number m) (runs : stopped m.receiver (history J) ≡ false) (taken : IsTakenBy nodes now m y) where
  abbrev S : Setting
  S = setting_of lane rules

  abbrev H : Journal
  H = history J

  abbrev v : ℕ
  v = s.version

  abbrev i : ℕ
  i = round_of s.version r.row (history J)

  abbrev x : Message
  x = ((wait.just).flight).sending

  abbrev z : plain.Reply
  z = meaning_reply J (noted_reply y)

  abbrev taking : Journal
  taking = plain.Delivered number z ∷ history J

  abbrev K : List LaneEvent
  K = event.Returned number ∷ delivered number y ∷ J

  legal : Legal S.acks (state_of H) H
  legal = meant-legal S J keep.legal

  m-version : m.version ≡ v
  m-version = ap (λ (w : Letter). w.version) wait.is ∙ ap (λ o. o.version) know.origin_is

  x-version : x.version ≡ v
  x-version = ((wait.just).flight).version_is ∙ m-version

  x-round : x.round ≡ i
  x-round = wait.of_round x ((wait.just).flight).was_sent ∙ ap (λ (w : ℕ). round_of w r.row H) m-version

  x-body : x.body ≡ meant (body_of r)
  x-body = ((wait.just).flight).body_is ∙ ap (λ (w : Letter). meant w.body) wait.is

  one-message : (o : Message) → sent number H ≡ Some o → x ≡ o
  one-message o h = let w = ((wait.just).flight).was_sent in let both = sym w ∙ h in cc

  first : first_reply number taking ≡ Some z
  first = ap (λ (o : Option plain.Reply). or_else o (only_if (eqb number number) z)) (wait.just).unreplied ∙ ap (λ (t : Bool). only_if t z) (eq-eqb number number refl)

  is-taken : IsTaken S J number m (node_in nodes m.receiver) (node_in now m.receiver) y
  is-taken = record { legal = keep.legal; flight = (wait.just).flight; runs = runs; keeps = keep.nodes_are m.receiver; takes = taken.takes }

  brought : BringsBack (λ t. entry_at t J) m.body y
  brought = taken-back S J number m (node_in nodes m.receiver) (node_in now m.receiver) y is-taken

  union-later : (did : ℕ → Bool) → IsUnion v i H did r.union → IsUnion v i (history K) did r.union
  union-later did h = union-stays v i taking (plain.Returned number) did r.union (union-stays v i H (plain.Delivered number z) did r.union h)

  answered-later : (n : ℕ) → AnsweredApply v i n r.row H → AnsweredApply v i n r.row (history K)
  answered-later n a = answered-stays v i n r.row taking (plain.Returned number) (answered-stays v i n r.row H (plain.Delivered number z) a)

  knows-told : (shown : List NodePieces) (union : Entries) (holders : ℕ) → AreAnswers i K s r.row r.readers r.receivers shown union holders
      → KnowsRound lane K d s (record r { awaited = None; shown = shown; union = union; holders = holders })
  knows-told shown union holders a = told J K lane d s r i (λ b. refl) (λ test. refl) know shown union holders a

  -- ---- to a Read

  module _ (none : r.applies ≡ 0) where
    is-body : body_of r ≡ body.Read r.row None
    is-body = ap (λ (a : ℕ). cond (eqb a 0) (body.Read r.row None) (body.Apply r.row r.union)) none

    x-read : x.body ≡ plain.Read r.row
    x-read = x-body ∙ ap meant is-body

    no-apply : NoApply taking number v i r.row
    no-apply o h e f u is = let same = one-message o h in let both = sym x-read ∙ ap (λ (w : Message). w.body) same ∙ is in cc

    apply-back : (n : ℕ) → AnsweredApply v i n r.row (history K) → AnsweredApply v i n r.row H
    apply-back n a = delivered-back S.acks (state_of H) H legal v i n r.row number z (returned-back v i n r.row taking number no-apply a)

    heard : (n : ℕ) (o : Option Given) → given_by z ≡ o → answer v i n (history K) ≡ or_else (answer v i n H) (cond (eqb m.receiver n) o None)
    heard n o e = ap (or_else (answer v i n H)) (by_sent (sent number H) (first_reply number taking) ((wait.just).flight).was_sent first)
      where
        by_sent : (a : Option Message) (b : Option plain.Reply) → a ≡ Some x → b ≡ Some z → answer_of v i n a b ≡ cond (eqb m.receiver n) o None
        by_sent a b f g = rw (f, g, ap is_read x-read, eq-eqb x.version v x-version, eq-eqb x.round i x-round, ((wait.just).flight).receiver_is, e) refl

    asked : IsReading r m.receiver
    asked = know.reading m.receiver none wait.awaited

    answers-refused : given_by z ≡ None → AreAnswers i K s r.row r.readers r.receivers r.shown r.union r.holders
    answers-refused e = let a = know.answers in record {
      readers_are = a.readers_are;
      receivers_are = a.receivers_are;
      shown_are = λ n. a.shown_are n ∙ ap is_some (sym (heard n None e ∙ or-none (answer v i n H) (eqb m.receiver n)));
      pieces_are = λ p h. named-still (sym (heard p.node None e ∙ or-none (answer v i p.node H) (eqb m.receiver p.node))) (a.pieces_are p h);
      reading = a.reading;
      union_is = union-later _ a.union_is;
      written = a.written;
      lies = a.lies;
      holders_are = λ n. (λ h. answered-later n ((a.holders_are n).0 h), λ h. (a.holders_are n).1 (apply-back n h));
    }

    module _ (ps : List Piece) (es : Entries) (is : y ≡ reply.Answer ps es) where
      abbrev g : Given
      g = record { content = content J (stamps_of es); names = names ps }

      abbrev shown : List NodePieces
      shown = r.shown ++ shown_by m.receiver ps es ∷ []

      given : given_by z ≡ Some g
      given = ap (λ (w : Reply). given_by (meaning_reply J (noted_reply w))) is

      brings : BringsBack (λ t. entry_at t J) (body.Read r.row None) (reply.Answer ps es)
      brings = subst (λ (w : LetterBody). BringsBack (λ t. entry_at t J) w (reply.Answer ps es)) (ap (λ (w : Letter). w.body) wait.is ∙ is-body) (subst (λ (w : Reply). BringsBack (λ t. entry_at t J) m.body w) is brought)

      shows : (n : ℕ) → did_show n shown ≡ (did_show n r.shown || (eqb m.receiver n || false))
      shows n = list_any-append (λ p. eqb p.node n) r.shown (shown_by m.receiver ps es ∷ [])

      unanswered : answer v i m.receiver H ≡ None
      unanswered = by (answer v i m.receiver H) refl
        where
          by : (o : Option Given) → answer v i m.receiver H ≡ o → o ≡ None
          by None e = refl
          by (Some h) e = absurd (true≢false (sym (ap is_some e) ∙ sym ((know.answers).shown_are m.receiver) ∙ asked.unshown))

      gave : answer v i m.receiver (history K) ≡ Some g
      gave = heard m.receiver (Some g) given ∙ ap (λ (o : Option Given). or_else o (cond (eqb m.receiver m.receiver) (Some g) None)) unanswered ∙ ap (λ (t : Bool). cond t (Some g) None) (eq-eqb m.receiver m.receiver refl)

      reads : (n : ℕ) → did_show n shown ≡ true → has_node r.readers n ≡ true
      reads n h = elim (either (did_show n r.shown) (eqb m.receiver n) (sym (shows n) ∙ h)) [
        | inl old ↦ (know.answers).reading n old
        | inr new ↦ subst (λ (j : ℕ). has_node r.readers j ≡ true) (eqb-true m.receiver n new) asked.reader
      ]

      -- an answer that was there stays the first one
      named-before : (p : NodePieces) → IsNamed (answer v i p.node H) p.pieces → IsNamed (answer v i p.node (history K)) p.pieces
      named-before p n = named-still (sym (heard p.node (Some g) given ∙ ap (λ (o : Option Given). or_else o (cond (eqb m.receiver p.node) (Some g) None)) n.given))
          (record { answer = n.answer; given = refl; names = n.names; names_are = n.names_are })

      named : (p : NodePieces) → Contains shown p → IsNamed (answer v i p.node (history K)) p.pieces
      named p h = elim (Contains-append_cases r.shown (shown_by m.receiver ps es ∷ []) p h) [
        | inl old ↦ named-before p ((know.answers).pieces_are p old)
        | inr new ↦ subst (λ (q : NodePieces). IsNamed (answer v i q.node (history K)) q.pieces) (contains-one (shown_by m.receiver ps es) p new)
            (record { answer = g; given = gave; names = own-names ps; names_are = refl })
      ]

      unites : IsUnion v i (history K) (λ n. did_show n shown) (joined r.union es)
      unites = union-at v i (history K) (λ n. eqb n m.receiver || did_show n r.shown) (λ n. did_show n shown) (joined r.union es) same
          (union-joins v i (history K) (λ n. did_show n r.shown) r.union m.receiver g es (union-later _ (know.answers).union_is) gave (λ id. content-is J es brings.0 id))
        where
          turned : (a b : Bool) → b ≡ true → (a || b) ≡ true
          turned true b h = refl
          turned false b h = h

          same : (n : ℕ) → did_show n shown ≡ true → (eqb n m.receiver || did_show n r.shown) ≡ true
          same n h = elim (either (did_show n r.shown) (eqb m.receiver n) (sym (shows n) ∙ h)) [
            | inl old ↦ turned (eqb n m.receiver) (did_show n r.shown) old
            | inr new ↦ with-more (eqb n m.receiver) (did_show n r.shown) (eq-eqb n m.receiver (sym (eqb-true m.receiver n new)))
          ]

      answers-read : AreAnswers i K s r.row r.readers r.receivers shown (joined r.union es) r.holders
      answers-read = let a = know.answers in record {
        readers_are = a.readers_are;
        receivers_are = a.receivers_are;
        shown_are = λ n. shows n ∙ ap (λ (t : Bool). t || (eqb m.receiver n || false)) (a.shown_are n) ∙ sym (or-some (answer v i n H) (eqb m.receiver n) g) ∙ ap is_some (sym (heard n (Some g) given));
        pieces_are = named;
        reading = reads;
        union_is = unites;
        written = written-apply (λ t. entry_at t J) r.union es brings.0 a.written;
        lies = union-lies r.row r.union es a.lies brings.1;
        holders_are = λ n. (λ h. answered-later n ((a.holders_are n).0 h), λ h. (a.holders_are n).1 (apply-back n h));
      }

    pub heard-read : (w : Reply) → y ≡ w → KnowsRound lane K d s (after_read r m.receiver (Some w))
    heard-read (reply.Answer ps es) e = knows-told (r.shown ++ shown_by m.receiver ps es ∷ []) (joined r.union es) r.holders (answers-read ps es e)
    heard-read (reply.Newer w) e = knows-told r.shown r.union r.holders (answers-refused (ap (λ (w : Reply). given_by (meaning_reply J (noted_reply w))) e))
    heard-read reply.NoBucket e = knows-told r.shown r.union r.holders (answers-refused (ap (λ (w : Reply). given_by (meaning_reply J (noted_reply w))) e))
    heard-read reply.Differs e = knows-told r.shown r.union r.holders (answers-refused (ap (λ (w : Reply). given_by (meaning_reply J (noted_reply w))) e))
    heard-read reply.NoMemory e = knows-told r.shown r.union r.holders (answers-refused (ap (λ (w : Reply). given_by (meaning_reply J (noted_reply w))) e))

  -- ---- to an Apply

  module _ (some : 0 < r.applies) (after : RoundState) (told : IsAfterApply r after m.receiver (Some y)) where
    union-body : body_of r ≡ body.Apply r.row r.union
    union-body = ap (λ (t : Bool). cond t (body.Read r.row None) (body.Apply r.row r.union)) (more r.applies some)
      where
        more : (a : ℕ) → 0 < a → eqb a 0 ≡ false
        more a h = grind (arith, nat_tests)

    x-apply : x.body ≡ meant (body.Apply r.row r.union)
    x-apply = x-body ∙ ap meant union-body

    no-read : NoRead taking number v i
    no-read o h e f c is = let same = one-message o h in let both = sym x-apply ∙ ap (λ (w : Message). w.body) same ∙ is in cc

    holds : (n : ℕ) → has_node after.holders n ≡ true → AnsweredApply v i n r.row (history K)
    holds n h = elim (one-of (has_node r.holders n) (is_answer (Some y)) (eqb n m.receiver) (sym (told.holders n) ∙ h)) [
      | inl old ↦ answered-later n (((know.answers).holders_are n).0 old)
      | inr new ↦ (let w = is-answer y new.0 in record {
        number = number;
        message = x;
        union = _;
        content = content J (stamps_of w.1);
        names = names w.0;
        was_sent = ((wait.just).flight).was_sent;
        receiver = ((wait.just).flight).receiver_is ∙ sym (eqb-true n m.receiver new.1);
        version = x-version;
        round = x-round;
        body = x-apply;
        reply = first ∙ ap (λ (w : Reply). Some (meaning_reply J (noted_reply w))) w.2;
        back = ap (λ (t : Bool). cond t true (returned number taking)) (eq-eqb number number refl);
      })
    ]

    held : (n : ℕ) → AnsweredApply v i n r.row (history K) → has_node after.holders n ≡ true
    held n a = told.holders n ∙ by (eqb number a.number) refl a.back
      where
        from-old : AnsweredApply v i n r.row taking → (has_node r.holders n || (is_answer (Some y) && eqb n m.receiver)) ≡ true
        from-old b = with-more (has_node r.holders n) (is_answer (Some y) && eqb n m.receiver) (((know.answers).holders_are n).1 (delivered-back S.acks (state_of H) H legal v i n r.row number z b))

        from-new : number ≡ a.number → (has_node r.holders n || (is_answer (Some y) && eqb n m.receiver)) ≡ true
        from-new e =
            let same = one-message a.message (ap (λ (j : ℕ). sent j H) e ∙ a.was_sent) in
            let to : n ≡ m.receiver = sym a.receiver ∙ ap (λ (w : Message). w.receiver) (sym same) ∙ ((wait.just).flight).receiver_is in
            let both = sym first ∙ ap (λ (j : ℕ). first_reply j taking) e ∙ a.reply in
            let is : z ≡ plain.Answer a.content a.names = cc in
            rw (means-answer J y a.content a.names is, eq-eqb n m.receiver to) (at_last (has_node r.holders n))
          where
            at_last : (t : Bool) → (t || (true && true)) ≡ true
            at_last true = refl
            at_last false = refl

        by : (t : Bool) → eqb number a.number ≡ t → cond t true (returned a.number taking) ≡ true → (has_node r.holders n || (is_answer (Some y) && eqb n m.receiver)) ≡ true
        by true e h = from-new (eqb-true number a.number e)
        by false e h = from-old (answered-in v i n r.row (history K) taking a a.was_sent a.reply h)

    pub heard-apply : KnowsRound lane K d s after
    heard-apply = subst (λ (w : RoundState). KnowsRound lane K d s w) (sym told.rest) (knows-told r.shown r.union after.holders (let a = know.answers in record {
      readers_are = a.readers_are;
      receivers_are = a.receivers_are;
      shown_are = λ n. a.shown_are n ∙ ap is_some (sym (answer-other v i n taking number no-read));
      pieces_are = λ p h. named-still (sym (answer-other v i p.node taking number no-read)) (a.pieces_are p h);
      reading = a.reading;
      union_is = union-later _ a.union_is;
      written = a.written;
      lies = a.lies;
      holders_are = λ n. (holds n, held n);
    }))
