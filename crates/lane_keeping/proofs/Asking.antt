-- What a lane keeps over the events of an Ask.
use Rattle.std.proofs.Common.{◌≡◌, ℕ, ◌+◌, ◌<◌, Bool, true, false, nat_lt, List, [], ◌∷◌, cond, Option, Some, None, is_some, inl, inr, refl, sym, ap, ◌∙◌, subst, eqb, eq-eqb}
use Rattle.std.proofs.lemmas.Bool.{cases_eq, cases_lt}
use Rattle.bucket_ids.specs.Buckets.{Low, IsBucket}
use Rattle.bucket_ids.specs.Paths.{last_path}
use Rattle.cluster_states.specs.declared.cluster_state.ClusterState.{ClusterState}
use Rattle.ideal_nodes.specs.Placement.{IsOwner}
use Rattle.pieces.specs.declared.piece.Piece.{Piece}
use Rattle.pieces.specs.Runs.{IsLaid}
use Rattle.replica_store.specs.Replicas.{IsReplica}
use Rattle.messages.specs.declared.message.Message.{Message}
use Rattle.messages.specs.declared.body.Body.{Body}
use Rattle.messages.specs.declared.body.Body.TheVariants as body
use Rattle.messages.specs.declared.reply.Reply.{Reply}
use Rattle.messages.specs.declared.reply.Reply.TheVariants as reply
use Rattle.messages.specs.Noting.{noted_reply}
use Rattle.entry_maps.specs.Stamps.{stamps_of}
use Rattle.node_model.specs.Nodes.{Node, new_node, adopt, stored}
use Rattle.node_model.specs.Takes.{Takes, Treats}
use Rattle.distributor_part.specs.declared.rules.Rules.{Rules}
use Rattle.distributor_part.specs.declared.stage.Stage.{Stage}
use Rattle.node_sets.specs.Members.{has_node}
use Rattle.bucket_db.specs.Rows.{Rows, buckets_of}
use Rattle.distributor_part.specs.Parts.{Part, new_part, rows_of}
use Rattle.distributor_part.specs.Steps.{IsAfterAnswer, Opens, buckets_shown}
use Rattle.lane_journals.specs.Events as plain
use Rattle.lane_journals.specs.Readers as readers
use Rattle.lane_journals.specs.Readers.{or_else, only_if, sent, began, closed, first_reply, returned, held, asked, opened}
use Rattle.lane_journals.specs.Legal.{Parted}
use Rattle.lane_journals.specs.RowLists.{row_with, rows}
use Rattle.lane_journals.specs.Meanings.{history, entry_at, meaning_reply, content}
use Rattle.lane_journals.specs.Places.{Setting}
use Rattle.lane_journals.specs.KeptJournals.{IsLegalStep}
use Rattle.lane_journals.specs.declared.event.LaneEvent.{LaneEvent}
use Rattle.lane_journals.specs.declared.event.LaneEvent.TheVariants as event
use Rattle.lane_keeping.specs.NodeKeeping.{NodeKeeps}
use Rattle.lane_keeping.specs.Flights.{IsInFlight, Brings, IsWhole, meant}
use Rattle.lane_keeping.specs.Replaying.{sending, delivered}
use Rattle.lane_keeping.specs.LaneKeeping.{setting_of, IsIdle, node_in, AreShown, KnowsOpening, IsRowOf, row_by, PartKeeps, part_in, Keeps}
use Rattle.lane_keeping.specs.Asking.{IsAsking, IsAlike, KnowsTheSame, IsPartTold, IsTakenBy, OthersStay, IsToldTo}
use Rattle.lane_keeping.specs.Laws.{IsSentNext}
use Rattle.lane_keeping.proofs.Partitions.{In}
use Rattle.lane_keeping.proofs.Acting.{HoldsAt}
use Rattle.lane_keeping.proofs.Owners.{holds}
use Rattle.lane_keeping.proofs.Pushes.{may-ask, keeps-heard}
use Rattle.lane_keeping.proofs.Openings.{IsAskBack, knows-refused, knows-answered, keeps-returned, keeps-opened}

-- ---- what is told

pub same-awaited : (p q : Part) → q ≡ record p { awaited = None } → KnowsTheSame p q
same-awaited p q e = record {
  alike = record { number_is = ap (λ x. x.number) e; lane_is = ap (λ x. x.lane) e; rules_are = ap (λ x. x.rules) e; state_is = ap (λ x. x.state) e; rows_are = ap (λ x. x.rows) e };
  answered_is = ap (λ x. x.answered) e;
  shown_is = ap (λ x. x.shown) e;
}

alike-of : (p q : Part) (n : ℕ) (r : Reply) → IsPartTold p q n r → IsAlike p q
alike-of p q n (reply.Answer ps es) t = t.alike
alike-of p q n (reply.Newer v) t = t.alike
alike-of p q n reply.NoBucket t = t.alike
alike-of p q n reply.Differs t = t.alike
alike-of p q n reply.NoMemory t = t.alike

pub told-by : (p q : Part) (n : ℕ) (r : Reply) → IsAfterAnswer p q n (Some r) → IsPartTold p q n r
told-by p q n (reply.Answer ps es) h = record {
  alike = record { number_is = ap (λ x. x.number) h.after; lane_is = ap (λ x. x.lane) h.after; rules_are = ap (λ x. x.rules) h.after; state_is = ap (λ x. x.state) h.after; rows_are = ap (λ x. x.rows) h.after };
  marked = h.marked;
  shown_is = ap (λ x. x.shown) h.after;
}
told-by p q n (reply.Newer v) h = same-awaited p q h
told-by p q n reply.NoBucket h = same-awaited p q h
told-by p q n reply.Differs h = same-awaited p q h
told-by p q n reply.NoMemory h = same-awaited p q h

-- ---- pieces of an answer

laid-in : (from : ℕ) (ps : List Piece) → IsLaid from ps → (b : Low) → In b (buckets_shown ps) → IsBucket b
laid-in from [] l b i = absurd i
laid-in from (p ∷ ps) l b (inl e) = subst IsBucket e l.1
laid-in from (p ∷ ps) l b (inr i) = laid-in (last_path p.bucket + 1) ps l.2 b i

adopt-replica : (v : ℕ) (x : Node) → IsReplica (stored x) → IsReplica (stored (adopt v x))
adopt-replica v x h = by_test (nat_lt x.version v)
  where
    by_test : (t : Bool) → IsReplica (stored (cond t (record { version = v; entries = x.entries; pieces = x.pieces; regions = []; serial = x.serial }) x))
    by_test true = h
    by_test false = h

treats-pieces : (old new : Node) (ps : List Piece) (es : _) → IsReplica (stored old) → Treats old body.Ask new (reply.Answer ps es) → (b : Low) → In b (buckets_shown ps) → IsBucket b
treats-pieces old new ps es valid t = subst (λ (qs : List Piece). (b : Low) → In b (buckets_shown qs) → IsBucket b) (sym t.1.0) (laid-in 0 old.pieces ((valid.holding).laid))

takes-pieces : (old new : Node) (m : Message) (ps : List Piece) (es : _) → m.body ≡ body.Ask → IsReplica (stored old) → Takes old m new (reply.Answer ps es) → (b : Low) → In b (buckets_shown ps) → IsBucket b
takes-pieces old new m ps es ask valid t = elim (cases_lt m.version old.version) [
  | inl less ↦ absurd (let e = (t.too_old less).0 in cc)
  | inr le ↦ treats-pieces (adopt m.version old) new ps es (adopt-replica m.version old valid) (subst (λ (b : Body). Treats (adopt m.version old) b new (reply.Answer ps es)) ask (t.treated le))
]

-- ---- the lane

module _ (lane : Low) (rules : Rules) where
  abbrev S : Setting
  S = setting_of lane rules

  module _ (J : List LaneEvent) (newest : Option ClusterState) (last : ℕ) (nodes : List Node) (parts : List Part) (keep : Keeps lane rules J newest last nodes parts) where
    -- the Ask of an owner may be sent
    pub asks : (d : ℕ) (m : Message) → IsAsking lane d (part_in lane rules parts d) m → IsLegalStep S J (sending (last + 1) m)
    asks d m a =
        let h = holds lane rules J newest last nodes parts keep d a.state a.heard in
        let own : IsOwner lane a.state m.sender = subst (λ (x : ℕ). IsOwner lane a.state x) (sym a.sender_is) a.owner in
        may-ask lane rules J newest last nodes parts keep m a.state a.body_is a.version_is (ap (λ (x : ℕ). held x (history J)) a.sender_is ∙ h.0) h.1 own ((h.2 a.owner).opened_as ∙ ap is_some a.unopened) a.serving

    -- its reply is returned
    module _ (number : ℕ) (m : Message) (r : Reply) (now : List Node) (flight : IsInFlight J number m) (taken : IsTakenBy nodes now m r) (keeps-taken : Keeps lane rules (delivered number r ∷ J) newest last now parts) where
      module _ (d : ℕ) (after : List Part) (asking : IsAsking lane d (part_in lane rules parts d) m) (unreplied : first_reply number (history J) ≡ None) (unreturned : returned number (history J) ≡ false)
          (told : IsToldTo lane rules parts after d m.receiver r) where
        abbrev p : Part
        p = part_in lane rules parts d

        abbrev q : Part
        q = part_in lane rules after d

        abbrev s : ClusterState
        s = asking.state

        abbrev K : List LaneEvent
        K = delivered number r ∷ J

        h : HoldsAt lane J d (Some s) p
        h = holds lane rules J newest last nodes parts keep d s asking.heard

        alike : IsAlike p q
        alike = alike-of p q m.receiver r told.told

        back : IsAskBack (history K) number s.version m.receiver (meaning_reply J (noted_reply r))
        back = record {
          message = flight.sending;
          was_sent = flight.was_sent;
          version = flight.version_is ∙ asking.version_is;
          receiver = flight.receiver_is;
          body = flight.body_is ∙ ap meant asking.body_is;
          replied = ap (λ (o : Option plain.Reply). or_else o (only_if (eqb number number) (meaning_reply J (noted_reply r)))) unreplied ∙ ap (λ (t : Bool). only_if t (meaning_reply J (noted_reply r))) (eq-eqb number number refl);
        }

        abbrev Knows : readers.Journal → Part → Type 0
        Knows H x = KnowsOpening (λ n. asked s.version n H) (opened s.version (history J)) (λ key. row_with key (rows s.version (history J))) s x

        by_reply : (w : Reply) → IsPartTold p q m.receiver w → IsAskBack (history K) number s.version m.receiver (meaning_reply J (noted_reply w))
            → ((ps : List Piece) (es : _) → w ≡ reply.Answer ps es → (b : Low) → In b (buckets_shown ps) → IsBucket b) → Knows (history K) p → Knows (plain.Returned number ∷ history K) q
        by_reply (reply.Answer ps es) t a pieces know = knows-answered s.version m.receiver number (history K) s p q t.alike (content J (stamps_of es)) ps a (opened s.version (history J)) (λ key. row_with key (rows s.version (history J)))
            asking.serving asking.unanswered asking.unopened (pieces ps es refl) t.marked t.shown_is know
        by_reply (reply.Newer v) t a pieces know = knows-refused s.version m.receiver number (history K) s p q t.alike (plain.Newer v) a refl (opened s.version (history J)) (λ key. row_with key (rows s.version (history J))) t.answered_is t.shown_is know
        by_reply reply.NoBucket t a pieces know = knows-refused s.version m.receiver number (history K) s p q t.alike plain.NoBucket a refl (opened s.version (history J)) (λ key. row_with key (rows s.version (history J))) t.answered_is t.shown_is know
        by_reply reply.Differs t a pieces know = knows-refused s.version m.receiver number (history K) s p q t.alike plain.Differs a refl (opened s.version (history J)) (λ key. row_with key (rows s.version (history J))) t.answered_is t.shown_is know
        by_reply reply.NoMemory t a pieces know = knows-refused s.version m.receiver number (history K) s p q t.alike plain.NoMemory a refl (opened s.version (history J)) (λ key. row_with key (rows s.version (history J))) t.answered_is t.shown_is know

        part : PartKeeps lane rules (event.Returned number ∷ K) d q
        part = let was = keep.parts_are d in record {
          number_is = alike.number_is ∙ was.number_is;
          lane_is = alike.lane_is ∙ was.lane_is;
          rules_are = alike.rules_are ∙ was.rules_are;
          heard = subst (λ (o : Option ClusterState). HoldsAt lane (event.Returned number ∷ K) d o q) (sym (alike.state_is ∙ asking.heard)) (
            h.0,
            h.1,
            λ own. by_reply r told.told back
                (λ ps es e. takes-pieces (node_in nodes m.receiver) (node_in now m.receiver) m ps es asking.body_is (keep.nodes_are m.receiver).valid (subst (λ (w : Reply). Takes (node_in nodes m.receiver) m (node_in now m.receiver) w) e taken.takes)) (h.2 own),
          );
        }

        pub keeps-back : Keeps lane rules (event.Returned number ∷ K) newest last now after
        unfolding back
        keeps-back = keeps-returned lane rules K newest last now parts after number d s flight.sending (meaning_reply J (noted_reply r)) q keeps-taken flight.was_sent back.version h.1 asking.owner back.replied unreturned part refl told.others

    -- a part that knows the same as before
    known : (d : ℕ) (p q : Part) → KnowsTheSame p q → (o : Option ClusterState) → HoldsAt lane J d o p → HoldsAt lane J d o q
    known d p q same None h = h
    known d p q same (Some s) h = (
      h.0,
      h.1,
      λ own. let know = h.2 own in record {
        answered_are = λ n. ap (λ (b : ℕ). has_node b n) same.answered_is ∙ know.answered_are n;
        serving = λ n e. know.serving n (sym (ap (λ (b : ℕ). has_node b n) same.answered_is) ∙ e);
        shown_are = λ e. subst (λ (bs : List Low). AreShown (λ n. asked s.version n (history J)) bs) (sym same.shown_is) (know.shown_are (sym (same.alike).rows_are ∙ e));
        opened_as = know.opened_as ∙ ap is_some (sym (same.alike).rows_are);
        rows_are = λ key. subst (λ (o : Option Rows). IsRowOf (row_by key (rows_of o)) (row_with key (rows s.version (history J)))) (sym (same.alike).rows_are) (know.rows_are key);
        parted = subst (λ (o : Option Rows). Parted (buckets_of (rows_of o))) (sym (same.alike).rows_are) know.parted;
      },
    )

    pub keeps-known : (d : ℕ) (after : List Part) → KnowsTheSame (part_in lane rules parts d) (part_in lane rules after d) → OthersStay lane rules parts after d → Keeps lane rules J newest last nodes after
    keeps-known d after same others = record {
      legal = keep.legal;
      newest_is = keep.newest_is;
      numbered = keep.numbered;
      nodes_are = keep.nodes_are;
      parts_are = λ e. elim (cases_eq e d) [
        | inl is ↦ subst (λ (z : ℕ). PartKeeps lane rules J z (part_in lane rules after z)) (sym is) here
        | inr off ↦ subst (λ (x : Part). PartKeeps lane rules J e x) (sym (others e off)) (keep.parts_are e)
      ];
    }
      where
        here : PartKeeps lane rules J d (part_in lane rules after d)
        here = let was = keep.parts_are d in let alike = same.alike in record {
          number_is = alike.number_is ∙ was.number_is;
          lane_is = alike.lane_is ∙ was.lane_is;
          rules_are = alike.rules_are ∙ was.rules_are;
          heard = subst (λ (o : Option ClusterState). HoldsAt lane J d o (part_in lane rules after d)) (sym alike.state_is)
              (known d (part_in lane rules parts d) (part_in lane rules after d) same (part_in lane rules parts d).state was.heard);
        }

    -- whom it asked and how far its round is change nothing that it knows
    pub keeps-alike : (d : ℕ) (after : List Part) (asked : ℕ) (awaited : Option ℕ) (stage : Stage) → part_in lane rules after d ≡ record (part_in lane rules parts d) { asked = asked; awaited = awaited; stage = stage }
        → OthersStay lane rules parts after d → Keeps lane rules J newest last nodes after
    keeps-alike d after asked awaited stage e others = keeps-known d after (record {
      alike = record { number_is = ap (λ x. x.number) e; lane_is = ap (λ x. x.lane) e; rules_are = ap (λ x. x.rules) e; state_is = ap (λ x. x.state) e; rows_are = ap (λ x. x.rows) e };
      answered_is = ap (λ x. x.answered) e;
      shown_is = ap (λ x. x.shown) e;
    }) others

  -- ---- a lane in which nothing happened

  pub keeps-nothing : ((n : ℕ) → NodeKeeps [] n new_node) → Keeps lane rules [] None 0 [] []
  keeps-nothing begins = record {
    legal = tt;
    newest_is = λ v. refl;
    numbered = λ k m h. absurd (none k m h);
    nodes_are = begins;
    parts_are = λ d. record { number_is = refl; lane_is = refl; rules_are = refl; heard = refl };
  }
    where
      none : (k : ℕ) (m : readers.Message) → ◌≡◌ {A = Option readers.Message} None (Some m) → ⊥
      none k m h = cc

-- ---- the laws

module _ (lane : Low) (rules : Rules) (J : List LaneEvent) (newest : Option ClusterState) (last : ℕ) (nodes : List Node) (parts : List Part) (keep : Keeps lane rules J newest last nodes parts) where
  pub ask-sent : (sent : (m : Message) → IsLegalStep (setting_of lane rules) J (sending (last + 1) m) → Brings (λ s. entry_at s J) m.body → IsWhole m.body → IsSentNext lane rules J newest last nodes parts m)
      (d : ℕ) (m : Message) → IsAsking lane d (part_in lane rules parts d) m → IsSentNext lane rules J newest last nodes parts m
  ask-sent sent d m a = sent m (asks lane rules J newest last nodes parts keep d m a) (subst (λ (b : Body). Brings (λ s. entry_at s J) b) (sym a.body_is) tt) (subst IsWhole (sym a.body_is) (record { bucket = tt; inside = tt }))

  pub heard-newest : (now : List Part) (s : ClusterState) (d : ℕ) → newest ≡ Some s → IsIdle d (λ line. began line (history J)) (λ line. closed line (history J)) → ((w : ℕ) → held d (history J) ≡ Some w → w < s.version)
      → part_in lane rules now d ≡ new_part d lane rules (Some s) → OthersStay lane rules parts now d → Keeps lane rules (event.Heard d s.version ∷ J) newest last nodes now
  heard-newest now s d e idle below own other = subst (λ (o : Option ClusterState). Keeps lane rules (event.Heard d s.version ∷ J) o last nodes now) (sym e)
      (keeps-heard lane rules J last nodes parts now s d (subst (λ (o : Option ClusterState). Keeps lane rules J o last nodes parts) e keep) idle below own other)

  pub opened-by : (now : List Part) (d : ℕ) (bs : List Low) (o : Opens (part_in lane rules parts d) (part_in lane rules now d) bs) → IsOwner lane o.state d → OthersStay lane rules parts now d
      → Keeps lane rules (event.Opened d (o.state).version bs ∷ J) newest last nodes now
  opened-by now d bs o owner other = keeps-opened lane rules J newest last nodes parts now d o.state bs (part_in lane rules parts d) (part_in lane rules now d) keep refl (o.unopened).heard owner (o.unopened).unopened o.all o.rows refl other
