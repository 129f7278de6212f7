-- A message that is taken: its delivery may come next, and the node is what the journal says then.
use Rattle.std.proofs.Common.{◌≡◌, ℕ, ◌<◌, ◌≤◌, false, List, ◌∷◌, Some, inl, inr, refl, sym, ap, ◌∙◌, subst}
use Rattle.std.proofs.lemmas.Bool.{cases_lt}
use Rattle.pieces.specs.Runs.{AreRuns}
use Rattle.pieces.specs.Told.{Accepted}
use Rattle.entry_maps.specs.Stamps.{stamps_of}
use Rattle.messages.specs.declared.message.Message.{Message}
use Rattle.messages.specs.declared.reply.Reply.{Reply}
use Rattle.messages.specs.declared.reply.Reply.TheVariants as reply
use Rattle.messages.specs.declared.noted.NotedReply.{NotedReply}
use Rattle.messages.specs.declared.noted.NotedReply.TheVariants as noted
use Rattle.messages.specs.Noting.{noted_reply}
use Rattle.replica_store.specs.Replicas.{IsReplica}
use Rattle.node_model.specs.Nodes.{Node, adopt, stored}
use Rattle.node_model.specs.Takes.{Treats, told, shown_entries, shown_pieces}
use Rattle.lane_journals.specs.Readers as readers
use Rattle.lane_journals.specs.Readers.{sent, stopped, version}
use Rattle.lane_journals.specs.Legal.{Replies}
use Rattle.lane_journals.specs.Meanings.{meaning_reply, history}
use Rattle.lane_journals.specs.Naming.{NamesShown, NamesReplied}
use Rattle.lane_journals.specs.Places.{Setting}
use Rattle.lane_journals.specs.KeptJournals.{IsLegalStep}
use Rattle.lane_journals.specs.declared.event.LaneEvent.{LaneEvent}
use Rattle.lane_journals.specs.declared.event.LaneEvent.TheVariants.{Delivered}
use Rattle.lane_keeping.specs.NodeKeeping.{NodeKeeps}
use Rattle.lane_keeping.specs.Replaying.{IsTaken}
use Rattle.lane_keeping.proofs.Bodies.{adopt-entries, adopt-pieces}
use Rattle.lane_keeping.proofs.Validity.{SmallKeys, valid-taken}
use Rattle.lane_keeping.proofs.Replays.{refused, too_old, answered}
use Rattle.lane_keeping.proofs.Permits.{replies-no_bucket, replies-differs, replies-no_memory, replies-answer, names-shown}

-- what a reply is and leaves
record Leaves (J : List LaneEvent) (k : ℕ) (m : readers.Message) (y : Node) (r : NotedReply) : Type 0 where
  replies : Replies (history J) m (meaning_reply J r)
  names : NamesReplied J k r
  keeps : NodeKeeps (Delivered k r ∷ J) m.receiver y

module _ (laws : AreRuns) (small : SmallKeys) (S : Setting) (J : List LaneEvent) (k : ℕ) (message : Message) (x y : Node) (r : Reply) (t : IsTaken S J k message x y r) where
  abbrev m : readers.Message
  m = (t.flight).sending

  keeps-at : NodeKeeps J m.receiver x
  keeps-at = subst (λ n. NodeKeeps J n x) (sym (t.flight).receiver_is) t.keeps

  treated : x.version ≤ m.version → (w : Reply) → Treats (adopt m.version x) message.body y w → Leaves J k m y (noted_reply w)
  treated le (reply.Answer ps es) u =
      let accepted : told message.body x.pieces ≡ Accepted = ap (told message.body) (sym (adopt-pieces m.version x)) ∙ u.0 in
      let pieces_is : shown_pieces message.body x.pieces ≡ ps = sym (u.1.0 ∙ ap (shown_pieces message.body) (adopt-pieces m.version x)) in
      let entries_is : shown_entries message.body x.entries ≡ es = sym (u.1.1.0 ∙ ap (shown_entries message.body) (adopt-entries m.version x)) in
      subst (λ qs. Leaves J k m y (noted.Answer qs (stamps_of es))) pieces_is (subst (λ fs. Leaves J k m y (noted.Answer (shown_pieces message.body x.pieces) (stamps_of fs))) entries_is (record {
        replies = replies-answer laws S J t.legal x m.receiver keeps-at k m (t.flight).was_sent refl message.body (t.flight).body_is le accepted;
        names = λ other sent. subst (λ z. NamesShown J z (shown_pieces message.body x.pieces) (stamps_of (shown_entries message.body x.entries))) (one other sent)
            (names-shown laws S J t.legal x m.receiver keeps-at k m (t.flight).was_sent refl message.body (t.flight).body_is le);
        keeps = subst (λ z. NodeKeeps (Delivered k (noted.Answer (shown_pieces message.body x.pieces) (stamps_of (shown_entries message.body x.entries))) ∷ J) m.receiver z) (sym u.1.1.1)
            (answered laws J k m (t.flight).was_sent message.body (t.flight).body_is ((t.flight).whole).bucket ((t.flight).whole).inside (t.flight).brings x keeps-at le accepted (stamps_of (shown_entries message.body x.entries))
            (subst (λ z. IsReplica (stored z)) u.1.1.1 (valid-taken laws small message (t.flight).whole x y r (t.keeps).valid t.takes)));
      }))
    where
      one : (other : readers.Message) → sent k (history J) ≡ Some other → m ≡ other
      one other s = let w = (t.flight).was_sent in let both = sym w ∙ s in cc
  treated le (reply.Newer v) u = absurd u
  treated le reply.NoBucket u = record {
    replies = replies-no_bucket laws S J t.legal x m.receiver keeps-at k m (t.flight).was_sent refl message.body (t.flight).body_is le (ap (told message.body) (sym (adopt-pieces m.version x)) ∙ u.0);
    names = tt;
    keeps = subst (λ z. NodeKeeps (Delivered k noted.NoBucket ∷ J) m.receiver z) (sym u.1) (refused J k m (t.flight).was_sent x keeps-at noted.NoBucket tt le);
  }
  treated le reply.Differs u = record {
    replies = replies-differs laws S J t.legal x m.receiver keeps-at k m (t.flight).was_sent refl message.body (t.flight).body_is le (ap (told message.body) (sym (adopt-pieces m.version x)) ∙ u.0);
    names = tt;
    keeps = subst (λ z. NodeKeeps (Delivered k noted.Differs ∷ J) m.receiver z) (sym u.1) (refused J k m (t.flight).was_sent x keeps-at noted.Differs tt le);
  }
  treated le reply.NoMemory u = record {
    replies = replies-no_memory laws S J t.legal x m.receiver keeps-at k m (t.flight).was_sent refl message.body (t.flight).body_is le;
    names = tt;
    keeps = subst (λ z. NodeKeeps (Delivered k noted.NoMemory ∷ J) m.receiver z) (sym u.1) (refused J k m (t.flight).was_sent x keeps-at noted.NoMemory tt le);
  }

  newer : message.version < x.version → (r ≡ reply.Newer x.version) × (y ≡ x) → Leaves J k m y (noted_reply r)
  newer less u =
      let lt : m.version < x.version = subst (λ v. v < x.version) (sym (t.flight).version_is) less in
      subst (λ z. Leaves J k m y (noted_reply z)) (sym u.0) (record {
        replies = (lt, keeps-at.version_is);
        names = tt;
        keeps = subst (λ z. NodeKeeps (Delivered k (noted.Newer x.version) ∷ J) m.receiver z) (sym u.1) (too_old J k m (t.flight).was_sent x keeps-at x.version lt);
      })

  leaves : Leaves J k m y (noted_reply r)
  leaves = elim (cases_lt message.version x.version) [
    | inl less ↦ newer less (t.takes.too_old less)
    | inr le ↦ treated (subst (λ v. x.version ≤ v) (sym (t.flight).version_is) le) r (subst (λ v. Treats (adopt v x) message.body y r) (sym (t.flight).version_is) (t.takes.treated le))
  ]

  pub may-deliver : IsLegalStep S J (Delivered k (noted_reply r))
  may-deliver = record {
    noted = leaves.names;
    permitted = record {
      message = m;
      was_sent = (t.flight).was_sent;
      runs = subst (λ n. stopped n (history J) ≡ false) (sym (t.flight).receiver_is) t.runs;
      reply = leaves.replies;
    };
    placed = tt;
    ended = tt;
  }

  pub keeps-taken : NodeKeeps (Delivered k (noted_reply r) ∷ J) message.receiver y
  keeps-taken = subst (λ n. NodeKeeps (Delivered k (noted_reply r) ∷ J) n y) (t.flight).receiver_is leaves.keeps
