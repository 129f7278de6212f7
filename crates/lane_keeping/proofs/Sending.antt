-- A message that may be sent, and the entries that messages and answers bring.
use Rattle.std.proofs.Common.{◌≡◌, ℕ, Bool, true, false, cond, List, Option, Some, None, inl, inr, refl, sym, ap, ◌∙◌, subst}
use Rattle.std.proofs.lemmas.Bool.{cases_lt}
use Rattle.std.specs.FinMap as fin
use Rattle.documents.specs.declared.entry.Entry.{Entry}
use Rattle.entry_maps.specs.EntryCodes.{Entries}
use Rattle.entry_maps.specs.Entries.{in_bucket, newer_of, is_newer}
use Rattle.entry_maps.specs.Stamps.{stamps_of}
use Rattle.entry_maps.proofs.StampLaws.{stamps_of-rising}
use Rattle.entry_maps.specs.Joins.{joined}
use Rattle.entry_maps.proofs.JoinLaws.{get-joined}
use Rattle.pieces.specs.declared.piece.Piece.{Piece}
use Rattle.messages.specs.declared.message.Message.{Message}
use Rattle.messages.specs.declared.body.Body.{Body}
use Rattle.messages.specs.declared.body.Body.TheVariants as body
use Rattle.messages.specs.declared.reply.Reply.{Reply}
use Rattle.messages.specs.declared.reply.Reply.TheVariants as reply
use Rattle.messages.specs.Noting.{noted_body}
use Rattle.replica_store.specs.Replicas.{LieIn}
use Rattle.node_model.specs.Nodes.{Node, adopt}
use Rattle.node_model.specs.Takes.{Treats, shown_entries}
use Rattle.lane_journals.specs.Stamps.{Stamp, newer}
use Rattle.lane_journals.specs.Buckets.{Bucket, Id}
use Rattle.lane_journals.specs.Legal.{MaySend}
use Rattle.lane_journals.specs.States.{state_of}
use Rattle.lane_journals.specs.Meanings.{entry_at, id_in, history}
use Rattle.lane_journals.specs.Naming.{IsEntry, NamesSent}
use Rattle.lane_journals.specs.Places.{Setting, Owns, PlacedBody}
use Rattle.lane_journals.specs.KeptJournals.{IsLegalStep}
use Rattle.lane_journals.specs.declared.event.LaneEvent.{LaneEvent}
use Rattle.lane_keeping.specs.NodeKeeping.{stamp_of, AreWritten}
use Rattle.lane_keeping.specs.Flights.{meant, Brings, BringsBack, IsExact}
use Rattle.lane_keeping.specs.Replaying.{IsTaken, sending}
use Rattle.lane_keeping.proofs.Lists.{each-in}
use Rattle.lane_keeping.proofs.Bodies.{adopt-entries}
use Rattle.lane_keeping.proofs.Stamping.{Named, named-of, named-written, content-is, shown_in, stamp-cond, newer-picks, newer-none}
use Rattle.lane_keeping.proofs.Permits.{shown-sub}
use Rattle.lane_keeping.proofs.Flying.{noted-meant}

-- ---- what is sent

names-sent : (J : List LaneEvent) (x : Body) → Brings (λ s. entry_at s J) x → IsExact x → NamesSent J (noted_body x)
names-sent J (body.Store e) b i = (e.id, ap id_in b)
names-sent J (body.Apply c m) b i = (stamps_of-rising m, each-in (λ s. IsEntry J (stamps_of m) s) (stamps_of m) (λ s h. one s (named-of m s h)))
  where
    one : (s : Stamp) → Named m s → IsEntry J (stamps_of m) s
    one s n = record {
      id = n.id;
      wrote = named-written J m b s n;
      newest = content-is J m b n.id ∙ ap stamp_of n.there ∙ ap (λ (t : Stamp). Some t) n.stamped;
    }
names-sent J (body.Read c (Some id)) b i = i
names-sent J (body.Read c None) b i = tt
names-sent J body.Ask b i = tt
names-sent J (body.Delete c s) b i = tt
names-sent J (body.Split c) b i = tt
names-sent J (body.Join c) b i = tt
names-sent J (body.Ready c) b i = tt
names-sent J (body.Activate c) b i = tt

pub may-send : (S : Setting) (J : List LaneEvent) (number : ℕ) (m : Message) → Brings (λ s. entry_at s J) m.body → IsExact m.body
    → MaySend (state_of (history J)) (history J) number m.version m.sender m.receiver (meant m.body) → Owns S J m.sender m.version → PlacedBody S J m.version m.receiver (noted_body m.body)
    → IsLegalStep S J (sending number m)
may-send S J number m b i may owns placed = record {
  noted = names-sent J m.body b i;
  permitted = subst (λ x. MaySend (state_of (history J)) (history J) number m.version m.sender m.receiver x) (sym (noted-meant J m.body b)) may;
  placed = (owns, placed);
  ended = tt;
}

-- ---- entries that were written

pub stamps-join : (m other : Entries) (id : Id) → stamp_of (fin.get (joined m other) id) ≡ newer (stamp_of (fin.get other id)) (stamp_of (fin.get m id))
stamps-join m other id = ap stamp_of (get-joined m other id) ∙ by_other (fin.get other id)
  where
    by_other : (o : Option Entry) → stamp_of (newer_of (fin.get m id) o) ≡ newer (stamp_of o) (stamp_of (fin.get m id))
    by_other None = sym (newer-none (stamp_of (fin.get m id)))
    by_other (Some e) = stamp-cond (is_newer e (fin.get m id)) e (fin.get m id) ∙ sym (newer-picks e (fin.get m id) (is_newer e (fin.get m id)) refl)

written-shown : (wrote : Stamp → Option Entry) (x : Body) (m : Entries) → AreWritten wrote m → AreWritten wrote (shown_entries x m)
written-shown wrote x m h id e g = h id e (shown-sub x wrote m h id e g)

lie-shown : (b : Bucket) (m : Entries) → LieIn b (shown_entries (body.Read b None) m)
lie-shown b m id e g = by_test (in_bucket b id) refl (sym (shown_in b m id) ∙ g)
  where
    by_test : (t : Bool) → in_bucket b id ≡ t → cond t (fin.get m id) None ≡ Some e → t ≡ true
    by_test true f k = refl
    by_test false f k = cc

-- what an answer shows of a node's entries
shown-back : (wrote : Stamp → Option Entry) (x : Body) (ps : List Piece) (m es : Entries) → AreWritten wrote m → es ≡ shown_entries x m → BringsBack wrote x (reply.Answer ps es)
shown-back wrote (body.Read b None) ps m es h is = (subst (AreWritten wrote) (sym is) (written-shown wrote (body.Read b None) m h), subst (LieIn b) (sym is) (lie-shown b m))
shown-back wrote (body.Read b (Some id)) ps m es h is = subst (AreWritten wrote) (sym is) (written-shown wrote (body.Read b (Some id)) m h)
shown-back wrote body.Ask ps m es h is = subst (AreWritten wrote) (sym is) (written-shown wrote body.Ask m h)
shown-back wrote (body.Store e) ps m es h is = subst (AreWritten wrote) (sym is) (written-shown wrote (body.Store e) m h)
shown-back wrote (body.Apply b fs) ps m es h is = subst (AreWritten wrote) (sym is) (written-shown wrote (body.Apply b fs) m h)
shown-back wrote (body.Delete b s) ps m es h is = subst (AreWritten wrote) (sym is) (written-shown wrote (body.Delete b s) m h)
shown-back wrote (body.Split b) ps m es h is = subst (AreWritten wrote) (sym is) (written-shown wrote (body.Split b) m h)
shown-back wrote (body.Join b) ps m es h is = subst (AreWritten wrote) (sym is) (written-shown wrote (body.Join b) m h)
shown-back wrote (body.Ready b) ps m es h is = subst (AreWritten wrote) (sym is) (written-shown wrote (body.Ready b) m h)
shown-back wrote (body.Activate b) ps m es h is = subst (AreWritten wrote) (sym is) (written-shown wrote (body.Activate b) m h)

treated-back : (wrote : Stamp → Option Entry) (v : ℕ) (x : Body) (n y : Node) (r : Reply) → AreWritten wrote n.entries → Treats (adopt v n) x y r → BringsBack wrote x r
treated-back wrote v x n y (reply.Answer ps es) h t = shown-back wrote x ps n.entries es h (t.1.1.0 ∙ ap (shown_entries x) (adopt-entries v n))
treated-back wrote v x n y (reply.Newer w) h t = absurd t
treated-back wrote v (body.Read b None) n y reply.NoBucket h t = tt
treated-back wrote v x n y reply.NoBucket h t = tt
treated-back wrote v (body.Read b None) n y reply.Differs h t = tt
treated-back wrote v x n y reply.Differs h t = tt
treated-back wrote v (body.Read b None) n y reply.NoMemory h t = tt
treated-back wrote v x n y reply.NoMemory h t = tt

pub taken-back : (S : Setting) (J : List LaneEvent) (number : ℕ) (m : Message) (x y : Node) (r : Reply) → IsTaken S J number m x y r → BringsBack (λ s. entry_at s J) m.body r
taken-back S J number m x y r t = elim (cases_lt m.version x.version) [
  | inl less ↦ subst (λ z. BringsBack (λ s. entry_at s J) m.body z) (sym ((t.takes).too_old less).0) (newer_back m.body)
  | inr le ↦ treated-back (λ s. entry_at s J) m.version m.body x y r (t.keeps).entries_are ((t.takes).treated le)
]
  where
    newer_back : (z : Body) → BringsBack (λ s. entry_at s J) z (reply.Newer x.version)
    newer_back (body.Read b None) = tt
    newer_back z = tt
