-- What is known of a note stays so until another round of its row begins.
use Rattle.std.proofs.Common.{◌≡◌, ◌≢◌, ◌==◌, ◌+◌, ℕ, Bool, true, false, List, [], ◌∷◌, Option, None, Some, Contains, if◌then◌else◌, refl, sym, ap, subst, arith}
use Rattle.std.proofs.lemmas.Bool.{eqb-true}
use Rattle.std.proofs.lemmas.List.Elements.{Contains-append_right}
use Rattle.node_sets.specs.Members.{has_node}
use Rattle.pieces.specs.declared.piece.Piece.{Piece}
use Rattle.messages.specs.declared.step.NodePieces.{NodePieces}
use Rattle.merge_rounds.specs.Rounds.{pieces_by}
use Rattle.pieces.proofs.PieceLaws.{bucket-same}
use Rattle.proof_basics.proofs.Lists.{contains-none}
use Rattle.lane_journals.proofs.Basics.{answer-stays}
use Rattle.bucket_ids.specs.Buckets.{Low}
use Rattle.cluster_states.specs.declared.cluster_state.ClusterState.{ClusterState}
use Rattle.lane_journals.specs.Buckets.{same_bucket}
use Rattle.lane_journals.specs.Readers.{Journal, answer, rounds, round_of}
use Rattle.lane_journals.specs.Facts.{AnsweredApply}
use Rattle.lane_journals.specs.Meanings.{history, meaning}
use Rattle.lane_journals.specs.declared.event.LaneEvent.{LaneEvent}
use Rattle.lane_journals.specs.declared.event.LaneEvent.TheVariants.{Sent, Delivered, Returned, Decided}
use Rattle.messages.specs.declared.decision.Decision.TheVariants.{RoundBegun, RoundEnded}
use Rattle.lane_journals.proofs.BucketLaws.{same_bucket-true}
use Rattle.round_keeping.proofs.Waiting.{answered-stays}
use Rattle.lane_carriage.proofs.Staying.{IsOfMessage}
use Rattle.pass_machine.specs.declared.notes.RowNote.{RowNote}
use Rattle.pass_machine.specs.declared.notes.Exact.{Exact}
use Rattle.lane_upkeep.specs.Notes.{ShowedExactly, KnowsNote}
use Rattle.lane_upkeep.specs.RoundNotes.{is_exact, serial_in, NotesRound}

module _ (s : ClusterState) (note : RowNote) where
  -- one event more that begins no round of the row
  pub note-stays : (e : LaneEvent) (J : List LaneEvent) → round_of s.version note.bucket (history (e ∷ J)) ≡ round_of s.version note.bucket (history J) → KnowsNote J s note → KnowsNote (e ∷ J) s note
  note-stays e J same k = record {
    exact_are = λ x h. let g = k.exact_are x h in record {
      given = g.given;
      shown = subst (λ (i : ℕ). answer s.version i x.node (history (e ∷ J)) ≡ Some g.given) (sym same)
          (answer-stays s.version (round_of s.version note.bucket (history J)) x.node (history J) g.given (meaning J e) g.shown);
      names = g.names;
    };
    holders_are = λ n h. subst (λ (i : ℕ). AnsweredApply s.version i n note.bucket (history (e ∷ J))) (sym same)
        (answered-stays s.version (round_of s.version note.bucket (history J)) n note.bucket (history J) (meaning J e) (k.holders_are n h));
  }

  pub note-message : (e : LaneEvent) (J : List LaneEvent) → IsOfMessage e → KnowsNote J s note → KnowsNote (e ∷ J) s note
  note-message (Sent n v d to body) J i k = note-stays (Sent n v d to body) J refl k
  note-message (Delivered n r) J i k = note-stays (Delivered n r) J refl k
  note-message (Returned n) J i k = note-stays (Returned n) J refl k
  note-message _ J i k = absurd i

  pub note-begun : (d v : ℕ) (b : Low) (receivers : ℕ) (J : List LaneEvent) → note.bucket ≢ b → KnowsNote J s note → KnowsNote (Decided d v (RoundBegun b receivers) ∷ J) s note
  note-begun d v b receivers J off k = note-stays (Decided d v (RoundBegun b receivers)) J (by_test (same_bucket b note.bucket) refl) k
    where
      of_test : (t u : Bool) (H : Journal) → u ≡ false → (if t then (if u then rounds s.version H + 1 else round_of s.version note.bucket H) else round_of s.version note.bucket H) ≡ round_of s.version note.bucket H
      of_test true u H e = ap (λ (w : Bool). if w then rounds s.version H + 1 else round_of s.version note.bucket H) e
      of_test false u H e = refl

      by_test : (u : Bool) → same_bucket b note.bucket ≡ u → round_of s.version note.bucket (history (Decided d v (RoundBegun b receivers) ∷ J)) ≡ round_of s.version note.bucket (history J)
      by_test true e = absurd (off (sym (same_bucket-true b note.bucket e)))
      by_test false e = of_test (v == s.version) (same_bucket b note.bucket) (history J) e

  pub note-ended : (d v : ℕ) (b : Low) (complete : ℕ) (J : List LaneEvent) → KnowsNote J s note → KnowsNote (Decided d v (RoundEnded b complete) ∷ J) s note
  note-ended d v b complete J k = note-stays (Decided d v (RoundEnded b complete)) J refl k

-- ---- the note of a round

exact-in : (row : Low) (pieces : List Piece) (serial : ℕ) → serial_in row pieces ≡ Some serial → (p : Piece) × (Contains pieces p × ((p.bucket ≡ row) × (p.serial ≡ serial)))
exact-in row [] serial e = let none : ◌≡◌ {A = Option ℕ} None (Some serial) = e in absurd (cc)
exact-in row (p ∷ pieces) serial e = by_test (is_exact row p) refl e (exact-in row pieces serial)
  where
    by_test : (t : Bool) → is_exact row p ≡ t → (if t then Some p.serial else serial_in row pieces) ≡ Some serial
        → (serial_in row pieces ≡ Some serial → (q : Piece) × (Contains pieces q × ((q.bucket ≡ row) × (q.serial ≡ serial))))
        → (q : Piece) × (Contains (p ∷ pieces) q × ((q.bucket ≡ row) × (q.serial ≡ serial)))
    by_test true h e further = let same : p.serial ≡ serial = cc in (p, ((0, omega arith, refl), (bucket-same p.bucket row h, same)))
    by_test false h e further = let r = further e in (r.0, (Contains-append_right (p ∷ []) pieces r.0 r.1.0, r.1.1))

pieces-from : (n : ℕ) (shown : List NodePieces) (p : Piece) → Contains (pieces_by n shown) p → (x : NodePieces) × (Contains shown x × ((x.node ≡ n) × Contains x.pieces p))
pieces-from n [] p h = absurd (contains-none p h)
pieces-from n (y ∷ shown) p h = by_test (y.node == n) refl h (pieces-from n shown p)
  where
    by_test : (t : Bool) → (y.node == n) ≡ t → Contains (if t then y.pieces else pieces_by n shown) p
        → (Contains (pieces_by n shown) p → (x : NodePieces) × (Contains shown x × ((x.node ≡ n) × Contains x.pieces p)))
        → (x : NodePieces) × (Contains (y ∷ shown) x × ((x.node ≡ n) × Contains x.pieces p))
    by_test true e h further = (y, ((0, omega arith, refl), (eqb-true y.node n e, h)))
    by_test false e h further = let r = further h in (r.0, (Contains-append_right (y ∷ []) shown r.0 r.1.0, r.1.1))

-- it is known from the answers of the round
pub knows-of : (J : List LaneEvent) (s : ClusterState) (note : RowNote) → NotesRound J s note → KnowsNote J s note
knows-of J s note n = record { exact_are = exact; holders_are = holders }
  where
    exact : (x : Exact) → Contains (note.exact).items x → ShowedExactly J s note x
    exact x h =
        let r = n.round in
        let i = n.note_is in
        let p = exact-in r.row (pieces_by x.node r.shown) x.serial ((i.exact_are).each x h) in
        let y = pieces-from x.node r.shown p.0 p.1.0 in
        let g = (n.answers).pieces_are y.0 y.1.0 in
        let named : (g.answer).names (p.0).bucket (p.0).serial ≡ true = g.names p.0 y.1.1.1 in
        record {
          given = g.answer;
          shown = subst (λ (b : Low). answer s.version (round_of s.version b (history J)) x.node (history J) ≡ Some g.answer) (sym i.bucket_is)
              (subst (λ (k : ℕ). answer s.version (round_of s.version r.row (history J)) k (history J) ≡ Some g.answer) y.1.1.0 g.given);
          names = subst (λ (b : Low). (g.answer).names b x.serial ≡ true) (sym i.bucket_is)
              (subst (λ (b : Low). (g.answer).names b x.serial ≡ true) p.1.1.0 (subst (λ (k : ℕ). (g.answer).names (p.0).bucket k ≡ true) p.1.1.1 named));
        }

    holders : (k : ℕ) → has_node note.holders k ≡ true → AnsweredApply s.version (round_of s.version note.bucket (history J)) k note.bucket (history J)
    holders k h =
        let i = n.note_is in
        subst (λ (b : Low). AnsweredApply s.version (round_of s.version b (history J)) k b (history J)) (sym i.bucket_is)
        (((n.answers).holders_are k).0 (subst (λ (set : ℕ). has_node set k ≡ true) i.holders_are h))
