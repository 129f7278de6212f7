-- What the note of a round says that was run to its end in a quiet span.
use Rattle.std.proofs.Common.{◌≡◌, ◌<◌, ◌==◌, ◌||◌, ◌⊎◌, ℕ, Bool, true, false, nat_lt, List, [], ◌∷◌, Option, Some, is_some, Contains, refl, sym, ap, subst, ◌∙◌, arith}
use Rattle.std.specs.Prelude.{if◌then◌else◌}
use Rattle.std.specs.List.{list_any}
use Rattle.std.proofs.lemmas.Bool.Decides.{nat_tests}
use mathlib.Core.Bool.{true≢false}
use Rattle.node_sets.specs.Members.{has_node}
use Rattle.cluster_states.specs.declared.cluster_state.ClusterState.{ClusterState}
use Rattle.cluster_states.specs.Publishing.{serves}
use Rattle.entry_maps.specs.Entries.{documents_of}
use Rattle.messages.specs.declared.step.NodePieces.{NodePieces}
use Rattle.pieces.specs.declared.piece.Piece.{Piece}
use Rattle.node_model.specs.Nodes as lane
use Rattle.merge_rounds.specs.Rounds.{RoundState, did_show, pieces_by}
use Rattle.lane_journals.specs.declared.event.LaneEvent.{LaneEvent}
use Rattle.lane_rest.specs.Rest.{documents}
use Rattle.pass_model.specs.Scripts.{Script}
use Rattle.pass_model.specs.Shapes.{Shape, Same, Over, Inside, shape_of}
use Rattle.pass_model.specs.Shown.{lies_over, lies_inside, shape_with, shape_shown}
use Rattle.undisturbed_spans.specs.Noting.{newest_in}
use Rattle.undisturbed_spans.specs.Ending.{HasEnded}
use Rattle.pass_machine.specs.declared.notes.Exact.{Exact}
use Rattle.pass_machine.specs.declared.notes.RowNote.{RowNote}
use Rattle.lane_upkeep.specs.RoundNotes.{serial_in, IsNoteOf}
use Rattle.pass_machine.specs.Abstract.{shown_in}
use Rattle.lane_upkeep.proofs.QuietRounds.{serial-same, note-shows}

-- ---- members and answers

past : (set n : ℕ) → nat_lt n 32 ≡ false → has_node set n ≡ false
unfolding has_node
past set n e = rw e refl

less : (n : ℕ) → nat_lt n 32 ≡ true → n < 32
less n e = grind (arith, nat_tests)

small-of : (set n : ℕ) → has_node set n ≡ true → n < 32
small-of set n h = by_test (nat_lt n 32) refl
  where
    by_test : (t : Bool) → nat_lt n 32 ≡ t → n < 32
    by_test true e = less n e
    by_test false e = absurd (true≢false (sym h ∙ past set n e))

-- who showed no answer showed no pieces
none-by : (n : ℕ) (shown : List NodePieces) → did_show n shown ≡ false → pieces_by n shown ≡ []
none-by n [] h = refl
none-by n (p ∷ shown) h = by_test (none-by n shown) (p.node == n) h
  where
    by_test : (did_show n shown ≡ false → pieces_by n shown ≡ []) → (t : Bool) → (t || did_show n shown) ≡ false → (if t then p.pieces else pieces_by n shown) ≡ []
    by_test rest true g = absurd (true≢false g)
    by_test rest false g = rest g

did-by : (n : ℕ) (shown : List NodePieces) (P : List Piece → Bool) → P [] ≡ false → P (pieces_by n shown) ≡ true → did_show n shown ≡ true
did-by n shown P none h = by_test (did_show n shown) refl
  where
    by_test : (t : Bool) → did_show n shown ≡ t → did_show n shown ≡ true
    by_test true e = e
    by_test false e = absurd (true≢false (sym h ∙ (ap P (none-by n shown e) ∙ none)))

-- ---- the note

module _ (d : Script) (s : ClusterState) (J K : List LaneEvent) (old now : ℕ → lane.Node) (r : RoundState) (note : RowNote) (h : HasEnded d s J K old now r) (i : IsNoteOf r note) (few : (n : ℕ) → serves s n ≡ true → n < 32) where
  abbrev ps : ℕ → List Piece
  ps n = pieces_by n r.shown

  shows : (n : ℕ) → serves s n ≡ true → shown_in note n ≡ shape_shown r.row (ps n)
  shows n g = note-shows r note i n (few n g)

  pub note-whole : note.whole ≡ true
  note-whole = (i.whole_is).1 h.whole

  pub note-documents : note.documents ≡ documents r.row (newest_in s old) K
  note-documents = i.documents_are ∙ (ap (λ (t : Bool). if t then documents_of r.union else 0) note-whole ∙ sym h.counted)

  pub note-holders : (n : ℕ) → has_node note.holders n ≡ has_node r.receivers n
  note-holders n = ap (λ (set : ℕ). has_node set n) i.holders_are ∙ h.holders n

  pub note-shape : (n : ℕ) → serves s n ≡ true → shown_in note n ≡ shape_of r.row (old n).pieces
  note-shape n g = shows n g ∙ h.shapes n g

  -- each node that is noted serves, and is noted in one way
  pub note-over : (n : ℕ) → has_node note.over n ≡ true → (serves s n ≡ true) × (shown_in note n ≡ Over)
  note-over n g =
      let any : list_any (lies_over r.row) (ps n) ≡ true = sym (i.over_are n (small-of note.over n g)) ∙ g in
      let serving = h.answering n (did-by n r.shown (list_any (lies_over r.row)) refl any) in
      (serving, shows n serving ∙ h.over n serving any)

  pub note-inside : (n : ℕ) → has_node note.inside n ≡ true → (serves s n ≡ true) × ((shown_in note n ≡ Over) ⊎ (shown_in note n ≡ Inside))
  note-inside n g =
      let any : list_any (lies_inside r.row) (ps n) ≡ true = sym (i.inside_are n (small-of note.inside n g)) ∙ g in
      let serving = h.answering n (did-by n r.shown (list_any (lies_inside r.row)) refl any) in
      (serving, subst (λ (z : Shape). (z ≡ Over) ⊎ (z ≡ Inside)) (sym (shows n serving)) (h.inside n serving any))

  pub note-exact : (x : Exact) → Contains note.exact.items x → (serves s x.node ≡ true) × (shown_in note x.node ≡ Same x.serial)
  note-exact x g =
      let serial : serial_in r.row (ps x.node) ≡ Some x.serial = (i.exact_are).each x g in
      let serving = h.answering x.node (did-by x.node r.shown (λ qs. is_some (serial_in r.row qs)) refl (ap is_some serial)) in
      (serving, shows x.node serving ∙ ap (λ (o : Option ℕ). shape_with o (list_any (lies_over r.row) (ps x.node)) (list_any (lies_inside r.row) (ps x.node))) (sym (serial-same r.row (ps x.node)) ∙ serial))
