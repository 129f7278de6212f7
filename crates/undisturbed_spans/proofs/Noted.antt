-- What is known of a round that is over, and was run in a quiet span.
use Rattle.std.proofs.Common.{◌≡◌, ◌<◌, ◌≤◌, ◌+◌, ◌-◌, ◌&&◌, ◌||◌, ◌⊎◌, ℕ, zero, suc, Bool, true, false, cond, nat_lt, eqb, List, [], ◌∷◌, filter, Contains, Option, Some, None, is_some, refl, sym, ap, ◌∙◌, subst, arith}
use Rattle.std.specs.FinMap as fin
use Rattle.std.specs.List.{list_any}
use Rattle.std.proofs.lemmas.Bool.{eqb-true}
use Rattle.std.proofs.lemmas.Bool.Decides.{nat_tests}
use Rattle.bucket_ids.specs.Buckets.{Low, has_key}
use Rattle.node_sets.specs.Members.{has_node, size_below, size_of}
use Rattle.node_sets.proofs.Bits.{size_next, size_whole}
use Rattle.cluster_states.specs.declared.cluster_state.ClusterState.{ClusterState}
use Rattle.cluster_states.specs.Publishing.{serves}
use Rattle.documents.specs.declared.entry.Entry.{Entry}
use Rattle.entry_maps.specs.EntryCodes.{Entries}
use Rattle.entry_maps.specs.Entries.{documents_of}
use Rattle.pieces.specs.declared.piece.Piece.{Piece}
use Rattle.messages.specs.declared.step.NodePieces.{NodePieces}
use Rattle.pieces.specs.Pieces.{does_meet, is_piece}
use Rattle.replica_store.specs.Replicas.{LieIn}
use Rattle.node_model.specs.Nodes.{Node}
use Rattle.merge_rounds.specs.Rounds.{RoundState, HaveAllShown, did_show, pieces_by}
use Rattle.lane_journals.specs.Buckets.{Id, key_of}
use Rattle.lane_journals.specs.Readers.{Given, answer}
use Rattle.lane_journals.specs.Facts.{AnsweredApply}
use Rattle.lane_journals.specs.Places.{Setting}
use Rattle.lane_journals.specs.KeptJournals.{IsLegal}
use Rattle.lane_journals.specs.Meanings.{history, names}
use Rattle.lane_journals.specs.declared.event.LaneEvent.{LaneEvent}
use Rattle.lane_keeping.specs.RoundKeeping.{is_apply, is_of, is_among_first, IsNamed}
use Rattle.round_keeping.proofs.Sent.{sent-passes, passes}
use Rattle.lane_rest.specs.Rest.{documents}
use Rattle.pass_model.specs.Scripts.{Script}
use Rattle.pass_model.specs.Shapes.{Shape, Over, Inside, IsApart, shape_of}
use Rattle.undisturbed_spans.specs.Rounding.{AreAlike, was_told, was_asked, IsGiven}
use Rattle.undisturbed_spans.proofs.Uniting.{unites}
use Rattle.pass_model.specs.Shown.{lies_over, lies_inside, shape_shown}
use Rattle.proof_basics.proofs.Tests.{same-by}
use Rattle.pass_model.proofs.Shapes.{shapes-shown, over-shown, inside-shown}
use Rattle.pass_model.proofs.ShownCounts.{documents-counted}
use Rattle.pass_model.proofs.Once.{all-once}
use Rattle.undisturbed_spans.specs.Noting.{newest_in, IsRounded, IsRoundNoted}

-- ---- the members of a set, by their places

size-more : (a n k : ℕ) → size_below a n ≤ size_below a (n + k)
size-more a n zero = let e : n + zero ≡ n = omega arith in let f = ap (size_below a) e in omega (arith, f)
size-more a n (suc k) =
    let e : n + suc k ≡ (n + k) + 1 = omega arith in
    let f = ap (size_below a) e in
    let g = size_next a (n + k) in
    let h = size-more a n k in
    omega (arith, f, g, h)

below-less : (a n : ℕ) → has_node a n ≡ true → n < 32 → size_below a n < size_of a
below-less a n member small =
    let k : ℕ = 31 - n in
    let e : (n + 1) + k ≡ 32 = omega (arith, small) in
    let more = size-more a (n + 1) k in
    let last = ap (size_below a) e in
    let next = size_next a n ∙ ap (λ (t : Bool). size_below a n + cond t 1 0) member in
    let whole = size_whole a in
    omega (arith, more, last, next, whole)

among-all : (a many n : ℕ) → size_of a ≤ many → (has_node a n ≡ true → n < 32) → is_among_first a many n ≡ has_node a n
among-all a many n enough small = by_test (has_node a n) refl
  where
    by_test : (t : Bool) → has_node a n ≡ t → (t && nat_lt (size_below a n) many) ≡ t
    by_test true e = let less = below-less a n e (small e) in grind (arith, nat_tests)
    by_test false e = refl

-- ---- what was shown of a node

record IsFirstShown (n : ℕ) (shown : List NodePieces) : Type 0 where
  first : NodePieces
  there : Contains shown first
  node_is : first.node ≡ n
  pieces_are : pieces_by n shown ≡ first.pieces

first-shown : (n : ℕ) (shown : List NodePieces) → did_show n shown ≡ true → IsFirstShown n shown
first-shown n [] h = cc
first-shown n (p ∷ shown) h = by_test (first-shown n shown) (eqb p.node n) refl h
  where
    by_test : (did_show n shown ≡ true → IsFirstShown n shown) → (t : Bool) → eqb p.node n ≡ t → (t || did_show n shown) ≡ true → IsFirstShown n (p ∷ shown)
    by_test rest true e g = record { first = p; there = (zero, omega arith, refl); node_is = eqb-true p.node n e; pieces_are = ap (λ (t : Bool). cond t p.pieces (pieces_by n shown)) e }
    by_test rest false e g = let f = rest g in record {
      first = f.first;
      there = (suc (f.there).0, omega (arith, (f.there).1), (f.there).2);
      node_is = f.node_is;
      pieces_are = ap (λ (t : Bool). cond t p.pieces (pieces_by n shown)) e ∙ f.pieces_are;
    }

lies-in : (b : Low) (u : Entries) → LieIn b u → (id : Id) → is_some (fin.get u id) ≡ true → has_key b (key_of id) ≡ true
unfolding key_of
lies-in b u lies id h = by_entry (fin.get u id) refl h
  where
    by_entry : (o : Option Entry) → fin.get u id ≡ o → is_some o ≡ true → has_key b (key_of id) ≡ true
    by_entry None e g = cc
    by_entry (Some x) e g = lies id x e

-- ---- the round

module _ (d : Script) (s : ClusterState) (lane : Low) (distributor : ℕ) (J K : List LaneEvent) (old now : ℕ → Node) (number : ℕ) (r : RoundState) (x : IsRounded d s lane distributor J K old now number r) where
  abbrev v : ℕ
  v = s.version

  reader : (n : ℕ) → serves s n ≡ true → has_node r.readers n ≡ true
  reader n h = ((x.knows).answers).readers_are n ∙ h

  serving : (n : ℕ) → has_node r.readers n ≡ true → serves s n ≡ true
  serving n h = sym (((x.knows).answers).readers_are n) ∙ h

  asked : (n : ℕ) → has_node r.readers n ≡ true → was_asked v number n K ≡ true
  asked n h = (x.knows).reads_are n ∙ among-all r.readers r.reads n (x.over).read (λ g. x.valid n (serving n g)) ∙ h

  pub all-shown : HaveAllShown r.readers r.shown
  all-shown n h = ((x.knows).answers).shown_are n ∙ (x.has).answered n (asked n h)

  pub told-are : (n : ℕ) → was_told v number n K ≡ has_node r.receivers n
  told-are n = (x.knows).applies_are n ∙ among-all r.receivers r.applies n ((x.over).applied all-shown) (λ g. x.valid n ((x.knows).receivers_serve n g))

  pub holders-are : (n : ℕ) → has_node r.holders n ≡ has_node r.receivers n
  holders-are n = same-by (has_node r.holders n) (has_node r.receivers n) (λ h. sym (told-are n) ∙ was ((((x.knows).answers).holders_are n).0 h))
      (λ h. (((x.knows).answers).holders_are n).1 ((x.has).accepted n (told-are n ∙ h)))
    where
      was : AnsweredApply v number n r.row (history K) → was_told v number n K ≡ true
      was a = sent-passes (is_of is_apply v number n) (history K) a.number a.message a.was_sent (passes is_apply v number n a.message (ap is_apply a.body) a.version a.round a.receiver)

  answers-shown : (n : ℕ) (g : Given) → answer v number n (history K) ≡ Some g → did_show n r.shown ≡ true
  answers-shown n g h = ((x.knows).answers).shown_are n ∙ ap is_some h

  shows-reader : (n : ℕ) → serves s n ≡ did_show n r.shown
  shows-reader n = same-by (serves s n) (did_show n r.shown) (λ h. all-shown n (reader n h)) (λ h. serving n (((x.knows).answers).reading n h))

  pub union-is : AreAlike r.row r.union (newest_in s old)
  union-is = unites v number (history K) r.row old (serves s) (λ n. did_show n r.shown) r.union (x.has).given ((x.knows).answers).union_is shows-reader x.valid answers-shown

  -- what a node that serves showed names just its pieces that meet the row
  record IsShownBy (n : ℕ) : Type 0 where
    pieces : List Piece
    are : pieces_by n r.shown ≡ pieces
    same : (c : Low) (i : ℕ) → names pieces c i ≡ list_any (is_piece c i) (filter (does_meet r.row) (old n).pieces)

  shown-by : (n : ℕ) → serves s n ≡ true → IsShownBy n
  shown-by n h =
      let f = first-shown n r.shown (all-shown n (reader n h)) in
      let named : IsNamed (answer v number n (history K)) f.first.pieces = subst (λ (k : ℕ). IsNamed (answer v number k (history K)) f.first.pieces) f.node_is (((x.knows).answers).pieces_are f.first f.there) in
      let given : IsGiven r.row (old n) named.answer = (x.has).given n named.answer named.given in
      record {
        pieces = f.first.pieces;
        are = f.pieces_are;
        same = λ c i. ap (λ (w : Low → ℕ → Bool). w c i) (sym named.names_are) ∙ given.names c i;
      }

  pub shapes-are : (n : ℕ) → serves s n ≡ true → IsApart (old n).pieces → shape_shown r.row (pieces_by n r.shown) ≡ shape_of r.row (old n).pieces
  shapes-are n h apart = let w = shown-by n h in ap (shape_shown r.row) w.are ∙ shapes-shown r.row (x.knows).valid (old n).pieces w.pieces apart w.same

  pub over-is : (n : ℕ) → serves s n ≡ true → IsApart (old n).pieces → list_any (lies_over r.row) (pieces_by n r.shown) ≡ true → shape_shown r.row (pieces_by n r.shown) ≡ Over
  over-is n h apart any =
      let w = shown-by n h in
      ap (shape_shown r.row) w.are ∙ over-shown r.row (x.knows).valid (old n).pieces w.pieces apart w.same (subst (λ (ps : List Piece). list_any (lies_over r.row) ps ≡ true) w.are any)

  pub inside-is : (n : ℕ) → serves s n ≡ true → IsApart (old n).pieces → list_any (lies_inside r.row) (pieces_by n r.shown) ≡ true
      → (shape_shown r.row (pieces_by n r.shown) ≡ Over) ⊎ (shape_shown r.row (pieces_by n r.shown) ≡ Inside)
  inside-is n h apart any =
      let w = shown-by n h in
      subst (λ (z : Shape). (z ≡ Over) ⊎ (z ≡ Inside)) (sym (ap (shape_shown r.row) w.are))
      (inside-shown r.row (x.knows).valid (old n).pieces w.pieces apart w.same (subst (λ (ps : List Piece). list_any (lies_inside r.row) ps ≡ true) w.are any))

  pub is-noted : IsRoundNoted s K old number r
  is-noted = record { whole = all-shown; told = told-are; holders = holders-are; union = union-is; shapes = shapes-are; over = over-is; inside = inside-is }

  pub union-counted : (S : Setting) → IsLegal S K → documents r.row (newest_in s old) K ≡ documents_of r.union
  union-counted S legal = documents-counted r.row (newest_in s old) K (all-once S K legal) r.union (record {
    written = ((x.knows).answers).written;
    lies = λ id e h. lies-in r.row r.union ((x.knows).answers).lies id (ap is_some h);
    held = union-is;
  })
