-- What is read off the nodes and rows of a pass is what is read off the journal.
use Rattle.std.proofs.Common.{◌≡◌, ◌&&◌, ◌||◌, ◌+◌, ◌/◌, ◌≤◌, ◌<◌, ℕ, Bool, true, List, [], ◌∷◌, map, Some, refl, sym, ap, ap₂, ◌∙◌, subst}
use Rattle.std.specs.List.{list_any}
use Rattle.bucket_ids.specs.Buckets.{Low, has_key}
use Rattle.pieces.specs.declared.piece.Piece.{Piece}
use Rattle.pieces.specs.Pieces.{is_exactly, does_meet}
use Rattle.cluster_states.specs.declared.cluster_state.ClusterState.{ClusterState}
use Rattle.cluster_states.specs.Publishing.{newest_of as newest_state}
use Rattle.lane_journals.specs.Buckets.{contains, same_bucket, meets}
use Rattle.lane_journals.specs.Events.{Content}
use Rattle.lane_journals.specs.Readers.{Journal, opened, version}
use Rattle.lane_journals.specs.Facts.{InRegion}
use Rattle.lane_journals.specs.Pieces.{NodePiece, is_piece, pieces}
use Rattle.lane_journals.specs.RowLists as listed
use Rattle.lane_journals.specs.States.{state_of}
use Rattle.lane_journals.specs.Meanings.{history}
use Rattle.lane_journals.specs.Places.{Setting, published_states}
use Rattle.lane_journals.specs.KeptJournals.{IsLegal}
use Rattle.lane_journals.specs.declared.event.LaneEvent.{LaneEvent}
use Rattle.lane_journals.proofs.Meant.{meant-legal}
use Rattle.lane_keeping.specs.NodeKeeping.{shape, regions}
use Rattle.lane_keeping.proofs.Words.{contains-is, same-is, meets-is}
use Rattle.lane_keeping.proofs.Shapes.{meets-any, piece-any}
use Rattle.lane_keeping.proofs.Regions.{within, said}
use Rattle.lane_rest.specs.Sets.{newest_of}
use Rattle.lane_rest.specs.Targets.{is_member, is_target_in, first_targets}
use Rattle.pass_model.specs.Nodes.{Node}
use Rattle.pass_model.specs.Shapes.{IsClear, IsExact, IsReadied, IsActiveOn}
use Rattle.pass_model.specs.Rows.{Settings, Row, is_target, is_searched}
use Rattle.pass_model.specs.Passes.{World, In}
use Rattle.pass_model.specs.Resting.{HasActive, IsRow, IsSettled, IsResting}
use Rattle.lane_rest.specs.Rest.{union_under, documents, is_ready, HoldsNothing, IsActivated, IsRowAtRest, ArePair, IsAtRest}
use Rattle.pass_model.specs.Worlds.{AreSettingsOf, IsSaid, HasMarks, IsWorldOf}
use Rattle.proof_basics.proofs.Lists.{any-map, none-map}
use Rattle.pass_model.proofs.Unions.{united-is}
use Rattle.pass_model.proofs.Lists.{all-in}
use Rattle.pass_model.proofs.Settling.{active-is}

any-shapes : (test : NodePiece → Bool) (ps : List Piece) → list_any test (map shape ps) ≡ list_any (λ p. test (shape p)) ps
any-shapes test [] = refl
any-shapes test (p ∷ ps) = ap (λ t. test (shape p) || t) (any-shapes test ps)

-- ---- one node

module _ (n : ℕ) (H : Journal) (x : Node) (is : IsSaid n H x) where
  seen : (test : NodePiece → Bool) → list_any test (pieces n H) ≡ list_any (λ p. test (shape p)) x.pieces
  seen test = sym (is.pieces test) ∙ any-shapes test x.pieces

  pub exact-said : (b : Low) → IsExact b x → is_piece b (pieces n H) ≡ true
  exact-said b h = piece-any b (pieces n H) ∙ seen (λ q. same_bucket q.bucket b)
      ∙ any-map (is_exactly b) (λ p. same_bucket p.bucket b) x.pieces (λ p e. same-is p.bucket b ∙ e) h

  pub ready-said : (b : Low) → IsReadied b x → is_ready b (pieces n H) ≡ true
  ready-said b h = seen (λ q. same_bucket q.bucket b && q.ready)
      ∙ any-map (λ p. is_exactly b p && p.ready) (λ p. same_bucket p.bucket b && p.ready) x.pieces (λ p e. ap (λ t. t && p.ready) (same-is p.bucket b) ∙ e) h

  pub clear-said : (b : Low) → IsClear b x → HoldsNothing b n H
  clear-said b c = record {
    buckets = meets-any b (pieces n H) ∙ seen (λ q. meets q.bucket b)
        ∙ none-map (does_meet b) (λ p. meets p.bucket b) x.pieces (λ p e. sym (meets-is p.bucket b) ∙ e) c.pieces;
    entries = λ id k. sym (is.store id) ∙ c.entries id k;
  }

  pub region-said : (b : Low) → IsActiveOn b x → (key : ℕ) → has_key b key ≡ true → within key (regions n H) ≡ true
  region-said b h key k = ap (within key) (sym is.regions)
      ∙ any-map (λ r. has_key r key) (λ r. contains r key) x.regions (λ r e. contains-is r key ∙ e) (h key k)

-- ---- the lane

module _ (S : Setting) (first most : ℕ) (s : ClusterState) (J : List LaneEvent) (t : Settings) (w : World) (legal : IsLegal S J)
    (set : AreSettingsOf S first most s J t) (of : IsWorldOf s J w) where
  H : Journal
  H = history J

  union-said : (U : Content) → IsResting t U w → U ≡ union_under s (history J)
  union-said U rest = sym (united-is t U w.nodes rest.sane.union)
      ∙ ap₂ (λ p held. newest_of p held) (λ i n. set.serving n i) (λ i n id. (of.nodes n).store id i)

  documents-said : (U : Content) → IsResting t U w → (b : Low) → t.documents U b ≡ documents b (union_under s (history J)) J
  documents-said U rest b = set.documents U b ∙ ap (λ v. documents b v J) (union-said U rest)

  module _ (row : listed.Row) (r : Row) (m : HasMarks row r) where
    target-said : (n : ℕ) → is_target_in S.redundancy (t.ideal row.bucket) row.active n ≡ is_target t r n
    target-said n = sym (ap (λ k. is_target_in k (t.ideal r.bucket) r.active n) set.redundancy
        ∙ ap₂ (λ b a. is_target_in S.redundancy (t.ideal b) a n) m.bucket m.active)

    searched-said : (n : ℕ) → is_member (first_targets first S.redundancy (t.ideal row.bucket) row.active) n ≡ is_searched t r n
    searched-said n = sym (ap₂ (λ f k. is_member (first_targets f k (t.ideal r.bucket) r.active) n) set.searchable set.redundancy
        ∙ ap₂ (λ b a. is_member (first_targets first S.redundancy (t.ideal b) a) n) m.bucket m.active)

    active-said : IsRow t w.nodes r → HasActive r w.nodes → IsActivated s.version row (history J)
    active-said is a =
        let now : version a.node (history J) ≡ s.version = of.current a.node (sym (set.serving a.node) ∙ is.serves a.node (active-is r.active a.node a.decided)) in
        record {
          node = a.node;
          decided = sym m.active ∙ a.decided;
          current = now;
          region = λ key k. subst (λ v. InRegion v a.node key (history J)) now
              (said S.acks (state_of (history J)) (history J) (meant-legal S J legal) a.node key
              (region-said a.node (history J) (w.nodes a.node) (of.nodes a.node) r.bucket a.accepted key (ap (λ b. has_key b key) m.bucket ∙ k)));
          ready = subst (λ b. is_ready b (pieces a.node (history J)) ≡ true) m.bucket (ready-said a.node (history J) (w.nodes a.node) (of.nodes a.node) r.bucket a.ready);
        }

    row-said : (U : Content) → IsResting t U w → IsRow t w.nodes r → IsSettled t U w.nodes r → (r.bucket.bits < 58 → t.documents U r.bucket ≤ t.split_at) → IsRowAtRest S first most s J row
    row-said U rest is d small = record {
      ideal = t.ideal row.bucket;
      is_ideal = set.ideal row.bucket;
      targets = λ n h. subst (λ b. is_piece b (pieces n (history J)) ≡ true) m.bucket (exact-said n (history J) (w.nodes n) (of.nodes n) r.bucket (d.targets n (sym (target-said n) ∙ h)));
      others = λ n h f. subst (λ b. HoldsNothing b n (history J)) m.bucket (clear-said n (history J) (w.nodes n) (of.nodes n) r.bucket (d.others n (set.serving n ∙ h) (sym (target-said n) ∙ f)));
      complete = λ n h. sym (m.complete n) ∙ d.complete n (sym (target-said n) ∙ h);
      active = active-said is d.active;
      ready = λ n h. subst (λ b. is_ready b (pieces n (history J)) ≡ true) m.bucket (ready-said n (history J) (w.nodes n) (of.nodes n) r.bucket (d.ready n (sym (searched-said n) ∙ h)));
      small = λ few. subst (λ k. documents row.bucket (union_under s (history J)) J ≤ k) set.split_at
          (subst (λ k. k ≤ t.split_at) (documents-said U rest r.bucket ∙ ap (λ b. documents b (union_under s (history J)) J) m.bucket)
          (small (subst (λ (b : Low). b.bits < 58) (sym m.bucket) few)));
    }

  pair-said : (U : Content) → IsResting t U w → (parent : Low) (row other : listed.Row) (a b : Row) → In a w.rows → In b w.rows → HasMarks row a → HasMarks other b → ArePair S most s J parent row other → ⊥
  pair-said U rest parent row other a b ia ib ma mb pair = rest.no_pair parent a b ia ib (ma.bucket ∙ pair.first) (mb.bucket ∙ pair.second)
      (subst (λ k. k ≤ parent.bits) (sym set.lane_bits) pair.inside)
      (ma.active ∙ pair.active ∙ sym mb.active)
      (subst (λ k. t.documents U a.bucket + t.documents U b.bucket ≤ k / 2) (sym set.split_at)
      (subst (λ k. k ≤ most / 2) (sym (ap₂ (λ i j. i + j) (count a row ma) (count b other mb))) pair.few))
    where
      count : (r : Row) (q : listed.Row) → HasMarks q r → t.documents U r.bucket ≡ documents q.bucket (union_under s (history J)) J
      count r q m = documents-said U rest r.bucket ∙ ap (λ c. documents c (union_under s (history J)) J) m.bucket

  -- nodes and rows at rest are a lane at rest
  pub rest-said : newest_state (published_states J) ≡ Some s → opened s.version (history J) ≡ true → (U : Content) → IsResting t U w → IsAtRest S first most J
  rest-said newest known U rest = record {
    state = s;
    newest = newest;
    is_open = known;
    settled = λ row h. let o = of.rows row h in
        row-said row o.0 o.2 U rest (all-in (IsRow t w.nodes) o.0 w.rows rest.sane.rows o.1) (all-in (IsSettled t U w.nodes) o.0 w.rows rest.settled o.1)
        (all-in (λ r. r.bucket.bits < 58 → t.documents U r.bucket ≤ t.split_at) o.0 w.rows rest.small o.1);
    no_pair = λ parent row other h g pair. let a = of.rows row h in let b = of.rows other g in
        pair-said U rest parent row other a.0 b.0 a.1 b.1 a.2 b.2 pair;
  }
