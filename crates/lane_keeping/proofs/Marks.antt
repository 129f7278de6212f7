-- What a lane keeps when the marks of a row change: a round ends, or an operation is acknowledged.
use Rattle.std.proofs.Common.{◌≡◌, ◌≢◌, ◌&&◌, ◌||◌, ℕ, zero, suc, Bool, true, false, List, [], ◌∷◌, cond, Option, Some, None, is_some, inl, inr, refl, sym, ap, ◌∙◌, subst, slice_get, eqb, eq-eqb}
use Rattle.std.proofs.lemmas.Bool.{cases_eq}
use Rattle.bucket_ids.specs.Buckets.{Low}
use Rattle.node_sets.specs.Members.{has_node}
use Rattle.cluster_states.specs.declared.cluster_state.ClusterState.{ClusterState}
use Rattle.bucket_db.specs.Rows.{Rows, buckets_of}
use Rattle.bucket_db.specs.Changes.{at_row}
use Rattle.bucket_db.specs.declared.row.Row.{Row}
use Rattle.messages.specs.declared.outcome.Outcome.TheVariants.{Acked}
use Rattle.messages.specs.declared.decision.Decision.TheVariants.{RoundEnded}
use Rattle.node_model.specs.Nodes.{Node}
use Rattle.distributor_part.specs.declared.rules.Rules.{Rules}
use Rattle.distributor_part.specs.declared.stage.Stage.{Stage}
use Rattle.distributor_part.specs.declared.stage.Stage.TheVariants.{Ended}
use Rattle.distributor_part.specs.Parts.{Part}
use Rattle.distributor_part.specs.Steps.{EndsRound, IsClosed, with_marks}
use Rattle.lane_journals.specs.Stamps.{Stamp}
use Rattle.lane_journals.specs.Buckets.{Id, contains, key_of}
use Rattle.lane_journals.specs.Readers.{Beginning, Preparing, began, prepared, complete, held, asked, opened, answered_store, lacks}
use Rattle.lane_journals.specs.Facts.{IsOpen}
use Rattle.lane_journals.specs.Legal.{Parted, MayAck, Legal}
use Rattle.lane_journals.specs.RowLists as listed
use Rattle.lane_journals.specs.RowLists.{row_with, rows, change, with_members, without, close_row}
use Rattle.lane_journals.specs.States.{state_of}
use Rattle.lane_journals.specs.Meanings.{history}
use Rattle.lane_journals.specs.Places.{Setting, state_in}
use Rattle.lane_journals.specs.KeptJournals.{IsLegalStep}
use Rattle.lane_journals.specs.declared.event.LaneEvent.{LaneEvent}
use Rattle.lane_journals.specs.declared.event.LaneEvent.TheVariants as event
use Rattle.lane_journals.proofs.Meant.{meant-legal}
use Rattle.lane_journals.proofs.RowLists.{change-here, change-other}
use Rattle.lane_journals.proofs.Rows.{same-row, was-prepared, open-row}
use Rattle.lane_keeping.specs.LaneKeeping.{setting_of, IsRow, IsRowOf, row_by, KnowsOpening, Holds, part_in, Keeps}
use Rattle.lane_keeping.specs.Acting.{IsActing, IsKnownRow}
use Rattle.lane_keeping.specs.Asking.{OthersStay}
use Rattle.lane_keeping.proofs.Acting.{HoldsAt}
use Rattle.proof_basics.proofs.Numbers.{apart}
use Rattle.lane_keeping.proofs.Openings.{elsewhere}
use Rattle.lane_keeping.proofs.Owners.{row_by-place, row-inside, holds, heard, rows-match, rows-parted, found-row, known-row}

-- ---- other marks in one row

abbrev pub marked : ℕ → Row → Row
marked marks r = record r { complete = marks }

buckets-stay : (marks at : ℕ) (rs : List Row) → buckets_of (at_row at (marked marks) rs) ≡ buckets_of rs
buckets-stay marks at [] = refl
buckets-stay marks zero (r ∷ rs) = refl
buckets-stay marks (suc at) (r ∷ rs) = ap (λ (bs : List Low). r.bucket ∷ bs) (buckets-stay marks at rs)

place-marked : (marks at : ℕ) (rs : List Row) (row : Row) → slice_get rs at ≡ Some row → slice_get (at_row at (marked marks) rs) at ≡ Some (marked marks row)
place-marked marks at [] row h = cc
place-marked marks zero (r ∷ rs) row h = let same : r ≡ row = cc in ap (λ (x : Row). Some (marked marks x)) same
place-marked marks (suc at) (r ∷ rs) row h = place-marked marks at rs row h

-- a key of another row has the same row
row_by-other : (marks at : ℕ) (rs : List Row) (row : Row) (key : ℕ) → slice_get rs at ≡ Some row → contains row.bucket key ≡ false → row_by key (at_row at (marked marks) rs) ≡ row_by key rs
row_by-other marks at [] row key h out = refl
row_by-other marks zero (r ∷ rs) row key h out =
    let same : r ≡ row = cc in
    let off : contains r.bucket key ≡ false = ap (λ (x : Row). contains x.bucket key) same ∙ out in
    ap (λ (t : Bool). cond t (Some (marked marks r)) (row_by key rs)) off ∙ sym (ap (λ (t : Bool). cond t (Some r) (row_by key rs)) off)
row_by-other marks (suc at) (r ∷ rs) row key h out = ap (λ (o : Option Row). cond (contains r.bucket key) (Some r) o) (row_by-other marks at rs row key h out)

-- the lists match as before, where the changed rows do
rows-change : (marks at : ℕ) (rs : List Row) (row : Row) (b : Low) (f : listed.Row → listed.Row) (ls : List listed.Row) → Parted (buckets_of rs) → slice_get rs at ≡ Some row → row.bucket ≡ b → ((l : listed.Row) → (f l).bucket ≡ l.bucket)
    → ((key : ℕ) → contains row.bucket key ≡ true → (l : listed.Row) → row_with key ls ≡ Some l → IsRow row l → IsRow (marked marks row) (f l))
    → ((key : ℕ) → contains row.bucket key ≡ true → (l : listed.Row) × (row_with key ls ≡ Some l) × IsRow row l)
    → ((key : ℕ) → IsRowOf (row_by key rs) (row_with key ls))
    → (key : ℕ) → IsRowOf (row_by key (at_row at (marked marks) rs)) (row_with key (change b f ls))
rows-change marks at rs row b f ls parted place same keeps changes found match key = by_test (contains row.bucket key) refl
  where
    by_test : (t : Bool) → contains row.bucket key ≡ t → IsRowOf (row_by key (at_row at (marked marks) rs)) (row_with key (change b f ls))
    by_test true i =
        let l = found key i in
        let here : row_by key (at_row at (marked marks) rs) ≡ Some (marked marks row) = row_by-place (at_row at (marked marks) rs) at (marked marks row) (subst Parted (sym (buckets-stay marks at rs)) parted) (place-marked marks at rs row place) key i in
        let there : row_with key (change b f ls) ≡ Some (f l.0) = change-here b f keeps key ls l.0 l.1 (sym (l.2).bucket_is ∙ same) (ap (λ (c : Low). contains c key) (sym same) ∙ i) in
        subst (λ (o : Option Row). IsRowOf o (row_with key (change b f ls))) (sym here) (subst (λ (o : Option listed.Row). IsRowOf (Some (marked marks row)) o) (sym there) (changes key i l.0 l.1 l.2))
    by_test false out =
        let here : row_by key (at_row at (marked marks) rs) ≡ row_by key rs = row_by-other marks at rs row key place out in
        let there : row_with key (change b f ls) ≡ row_with key ls = change-other b f keeps key (ap (λ (c : Low). contains c key) (sym same) ∙ out) ls in
        subst (λ (o : Option Row). IsRowOf o (row_with key (change b f ls))) (sym here) (subst (λ (o : Option listed.Row). IsRowOf (row_by key rs) o) (sym there) (match key))

-- ---- the lane

module _ (lane : Low) (rules : Rules) (J : List LaneEvent) (newest : Option ClusterState) (last : ℕ) (nodes : List Node) (parts now : List Part) (keep : Keeps lane rules J newest last nodes parts) (d : ℕ) (s : ClusterState) (a : IsActing lane J d s) (others : OthersStay lane rules parts now d) where
  abbrev S : Setting
  S = setting_of lane rules

  abbrev p : Part
  p = part_in lane rules parts d

  abbrev q : Part
  q = part_in lane rules now d

  -- what is known where the rows are these
  abbrev HoldsWith : (ℕ → List listed.Row) → ℕ → Option ClusterState → Part → Type 0
  HoldsWith R e o x = Holds lane e (held e (history J)) (λ v. state_in v J) (λ v n. asked v n (history J)) (λ v. opened v (history J)) (λ v key. row_with key (R v)) o x

  bystander : (R : ℕ → List listed.Row) → ((v : ℕ) → s.version ≢ v → R v ≡ rows v (history J)) → (e : ℕ) → e ≢ d → (x : Part) (o : Option ClusterState) → HoldsAt lane J e o x → HoldsWith R e o x
  bystander R same e off x None h = h
  bystander R same e off x (Some t) h = (
    h.0,
    h.1,
    λ own.
        subst (λ (ls : List listed.Row). KnowsOpening (λ n. asked t.version n (history J)) (opened t.version (history J)) (λ key. row_with key ls) t x)
        (sym (same t.version (elsewhere lane rules J s t d e a.published a.owner off h.1 own)))
        (h.2 own),
  )

  module _ (rs : Rows) (has : (part_in lane rules parts d).rows ≡ Some rs) (at marks : ℕ) (stage : Stage) (after : q ≡ record p { rows = Some (with_marks rs at marks); stage = stage }) where
    marker : (R : ℕ → List listed.Row) → ((key : ℕ) → IsRowOf (row_by key (at_row at (marked marks) rs.rows)) (row_with key (R s.version))) → HoldsWith R d q.state q
    marker R match = subst (λ (x : Part). HoldsWith R d x.state x) (sym after)
        (subst (λ (o : Option ClusterState). HoldsWith R d o (record p { rows = Some (with_marks rs at marks); stage = stage })) (sym (heard lane rules J newest last nodes parts keep d s a)) (
          known.0,
          known.1,
          λ own. let know = known.2 own in record {
            answered_are = know.answered_are;
            serving = know.serving;
            shown_are = λ e. absurd (not_none e);
            opened_as = know.opened_as ∙ ap is_some has;
            rows_are = match;
            parted = subst Parted (sym (buckets-stay marks at rs.rows)) (rows-parted lane rules J newest last nodes parts keep d s a rs has);
          },
        ))
      where
        known : HoldsAt lane J d (Some s) (part_in lane rules parts d)
        known = holds lane rules J newest last nodes parts keep d s (heard lane rules J newest last nodes parts keep d s a)

        not_none : ◌≡◌ {A = Option Rows} (Some (with_marks rs at marks)) None → ⊥
        not_none e = cc

    -- each part holds what it should where the rows of the version change so
    pub parts-with : (R : ℕ → List listed.Row) → ((v : ℕ) → s.version ≢ v → R v ≡ rows v (history J)) → ((key : ℕ) → IsRowOf (row_by key (at_row at (marked marks) rs.rows)) (row_with key (R s.version)))
        → (e : ℕ) → HoldsWith R e (part_in lane rules now e).state (part_in lane rules now e)
    parts-with R same match e = elim (cases_eq e d) [
      | inl is ↦ subst (λ (z : ℕ). HoldsWith R z (part_in lane rules now z).state (part_in lane rules now z)) (sym is) (marker R match)
      | inr off ↦ subst (λ (x : Part). HoldsWith R e x.state x) (sym (others e off)) (bystander R same e off (part_in lane rules parts e) (part_in lane rules parts e).state (keep.parts_are e).heard)
    ]

    -- and is a part of the lane
    pub plain-with : (e : ℕ) → ((part_in lane rules now e).number ≡ e) × ((part_in lane rules now e).lane ≡ lane) × ((part_in lane rules now e).rules ≡ rules)
    plain-with e = elim (cases_eq e d) [
      | inl is ↦ subst (λ (z : ℕ). ((part_in lane rules now z).number ≡ z) × ((part_in lane rules now z).lane ≡ lane) × ((part_in lane rules now z).rules ≡ rules)) (sym is)
          (let was = keep.parts_are d in (ap (λ (x : Part). x.number) after ∙ was.number_is, ap (λ (x : Part). x.lane) after ∙ was.lane_is, ap (λ (x : Part). x.rules) after ∙ was.rules_are))
      | inr off ↦ (let was = keep.parts_are e in (ap (λ (x : Part). x.number) (others e off) ∙ was.number_is, ap (λ (x : Part). x.lane) (others e off) ∙ was.lane_is, ap (λ (x : Part). x.rules) (others e off) ∙ was.rules_are))
    ]

  -- ---- a round ends

  or-cond : (x y : Bool) → (x || y) ≡ cond y true x
  or-cond true true = refl
  or-cond true false = refl
  or-cond false true = refl
  or-cond false false = refl

  module _ (bucket : Low) (complete : ℕ) (x : EndsRound (part_in lane rules parts d) (part_in lane rules now d) bucket complete) (step : IsLegalStep S J (event.Decided d s.version (RoundEnded bucket complete))) where
    abbrev gained : listed.Row → listed.Row
    gained = with_members (λ n. has_node complete n)

    abbrev ended_rows : ℕ → List listed.Row
    ended_rows v = cond (eqb s.version v) (change bucket gained (rows v (history J))) (rows v (history J))

    ended-others : (v : ℕ) → s.version ≢ v → ended_rows v ≡ rows v (history J)
    ended-others v off = ap (λ (t : Bool). cond t (change bucket gained (rows v (history J))) (rows v (history J))) (apart s.version v off)

    ended-match : (key : ℕ) → IsRowOf (row_by key (at_row x.at (marked x.marks) (x.rows).rows)) (row_with key (ended_rows s.version))
    ended-match key = subst (λ (t : Bool). IsRowOf (row_by key (at_row x.at (marked x.marks) (x.rows).rows)) (row_with key (cond t (change bucket gained (rows s.version (history J))) (rows s.version (history J))))) (sym (eq-eqb s.version s.version refl))
        (rows-change x.marks x.at (x.rows).rows x.row bucket gained (rows s.version (history J)) (rows-parted lane rules J newest last nodes parts keep d s a x.rows x.opened) x.found (sym x.same_bucket) (λ l. refl)
        (λ k i l e h. record { bucket_is = h.bucket_is; complete_is = λ n. x.gained n ∙ or-cond (has_node (x.row).complete n) (has_node complete n) ∙ ap (λ (t : Bool). cond (has_node complete n) true t) (h.complete_is n); active_is = h.active_is; delete_is = h.delete_is })
        (λ k i. let z = found-row lane rules J newest last nodes parts keep d s a x.rows x.opened x.at x.row x.found k i in (z.found, z.at, z.is_row))
        (rows-match lane rules J newest last nodes parts keep d s a x.rows x.opened) key)

    pub keeps-ended : Keeps lane rules (event.Decided d s.version (RoundEnded bucket complete) ∷ J) newest last nodes now
    keeps-ended = record {
      legal = (keep.legal, step);
      newest_is = keep.newest_is;
      numbered = keep.numbered;
      nodes_are = keep.nodes_are;
      parts_are = λ e. let w = plain-with x.rows x.opened x.at x.marks (Ended x.missing) x.after e in record {
        number_is = w.0;
        lane_is = w.1;
        rules_are = w.2;
        heard = parts-with x.rows x.opened x.at x.marks (Ended x.missing) x.after ended_rows ended-others ended-match e;
      };
    }

  -- ---- an operation is acknowledged

  and-cond : (x y z : Bool) → (x ≡ true → y ≡ z) → (x && y) ≡ cond (cond z false true) false x
  and-cond true y true h = h refl
  and-cond true y false h = h refl
  and-cond false y true h = refl
  and-cond false y false h = refl

  module _ (line key answered : ℕ) (id : Id) (t : Stamp) (x : IsClosed (part_in lane rules parts d) (part_in lane rules now d) key answered)
      (begun : began line (history J) ≡ Some (record { distributor = d; version = s.version; id = id; stamp = Some t })) (is : key ≡ key_of id)
      (counted : (n : ℕ) → complete s.version n key (history J) ≡ true → has_node answered n ≡ answered_store s.version id t n (history J)) (step : IsLegalStep S J (event.Closed line (Acked t))) where
    abbrev b : Beginning
    b = record { distributor = d; version = s.version; id = id; stamp = Some t }

    ack : MayAck rules.acks (history J) line (step.permitted).begin
    ack = (step.permitted).acked refl

    legal : Legal rules.acks (state_of (history J)) (history J)
    legal = meant-legal S J keep.legal

    abbrev kept_only : ℕ → listed.Row → listed.Row
    kept_only v = without (λ n. lacks v id n (history J) (Some t))

    abbrev acked_rows : ℕ → List listed.Row
    acked_rows v = cond (eqb s.version v) (change (ack.preparing).row (kept_only v) (rows v (history J))) (rows v (history J))

    acked-others : (v : ℕ) → s.version ≢ v → acked_rows v ≡ rows v (history J)
    acked-others v off = ap (λ (u : Bool). cond u (change (ack.preparing).row (kept_only v) (rows v (history J))) (rows v (history J))) (apart s.version v off)

    known : IsKnownRow s.version (history J) x.row
    known = known-row lane rules J newest last nodes parts keep d s a x.rows x.opened x.at x.row (x.is_row).found

    is_open : IsOpen s.version line b ack.preparing (history J)
    is_open = record { began = begun; version = refl; prepared = ack.was_prepared; unclosed = (step.permitted).unclosed }

    inside : contains (ack.preparing).row key ≡ true
    inside = let w = was-prepared rules.acks (state_of (history J)) (history J) legal line ack.preparing ack.was_prepared in
        let z : Some w.begin ≡ Some b = sym w.begun ∙ begun in let e : w.begin ≡ b = cc in
        ap (λ (k : ℕ). contains (ack.preparing).row k) is ∙ ap (λ (i : Beginning). contains (ack.preparing).row (key_of i.id)) (sym e) ∙ w.inside

    has : contains (x.row).bucket key ≡ true
    has = row-inside x.rows key x.at x.row x.is_row

    one : (x.row).bucket ≡ (ack.preparing).row
    one = same-row s.version (x.row).bucket (ack.preparing).row (history J) key known.is_row (open-row rules.acks (state_of (history J)) (history J) legal s.version line b ack.preparing is_open) has inside

    -- a member keeps its mark just where it answered
    kept : (n : ℕ) → has_node x.marks n ≡ cond (lacks s.version id n (history J) (Some t)) false (has_node (x.row).complete n)
    kept n = x.kept n ∙ and-cond (has_node (x.row).complete n) (has_node answered n) (answered_store s.version id t n (history J)) (λ h. counted n (known.members n key has ∙ h))

    acked-match : (k : ℕ) → IsRowOf (row_by k (at_row x.at (marked x.marks) (x.rows).rows)) (row_with k (acked_rows s.version))
    acked-match k = subst (λ (u : Bool). IsRowOf (row_by k (at_row x.at (marked x.marks) (x.rows).rows)) (row_with k (cond u (change (ack.preparing).row (kept_only s.version) (rows s.version (history J))) (rows s.version (history J))))) (sym (eq-eqb s.version s.version refl))
        (rows-change x.marks x.at (x.rows).rows x.row (ack.preparing).row (kept_only s.version) (rows s.version (history J)) (rows-parted lane rules J newest last nodes parts keep d s a x.rows x.opened) (x.is_row).found one (λ l. refl)
        (λ i c l e h. record { bucket_is = h.bucket_is; complete_is = λ n. kept n ∙ ap (λ (u : Bool). cond (lacks s.version id n (history J) (Some t)) false u) (h.complete_is n); active_is = h.active_is; delete_is = h.delete_is })
        (λ i c. let z = found-row lane rules J newest last nodes parts keep d s a x.rows x.opened x.at x.row (x.is_row).found i c in (z.found, z.at, z.is_row))
        (rows-match lane rules J newest last nodes parts keep d s a x.rows x.opened) k)

    pub keeps-acked : Keeps lane rules (event.Closed line (Acked t) ∷ J) newest last nodes now
    keeps-acked = record {
      legal = (keep.legal, step);
      newest_is = keep.newest_is;
      numbered = keep.numbered;
      nodes_are = keep.nodes_are;
      parts_are = λ e. let w = plain-with x.rows x.opened x.at x.marks p.stage x.after e in record {
        number_is = w.0;
        lane_is = w.1;
        rules_are = w.2;
        heard = subst (λ (o : Option Beginning). HoldsWith (λ v. close_row v o (prepared line (history J)) (history J) (rows v (history J))) e (part_in lane rules now e).state (part_in lane rules now e)) (sym begun)
            (subst (λ (o : Option Preparing). HoldsWith (λ v. close_row v (Some b) o (history J) (rows v (history J))) e (part_in lane rules now e).state (part_in lane rules now e)) (sym ack.was_prepared)
            (parts-with x.rows x.opened x.at x.marks p.stage x.after acked_rows acked-others acked-match e));
      };
    }
