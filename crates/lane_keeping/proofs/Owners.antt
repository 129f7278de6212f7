-- What an owner knows: it acts under the state that its part heard, and its rows are the journal's.
use Rattle.std.proofs.Common.{◌≡◌, ◌↔◌, ℕ, zero, suc, ◌^◌, ◌<◌, Bool, true, false, List, [], ◌∷◌, cond, Option, Some, None, is_some, inl, inr, refl, sym, ap, ◌∙◌, subst, slice_get, arith, eqb, eq-eqb}
use Rattle.bucket_ids.specs.Buckets.{Low}
use Rattle.node_sets.specs.Members.{has_node}
use Rattle.cluster_states.specs.declared.cluster_state.ClusterState.{ClusterState}
use Rattle.cluster_states.specs.Publishing.{serves}
use Rattle.ideal_nodes.specs.Placement.{IsOwner}
use Rattle.bucket_db.specs.Rows.{Rows, buckets_of}
use Rattle.bucket_db.specs.declared.row.Row.{Row}
use Rattle.node_model.specs.Nodes.{Node}
use Rattle.distributor_part.specs.declared.rules.Rules.{Rules}
use Rattle.distributor_part.specs.Parts.{Part, rows_of}
use Rattle.distributor_part.specs.Steps as steps
use Rattle.lane_journals.specs.Buckets.{contains}
use Rattle.lane_journals.specs.Events as plain
use Rattle.lane_journals.specs.Readers as readers
use Rattle.lane_journals.specs.Readers.{Given, or_else, sent, first_reply, returned, row_in, asked, asked_of, is_ask, opened}
use Rattle.lane_journals.specs.Facts.{AnsweredAsk}
use Rattle.lane_journals.specs.Legal.{Parted, Permits}
use Rattle.lane_journals.specs.RowLists as listed
use Rattle.lane_journals.specs.RowLists.{row_with, rows, bucket_of, member_of, active_of}
use Rattle.lane_journals.specs.States.{state_of}
use Rattle.lane_journals.specs.Meanings.{history, meaning}
use Rattle.lane_journals.specs.Places.{Setting, state_in}
use Rattle.lane_journals.specs.KeptJournals.{IsLegal}
use Rattle.lane_journals.specs.declared.event.LaneEvent.{LaneEvent}
use Rattle.lane_journals.specs.declared.event.LaneEvent.TheVariants as event
use Rattle.lane_journals.proofs.Basics.{or_else-some, sent-stays, first_reply-stays, returned-cases}
use Rattle.lane_journals.proofs.Meant.{meant-legal, state-serves}
use Rattle.lane_journals.proofs.RowLists.{Linked, linked}
use Rattle.lane_keeping.specs.LaneKeeping.{setting_of, IsRow, IsRowOf, row_by, KnowsOpening, part_in, Keeps}
use Rattle.lane_keeping.specs.Acting.{IsActing, IsKnownRow, IsNoHearing}
use Rattle.lane_keeping.proofs.Acting.{HoldsAt, asked-answered}
use Rattle.lane_keeping.proofs.Openings.{some-of}
use Rattle.lane_keeping.proofs.Events.{replied-sent, returned-replied}

-- ---- rows that have no common key

pub row_by-bucket : (key : ℕ) (rs : List Row) (row : Row) → row_by key rs ≡ Some row → row_in key (buckets_of rs) ≡ Some row.bucket
row_by-bucket key [] row h = cc
row_by-bucket key (r ∷ rs) row h = by_test (contains r.bucket key) h (row_by-bucket key rs row)
  where
    by_test : (t : Bool) → cond t (Some r) (row_by key rs) ≡ Some row → (row_by key rs ≡ Some row → row_in key (buckets_of rs) ≡ Some row.bucket) → cond t (Some r.bucket) (row_in key (buckets_of rs)) ≡ Some row.bucket
    by_test true h ih = let same : r ≡ row = cc in ap (λ (x : Row). Some x.bucket) same
    by_test false h ih = ih h

-- the row of a place is the row of its keys
pub row_by-place : (rs : List Row) (at : ℕ) (row : Row) → Parted (buckets_of rs) → slice_get rs at ≡ Some row → (key : ℕ) → contains row.bucket key ≡ true → row_by key rs ≡ Some row
row_by-place [] at row parted h key i = cc
row_by-place (r ∷ rs) zero row parted h key i =
    let same : r ≡ row = cc in
    ap (λ (t : Bool). cond t (Some r) (row_by key rs)) (ap (λ (x : Row). contains x.bucket key) same ∙ i) ∙ ap (λ (x : Row). Some x) same
row_by-place (r ∷ rs) (suc at) row parted h key i = by_test (contains r.bucket key) refl (row_by-place rs at row parted.2 h key i)
  where
    by_test : (t : Bool) → contains r.bucket key ≡ t → row_by key rs ≡ Some row → cond t (Some r) (row_by key rs) ≡ Some row
    by_test true e ih = let a = parted.1 key e in let b = row_by-bucket key rs row ih in absurd (let w : ◌≡◌ {A = Option Low} None (Some row.bucket) = sym a ∙ b in cc)
    by_test false e ih = ih

pub place-fits : (rs : List Row) (at : ℕ) (row : Row) → Parted (buckets_of rs) → slice_get rs at ≡ Some row → row.bucket.low < 2 ^ row.bucket.bits
place-fits [] at row parted h = cc
place-fits (r ∷ rs) zero row parted h = let same : r ≡ row = cc in subst (λ (x : Row). x.bucket.low < 2 ^ x.bucket.bits) same parted.0
place-fits (r ∷ rs) (suc at) row parted h = place-fits rs at row parted.2 h

pub row-inside : (rs : Rows) (key at : ℕ) (row : Row) → steps.IsRowOf rs key at row → contains row.bucket key ≡ true
unfolding contains
row-inside rs key at row is = is.has

-- ---- whoever answered an Ask counts as asked

asked-stays : (v n : ℕ) (H : readers.Journal) (g : Given) (e : plain.Event) → asked v n H ≡ Some g → asked v n (e ∷ H) ≡ Some g
asked-stays v n H g e h = grind (arith, or_else-some)

there-stays : (v n : ℕ) (H : readers.Journal) (e : plain.Event) → is_some (asked v n H) ≡ true → is_some (asked v n (e ∷ H)) ≡ true
there-stays v n H e h = let g = some-of (asked v n H) h in ap is_some (asked-stays v n H g.0 e g.1)

-- the first reply and the message were there before
same-reply : (k : ℕ) (H : readers.Journal) (e : plain.Event) (r y : plain.Reply) → first_reply k H ≡ Some r → first_reply k (e ∷ H) ≡ Some y → first_reply k H ≡ Some y
same-reply k H e r y h g = let s = first_reply-stays k H r e h in let same : r ≡ y = cc in h ∙ ap (λ (x : plain.Reply). Some x) same

same-message : (k : ℕ) (H : readers.Journal) (e : plain.Event) (x m : readers.Message) → sent k H ≡ Some x → sent k (e ∷ H) ≡ Some m → sent k H ≡ Some m
same-message k H e x m h g = let s = sent-stays k H x e h in let same : x ≡ m = cc in h ∙ ap (λ (z : readers.Message). Some z) same

module _ (v n k : ℕ) (m : readers.Message) (g : Given) (under : m.version ≡ v) (to : m.receiver ≡ n) (is : m.body ≡ plain.Ask) where
  counts-now : (H : readers.Journal) → sent k H ≡ Some m → first_reply k H ≡ Some (plain.Answer g.content g.names) → is_some (asked v n (plain.Returned k ∷ H)) ≡ true
  counts-now H was replied = ap (λ (o : Option Given). is_some (or_else (asked v n H) o)) given ∙ either (asked v n H)
    where
      given : asked_of v n (sent k H) (first_reply k H) ≡ Some g
      given = ap (λ (o : Option readers.Message). asked_of v n o (first_reply k H)) was ∙ ap (λ (o : Option plain.Reply). asked_of v n (Some m) o) replied
          ∙ ap (λ (b : plain.Body). cond (is_ask b) (cond (eqb m.version v) (cond (eqb m.receiver n) (Some g) None) None) None) is
          ∙ ap (λ (t : Bool). cond t (cond (eqb m.receiver n) (Some g) None) None) (eq-eqb m.version v under)
          ∙ ap (λ (t : Bool). cond t (Some g) None) (eq-eqb m.receiver n to)

      either : (o : Option Given) → is_some (or_else o (Some g)) ≡ true
      either None = refl
      either (Some x) = refl

  counts : (S : Setting) (J : List LaneEvent) → IsLegal S J → returned k (history J) ≡ true → sent k (history J) ≡ Some m → first_reply k (history J) ≡ Some (plain.Answer g.content g.names) → is_some (asked v n (history J)) ≡ true
  counts S [] l back was replied = cc
  counts S (e ∷ J) l back was replied = elim (returned-cases k (history J) (meaning J e) back) [
    | inl old ↦ (let r = returned-replied S J k l.0 old in let x = replied-sent S J k r.0 l.0 r.1 in
        there-stays v n (history J) (meaning J e) (counts S J l.0 old (same-message k (history J) (meaning J e) x.0 m x.1 was) (same-reply k (history J) (meaning J e) r.0 (plain.Answer g.content g.names) r.1 replied)))
    | inr new ↦ (let may = subst (λ (x : plain.Event). Permits S.acks (state_of (history (e ∷ J))) (history J) x) new (l.1).permitted in let x = replied-sent S J k may.reply l.0 may.replied in
        subst (λ (x : plain.Event). is_some (asked v n (x ∷ history J)) ≡ true) (sym new)
        (counts-now (history J) (same-message k (history J) (meaning J e) x.0 m x.1 was) (same-reply k (history J) (meaning J e) may.reply (plain.Answer g.content g.names) may.replied replied)))
  ]

-- ---- the owner

pub acting-stays : (lane : Low) (J : List LaneEvent) (d : ℕ) (s : ClusterState) (e : LaneEvent) → IsNoHearing e → IsActing lane J d s → IsActing lane (e ∷ J) d s
acting-stays lane J d s (event.Heard b v) h a = absurd h
acting-stays lane J d s (event.Published t) h a = record { holds = a.holds; published = or_else-some (state_in s.version J) _ s a.published; owner = a.owner }
acting-stays lane J d s _ h a = record { holds = a.holds; published = a.published; owner = a.owner }

module _ (lane : Low) (rules : Rules) (J : List LaneEvent) (newest : Option ClusterState) (last : ℕ) (nodes : List Node) (parts : List Part) (keep : Keeps lane rules J newest last nodes parts) (d : ℕ) where
  abbrev S : Setting
  S = setting_of lane rules

  abbrev p : Part
  p = part_in lane rules parts d

  pub holds : (s : ClusterState) → (part_in lane rules parts d).state ≡ Some s → HoldsAt lane J d (Some s) (part_in lane rules parts d)
  holds s e = subst (λ (o : Option ClusterState). HoldsAt lane J d o (part_in lane rules parts d)) e (keep.parts_are d).heard

  pub acts : (s : ClusterState) → (part_in lane rules parts d).state ≡ Some s → IsOwner lane s d → IsActing lane J d s
  acts s e own = let h = holds s e in record { holds = h.0; published = h.1; owner = own }

  pub heard : (s : ClusterState) → IsActing lane J d s → (part_in lane rules parts d).state ≡ Some s
  heard s a = by_state (part_in lane rules parts d).state refl (keep.parts_are d).heard
    where
      by_state : (o : Option ClusterState) → (part_in lane rules parts d).state ≡ o → HoldsAt lane J d o (part_in lane rules parts d) → (part_in lane rules parts d).state ≡ Some s
      by_state None e h = let w : ◌≡◌ {A = Option ℕ} None (Some s.version) = sym h ∙ a.holds in absurd (not_some s.version w)
        where
          not_some : (x : ℕ) → ◌≡◌ {A = Option ℕ} None (Some x) → ⊥
          not_some x w = cc
      by_state (Some t) e h =
          let both : Some t.version ≡ Some s.version = sym h.0 ∙ a.holds in
          let same : t.version ≡ s.version = cc in
          e ∙ sym h.1 ∙ ap (λ (v : ℕ). state_in v J) same ∙ a.published

  pub knows : (s : ClusterState) → IsActing lane J d s
      → KnowsOpening (λ n. asked s.version n (history J)) (opened s.version (history J)) (λ key. row_with key (rows s.version (history J))) s (part_in lane rules parts d)
  knows s a = (holds s (heard s a)).2 a.owner

  -- the nodes that count as answered are those that answered an Ask
  pub told : (s : ClusterState) → IsActing lane J d s → (n : ℕ) → (has_node (part_in lane rules parts d).answered n ≡ true) ↔ AnsweredAsk s.version n (history J)
  told s a n = (
    λ h. (let g = some-of (asked s.version n (history J)) (sym ((knows s a).answered_are n) ∙ h) in asked-answered s.version n (history J) g.0 g.1),
    λ w. (knows s a).answered_are n ∙ counts s.version n w.number w.message (record { content = w.content; names = w.names }) w.version w.receiver w.body S J keep.legal w.back w.was_sent w.reply,
  )

  pub serving : (s : ClusterState) → IsActing lane J d s → (n : ℕ) → state_of (history J) s.version n ≡ serves s n
  serving s a n = state-serves S J keep.legal s.version n s a.published

  -- each of its rows is the journal's
  module _ (s : ClusterState) (a : IsActing lane J d s) (rs : Rows) (has : (part_in lane rules parts d).rows ≡ Some rs) where
    pub rows-match : (key : ℕ) → IsRowOf (row_by key rs.rows) (row_with key (rows s.version (history J)))
    rows-match key = subst (λ (o : Option Rows). IsRowOf (row_by key (rows_of o)) (row_with key (rows s.version (history J)))) has ((knows s a).rows_are key)

    pub rows-parted : Parted (buckets_of rs.rows)
    rows-parted = subst (λ (o : Option Rows). Parted (buckets_of (rows_of o))) has (knows s a).parted

    pub record FoundRow (row : Row) (key : ℕ) : Type 0 where
      pub found : listed.Row
      pub at : row_with key (rows s.version (history J)) ≡ Some found
      pub is_row : IsRow row found

    pub found-row : (at : ℕ) (row : Row) → slice_get rs.rows at ≡ Some row → (key : ℕ) → contains row.bucket key ≡ true → FoundRow row key
    found-row at row place key i = by_found (row_with key (rows s.version (history J))) refl (subst (λ (o : Option Row). IsRowOf o (row_with key (rows s.version (history J)))) (row_by-place rs.rows at row rows-parted place key i) (rows-match key))
      where
        by_found : (o : Option listed.Row) → row_with key (rows s.version (history J)) ≡ o → IsRowOf (Some row) o → FoundRow row key
        by_found None e h = absurd h
        by_found (Some l) e h = record { found = l; at = e; is_row = h }

    link : (key : ℕ) → Linked s.version key (history J)
    link key = linked rules.acks (state_of (history J)) (history J) (meant-legal S J keep.legal) s.version key

    pub known-row : (at : ℕ) (row : Row) → slice_get rs.rows at ≡ Some row → IsKnownRow s.version (history J) row
    known-row at row place = record {
      is_row = record {
        fits = place-fits rs.rows at row rows-parted place;
        opened = (knows s a).opened_as ∙ ap is_some has;
        row = λ key i. (let f = found-row at row place key i in (link key).row ∙ ap bucket_of f.at ∙ ap (λ (b : Low). Some b) (sym (f.is_row).bucket_is));
      };
      members = λ n key i. (let f = found-row at row place key i in (link key).members n ∙ ap (member_of n) f.at ∙ sym ((f.is_row).complete_is n));
      active_is = λ key i. (let f = found-row at row place key i in (link key).actives ∙ ap active_of f.at ∙ sym (f.is_row).active_is);
    }
