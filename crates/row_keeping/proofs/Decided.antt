-- What a lane keeps when its owner decides: the rows of its part become what the longer journal says.
use Rattle.std.proofs.Common.{◌≡◌, ◌≢◌, ℕ, false, List, ◌∷◌, Option, Some, None, is_some, inl, inr, sym, ap, ◌∙◌, subst, arith, eqb}
use Rattle.std.proofs.lemmas.Bool.{cases_eq}
use Rattle.std.proofs.lemmas.Bool.Decides.{nat_tests}
use Rattle.bucket_ids.specs.Buckets.{Low}
use Rattle.cluster_states.specs.declared.cluster_state.ClusterState.{ClusterState}
use Rattle.bucket_db.specs.Rows.{Rows}
use Rattle.bucket_db.specs.Changes.{with_rows}
use Rattle.bucket_db.specs.declared.row.Row.{Row}
use Rattle.messages.specs.declared.decision.Decision.{Decision}
use Rattle.node_model.specs.Nodes.{Node}
use Rattle.distributor_part.specs.declared.rules.Rules.{Rules}
use Rattle.distributor_part.specs.Parts.{Part}
use Rattle.lane_journals.specs.Events as plain
use Rattle.lane_journals.specs.Readers.{Journal, asked, opened}
use Rattle.lane_journals.specs.RowLists as listed
use Rattle.lane_journals.specs.RowLists.{row_with, rows}
use Rattle.lane_journals.specs.States.{state_of}
use Rattle.lane_journals.specs.Meanings.{history, meaning_decision}
use Rattle.lane_journals.specs.Places.{Setting, Owns}
use Rattle.lane_journals.specs.KeptJournals.{IsLegalStep}
use Rattle.lane_journals.specs.declared.event.LaneEvent.{LaneEvent}
use Rattle.lane_journals.specs.declared.event.LaneEvent.TheVariants as event
use Rattle.lane_journals.proofs.Meant.{meant-legal}
use Rattle.lane_journals.proofs.RowLists.{linked}
use Rattle.lane_keeping.specs.LaneKeeping.{setting_of, row_by, KnowsOpening, part_in, Keeps}
use Rattle.lane_keeping.specs.Acting.{IsActing}
use Rattle.lane_keeping.specs.Asking.{OthersStay}
use Rattle.lane_keeping.specs.Laws.{IsKeptNext}
use Rattle.lane_keeping.proofs.Acting.{HoldsAt}
use Rattle.proof_basics.proofs.Numbers.{apart}
use Rattle.lane_keeping.proofs.Openings.{elsewhere}
use Rattle.lane_keeping.proofs.Owners.{holds, heard, rows-match, rows-parted}
use Rattle.row_keeping.proofs.RowLists.{Apart, apart-of, parted-of}
use Rattle.row_keeping.proofs.Reading.{Says, matched, saying}

-- a decision changes the rows of its version alone
other-rows : (v w d : ℕ) (x : plain.Decision) (H : Journal) → eqb w v ≡ false → rows v (plain.Decided d w x ∷ H) ≡ rows v H
other-rows v w d x H e = grind (arith, nat_tests)

module _ (lane : Low) (rules : Rules) (J : List LaneEvent) (newest : Option ClusterState) (last : ℕ) (nodes : List Node) (parts : List Part) (keep : Keeps lane rules J newest last nodes parts) (d : ℕ) (s : ClusterState) (a : IsActing lane J d s) where
  abbrev S : Setting
  S = setting_of lane rules

  abbrev p : Part
  p = part_in lane rules parts d

  pub owns : Owns S J d s.version
  owns = record { state = s; published = a.published; owner = a.owner }

  module _ (rs : Rows) (has : (part_in lane rules parts d).rows ≡ Some rs) where
    pub rows-apart : Apart rs.rows
    rows-apart = apart-of rs.rows (rows-parted lane rules J newest last nodes parts keep d s a rs has)

    -- each row of the part is the journal's
    pub rows-say : (key : ℕ) → Says s.version key (history J) (row_by key rs.rows)
    rows-say key = saying s.version key (history J) (linked rules.acks (state_of (history J)) (history J) (meant-legal S J keep.legal) s.version key)
        (row_by key rs.rows) (rows-match lane rules J newest last nodes parts keep d s a rs has key)

    module _ (now : List Part) (others : OthersStay lane rules parts now d) (x : Decision) (step : IsLegalStep S J (event.Decided d s.version x)) (rs' : List Row) where
      abbrev K : List LaneEvent
      K = event.Decided d s.version x ∷ J

      abbrev q : Part
      q = part_in lane rules now d

      bystander : (e : ℕ) → e ≢ d → (y : Part) (o : Option ClusterState) → HoldsAt lane J e o y → HoldsAt lane K e o y
      bystander e off y None h = h
      bystander e off y (Some t) h = (
        h.0,
        h.1,
        λ own.
            subst (λ (ls : List listed.Row). KnowsOpening (λ n. asked t.version n (history J)) (opened t.version (history J)) (λ key. row_with key ls) t y)
            (sym (other-rows t.version s.version d (meaning_decision x) (history J) (apart s.version t.version (elsewhere lane rules J s t d e a.published a.owner off h.1 own))))
            (h.2 own),
      )

      known : HoldsAt lane J d (Some s) (part_in lane rules parts d)
      known = holds lane rules J newest last nodes parts keep d s (heard lane rules J newest last nodes parts keep d s a)

      not_none : ◌≡◌ {A = Option Rows} (Some (with_rows rs rs')) None → ⊥
      not_none e = cc

      module _ (after : part_in lane rules now d ≡ record (part_in lane rules parts d) { rows = Some (with_rows rs rs') }) (free : Apart rs') (say : (key : ℕ) → Says s.version key (history K) (row_by key rs')) where
        decider : HoldsAt lane K d q.state q
        decider = subst (λ (y : Part). HoldsAt lane K d y.state y) (sym after)
            (subst (λ (o : Option ClusterState). HoldsAt lane K d o (record p { rows = Some (with_rows rs rs') })) (sym (heard lane rules J newest last nodes parts keep d s a)) (
              known.0,
              known.1,
              λ own. let know = known.2 own in record {
                answered_are = know.answered_are;
                serving = know.serving;
                shown_are = λ e. absurd (not_none e);
                opened_as = know.opened_as ∙ ap is_some has;
                rows_are = λ key. matched s.version key (history K) (linked rules.acks (state_of (history K)) (history K) (meant-legal S K (keep.legal, step)) s.version key) (row_by key rs') (say key);
                parted = parted-of rs' free;
              },
            ))

        held-by : (e : ℕ) → HoldsAt lane K e (part_in lane rules now e).state (part_in lane rules now e)
        held-by e = elim (cases_eq e d) [
          | inl is ↦ subst (λ (z : ℕ). HoldsAt lane K z (part_in lane rules now z).state (part_in lane rules now z)) (sym is) decider
          | inr off ↦ subst (λ (y : Part). HoldsAt lane K e y.state y) (sym (others e off)) (bystander e off (part_in lane rules parts e) (part_in lane rules parts e).state (keep.parts_are e).heard)
        ]

        plain-by : (e : ℕ) → ((part_in lane rules now e).number ≡ e) × ((part_in lane rules now e).lane ≡ lane) × ((part_in lane rules now e).rules ≡ rules)
        plain-by e = elim (cases_eq e d) [
          | inl is ↦ subst (λ (z : ℕ). ((part_in lane rules now z).number ≡ z) × ((part_in lane rules now z).lane ≡ lane) × ((part_in lane rules now z).rules ≡ rules)) (sym is)
              (let was = keep.parts_are d in (ap (λ (y : Part). y.number) after ∙ was.number_is, ap (λ (y : Part). y.lane) after ∙ was.lane_is, ap (λ (y : Part). y.rules) after ∙ was.rules_are))
          | inr off ↦ (let was = keep.parts_are e in (ap (λ (y : Part). y.number) (others e off) ∙ was.number_is, ap (λ (y : Part). y.lane) (others e off) ∙ was.lane_is, ap (λ (y : Part). y.rules) (others e off) ∙ was.rules_are))
        ]

        pub decided-next : IsKeptNext lane rules J newest last nodes now (event.Decided d s.version x)
        decided-next = record {
          legal = step;
          keeps = record {
            legal = (keep.legal, step);
            newest_is = keep.newest_is;
            numbered = keep.numbered;
            nodes_are = keep.nodes_are;
            parts_are = λ e. let w = plain-by e in record { number_is = w.0; lane_is = w.1; rules_are = w.2; heard = held-by e };
          };
        }
