-- A pass that goes on by events that leave the parts as they are.
use Rattle.std.proofs.Common.{◌≡◌, ◌<◌, ℕ, List, ◌∷◌, slice_get, vec_len, refl, sym, ap, subst, ◌∙◌}
use Rattle.bucket_ids.specs.Buckets.{Low}
use Rattle.carriers.specs.declared.fate.Fate.{Fate}
use Rattle.messages.specs.Noting.{message_of}
use Rattle.messages.specs.declared.body.Body.{Body}
use Rattle.messages.specs.declared.message.Message.{Message}
use Rattle.distributor_part.specs.Parts.{Part, rows_of}
use Rattle.distributor_part.specs.Steps.{IsOpened, with_marks}
use Rattle.lane_journals.specs.Readers.{held}
use Rattle.lane_journals.specs.Facts.{Idle}
use Rattle.lane_journals.specs.Meanings.{history}
use Rattle.lane_journals.specs.Places.{state_in}
use Rattle.lane_journals.specs.declared.event.LaneEvent.{LaneEvent}
use Rattle.lane_journals.specs.declared.event.LaneEvent.TheVariants.{Sent, Delivered, Returned}
use Rattle.messages.specs.declared.late.Late.{Late}
use Rattle.lane_keeping.specs.LaneKeeping.{part_in}
use Rattle.lane_keeping.specs.Acting.{IsActing}
use Rattle.lane_keeping.specs.RoundKeeping.{origin_in}
use Rattle.row_keeping.specs.Telling.{IsTelling}
use Rattle.lane_states.specs.declared.lane_state.LaneState.{LaneState}
use Rattle.lane_states.specs.LaneStates.{journal_of, part_of, IsKept, HasRoom, IsCarriedBy, IsResting, Went}
use Rattle.lane_carriage.specs.Carrying.{AreCarried}
use Rattle.round_keeping.specs.RoundRuns.{NoneRuns}
use Rattle.lane_states.specs.Tellings.{IsRowBody}
use Rattle.lane_carriage.proofs.Staying.{IsOfMessage}
use Rattle.lane_states.proofs.Tellings.{stays-went}
use Rattle.upkeep_spans.specs.Spans.{AreUpkeep, OfUpkeep, Nothing}
use Rattle.lane_upkeep.specs.declared.owner.Owner.{Owner}
use Rattle.lane_upkeep.specs.Passing.{IsPassing, PassesOn, MayTell}
use Rattle.lane_upkeep.specs.RoundNotes.{GainsMarks}
use Rattle.lane_upkeep.proofs.Tellings.{row-body, upkeep-body}
use Rattle.lane_upkeep.proofs.Upkept.{upkeep-went}

-- ---- what a message says

-- what the owner may say of a row, it says in this message
pub telling-of : (c : LaneState) (o : Owner) (given : List Fate) (node : ℕ) (body : Body) (m : Message) → IsPassing c o given → MayTell c o node body → m ≡ message_of (origin_in c.lane o.distributor o.state) node body
    → IsTelling c.lane (journal_of c) o.distributor o.state (part_of c o.distributor) m
telling-of c o given node body m p t is = subst (λ (x : Message). IsTelling c.lane (journal_of c) o.distributor o.state (part_of c o.distributor) x) (sym is) (record {
  acting = p.acting;
  rows = p.rows;
  opened = (p.opened).opened;
  at = t.at;
  row = t.row;
  found = sym (ap (λ r. slice_get (rows_of r) t.at) (p.opened).opened) ∙ t.found;
  version_is = refl;
  sender_is = refl;
  serving = t.serving;
  valid = t.valid;
  of_row = t.of_row;
})

-- ---- what stays

pub acting-on : (lane : Low) (d : ℕ) (J K : List LaneEvent) (o : Owner) → ((e : ℕ) → held e (history K) ≡ held e (history J)) → ((v : ℕ) → state_in v K ≡ state_in v J)
    → IsActing lane J o.distributor o.state → IsActing lane K o.distributor o.state
acting-on lane d J K o holds states a = record { holds = holds o.distributor ∙ a.holds; published = states (o.state).version ∙ a.published; owner = a.owner }

pub none-stays : (e : LaneEvent) (J : List LaneEvent) → IsOfMessage e → NoneRuns J → NoneRuns (e ∷ J)
none-stays (Sent n v d to body) J i h = h
none-stays (Delivered n r) J i h = h
none-stays (Returned n) J i h = h
none-stays _ J i h = absurd i

module _ (holds : OfUpkeep (λ J K. (d : ℕ) → held d (history K) ≡ held d (history J))) (states : OfUpkeep (λ J K. (v : ℕ) → state_in v K ≡ state_in v J))
    (idles : OfUpkeep (λ J K. (v : ℕ) (b : Low) → Idle v b (history J) → Idle v b (history K)))
    (c e : LaneState) (o : Owner) (given now : List Fate) (p : IsPassing c o given)
    (u : AreUpkeep o.distributor (o.state).version (journal_of c) (journal_of e))
    (after : e ≡ record c { journal = e.journal; last = e.last; nodes = e.nodes; late = e.late }) where
  parts-are : e.parts ≡ c.parts
  parts-are = ap (λ (z : LaneState). z.parts) after

  part-is : part_of e o.distributor ≡ part_of c o.distributor
  part-is = ap (λ (z : LaneState). part_of z o.distributor) after

  pub passing-told : IsKept e → HasRoom 0 e → IsCarriedBy e now → NoneRuns (journal_of e) → IsPassing e o now
  passing-told keeps spare carried none = record {
    keeps = keeps;
    spare = spare;
    carried = carried;
    there = subst (λ ps. o.distributor < vec_len ps) (sym parts-are) p.there;
    acting = subst (λ (l : Low). IsActing l (journal_of e) o.distributor o.state) (sym (ap (λ (z : LaneState). z.lane) after))
        (acting-on c.lane o.distributor (journal_of c) (journal_of e) o (holds o.distributor (o.state).version (journal_of c) (journal_of e) u) (states o.distributor (o.state).version (journal_of c) (journal_of e) u) p.acting);
    rows = p.rows;
    opened = subst (λ (q : Part). IsOpened q o.state p.rows) (sym part-is) p.opened;
    resting = subst IsResting (sym part-is) p.resting;
    none_runs = none;
    idle = λ v b. idles o.distributor (o.state).version (journal_of c) (journal_of e) u v b (p.idle v b);
  }

  pub passes-told : PassesOn c e o
  passes-told = record {
    others = λ n off. ap (λ ps. part_in c.lane c.rules (ps.items) n) parts-are;
    parts = ap (λ ps. vec_len ps) parts-are;
    after = after ∙ ap (λ ps. record c { journal = e.journal; last = e.last; nodes = e.nodes; parts = ps; late = e.late }) (sym parts-are);
    grows = u;
  }

-- ---- a row gains marks

module _ (holds : OfUpkeep (λ J K. (d : ℕ) → held d (history K) ≡ held d (history J))) (states : OfUpkeep (λ J K. (v : ℕ) → state_in v K ≡ state_in v J))
    (idles : OfUpkeep (λ J K. (v : ℕ) (b : Low) → Idle v b (history J) → Idle v b (history K)))
    (c e : LaneState) (o : Owner) (given now : List Fate) (p : IsPassing c o given)
    (u : AreUpkeep o.distributor (o.state).version (journal_of c) (journal_of e)) where
  pub passing-gained : e.lane ≡ c.lane → vec_len e.parts ≡ vec_len c.parts → (at complete : ℕ) → GainsMarks (part_of c o.distributor) (part_of e o.distributor) at complete
      → IsKept e → HasRoom 0 e → IsCarriedBy e now → NoneRuns (journal_of e) → IsPassing e o now
  passing-gained lane parts at complete g keeps spare carried none = record {
    keeps = keeps;
    spare = spare;
    carried = carried;
    there = subst (λ (n : ℕ). o.distributor < n) (sym parts) p.there;
    acting = subst (λ (l : Low). IsActing l (journal_of e) o.distributor o.state) (sym lane)
        (acting-on c.lane o.distributor (journal_of c) (journal_of e) o (holds o.distributor (o.state).version (journal_of c) (journal_of e) u) (states o.distributor (o.state).version (journal_of c) (journal_of e) u) p.acting);
    rows = with_marks g.rows at g.marks;
    opened = record {
      heard = ap (λ (z : Part). z.state) g.after ∙ (p.opened).heard;
      opened = ap (λ (z : Part). z.rows) g.after;
    };
    resting = record {
      unasked = ap (λ (z : Part). z.asked) g.after ∙ (p.resting).unasked;
      told = ap (λ (z : Part). z.awaited) g.after ∙ (p.resting).told;
      no_round = ap (λ (z : Part). z.stage) g.after ∙ (p.resting).no_round;
    };
    none_runs = none;
    idle = λ v b. idles o.distributor (o.state).version (journal_of c) (journal_of e) u v b (p.idle v b);
  }

-- ---- a message is told, or memory wants before it is

module _ (holds : OfUpkeep (λ J K. (d : ℕ) → held d (history K) ≡ held d (history J))) (states : OfUpkeep (λ J K. (v : ℕ) → state_in v K ≡ state_in v J))
    (idles : OfUpkeep (λ J K. (v : ℕ) (b : Low) → Idle v b (history J) → Idle v b (history K)))
    (c e : LaneState) (o : Owner) (given now : List Fate) (node : ℕ) (body : Body) (m : Message) (p : IsPassing c o given) (t : MayTell c o node body)
    (is : m ≡ message_of (origin_in c.lane o.distributor o.state) node body) (after : e ≡ record c { journal = e.journal; last = e.last; nodes = e.nodes; late = e.late }) where
  pub says-row : IsRowBody m.body
  says-row = subst IsRowBody (sym (ap (λ (x : Message). x.body) is)) (row-body t.row node body t.of_row)

  went-on : Went c e m given now → AreUpkeep o.distributor (o.state).version (journal_of c) (journal_of e)
  went-on w = upkeep-went o.distributor (o.state).version c e m given now (ap (λ (x : Message). x.sender) is) (ap (λ (x : Message). x.version) is) (upkeep-body m.body says-row) w

  still-on : journal_of e ≡ journal_of c → AreUpkeep o.distributor (o.state).version (journal_of c) (journal_of e)
  still-on same = subst (λ (J : List LaneEvent). AreUpkeep o.distributor (o.state).version (journal_of c) J) (sym same) Nothing

  pub went-passing : Went c e m given now → IsKept e → HasRoom 0 e → IsCarriedBy e now → IsPassing e o now
  went-passing w keeps spare carried = passing-told holds states idles c e o given now p (went-on w) after keeps spare carried
      (stays-went NoneRuns none-stays c e m given now w p.none_runs)

  pub went-passes : Went c e m given now → PassesOn c e o
  went-passes w = passes-told holds states idles c e o given now p (went-on w) after

  pub still-passing : journal_of e ≡ journal_of c → IsKept e → HasRoom 0 e → IsCarriedBy e now → IsPassing e o now
  still-passing same keeps spare carried = passing-told holds states idles c e o given now p (still-on same) after keeps spare carried
      (subst NoneRuns (sym same) p.none_runs)

  pub still-passes : journal_of e ≡ journal_of c → PassesOn c e o
  still-passes same = passes-told holds states idles c e o given now p (still-on same) after

-- the same of the message under another name
pub went-as : {c e : LaneState} {m n : Message} {given now : List Fate} → m ≡ n → Went c e m given now → Went c e n given now
went-as {c} {e} {m} {n} {given} {now} same w = subst (λ (x : Message). Went c e x given now) same w

-- ---- nothing happened

module _ (x e : LaneState) (o : Owner) where
  pub still-passing-in : (given : List Fate) → IsPassing x o given → journal_of e ≡ journal_of x → e ≡ record x { journal = e.journal } → IsKept e → HasRoom 0 e → IsPassing e o given
  still-passing-in given p same after keeps spare = record {
    keeps = keeps;
    spare = spare;
    carried = subst (λ (J : List LaneEvent). AreCarried given J e.last e.late.late) (sym same)
        (subst (λ (n : ℕ). AreCarried given (journal_of x) n e.late.late) (sym (ap (λ (z : LaneState). z.last) after))
        (subst (λ (late : List Late). AreCarried given (journal_of x) x.last late) (sym (ap (λ (z : LaneState). z.late.late) after)) p.carried));
    there = subst (λ ps. o.distributor < vec_len ps) (sym (ap (λ (z : LaneState). z.parts) after)) p.there;
    acting = subst (λ (l : Low). IsActing l (journal_of e) o.distributor o.state) (sym (ap (λ (z : LaneState). z.lane) after))
        (subst (λ (J : List LaneEvent). IsActing x.lane J o.distributor o.state) (sym same) p.acting);
    rows = p.rows;
    opened = subst (λ (q : Part). IsOpened q o.state p.rows) (sym (ap (λ (z : LaneState). part_of z o.distributor) after)) p.opened;
    resting = subst IsResting (sym (ap (λ (z : LaneState). part_of z o.distributor) after)) p.resting;
    none_runs = subst NoneRuns (sym same) p.none_runs;
    idle = subst (λ (J : List LaneEvent). (v : ℕ) (b : Low) → Idle v b (history J)) (sym same) p.idle;
  }

  pub still-passes-in : journal_of e ≡ journal_of x → e ≡ record x { journal = e.journal } → PassesOn x e o
  still-passes-in same after = record {
    others = λ n off. ap (λ (z : LaneState). part_in x.lane x.rules z.parts.items n) after;
    parts = ap (λ (z : LaneState). vec_len z.parts) after;
    after = after ∙ still;
    grows = subst (λ (J : List LaneEvent). AreUpkeep o.distributor (o.state).version (journal_of x) J) (sym same) Nothing;
  }
    where
      still : record x { journal = e.journal } ≡ record x { journal = e.journal; last = e.last; nodes = e.nodes; parts = e.parts; late = e.late }
      still = ap (λ n. record x { journal = e.journal; last = n }) (sym (ap (λ (z : LaneState). z.last) after))
          ∙ ap (λ n. record x { journal = e.journal; last = e.last; nodes = n }) (sym (ap (λ (z : LaneState). z.nodes) after))
          ∙ ap (λ n. record x { journal = e.journal; last = e.last; nodes = e.nodes; parts = n }) (sym (ap (λ (z : LaneState). z.parts) after))
          ∙ ap (λ n. record x { journal = e.journal; last = e.last; nodes = e.nodes; parts = e.parts; late = n }) (sym (ap (λ (z : LaneState). z.late) after))
