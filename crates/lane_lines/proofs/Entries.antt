-- Where written entries are found as a journal grows.
use Rattle.std.proofs.Common.{[], ◌≡◌, ◌⊎◌, ◌++◌, ◌+◌, ◌||◌, ℕ, zero, suc, Bool, true, false, List, ◌∷◌, Option, Some, None, length, slice_get, if◌then◌else◌, refl, sym, ap, subst, ◌∙◌, inl, inr}
use Rattle.std.specs.List.{list_any}
use Rattle.std.proofs.lemmas.List.{reverse-reverse}
use Rattle.stamps.specs.declared.stamp.Stamp.{Stamp}
use Rattle.cluster_states.specs.declared.cluster_state.ClusterState.{ClusterState}
use Rattle.carriers.specs.declared.fate.Fate.{Fate}
use Rattle.messages.specs.declared.message.Message.{Message}
use Rattle.documents.specs.declared.entry.Entry.{Entry}
use Rattle.lane_journals.specs.Stamps.{same_stamp}
use Rattle.lane_journals.specs.Readers.{held, or_else, only_if}
use Rattle.lane_journals.specs.Meanings.{history, entry_at}
use Rattle.lane_journals.specs.KeptJournals.{past}
use Rattle.lane_journals.specs.declared.event.LaneEvent.{LaneEvent}
use Rattle.lane_journals.specs.declared.event.LaneEvent.TheVariants as event
use Rattle.lane_journals.proofs.Order.{same_stamp-true}
use Rattle.lane_keeping.specs.Replaying.{sending}
use Rattle.lane_carriage.specs.Waits.{numbers}
use Rattle.lane_states.specs.declared.lane_state.LaneState.{LaneState}
use Rattle.lane_carriage.specs.Carrying.{met_at}
use Rattle.lane_keeping.specs.Tidings.{is_older, heard_next}
use Rattle.lane_states.specs.LaneStates.{journal_of, Went}
use Rattle.lane_states.specs.Written.{entry_of, event_at, FindsEntries, writes_entry, AddsNoEntry}
use Rattle.lane_states.proofs.LaneSteps.{past-push}
use Rattle.lane_carriage.proofs.Staying.{IsOfMessage, stays-delivered, stays-dealt}

-- ---- the events of a journal, oldest first

pub past-past : (xs : List LaneEvent) → past (past xs) ≡ xs
unfolding past
past-past xs = reverse-reverse xs

pub items-pushed : (xs ys : List LaneEvent) (e : LaneEvent) → past ys ≡ e ∷ past xs → ys ≡ xs ++ e ∷ []
items-pushed xs ys e h = sym (past-past ys) ∙ ap past (h ∙ sym (past-push xs e)) ∙ past-past (xs ++ e ∷ [])

-- a place holds what it held, or held nothing and holds the new event
slot : (xs : List LaneEvent) (e : LaneEvent) (i : ℕ) → (slice_get (xs ++ e ∷ []) i ≡ slice_get xs i) ⊎ ((slice_get xs i ≡ None) × (slice_get (xs ++ e ∷ []) i ≡ Some e))
slot [] e zero = inr (refl, refl)
slot [] e (suc i) = inl refl
slot (x ∷ xs) e zero = inl refl
slot (x ∷ xs) e (suc i) = slot xs e i

last-slot : (xs : List LaneEvent) (e : LaneEvent) → slice_get (xs ++ e ∷ []) (length xs) ≡ Some e
last-slot [] e = refl
last-slot (x ∷ xs) e = last-slot xs e

-- ---- no event

pub finds-none : (place : Stamp → Option ℕ) → ((s : Stamp) → place s ≡ None) → FindsEntries place (past [])
finds-none place none = λ s. ap (λ (p : Option ℕ). entry_of s (event_at (past []) p)) (none s) ∙ ap (entry_at s) (sym (past-past []))

-- ---- one event more

-- an event that isn't an entry of the stamp leaves what is found
found-still : (xs : List LaneEvent) (e : LaneEvent) (s : Stamp) (place : Option ℕ) → entry_of s (Some e) ≡ None → entry_of s (event_at (xs ++ e ∷ []) place) ≡ entry_of s (event_at xs place)
found-still xs e s None h = refl
found-still xs e s (Some i) h = elim (slot xs e i) [
  | inl same ↦ ap (entry_of s) same
  | inr new ↦ ap (entry_of s) new.1 ∙ h ∙ sym (ap (entry_of s) new.0)
]

no-entry : (s : Stamp) (e : LaneEvent) (J : List LaneEvent) → writes_entry e ≡ false → (entry_of s (Some e) ≡ None) × (entry_at s (e ∷ J) ≡ entry_at s J)
no-entry s (event.Wrote line x) J h = let none : true ≡ false = h in absurd (cc)
no-entry s (event.Published state) J h = (refl, refl)
no-entry s (event.Heard d v) J h = (refl, refl)
no-entry s (event.Begun l d v id t) J h = (refl, refl)
no-entry s (event.Refused l d o) J h = (refl, refl)
no-entry s (event.Opened d v rows) J h = (refl, refl)
no-entry s (event.Prepared l b set) J h = (refl, refl)
no-entry s (event.Sent k v d n b) J h = (refl, refl)
no-entry s (event.Delivered k r) J h = (refl, refl)
no-entry s (event.Returned k) J h = (refl, refl)
no-entry s (event.Closed l o) J h = (refl, refl)
no-entry s (event.Decided d v x) J h = (refl, refl)
no-entry s (event.Stopped n) J h = (refl, refl)
no-entry s (event.Started n) J h = (refl, refl)

finds-next : (place : Stamp → Option ℕ) (xs : List LaneEvent) (e : LaneEvent) → writes_entry e ≡ false → FindsEntries place xs → FindsEntries place (xs ++ e ∷ [])
finds-next place xs e w f = λ s.
    let no = no-entry s e (past xs) w in
    found-still xs e s (place s) no.0 ∙ f s ∙ sym no.1 ∙ ap (entry_at s) (sym (past-push xs e))

pub finds-pushed : (place : Stamp → Option ℕ) (xs ys : List LaneEvent) (e : LaneEvent) → writes_entry e ≡ false → past ys ≡ e ∷ past xs → FindsEntries place xs → FindsEntries place ys
finds-pushed place xs ys e w h f = subst (λ (zs : List LaneEvent). FindsEntries place zs) (sym (items-pushed xs ys e h)) (finds-next place xs e w f)

pub finds-same : (place : Stamp → Option ℕ) (xs ys : List LaneEvent) → past ys ≡ past xs → FindsEntries place xs → FindsEntries place ys
finds-same place xs ys e f = subst (λ (zs : List LaneEvent). FindsEntries place zs) (sym (sym (past-past ys) ∙ ap past e ∙ past-past xs)) f

pub finds-heard : (place : Stamp → Option ℕ) (xs ys : List LaneEvent) (d : ℕ) (o : Option ClusterState) → past ys ≡ heard_next d o (past xs) → FindsEntries place xs → FindsEntries place ys
finds-heard place xs ys d None e f = finds-same place xs ys e f
finds-heard place xs ys d (Some s) e f = by_test (is_older (held d (history (past xs))) s.version) e
  where
    by_test : (b : Bool) → past ys ≡ (if b then event.Heard d s.version ∷ past xs else past xs) → FindsEntries place ys
    by_test true h = finds-pushed place xs ys (event.Heard d s.version) refl h f
    by_test false h = finds-same place xs ys h f

-- the same, said of journals
pub finds-still : (place : Stamp → Option ℕ) (xs : List LaneEvent) → FindsEntries place xs → FindsEntries place (past (past xs))
finds-still place xs f = subst (λ (zs : List LaneEvent). FindsEntries place zs) (sym (past-past xs)) f

pub finds-noted : (place : Stamp → Option ℕ) (xs : List LaneEvent) (e : LaneEvent) → writes_entry e ≡ false → FindsEntries place xs → FindsEntries place (past (e ∷ past xs))
finds-noted place xs e w f = finds-pushed place xs (past (e ∷ past xs)) e w (past-past (e ∷ past xs)) f

-- ---- many events

neither : (a b : Bool) → (a || b) ≡ false → (a ≡ false) × (b ≡ false)
neither true b h = let none : true ≡ false = h in absurd (cc)
neither false b h = (refl, h)

finds-events : (place : Stamp → Option ℕ) (events J : List LaneEvent) → list_any writes_entry events ≡ false → FindsEntries place (past J) → FindsEntries place (past (events ++ J))
finds-events place [] J h f = f
finds-events place (e ∷ events) J h f =
    let both = neither (writes_entry e) (list_any writes_entry events) h in
    finds-pushed place (past (events ++ J)) (past (e ∷ events ++ J)) e both.0 (past-past (e ∷ events ++ J) ∙ ap (λ (K : List LaneEvent). e ∷ K) (sym (past-past (events ++ J)))) (finds-events place events J both.1 f)

pub finds-grown : (place : Stamp → Option ℕ) (xs ys : List LaneEvent) → AddsNoEntry (past xs) (past ys) → FindsEntries place xs → FindsEntries place ys
finds-grown place xs ys a f =
    subst (λ (zs : List LaneEvent). FindsEntries place zs) (ap past (sym a.grown) ∙ past-past ys) (finds-events place a.events (past xs) a.none (finds-still place xs f))

-- ---- an entry is written at the place that was kept for it

or-none : (o : Option Entry) → or_else o None ≡ o
or-none None = refl
or-none (Some y) = refl

module _ (old new : Stamp → Option ℕ) (xs : List LaneEvent) (line : ℕ) (x : Entry) (keeps : (s : Stamp) → new s ≡ (if same_stamp x.stamp s then Some (length xs) else old s))
    (wrote : entry_at x.stamp (event.Wrote line x ∷ past xs) ≡ Some x) (f : FindsEntries old xs) where
  abbrev e : LaneEvent
  e = event.Wrote line x

  found-by : (s : Stamp) (b : Bool) → same_stamp x.stamp s ≡ b → entry_of s (event_at (xs ++ e ∷ []) (new s)) ≡ entry_at s (past (xs ++ e ∷ []))
  found-by s true is =
      let at : new s ≡ Some (length xs) = keeps s ∙ ap (λ (b : Bool). if b then Some (length xs) else old s) is in
      let same : x.stamp ≡ s = same_stamp-true x.stamp s is in
      ap (λ (p : Option ℕ). entry_of s (event_at (xs ++ e ∷ []) p)) at ∙ ap (entry_of s) (last-slot xs e) ∙ ap (λ (b : Bool). only_if b x) is
      ∙ sym (subst (λ (t : Stamp). entry_at t (e ∷ past xs) ≡ Some x) same wrote) ∙ ap (entry_at s) (sym (past-push xs e))
  found-by s false is =
      let at : new s ≡ old s = keeps s ∙ ap (λ (b : Bool). if b then Some (length xs) else old s) is in
      let none : only_if (same_stamp x.stamp s) x ≡ None = ap (λ (b : Bool). only_if b x) is in
      ap (λ (p : Option ℕ). entry_of s (event_at (xs ++ e ∷ []) p)) at ∙ found-still xs e s (old s) none ∙ f s
      ∙ sym (or-none (entry_at s (past xs))) ∙ ap (λ (o : Option Entry). or_else (entry_at s (past xs)) o) (sym none) ∙ ap (entry_at s) (sym (past-push xs e))

  pub finds-wrote : (ys : List LaneEvent) → past ys ≡ e ∷ past xs → FindsEntries new ys
  finds-wrote ys h = subst (λ (zs : List LaneEvent). FindsEntries new zs) (sym (items-pushed xs ys e h)) (λ s. found-by s (same_stamp x.stamp s) refl)

-- ---- no entry was written

pub adds-none : (J K : List LaneEvent) → K ≡ J → AddsNoEntry J K
adds-none J K e = record { events = []; grown = e; none = refl }

pub adds-one : (J K : List LaneEvent) (e : LaneEvent) → writes_entry e ≡ false → AddsNoEntry J K → AddsNoEntry J (e ∷ K)
adds-one J K e w a = record { events = e ∷ a.events; grown = ap (λ (L : List LaneEvent). e ∷ L) a.grown; none = ap (λ (b : Bool). b || list_any writes_entry a.events) w ∙ a.none }

pub adds-of-message : (J : List LaneEvent) (e : LaneEvent) (K : List LaneEvent) → IsOfMessage e → AddsNoEntry J K → AddsNoEntry J (e ∷ K)
adds-of-message J (event.Sent n v d to body) K i a = adds-one J K (event.Sent n v d to body) refl a
adds-of-message J (event.Delivered n r) K i a = adds-one J K (event.Delivered n r) refl a
adds-of-message J (event.Returned n) K i a = adds-one J K (event.Returned n) refl a
adds-of-message J _ K i a = absurd i

pub adds-on : (J K L : List LaneEvent) → AddsNoEntry J K → AddsNoEntry K L → AddsNoEntry J L
adds-on J K L a b = subst (λ (M : List LaneEvent). AddsNoEntry J M) (sym b.grown) (by_events b.events b.none)
  where
    by_events : (events : List LaneEvent) → list_any writes_entry events ≡ false → AddsNoEntry J (events ++ K)
    by_events [] h = a
    by_events (e ∷ events) h =
        let both = neither (writes_entry e) (list_any writes_entry events) h in
        adds-one J (events ++ K) e both.0 (by_events events both.1)

-- a message was sent and dealt with
pub adds-went : (c e : LaneState) (m : Message) (given now : List Fate) → Went c e m given now → AddsNoEntry (journal_of c) (journal_of e)
adds-went c e m given now w =
    let J : List LaneEvent = journal_of c in
    stays-delivered (λ (K : List LaneEvent). AddsNoEntry J K) (adds-of-message J) (numbers w.late.taken) w.between (journal_of e) w.late.delivered
    (stays-dealt (λ (K : List LaneEvent). AddsNoEntry J K) (adds-of-message J) (met_at J m w.fate) (c.last + 1) (sending (c.last + 1) m ∷ J) w.between w.dealt
    (adds-one J J (sending (c.last + 1) m) refl (adds-none J J refl)))
