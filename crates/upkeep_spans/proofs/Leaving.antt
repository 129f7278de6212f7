-- What the events of an upkeep leave as it was, and how its span grows.
use Rattle.std.proofs.Common.{◌≡◌, ◌-◌, ◌+◌, ℕ, Bool, true, false, List, [], ◌∷◌, ◌++◌, length, take, drop, refl, sym, ap, ◌∙◌, subst, arith, length-append}
use Rattle.std.proofs.Math.Seq.{take-append_seam}
use Rattle.carriers.specs.declared.fate.Fate.{Fate}
use Rattle.carriers.specs.declared.fate.Fate.TheVariants.{Deliver, LoseRequest, LoseReply, Twice, Late}
use Rattle.messages.specs.declared.decision.Decision.{Decision}
use Rattle.messages.specs.declared.noted.NotedBody.{NotedBody}
use Rattle.messages.specs.declared.noted.NotedReply.{NotedReply}
use Rattle.lane_journals.specs.Buckets.{Id, Bucket}
use Rattle.lane_journals.specs.Stamps.{Stamp}
use Rattle.lane_journals.specs.Readers.{began, prepared, closed, Preparing, Beginning, Acked}
use Rattle.lane_journals.specs.Meanings.{history}
use Rattle.lane_journals.specs.Facts.{Idle}
use Rattle.lane_journals.specs.declared.event.LaneEvent.{LaneEvent}
use Rattle.lane_journals.specs.declared.event.LaneEvent.TheVariants.{Published, Heard, Begun, Refused, Opened, Prepared, Wrote, Sent, Delivered, Returned, Closed, Decided, Stopped, Started}
use Rattle.lane_carriage.specs.Carriage.{IsDealt, IsGivenOut, is_cut_off, AreDelivered}
use Rattle.upkeep_spans.specs.Spans.{IsUpkeepEvent, AreUpkeep, Nothing, More, later, earlier}

-- ---- what is read the same

-- events of these five kinds leave it as it is
pub record Leaves {A : Type 0} (read : List LaneEvent → A) : Type 0 where
  pub opened : (d v : ℕ) (rows : List Bucket) (K : List LaneEvent) → read (Opened d v rows ∷ K) ≡ read K
  pub sent : (n v d to : ℕ) (body : NotedBody) (K : List LaneEvent) → read (Sent n v d to body ∷ K) ≡ read K
  pub delivered : (n : ℕ) (r : NotedReply) (K : List LaneEvent) → read (Delivered n r ∷ K) ≡ read K
  pub returned : (n : ℕ) (K : List LaneEvent) → read (Returned n ∷ K) ≡ read K
  pub decided : (d v : ℕ) (x : Decision) (K : List LaneEvent) → read (Decided d v x ∷ K) ≡ read K

by-event : {A : Type 0} (read : List LaneEvent → A) → Leaves read → (d v : ℕ) (K : List LaneEvent) (e : LaneEvent) → IsUpkeepEvent d v e → read (e ∷ K) ≡ read K
by-event read l d v K (Opened e w rows) h = l.opened e w rows K
by-event read l d v K (Sent n w e to body) h = l.sent n w e to body K
by-event read l d v K (Delivered n r) h = l.delivered n r K
by-event read l d v K (Returned n) h = l.returned n K
by-event read l d v K (Decided e w x) h = l.decided e w x K
by-event read l d v K (Published s) h = absurd h
by-event read l d v K (Heard e w) h = absurd h
by-event read l d v K (Begun line e w id s) h = absurd h
by-event read l d v K (Refused line e outcome) h = absurd h
by-event read l d v K (Prepared line row set) h = absurd h
by-event read l d v K (Wrote line entry) h = absurd h
by-event read l d v K (Closed line outcome) h = absurd h
by-event read l d v K (Stopped n) h = absurd h
by-event read l d v K (Started n) h = absurd h

pub same : {A : Type 0} (read : List LaneEvent → A) → Leaves read → (d v : ℕ) (J K : List LaneEvent) → AreUpkeep d v J K → read K ≡ read J
same read l d v J K Nothing = refl
same read l d v J L (More K e is before) = by-event read l d v K e is ∙ same read l d v J K before

-- ---- how a span grows

pub one : (d v : ℕ) (J : List LaneEvent) (e : LaneEvent) → IsUpkeepEvent d v e → AreUpkeep d v J (e ∷ J)
one d v J e h = More J e h Nothing

pub further : (d v : ℕ) (J K L : List LaneEvent) → AreUpkeep d v J K → AreUpkeep d v K L → AreUpkeep d v J L
further d v J K L a Nothing = a
further d v J K M a (More L e is before) = More L e is (further d v J K L a before)

pub nothing : (d v : ℕ) (J K : List LaneEvent) → K ≡ J → AreUpkeep d v J K
nothing d v J K e = subst (λ (L : List LaneEvent). AreUpkeep d v J L) (sym e) Nothing

pub dealt : (d v : ℕ) (fate : Fate) (n : ℕ) (J K : List LaneEvent) → IsDealt fate n J K → AreUpkeep d v J K
dealt d v Deliver n J K h = subst (λ (L : List LaneEvent). AreUpkeep d v J L) (sym h.1) (More _ _ tt (More _ _ tt Nothing))
dealt d v LoseRequest n J K h = nothing d v J K h
dealt d v LoseReply n J K h = subst (λ (L : List LaneEvent). AreUpkeep d v J L) (sym h.1) (More _ _ tt Nothing)
dealt d v Twice n J K h = subst (λ (L : List LaneEvent). AreUpkeep d v J L) (sym h.2) (More _ _ tt (More _ _ tt (More _ _ tt Nothing)))
dealt d v (Late k) n J K h = nothing d v J K h

given-out : (d v : ℕ) (cut : Bool) (n : ℕ) (J L : List LaneEvent) → IsGivenOut cut n J L → AreUpkeep d v J L
given-out d v true n J L h = nothing d v J L h
given-out d v false n J L h = subst (λ (X : List LaneEvent). AreUpkeep d v J X) (sym h.1) (More _ _ tt Nothing)

pub delivered : (d v : ℕ) (numbers : List ℕ) (J K : List LaneEvent) → AreDelivered numbers J K → AreUpkeep d v J K
delivered d v [] J K h = nothing d v J K h
delivered d v (n ∷ ns) J K h = further d v J h.0 K (given-out d v (is_cut_off n J) n J h.0 h.1.0) (delivered d v ns h.0 K h.1.1)

-- ---- the events behind those that were there

pub behind : (J span : List LaneEvent) → later (length J) (span ++ J) ≡ span
behind J span =
    let size : length (span ++ J) - length J ≡ length span = rw (length-append span J) (omega arith) in
    ap (λ (n : ℕ). take n (span ++ J)) size ∙ take-append_seam span J

drop-seam : (span J : List LaneEvent) → drop (length span) (span ++ J) ≡ J
drop-seam [] J = refl
drop-seam (e ∷ span) J = drop-seam span J

pub before : (J span : List LaneEvent) → earlier (length J) (span ++ J) ≡ J
before J span =
    let size : length (span ++ J) - length J ≡ length span = rw (length-append span J) (omega arith) in
    ap (λ (n : ℕ). drop n (span ++ J)) size ∙ drop-seam span J

-- the events that were added
pub record IsSpan (J K : List LaneEvent) : Type 0 where
  pub span : List LaneEvent
  pub grown : K ≡ span ++ J

pub as-span : (d v : ℕ) (J K : List LaneEvent) → AreUpkeep d v J K → IsSpan J K
as-span d v J K Nothing = record { span = []; grown = refl }
as-span d v J L (More K e is more) =
    let ih : IsSpan J K = as-span d v J K more in
    record { span = e ∷ ih.span; grown = ap (λ (M : List LaneEvent). e ∷ M) ih.grown }

pub span : (d v : ℕ) (J K : List LaneEvent) → AreUpkeep d v J K → K ≡ later (length J) K ++ J
span d v J K h =
    let s : IsSpan J K = as-span d v J K h in
    subst (λ (L : List LaneEvent). L ≡ later (length J) L ++ J) (sym s.grown) (ap (λ (L : List LaneEvent). L ++ J) (sym (behind J s.span)))

-- ---- operations

pub idle : (d v : ℕ) (J K : List LaneEvent) → AreUpkeep d v J K → ((line : ℕ) → began line (history K) ≡ began line (history J)) → ((line : ℕ) → prepared line (history K) ≡ prepared line (history J))
    → ((line : ℕ) → closed line (history K) ≡ closed line (history J)) → (w : ℕ) (b : Bucket) → Idle w b (history J) → Idle w b (history K)
idle d v J K h began-same prepared-same closed-same w b stays = λ line begin p is in_row. stays line begin p (record {
  began = sym (began-same line) ∙ is.began;
  version = is.version;
  prepared = sym (prepared-same line) ∙ is.prepared;
  unclosed = sym (closed-same line) ∙ is.unclosed;
}) in_row

acked-once : (d v : ℕ) (K : List LaneEvent) (e : LaneEvent) → IsUpkeepEvent d v e → (w : ℕ) (id : Id) (s : Stamp) → Acked w id s (history (e ∷ K)) → Acked w id s (history K)
acked-once d v K (Opened e x rows) h w id s a = a
acked-once d v K (Sent n x e to body) h w id s a = a
acked-once d v K (Delivered n r) h w id s a = a
acked-once d v K (Returned n) h w id s a = a
acked-once d v K (Decided e x y) h w id s a = a
acked-once d v K (Published t) h w id s a = absurd h
acked-once d v K (Heard e x) h w id s a = absurd h
acked-once d v K (Begun line e x i t) h w id s a = absurd h
acked-once d v K (Refused line e outcome) h w id s a = absurd h
acked-once d v K (Prepared line row set) h w id s a = absurd h
acked-once d v K (Wrote line entry) h w id s a = absurd h
acked-once d v K (Closed line outcome) h w id s a = absurd h
acked-once d v K (Stopped n) h w id s a = absurd h
acked-once d v K (Started n) h w id s a = absurd h

pub acked : (d v : ℕ) (J K : List LaneEvent) → AreUpkeep d v J K → (w : ℕ) (id : Id) (s : Stamp) → Acked w id s (history K) → Acked w id s (history J)
acked d v J K Nothing w id s a = a
acked d v J L (More K e is more) w id s a = acked d v J K more w id s (acked-once d v K e is w id s a)
