-- What is seen of a span with one event more.
use Rattle.std.proofs.Common.{◌≡◌, ℕ, suc, ◌+◌, ◌-◌, ◌≤◌, ◌<◌, List, [], ◌∷◌, ◌++◌, length, take, drop, slice_index_or, Option, Some, None, refl, sym, ap, ◌∙◌, subst, arith}
use Rattle.std.specs.Option.{option_or}
use Rattle.std.proofs.Math.Seq.{take-suc}
use Rattle.std.proofs.lemmas.List.{reverse-append, length-reverse, length-take-le, take-append-drop, take_all}
use Rattle.lane_journals.specs.KeptJournals.{past}
use Rattle.carriers.specs.declared.fate.Fate.{Fate}
use Rattle.messages.specs.declared.noted.NotedBody.{NotedBody}
use Rattle.messages.specs.declared.noted.NotedReply.{NotedReply}
use Rattle.lane_journals.specs.Readers.{or_else, only_if}
use Rattle.lane_journals.specs.declared.event.LaneEvent.{LaneEvent}
use Rattle.lane_journals.specs.declared.event.LaneEvent.TheVariants as event
use Rattle.lane_carriage.specs.Readers.{last_sent, fate_of}
use Rattle.upkeep_spans.specs.declared.scan.Seen.{Seen}
use Rattle.upkeep_spans.specs.Spans.{later, earlier}
use Rattle.upkeep_spans.specs.Causes.{is_late, first_late}
use Rattle.upkeep_spans.specs.Scans.{ComesAt, awaited_in, gone_in, ArePlaced, IsSeen}
use Rattle.upkeep_spans.proofs.Leaving.{before}

pub later-next : (from : ℕ) (J : List LaneEvent) (e : LaneEvent) → from ≤ length J → later from (e ∷ J) ≡ e ∷ later from J
later-next from J e le = let size : length (e ∷ J) - from ≡ suc (length J - from) = omega arith in ap (λ (n : ℕ). take n (e ∷ J)) size

pub later-none : (J : List LaneEvent) → later (length J) J ≡ []
later-none J = let size : length J - length J ≡ 0 = omega arith in ap (λ (n : ℕ). take n J) size

or-same : (a b : Option ℕ) → option_or a b ≡ or_else a b
or-same None b = refl
or-same (Some x) b = refl

-- what is seen, by what is read off the span with the event
seen-as : (given : List Fate) (from sent : ℕ) (J : List LaneEvent) (e : LaneEvent) (x : Seen) → from ≤ length J
    → x.last ≡ last_sent (e ∷ J) → sent ≤ x.last → x.awaited ≡ awaited_in (e ∷ later from J) → x.absent ≡ gone_in (e ∷ later from J) → x.late ≡ first_late given (e ∷ later from J)
    → IsSeen given from sent (e ∷ J) x
seen-as given from sent J e x le last behind awaited absent late =
    let next : later from (e ∷ J) ≡ e ∷ later from J = later-next from J e le in record {
      last = last;
      behind = behind;
      awaited = subst (λ (K : List LaneEvent). x.awaited ≡ awaited_in K) (sym next) awaited;
      absent = subst (λ (K : List LaneEvent). x.absent ≡ gone_in K) (sym next) absent;
      late = subst (λ (K : List LaneEvent). x.late ≡ first_late given K) (sym next) late;
    }

pub seen-sent : (given : List Fate) (from sent : ℕ) (J : List LaneEvent) (e : LaneEvent) (n v d to : ℕ) (body : NotedBody) (x : Seen) (absent : Option ℕ) → e ≡ event.Sent n v d to body → from ≤ length J → ArePlaced given (e ∷ J)
    → absent ≡ option_or x.absent x.awaited → IsSeen given from sent J x → IsSeen given from sent (e ∷ J) (record { last = n; awaited = Some to; absent = absent; late = x.late })
seen-sent given from sent J e n v d to body x absent is le placed or s =
    subst (λ (f : LaneEvent). IsSeen given from sent (f ∷ J) (record { last = n; awaited = Some to; absent = absent; late = x.late })) (sym is)
    (seen-as given from sent J (event.Sent n v d to body) (record { last = n; awaited = Some to; absent = absent; late = x.late }) le refl
    (let p : ArePlaced given (event.Sent n v d to body ∷ J) = subst (λ (f : LaneEvent). ArePlaced given (f ∷ J)) is placed in let next : n ≡ last_sent J + 1 = p.0 in let last : x.last ≡ last_sent J = s.last in let behind : sent ≤ x.last = s.behind in omega arith)
    refl (or ∙ or-same x.absent x.awaited ∙ ap (λ (o : Option ℕ). or_else o x.awaited) s.absent ∙ ap (λ (o : Option ℕ). or_else (gone_in (later from J)) o) s.awaited) s.late)

pub seen-returned : (given : List Fate) (from sent : ℕ) (J : List LaneEvent) (e : LaneEvent) (n : ℕ) (x : Seen) → e ≡ event.Returned n → from ≤ length J
    → IsSeen given from sent J x → IsSeen given from sent (e ∷ J) (record { last = x.last; awaited = None; absent = x.absent; late = x.late })
seen-returned given from sent J e n x is le s =
    subst (λ (f : LaneEvent). IsSeen given from sent (f ∷ J) (record { last = x.last; awaited = None; absent = x.absent; late = x.late })) (sym is)
    (seen-as given from sent J (event.Returned n) (record { last = x.last; awaited = None; absent = x.absent; late = x.late }) le s.last s.behind refl s.absent s.late)

pub seen-delivered : (given : List Fate) (from sent : ℕ) (J : List LaneEvent) (e : LaneEvent) (n : ℕ) (r : NotedReply) (x : Seen) (late : Option ℕ) → e ≡ event.Delivered n r → from ≤ length J
    → late ≡ or_else x.late (only_if (is_late (fate_of n given)) n) → IsSeen given from sent J x → IsSeen given from sent (e ∷ J) (record { last = x.last; awaited = x.awaited; absent = x.absent; late = late })
seen-delivered given from sent J e n r x late is le next s =
    subst (λ (f : LaneEvent). IsSeen given from sent (f ∷ J) (record { last = x.last; awaited = x.awaited; absent = x.absent; late = late })) (sym is)
    (seen-as given from sent J (event.Delivered n r) (record { last = x.last; awaited = x.awaited; absent = x.absent; late = late }) le s.last s.behind s.awaited s.absent
    (next ∙ ap (λ (o : Option ℕ). or_else o (only_if (is_late (fate_of n given)) n)) s.late))

-- it comes as its fate says
pub delivered-at : (given : List Fate) (J : List LaneEvent) (e : LaneEvent) (n : ℕ) (r : NotedReply) (last : ℕ) → e ≡ event.Delivered n r → last ≡ last_sent J → ArePlaced given (e ∷ J) → ComesAt (fate_of n given) n last
delivered-at given J e n r last is at placed =
    let p : ArePlaced given (event.Delivered n r ∷ J) = subst (λ (f : LaneEvent). ArePlaced given (f ∷ J)) is placed in
    subst (λ (l : ℕ). ComesAt (fate_of n given) n l) (sym at) p.0

-- any other event adds nothing
abbrev pub IsSilent : LaneEvent → Type 0
IsSilent (event.Sent n v d to body) = ⊥
IsSilent (event.Delivered n r) = ⊥
IsSilent (event.Returned n) = ⊥
IsSilent _ = Unit {0}

pub silent : (e : LaneEvent) → ((n v d to : ℕ) (body : NotedBody) → e ≡ event.Sent n v d to body → ⊥) → ((n : ℕ) (r : NotedReply) → e ≡ event.Delivered n r → ⊥) → ((n : ℕ) → e ≡ event.Returned n → ⊥) → IsSilent e
silent (event.Sent n v d to body) a b c = absurd (a n v d to body refl)
silent (event.Delivered n r) a b c = absurd (b n r refl)
silent (event.Returned n) a b c = absurd (c n refl)
silent _ a b c = tt

pub seen-silent : (given : List Fate) (from sent : ℕ) (J : List LaneEvent) (e : LaneEvent) (x : Seen) → IsSilent e → from ≤ length J → IsSeen given from sent J x → IsSeen given from sent (e ∷ J) x
seen-silent given from sent J (event.Sent n v d to body) x o le s = absurd o
seen-silent given from sent J (event.Delivered n r) x o le s = absurd o
seen-silent given from sent J (event.Returned n) x o le s = absurd o
seen-silent given from sent J e x o le s = seen-as given from sent J e x le s.last s.behind s.awaited s.absent s.late

-- nothing is seen before the first event
pub seen-first : (given : List Fate) (sent : ℕ) (J : List LaneEvent) (x : Seen) → sent ≡ last_sent J → x ≡ record { last = sent; awaited = None; absent = None; late = None } → IsSeen given (length J) sent J x
seen-first given sent J x at is =
    subst (λ (y : Seen). IsSeen given (length J) sent J y) (sym is) (record {
      last = at;
      behind = omega arith;
      awaited = subst (λ (K : List LaneEvent). None ≡ awaited_in K) (sym (later-none J)) refl;
      absent = subst (λ (K : List LaneEvent). None ≡ gone_in K) (sym (later-none J)) refl;
      late = subst (λ (K : List LaneEvent). None ≡ first_late given K) (sym (later-none J)) refl;
    })

-- ---- the events so far, where the oldest stands first

past-push : (events : List LaneEvent) (e : LaneEvent) → past (events ++ e ∷ []) ≡ e ∷ past events
unfolding past
past-push events e = reverse-append events (e ∷ [])

pub length-past : (events : List LaneEvent) → length (past events) ≡ length events
unfolding past
length-past events = length-reverse events

past-both : (xs ys : List LaneEvent) → past (xs ++ ys) ≡ past ys ++ past xs
unfolding past
past-both xs ys = reverse-append xs ys

-- the first so many events are the earlier ones
earlier-past : (from : ℕ) (events : List LaneEvent) → from ≤ length events → earlier from (past events) ≡ past (take from events)
earlier-past from events le =
    let whole : past events ≡ past (drop from events) ++ past (take from events) = ap past (sym (take-append-drop from events)) ∙ past-both (take from events) (drop from events) in
    let size : length (past (take from events)) ≡ from = length-past (take from events) ∙ length-take-le from events le in
    ap (λ (J : List LaneEvent). earlier from J) whole
    ∙ ap (λ (n : ℕ). earlier n (past (drop from events) ++ past (take from events))) (sym size)
    ∙ before (past (take from events)) (past (drop from events))

pub seen-start : (given : List Fate) (from sent : ℕ) (events : List LaneEvent) (x : Seen) → from ≤ length events → sent ≡ last_sent (earlier from (past events)) → x ≡ record { last = sent; awaited = None; absent = None; late = None }
    → IsSeen given from sent (past (take from events)) x
seen-start given from sent events x le at is =
    let size : length (past (take from events)) ≡ from = length-past (take from events) ∙ length-take-le from events le in
    subst (λ (n : ℕ). IsSeen given n sent (past (take from events)) x) size
    (seen-first given sent (past (take from events)) x (at ∙ ap last_sent (earlier-past from events le)) is)

placed-tail : (given : List Fate) (J : List LaneEvent) (e : LaneEvent) → ArePlaced given (e ∷ J) → ArePlaced given J
placed-tail given J (event.Sent n v d to body) p = p.1
placed-tail given J (event.Delivered n r) p = p.1
placed-tail given J (event.Returned n) p = p.1
placed-tail given J _ p = p

pub seen-more : (given : List Fate) (from sent : ℕ) (events : List LaneEvent) (i : ℕ) (e : LaneEvent) (x y : Seen) → from ≤ i → i < length events → e ≡ slice_index_or events i e
    → ArePlaced given (past (take (i + 1) events)) → (ArePlaced given (past (take i events)) → IsSeen given from sent (past (take i events)) x)
    → ((J : List LaneEvent) → from ≤ length J → ArePlaced given (e ∷ J) → IsSeen given from sent J x → IsSeen given from sent (e ∷ J) y)
    → IsSeen given from sent (past (take (i + 1) events)) y
seen-more given from sent events i e x y behind lt is placed seen next =
    let suc-next : i + 1 ≡ suc i = omega arith in
    let taken : take (i + 1) events ≡ take i events ++ slice_index_or events i e ∷ [] = ap (λ (n : ℕ). take n events) suc-next ∙ take-suc events i e lt in
    let grown : past (take (i + 1) events) ≡ e ∷ past (take i events) = ap past (taken ∙ ap (λ (f : LaneEvent). take i events ++ f ∷ []) (sym is)) ∙ past-push (take i events) e in
    let size : length (past (take i events)) ≡ i = length-past (take i events) ∙ length-take-le i events (omega arith) in
    let p : ArePlaced given (e ∷ past (take i events)) = subst (λ (J : List LaneEvent). ArePlaced given J) grown placed in
    subst (λ (J : List LaneEvent). IsSeen given from sent J y) (sym grown)
    (next (past (take i events)) (rw size behind) p (seen (placed-tail given (past (take i events)) e p)))

pub seen-all : (given : List Fate) (from sent : ℕ) (events : List LaneEvent) (i : ℕ) (x : Seen) → length events ≤ i → ArePlaced given (past events)
    → (ArePlaced given (past (take i events)) → IsSeen given from sent (past (take i events)) x) → IsSeen given from sent (past events) x
seen-all given from sent events i x le placed seen =
    let all : take i events ≡ events = take_all i events le in
    subst (λ (es : List LaneEvent). IsSeen given from sent (past es) x) all
    (seen (subst (λ (es : List LaneEvent). ArePlaced given (past es)) (sym all) placed))
