-- What was noted of upkeep and searches stays as further parts are done.
use Rattle.std.proofs.Common.{◌≡◌, ◌==◌, ◌⊎◌, ◌<◌, ◌≤◌, ◌+◌, ℕ, zero, suc, Bool, true, false, List, [], ◌∷◌, ◌++◌, Option, None, Some, option_and_then, inl, inr, refl, sym, ap, ◌∙◌, subst, arith, length, length-append, map, take, slice_get, if◌then◌else◌}
use Rattle.std.specs.Option.{IsSome}
use Rattle.std.proofs.lemmas.Bool.{eqb-true, false≢true}
use Rattle.std.proofs.lemmas.List.{length-map}
use Rattle.std.proofs.lemmas.Option.{slice_get_within}
use Rattle.carriers.specs.declared.fate.Fate.{Fate}
use Rattle.lane_calls.specs.LaneValues.{LaneValue}
use Rattle.lane_calls.specs.Lines.{Lines}
use Rattle.lane_calls.proofs.Giving.{segment-gives}
use Rattle.lane_lives.specs.Lives.{IsLife}
use Rattle.lane_lives.specs.Serving.{bucket_in}
use Rattle.lane_lives.specs.declared.setting.Setting.{Setting}
use Rattle.query_text.specs.Grammar.{Said}
use Rattle.session_cluster.specs.Cells.{Cell}
use Rattle.session_cluster.specs.Searches.{fronts_of, front_in, front_now, fronts_now}
use Rattle.session_cluster.specs.Steps.{IsRoomier, HasSpans, IsAfter}
use Rattle.session_cluster.specs.declared.asked.Asked.{Asked}
use Rattle.session_cluster.specs.declared.asked.Asked.TheVariants as command
use Rattle.session_cluster.specs.declared.searching.LineFronts.{LineFronts}
use Rattle.session_cluster.proofs.SessionSteps.{lane_was, leaves_spans, read_after}
use Rattle.session_segments.specs.Fed.{front_of, fronts_from, AreFedIn, AreDealt, HaveFed}
use Rattle.session_segments.specs.FedDeeds.{fed_deeds}
use Rattle.session_segments.specs.Parts.{cuts, AreStill, Part, Alone, Together, asked_of, asked_in, parts_before, parts_to}
use Rattle.session_segments.proofs.PartLists.{asked_push, fed_same}
use Rattle.session_segments.proofs.PartPlaces.{asked_append, placed, placed_still, placed_last}
use Rattle.session_segments.proofs.SegmentFronts.{fronts_behind, fronts_later, fronts_found}
use Rattle.cell_session.specs.FedDealing.{AreNoted}
use Rattle.cell_session.specs.FedLines.{fed_before, fed_to, WasUnread, AreFedRead}
use Rattle.cell_session.specs.Searches.{HasRead, SearchesAt, OnlySearchesRead, FrontsRise}
use Rattle.cell_session.specs.Upkeep.{AsksAt, AreUpkept}
use Rattle.cell_session.specs.declared.status.Status.{Status}
use Rattle.cell_session.specs.declared.status.Status.TheVariants as status
use Rattle.cell_session.proofs.FedOutput.{ReadWithin}
use Rattle.cell_session.proofs.FedSteps.{segment_grown, fronts_either, fronts_are, fed_goes}
use Rattle.cell_session.proofs.Loops.{room_grew, room_journals, room_spans, room_fronts}
use Rattle.cell_session.proofs.OrderLaws.{gone_more, none_gone, gone_on}
use Rattle.cell_session.proofs.ReadLaws.{JournalsGrew, read_on, fronts_there, mapped_at, no_search, none_others, none_rise}
use Rattle.cell_session.proofs.UpkeepLaws.{AllGrew, AreAsBefore, some_is, none_some, pushed, grew_after, upkept_behind, upkept_on, upkept_at, none_upkept}

-- ---- lists

-- what stands in one list behind another
appended : (cs ds : List Asked) (k : ℕ) (x : Asked) → slice_get (cs ++ ds) k ≡ Some x → (slice_get cs k ≡ Some x) ⊎ ((j : ℕ) × ((k ≡ length cs + j) × (slice_get ds j ≡ Some x)))
appended [] ds k x h = inr (k, (omega arith, h))
appended (c ∷ cs) ds zero x h = inl h
appended (c ∷ cs) ds (suc k) x h = elim (appended cs ds k x h) [
  | inl there ↦ inl there
  | inr here ↦ inr (here.0, (omega (arith, here.1.0), here.1.1))
]

stays : (cs ds : List Asked) (k : ℕ) (x : Asked) → slice_get cs k ≡ Some x → slice_get (cs ++ ds) k ≡ Some x
stays [] ds zero x h = cc h
stays [] ds (suc k) x h = cc h
stays (c ∷ cs) ds zero x h = h
stays (c ∷ cs) ds (suc k) x h = stays cs ds k x h

behind : (cs ds : List Asked) (j : ℕ) → slice_get (cs ++ ds) (length cs + j) ≡ slice_get ds j
behind [] ds j = ap (slice_get ds) (omega arith)
behind (c ∷ cs) ds j = ap (slice_get (c ∷ (cs ++ ds))) (next (length cs) j) ∙ behind cs ds j
  where
    next : (n k : ℕ) → suc n + k ≡ suc (n + k)
    next n k = omega arith

-- the item at a place, with those before it and behind it
split_at : (cs : List Asked) (j : ℕ) (x : Asked) → slice_get cs j ≡ Some x → (done : List Asked) × ((rest : List Asked) × ((cs ≡ done ++ x ∷ rest) × (length done ≡ j)))
split_at [] zero x h = cc h
split_at [] (suc j) x h = cc h
split_at (c ∷ cs) zero x h = ([], (cs, (ap (λ y. y ∷ cs) (some_is h), refl)))
split_at (c ∷ cs) (suc j) x h = let rest = split_at cs j x h in (c ∷ rest.0, (rest.1.0, (ap (λ l. c ∷ l) rest.1.1.0, ap suc rest.1.1.1)))

pub take_at : (n : ℕ) (cs : List Asked) (j : ℕ) (x : Asked) → slice_get cs j ≡ Some x → (slice_get (take n cs) j ≡ Some x) ⊎ (length (take n cs) ≤ j)
take_at n [] zero x h = cc h
take_at n [] (suc j) x h = cc h
take_at zero (c ∷ cs) j x h = inr (omega arith)
take_at (suc n) (c ∷ cs) zero x h = inl h
take_at (suc n) (c ∷ cs) (suc j) x h = elim (take_at n cs j x h) [
  | inl there ↦ inl there
  | inr past ↦ inr (omega (arith, past))
]

pub taken_from : (n : ℕ) (cs : List Asked) (j : ℕ) (x : Asked) → slice_get (take n cs) j ≡ Some x → slice_get cs j ≡ Some x
taken_from zero cs zero x h = cc h
taken_from zero cs (suc j) x h = cc h
taken_from (suc n) [] zero x h = cc h
taken_from (suc n) [] (suc j) x h = cc h
taken_from (suc n) (c ∷ cs) zero x h = h
taken_from (suc n) (c ∷ cs) (suc j) x h = taken_from n cs j x h

-- no line of a segment asks for upkeep
pub none_asks : (cs : List Asked) → AreStill cs → (j : ℕ) → AsksAt j cs → ⊥
none_asks [] still zero h = cc h
none_asks [] still (suc j) h = cc h
none_asks (c ∷ cs) still zero h = false≢true (sym still.0 ∙ ap cuts (some_is h))
none_asks (c ∷ cs) still (suc j) h = none_asks cs still.1 j h

some_of : {A : Type 0} (o : Option A) → IsSome o → (x : A) × (o ≡ Some x)
some_of None h = absurd (false≢true h)
some_of (Some x) h = (x, refl)

pub some_here : {A : Type 0} (o : Option A) (x : A) → o ≡ Some x → IsSome o
some_here o x is = subst IsSome (sym is) refl

mapped_some : (vs : List LaneValue) (lane b : ℕ) → slice_get (map front_now vs) lane ≡ Some b → (w : LaneValue) × ((slice_get vs lane ≡ Some w) × (b ≡ front_now w))
mapped_some [] zero b h = cc h
mapped_some [] (suc lane) b h = cc h
mapped_some (v ∷ vs) zero b h = (v, (refl, sym (some_is h)))
mapped_some (v ∷ vs) (suc lane) b h = mapped_some vs lane b h

-- ---- whose fronts a segment's are

front_or : (n line : ℕ) (c : Asked) (g h : List ℕ) (fs : List LineFronts) → fronts_of n (front_of line c g ++ fs) ≡ Some h → ((q : Said) × ((n ≡ line) × (c ≡ command.Search q))) ⊎ (fronts_of n fs ≡ Some h)
front_or n line (command.Search q) g h fs has = by_test (line == n) refl has
  where
    by_test : (t : Bool) → (line == n) ≡ t → (if t then Some g else fronts_of n fs) ≡ Some h → ((p : Said) × ((n ≡ line) × (command.Search q ≡ command.Search p))) ⊎ (fronts_of n fs ≡ Some h)
    by_test true is has = inl (q, (sym (eqb-true line n is), refl))
    by_test false is has = inr has
front_or n line command.Blank g h fs has = inr has
front_or n line command.TooLong g h fs has = inr has
front_or n line command.Barrier g h fs has = inr has
front_or n line (command.Bad why) g h fs has = inr has
front_or n line (command.Feed op via) g h fs has = inr has
front_or n line (command.State state deaf) g h fs has = inr has
front_or n line (command.BadState offset) g h fs has = inr has
front_or n line (command.Stop node) g h fs has = inr has
front_or n line (command.Start node) g h fs has = inr has
front_or n line (command.Net at fates) g h fs has = inr has
front_or n line command.Maintain g h fs has = inr has
front_or n line (command.BadQuery offset) g h fs has = inr has

searches_from : (n line : ℕ) (cs : List Asked) (g h : List ℕ) → fronts_of n (fronts_from line cs g) ≡ Some h → (j : ℕ) × ((q : Said) × ((n ≡ line + j) × SearchesAt j q cs))
searches_from n line [] g h has = cc has
searches_from n line (c ∷ cs) g h has = elim (front_or n line c g h (fronts_from (suc line) cs g) has) [
  | inl own ↦ (0, (own.0, (omega (arith, own.1.0), ap Some own.1.1)))
  | inr later ↦
      let rest = searches_from n (suc line) cs g h later in
      (suc rest.0, (rest.1.0, (omega (arith, rest.1.1.0), rest.1.1.1)))
]

-- ---- the deeds before a line

-- the deeds of parts so far are the same
abbrev pub StaySame : Setting → ℕ → List Part → Cell → Cell → Type 0
StaySame s feeders ps old new = (qs : List Part) → length (asked_in qs) ≤ length (asked_in ps) → (lane : ℕ) → fed_deeds s new.upkeeps feeders lane qs ≡ fed_deeds s old.upkeeps feeders lane qs

few_placed : (ps : List Part) (at : ℕ) → at < length (asked_in ps) → (length (asked_in (parts_before at ps)) ≤ length (asked_in ps)) × (length (asked_in (parts_to at ps)) ≤ length (asked_in ps))
few_placed ps at within =
    let x = placed at ps within in
    let all : length (asked_in ps) ≡ length (asked_in x.before ++ asked_in (x.own ∷ x.after)) = ap (λ qs. length (asked_in qs)) x.all ∙ ap length (asked_append x.before (x.own ∷ x.after)) in
    let to : length (asked_in (parts_to at ps)) ≡ length (asked_in x.before ++ asked_in (x.own ∷ [])) = ap (λ qs. length (asked_in qs)) x.to_is ∙ ap length (asked_append x.before (x.own ∷ [])) in
    let one = length-append (asked_in x.before) (asked_in (x.own ∷ x.after)) in
    let two = length-append (asked_of x.own) (asked_in x.after) in
    let three = length-append (asked_in x.before) (asked_in (x.own ∷ [])) in
    let four = length-append (asked_of x.own) (asked_in []) in
    let before : length (asked_in (parts_before at ps)) ≡ length (asked_in x.before) = ap (λ qs. length (asked_in qs)) x.before_is in
    (omega (arith, all, one, two, before), omega (arith, all, to, one, two, three, four))

module _ (s : Setting) (feeders : ℕ) (ps : List Part) (old new : Cell) (same : StaySame s feeders ps old new) where
  same_before : AreAsBefore (length (asked_in ps)) (fed_before s feeders ps old) (fed_before s feeders ps new)
  same_before at lane low = same (parts_before at ps) (few_placed ps at low).0 lane

  same_to : AreAsBefore (length (asked_in ps)) (fed_to s feeders ps old) (fed_to s feeders ps new)
  same_to at lane low = same (parts_to at ps) (few_placed ps at low).1 lane

  more_before : (p : Part) → AreAsBefore (length (asked_in ps)) (fed_before s feeders ps old) (fed_before s feeders (ps ++ p ∷ []) new)
  more_before p at lane low = ap (fed_deeds s new.upkeeps feeders lane) (placed_still ps p at low).0 ∙ same_before at lane low

  more_to : (p : Part) → AreAsBefore (length (asked_in ps)) (fed_to s feeders ps old) (fed_to s feeders (ps ++ p ∷ []) new)
  more_to p at lane low = ap (fed_deeds s new.upkeeps feeders lane) (placed_still ps p at low).1 ∙ same_to at lane low

-- ---- a line that read

not_done : {A : Type 0} → status.Done ≡ status.NoMemory → A
not_done e = cc e

pub has_read : (s : Setting) (feeders : ℕ) (ps : List Part) (c : Cell) → AreFedRead status.Done s feeders ps c → (at : ℕ) (q : Said) → SearchesAt at q (asked_in ps) → HasRead s (fed_to s feeders ps c at) (suc at) c
has_read s feeders ps c so at q asks = elim (so.answered at q asks) [
  | inl h ↦ h
  | inr cut ↦ not_done cut.memory
]

-- it reads on where its fronts stay and the journals grew
reads_still : (end : Status) (s : Setting) (feeders : ℕ) (ps qs : List Part) (old new : Cell) → JournalsGrew old new → AreAsBefore (length (asked_in ps)) (fed_to s feeders ps old) (fed_to s feeders qs new) → new.fronts ≡ old.fronts
    → ((at : ℕ) (q : Said) → SearchesAt at q (asked_in qs) → SearchesAt at q (asked_in ps)) → ((at : ℕ) (q : Said) → SearchesAt at q (asked_in ps) → SearchesAt at q (asked_in qs)) → AreFedRead status.Done s feeders ps old → AreFedRead end s feeders qs new
reads_still end s feeders ps qs old new grew deeds same none there so = record {
  answered = λ at q asks.
      let before = none at q asks in
      let within = slice_get_within (asked_in ps) at (command.Search q) before in
      inl (read_on s old new grew (suc at) (ap (fronts_of (suc at)) same) (fed_to s feeders ps old at) (fed_to s feeders qs new at) (λ lane. deeds at lane within) (has_read s feeders ps old so at q before));
  others = λ line some. let was = so.others line (subst (λ fs. IsSome (fronts_of line fs)) same some) in (was.0, (was.1.0, (was.1.1.0, there was.0 was.1.0 was.1.1.1)));
  in_order = λ lane earlier line early a b has is.
      so.in_order lane earlier line early a b (subst (λ fs. front_in lane earlier fs ≡ Some a) same has) (subst (λ fs. front_in lane line fs ≡ Some b) same is);
}

-- ---- where nothing was dealt with

pub none_noted : (end : Status) (s : Setting) (feeders : ℕ) (c : Cell) → c.upkeeps ≡ [] → c.fronts ≡ [] → AreNoted end s feeders [] c
none_noted end s feeders c unkept unread = record {
  upkept = none_upkept end s (fed_before s feeders [] c) c unkept;
  gone = none_gone s c unkept;
  read = record { answered = λ at q asks. absurd (no_search at q asks); others = none_others [] c unread; in_order = none_rise c unread };
}

-- ---- whatever ends the session

pub noted_at : (end : Status) (s : Setting) (feeders : ℕ) (ps : List Part) (c : Cell) → AreNoted status.Done s feeders ps c → AreNoted end s feeders ps c
noted_at end s feeders ps c so = record {
  upkept = upkept_at end s (fed_before s feeders ps c) (asked_in ps) c so.upkept;
  gone = so.gone;
  read = record { answered = λ at q asks. inl (has_read s feeders ps c so.read at q asks); others = (so.read).others; in_order = (so.read).in_order };
}

-- ---- where room was made

pub noted_roomier : (end : Status) (s : Setting) (feeders : ℕ) (ps : List Part) (old new : Cell) → IsRoomier old new → AreNoted status.Done s feeders ps old → AreNoted end s feeders ps new
noted_roomier end s feeders ps old new room so =
    let same : StaySame s feeders ps old new = λ qs few lane. ap (λ us. fed_deeds s us feeders lane qs) (room_spans s old new room) in
    record {
      upkept = upkept_on end s old new (asked_in ps) (asked_in ps) (room_spans s old new room) (room_grew s old new room) (fed_before s feeders ps old) (fed_before s feeders ps new) (same_before s feeders ps old new same) (λ at asks. asks) (λ at asks. asks) so.upkept;
      gone = gone_on s old new (room_spans s old new room) (room_grew s old new room) so.gone;
      read = reads_still end s feeders ps ps old new (room_journals s old new room) (same_to s feeders ps old new same) (room_fronts s old new room) (λ at q asks. asks) (λ at q asks. asks) so.read;
    }

-- ---- a line that ends a segment

module _ (s : Setting) (plans : ℕ → List Fate) (feeders : ℕ) (ps : List Part) (c : Asked) (old new : Cell) (k : ℕ) (done : HaveFed s plans feeders ps old) (is : k ≡ length (asked_in ps) + 1) (after : IsAfter s k c old new)
    (so : AreNoted status.Done s feeders ps old) where
  abbrev alone : List Part
  alone = ps ++ Alone c ∷ []

  same_alone : StaySame s feeders ps old new
  same_alone qs few lane = fed_same s old.upkeeps new.upkeeps k feeders lane qs (omega (arith, few, is)) (leaves_spans s c old new k after)

  own_alone : (lane : ℕ) → fed_before s feeders alone new (length (asked_in ps)) lane ≡ fed_deeds s old.upkeeps feeders lane ps
  own_alone lane = ap (fed_deeds s new.upkeeps feeders lane) (placed_last ps (Alone c) (length (asked_in ps)) (omega arith) (omega arith)).0 ∙ same_alone ps (omega arith) lane

  pub noted_alone : (end : Status) → cuts c ≡ true → (c ≡ command.Maintain → HasSpans k old new ⊎ ((end ≡ status.NoMemory) × (new.upkeeps ≡ old.upkeeps))) → AreNoted end s feeders alone new
  noted_alone end cut last = record {
    upkept = subst (λ ds. AreUpkept end s (fed_before s feeders alone new) ds new) (sym (asked_push ps (Alone c)))
        (upkept_behind s plans (asked_in ps) (λ lane. fed_deeds s old.upkeeps feeders lane ps) c old new k done is after (fed_before s feeders ps old) (fed_before s feeders alone new)
        (more_before s feeders ps old new same_alone (Alone c)) own_alone end so.upkept last);
    gone = gone_more s plans (asked_in ps) c old new k done is after so.gone;
    read = reads_still end s feeders ps alone old new grew (more_to s feeders ps old new same_alone (Alone c)) fronts none there so.read;
  }
    where
      grew : JournalsGrew old new
      grew lane w at = let g = grew_after s c old new k after lane w at in (g.0, (g.1.0, (g.1.1).journal))

      no_search_cuts : (q : Said) → c ≡ command.Search q → ⊥
      no_search_cuts q own = false≢true (subst (λ x. cuts x ≡ true) own cut)

      fronts : new.fronts ≡ old.fronts
      fronts = elim (read_after s c old new k after) [
        | inl own ↦ absurd (no_search_cuts own.0 own.1)
        | inr same ↦ same
      ]

      none : (at : ℕ) (q : Said) → SearchesAt at q (asked_in alone) → SearchesAt at q (asked_in ps)
      none at q asks = elim (pushed (asked_in ps) c at (command.Search q) (subst (λ ds. SearchesAt at q ds) (asked_push ps (Alone c)) asks)) [
        | inl before ↦ before
        | inr own ↦ absurd (no_search_cuts q own.1)
      ]

      there : (at : ℕ) (q : Said) → SearchesAt at q (asked_in ps) → SearchesAt at q (asked_in alone)
      there at q asks = subst (λ ds. SearchesAt at q ds) (sym (asked_push ps (Alone c))) (stays (asked_in ps) (c ∷ []) at (command.Search q) asks)

-- ---- a segment

-- where memory wanted some of its searches weren't made
abbrev pub MadeOf : Status → List Asked → List Asked → Type 0
MadeOf end cs made = (j : ℕ) (q : Said) → SearchesAt j q cs → SearchesAt j q made ⊎ ((end ≡ status.NoMemory) × (length made ≤ j))

module _ (end : Status) (s : Setting) (plans : ℕ → List Fate) (feeders line : ℕ) (ps : List Part) (cs made : List Asked) (left : ℕ → Lines) (old new : Cell) (done : HaveFed s plans feeders ps old) (now_done : HaveFed s plans feeders (ps ++ Together cs left ∷ []) new)
    (still : AreStill cs) (is : line ≡ length (asked_in ps) + 1) (fed : AreFedIn s feeders line cs left old new) (now : AreDealt line made cs old new) (so : AreNoted status.Done s feeders ps old)
    (made_of : MadeOf end cs made) (only : (j : ℕ) (q : Said) → SearchesAt j q made → SearchesAt j q cs) (within : ReadWithin new) where
  abbrev was : List Asked
  was = asked_in ps

  abbrev part : Part
  part = Together cs left

  abbrev parts : List Part
  parts = ps ++ part ∷ []

  lines_are : asked_in parts ≡ was ++ cs
  lines_are = asked_push ps part

  same_spans : new.upkeeps ≡ old.upkeeps
  same_spans = ap (λ (x : Cell). x.upkeeps) now

  fronts_are_now : new.fronts ≡ old.fronts ++ fronts_from line made (fronts_now new.lanes)
  fronts_are_now = ap (λ (x : Cell). x.fronts) now

  same_fed : StaySame s feeders ps old new
  same_fed qs few lane = ap (λ us. fed_deeds s us feeders lane qs) same_spans

  all_grew : AllGrew old new
  all_grew lane w at =
      let was = lane_was old.lanes new.lanes lane w fed.count at in
      let segment = (fed.each lane was.0 w was.1 at).segment in
      (was.0, (was.1, record { journal = segment_grown feeders _ was.0 w segment; fates = segment-gives feeders _ was.0 w segment }))

  grew_on : JournalsGrew old new
  grew_on lane w at = let g = all_grew lane w at in (g.0, (g.1.0, (g.1.1).journal))

  dealt : old.dealt ≡ length was
  dealt = done.dealt

  -- an earlier line's fronts are as they were
  front_stays : (at : ℕ) → at < length was → fronts_of (suc at) new.fronts ≡ fronts_of (suc at) old.fronts
  front_stays at low = (fed_goes s feeders line cs left old new fed made now (length was) (omega (arith, is))).fronts (suc at) (omega (arith, low))

  unread : (n : ℕ) → length was < n → fronts_of n old.fronts ≡ None
  unread n late = done.unread n (omega (arith, late, dealt))

  -- ---- upkeep

  asks_before : (at : ℕ) → AsksAt at (was ++ cs) → AsksAt at was
  asks_before at asks = elim (appended was cs at command.Maintain asks) [
    | inl before ↦ before
    | inr own ↦ absurd (none_asks cs still own.0 own.1.1)
  ]

  upkept_still : AreUpkept end s (fed_before s feeders parts new) (asked_in parts) new
  upkept_still = subst (λ ds. AreUpkept end s (fed_before s feeders parts new) ds new) (sym lines_are)
      (upkept_on end s old new was (was ++ cs) same_spans all_grew (fed_before s feeders ps old) (fed_before s feeders parts new) (more_before s feeders ps old new same_fed part)
      asks_before (λ at asks. stays was cs at command.Maintain asks) so.upkept)

  -- ---- a search of the segment

  module _ (j : ℕ) (q : Said) (here : SearchesAt j q cs) where
    own_place : (parts_before (length was + j) parts ≡ ps) × (parts_to (length was + j) parts ≡ parts)
    own_place = let low = slice_get_within cs j (command.Search q) here in placed_last ps part (length was + j) (omega arith) (omega (arith, low))

    own_read : SearchesAt j q made → HasRead s (fed_to s feeders parts new (length was + j)) (suc (length was + j)) new
    own_read there = record {
      fronts = fronts_now new.lanes;
      are = own_fronts;
      count = length-map new.lanes front_now ∙ now_done.lanes;
      stand = λ lane w g at got. record {
        before = w.journal;
        behind = subst (λ qs. IsLife s (bucket_in s lane) (fed_deeds s new.upkeeps feeders lane qs) w.journal) (sym own_place.1) (now_done.serving lane w at).life;
        front = mapped_at front_now new.lanes lane w g at got;
        later = [];
        whole = refl;
      };
    }
      where
        own_fronts : fronts_of (suc (length was + j)) new.fronts ≡ Some (fronts_now new.lanes)
        own_fronts =
            let split = split_at made j (command.Search q) there in
            ap (fronts_of (suc (length was + j))) (fronts_are_now ∙ ap (λ ds. old.fronts ++ fronts_from line ds (fronts_now new.lanes)) split.1.1.0)
            ∙ fronts_found line (suc (length was + j)) split.0 q split.1.0 old.fronts (fronts_now new.lanes) (omega (arith, is, split.1.1.1)) (unread (suc (length was + j)) (omega arith))

    own_unread : (end ≡ status.NoMemory) × (length made ≤ j) → WasUnread end parts (length was + j) new
    own_unread cut = record {
      memory = cut.0;
      last = own_place.1;
      none = ap (fronts_of (suc (length was + j))) fronts_are_now
          ∙ fronts_behind (suc (length was + j)) old.fronts (fronts_from line made (fronts_now new.lanes)) (unread (suc (length was + j)) (omega arith))
          ∙ fronts_later line (suc (length was + j)) made (fronts_now new.lanes) (omega (arith, is, cut.1));
    }

    own_answered : HasRead s (fed_to s feeders parts new (length was + j)) (suc (length was + j)) new ⊎ WasUnread end parts (length was + j) new
    own_answered = elim (made_of j q here) [
      | inl there ↦ inl (own_read there)
      | inr cut ↦ inr (own_unread cut)
    ]

  answered : (at : ℕ) (q : Said) → SearchesAt at q (asked_in parts) → HasRead s (fed_to s feeders parts new at) (suc at) new ⊎ WasUnread end parts at new
  answered at q asks = elim (appended was cs at (command.Search q) (subst (λ ds. SearchesAt at q ds) lines_are asks)) [
    | inl before ↦
        let low = slice_get_within was at (command.Search q) before in
        inl (read_on s old new grew_on (suc at) (front_stays at low) (fed_to s feeders ps old at) (fed_to s feeders parts new at) (λ lane. more_to s feeders ps old new same_fed part at lane low) (has_read s feeders ps old so.read at q before))
    | inr own ↦ subst (λ n. HasRead s (fed_to s feeders parts new n) (suc n) new ⊎ WasUnread end parts n new) (sym own.1.0) (own_answered own.0 q own.1.1)
  ]

  -- ---- whose fronts there are, and their order

  -- a line with fronts had them, or is one of the segment
  abbrev IsOfSegment : ℕ → List ℕ → Type 0
  IsOfSegment n gs = (gs ≡ fronts_now new.lanes) × ((j : ℕ) × ((q : Said) × ((n ≡ line + j) × SearchesAt j q made)))

  had : (n : ℕ) (gs : List ℕ) → fronts_of n new.fronts ≡ Some gs → (fronts_of n old.fronts ≡ Some gs) ⊎ IsOfSegment n gs
  had n gs has = elim (fronts_either n old.fronts (fronts_from line made (fronts_now new.lanes)) gs (sym (ap (fronts_of n) fronts_are_now) ∙ has)) [
    | inl before ↦ inl before
    | inr own ↦ inr (fronts_are n line made (fronts_now new.lanes) gs own, searches_from n line made (fronts_now new.lanes) gs own)
  ]

  others : OnlySearchesRead (asked_in parts) new
  others n some = by_fronts (some_of (fronts_of n new.fronts) some)
    where
      by_fronts : (gs : List ℕ) × (fronts_of n new.fronts ≡ Some gs) → (at : ℕ) × ((q : Said) × ((n ≡ suc at) × SearchesAt at q (asked_in parts)))
      by_fronts (gs, has) = elim (had n gs has) [
        | inl before ↦
            let of = (so.read).others n (some_here (fronts_of n old.fronts) gs before) in
            (of.0, (of.1.0, (of.1.1.0, subst (λ ds. SearchesAt of.0 of.1.0 ds) (sym lines_are) (stays was cs of.0 (command.Search of.1.0) of.1.1.1))))
        | inr own ↦
            let j = own.1.0 in
            let q = own.1.1.0 in
            (length was + j, (q, (omega (arith, own.1.1.1.0, is), subst (λ ds. SearchesAt (length was + j) q ds) (sym lines_are) (behind was cs j ∙ only j q own.1.1.1.1))))
      ]

  rise : FrontsRise new
  rise lane earlier n early a b has there =
      let two = fronts_there lane (fronts_of n new.fronts) b there in
      let one = fronts_there lane (fronts_of earlier new.fronts) a has in
      elim (had n two.0 two.1.0) [
        | inl before ↦ by_earlier one.0 one.1.0 one.1.1 before (ap (λ o. option_and_then (λ gs. slice_get gs lane) o) before ∙ two.1.1)
        | inr own ↦
            let w = mapped_some new.lanes lane b (ap (λ xs. slice_get xs lane) (sym own.0) ∙ two.1.1) in
            let low = within earlier one.0 one.1.0 lane w.0 a w.1.0 one.1.1 in
            omega (arith, low, w.1.1)
      ]
    where
      by_earlier : (gs : List ℕ) → fronts_of earlier new.fronts ≡ Some gs → slice_get gs lane ≡ Some a → {hs : List ℕ} → fronts_of n old.fronts ≡ Some hs → front_in lane n old.fronts ≡ Some b → a ≤ b
      by_earlier gs is_new got {hs} before of_n = elim (had earlier gs is_new) [
        | inl was_there ↦ (so.read).in_order lane earlier n early a b (ap (λ o. option_and_then (λ gs. slice_get gs lane) o) was_there ∙ got) of_n
        | inr own ↦ absurd (none_some (fronts_of n old.fronts) hs (unread n (omega (arith, own.1.1.1.0, early, is))) before)
      ]

  pub noted_together : AreNoted end s feeders parts new
  noted_together = record { upkept = upkept_still; gone = gone_on s old new same_spans all_grew so.gone; read = record { answered = answered; others = others; in_order = rise } }
