-- What searches count, and that they are full, where feeders run the lines of each segment.
use Rattle.std.proofs.Common.{◌≡◌, ◌<◌, ◌≤◌, ◌+◌, ◌-◌, ℕ, zero, suc, Bool, true, false, List, [], ◌∷◌, ◌++◌, Some, inl, inr, refl, sym, ap, ◌∙◌, subst, arith, length, append-nil, slice_get, take, if◌then◌else◌}
use Rattle.std.proofs.lemmas.Bool.{cases_lt}
use Rattle.std.proofs.lemmas.List.{take-append-le}
use Rattle.carriers.specs.declared.fate.Fate.{Fate}
use Rattle.cluster_states.specs.Publishing.{Told}
use Rattle.lane_lives.specs.Lives.{Deed, Feeds, Maintains, states_in}
use Rattle.lane_lives.specs.Settings.{IsSetting}
use Rattle.lane_lives.specs.declared.setting.Setting.{Setting}
use Rattle.lane_lives.specs.declared.spans.UpkeepSpan.{UpkeepSpan}
use Rattle.query_text.specs.Grammar.{Said}
use Rattle.session_cluster.specs.Cells.{Cell}
use Rattle.session_cluster.specs.Deeds.{first_told, told_by, told_of}
use Rattle.session_cluster.specs.Searches.{fronts_of}
use Rattle.session_cluster.specs.Spans.{span_in}
use Rattle.session_cluster.specs.declared.asked.Asked.{Asked}
use Rattle.session_cluster.specs.declared.asked.Asked.TheVariants as command
use Rattle.session_cluster.specs.declared.cluster.LineSpans.{LineSpans}
use Rattle.session_cluster.proofs.AlikeDeeds.{AreLow, alike_low}
use Rattle.session_cluster.proofs.DeedLists.{told_append, deeds_told}
use Rattle.session_segments.specs.Fed.{HaveFed}
use Rattle.session_segments.specs.FedDeeds.{fed_lines, with_part, with_parts, fed_deeds}
use Rattle.session_segments.specs.Parts.{AreStill, AreStillIn, AreInTurn, Part, Alone, Together, asked_of, asked_in, has_line, parts_before, parts_to}
use Rattle.session_segments.proofs.PartLists.{told_still, fed_alike, cut_still, ended_still}
use Rattle.session_segments.proofs.PartPlaces.{first_before, first_to, later_before, later_to}
use Rattle.cell_session.specs.FedLines.{fed_in, fed_before, fed_to, AreFedRead}
use Rattle.cell_session.specs.FullSearches.{IsCalmLine, AreFull}
use Rattle.cell_session.specs.Limits.{most_lines}
use Rattle.cell_session.specs.Searches.{HasRead, SearchesAt, EachCounts}
use Rattle.cell_session.specs.Upkeep.{AsksAt, AreUpkept}
use Rattle.cell_session.specs.declared.status.Status.{Status}
use Rattle.cell_session.proofs.FedNoted.{none_asks, some_here}
use Rattle.cell_session.proofs.FullSearches.{IsCalmBehind, one_behind, calm_line, StayCovered, ReadBehind, all_full}
use Rattle.cell_session.proofs.SearchCounts.{SearchLaws, each_counts_once}
use Rattle.cell_session.proofs.UpkeepLaws.{some_is, none_some}

-- ---- lists

past_get : (cs ds : List Asked) (k : ℕ) → length cs ≤ k → slice_get (cs ++ ds) k ≡ slice_get ds (k - length cs)
past_get [] ds k high = ap (slice_get ds) (omega arith)
past_get (c ∷ cs) ds zero high = absurd (omega (arith, high))
past_get (c ∷ cs) ds (suc k) high = past_get cs ds k (omega (arith, high)) ∙ ap (slice_get ds) (omega arith)

low_get : (cs ds : List Asked) (k : ℕ) → k < length cs → slice_get (cs ++ ds) k ≡ slice_get cs k
low_get [] ds k low = absurd (omega (arith, low))
low_get (c ∷ cs) ds zero low = refl
low_get (c ∷ cs) ds (suc k) low = low_get cs ds k (omega (arith, low))

past_take : (cs ds : List Asked) (k : ℕ) → length cs ≤ k → take k (cs ++ ds) ≡ cs ++ take (k - length cs) ds
past_take [] ds k high = ap (λ n. take n ds) (omega arith)
past_take (c ∷ cs) ds zero high = absurd (omega (arith, high))
past_take (c ∷ cs) ds (suc k) high = ap (λ l. c ∷ l) (past_take cs ds k (omega (arith, high)) ∙ ap (λ n. cs ++ take n ds) (omega arith))

still_take : (cs : List Asked) (k : ℕ) → AreStill cs → AreStill (take k cs)
still_take cs zero still = tt
still_take [] (suc k) still = tt
still_take (c ∷ cs) (suc k) still = (still.0, still_take cs k still.1)

-- ---- the states that are told as a line reads

pub still_to : (at : ℕ) (ps : List Part) → AreStillIn ps → AreStillIn (parts_to at ps)
still_to at [] still = tt
still_to at (Alone c ∷ ps) still = by_test (has_line at (Alone c)) (still_to (at - 1) ps still)
  where
    by_test : (t : Bool) → AreStillIn (parts_to (at - 1) ps) → AreStillIn (if t then Alone c ∷ [] else Alone c ∷ parts_to (at - 1) ps)
    by_test true rest = tt
    by_test false rest = rest
still_to at (Together cs left ∷ ps) still = by_test (has_line at (Together cs left)) (still_to (at - length cs) ps still.1)
  where
    by_test : (t : Bool) → AreStillIn (parts_to (at - length cs) ps) → AreStillIn (if t then Together cs left ∷ [] else Together cs left ∷ parts_to (at - length cs) ps)
    by_test true rest = (still.0, tt)
    by_test false rest = (still.0, rest)

-- the part in which a search is tells nothing
told_own : (told : Told) (p : Part) (ps : List Part) (at : ℕ) (q : Said) → at < length (asked_of p) → AreStillIn (p ∷ ps) → SearchesAt at q (asked_of p ++ asked_in ps) → told_by told (asked_of p ++ []) ≡ told_by told (take at (asked_of p ++ asked_in ps))
told_own told (Alone c) ps zero q low still asks = ap (λ x. told_by told (x ∷ [])) (some_is asks)
told_own told (Alone c) ps (suc at) q low still asks = absurd (omega (arith, low))
told_own told (Together cs left) ps at q low still asks =
    ap (told_by told) (append-nil cs) ∙ told_still told cs still.0
    ∙ sym (ap (told_by told) (take-append-le at cs (asked_in ps) (omega (arith, low))) ∙ told_still told (take at cs) (still_take cs at still.0))

still_tail : (p : Part) (ps : List Part) → AreStillIn (p ∷ ps) → AreStillIn ps
still_tail (Alone c) ps still = still
still_tail (Together cs left) ps still = still.1

told_to : (told : Told) (ps : List Part) (at : ℕ) (q : Said) → AreStillIn ps → SearchesAt at q (asked_in ps) → told_by told (asked_in (parts_to at ps)) ≡ told_by told (take at (asked_in ps))
told_to told [] at q still asks = absurd (no_item at asks)
  where
    no_item : (k : ℕ) → slice_get [] k ≡ Some (command.Search q) → ⊥
    no_item zero h = cc h
    no_item (suc k) h = cc h
told_to told (p ∷ ps) at q still asks = elim (cases_lt at (length (asked_of p))) [
  | inl here ↦ ap (λ qs. told_by told (asked_in qs)) (first_to at p ps here) ∙ told_own told p ps at q here still asks
  | inr past ↦
      let high : length (asked_of p) ≤ at = omega (arith, past) in
      let rest = told_to (told_by told (asked_of p)) ps (at - length (asked_of p)) q (still_tail p ps still) (sym (past_get (asked_of p) (asked_in ps) at high) ∙ asks) in
      ap (λ qs. told_by told (asked_in qs)) (later_to at p ps high) ∙ told_append told (asked_of p) (asked_in (parts_to (at - length (asked_of p)) ps)) ∙ rest
      ∙ sym (ap (told_by told) (past_take (asked_of p) (asked_in ps) at high) ∙ told_append told (asked_of p) (take (at - length (asked_of p)) (asked_in ps)))
]

told_parts : (s : Setting) (us : List LineSpans) (feeders lane : ℕ) (qs : List Part) → AreStillIn qs → states_in s (fed_deeds s us feeders lane qs) ≡ (told_of s (asked_in qs)).states
told_parts s us feeders lane qs still = (fed_alike s us feeders qs still lane).states ∙ ap (λ (t : Told). t.states) (deeds_told s us lane (asked_in qs))

-- ---- nothing but what is calm was done since an upkeep

module _ (s : Setting) (us : List LineSpans) (feeders lane : ℕ) where
  abbrev By : Told → ℕ → List Part → List Deed → List Deed
  By told line ps deeds = with_parts s us feeders lane told line ps deeds

  -- the lines before a place, from another place on, are calm
  abbrev AreCalmTo : Told → ℕ → ℕ → List Part → Type 0
  AreCalmTo told from at ps = (k : ℕ) (c : Asked) → from ≤ k → k < at → slice_get (asked_in ps) k ≡ Some c → IsCalmLine (told_by told (take k (asked_in ps))) c

  -- the same behind the first part
  calm_tail : (told : Told) (p : Part) (ps : List Part) (from at : ℕ) → length (asked_of p) ≤ at → AreCalmTo told from at (p ∷ ps) → AreCalmTo (told_by told (asked_of p)) (from - length (asked_of p)) (at - length (asked_of p)) ps
  calm_tail told p ps from at high calm k c late early here =
      let n = length (asked_of p) in
      let back : n + k - n ≡ k = omega arith in
      let there : slice_get (asked_of p ++ asked_in ps) (n + k) ≡ Some c = past_get (asked_of p) (asked_in ps) (n + k) (omega arith) ∙ ap (slice_get (asked_in ps)) back ∙ here in
      subst (λ t. IsCalmLine t c) (ap (told_by told) (past_take (asked_of p) (asked_in ps) (n + k) (omega arith) ∙ ap (λ m. asked_of p ++ take m (asked_in ps)) back) ∙ told_append told (asked_of p) (take k (asked_in ps)))
      (calm (n + k) c (omega (arith, late)) (omega (arith, early, high)) there)

  -- a part whose lines are calm adds what is calm
  calm_part : (told : Told) (line : ℕ) (p : Part) (base deeds : List Deed) → ((c : Asked) → p ≡ Alone c → IsCalmLine told c) → IsCalmBehind base deeds → IsCalmBehind base (with_part s us feeders lane told line p deeds)
  calm_part told line (Alone c) base deeds calm x = calm_line s us lane told line c base deeds (calm c refl) x
  calm_part told line (Together cs left) base deeds calm x = one_behind base deeds (Feeds feeders (fed_lines s lane line cs []) (left lane)) (λ more quiet. quiet) x

  -- a search among its lines makes it calm
  own_part : (told : Told) (line : ℕ) (p : Part) (rest : List Asked) (base deeds : List Deed) (at : ℕ) (q : Said) → at < length (asked_of p) → SearchesAt at q (asked_of p ++ rest) → IsCalmBehind base deeds
      → IsCalmBehind base (with_part s us feeders lane told line p deeds)
  own_part told line (Alone c) rest base deeds zero q low asks x = subst (λ d. IsCalmBehind base (with_part s us feeders lane told line (Alone d) deeds)) (sym (some_is asks)) x
  own_part told line (Alone c) rest base deeds (suc at) q low asks x = absurd (omega (arith, low))
  own_part told line (Together cs left) rest base deeds at q low asks x = one_behind base deeds (Feeds feeders (fed_lines s lane line cs []) (left lane)) (λ more quiet. quiet) x

  alone_calm : (told : Told) (p : Part) (ps : List Part) (at : ℕ) → length (asked_of p) ≤ at → AreCalmTo told 0 at (p ∷ ps) → (c : Asked) → p ≡ Alone c → IsCalmLine told c
  alone_calm told p ps at high calm c is =
      let one : length (asked_of p) ≡ 1 = ap (λ r. length (asked_of r)) is in
      calm 0 c (omega arith) (omega (arith, high, one)) (ap (λ r. slice_get (asked_in (r ∷ ps)) 0) is)

  -- up to the part of a search
  calm_to : (told : Told) (line : ℕ) (ps : List Part) (base deeds : List Deed) (at : ℕ) (q : Said) → SearchesAt at q (asked_in ps) → AreCalmTo told 0 at ps → IsCalmBehind base deeds → IsCalmBehind base (By told line (parts_to at ps) deeds)
  calm_to told line [] base deeds at q asks calm x = x
  calm_to told line (p ∷ ps) base deeds at q asks calm x = elim (cases_lt at (length (asked_of p))) [
    | inl here ↦ subst (λ qs. IsCalmBehind base (By told line qs deeds)) (sym (first_to at p ps here)) (own_part told line p (asked_in ps) base deeds at q here asks x)
    | inr past ↦
        let n = length (asked_of p) in
        let high : n ≤ at = omega (arith, past) in
        let calm_rest = subst (λ m. AreCalmTo (told_by told (asked_of p)) m (at - n) ps) (nothing n) (calm_tail told p ps 0 at high calm) in
        subst (λ qs. IsCalmBehind base (By told line qs deeds)) (sym (later_to at p ps high))
        (calm_to (told_by told (asked_of p)) (line + n) ps base (with_part s us feeders lane told line p deeds) (at - n) q (sym (past_get (asked_of p) (asked_in ps) at high) ∙ asks) calm_rest
        (calm_part told line p base deeds (alone_calm told p ps at high calm) x))
  ]
    where
      nothing : (n : ℕ) → 0 - n ≡ 0
      nothing n = omega arith

  -- from behind an upkeep on
  calm_from : (told : Told) (line : ℕ) (ps : List Part) (deeds : List Deed) (upkeep at : ℕ) (span : UpkeepSpan) (q : Said) → AreStillIn ps → AsksAt upkeep (asked_in ps) → upkeep < at → SearchesAt at q (asked_in ps)
      → span_in lane (line + upkeep) us ≡ Some span → AreCalmTo told (suc upkeep) at ps → IsCalmBehind (Maintains (Some span) ∷ By told line (parts_before upkeep ps) deeds) (By told line (parts_to at ps) deeds)
  calm_from told line [] deeds upkeep at span q still asks order searches noted calm = absurd (no_item upkeep asks)
    where
      no_item : (k : ℕ) → slice_get [] k ≡ Some command.Maintain → ⊥
      no_item zero h = cc h
      no_item (suc k) h = cc h
  calm_from told line (p ∷ ps) deeds upkeep at span q still asks order searches noted calm = elim (cases_lt upkeep (length (asked_of p))) [
    | inl here ↦
        subst (λ qs. IsCalmBehind (Maintains (Some span) ∷ By told line qs deeds) (By told line (parts_to at (p ∷ ps)) deeds)) (sym (first_before upkeep p ps here))
        (own p upkeep here still asks order searches noted calm)
    | inr past ↦
        let n = length (asked_of p) in
        let high : n ≤ upkeep = omega (arith, past) in
        let later : n ≤ at = omega (arith, high, order) in
        subst (λ qs. IsCalmBehind (Maintains (Some span) ∷ By told line qs deeds) (By told line (parts_to at (p ∷ ps)) deeds)) (sym (later_before upkeep p ps high))
        (subst (λ qs. IsCalmBehind (Maintains (Some span) ∷ By told line (p ∷ parts_before (upkeep - n) ps) deeds) (By told line qs deeds)) (sym (later_to at p ps later))
        (calm_from (told_by told (asked_of p)) (line + n) ps (with_part s us feeders lane told line p deeds) (upkeep - n) (at - n) span q (still_tail p ps still)
        (sym (past_get (asked_of p) (asked_in ps) upkeep high) ∙ asks) (omega (arith, order, high)) (sym (past_get (asked_of p) (asked_in ps) at later) ∙ searches)
        (ap (λ k. span_in lane k us) (further line n upkeep high) ∙ noted)
        (subst (λ m. AreCalmTo (told_by told (asked_of p)) m (at - n) ps) (less n upkeep high) (calm_tail told p ps (suc upkeep) at later calm))))
  ]
    where
      further : (l n u : ℕ) → n ≤ u → l + n + (u - n) ≡ l + u
      further l n u high = omega (arith, high)

      less : (n u : ℕ) → n ≤ u → suc u - n ≡ suc (u - n)
      less n u high = omega (arith, high)

      own : (p : Part) (upkeep : ℕ) → upkeep < length (asked_of p) → AreStillIn (p ∷ ps) → AsksAt upkeep (asked_of p ++ asked_in ps) → upkeep < at → SearchesAt at q (asked_of p ++ asked_in ps) → span_in lane (line + upkeep) us ≡ Some span
          → AreCalmTo told (suc upkeep) at (p ∷ ps) → IsCalmBehind (Maintains (Some span) ∷ deeds) (By told line (parts_to at (p ∷ ps)) deeds)
      own (Together cs left) upkeep low still asks order searches noted calm = absurd (none_asks cs still.0 upkeep (sym (low_get cs (asked_in ps) upkeep low) ∙ asks))
      own (Alone c) (suc upkeep) low still asks order searches noted calm = absurd (omega (arith, low))
      own (Alone c) zero low still asks order searches noted calm =
          let is : c ≡ command.Maintain = some_is asks in
          subst (λ qs. IsCalmBehind (Maintains (Some span) ∷ deeds) (By told line qs deeds)) (sym (later_to at (Alone c) ps (omega (arith, order))))
          (calm_to (told_by told (c ∷ [])) (line + 1) ps (Maintains (Some span) ∷ deeds) (with_part s us feeders lane told line (Alone c) deeds) (at - 1) q (sym (past_get (c ∷ []) (asked_in ps) at (omega (arith, order))) ∙ searches)
          (calm_tail told (Alone c) ps 1 at (omega (arith, order)) calm)
          (record {
            more = [];
            calm = tt;
            are = ap (λ d. with_part s us feeders lane told line (Alone d) deeds) is ∙ ap (λ o. Maintains o ∷ deeds) (ap (λ k. span_in lane k us) (plain line) ∙ noted);
          }))
        where
          plain : (l : ℕ) → l ≡ l + 0
          plain l = omega arith

-- ---- of a session

module _ (s : Setting) (plans : ℕ → List Fate) (feeders : ℕ) (ps : List Part) (c : Cell) (turns : AreInTurn ps) (done : HaveFed s plans feeders ps c) (end : Status) (read : AreFedRead end s feeders ps c) where
  still_in : AreStillIn ps
  still_in = elim turns [
    | inl cut ↦ cut_still ps cut
    | inr ended ↦ ended_still ps ended
  ]

  lows : AreLow (fed_in s feeders ps c) (length (asked_in ps))
  lows = alike_low s c.upkeeps (asked_in ps) (fed_in s feeders ps c) (fed_alike s c.upkeeps feeders ps still_in)

  reads : (at : ℕ) (q : Said) → SearchesAt at q (asked_in ps) → (gs : List ℕ) → fronts_of (suc at) c.fronts ≡ Some gs → HasRead s (fed_to s feeders ps c at) (suc at) c
  reads at q asks gs has = elim (read.answered at q asks) [
    | inl h ↦ h
    | inr cut ↦ absurd (none_some (fronts_of (suc at) c.fronts) gs cut.none has)
  ]

  first : (n : ℕ) → 1 + n ≡ suc n
  first n = omega arith

  fed_behind : ReadBehind s plans (asked_in ps) c (fed_in s feeders ps c) (fed_before s feeders ps c) (fed_to s feeders ps c)
  fed_behind = record {
    done = done;
    lows = lows;
    reads = reads;
    told = λ at q asks lane. told_parts s c.upkeeps feeders lane (parts_to at ps) (still_to at ps still_in) ∙ ap (λ (t : Told). t.states) (told_to (first_told s) ps at q still_in asks);
    calm = λ upkeep at q f lane span noted. calm_from s c.upkeeps feeders lane (first_told s) 1 ps [] upkeep at span q still_in (f.all_rested).asks f.order f.searches (ap (λ n. span_in lane n c.upkeeps) (first upkeep) ∙ noted) (λ k line late early here. f.between k line late early here);
  }

  pub fed_full : SearchLaws → StayCovered → IsSetting s → length (asked_in ps) ≤ most_lines → AreUpkept end s (fed_before s feeders ps c) (asked_in ps) c → AreFull s (asked_in ps) c
  fed_full laws covers setting few upkept = all_full laws covers end s setting plans (asked_in ps) c (fed_in s feeders ps c) (fed_before s feeders ps c) (fed_to s feeders ps c) fed_behind few upkept

  pub fed_counts : SearchLaws → IsSetting s → length (asked_in ps) ≤ most_lines → EachCounts s (fed_to s feeders ps c) c
  fed_counts laws setting few = each_counts_once laws s setting plans (asked_in ps) (fed_in s feeders ps c) c done lows few (fed_to s feeders ps c) (λ line gs has.
      let was = read.others line (some_here (fronts_of line c.fronts) gs has) in
      (was.0, (was.1.1.0, reads was.0 was.1.0 was.1.1.1 gs (subst (λ n. fronts_of n c.fronts ≡ Some gs) was.1.1.0 has))))
