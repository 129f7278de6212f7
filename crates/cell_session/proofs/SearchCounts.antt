-- Each search reads one prefix of each lane's journal, and counts each document once at most.
use Rattle.std.proofs.Common.{◌≡◌, ◌==◌, ◌<◌, ◌≤◌, ◌+◌, ◌%◌, ◌^◌, ℕ, zero, suc, true, false, List, [], ◌∷◌, ◌++◌, Option, None, Some, inl, inr, refl, sym, ap, ap₂, ◌∙◌, subst, arith, length, map, slice_get, take}
use Rattle.std.specs.Option.{IsSome}
use Rattle.std.proofs.lemmas.Bool.{cases_lt, false≢true}
use Rattle.std.proofs.lemmas.Bool.Decides.{nat_tests}
use Rattle.bucket_ids.specs.Buckets.{Low, IsBucket, has_key}
use Rattle.carriers.specs.declared.fate.Fate.{Fate}
use Rattle.coverage.specs.Covering.{measure_of}
use Rattle.doc_types.specs.SchemaCodes.{Types}
use Rattle.journal_views.specs.Fronts.{Front, IsFront, NoneHas, AreFronts, seen_at, IsKeyRead, IsCountedAs}
use Rattle.journal_views.specs.JournalViews.{view_of, Shows, written_entries, FindRoom}
use Rattle.journal_views.specs.Searched.{LaneRead, IsAnswer, AreShown}
use Rattle.journal_views.proofs.Reading.{first-changes}
use Rattle.lane_changes.specs.Changes.{changes_of}
use Rattle.lane_durability.specs.Laws.{InAllKept}
use Rattle.lane_journals.specs.KeptJournals.{IsLegal}
use Rattle.lane_journals.specs.Meanings.{history}
use Rattle.lane_journals.specs.Places as places
use Rattle.lane_journals.specs.Readers.{wrote}
use Rattle.lane_journals.specs.declared.event.LaneEvent.{LaneEvent}
use Rattle.lane_journals.specs.declared.event.LaneEvent.TheVariants.{Wrote}
use Rattle.lane_keeping.specs.LaneKeeping.{setting_of}
use Rattle.lane_calls.specs.LaneValues.{LaneValue}
use Rattle.lane_lives.specs.Lives.{Deed, lines_of}
use Rattle.lane_lives.specs.Serving.{bucket_in}
use Rattle.lane_lives.specs.Settings.{lane_count, IsSetting}
use Rattle.lane_lives.specs.declared.setting.Setting.{Setting}
use Rattle.lane_lives.proofs.Living.{others_fresh, later_none}
use Rattle.lane_promises.proofs.Before.{legal_tail}
use Rattle.query_text.specs.Grammar.{said_of}
use Rattle.query_text.specs.declared.query.Query.{Query}
use Rattle.search_laws.specs.Searches.{times_counted, covered}
use Rattle.search_views.specs.Answers.{search_answer, all_covered, capped}
use Rattle.session_cluster.specs.Cells.{Cell, journals, journals_of}
use Rattle.session_cluster.specs.Deeds.{deeds_of_lane}
use Rattle.session_cluster.specs.Keeping.{HaveDone, IsKept}
use Rattle.session_cluster.specs.Lanes.{Journal}
use Rattle.session_cluster.specs.Searches.{fronts_of, view_to, views_to}
use Rattle.session_cluster.specs.declared.asked.Asked.{Asked}
use Rattle.session_cluster.proofs.AlikeDeeds.{AreLow}
use Rattle.session_cluster.proofs.DeedLists.{lines_low}
use Rattle.cell_session.specs.Limits.{most_lines}
use Rattle.cell_session.specs.Operations.{deeds_before}
use Rattle.cell_session.specs.Searches.{FrontStands, HasRead, AreRead, AreFrontsIn, CountsOnce, EachCounts}
use Rattle.cell_session.proofs.UpkeepLaws.{some_is}
use Rattle.view_changes.specs.Kept.{IsView}
use Rattle.view_changes.specs.Opening.{opening}
use Rattle.view_changes.specs.Serving.{node_regions}
use Rattle.view_changes.specs.Views.{View, view_after}

-- what is promised of journals and views
pub record SearchLaws : Type 0 where
  pub few : InAllKept (λ S J. (most : ℕ) → ((line : ℕ) → wrote line (history J) ≡ true → line < most) → length (written_entries J) ≤ most)
  pub shown : InAllKept (λ S J. (types : Types) → IsBucket S.lane → FindRoom J → Shows (view_of types J) (view_after (opening types) (changes_of J)))
  pub view : InAllKept (λ S J. (types : Types) → IsBucket S.lane → FindRoom J → IsView (view_after (opening types) (changes_of J)))
  pub once : (types : Types) (w : ℕ) (id : List ℕ) (fs : List Front) → AreFronts fs → times_counted w id (map (seen_at types) fs) ≤ 1
  pub current : (types : Types) (w : ℕ) (id : List ℕ) (fs : List Front) → AreFronts fs → covered w (map (seen_at types) fs) ≡ 2 ^ 58 → IsCountedAs types w id fs (times_counted w id (map (seen_at types) fs))
  pub full : (types : Types) (w : ℕ) (fs : List Front) → AreFronts fs → ((key : ℕ) → key < 2 ^ 58 → IsKeyRead w key fs) → covered w (map (seen_at types) fs) ≡ 2 ^ 58
  pub answers : (q : Query) (w : ℕ) (reads : List LaneRead) (vs : List View) → AreShown reads vs → IsAnswer q w reads (search_answer (said_of q) w vs)

-- ---- entries

-- a longer journal has no fewer
more_written : (N J : List LaneEvent) → length (written_entries J) ≤ length (written_entries (N ++ J))
more_written [] J = omega arith
more_written (e ∷ N) J = let more = more_written N J in let one = with_one e (N ++ J) in omega (arith, more, one)
  where
    with_one : (e : LaneEvent) (K : List LaneEvent) → length (written_entries K) ≤ length (written_entries (e ∷ K))
    with_one (Wrote line x) K = omega arith
    with_one _ K = omega arith

-- a session's lanes have few
few_written : SearchLaws → (s : Setting) → IsSetting s → (plans : ℕ → List Fate) (cs : List Asked) (deeds : ℕ → List Deed) (c : Cell) → HaveDone s plans cs deeds c → AreLow deeds (length cs) → length cs ≤ most_lines
    → (lane : ℕ) (v : LaneValue) → slice_get c.lanes lane ≡ Some v → IsLegal (setting_of (bucket_in s lane) s.rules) v.journal → FindRoom v.journal
few_written laws s setting plans cs deeds c done lows few lane v at legal =
    let is = done.serving lane v at in
    let low = lows lane in
    let most = laws.few (setting_of (bucket_in s lane) s.rules) (setting.rules).some_acks v.journal legal 50001 (λ line wrote. elim (cases_lt line 50001) [
      | inl below ↦ below
      | inr past ↦ absurd (false≢true (sym (others_fresh s (bucket_in s lane) (deeds lane) v.journal is.life line (later_none line (lines_of (deeds lane)) is.rising (omega (arith, low, few, past)))).unwritten ∙ wrote))
    ]) in
    omega (arith, most)

-- ---- one lane

-- the prefix of the journal of a lane to which the search read
record LaneHas (s : Setting) (lane : ℕ) (deeds : List Deed) (g : ℕ) (J : Journal) : Type 0 where
  stands : FrontStands s (bucket_in s lane) deeds J g
  legal : IsLegal (setting_of (bucket_in s lane) s.rules) J
  room : FindRoom J

-- lanes of one session have no common key
none_has : (s : Setting) (deeds : ℕ → List Deed) (own lane : ℕ) (key : ℕ) (gs : List ℕ) (Js : List Journal) (fs : List Front) → own < lane → has_key (bucket_in s own) key ≡ true → AreFrontsIn s lane deeds gs Js fs → NoneHas key fs
none_has s deeds own lane key [] [] [] early has are = tt
none_has s deeds own lane key (g ∷ gs) (J ∷ Js) (f ∷ fs) early has are =
    (ap (λ (S : places.Setting). has_key S.lane key) (are.0).setting ∙ others (key % 2 ^ s.bits) own lane early has, none_has s deeds own (suc lane) key gs Js fs (omega (arith, early)) has are.1)
  where
    others : (n own lane : ℕ) → own < lane → (n == own) ≡ true → (n == lane) ≡ false
    others n own lane early has = grind (arith, nat_tests)
none_has s deeds own lane key [] [] (f ∷ fs) early has are = absurd are
none_has s deeds own lane key [] (J ∷ Js) fs early has are = absurd are
none_has s deeds own lane key (g ∷ gs) [] fs early has are = absurd are
none_has s deeds own lane key (g ∷ gs) (J ∷ Js) [] early has are = absurd are

-- ---- what is covered

measure_more : (xs ys : List Low) → measure_of (xs ++ ys) ≡ measure_of xs + measure_of ys
measure_more [] ys = omega arith
measure_more (x ∷ xs) ys = let more = measure_more xs ys in omega (arith, more)

pub covered_is : (types : Types) (w : ℕ) (fs : List Front) → covered w (map (seen_at types) fs) ≡ all_covered w (map (λ f. (seen_at types f).view) fs)
covered_is types w [] = refl
covered_is types w (f ∷ fs) = measure_more _ _ ∙ ap (λ n. measure_of (node_regions w ((seen_at types f).view).nodes) + n) (covered_is types w fs)

-- ---- all lanes from one on

record Collected (s : Setting) (lane : ℕ) (deeds : ℕ → List Deed) (gs : List ℕ) (Js : List Journal) : Type 0 where
  fronts : List Front
  are : AreFrontsIn s lane deeds gs Js fronts
  legal : AreFronts fronts
  views : map (λ f. (seen_at s.schema f).view) fronts ≡ views_to s.schema gs Js
  shown : AreShown (map (λ f. view_of s.schema f.journal) fronts) (views_to s.schema gs Js)

module _ (laws : SearchLaws) (s : Setting) (setting : IsSetting s) (deeds : ℕ → List Deed) where
  in_lane : (lane : ℕ) → lane < lane_count s → IsBucket (bucket_in s lane)
  in_lane lane small = record { some = setting.some; most = omega (arith, setting.most); fits = small }

  module _ (lane g : ℕ) (J : Journal) (small : lane < lane_count s) (x : LaneHas s lane (deeds lane) g J) where
    abbrev read : List LaneEvent
    read = (x.stands).before

    abbrev own : Front
    own = record { setting = setting_of (bucket_in s lane) s.rules; journal = read }

    own_legal : IsLegal (setting_of (bucket_in s lane) s.rules) read
    own_legal = legal_tail (setting_of (bucket_in s lane) s.rules) (x.stands).later read (subst (IsLegal (setting_of (bucket_in s lane) s.rules)) (x.stands).whole x.legal)

    own_room : FindRoom read
    own_room = let more = more_written (x.stands).later read in let all = x.room in omega (arith, more, ap (λ K. length (written_entries K)) (x.stands).whole, all)

    own_front : IsFront own
    own_front = record { lane = in_lane lane small; acks = (setting.rules).some_acks; legal = own_legal; room = own_room }

    own_view : view_after (opening s.schema) (changes_of read) ≡ view_to s.schema g J
    own_view = ap (view_after (opening s.schema)) (sym (ap (λ n. take n (changes_of J)) (x.stands).front ∙ ap (λ K. take (length (changes_of read)) (changes_of K)) (x.stands).whole ∙ first-changes (x.stands).later read))

    own_shown : Shows (view_of s.schema read) (view_to s.schema g J) × IsView (view_to s.schema g J)
    own_shown = subst (λ v. Shows (view_of s.schema read) v × IsView v) own_view (
      laws.shown (setting_of (bucket_in s lane) s.rules) (setting.rules).some_acks read own_legal s.schema (in_lane lane small) own_room,
      laws.view (setting_of (bucket_in s lane) s.rules) (setting.rules).some_acks read own_legal s.schema (in_lane lane small) own_room,
    )

  next : (lane k : ℕ) → lane + suc k ≡ suc lane + k
  next lane k = omega arith

  this : (lane : ℕ) → lane + 0 ≡ lane
  this lane = omega arith

  collect : (lane : ℕ) (gs : List ℕ) (vs : List LaneValue) → length gs ≡ length vs → lane + length vs ≤ lane_count s
      → ((k : ℕ) (v : LaneValue) (g : ℕ) → slice_get vs k ≡ Some v → slice_get gs k ≡ Some g → LaneHas s (lane + k) (deeds (lane + k)) g v.journal) → Collected s lane deeds gs (journals vs)
  collect lane [] [] count small each = record { fronts = []; are = tt; legal = tt; views = refl; shown = tt }
  collect lane [] (v ∷ vs) count small each = absurd (omega (arith, count))
  collect lane (g ∷ gs) [] count small each = absurd (omega (arith, count))
  collect lane (g ∷ gs) (v ∷ vs) count small each =
      let rest = collect (suc lane) gs vs (omega (arith, count)) (omega (arith, small)) (λ k a h was there. subst (λ n. LaneHas s n (deeds n) h a.journal) (next lane k) (each (suc k) a h was there)) in
      let x = subst (λ n. LaneHas s n (deeds n) g v.journal) (this lane) (each zero v g refl refl) in
      let low : lane < lane_count s = omega (arith, small) in
      record {
        fronts = own lane g v.journal low x ∷ rest.fronts;
        are = (record { setting = refl; stands = x.stands; journal = refl }, rest.are);
        legal = (own_front lane g v.journal low x, (λ key has. none_has s deeds lane (suc lane) key gs (journals vs) rest.fronts (omega arith) has rest.are), rest.legal);
        views = ap₂ (λ y ys. y ∷ ys) (own_view lane g v.journal low x) rest.views;
        shown = (own_shown lane g v.journal low x, rest.shown);
      }

  full_is : (n : ℕ) → (capped n == 2 ^ 58) ≡ true → n ≡ 2 ^ 58
  full_is n h = grind (arith, nat_tests, h)

  counts : (gs : List ℕ) (vs : List LaneValue) → Collected s 0 deeds gs (journals vs) → CountsOnce s deeds gs (journals vs)
  counts gs vs x = record {
    fronts = x.fronts;
    are = x.are;
    legal = x.legal;
    views = x.views;
    answers = λ q w. laws.answers q w (map (λ f. view_of s.schema f.journal) x.fronts) (views_to s.schema gs (journals vs)) x.shown;
    once = λ w id. laws.once s.schema w id x.fronts x.legal;
    current = λ q w id full. laws.current s.schema w id x.fronts x.legal (covered_is s.schema w x.fronts ∙ ap (all_covered w) x.views ∙ full_is (all_covered w (views_to s.schema gs (journals vs))) full);
  }

-- ---- of a session

pub legal_in : (s : Setting) (plans : ℕ → List Fate) (cs : List Asked) (deeds : ℕ → List Deed) (c : Cell) → HaveDone s plans cs deeds c → (lane : ℕ) (v : LaneValue) → slice_get c.lanes lane ≡ Some v → IsLegal (setting_of (bucket_in s lane) s.rules) v.journal
legal_in s plans cs deeds c done lane v at =
    let is = done.serving lane v at in
    subst (λ b. IsLegal (setting_of b s.rules) v.journal) is.lane_is (subst (λ r. IsLegal (setting_of v.lane r) v.journal) is.rules_are (is.holds).legal)

-- a session whose lines did these deeds, and no other line
module _ (laws : SearchLaws) (s : Setting) (setting : IsSetting s) (plans : ℕ → List Fate) (cs : List Asked) (deeds : ℕ → List Deed) (c : Cell) (done : HaveDone s plans cs deeds c) (lows : AreLow deeds (length cs)) (few : length cs ≤ most_lines) where
  -- the search of a line that read behind deeds
  pub counts_at : (b : ℕ → List Deed) (line : ℕ) (h : HasRead s b line c) → CountsOnce s b h.fronts (journals_of c)
  counts_at b line h = counts laws s setting b h.fronts c.lanes (collect laws s setting b 0 h.fronts c.lanes (h.count ∙ sym done.lanes) (omega (arith, done.lanes)) (λ lane v g here there.
      let legal = legal_in s plans cs deeds c done lane v here in
      subst (λ n. LaneHas s n (b n) g v.journal) (from_none lane) (record { stands = h.stand lane v g here there; legal = legal; room = few_written laws s setting plans cs deeds c done lows few lane v here legal })))
    where
      from_none : (n : ℕ) → n ≡ 0 + n
      from_none n = omega arith

  -- each search, where each line with fronts is one that read
  pub each_counts_once : (b : ℕ → ℕ → List Deed) → ((line : ℕ) (gs : List ℕ) → fronts_of line c.fronts ≡ Some gs → (at : ℕ) × ((line ≡ suc at) × HasRead s (b at) (suc at) c)) → EachCounts s b c
  each_counts_once b reads line gs has =
      let was = reads line gs has in
      let h = subst (λ n. HasRead s (b was.0) n c) (sym was.1.0) was.1.1 in
      let same : h.fronts ≡ gs = some_is (sym h.are ∙ has) in
      record {
        at = was.0;
        own = was.1.0;
        counts = subst (λ fs. CountsOnce s (b was.0) fs (journals_of c)) same (counts_at (b was.0) line h);
      }

-- of lines one after the other no number is greater
pub kept_low : (s : Setting) (cs : List Asked) (c : Cell) → AreLow (λ lane. deeds_of_lane s c.upkeeps lane cs) (length cs)
kept_low s cs c lane = lines_low s c.upkeeps lane cs

-- each search
pub kept_counts : SearchLaws → (s : Setting) → IsSetting s → (plans : ℕ → List Fate) (cs : List Asked) (c : Cell) → IsKept s plans cs c → length cs ≤ most_lines → AreRead s (deeds_before s cs c) cs c → EachCounts s (deeds_before s cs c) c
kept_counts laws s setting plans cs c kept few so =
    each_counts_once laws s setting plans cs (λ lane. deeds_of_lane s c.upkeeps lane cs) c kept (kept_low s cs c) few (deeds_before s cs c) (λ line gs has.
    let was = so.others line (subst IsSome (sym has) refl) in
    (was.0, (was.1.1.0, so.answered was.0 was.1.0 was.1.1.1)))

-- where there is no search
pub none_counts : (s : Setting) (b : ℕ → ℕ → List Deed) (c : Cell) → c.fronts ≡ [] → EachCounts s b c
none_counts s b c none line gs has = absurd (nothing (ap (fronts_of line) none) has)
  where
    nothing : {o : Option (List ℕ)} → o ≡ None → o ≡ Some gs → ⊥
    nothing a b = cc
