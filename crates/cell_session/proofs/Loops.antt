-- The lines of a session, one after the other.
use Rattle.std.proofs.Common.{◌≡◌, ◌==◌, ◌⊎◌, ℕ, zero, suc, ◌+◌, ◌<◌, ◌≤◌, Bool, true, false, cond, List, [], ◌∷◌, ◌++◌, Option, None, Some, Result, Ok, Err, inl, inr, refl, sym, ap, ap₂, ◌∙◌, subst, arith, length, append_assoc, length-append, drop, take, slice_get}
use Rattle.std.proofs.lemmas.Bool.Decides.{nat_tests}
use Rattle.std.proofs.lemmas.List.Sums.{sum_by-append}
use Rattle.std.proofs.lemmas.Option.{slice_get_within}
use Rattle.std.proofs.KnownBytes.{Appends-nil, Appends-trans}
use Rattle.std.specs.List.{count_by}
use Rattle.std.specs.Io.KnownBytes.{Appends, Keeps}
use Rattle.lane_calls.specs.LaneValues.{LaneValue}
use Rattle.io_ends.specs.Causes.{AppendsFront}
use Rattle.io_ends.specs.Lines.{lines_of, end_of, NoLineFeed}
use Rattle.io_ends.specs.Reading.{Reading, StandsIn, IsLittle}
use Rattle.io_ends.specs.declared.next.LimitKind.{LimitKind}
use Rattle.io_ends.specs.declared.next.LimitKind.TheVariants as limit
use Rattle.io_ends.proofs.FeedPlaces.{NoLineFeed-append}
use Rattle.io_ends.proofs.ReaderStarts.{start_at}
use Rattle.doc_types.specs.SchemaCodes.{Types}
use Rattle.cell_session.specs.Counting.{is_state, is_maintain, state_lines, maintain_lines, one_more, states_with, maintains_with, counts_with, AreFew}
use Rattle.cell_session.specs.declared.counts.Counts.{Counts}
use Rattle.session_cluster.specs.declared.asked.Asked.{Asked}
use Rattle.session_cluster.specs.declared.asked.Asked.TheVariants as command
use Rattle.cell_session.specs.Answering.{StopsAs}
use Rattle.session_cluster.specs.Cells.{Cell}
use Rattle.session_cluster.specs.Deeds.{deeds_of_lane}
use Rattle.session_cluster.specs.Keeping.{IsKept, IsReady}
use Rattle.cell_session.specs.Dealing.{EndsAs}
use Rattle.cell_session.specs.Ends.{IfTold, AreFirst, IsReadTo, IsReadNear, PassesKind, PassesLimit, StopsAt, Writes, IsReached, EndsAtLimit}
use Rattle.session_cluster.specs.Output.{output_of, report_in}
use Rattle.cell_session.specs.Reads.{Finishes, Shows, HoldsBack, IsReadEnd}
use Rattle.carriers.specs.declared.fate.Fate.{Fate}
use Rattle.lane_lives.specs.Settings.{IsSetting}
use Rattle.lane_lives.specs.declared.setting.Setting.{Setting}
use Rattle.cell_session.specs.Operations.{IsCommandAt, deeds_before}
use Rattle.cell_session.specs.Orders.{GoInOrder}
use Rattle.cell_session.specs.Searches.{AreRead}
use Rattle.cell_session.specs.SoFar.{first_reading, IsBehind, IsSoFar}
use Rattle.cell_session.specs.Upkeep.{AreUpkept}
use Rattle.session_cluster.specs.Steps.{IsRoomier, without_room, IsAfter, IsDealt, IsAllOrNothing}
use Rattle.cell_session.specs.declared.answering.Stop.{Stop}
use Rattle.cell_session.specs.declared.answering.Stop.TheVariants as stop
use Rattle.cell_session.specs.Limits.{most_lines, most_bytes, most_states, most_maintains}
use Rattle.cell_session.specs.declared.next_command.Step.TheVariants as step
use Rattle.cell_session.specs.declared.status.Status.{Status}
use Rattle.cell_session.specs.declared.status.Status.TheVariants as status
use Rattle.cell_session.proofs.OutputLaws.{output_kept, output_more, roomier_output}
use Rattle.session_cluster.proofs.AlikeDeeds.{ready_of_kept}
use Rattle.session_cluster.proofs.Elements.{element_seen}
use Rattle.session_cluster.proofs.SessionSteps.{kept_more, kept_roomier}
use Rattle.cell_session.proofs.OrderLaws.{gone_more, none_gone, gone_on}
use Rattle.cell_session.proofs.ReadLaws.{JournalsGrew, read_more, none_read, reads_on}
use Rattle.cell_session.proofs.UpkeepLaws.{AllGrew, AreAsBefore, upkept_more, noted_last, cut_last, none_upkept, upkept_at, upkept_on, grew_roomier}

-- ---- how many lines are read as states, and how many as upkeep

-- what is counted of a line
abbrev pub one_if : Bool → ℕ
one_if t = cond t 1 0

pub kind_push : (of_kind : Asked → Bool) (cs : List Asked) (c : Asked) → count_by of_kind (cs ++ c ∷ []) ≡ count_by of_kind cs + (0 + one_if (of_kind c))
kind_push of_kind cs c = sum_by-append (λ x. cond (of_kind x) 1 0) cs (c ∷ [])

more_is : (most count next : ℕ) (t : Bool) → count ≤ most → (count == most) ≡ t → cond t None (Some (count + 1)) ≡ Some next → (next ≡ count + 1) × (next ≤ most)
more_is most count next true few is h = cc h
more_is most count next false few is h = let same : count + 1 ≡ next = cc h in (sym same, grind (arith, nat_tests, few, is, same))

full_is : (most count : ℕ) (t : Bool) → (count == most) ≡ t → cond t None (Some (count + 1)) ≡ None → count ≡ most
full_is most count true is h = grind (arith, nat_tests, is)
full_is most count false is h = cc h

-- the counts are those of so many lines
pub record AreCounts (counts : Counts) (states maintains : ℕ) : Type 0 where
  pub states_are : counts.states ≡ states
  pub few_states : counts.states ≤ most_states
  pub maintains_are : counts.maintains ≡ maintains
  pub few_maintains : counts.maintains ≤ most_maintains

-- with a line that is neither
same_counts : (counts counted : Counts) (states maintains : ℕ) → AreCounts counts states maintains → ◌≡◌ {A = Result Counts LimitKind} (Ok counts) (Ok counted) → AreCounts counted (states + (0 + 0)) (maintains + (0 + 0))
same_counts counts counted states maintains are h =
    let same : counts ≡ counted = is_same h in
    subst (λ (x : Counts). AreCounts x (states + (0 + 0)) (maintains + (0 + 0))) same (record {
      states_are = omega (arith, are.states_are);
      few_states = are.few_states;
      maintains_are = omega (arith, are.maintains_are);
      few_maintains = are.few_maintains;
    })
  where
    is_same : ◌≡◌ {A = Result Counts LimitKind} (Ok counts) (Ok counted) → counts ≡ counted
    is_same h = cc h

state_counts : (counts counted : Counts) (states maintains : ℕ) (o : Option ℕ) → AreCounts counts states maintains → one_more most_states counts.states ≡ o → states_with counts o ≡ Ok counted → AreCounts counted (states + (0 + 1)) (maintains + (0 + 0))
state_counts counts counted states maintains None are is h = cc h
state_counts counts counted states maintains (Some next) are is h =
    let grown = more_is most_states counts.states next (counts.states == most_states) are.few_states refl is in
    subst (λ (x : Counts). AreCounts x (states + (0 + 1)) (maintains + (0 + 0))) (is_same h) (record {
      states_are = omega (arith, grown.0, are.states_are);
      few_states = grown.1;
      maintains_are = omega (arith, are.maintains_are);
      few_maintains = are.few_maintains;
    })
  where
    is_same : ◌≡◌ {A = Result Counts LimitKind} (Ok (record { states = next; maintains = counts.maintains })) (Ok counted) → ◌≡◌ {A = Counts} (record { states = next; maintains = counts.maintains }) counted
    is_same h = cc h

maintain_counts : (counts counted : Counts) (states maintains : ℕ) (o : Option ℕ) → AreCounts counts states maintains → one_more most_maintains counts.maintains ≡ o → maintains_with counts o ≡ Ok counted → AreCounts counted (states + (0 + 0)) (maintains + (0 + 1))
maintain_counts counts counted states maintains None are is h = cc h
maintain_counts counts counted states maintains (Some next) are is h =
    let grown = more_is most_maintains counts.maintains next (counts.maintains == most_maintains) are.few_maintains refl is in
    subst (λ (x : Counts). AreCounts x (states + (0 + 0)) (maintains + (0 + 1))) (is_same h) (record {
      states_are = omega (arith, are.states_are);
      few_states = are.few_states;
      maintains_are = omega (arith, grown.0, are.maintains_are);
      few_maintains = grown.1;
    })
  where
    is_same : ◌≡◌ {A = Result Counts LimitKind} (Ok (record { states = counts.states; maintains = next })) (Ok counted) → ◌≡◌ {A = Counts} (record { states = counts.states; maintains = next }) counted
    is_same h = cc h

counts_by : (counts counted : Counts) (states maintains : ℕ) (c : Asked) → AreCounts counts states maintains → counts_with counts c ≡ Ok counted → AreCounts counted (states + (0 + one_if (is_state c))) (maintains + (0 + one_if (is_maintain c)))
counts_by counts counted states maintains command.Blank are h = same_counts counts counted states maintains are h
counts_by counts counted states maintains command.TooLong are h = same_counts counts counted states maintains are h
counts_by counts counted states maintains command.Barrier are h = same_counts counts counted states maintains are h
counts_by counts counted states maintains (command.Bad why) are h = same_counts counts counted states maintains are h
counts_by counts counted states maintains (command.Feed op via) are h = same_counts counts counted states maintains are h
counts_by counts counted states maintains (command.State state deaf) are h = state_counts counts counted states maintains (one_more most_states counts.states) are refl h
counts_by counts counted states maintains (command.BadState offset) are h = state_counts counts counted states maintains (one_more most_states counts.states) are refl h
counts_by counts counted states maintains (command.Stop node) are h = same_counts counts counted states maintains are h
counts_by counts counted states maintains (command.Start node) are h = same_counts counts counted states maintains are h
counts_by counts counted states maintains (command.Net lane fates) are h = same_counts counts counted states maintains are h
counts_by counts counted states maintains command.Maintain are h = maintain_counts counts counted states maintains (one_more most_maintains counts.maintains) are refl h
counts_by counts counted states maintains (command.Search query) are h = same_counts counts counted states maintains are h
counts_by counts counted states maintains (command.BadQuery offset) are h = same_counts counts counted states maintains are h

-- with one line more
pub counts_more : (counts counted : Counts) (cs : List Asked) (c : Asked) → AreCounts counts (state_lines cs) (maintain_lines cs) → counts_with counts c ≡ Ok counted → AreCounts counted (state_lines (cs ++ c ∷ [])) (maintain_lines (cs ++ c ∷ []))
counts_more counts counted cs c are with =
    subst (λ n. AreCounts counted n (maintain_lines (cs ++ c ∷ []))) (sym (kind_push is_state cs c))
    (subst (λ n. AreCounts counted (state_lines cs + (0 + one_if (is_state c))) n) (sym (kind_push is_maintain cs c)) (counts_by counts counted (state_lines cs) (maintain_lines cs) c are with))

-- where a session may not have one more of its kind
abbrev pub IsFull : LimitKind → Counts → Asked → Type 0
IsFull limit.Lines counts c = ⊥
IsFull limit.Bytes counts c = ⊥
IsFull limit.States counts c = (is_state c ≡ true) × (counts.states ≡ most_states)
IsFull limit.Maintains counts c = (is_maintain c ≡ true) × (counts.maintains ≡ most_maintains)

state_full : (counts : Counts) (c : Asked) (which : LimitKind) (o : Option ℕ) → is_state c ≡ true → one_more most_states counts.states ≡ o → states_with counts o ≡ Err which → IsFull which counts c
state_full counts c which (Some next) kind is h = cc h
state_full counts c which None kind is h = subst (λ w. IsFull w counts c) (same h) (kind, full_is most_states counts.states (counts.states == most_states) refl is)
  where
    same : ◌≡◌ {A = Result Counts LimitKind} (Err limit.States) (Err which) → limit.States ≡ which
    same h = cc h

maintain_full : (counts : Counts) (c : Asked) (which : LimitKind) (o : Option ℕ) → is_maintain c ≡ true → one_more most_maintains counts.maintains ≡ o → maintains_with counts o ≡ Err which → IsFull which counts c
maintain_full counts c which (Some next) kind is h = cc h
maintain_full counts c which None kind is h = subst (λ w. IsFull w counts c) (same h) (kind, full_is most_maintains counts.maintains (counts.maintains == most_maintains) refl is)
  where
    same : ◌≡◌ {A = Result Counts LimitKind} (Err limit.Maintains) (Err which) → limit.Maintains ≡ which
    same h = cc h

pub counts_full : (counts : Counts) (c : Asked) (which : LimitKind) → counts_with counts c ≡ Err which → IsFull which counts c
counts_full counts command.Blank which h = cc h
counts_full counts command.TooLong which h = cc h
counts_full counts command.Barrier which h = cc h
counts_full counts (command.Bad why) which h = cc h
counts_full counts (command.Feed op via) which h = cc h
counts_full counts (command.State state deaf) which h = state_full counts (command.State state deaf) which (one_more most_states counts.states) refl refl h
counts_full counts (command.BadState offset) which h = state_full counts (command.BadState offset) which (one_more most_states counts.states) refl refl h
counts_full counts (command.Stop node) which h = cc h
counts_full counts (command.Start node) which h = cc h
counts_full counts (command.Net lane fates) which h = cc h
counts_full counts command.Maintain which h = maintain_full counts command.Maintain which (one_more most_maintains counts.maintains) refl refl h
counts_full counts (command.Search query) which h = cc h
counts_full counts (command.BadQuery offset) which h = cc h

-- ---- the commands of the first lines of a text

-- what stands in a list with one item more
pushed : (cs : List Asked) (c : Asked) (k : ℕ) (x : Asked) → slice_get (cs ++ c ∷ []) k ≡ Some x → (slice_get cs k ≡ Some x) ⊎ ((k ≡ length cs) × (x ≡ c))
pushed [] c zero x h = let same : c ≡ x = cc h in inr (refl, sym same)
pushed [] c (suc k) x h = absurd (no_item k x h)
  where
    no_item : (k : ℕ) (x : Asked) → slice_get [] k ≡ Some x → ⊥
    no_item zero x h = cc h
    no_item (suc k) x h = cc h
pushed (y ∷ cs) c zero x h = inl h
pushed (y ∷ cs) c (suc k) x h = elim (pushed cs c k x h) [
  | inl there ↦ inl there
  | inr last ↦ inr (ap suc last.0, last.1)
]

-- one line more
first_more : (types : Types) (bits : ℕ) (text : List ℕ) (cs : List Asked) (c : Asked) → AreFirst types bits text cs → IsCommandAt types bits (Some text) (length cs) c → length cs < most_lines
    → end_of (length cs + 1) text ≤ most_bytes → state_lines (cs ++ c ∷ []) ≤ most_states → maintain_lines (cs ++ c ∷ []) ≤ most_maintains → AreFirst types bits text (cs ++ c ∷ [])
first_more types bits text cs c first last few within few_states few_maintains =
    let longer : length (cs ++ c ∷ []) ≡ length cs + 1 = length-append cs (c ∷ []) in
    record {
      asked = λ at x there. elim (pushed cs c at x there) [
        | inl before ↦ first.asked at x before
        | inr here ↦ subst (λ k. IsCommandAt types bits (Some text) k x) (sym here.0) (subst (IsCommandAt types bits (Some text) (length cs)) (sym here.1) last)
      ];
      some = omega (arith, longer, slice_get_within (lines_of text) (length cs) last.0 last.1.0);
      few = omega (arith, longer, few);
      within = subst (λ k. end_of k text ≤ most_bytes) (sym longer) within;
      few_states = few_states;
      few_maintains = few_maintains;
    }

pub told_more : (types : Types) (bits : ℕ) (text : Option (List ℕ)) (reader reader' : Reading) (left left' : Option (List ℕ)) (cs : List Asked) (number : ℕ) (c : Asked)
    → IfTold text (IsBehind types bits reader left cs) → length cs ≡ reader.lines → reader.max_lines ≡ most_lines → reader.max_bytes ≡ most_bytes
    → ((t : List ℕ) → StandsIn t reader left → Shows types bits t reader (step.Command number c))
    → ((t : List ℕ) → StandsIn t reader left → StandsIn t reader' left')
    → state_lines (cs ++ c ∷ []) ≤ most_states → maintain_lines (cs ++ c ∷ []) ≤ most_maintains
    → IfTold text (IsBehind types bits reader' left' (cs ++ c ∷ []))
told_more types bits None reader reader' left left' cs number c told count lines bytes shows stands few_states few_maintains = tt
told_more types bits (Some text) reader reader' left left' cs number c told count lines bytes shows stands few_states few_maintains =
    let shown = shows text told.1 in
    let within = shown.1 in
    let first = first_more types bits text cs c told.0 (subst (λ k. IsCommandAt types bits (Some text) k c) (sym count) shown.0)
    (omega (arith, within.lines, count, lines)) (subst (λ k. end_of (k + 1) text ≤ most_bytes) (sym count) (omega (arith, within.bytes, bytes))) few_states few_maintains in
    (first, stands text told.1)

pub first_of : (types : Types) (bits : ℕ) (text : Option (List ℕ)) (cs : List Asked) (reader : Reading) (left : Option (List ℕ)) → IfTold text (IsBehind types bits reader left cs) → IfTold text (λ t. AreFirst types bits t cs)
first_of types bits None cs reader left told = tt
first_of types bits (Some text) cs reader left told = told.0

-- no line is no more than a session may have
pub few_none : AreFew []
few_none = record { few = omega arith; few_states = omega arith; few_maintains = omega arith }

-- ---- between two lines

pub first_none : (types : Types) (bits : ℕ) (text : List ℕ) → AreFirst types bits text []
unfolding end_of
first_none types bits text = record { asked = λ at c there. absurd (no_item at c there); some = omega arith; few = omega arith; within = omega arith; few_states = omega arith; few_maintains = omega arith }
  where
    no_item : (k : ℕ) (x : Asked) → slice_get [] k ≡ Some x → ⊥
    no_item zero x h = cc h
    no_item (suc k) x h = cc h

pub told_none : (types : Types) (bits : ℕ) (text : Option (List ℕ)) → IfTold text (IsBehind types bits first_reading text [])
told_none types bits None = tt
told_none types bits (Some t) = (first_none types bits t, start_at t most_lines most_bytes)

abbrev pub no_counts : Counts
no_counts = record { states = 0; maintains = 0 }

pub so_far_new : (s : Setting) (types : Types) (plans : ℕ → List Fate) (text before : Option (List ℕ)) (reader : Reading) (c : Cell) → IsSetting s → reader ≡ first_reading → IsKept s plans [] c → c.upkeeps ≡ [] → c.fronts ≡ [] → IsSoFar s types plans text reader text no_counts c before before
so_far_new s types plans text before reader c setting is kept none unread = subst (λ r. IsSoFar s types plans text r text no_counts c before before) (sym is) (record {
  setting = setting;
  commands = [];
  count = refl;
  few = omega arith;
  states_are = refl;
  few_states = omega arith;
  maintains_are = refl;
  few_maintains = omega arith;
  kept = kept;
  output = Appends-nil before;
  upkept = none_upkept status.Done s (deeds_before s [] c) c none;
  gone = none_gone s c none;
  read = none_read s (deeds_before s [] c) c unread;
  told = told_none types s.bits text;
})

pub so_far_ready : (s : Setting) (types : Types) (plans : ℕ → List Fate) (text left : Option (List ℕ)) (reader : Reading) (counts : Counts) (c : Cell) (before now : Option (List ℕ)) (number : ℕ)
    → IsSoFar s types plans text reader left counts c before now → number ≡ reader.lines + 1 → IsReady s number c
so_far_ready s types plans text left reader counts c before now number so is = ready_of_kept s plans so.commands number c so.setting so.kept (omega (arith, is, so.count))

pub few_of : (cs : List Asked) (counts : Counts) → AreCounts counts (state_lines cs) (maintain_lines cs) → length cs ≤ most_lines → AreFew cs
few_of cs counts are few = record { few = few; few_states = subst (λ n. n ≤ most_states) are.states_are are.few_states; few_maintains = subst (λ n. n ≤ most_maintains) are.maintains_are are.few_maintains }

so_few : (s : Setting) (types : Types) (plans : ℕ → List Fate) (text : Option (List ℕ)) (reader : Reading) (left : Option (List ℕ)) (counts : Counts) (c : Cell) (before now : Option (List ℕ)) → (so : IsSoFar s types plans text reader left counts c before now) → AreFew so.commands
so_few s types plans text reader left counts c before now so =
    few_of so.commands counts (record { states_are = so.states_are; few_states = so.few_states; maintains_are = so.maintains_are; few_maintains = so.few_maintains }) so.few

-- what one line more keeps, whatever was written
record IsMore (s : Setting) (types : Types) (plans : ℕ → List Fate) (text left' : Option (List ℕ)) (reader reader' : Reading) (counted : Counts) (cs : List Asked) (old new : Cell) (number : ℕ) (c : Asked) : Type 0 where
  count : length (cs ++ c ∷ []) ≡ number
  counts_are : AreCounts counted (state_lines (cs ++ c ∷ [])) (maintain_lines (cs ++ c ∷ []))
  few : AreFew (cs ++ c ∷ [])
  kept : IsKept s plans (cs ++ c ∷ []) new
  told : IfTold text (IsBehind types s.bits reader' left' (cs ++ c ∷ []))
  earlier : output_of s cs new ≡ output_of s cs old
  output : output_of s (cs ++ c ∷ []) new ≡ output_of s cs old ++ report_in s old.told number c new
  gone : GoInOrder s new
  read : AreRead s (deeds_before s (cs ++ c ∷ []) new) (cs ++ c ∷ []) new

line_more : (s : Setting) (types : Types) (plans : ℕ → List Fate) (text left left' : Option (List ℕ)) (reader reader' : Reading) (counts counted : Counts) (old new : Cell) (before now : Option (List ℕ)) (number : ℕ) (c : Asked)
    → (so : IsSoFar s types plans text reader left counts old before now) → reader.max_lines ≡ most_lines → reader.max_bytes ≡ most_bytes
    → ((t : List ℕ) → StandsIn t reader left → Shows types s.bits t reader (step.Command number c))
    → ((t : List ℕ) → StandsIn t reader left → StandsIn t reader' left')
    → counts_with counts c ≡ Ok counted → number ≡ reader.lines + 1 → number ≤ most_lines → IsAfter s number c old new
    → IsMore s types plans text left' reader reader' counted so.commands old new number c
line_more s types plans text left left' reader reader' counts counted old new before now number c so lines bytes shows stands with is small after =
    let cs = so.commands in
    let grown = counts_more counts counted cs c (record { states_are = so.states_are; few_states = so.few_states; maintains_are = so.maintains_are; few_maintains = so.few_maintains }) with in
    let k : number ≡ length cs + 1 = omega (arith, is, so.count) in
    record {
      count = omega (arith, length-append cs (c ∷ []), k);
      counts_are = grown;
      few = few_of (cs ++ c ∷ []) counted grown (omega (arith, length-append cs (c ∷ []), k, small));
      kept = kept_more s plans cs c old new number so.kept k after;
      told = told_more types s.bits text reader reader' left left' cs number c so.told so.count lines bytes shows stands (subst (λ n. n ≤ most_states) grown.states_are grown.few_states) (subst (λ n. n ≤ most_maintains) grown.maintains_are grown.few_maintains);
      earlier = output_kept s plans cs c old new number so.kept k after so.read;
      output = output_more s plans cs c old new number so.kept k after so.read;
      gone = gone_more s plans cs c old new number so.kept k after so.gone;
      read = read_more s plans cs c old new number so.kept k after so.read;
    }

-- the same where room was made
module _ (s : Setting) (old new : Cell) (room : IsRoomier old new) where
  roomier_given : (lane : ℕ) (w : LaneValue) → slice_get new.lanes lane ≡ Some w → (v : LaneValue) × ((slice_get old.lanes lane ≡ Some v) × (w.journal ≡ v.journal) × (w.given ≡ v.given))
  roomier_given lane w at =
      let found = element_seen without_room old.lanes new.lanes lane w room.lanes at in
      (found.0, (found.1.0, ap (λ (x : LaneValue). x.journal) found.1.1, ap (λ (x : LaneValue). x.given) found.1.1))

  pub room_grew : AllGrew old new
  room_grew = grew_roomier old new roomier_given

  pub room_journals : JournalsGrew old new
  room_journals lane w at = let g = room_grew lane w at in (g.0, (g.1.0, (g.1.1).journal))

  pub room_spans : new.upkeeps ≡ old.upkeeps
  room_spans = ap (λ (x : Cell). x.upkeeps) room.rest

  pub room_fronts : new.fronts ≡ old.fronts
  room_fronts = ap (λ (x : Cell). x.fronts) room.rest

  room_before : (cs : List Asked) → AreAsBefore (length cs) (deeds_before s cs old) (deeds_before s cs new)
  room_before cs at lane low = ap (λ us. deeds_of_lane s us lane (take at cs)) room_spans

  read_then : (cs : List Asked) → AreRead s (deeds_before s cs old) cs old → AreRead s (deeds_before s cs new) cs new
  read_then cs so = reads_on s old new cs room_fronts room_journals (deeds_before s cs old) (deeds_before s cs new) (room_before cs) so

  gone_then : GoInOrder s old → GoInOrder s new
  gone_then so = gone_on s old new room_spans room_grew so

  upkept_then : (end : Status) (cs : List Asked) → AreUpkept status.Done s (deeds_before s cs old) cs old → AreUpkept end s (deeds_before s cs new) cs new
  upkept_then end cs so = upkept_on end s old new cs cs room_spans room_grew (deeds_before s cs old) (deeds_before s cs new) (room_before cs) (λ at asks. asks) (λ at asks. asks) so

pub so_far_more : (s : Setting) (types : Types) (plans : ℕ → List Fate) (text left left' : Option (List ℕ)) (reader reader' : Reading) (counts counted : Counts) (old new : Cell) (before now now' : Option (List ℕ)) (number : ℕ) (c : Asked)
    → IsSoFar s types plans text reader left counts old before now → reader.max_lines ≡ most_lines → reader.max_bytes ≡ most_bytes
    → ((t : List ℕ) → StandsIn t reader left → Shows types s.bits t reader (step.Command number c))
    → ((t : List ℕ) → StandsIn t reader left → StandsIn t reader' left')
    → counts_with counts c ≡ Ok counted → number ≡ reader.lines + 1 → number ≤ most_lines → reader'.lines ≡ reader.lines + 1
    → IsDealt s number c old new → Appends now now' (report_in s old.told number c new)
    → IsSoFar s types plans text reader' left' counted new before now'
so_far_more s types plans text left left' reader reader' counts counted old new before now now' number c so lines bytes shows stands with is small grows dealt wrote =
    let cs = so.commands in
    let more = line_more s types plans text left left' reader reader' counts counted old new before now number c so lines bytes shows stands with is small dealt.0 in
    record {
      setting = so.setting;
      commands = cs ++ c ∷ [];
      count = omega (arith, more.count, is, grows);
      few = (more.few).few;
      states_are = (more.counts_are).states_are;
      few_states = (more.counts_are).few_states;
      maintains_are = (more.counts_are).maintains_are;
      few_maintains = (more.counts_are).few_maintains;
      kept = more.kept;
      output = subst (Appends before now') (sym more.output) (Appends-trans before now now' (output_of s cs old) (report_in s old.told number c new) so.output wrote);
      told = more.told;
      upkept = upkept_more s plans cs c old new number so.kept (omega (arith, is, so.count)) dealt.0 status.Done so.upkept (noted_last s c old new number status.Done dealt.1);
      gone = more.gone;
      read = more.read;
    }

-- ---- why no further line is dealt with

read_to : (text : List ℕ) (reader : Reading) (left : Option (List ℕ)) (count : ℕ) → StandsIn text reader left → NoLineFeed reader.ahead → count ≡ reader.lines → IfTold left (IsReadTo text count)
read_to text reader None count at clear is = absurd at
read_to text reader (Some left) count at clear is = (
  at.split.front ++ reader.ahead,
  (
    NoLineFeed-append at.split.front reader.ahead at.split.no_feed clear,
    ap (λ k. drop (end_of k text) text) is ∙ ap (λ k. drop k text) (sym at.given) ∙ at.after ∙ at.split.whole ∙ sym (append_assoc at.split.front reader.ahead left),
  ),
)

passes : (which : LimitKind) (types : Types) (bits : ℕ) (text : List ℕ) (reader : Reading) (cs : List Asked) → length cs ≡ reader.lines → reader.max_lines ≡ most_lines → reader.max_bytes ≡ most_bytes
    → Finishes text reader (status.Limit which) → PassesLimit which types bits text cs
passes limit.Lines types bits text reader cs is lines bytes past = (omega (arith, is, past.0), omega (arith, is, past.1, lines))
passes limit.Bytes types bits text reader cs is lines bytes past =
    (omega (arith, is, past.0), (omega (arith, is, past.1.0, lines), subst (λ k. most_bytes < end_of (k + 1) text) (sym is) (omega (arith, past.1.1, bytes))))
passes limit.States types bits text reader cs is lines bytes past = absurd past
passes limit.Maintains types bits text reader cs is lines bytes past = absurd past

pub stops_of : (end : Status) (types : Types) (bits : ℕ) (text left left' : Option (List ℕ)) (reader reader' : Reading) (cs : List Asked)
    → IfTold text (IsBehind types bits reader left cs) → length cs ≡ reader.lines → reader.max_lines ≡ most_lines → reader.max_bytes ≡ most_bytes
    → ((t : List ℕ) → StandsIn t reader left → Finishes t reader end)
    → ((t : List ℕ) → StandsIn t reader left → StandsIn t reader' left')
    → HoldsBack reader reader' end → (last : Option ℕ) (a b : ℕ) → IsReadEnd end last a b
    → IfTold text (λ t. StopsAt end types bits t left' cs)
stops_of end types bits None left left' reader reader' cs told count lines bytes finishes stands holds last a b may = tt
stops_of status.Done types bits (Some text) left left' reader reader' cs told count lines bytes finishes stands holds last a b may = omega (arith, count, finishes text told.1)
stops_of status.ReadFault types bits (Some text) left left' reader reader' cs told count lines bytes finishes stands holds last a b may = read_to text reader' left' (length cs) (stands text told.1) holds.1 (count ∙ sym holds.0)
stops_of status.Usage types bits (Some text) left left' reader reader' cs told count lines bytes finishes stands holds last a b may = absurd may
stops_of status.WriteFault types bits (Some text) left left' reader reader' cs told count lines bytes finishes stands holds last a b may = absurd may
stops_of status.NoMemory types bits (Some text) left left' reader reader' cs told count lines bytes finishes stands holds last a b may = tt
stops_of (status.Limit which) types bits (Some text) left left' reader reader' cs told count lines bytes finishes stands holds last a b may = passes which types bits text reader cs count lines bytes (finishes text told.1)

-- ---- the ends

-- the reader's limit is reached
pub reached_of : (end : Status) (reader reader' : Reading) (cs : List Asked) → length cs ≡ reader.lines → reader.max_lines ≡ most_lines → HoldsBack reader reader' end → EndsAtLimit end cs
reached_of status.Done reader reader' cs count lines holds = tt
reached_of status.ReadFault reader reader' cs count lines holds = tt
reached_of status.Usage reader reader' cs count lines holds = tt
reached_of status.WriteFault reader reader' cs count lines holds = tt
reached_of status.NoMemory reader reader' cs count lines holds = tt
reached_of (status.Limit limit.Lines) reader reader' cs count lines holds = count ∙ holds ∙ lines
reached_of (status.Limit limit.Bytes) reader reader' cs count lines holds = tt
reached_of (status.Limit limit.States) reader reader' cs count lines holds = absurd holds
reached_of (status.Limit limit.Maintains) reader reader' cs count lines holds = absurd holds

over_with : (end : Status) (s : Setting) (types : Types) (plans : ℕ → List Fate) (text left left' : Option (List ℕ)) (reader reader' : Reading) (counts : Counts) (c : Cell) (before now : Option (List ℕ))
    → (so : IsSoFar s types plans text reader left counts c before now) → reader.max_lines ≡ most_lines → reader.max_bytes ≡ most_bytes
    → ((t : List ℕ) → StandsIn t reader left → Finishes t reader end)
    → ((t : List ℕ) → StandsIn t reader left → StandsIn t reader' left')
    → HoldsBack reader reader' end → (last : Option ℕ) (a b : ℕ) → IsReadEnd end last a b
    → Writes end s so.commands c before now → EndsAs end s types plans text left' c before now
over_with end s types plans text left left' reader reader' states c before now so lines bytes finishes stands holds last a b may wrote = inr (record {
  commands = so.commands;
  kept = so.kept;
  first = first_of types s.bits text so.commands reader left so.told;
  stops = stops_of end types s.bits text left left' reader reader' so.commands so.told so.count lines bytes finishes stands holds last a b may;
  output = wrote;
  upkept = upkept_at end s (deeds_before s so.commands c) so.commands c so.upkept;
  gone = so.gone;
  read = so.read;
  few = so_few s types plans text reader left states c before now so;
  reached = reached_of end reader reader' so.commands so.count lines holds;
})

written_by : (end : Status) (s : Setting) (cs : List Asked) (c : Cell) (before now : Option (List ℕ)) (last : Option ℕ) (a b : ℕ) → IsReadEnd end last a b → Appends before now (output_of s cs c)
    → Writes end s cs c before now
written_by status.Done s cs c before now last a b may wrote = wrote
written_by status.ReadFault s cs c before now last a b may wrote = wrote
written_by status.Usage s cs c before now last a b may wrote = absurd may
written_by status.WriteFault s cs c before now last a b may wrote = absurd may
written_by status.NoMemory s cs c before now last a b may wrote = inl wrote
written_by (status.Limit which) s cs c before now last a b may wrote = wrote

-- where no line is left to deal with
pub over_ends : (end : Status) (s : Setting) (types : Types) (plans : ℕ → List Fate) (text left left' : Option (List ℕ)) (reader reader' : Reading) (counts : Counts) (c : Cell) (before now : Option (List ℕ))
    → IsSoFar s types plans text reader left counts c before now → reader.max_lines ≡ most_lines → reader.max_bytes ≡ most_bytes
    → ((t : List ℕ) → StandsIn t reader left → Finishes t reader end)
    → ((t : List ℕ) → StandsIn t reader left → StandsIn t reader' left')
    → HoldsBack reader reader' end → (last : Option ℕ) (a b : ℕ) → IsReadEnd end last a b
    → EndsAs end s types plans text left' c before now
over_ends end s types plans text left left' reader reader' states c before now so lines bytes finishes stands holds last a b may =
    over_with end s types plans text left left' reader reader' states c before now so lines bytes finishes stands holds last a b may (written_by end s so.commands c before now last a b may so.output)

-- where one more line is of a kind than a session may have
passes_kind : (of_kind : Asked → Bool) (most : ℕ) (types : Types) (bits : ℕ) (text : Option (List ℕ)) (reader : Reading) (left : Option (List ℕ)) (cs : List Asked) (number : ℕ) (c : Asked)
    → IfTold text (IsBehind types bits reader left cs) → length cs ≡ reader.lines → reader.max_lines ≡ most_lines → reader.max_bytes ≡ most_bytes
    → ((t : List ℕ) → StandsIn t reader left → Shows types bits t reader (step.Command number c))
    → of_kind c ≡ true → count_by of_kind cs ≡ most → IfTold text (λ t. PassesKind of_kind most types bits t cs)
passes_kind of_kind most types bits None reader left cs number c told count lines bytes shows kind before = tt
passes_kind of_kind most types bits (Some text) reader left cs number c told count lines bytes shows kind before =
    let shown = shows text told.1 in
    record {
      bytes = shown.0.0;
      line = subst (λ k. slice_get (lines_of text) k ≡ Some shown.0.0) (sym count) shown.0.1.0;
      few = omega (arith, shown.1.lines, count, lines);
      within = subst (λ k. end_of (k + 1) text ≤ most_bytes) (sym count) (omega (arith, shown.1.bytes, bytes));
      command = c;
      asked = shown.0.1.1;
      kind = kind;
      before = before;
    }

pub full_passes : (which : LimitKind) (types : Types) (bits : ℕ) (text left : Option (List ℕ)) (reader : Reading) (counts : Counts) (cs : List Asked) (number : ℕ) (command : Asked)
    → IfTold text (IsBehind types bits reader left cs) → length cs ≡ reader.lines → counts.states ≡ state_lines cs → counts.maintains ≡ maintain_lines cs → reader.max_lines ≡ most_lines → reader.max_bytes ≡ most_bytes
    → ((t : List ℕ) → StandsIn t reader left → Shows types bits t reader (step.Command number command))
    → IsFull which counts command → IfTold text (λ t. PassesLimit which types bits t cs)
full_passes limit.Lines types bits text left reader counts cs number command told count states maintains lines bytes shows full = absurd full
full_passes limit.Bytes types bits text left reader counts cs number command told count states maintains lines bytes shows full = absurd full
full_passes limit.States types bits text left reader counts cs number command told count states maintains lines bytes shows full =
    passes_kind is_state most_states types bits text reader left cs number command told count lines bytes shows full.0 (sym states ∙ full.1)
full_passes limit.Maintains types bits text left reader counts cs number command told count states maintains lines bytes shows full =
    passes_kind is_maintain most_maintains types bits text reader left cs number command told count lines bytes shows full.0 (sym maintains ∙ full.1)

pub full_reached : (which : LimitKind) (counts : Counts) (cs : List Asked) (c : Asked) → counts.states ≡ state_lines cs → counts.maintains ≡ maintain_lines cs → IsFull which counts c → IsReached which cs
full_reached limit.Lines counts cs c states maintains full = absurd full
full_reached limit.Bytes counts cs c states maintains full = absurd full
full_reached limit.States counts cs c states maintains full = sym states ∙ full.1
full_reached limit.Maintains counts cs c states maintains full = sym maintains ∙ full.1

pub full_end : (s : Setting) (types : Types) (plans : ℕ → List Fate) (text left left' : Option (List ℕ)) (reader : Reading) (counts : Counts) (c : Cell) (before now : Option (List ℕ)) (number : ℕ) (command : Asked) (which : LimitKind)
    → IsSoFar s types plans text reader left counts c before now → reader.max_lines ≡ most_lines → reader.max_bytes ≡ most_bytes
    → ((t : List ℕ) → StandsIn t reader left → Shows types s.bits t reader (step.Command number command))
    → counts_with counts command ≡ Err which → EndsAs (status.Limit which) s types plans text left' c before now
full_end s types plans text left left' reader counts c before now number command which so lines bytes shows full = inr (record {
  commands = so.commands;
  kept = so.kept;
  first = first_of types s.bits text so.commands reader left so.told;
  stops = full_passes which types s.bits text left reader counts so.commands number command so.told so.count so.states_are so.maintains_are lines bytes shows (counts_full counts command which full);
  output = so.output;
  upkept = upkept_at (status.Limit which) s (deeds_before s so.commands c) so.commands c so.upkept;
  gone = so.gone;
  read = so.read;
  few = so_few s types plans text reader left counts c before now so;
  reached = full_reached which counts so.commands command so.states_are so.maintains_are (counts_full counts command which full);
})

-- the reader holds less than a piece
read_near : (text : List ℕ) (reader : Reading) (left : Option (List ℕ)) (count : ℕ) → StandsIn text reader left → IsLittle reader → count ≡ reader.lines → IfTold left (IsReadNear text count)
read_near text reader None count at little is = absurd at
read_near text reader (Some left) count at little is = (
  at.split.front ++ reader.ahead,
  (
    omega (arith, length-append at.split.front reader.ahead, at.split.size, little),
    ap (λ k. drop (end_of k text) text) is ∙ ap (λ k. drop k text) (sym at.given) ∙ at.after ∙ at.split.whole ∙ sym (append_assoc at.split.front reader.ahead left),
  ),
)

some_dealt : (types : Types) (bits : ℕ) (text left : Option (List ℕ)) (reader : Reading) (cs : List Asked) → IfTold text (IsBehind types bits reader left cs) → IsLittle reader → length cs ≡ reader.lines → 0 < length cs
    → IfTold text (λ t. StopsAt status.WriteFault types bits t left cs)
some_dealt types bits None left reader cs told little is some = tt
some_dealt types bits (Some text) left reader cs told little is some = (some, read_near text reader left (length cs) told.1 little is)

pub no_claim : (types : Types) (bits : ℕ) (text left : Option (List ℕ)) (cs : List Asked) → IfTold text (λ t. StopsAt status.NoMemory types bits t left cs)
no_claim types bits None left cs = tt
no_claim types bits (Some text) left cs = tt

-- where the sink failed
pub fault_ends : (why : Stop) (s : Setting) (types : Types) (plans : ℕ → List Fate) (text left left' : Option (List ℕ)) (reader reader' : Reading) (counts counted : Counts) (old new : Cell) (before now now' : Option (List ℕ)) (number : ℕ) (c : Asked)
    → IsSoFar s types plans text reader left counts old before now → reader.max_lines ≡ most_lines → reader.max_bytes ≡ most_bytes
    → ((t : List ℕ) → StandsIn t reader left → Shows types s.bits t reader (step.Command number c))
    → ((t : List ℕ) → StandsIn t reader left → StandsIn t reader' left')
    → counts_with counts c ≡ Ok counted → number ≡ reader.lines + 1 → number ≤ most_lines → reader'.lines ≡ reader.lines + 1 → IsLittle reader' → why ≡ stop.Fault → StopsAs why s number c old new now now'
    → EndsAs status.WriteFault s types plans text left' new before now'
fault_ends why s types plans text left left' reader reader' counts counted old new before now now' number c so lines bytes shows stands with is small grows little fault stopped =
    ended (subst (λ w. StopsAs w s number c old new now now') fault stopped)
  where
    ended : IsDealt s number c old new × AppendsFront now now' (report_in s old.told number c new) → EndsAs status.WriteFault s types plans text left' new before now'
    ended (dealt, (front, (rest, (whole, (some, wrote))))) =
        let cs = so.commands in
        let more = line_more s types plans text left left' reader reader' counts counted old new before now number c so lines bytes shows stands with is small dealt.0 in
        inr (record {
          commands = cs ++ c ∷ [];
          kept = more.kept;
          first = first_of types s.bits text (cs ++ c ∷ []) reader' left' more.told;
          stops = some_dealt types s.bits text left' reader' (cs ++ c ∷ []) more.told little (omega (arith, more.count, is, grows)) (omega (arith, more.count, is));
          output = record {
            earlier = cs;
            last = c;
            all = refl;
            front = front;
            rest = rest;
            cut = some;
            report = ap₂ (λ told k. report_in s told k c new) (sym so.kept.told) more.count ∙ whole;
            output = subst (λ x. Appends before now' (x ++ front)) (sym more.earlier) (Appends-trans before now now' (output_of s cs old) front so.output wrote);
          };
          upkept = upkept_more s plans cs c old new number so.kept (omega (arith, is, so.count)) dealt.0 status.WriteFault so.upkept (noted_last s c old new number status.WriteFault dealt.1);
          gone = more.gone;
          read = more.read;
          few = more.few;
          reached = tt;
        })

pub appends_kept : (a b c : Option (List ℕ)) (bs : List ℕ) → Appends a b bs → Keeps b c → Appends a c bs
appends_kept None b c bs p q = tt
appends_kept (Some x) None c bs p q = absurd p
appends_kept (Some x) (Some y) None bs p q = absurd q
appends_kept (Some x) (Some y) (Some z) bs p q = q ∙ p

-- nothing was written
pub appends_nothing : (a b : Option (List ℕ)) → Keeps a b → Appends a b []
appends_nothing a b kept = appends_kept a a b [] (Appends-nil a) kept

-- where memory wanted before a line's report was written
pub memory_ends : (why : Stop) (s : Setting) (types : Types) (plans : ℕ → List Fate) (text left left' : Option (List ℕ)) (reader reader' : Reading) (counts counted : Counts) (old new : Cell) (before now now' : Option (List ℕ)) (number : ℕ) (c : Asked)
    → IsSoFar s types plans text reader left counts old before now → reader.max_lines ≡ most_lines → reader.max_bytes ≡ most_bytes
    → ((t : List ℕ) → StandsIn t reader left → Shows types s.bits t reader (step.Command number c))
    → ((t : List ℕ) → StandsIn t reader left → StandsIn t reader' left')
    → counts_with counts c ≡ Ok counted → number ≡ reader.lines + 1 → number ≤ most_lines → why ≡ stop.Memory → StopsAs why s number c old new now now'
    → EndsAs status.NoMemory s types plans text left' new before now'
memory_ends why s types plans text left left' reader reader' counts counted old new before now now' number c so lines bytes shows stands with is small memory stopped =
    let told = subst (λ w. StopsAs w s number c old new now now') memory stopped in
    ended told.0 (appends_kept before now now' (output_of s so.commands old) so.output told.1)
  where
    ended : IsAllOrNothing s number c old new → Appends before now' (output_of s so.commands old) → EndsAs status.NoMemory s types plans text left' new before now'
    ended (inl room) wrote = inr (record {
      commands = so.commands;
      kept = kept_roomier s plans so.commands old new room so.kept;
      first = first_of types s.bits text so.commands reader left so.told;
      stops = no_claim types s.bits text left' so.commands;
      output = inl (subst (Appends before now') (sym (roomier_output s so.commands old new room)) wrote);
      upkept = upkept_then s old new room status.NoMemory so.commands so.upkept;
      gone = gone_then s old new room so.gone;
      read = read_then s old new room so.commands so.read;
      few = so_few s types plans text reader left counts old before now so;
      reached = tt;
    })
    ended (inr dealt) wrote =
        let cs = so.commands in
        let more = line_more s types plans text left left' reader reader' counts counted old new before now number c so lines bytes shows stands with is small dealt in
        inr (record {
          commands = cs ++ c ∷ [];
          kept = more.kept;
          first = first_of types s.bits text (cs ++ c ∷ []) reader' left' more.told;
          stops = no_claim types s.bits text left' (cs ++ c ∷ []);
          output = inr (record { earlier = cs; last = c; all = refl; output = subst (Appends before now') (sym more.earlier) wrote });
          upkept = upkept_more s plans cs c old new number so.kept (omega (arith, is, so.count)) dealt status.NoMemory so.upkept (cut_last s c old new number dealt);
          gone = more.gone;
          read = more.read;
          few = more.few;
          reached = tt;
        })

-- where memory wanted before the first line
pub firsts_none : (types : Types) (bits : ℕ) (text : Option (List ℕ)) → IfTold text (λ t. AreFirst types bits t [])
firsts_none types bits None = tt
firsts_none types bits (Some t) = first_none types bits t

pub keeps_same : (a : Option (List ℕ)) → Keeps a a
keeps_same None = tt
keeps_same (Some x) = refl

pub opened_ends : (s : Setting) (types : Types) (plans : ℕ → List Fate) (text left : Option (List ℕ)) (c : Cell) (before : Option (List ℕ)) → IsKept s plans [] c → c.upkeeps ≡ [] → c.fronts ≡ [] → EndsAs status.NoMemory s types plans text left c before before
opened_ends s types plans text left c before kept none unread = inr (record {
  commands = [];
  kept = kept;
  first = firsts_none types s.bits text;
  stops = no_claim types s.bits text left [];
  output = inl (Appends-nil before);
  upkept = none_upkept status.NoMemory s (deeds_before s [] c) c none;
  gone = none_gone s c none;
  read = none_read s (deeds_before s [] c) c unread;
  few = few_none;
  reached = tt;
})

pub unopened_ends : (s : Setting) (types : Types) (plans : ℕ → List Fate) (text left : Option (List ℕ)) (c : Cell) (before : Option (List ℕ)) → (c.lanes ≡ []) × ((c.dealt ≡ 0) × ((c.upkeeps ≡ []) × (c.fronts ≡ []))) → EndsAs status.NoMemory s types plans text left c before before
unopened_ends s types plans text left c before is = inl (record { memory = refl; none = is.0; dealt = is.1.0; unkept = is.1.1.0; unread = is.1.1.1; kept = keeps_same before })
