-- What the ends of a session say, clause by clause.
use Rattle.std.proofs.Common.{◌≡◌, ◌==◌, ◌&&◌, IsTrue, ℕ, zero, suc, ◌<◌, ◌≤◌, true, List, [], ◌∷◌, Option, None, Some, inl, inr, refl, sym, ap, ◌∙◌, subst, arith, length, map, slice_get, IsSome}
use Rattle.std.proofs.lemmas.Bool.{false≢true}
use Rattle.std.proofs.lemmas.Bool.Decides.{nat_tests}
use Rattle.std.specs.Io.KnownBytes.{Appends}
use Rattle.carriers.specs.declared.fate.Fate.{Fate}
use Rattle.clap.specs.Walk.{Text}
use Rattle.io_ends.specs.declared.next.LimitKind.{LimitKind}
use Rattle.doc_types.specs.SchemaCodes.{Types}
use Rattle.bucket_ids.specs.Buckets.{Low}
use Rattle.distributor_part.specs.declared.rules.Rules.{Rules}
use Rattle.lane_journals.specs.Readers.{began}
use Rattle.lane_journals.specs.Meanings.{history}
use Rattle.lane_journals.specs.KeptJournals.{IsLegal}
use Rattle.lane_carriage.specs.Carriage.{IsCarried}
use Rattle.lane_keeping.specs.LaneKeeping.{setting_of}
use Rattle.lane_keeping.specs.Lines.{IsFresh}
use Rattle.lane_calls.specs.LaneValues.{LaneValue}
use Rattle.reports.specs.ReportText.{usage_text}
use Rattle.session_settings.specs.Choices.{Chooses}
use Rattle.lane_lives.specs.Settings.{lane_count, IsSetting}
use Rattle.session_settings.specs.declared.choice.Choice.{Choice}
use Rattle.lane_lives.specs.declared.setting.Setting.{Setting}
use Rattle.session_settings.proofs.Choosing.{one_choice, chosen_setting}
use Rattle.lane_promises.specs.Promises.{IsComplete, KeepsWrites}
use Rattle.lane_promises.proofs.Before.{legal_tail}
use Rattle.lane_lives.specs.Lives.{Deed}
use Rattle.lane_lives.specs.Serving.{bucket_in}
use Rattle.lane_lives.proofs.Living.{in_order}
use Rattle.session_cluster.specs.declared.asked.Asked.{Asked}
use Rattle.session_cluster.specs.Cells.{Cell, journals_of, is_empty}
use Rattle.session_cluster.specs.Deeds.{deeds_of_lane}
use Rattle.cell_session.specs.Counting.{AreFew}
use Rattle.cell_session.specs.Dealing.{EndsAs}
use Rattle.cell_session.specs.Ends.{IfTold, AreFirst, OfFirst, HasLanes, PassesLimit, StopsAt, DealsWith, UsageEnd, Writes}
use Rattle.cell_session.specs.Lines.{HaveLines}
use Rattle.session_cluster.specs.Lanes.{Journal, journal_in, AreLegal, AreInOrder, AreTogether}
use Rattle.cell_session.specs.LanePromises.{AreDurable, AreComplete, AreShownRight}
use Rattle.cell_session.specs.Operations.{IsCommandAt, WereAsked, deeds_in, deeds_before, HaveOutcomes, HaveFates}
use Rattle.cell_session.specs.declared.status.Status.{Status}
use Rattle.cell_session.specs.declared.status.Status.TheVariants as status
use Rattle.cell_session.proofs.OrderLaws.{none_gone}
use Rattle.cell_session.proofs.KeptCauses.{AllRefused, AllShort, AllHold, AllHear, kept_causes, done_heard}
use Rattle.cell_session.proofs.KeptClauses.{done_outcomes, done_fates, kept_shown, kept_together}
use Rattle.session_cluster.proofs.DeedLists.{lines_alone}
use Rattle.session_cluster.proofs.KeptLanes.{in_lanes, kept_legal}
use Rattle.session_cluster.proofs.LaneLists.{journal_is, journal_at}
use Rattle.cell_session.proofs.Loops.{appends_nothing, few_none, first_none, unopened_ends}
use Rattle.cell_session.proofs.ReadLaws.{none_read}
use Rattle.cell_session.proofs.SearchCounts.{SearchLaws, kept_counts, none_counts}
use Rattle.cell_session.proofs.FullSearches.{StayCovered, kept_full, none_full}
use Rattle.cell_session.specs.Orders.{GoInOrder}
use Rattle.cell_session.specs.Searches.{CountOnce}
use Rattle.cell_session.proofs.UpkeepLaws.{none_upkept}

-- ---- what is promised of every lane

abbrev pub AllDurable : Type 0
AllDurable = (lane : Low) (rules : Rules) → 1 ≤ rules.acks → (J : Journal) → IsLegal (setting_of lane rules) J → KeepsWrites rules.acks (history J)

abbrev pub AllComplete : Type 0
AllComplete = (s : Setting) → IsSetting s → (lane : Low) (v : LaneValue) → IsLegal (setting_of lane s.rules) v.journal → IsCarried v.given v.journal → IsComplete s lane v

pub legal_durable : AllDurable → (words : List Text) (x : Choice) (Js : List Journal) → Chooses words x → AreLegal x.setting Js → AreDurable x.setting Js
legal_durable law words x Js chosen legal lane later J is =
    let set = setting_of (bucket_in x.setting lane) x.setting.rules in
    law (bucket_in x.setting lane) x.setting.rules (chosen_setting words x chosen).rules.some_acks J (legal_tail set later J (subst (IsLegal set) is (legal lane)))

pub legal_complete : AllComplete → (words : List Text) (x : Choice) (plans : ℕ → List Fate) (asked : List Asked) (vs : List LaneValue) → Chooses words x → AreLegal x.setting (map journal_is vs)
    → HaveFates plans asked vs → AreComplete x.setting vs
legal_complete law words x plans asked vs chosen legal fates lane v at =
    law x.setting (chosen_setting words x chosen) (bucket_in x.setting lane) v
    (subst (λ J. IsLegal (setting_of (bucket_in x.setting lane) x.setting.rules) J) (journal_at vs lane v at) (legal lane)) (fates lane v at).carried

-- ---- where there is no lane

pub nothing_in : (vs : List LaneValue) (lane : ℕ) → vs ≡ [] → journal_in lane (map journal_is vs) ≡ []
nothing_in vs lane none = ap (λ ws. journal_in lane (map journal_is ws)) none ∙ empty_in lane
  where
    empty_in : (lane : ℕ) → journal_in lane [] ≡ []
    empty_in zero = refl
    empty_in (suc lane) = refl

pub no_lane : (vs : List LaneValue) (lane : ℕ) (v : LaneValue) → vs ≡ [] → slice_get vs lane ≡ Some v → ⊥
no_lane vs lane v none at = no_item lane (subst (λ ws. slice_get ws lane ≡ Some v) none at)
  where
    no_item : (lane : ℕ) → slice_get [] lane ≡ Some v → ⊥
    no_item zero h = cc h
    no_item (suc lane) h = cc h

-- ---- the journals

pub none_legal : (s : Setting) (c : Cell) → c.lanes ≡ [] → AreLegal s (journals_of c)
none_legal s c none lane = subst (IsLegal _) (sym (nothing_in c.lanes lane none)) tt

pub ends_legal : (end : Status) (s : Setting) (types : Types) (plans : ℕ → List Fate) (text left : Option (List ℕ)) (c : Cell) (before now : Option (List ℕ)) → EndsAs end s types plans text left c before now → AreLegal s (journals_of c)
ends_legal end s types plans text left c before now (inl none) = none_legal s c none.none
ends_legal end s types plans text left c before now (inr some) = kept_legal s plans some.commands c some.kept

not_begun : (J : Journal) (line : ℕ) → J ≡ [] → IsSome (began line (history J)) → ⊥
not_begun J line none some = false≢true (subst IsSome (ap (λ K. began line (history K)) none) some)

pub none_in_order : (c : Cell) → c.lanes ≡ [] → AreInOrder (journals_of c)
none_in_order c none lane earlier line before first second = absurd (not_begun (journal_in lane (journals_of c)) line (nothing_in c.lanes lane none) second)

abbrev IsOrdered : Journal → Type 0
IsOrdered J = (earlier line : ℕ) → earlier < line → IsSome (began earlier (history J)) → IsSome (began line (history J))
    → Rattle.lane_journals.specs.Readers.closed earlier (Rattle.lane_journals.specs.Readers.before_line line (history J)) ≡ true

pub ends_in_order : (end : Status) (s : Setting) (types : Types) (plans : ℕ → List Fate) (text left : Option (List ℕ)) (c : Cell) (before now : Option (List ℕ)) → EndsAs end s types plans text left c before now → AreInOrder (journals_of c)
ends_in_order end s types plans text left c before now (inl none) = none_in_order c none.none
ends_in_order end s types plans text left c before now (inr some) = λ lane.
    in_lanes (λ n J. IsOrdered J) c.lanes (λ n earlier line early first second. absurd (false≢true second))
    (λ n v at. let is = some.kept.serving n v at in in_order s (bucket_in s n) (deeds_of_lane s c.upkeeps n some.commands) v.journal is.life (lines_alone s c.upkeeps n some.commands) is.rising) lane

pub none_together : (c : Cell) → c.lanes ≡ [] → AreTogether (journals_of c)
none_together c none lane other there = absurd (omega (arith, there, ap (λ vs. length (map journal_is vs)) none))

pub ends_together : (end : Status) (s : Setting) (types : Types) (plans : ℕ → List Fate) (text left : Option (List ℕ)) (c : Cell) (before now : Option (List ℕ)) → EndsAs end s types plans text left c before now → AreTogether (journals_of c)
ends_together end s types plans text left c before now (inl none) = none_together c none.none
ends_together end s types plans text left c before now (inr some) = kept_together s plans some.commands c some.kept

all_lanes : (end : Status) (s : Setting) (cs : List Asked) (c : Cell) (before now : Option (List ℕ)) → length c.lanes ≡ lane_count s → Writes end s cs c before now → HasLanes end s c
all_lanes status.Done s cs c before now is wrote = is
all_lanes status.ReadFault s cs c before now is wrote = is
all_lanes status.WriteFault s cs c before now is wrote = is
all_lanes status.NoMemory s cs c before now is wrote = inr is
all_lanes (status.Limit which) s cs c before now is wrote = is
all_lanes status.Usage s cs c before now is wrote = absurd wrote

pub ends_lanes : (end : Status) (s : Setting) (types : Types) (plans : ℕ → List Fate) (text left : Option (List ℕ)) (c : Cell) (before now : Option (List ℕ)) → EndsAs end s types plans text left c before now → HasLanes end s c
ends_lanes end s types plans text left c before now (inl none) = subst (λ e. HasLanes e s c) (sym none.memory) (inl (ap length none.none, none.dealt))
ends_lanes end s types plans text left c before now (inr some) = all_lanes end s some.commands c before now some.kept.lanes some.output

-- ---- what is shown of them

pub ends_shown : (end : Status) (s : Setting) (types : Types) (plans : ℕ → List Fate) (text left : Option (List ℕ)) (c : Cell) (before now : Option (List ℕ)) → EndsAs end s types plans text left c before now → AreShownRight s c
ends_shown end s types plans text left c before now (inl none) = λ lane v at. absurd (no_lane c.lanes lane v none.none at)
ends_shown end s types plans text left c before now (inr some) = kept_shown s plans some.commands c some.kept

-- ---- which lines were dealt with

-- of the first lines of a text this holds
pub told_first : (types : Types) (bits : ℕ) (text : Option (List ℕ)) (cs : List Asked) (dealt : ℕ) (P : List ℕ → List Asked → Type 0) → length cs ≡ dealt → IfTold text (λ t. AreFirst types bits t cs) → IfTold text (λ t. P t cs)
    → IfTold text (λ t. OfFirst types bits t dealt (P t))
told_first types bits None cs dealt P count first holds = tt
told_first types bits (Some t) cs dealt P count first holds = (cs, (count, (first, holds)))

pub told_none : (types : Types) (bits : ℕ) (text : Option (List ℕ)) → IfTold text (λ t. AreFirst types bits t [])
told_none types bits None = tt
told_none types bits (Some t) = first_none types bits t

pub nothing_told : (text : Option (List ℕ)) → IfTold text (λ t. Unit {0})
nothing_told None = tt
nothing_told (Some t) = tt

pub ends_dealt : (end : Status) (s : Setting) (types : Types) (plans : ℕ → List Fate) (text left : Option (List ℕ)) (c : Cell) (before now : Option (List ℕ)) → EndsAs end s types plans text left c before now
    → IfTold text (λ t. DealsWith end types s.bits t c.dealt left)
ends_dealt end s types plans text left c before now (inl none) = subst (λ e. IfTold text (λ t. DealsWith e types s.bits t c.dealt left)) (sym none.memory)
    (told_first types s.bits text [] c.dealt (λ t. StopsAt status.NoMemory types s.bits t left) (sym none.dealt) (told_none types s.bits text) (nothing_told text))
ends_dealt end s types plans text left c before now (inr some) = told_first types s.bits text some.commands c.dealt (λ t. StopsAt end types s.bits t left) (sym some.kept.dealt) some.first some.stops

pub ends_limit : (end : Status) (s : Setting) (types : Types) (plans : ℕ → List Fate) (text left : Option (List ℕ)) (c : Cell) (before now : Option (List ℕ)) → EndsAs end s types plans text left c before now → (which : LimitKind) → end ≡ status.Limit which
    → IfTold text (λ t. OfFirst types s.bits t c.dealt (PassesLimit which types s.bits t))
ends_limit end s types plans text left c before now ends which is = subst (λ e. IfTold text (λ t. DealsWith e types s.bits t c.dealt left)) is (ends_dealt end s types plans text left c before now ends)

-- ---- what each line asked for and did

asked_at : (types : Types) (bits : ℕ) (text : Option (List ℕ)) (cs : List Asked) (k : ℕ) (c : Asked) → IfTold text (λ t. AreFirst types bits t cs) → slice_get cs k ≡ Some c → IsCommandAt types bits text k c
asked_at types bits None cs k c first at = tt
asked_at types bits (Some t) cs k c first at = first.asked k c at

pub were_asked : (types : Types) (bits : ℕ) (text : Option (List ℕ)) (cs : List Asked) (dealt : ℕ) → length cs ≡ dealt → AreFew cs → IfTold text (λ t. AreFirst types bits t cs) → WereAsked types bits text dealt cs
were_asked types bits text cs dealt count few first = record { count = count; told = λ at c there. asked_at types bits text cs at c first there; few = few.few; few_states = few.few_states; few_maintains = few.few_maintains }

-- where there is no lane
pub none_outcomes : (s : Setting) (deeds : ℕ → List Deed) (c : Cell) → c.lanes ≡ [] → HaveOutcomes s deeds c
none_outcomes s deeds c none = record {
  lives = λ lane there. absurd (omega (arith, there, ap length none));
  no_others = λ lane line other. subst (λ J. IsFresh (history J) line) (sym (nothing_in c.lanes lane none))
      (record { unbegun = refl; unrefused = refl; unprepared = refl; unwritten = refl; unclosed = refl });
}

pub none_fates : (plans : ℕ → List Fate) (asked : List Asked) (c : Cell) → c.lanes ≡ [] → HaveFates plans asked c.lanes
none_fates plans asked c none lane v at = absurd (no_lane c.lanes lane v none at)

pub none_shown : (s : Setting) (c : Cell) → c.lanes ≡ [] → AreShownRight s c
none_shown s c none lane v at = absurd (no_lane c.lanes lane v none at)

-- where no line was dealt with, for want of memory
pub none_lines : (s : Setting) (types : Types) (plans : ℕ → List Fate) (text : Option (List ℕ)) (c : Cell) → c.lanes ≡ [] → c.dealt ≡ 0 → c.upkeeps ≡ [] → c.fronts ≡ [] → HaveLines status.NoMemory s types plans text c
none_lines s types plans text c none dealt unkept unread = record {
  asked = [];
  were_asked = were_asked types s.bits text [] c.dealt (sym dealt) few_none (told_none types s.bits text);
  one_outcome = none_outcomes s (deeds_in s [] c) c none;
  hearings = record { holds = λ lane v at. absurd (no_lane c.lanes lane v none at); hears = λ lane v at. absurd (no_lane c.lanes lane v none at) };
  fates = none_fates plans [] c none;
  causes = record {
    refused = λ lane v at line owner version. absurd (no_lane c.lanes lane v none at);
    short = λ lane v at line answered needed absent. absurd (no_lane c.lanes lane v none at);
  };
  upkeeps = none_upkept status.NoMemory s (deeds_before s [] c) c unkept;
  search_fronts = none_read s (deeds_before s [] c) c unread;
  full_at_rest = none_full s c;
  reached = tt;
}

-- what is promised of every lane's lines
pub record AllLines : Type 0 where
  pub refused : AllRefused
  pub short : AllShort
  pub hold : AllHold
  pub hear : AllHear
  pub searches : SearchLaws
  pub covered : StayCovered

pub ends_lines : AllLines → (end : Status) (s : Setting) → IsSetting s → (types : Types) (plans : ℕ → List Fate) (text left : Option (List ℕ)) (c : Cell) (before now : Option (List ℕ)) → EndsAs end s types plans text left c before now
    → HaveLines end s types plans text c
ends_lines all end s setting types plans text left c before now (inl none) = subst (λ e. HaveLines e s types plans text c) (sym none.memory) (none_lines s types plans text c none.none none.dealt none.unkept none.unread)
ends_lines all end s setting types plans text left c before now (inr some) = record {
  asked = some.commands;
  were_asked = were_asked types s.bits text some.commands c.dealt (sym some.kept.dealt) some.few some.first;
  one_outcome = done_outcomes s plans some.commands c some.kept;
  hearings = done_heard s plans some.commands c some.kept all.hold all.hear;
  fates = done_fates s plans some.commands c some.kept;
  causes = kept_causes all.refused all.short s setting plans some.commands c some.kept;
  upkeeps = some.upkept;
  search_fronts = some.read;
  full_at_rest = kept_full s plans some.commands c some.kept some.read all.searches all.covered end setting (some.few).few some.upkept;
  reached = some.reached;
}

-- ---- the searches

pub ends_searches : SearchLaws → (end : Status) (s : Setting) → IsSetting s → (types : Types) (plans : ℕ → List Fate) (text left : Option (List ℕ)) (c : Cell) (before now : Option (List ℕ)) → EndsAs end s types plans text left c before now
    → CountOnce s types text c
ends_searches laws end s setting types plans text left c before now (inl none) = record {
  asked = [];
  were_asked = were_asked types s.bits text [] c.dealt (sym none.dealt) few_none (told_none types s.bits text);
  each = none_counts s (deeds_before s [] c) c none.unread;
}
ends_searches laws end s setting types plans text left c before now (inr some) = record {
  asked = some.commands;
  were_asked = were_asked types s.bits text some.commands c.dealt (sym some.kept.dealt) some.few some.first;
  each = kept_counts laws s setting plans some.commands c some.kept (some.few).few some.read;
}

-- ---- the bytes written

pub all_told : (text : Option (List ℕ)) (P : Type 0) → P → IfTold text (λ t. P)
all_told None P holds = tt
all_told (Some t) P holds = holds

pub ends_written : (end : Status) (s : Setting) (types : Types) (plans : ℕ → List Fate) (text left : Option (List ℕ)) (c : Cell) (before now : Option (List ℕ)) → EndsAs end s types plans text left c before now
    → IfTold text (λ t. OfFirst types s.bits t c.dealt (λ commands. Writes end s commands c before now))
ends_written end s types plans text left c before now (inl none) = subst (λ e. IfTold text (λ t. OfFirst types s.bits t c.dealt (λ commands. Writes e s commands c before now))) (sym none.memory)
    (told_first types s.bits text [] c.dealt (λ t commands. Writes status.NoMemory s commands c before now) (sym none.dealt) (told_none types s.bits text)
    (all_told text (Writes status.NoMemory s [] c before now) (inl (appends_nothing before now none.kept))))
ends_written end s types plans text left c before now (inr some) =
    told_first types s.bits text some.commands c.dealt (λ t commands. Writes end s commands c before now) (sym some.kept.dealt) some.first (all_told text (Writes end s some.commands c before now) some.output)

-- ---- no session over lines ends with usage

not_usage : (end : Status) (s : Setting) (cs : List Asked) (c : Cell) (before now : Option (List ℕ)) → Writes end s cs c before now → end ≡ status.Usage → ⊥
not_usage end s cs c before now wrote is = subst (λ e. Writes e s cs c before now) is wrote

pub ends_usage : (end : Status) (s : Setting) (types : Types) (plans : ℕ → List Fate) (text left : Option (List ℕ)) (c : Cell) (before now : Option (List ℕ)) → EndsAs end s types plans text left c before now → end ≡ status.Usage → ⊥
ends_usage end s types plans text left c before now (inl none) is = cc (none.memory, is)
ends_usage end s types plans text left c before now (inr some) is = not_usage end s some.commands c before now some.output is

-- ---- the order of passes

pub ends_order : (end : Status) (s : Setting) (types : Types) (plans : ℕ → List Fate) (text left : Option (List ℕ)) (c : Cell) (before now : Option (List ℕ)) → EndsAs end s types plans text left c before now → GoInOrder s c
ends_order end s types plans text left c before now (inl none) = none_gone s c none.unkept
ends_order end s types plans text left c before now (inr some) = some.gone

-- ---- of what the words choose

pub chosen_order : (words : List Text) (a x : Choice) (end : Status) (plans : ℕ → List Fate) (text left : Option (List ℕ)) (c : Cell) (before now : Option (List ℕ)) → Chooses words a → Chooses words x
    → EndsAs end a.setting a.setting.schema plans text left c before now → GoInOrder x.setting c
chosen_order words a x end plans text left c before now p q ends =
    subst (λ (y : Choice). GoInOrder y.setting c) (one_choice words a x p q) (ends_order end a.setting a.setting.schema plans text left c before now ends)

pub chosen_legal : (words : List Text) (a x : Choice) (end : Status) (plans : ℕ → List Fate) (text left : Option (List ℕ)) (c : Cell) (before now : Option (List ℕ)) → Chooses words a → Chooses words x
    → EndsAs end a.setting a.setting.schema plans text left c before now → AreLegal x.setting (journals_of c)
chosen_legal words a x end plans text left c before now p q ends =
    subst (λ (y : Choice). AreLegal y.setting (journals_of c)) (one_choice words a x p q) (ends_legal end a.setting a.setting.schema plans text left c before now ends)

pub chosen_lanes : (words : List Text) (a x : Choice) (end : Status) (plans : ℕ → List Fate) (text left : Option (List ℕ)) (c : Cell) (before now : Option (List ℕ)) → Chooses words a → Chooses words x
    → EndsAs end a.setting a.setting.schema plans text left c before now → HasLanes end x.setting c
chosen_lanes words a x end plans text left c before now p q ends =
    subst (λ (y : Choice). HasLanes end y.setting c) (one_choice words a x p q) (ends_lanes end a.setting a.setting.schema plans text left c before now ends)

pub chosen_shown : (words : List Text) (a x : Choice) (end : Status) (plans : ℕ → List Fate) (text left : Option (List ℕ)) (c : Cell) (before now : Option (List ℕ)) → Chooses words a → Chooses words x
    → EndsAs end a.setting a.setting.schema plans text left c before now → AreShownRight x.setting c
chosen_shown words a x end plans text left c before now p q ends =
    subst (λ (y : Choice). AreShownRight y.setting c) (one_choice words a x p q) (ends_shown end a.setting a.setting.schema plans text left c before now ends)

pub chosen_lines : AllLines → (words : List Text) (a x : Choice) (end : Status) (plans : ℕ → List Fate) (text left : Option (List ℕ)) (c : Cell) (before now : Option (List ℕ)) → Chooses words a → Chooses words x
    → EndsAs end a.setting a.setting.schema plans text left c before now → HaveLines end x.setting x.setting.schema plans text c
chosen_lines all words a x end plans text left c before now p q ends =
    subst (λ (y : Choice). HaveLines end y.setting y.setting.schema plans text c) (one_choice words a x p q) (ends_lines all end a.setting (chosen_setting words a p) a.setting.schema plans text left c before now ends)

pub chosen_searches : SearchLaws → (words : List Text) (a x : Choice) (end : Status) (plans : ℕ → List Fate) (text left : Option (List ℕ)) (c : Cell) (before now : Option (List ℕ)) → Chooses words a → Chooses words x
    → EndsAs end a.setting a.setting.schema plans text left c before now → CountOnce x.setting x.setting.schema text c
chosen_searches laws words a x end plans text left c before now p q ends =
    subst (λ (y : Choice). CountOnce y.setting y.setting.schema text c) (one_choice words a x p q) (ends_searches laws end a.setting (chosen_setting words a p) a.setting.schema plans text left c before now ends)

pub chosen_dealt : (words : List Text) (a x : Choice) (end : Status) (plans : ℕ → List Fate) (text left : Option (List ℕ)) (c : Cell) (before now : Option (List ℕ)) → Chooses words a → Chooses words x
    → EndsAs end a.setting a.setting.schema plans text left c before now → IfTold text (λ t. DealsWith end x.setting.schema (x.setting).bits t c.dealt left)
chosen_dealt words a x end plans text left c before now p q ends =
    subst (λ (y : Choice). IfTold text (λ t. DealsWith end y.setting.schema (y.setting).bits t c.dealt left)) (one_choice words a x p q) (ends_dealt end a.setting a.setting.schema plans text left c before now ends)

pub chosen_written : (words : List Text) (a x : Choice) (end : Status) (plans : ℕ → List Fate) (text left : Option (List ℕ)) (c : Cell) (before now : Option (List ℕ)) → Chooses words a → Chooses words x
    → EndsAs end a.setting a.setting.schema plans text left c before now → IfTold text (λ t. OfFirst x.setting.schema (x.setting).bits t c.dealt (λ commands. Writes end x.setting commands c before now))
chosen_written words a x end plans text left c before now p q ends =
    subst (λ (y : Choice). IfTold text (λ t. OfFirst y.setting.schema (y.setting).bits t c.dealt (λ commands. Writes end y.setting commands c before now))) (one_choice words a x p q)
    (ends_written end a.setting a.setting.schema plans text left c before now ends)

-- a cluster that is empty, as memory wanted before the words were read
all_zero : (n m u f : ℕ) → IsTrue (n == 0 && (m == 0 && (u == 0 && f == 0))) → (n ≡ 0) × ((m ≡ 0) × ((u ≡ 0) × (f ≡ 0)))
all_zero n m u f h = grind (arith, nat_tests)

no_items : {X : Type 0} (vs : List X) → length vs ≡ 0 → vs ≡ []
no_items [] none = refl
no_items (v ∷ vs) none = absurd (omega (arith, none))

pub empty_cell : (c : Cell) → IsTrue (is_empty c) → (c.lanes ≡ []) × ((c.dealt ≡ 0) × ((c.upkeeps ≡ []) × (c.fronts ≡ [])))
empty_cell c h = let all = all_zero (length c.lanes) c.dealt (length c.upkeeps) (length c.fronts) h in (no_items c.lanes all.0, (all.1.0, (no_items c.upkeeps all.1.1.0, no_items c.fronts all.1.1.1)))

pub empty_ends : (s : Setting) (types : Types) (plans : ℕ → List Fate) (text left : Option (List ℕ)) (c : Cell) (before : Option (List ℕ)) → IsTrue (is_empty c) → EndsAs status.NoMemory s types plans text left c before before
empty_ends s types plans text left c before h = unopened_ends s types plans text left c before (empty_cell c h)

pub usage_written : (end : Status) (before now : Option (List ℕ)) → UsageEnd end before now → end ≡ status.Usage → Appends before now usage_text
usage_written end before now ends is = subst (λ e. UsageEnd e before now) is ends

-- no lane was made
pub unmade_ends : (s : Setting) (types : Types) (plans : ℕ → List Fate) (text left : Option (List ℕ)) (old new : Cell) (before : Option (List ℕ)) → IsTrue (is_empty old) → new ≡ old → EndsAs status.NoMemory s types plans text left new before before
unmade_ends s types plans text left old new before h same = subst (λ (c : Cell). EndsAs status.NoMemory s types plans text left c before before) (sym same) (empty_ends s types plans text left old before h)

pub empty_legal : (s : Setting) (c : Cell) → IsTrue (is_empty c) → AreLegal s (journals_of c)
empty_legal s c h = none_legal s c (empty_cell c h).0

pub empty_in_order : (c : Cell) → IsTrue (is_empty c) → AreInOrder (journals_of c)
empty_in_order c h = none_in_order c (empty_cell c h).0

pub empty_together : (c : Cell) → IsTrue (is_empty c) → AreTogether (journals_of c)
empty_together c h = none_together c (empty_cell c h).0

-- in an empty cluster no message had a fate
pub empty_fates : (plans : ℕ → List Fate) (c : Cell) → IsTrue (is_empty c) → HaveFates plans [] c.lanes
empty_fates plans c h lane v at = absurd (no_lane c.lanes lane v (empty_cell c h).0 at)

pub empty_shown : (s : Setting) (c : Cell) → IsTrue (is_empty c) → AreShownRight s c
empty_shown s c h lane v at = absurd (no_lane c.lanes lane v (empty_cell c h).0 at)

pub empty_order : (s : Setting) (c : Cell) → IsTrue (is_empty c) → GoInOrder s c
empty_order s c h = none_gone s c (empty_cell c h).1.1.0
