-- What the ends of a session say whose segments feeders run, clause by clause.
use Rattle.std.proofs.Common.{◌≡◌, ◌<◌, ◌⊎◌, ℕ, List, [], ◌∷◌, ◌++◌, Option, None, Some, inl, inr, refl, sym, ap, ◌∙◌, subst, arith, length, map, slice_get, IsSome}
use Rattle.carriers.specs.declared.fate.Fate.{Fate}
use Rattle.clap.specs.Walk.{Text}
use Rattle.doc_types.specs.SchemaCodes.{Types}
use Rattle.io_ends.specs.declared.next.LimitKind.{LimitKind}
use Rattle.bucket_ids.specs.Buckets.{Low}
use Rattle.lane_journals.specs.declared.event.LaneEvent.{LaneEvent}
use Rattle.lane_calls.specs.LineEvents.{StartsLine}
use Rattle.lane_calls.specs.Lines.{FeedLine, IsNone}
use Rattle.lane_calls.specs.Readings.{outcome_in}
use Rattle.lane_calls.specs.Segments.{IsAmong}
use Rattle.lane_lives.specs.Lives.{Deed, IsLife, lines_of}
use Rattle.lane_lives.specs.Serving.{bucket_in}
use Rattle.lane_lives.specs.Settings.{lane_count, IsSetting}
use Rattle.lane_lives.specs.declared.setting.Setting.{Setting}
use Rattle.lane_promises.specs.Promises.{NoneIsLeft}
use Rattle.session_cluster.specs.Cells.{Cell, journals_of, is_empty}
use Rattle.session_cluster.specs.Keeping.{HaveDone, AreAllAlike}
use Rattle.session_cluster.specs.Lanes.{AreLegal, AreTogether}
use Rattle.session_cluster.specs.declared.asked.Asked.{Asked}
use Rattle.session_cluster.proofs.KeptLanes.{kept_legal}
use Rattle.session_settings.specs.Choices.{Chooses, ChoosesFed}
use Rattle.session_settings.specs.declared.choice.Choice.{Choice}
use Rattle.session_settings.proofs.Choosing.{one_choice, chosen_setting}
use Rattle.session_segments.specs.Parts.{Part, asked_in, AreInTurn}
use Rattle.session_segments.proofs.PartLists.{fed_alike, cut_still, ended_still}
use Rattle.cell_session.specs.Dealing.{HasNothing}
use Rattle.cell_session.specs.Ends.{IfTold, AreFirst, OfFirst, HasLanes, PassesLimit}
use Rattle.cell_session.specs.FedDealing.{HasFed, EndsFedAs}
use Rattle.cell_session.specs.FedEnds.{OfParts, StopsFed, WritesFed}
use Rattle.cell_session.specs.FedLines.{fed_in, fed_before, fed_to, ComeInTurn, AreItsParts, HaveFedLines, CountOnceFed}
use Rattle.cell_session.specs.LanePromises.{AreComplete, AreShownRight}
use Rattle.cell_session.specs.Orders.{GoInOrder}
use Rattle.cell_session.specs.declared.status.Status.{Status}
use Rattle.cell_session.specs.declared.status.Status.TheVariants as status
use Rattle.cell_session.proofs.Clauses.{AllComplete, legal_complete, none_legal, none_together, none_shown, none_outcomes, none_fates, no_lane, empty_cell, told_first, told_none, nothing_told, all_told, were_asked}
use Rattle.cell_session.proofs.FedFull.{fed_full, fed_counts}
use Rattle.cell_session.proofs.FedNoted.{none_noted}
use Rattle.cell_session.proofs.FullSearches.{StayCovered, none_full}
use Rattle.cell_session.proofs.KeptCauses.{AllRefused, AllShortBeside, AllHold, AllHear, done_beside, done_heard}
use Rattle.cell_session.proofs.KeptClauses.{done_outcomes, done_fates, done_together, done_shown}
use Rattle.cell_session.proofs.Loops.{appends_nothing, few_none, keeps_same}
use Rattle.cell_session.proofs.OrderLaws.{none_gone}
use Rattle.cell_session.proofs.SearchCounts.{SearchLaws, none_counts}
use Rattle.cell_session.proofs.UpkeepLaws.{none_upkept}

-- what is promised of every lane's lines
abbrev pub AllInTurn : Type 0
AllInTurn = (s : Setting) (lane : Low) (more deeds : List Deed) (J : List LaneEvent) → IsLife s lane (more ++ deeds) J → NoneIsLeft deeds → (earlier : FeedLine) → IsAmong (lines_of deeds) earlier
    → (n : ℕ) → IsNone n (lines_of deeds) → (after : List LaneEvent) (e : LaneEvent) (before : List LaneEvent) → J ≡ after ++ e ∷ before → StartsLine n e → IsSome (outcome_in earlier.number before)

pub record AllFedLines : Type 0 where
  pub refused : AllRefused
  pub short : AllShortBeside
  pub hold : AllHold
  pub hear : AllHear
  pub in_turn : AllInTurn
  pub searches : SearchLaws
  pub covered : StayCovered

done_turns : {deeds : ℕ → List Deed} → AllInTurn → (s : Setting) (plans : ℕ → List Fate) (cs : List Asked) (c : Cell) → HaveDone s plans cs deeds c → ComeInTurn deeds c
done_turns law s plans cs c done lane v at later earlier is =
    law s (bucket_in s lane) later earlier v.journal (subst (λ ds. IsLife s (bucket_in s lane) ds v.journal) is (done.serving lane v at).life)

cut_alike : (s : Setting) (feeders : ℕ) (ps : List Part) (c : Cell) → AreInTurn ps → AreAllAlike s c.upkeeps (asked_in ps) (fed_in s feeders ps c)
cut_alike s feeders ps c (inl cut) = fed_alike s c.upkeeps feeders ps (cut_still ps cut)
cut_alike s feeders ps c (inr cut) = fed_alike s c.upkeeps feeders ps (ended_still ps cut)

module _ (end : Status) (s : Setting) (types : Types) (feeders : ℕ) (plans : ℕ → List Fate) (text left : Option (List ℕ)) (c : Cell) (before now : Option (List ℕ)) where
  abbrev So : Type 0
  So = EndsFedAs end s types feeders plans text left c before now

  pub fed_legal : So → AreLegal s (journals_of c)
  fed_legal (inl none) = none_legal s c none.none
  fed_legal (inr some) = kept_legal s plans (asked_in some.parts) c some.done

  pub fed_together : So → AreTogether (journals_of c)
  fed_together (inl none) = none_together c none.none
  fed_together (inr some) = done_together s plans (asked_in some.parts) c some.done (cut_alike s feeders some.parts c some.turns)

  pub fed_shown : So → AreShownRight s c
  fed_shown (inl none) = none_shown s c none.none
  fed_shown (inr some) = done_shown s plans (asked_in some.parts) c some.done (cut_alike s feeders some.parts c some.turns)

  -- of the parts that were done
  of_parts : (P : List ℕ → List Part → Type 0) (ps : List Part) → length (asked_in ps) ≡ c.dealt → AreInTurn ps → IfTold text (λ t. AreFirst types s.bits t (asked_in ps)) → IfTold text (λ t. P t ps) → IfTold text (λ t. OfParts types s.bits t c.dealt (P t))
  of_parts P ps count turns first holds =
      told_first types s.bits text (asked_in ps) c.dealt (λ t commands. (qs : List Part) × ((asked_in qs ≡ commands) × (AreInTurn qs × P t qs))) count first (by_text text holds)
    where
      by_text : (x : Option (List ℕ)) → IfTold x (λ t. P t ps) → IfTold x (λ t. (qs : List Part) × ((asked_in qs ≡ asked_in ps) × (AreInTurn qs × P t qs)))
      by_text None h = tt
      by_text (Some t) h = (ps, (refl, (turns, h)))

  pub fed_dealt : So → IfTold text (λ t. OfParts types s.bits t c.dealt (StopsFed end types s.bits t left))
  fed_dealt (inl none) = subst (λ e. IfTold text (λ t. OfParts types s.bits t c.dealt (StopsFed e types s.bits t left))) (sym none.memory)
      (of_parts (λ t. StopsFed status.NoMemory types s.bits t left) [] (sym none.dealt) (inr tt) (told_none types s.bits text) (nothing_told text))
  fed_dealt (inr some) = of_parts (λ t. StopsFed end types s.bits t left) some.parts (sym (some.done).dealt) some.turns some.first some.stops

  pub fed_written : So → IfTold text (λ t. OfParts types s.bits t c.dealt (λ parts. WritesFed end s parts c before now))
  fed_written (inl none) = subst (λ e. IfTold text (λ t. OfParts types s.bits t c.dealt (λ parts. WritesFed e s parts c before now))) (sym none.memory)
      (of_parts (λ t parts. WritesFed status.NoMemory s parts c before now) [] (sym none.dealt) (inr tt) (told_none types s.bits text)
      (all_told text (WritesFed status.NoMemory s [] c before now) (inl (appends_nothing before now none.kept))))
  fed_written (inr some) =
      of_parts (λ t parts. WritesFed end s parts c before now) some.parts (sym (some.done).dealt) some.turns some.first (all_told text (WritesFed end s some.parts c before now) some.output)

  -- ---- what each line asked for and did

  nothing_parts : c.dealt ≡ 0 → AreItsParts status.NoMemory s types text c []
  nothing_parts dealt = record { turns = inr tt; none_left = λ other. tt; were_asked = were_asked types s.bits text [] c.dealt (sym dealt) few_none (told_none types s.bits text) }

  pub nothing_lines : HasNothing status.NoMemory c before now → HaveFedLines status.NoMemory s types feeders plans text c before now
  nothing_lines nothing = let none = nothing.none in record {
    parts = [];
    are = nothing_parts nothing.dealt;
    one_outcome = none_outcomes s (fed_in s feeders [] c) c none;
    in_turn = λ lane v at. absurd (no_lane c.lanes lane v none at);
    hearings = record { holds = λ lane v at. absurd (no_lane c.lanes lane v none at); hears = λ lane v at. absurd (no_lane c.lanes lane v none at) };
    fates = none_fates plans [] c none;
    causes = record {
      refused = λ lane v at line owner version. absurd (no_lane c.lanes lane v none at);
      short = λ lane v at line answered needed absent. absurd (no_lane c.lanes lane v none at);
    };
    upkeeps = none_upkept status.NoMemory s (fed_before s feeders [] c) c nothing.unkept;
    search_fronts = (none_noted status.NoMemory s feeders c nothing.unkept nothing.unread).read;
    full_at_rest = none_full s c;
    reports = inl (appends_nothing before now nothing.kept);
    reached = tt;
  }

  -- the session was made of the parts that were done
  its_parts : (some : HasFed end s types feeders plans text left c before now) → AreItsParts end s types text c some.parts
  its_parts some = record { turns = some.turns; none_left = some.none_left; were_asked = were_asked types s.bits text (asked_in some.parts) c.dealt (sym (some.done).dealt) some.few some.first }

  pub fed_lines_clause : AllFedLines → IsSetting s → So → HaveFedLines end s types feeders plans text c before now
  fed_lines_clause all setting (inl none) = subst (λ e. HaveFedLines e s types feeders plans text c before now) (sym none.memory) (nothing_lines (subst (λ e. HasNothing e c before now) none.memory none))
  fed_lines_clause all setting (inr some) =
      let cs = asked_in some.parts in
      record {
        parts = some.parts;
        are = its_parts some;
        one_outcome = done_outcomes s plans cs c some.done;
        in_turn = done_turns all.in_turn s plans cs c some.done;
        hearings = done_heard s plans cs c some.done all.hold all.hear;
        fates = done_fates s plans cs c some.done;
        causes = done_beside s plans cs c some.done all.refused all.short setting;
        upkeeps = (some.noted).upkept;
        search_fronts = (some.noted).read;
        full_at_rest = fed_full s plans feeders some.parts c some.turns some.done end (some.noted).read all.searches all.covered setting (some.few).few (some.noted).upkept;
        reports = some.output;
        reached = some.reached;
      }

  -- ---- the searches, and the order of passes

  pub fed_searches : SearchLaws → IsSetting s → So → CountOnceFed end s types feeders text c
  fed_searches laws setting (inl none) =
      subst (λ e. CountOnceFed e s types feeders text c) (sym none.memory) (record { parts = []; are = nothing_parts none.dealt; each = none_counts s (fed_to s feeders [] c) c none.unread })
  fed_searches laws setting (inr some) = record {
    parts = some.parts;
    are = its_parts some;
    each = fed_counts s plans feeders some.parts c some.turns some.done end (some.noted).read laws setting (some.few).few;
  }

  pub fed_order : So → GoInOrder s c
  fed_order (inl none) = none_gone s c none.unkept
  fed_order (inr some) = (some.noted).gone

all_fed_lanes : (end : Status) (s : Setting) (cs : List Part) (c : Cell) (before now : Option (List ℕ)) → length c.lanes ≡ lane_count s → WritesFed end s cs c before now → HasLanes end s c
all_fed_lanes status.Done s cs c before now is wrote = is
all_fed_lanes status.ReadFault s cs c before now is wrote = is
all_fed_lanes status.WriteFault s cs c before now is wrote = is
all_fed_lanes status.NoMemory s cs c before now is wrote = inr is
all_fed_lanes (status.Limit which) s cs c before now is wrote = is
all_fed_lanes status.Usage s cs c before now is wrote = absurd wrote

pub fed_lanes : (end : Status) (s : Setting) (types : Types) (feeders : ℕ) (plans : ℕ → List Fate) (text left : Option (List ℕ)) (c : Cell) (before now : Option (List ℕ)) → EndsFedAs end s types feeders plans text left c before now → HasLanes end s c
fed_lanes end s types feeders plans text left c before now (inl none) = subst (λ e. HasLanes e s c) (sym none.memory) (inl (ap length none.none, none.dealt))
fed_lanes end s types feeders plans text left c before now (inr some) = all_fed_lanes end s some.parts c before now (some.done).lanes some.output

pub fed_limit : (end : Status) (s : Setting) (types : Types) (feeders : ℕ) (plans : ℕ → List Fate) (text left : Option (List ℕ)) (c : Cell) (before now : Option (List ℕ)) → EndsFedAs end s types feeders plans text left c before now
    → (which : LimitKind) → end ≡ status.Limit which → IfTold text (λ t. OfFirst types s.bits t c.dealt (PassesLimit which types s.bits t))
fed_limit end s types feeders plans text left c before now (inl none) which is = not_memory (sym none.memory ∙ is)
  where
    not_memory : {A : Type 0} → status.NoMemory ≡ status.Limit which → A
    not_memory e = cc e
fed_limit end s types feeders plans text left c before now (inr some) which is =
    told_first types s.bits text (asked_in some.parts) c.dealt (PassesLimit which types s.bits) (sym (some.done).dealt) some.first
    (subst (λ e. IfTold text (λ t. StopsFed e types s.bits t left some.parts)) is some.stops)

fed_not_usage : (end : Status) (s : Setting) (cs : List Part) (c : Cell) (before now : Option (List ℕ)) → WritesFed end s cs c before now → end ≡ status.Usage → ⊥
fed_not_usage end s cs c before now wrote is = subst (λ e. WritesFed e s cs c before now) is wrote

pub fed_usage : (end : Status) (s : Setting) (types : Types) (feeders : ℕ) (plans : ℕ → List Fate) (text left : Option (List ℕ)) (c : Cell) (before now : Option (List ℕ)) → EndsFedAs end s types feeders plans text left c before now → end ≡ status.Usage → ⊥
fed_usage end s types feeders plans text left c before now (inl none) is = cc (none.memory, is)
fed_usage end s types feeders plans text left c before now (inr some) is = fed_not_usage end s some.parts c before now some.output is

pub fed_complete : AllComplete → AllFedLines → (words : List Text) (x : Choice) → Chooses words x → (end : Status) (types : Types) (feeders : ℕ) (plans : ℕ → List Fate) (text left : Option (List ℕ)) (c : Cell) (before now : Option (List ℕ))
    → EndsFedAs end x.setting types feeders plans text left c before now → AreComplete x.setting c.lanes
fed_complete law all words x chosen end types feeders plans text left c before now ends =
    let lines = fed_lines_clause end x.setting types feeders plans text left c before now all (chosen_setting words x chosen) ends in
    legal_complete law words x plans (asked_in lines.parts) c.lanes chosen (fed_legal end x.setting types feeders plans text left c before now ends) lines.fates

-- ---- where no lane was made

pub fed_opened : (s : Setting) (types : Types) (feeders : ℕ) (plans : ℕ → List Fate) (text left : Option (List ℕ)) (c : Cell) (before : Option (List ℕ)) → (c.lanes ≡ []) × ((c.dealt ≡ 0) × ((c.upkeeps ≡ []) × (c.fronts ≡ [])))
    → EndsFedAs status.NoMemory s types feeders plans text left c before before
fed_opened s types feeders plans text left c before is = inl (record { memory = refl; none = is.0; dealt = is.1.0; unkept = is.1.1.0; unread = is.1.1.1; kept = keeps_same before })

pub fed_unmade : (s : Setting) (types : Types) (feeders : ℕ) (plans : ℕ → List Fate) (text left : Option (List ℕ)) (c : Cell) (before : Option (List ℕ)) → Rattle.std.proofs.Common.IsTrue (is_empty c)
    → EndsFedAs status.NoMemory s types feeders plans text left c before before
fed_unmade s types feeders plans text left c before h = fed_opened s types feeders plans text left c before (empty_cell c h)

-- ---- of what the words choose

-- what holds of the choice that was made holds of each that the words choose
pub of_chosen : (words : List Text) (a x : Choice) (P : Choice → Type 0) → ChoosesFed words a → ChoosesFed words x → P a → P x
of_chosen words a x P p q holds = subst P (one_choice words a x p.chooses q.chooses) holds
