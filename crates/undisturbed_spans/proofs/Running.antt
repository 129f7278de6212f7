-- A round that is run in a quiet span.
use Rattle.std.proofs.Common.{◌≡◌, ◌&&◌, ◌++◌, ◌+◌, ◌<◌, ◌≤◌, ℕ, Bool, true, false, nat_lt, List, [], ◌∷◌, length, Some, None, is_some, inl, inr, refl, sym, ap, ap₂, ◌∙◌, subst, arith, append_assoc}
use Rattle.std.proofs.lemmas.Bool.{cases_lt}
use Rattle.std.proofs.lemmas.Bool.Decides.{nat_tests}
use Rattle.bucket_ids.specs.Buckets.{Low}
use Rattle.node_sets.specs.Members.{has_node, size_of, size_below}
use Rattle.cluster_states.specs.declared.cluster_state.ClusterState.{ClusterState}
use Rattle.cluster_states.specs.Publishing.{serves}
use Rattle.carriers.specs.declared.fate.Fate.{Fate}
use Rattle.messages.specs.declared.late.Late.{Late}
use Rattle.messages.specs.Noting.{message_of, noted_body}
use Rattle.messages.specs.declared.body.Body.{Body}
use Rattle.messages.specs.declared.body.Body.TheVariants as body
use Rattle.messages.specs.declared.message.Message.{Message}
use Rattle.messages.specs.declared.message.Origin.{Origin}
use Rattle.merge_rounds.specs.Rounds.{RoundState, did_show, IsRead, IsApply}
use Rattle.lane_journals.specs.Events as plain
use Rattle.lane_journals.specs.Readers as readers
use Rattle.lane_journals.specs.Readers.{Given, sent, first_reply, returned, stopped, answer, version, round_of, running, round_in}
use Rattle.lane_journals.specs.Meanings.{history, entry_at, meaning_body}
use Rattle.lane_journals.specs.declared.event.LaneEvent.{LaneEvent}
use Rattle.lane_keeping.specs.Flights.{Brings}
use Rattle.lane_keeping.specs.Unions.{IsUnion}
use Rattle.lane_keeping.specs.Replaying.{sending}
use Rattle.lane_keeping.specs.Spans.{GoBy, NodesGo}
use Rattle.lane_carriage.specs.Carriage.{met, IsDealt, AreDelivered, due, IsCarried}
use Rattle.lane_carriage.specs.Waits.{numbers, IsWaiting}
use Rattle.lane_carriage.specs.Laws.{OfTaken}
use Rattle.upkeep_spans.specs.Spans.{later, IsUpkeepBody, IsUpkeepEvent, AreUpkeep, OfUpkeep}
use Rattle.pass_model.specs.Lanes.{IsPassBody}
use Rattle.pass_model.specs.Scripts.{Script}
use Rattle.lane_keeping.specs.RoundKeeping.{origin_in, was_sent, is_apply, is_of, is_among_first}
use Rattle.lane_carriage.specs.Carrying.{AreCarried}
use Rattle.round_keeping.specs.RoundRuns.{Sends, SendsNext, IsRoundRun, Nothing, Further, WasRefused, is_read_in, is_apply_in}
use Rattle.round_keeping.proofs.Runs.{runs-carried}
use Rattle.lane_journals.proofs.Basics.{sent-stays, first_reply-stays, returned-stays}
use Rattle.undisturbed_spans.specs.Undisturbed.{GoesUndisturbed}
use Rattle.undisturbed_spans.specs.Telling.{IsSaid, IsToldIn, IsFresh, IsAskedOf, IsShownIn}
use Rattle.undisturbed_spans.proofs.Takings.{Nodes, Events, one-span, the, sent-now}
use Rattle.undisturbed_spans.specs.Rounding.{HasRounded, was_told, IsNextOf, AreAlike}
use Rattle.undisturbed_spans.proofs.Rounding.{begins, asked, told}
use Rattle.undisturbed_spans.proofs.Uniting.{unites}
use Rattle.undisturbed_spans.specs.Running.{union_of, NoneWants, IsStarted, IsRunTo}

-- ---- want of memory stays known

refused-stays : (J : Events) (test : readers.Message → Type 0) (X : Events) → WasRefused (history J) test → WasRefused (history (X ++ J)) test
refused-stays J test [] w = w
refused-stays J test (e ∷ X) w =
    let u = refused-stays J test X w in
    record {
      number = u.number;
      message = u.message;
      was_sent = sent-stays u.number (history (X ++ J)) u.message _ u.was_sent;
      tested = u.tested;
      reply = first_reply-stays u.number (history (X ++ J)) plain.NoMemory _ u.reply;
      back = returned-stays u.number (history (X ++ J)) _ u.back;
    }

fine-before : (J K X : Events) (v number : ℕ) (b : Low) → K ≡ X ++ J → NoneWants K v number b → NoneWants J v number b
fine-before J K X v number b e h = record {
  reads = λ w. h.reads (subst (λ (E : Events). WasRefused (history E) (is_read_in v b number)) (sym e) (refused-stays J (is_read_in v b number) X w));
  applies = λ w. h.applies (subst (λ (E : Events). WasRefused (history E) (is_apply_in v b number)) (sym e) (refused-stays J (is_apply_in v b number) X w));
}

-- ---- the message's own events

module _ (M L : Events) (k : ℕ) (m : Message) (f : IsFresh M L k m) where
  here : sent k (history L) ≡ Some (the M k m)
  here = elim f.takings [
    | inl o ↦ ap (λ (E : Events). sent k (history E)) o.1 ∙ sent-now M k m f.unsent
    | inr o ↦ ap (λ (E : Events). sent k (history E)) o.2 ∙ sent-now M k m f.unsent
  ]

  same-rounds : (v : ℕ) (b : Low) → round_of v b (history L) ≡ round_of v b (history M)
  same-rounds v b = elim f.takings [
    | inl o ↦ ap (λ (E : Events). round_of v b (history E)) o.1
    | inr o ↦ ap (λ (E : Events). round_of v b (history E)) o.2
  ]

  same-running : (v : ℕ) (b : Low) → running v b (history L) ≡ running v b (history M)
  same-running v b = elim f.takings [
    | inl o ↦ ap (λ (E : Events). running v b (history E)) o.1
    | inr o ↦ ap (λ (E : Events). running v b (history E)) o.2
  ]

-- ---- who is told and who isn't yet

none-first : (t : Bool) (i : ℕ) → (t && nat_lt i 0) ≡ false
none-first t i = grind (arith, nat_tests)

not-before : (t : Bool) (i n : ℕ) → i ≡ n → (t && nat_lt i n) ≡ false
not-before t i n e = grind (arith, nat_tests)

none-applied : (a reads size : ℕ) → (0 < a → size ≤ reads) → reads < size → a ≡ 0
none-applied a reads size h less = elim (cases_lt 0 a) [
  | inl more ↦ (let le = h more in absurd (omega (arith, le, less)))
  | inr zero ↦ omega (arith, zero)
]

both-so : (x y : Bool) → (x ≡ true → y ≡ true) → (y ≡ true → x ≡ true) → x ≡ y
both-so true y f g = sym (f refl)
both-so false true f g = g refl
both-so false false f g = refl

module _ (none : (d v : ℕ) (J : Events) → AreUpkeep d v J J) (one_more : (d v : ℕ) (J K : Events) (e : LaneEvent) → IsUpkeepEvent d v e → AreUpkeep d v J K → AreUpkeep d v J (e ∷ K))
    (further : (d v : ℕ) (J K L : Events) → AreUpkeep d v J K → AreUpkeep d v K L → AreUpkeep d v J L)
    (dealt : (d v : ℕ) (f : Fate) (n : ℕ) (J K : Events) → IsDealt f n J K → AreUpkeep d v J K) (delivered : (d v : ℕ) (ns : List ℕ) (J K : Events) → AreDelivered ns J K → AreUpkeep d v J K)
    (span : OfUpkeep (λ J K. K ≡ later (length J) K ++ J)) (behind : (J N : Events) → later (length J) (N ++ J) ≡ N)
    (waiting : OfTaken (λ given last late f taken rest. IsWaiting (given ++ f ∷ []) (last + 1) rest)) (are_due : OfTaken (λ given last late f taken rest. numbers taken ≡ due (given ++ f ∷ []) (last + 1)))
    (first-part : (e v : ℕ) (d : Script) (given more : List Fate) (J K L : Events) → AreUpkeep e v J K → AreUpkeep e v K L → IsCarried given K → IsCarried (given ++ more) L → GoesUndisturbed d (given ++ more) J L → GoesUndisturbed d given J K)
    (second-part : (e v : ℕ) (d : Script) (given more : List Fate) (J K L : Events) → AreUpkeep e v J K → AreUpkeep e v K L → IsCarried given K → IsCarried (given ++ more) L → GoesUndisturbed d (given ++ more) J L → GoesUndisturbed d (given ++ more) K L)
    (nodes-part : (J K L : Events) (old now : Nodes) (X Y : Events) → K ≡ X ++ J → L ≡ Y ++ K → NodesGo J old L now → (mid : Nodes) × NodesGo J old K mid × NodesGo K mid L now)
    (read-fresh : (given : List Fate) (f : Fate) (J K : Events) (old now : Nodes) (m : Message) (b : Low) → IsAskedOf given f J K old now m b → IsFresh J K (length given + 1) m)
    (read-back : (given : List Fate) (f : Fate) (J K : Events) (old now : Nodes) (m : Message) (b : Low) → IsAskedOf given f J K old now m b → returned (length given + 1) (history K) ≡ true)
    (read-shown : (given : List Fate) (f : Fate) (J K : Events) (old now : Nodes) (m : Message) (b : Low) → IsAskedOf given f J K old now m b → (first_reply (length given + 1) (history K) ≡ Some plain.NoMemory → ⊥) → IsShownIn J K old now (length given + 1) m b)
    (said-fresh : (d : Script) (given : List Fate) (f : Fate) (J K : Events) (old now : Nodes) (m : Message) → IsSaid d given f J K old now m → IsFresh J K (length given + 1) m)
    (said-back : (d : Script) (given : List Fate) (f : Fate) (J K : Events) (old now : Nodes) (m : Message) → IsSaid d given f J K old now m → returned (length given + 1) (history K) ≡ true)
    (said-told : (d : Script) (given : List Fate) (f : Fate) (J K : Events) (old now : Nodes) (m : Message) → IsSaid d given f J K old now m → (first_reply (length given + 1) (history K) ≡ Some plain.NoMemory → ⊥) → IsToldIn d J K old now (length given + 1) m)
    (d : Script) (lane : Low) (distributor : ℕ) (s : ClusterState) where
  abbrev v : ℕ
  v = s.version

  -- ---- the spans of a run

  message-on : (m : Message) (fate : Fate) (last : ℕ) (late : List Late) (M : Events) (rest : List Late) (L : Events) → m.sender ≡ distributor → m.version ≡ s.version → IsUpkeepBody (noted_body m.body) → Sends m fate last late M rest L
      → AreUpkeep distributor s.version M L
  message-on m fate last late M rest L sender of-version of-body h =
      further distributor v M h.after L
      (further distributor v M (sending (last + 1) m ∷ M) h.after (one_more distributor v M M (sending (last + 1) m) (sender, of-version, of-body) (none distributor v M)) (dealt distributor v _ (last + 1) (sending (last + 1) m ∷ M) h.after h.dealt))
      (delivered distributor v (numbers (h.due).taken) h.after L (h.due).delivered)

  module _ (fate : Fate) (last : ℕ) (late : List Late) (M : Events) (rest : List Late) (L : Events) (h : SendsNext lane distributor s fate last late M rest L) where
    origin : (h.round).origin ≡ origin_in lane distributor s
    origin = (h.knows).origin_is

    next-is : (x : Body) → h.message ≡ message_of (h.round).origin (h.message).receiver x → (h.message).body ≡ x
    next-is x e = ap (λ (y : Message). y.body) e

    next-version : (x : Body) → h.message ≡ message_of (h.round).origin (h.message).receiver x → (h.message).version ≡ s.version
    next-version x e = ap (λ (y : Message). y.version) e ∙ ap (λ (o : Origin). o.version) origin

    next-sender : (x : Body) → h.message ≡ message_of (h.round).origin (h.message).receiver x → (h.message).sender ≡ distributor
    next-sender x e = ap (λ (y : Message). y.sender) e ∙ ap (λ (o : Origin). o.sender) origin

    step-on : AreUpkeep distributor s.version M L
    step-on = elim h.next [
      | inl read ↦ message-on h.message fate last late M rest L (next-sender _ read.is) (next-version _ read.is) (subst (λ (x : Body). IsUpkeepBody (noted_body x)) (sym (next-is _ read.is)) tt) h.sends
      | inr apply ↦ message-on h.message fate last late M rest L (next-sender _ apply.is) (next-version _ apply.is) (subst (λ (x : Body). IsUpkeepBody (noted_body x)) (sym (next-is _ apply.is)) tt) h.sends
    ]

  run-on : (last : ℕ) (late : List Late) (J : Events) (fates : List Fate) (rest : List Late) (K : Events) → IsRoundRun lane distributor s last late J fates rest K → AreUpkeep distributor s.version J K
  run-on last late J fates rest K Nothing = none distributor v J
  run-on last late J fates rest K (Further before mid M fate left L run h) =
      further distributor v J M L (run-on last late J before mid M run) (step-on fate (last + length before) mid M left L h)

  -- ---- one message

  module _ (J M L : Events) (old mid now : Nodes) (number : ℕ) (b : Low) (start : (n : ℕ) → serves s n ≡ true → version n (history J) ≡ s.version) (few : (n : ℕ) → serves s n ≡ true → n < 32) (so-far : IsRunTo d s J M old mid number b)
      (g : List Fate) (fate : Fate) (last : ℕ) (late rest : List Late) (carried : AreCarried g M last late) (h : SendsNext lane distributor s fate last late M rest L)
      (nodes : NodesGo M mid L now) (quiet : GoesUndisturbed d (g ++ fate ∷ []) M L) (fine : NoneWants L s.version number b) where
    abbrev m : Message
    m = h.message

    abbrev r : RoundState
    r = h.round

    row : b ≡ r.row
    row = (h.knows).only b so-far.under_way

    number-is : round_of s.version r.row (history M) ≡ number
    number-is = ap (λ (x : Low). round_of s.version x (history M)) (sym row) ∙ so-far.round_is

    knows-version : (n : ℕ) → serves s n ≡ true → version n (history M) ≡ s.version
    knows-version n e = so-far.versions n ∙ start n e

    counted : last ≡ length g
    counted = (carried.waiting).counted

    dealt-here : IsDealt (met (stopped m.receiver (history M)) fate) (length g + 1) (sending (length g + 1) m ∷ M) (h.sends).after
    dealt-here = subst (λ (i : ℕ). IsDealt (met (stopped m.receiver (history M)) fate) (i + 1) (sending (i + 1) m ∷ M) (h.sends).after) counted (h.sends).dealt

    late-here : AreDelivered (due (g ++ fate ∷ []) (length g + 1)) (h.sends).after L
    late-here = subst (λ (i : ℕ). AreDelivered (due (g ++ fate ∷ []) (i + 1)) (h.sends).after L) counted
        (subst (λ (ns : List ℕ). AreDelivered ns (h.sends).after L) (are_due g last late fate m ((h.sends).due).taken rest carried.waiting ((h.sends).due).are_taken (h.sends).none_left) ((h.sends).due).delivered)

    of-reader : (n : ℕ) → has_node r.readers n ≡ serves s n
    of-reader = ((h.knows).answers).readers_are

    untold-by : (n : ℕ) → is_among_first r.receivers r.applies n ≡ false → was_told s.version number n M ≡ false
    untold-by n e = ap (λ (i : ℕ). was_sent (is_of is_apply s.version i n) (history M)) (sym number-is) ∙ (h.knows).applies_are n ∙ e

    -- ---- a Read

    module _ (read : IsRead r m) where
      body-is : m.body ≡ body.Read b None
      body-is = ap (λ (x : Message). x.body) read.is ∙ ap (λ (x : Low). body.Read x None) (sym row)

      of-version : m.version ≡ s.version
      of-version = ap (λ (x : Message). x.version) read.is ∙ ap (λ (o : Origin). o.version) (h.knows).origin_is

      serving : serves s m.receiver ≡ true
      serving = sym (of-reader m.receiver) ∙ (read.to).member

      asks : IsAskedOf g fate M L mid now m b
      asks = record {
        carried = carried.carried;
        body_is = body-is;
        current = knows-version m.receiver serving ∙ sym of-version;
        between = (h.sends).after;
        dealt = dealt-here;
        late = late-here;
        nodes = nodes;
        quiet = quiet.quiet;
      }

      fresh : IsFresh M L (length g + 1) m
      fresh = read-fresh g fate M L mid now m b asks

      no-want : first_reply (length g + 1) (history L) ≡ Some plain.NoMemory → ⊥
      no-want e = fine.reads (record {
        number = length g + 1;
        message = the M (length g + 1) m;
        was_sent = here M L (length g + 1) m fresh;
        tested = (of-version, ap₂ (λ w x. round_in w (meaning_body M (noted_body x)) (history M)) of-version body-is ∙ so-far.round_is, ap (λ x. meaning_body M (noted_body x)) body-is);
        reply = e;
        back = read-back g fate M L mid now m b asks;
      })

      shown : IsShownIn M L mid now (length g + 1) m b
      shown = read-shown g fate M L mid now m b asks no-want

      next-of : IsNextOf M L s.version number b (length g + 1) m
      next-of = record {
        unsent = fresh.unsent;
        silent = fresh.silent;
        version_is = of-version;
        round_is = so-far.round_is;
        untold = untold-by m.receiver
            (ap (λ (i : ℕ). has_node r.receivers m.receiver && nat_lt (size_below r.receivers m.receiver) i) (none-applied r.applies r.reads (size_of r.readers) (h.knows).order read.turn)
            ∙ none-first (has_node r.receivers m.receiver) (size_below r.receivers m.receiver));
        takings = fresh.takings;
      }

      after-read : IsRunTo d s J L old now number b
      after-read = record {
        has = asked d J M L old mid now s.version number b (union_of s old) (length g + 1) m so-far.has next-of body-is shown;
        versions = λ n. shown.versions n ∙ so-far.versions n;
        round_is = same-rounds M L (length g + 1) m fresh s.version b ∙ so-far.round_is;
        under_way = same-running M L (length g + 1) m fresh s.version b ∙ so-far.under_way;
      }

    -- ---- an Apply

    module _ (apply : IsApply r m) where
      body-as : m.body ≡ body.Apply b r.union
      body-as = ap (λ (x : Message). x.body) apply.is ∙ ap (λ (x : Low). body.Apply x r.union) (sym row)

      as-version : m.version ≡ s.version
      as-version = ap (λ (x : Message). x.version) apply.is ∙ ap (λ (o : Origin). o.version) (h.knows).origin_is

      says : IsSaid d g fate M L mid now m
      says = record {
        carried = carried.carried;
        of_pass = subst IsPassBody (sym body-as) tt;
        brings = subst (λ (x : Body). Brings (λ t. entry_at t M) x) (sym body-as) ((h.knows).answers).written;
        current = knows-version m.receiver ((h.knows).receivers_serve m.receiver (apply.to).member) ∙ sym as-version;
        between = (h.sends).after;
        dealt = dealt-here;
        late = late-here;
        nodes = nodes;
        quiet = quiet;
      }

      fresh-one : IsFresh M L (length g + 1) m
      fresh-one = said-fresh d g fate M L mid now m says

      never-wants : first_reply (length g + 1) (history L) ≡ Some plain.NoMemory → ⊥
      never-wants e = fine.applies (record {
        number = length g + 1;
        message = the M (length g + 1) m;
        was_sent = here M L (length g + 1) m fresh-one;
        tested = (as-version, ap₂ (λ w x. round_in w (meaning_body M (noted_body x)) (history M)) as-version body-as ∙ so-far.round_is, (_, ap (λ x. meaning_body M (noted_body x)) body-as));
        reply = e;
        back = said-back d g fate M L mid now m says;
      })

      tells-it : IsToldIn d M L mid now (length g + 1) m
      tells-it = said-told d g fate M L mid now m says never-wants

      all-shown : (n : ℕ) → serves s n ≡ did_show n r.shown
      all-shown n = both-so (serves s n) (did_show n r.shown) (λ e. apply.whole n (of-reader n ∙ e)) (λ e. sym (of-reader n) ∙ ((h.knows).answers).reading n e)

      answered-shown : (n : ℕ) (w : Given) → answer s.version number n (history M) ≡ Some w → did_show n r.shown ≡ true
      answered-shown n w e = ((h.knows).answers).shown_are n ∙ ap (λ (i : ℕ). is_some (answer s.version i n (history M))) number-is ∙ ap is_some e

      alike : AreAlike b r.union (union_of s old)
      alike = unites s.version number (history M) b old (serves s) (λ n. did_show n r.shown) r.union (so-far.has).given
          (subst (λ (i : ℕ). IsUnion s.version i (history M) (λ n. did_show n r.shown) r.union) number-is ((h.knows).answers).union_is) all-shown few answered-shown

      next-as : IsNextOf M L s.version number b (length g + 1) m
      next-as = record {
        unsent = fresh-one.unsent;
        silent = fresh-one.silent;
        version_is = as-version;
        round_is = so-far.round_is;
        untold = untold-by m.receiver (not-before (has_node r.receivers m.receiver) (size_below r.receivers m.receiver) r.applies (apply.to).place);
        takings = fresh-one.takings;
      }

      after-apply : IsRunTo d s J L old now number b
      after-apply = record {
        has = told d J M L old mid now s.version number b (union_of s old) (length g + 1) m so-far.has next-as r.union body-as alike tells-it;
        versions = λ n. tells-it.versions n ∙ so-far.versions n;
        round_is = same-rounds M L (length g + 1) m fresh-one s.version b ∙ so-far.round_is;
        under_way = same-running M L (length g + 1) m fresh-one s.version b ∙ so-far.under_way;
      }

    one-more-message : IsRunTo d s J L old now number b
    one-more-message = elim h.next [
      | inl read ↦ after-read read
      | inr apply ↦ after-apply apply
    ]

  -- ---- all of them

  carried-at : (given : List Fate) (last : ℕ) (late : List Late) (J : Events) (fates : List Fate) (rest : List Late) (K : Events) → IsRoundRun lane distributor s last late J fates rest K → AreCarried given J last late → AreCarried (given ++ fates) K (last + length fates) rest
  carried-at given last late J fates rest K run c = runs-carried waiting are_due lane distributor s given (given ++ fates) last (last + length fates) late rest J K (record { fates = fates; given_are = refl; last_is = refl; run = run }) c

  pub ran : (given : List Fate) (last : ℕ) (late : List Late) (J : Events) (old : Nodes) (number : ℕ) (b : Low) → IsStarted s given last late J number b
      → (fates : List Fate) (rest : List Late) (K : Events) → IsRoundRun lane distributor s last late J fates rest K → (now : Nodes) → NodesGo J old K now → GoesUndisturbed d (given ++ fates) J K → NoneWants K s.version number b
      → IsRunTo d s J K old now number b
  ran given last late J old number b start fates rest K Nothing now go quiet fine = record {
    has = settled;
    versions = λ n. refl;
    round_is = start.round_is;
    under_way = start.under_way;
  }
    where
      settled : HasRounded d J J old now s.version number b (union_of s old)
      settled = subst (λ (f : Nodes). HasRounded d J J old f s.version number b (union_of s old)) (sym same) (begins d J old s.version number b (union_of s old) start.unsent)
        where
          still : (n : ℕ) → now n ≡ old n
          still = subst (λ (N : Events). GoBy N J old now) (one-span behind J J go.span [] go.grows refl) go.went

          same : now ≡ old
          same = λ i n. still n i
  ran given last late J old number b start fates rest K (Further before mid M fate left L run h) now go quiet fine =
      let on = run-on last late J before mid M run in
      let next = step-on fate (last + length before) mid M left L h in
      let c = carried-at given last late J before mid M run start.carried in
      let cc-now = carried-at given last late J (before ++ fate ∷ []) left L (Further before mid M fate left L run h) start.carried in
      let same : (given ++ before) ++ fate ∷ [] ≡ given ++ (before ++ fate ∷ []) = append_assoc given before (fate ∷ []) in
      let all-carried : IsCarried ((given ++ before) ++ fate ∷ []) L = subst (λ (f : List Fate). IsCarried f L) (sym same) cc-now.carried in
      let all-quiet : GoesUndisturbed d ((given ++ before) ++ fate ∷ []) J L = subst (λ (f : List Fate). GoesUndisturbed d f J L) (sym same) quiet in
      let first-span : M ≡ later (length J) M ++ J = span distributor v J M on in
      let second-span : L ≡ later (length M) L ++ M = span distributor v M L next in
      let parts = nodes-part J M L old now (later (length J) M) (later (length M) L) first-span second-span go in
      let so-far = ran given last late J old number b start before mid M run parts.0 parts.1 (first-part distributor v d (given ++ before) (fate ∷ []) J M L on next c.carried all-carried all-quiet)
      (fine-before M L (later (length M) L) s.version number b second-span fine) in
      one-more-message J M L old parts.0 now number b start.current start.few so-far (given ++ before) fate (last + length before) mid left c h parts.2
      (second-part distributor v d (given ++ before) (fate ∷ []) J M L on next c.carried all-carried all-quiet) fine
