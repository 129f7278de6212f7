-- Which late messages wait after one message more.
use Rattle.std.proofs.Common.{◌≡◌, ◌==◌, ◌+◌, ◌≤◌, ◌<◌, ℕ, Bool, true, false, List, [], ◌∷◌, ◌++◌, length, nat_le, Some, if◌then◌else◌, inl, inr, refl, sym, ap, ◌∙◌, subst, append_assoc, arith, eq-eqb, length-append}
use Rattle.std.proofs.lemmas.Bool.{cases_lt}
use Rattle.std.proofs.lemmas.Bool.Decides.{nat_tests}
use Rattle.std.proofs.lemmas.List.{append-nil}
use Rattle.carriers.specs.declared.fate.Fate.{Fate}
use Rattle.carriers.specs.declared.fate.Fate.TheVariants as fate
use Rattle.messages.specs.declared.message.Message.{Message}
use Rattle.messages.specs.declared.noted.NotedBody.{NotedBody}
use Rattle.messages.specs.declared.noted.NotedReply.{NotedReply}
use Rattle.lane_journals.specs.Readers.{stopped}
use Rattle.lane_journals.specs.Meanings.{history}
use Rattle.lane_journals.specs.declared.event.LaneEvent.{LaneEvent}
use Rattle.lane_journals.specs.declared.event.LaneEvent.TheVariants.{Sent, Delivered}
use Rattle.messages.specs.Waiting.{Each, IsBefore, AreRising, kept, AreSentBefore, NoneIsDue, IsTaken}
use Rattle.messages.specs.declared.late.Late.{Late}
use Rattle.messages.proofs.Eaches.{each-append, each-first}
use Rattle.lane_carriage.specs.Carriage.{met, IsDealt, is_cut_off, IsGivenOut, AreDelivered, is_due, due_from, due, IsCarried, Message as OneMore}
use Rattle.lane_carriage.specs.Waits.{numbers, due_at, IsWaiting, kept_by, AreTaken}
use Rattle.lane_carriage.proofs.Fates.{due-append}

-- ---- facts of each

each-more : (P Q : Late → Type 0) (xs : List Late) → ((l : Late) → P l → Q l) → Each P xs → Each Q xs
each-more P Q [] f h = tt
each-more P Q (x ∷ xs) f h = (f x h.0, each-more P Q xs f h.1)

each-kept : (P : Late → Type 0) (l : Late) (late : List Late) → P l → Each P late → Each P (kept l late)
each-kept P l [] p h = (p, tt)
each-kept P l (m ∷ late) p h = by (nat_le m.due l.due) (each-kept P l late p h.1)
  where
    by : (b : Bool) → Each P (kept l late) → Each P (if b then m ∷ kept l late else l ∷ m ∷ late)
    by true ih = (h.0, ih)
    by false ih = (p, h)

-- ---- order

later-due : (due : ℕ) (m : Late) (late : List Late) → due < m.due → Each (IsBefore m) late → Each (λ l. due < l.due) late
later-due due m late lt h = each-more (IsBefore m) (λ l. due < l.due) late (λ l b. after l b) h
  where
    after : (l : Late) → IsBefore m l → due < l.due
    after l (inl h) = omega arith
    after l (inr h) = let same = h.0 in omega arith

rising-second : (xs ys : List Late) → AreRising (xs ++ ys) → AreRising ys
rising-second [] ys r = r
rising-second (x ∷ xs) ys r = rising-second xs ys r.1

-- ---- what is due

nothing-due : (n : ℕ) (late : List Late) → Each (λ l. n < l.due) late → due_at n late ≡ []
nothing-due n [] h = refl
nothing-due n (l ∷ late) h = let rest = nothing-due n late h.1 in let own = h.0 in grind (arith, nat_tests)

nothing-due-now : (n now : ℕ) (late : List Late) → now < n → Each (λ l. l.due ≤ now) late → due_at n late ≡ []
nothing-due-now n now [] lt h = refl
nothing-due-now n now (l ∷ late) lt h = let rest = nothing-due-now n now late lt h.1 in let own = h.0 in grind (arith, nat_tests)

all-due : (last n : ℕ) (late : List Late) → n ≡ last + 1 → Each (λ l. l.due ≤ n) late → Each (λ l. last < l.due) late → due_at n late ≡ numbers late
all-due last n [] e h k = refl
all-due last n (l ∷ late) e h k =
    let rest = all-due last n late e h.1 k.1 in let now : (l.due == n) ≡ true = (let up = h.0 in let low = k.0 in grind (arith, nat_tests)) in
    rw now (ap (λ (ns : List ℕ). l.number ∷ ns) rest)

due-at-append : (n : ℕ) (xs ys : List Late) → due_at n (xs ++ ys) ≡ due_at n xs ++ due_at n ys
due-at-append n [] ys = refl
due-at-append n (x ∷ xs) ys = by (x.due == n) (due-at-append n xs ys)
  where
    by : (b : Bool) → due_at n (xs ++ ys) ≡ due_at n xs ++ due_at n ys
        → (if b then x.number ∷ due_at n (xs ++ ys) else due_at n (xs ++ ys)) ≡ (if b then x.number ∷ due_at n xs else due_at n xs) ++ due_at n ys
    by true ih = ap (λ (ns : List ℕ). x.number ∷ ns) ih
    by false ih = ih

-- ---- one more is kept

-- it lies behind all that are due no later
due-at-kept : (l : Late) (late : List Late) (n : ℕ) → AreRising late
    → due_at n (kept l late) ≡ due_at n late ++ (if l.due == n then l.number ∷ [] else [])
due-at-kept l [] n r = refl
due-at-kept l (m ∷ late) n r = elim (cases_lt l.due m.due) [
  | inl less ↦
      let no : nat_le m.due l.due ≡ false = grind (arith, nat_tests) in
      rw no (first (l.due == n) refl (λ e. nothing-due n (m ∷ late) (grind arith, later-due n m late (grind arith) r.0)))
  | inr more ↦
      let yes : nat_le m.due l.due ≡ true = grind (arith, nat_tests) in
      rw yes (behind (m.due == n) (due-at-kept l late n r.1))
]
  where
    first : (b : Bool) → (l.due == n) ≡ b → (l.due ≡ n → due_at n (m ∷ late) ≡ [])
        → (if b then l.number ∷ due_at n (m ∷ late) else due_at n (m ∷ late)) ≡ due_at n (m ∷ late) ++ (if b then l.number ∷ [] else [])
    first true e none = let same : due_at n (m ∷ late) ≡ [] = none (grind (arith, nat_tests)) in rw same refl
    first false e none = sym (append-nil (due_at n (m ∷ late)))

    behind : (b : Bool) → due_at n (kept l late) ≡ due_at n late ++ (if l.due == n then l.number ∷ [] else [])
        → (if b then m.number ∷ due_at n (kept l late) else due_at n (kept l late)) ≡ (if b then m.number ∷ due_at n late else due_at n late) ++ (if l.due == n then l.number ∷ [] else [])
    behind true ih = ap (λ (ns : List ℕ). m.number ∷ ns) ih
    behind false ih = ih

rising-kept : (l : Late) (late : List Late) → AreRising late → AreSentBefore l.number late → AreRising (kept l late)
rising-kept l [] r h = (tt, tt)
rising-kept l (m ∷ late) r h = elim (cases_lt l.due m.due) [
  | inl less ↦
      let no : nat_le m.due l.due ≡ false = grind (arith, nat_tests) in
      rw no ((inl less, each-more (λ x. l.due < x.due) (IsBefore l) late (λ x b. inl b) (later-due l.due m late less r.0)), r)
  | inr more ↦
      let yes : nat_le m.due l.due ≡ true = grind (arith, nat_tests) in
      rw yes (each-kept (IsBefore m) l late (before more) r.0, rising-kept l late r.1 h.1)
]
  where
    before : m.due ≤ l.due → IsBefore m l
    before le = elim (cases_lt m.due l.due) [
      | inl less ↦ inl less
      | inr more ↦ inr (omega (arith, le, more), h.0)
    ]

-- ---- numbers

abbrev AllBelow : ℕ → List ℕ → Type 0
AllBelow b [] = Unit {0}
AllBelow b (n ∷ ns) = (n < b) × AllBelow b ns

due-below : (b i : ℕ) (given : List Fate) (n : ℕ) → i + length given ≤ b → AllBelow b (due_from i given n)
due-below b i [] n le = tt
due-below b i (f ∷ given) n le = by (is_due i f n) (due-below b (i + 1) given n (omega arith))
  where
    by : (t : Bool) → AllBelow b (due_from (i + 1) given n) → AllBelow b (if t then i ∷ due_from (i + 1) given n else due_from (i + 1) given n)
    by true ih = (omega arith, ih)
    by false ih = ih

sent-below : (b last : ℕ) (late : List Late) → ((n : ℕ) → last < n → AllBelow b (due_at n late)) → Each (λ l. last < l.due) late → AreSentBefore b late
sent-below b last [] h k = tt
sent-below b last (l ∷ late) h k = (
  (let own : AllBelow b (due_at l.due (l ∷ late)) = h l.due k.0 in let same : (l.due == l.due) ≡ true = eq-eqb l.due l.due refl in (rw same at own).0),
  sent-below b last late (λ n lt. rest n (l.due == n) (h n lt)) k.1,
)
  where
    rest : (n : ℕ) (t : Bool) → AllBelow b (if t then l.number ∷ due_at n late else due_at n late) → AllBelow b (due_at n late)
    rest n true h = h.1
    rest n false h = h

pub sent-before : (given : List Fate) (last : ℕ) (late : List Late) → IsWaiting given last late → AreSentBefore (last + 1) late
sent-before given last late w =
    sent-below (last + 1) last late (λ n lt. subst (AllBelow (last + 1)) (sym (w.each n lt)) (due-below (last + 1) 1 given n (omega (arith, w.counted)))) w.later

-- ---- one message more

-- before those that are due are taken
record IsKept (given : List Fate) (last : ℕ) (late : List Late) : Type 0 where
  counted : last + 1 ≡ length given
  each : (n : ℕ) → last < n → due_at n late ≡ due given n
  later : Each (λ l. last < l.due) late
  rising : AreRising late

prompt-due : (given : List Fate) (f : Fate) (n : ℕ) → is_due (1 + length given) f n ≡ false → due given n ≡ due (given ++ f ∷ []) n
prompt-due given f n prompt =
    sym (append-nil (due given n)) ∙ sym (due-append 1 given f n ∙ ap (λ (t : Bool). due given n ++ (if t then (1 + length given) ∷ [] else [])) prompt)

kept-prompt : (given : List Fate) (last : ℕ) (late : List Late) (f : Fate) → ((j n : ℕ) → is_due j f n ≡ false) → IsWaiting given last late → IsKept (given ++ f ∷ []) last late
kept-prompt given last late f prompt w = record {
  counted = omega (arith, w.counted, length-append given (f ∷ []));
  each = λ n lt. w.each n lt ∙ prompt-due given f n (prompt (1 + length given) n);
  later = w.later;
  rising = w.rising;
}

kept-late : (given : List Fate) (last k : ℕ) (m : Message) (late : List Late) → IsWaiting given last late
    → IsKept (given ++ fate.Late k ∷ []) last (kept (record { due = last + 1 + k; number = last + 1; message = m }) late)
kept-late given last k m late w =
    let l : Late = record { due = last + 1 + k; number = last + 1; message = m } in
    let same : last + 1 ≡ 1 + length given = omega (arith, w.counted) in
    record {
      counted = omega (arith, w.counted, length-append given (fate.Late k ∷ []));
      each = λ n lt. due-at-kept l late n w.rising
          ∙ ap (λ (ns : List ℕ). ns ++ (if last + 1 + k == n then (last + 1) ∷ [] else [])) (w.each n lt)
          ∙ ap (λ (j : ℕ). due given n ++ (if j + k == n then j ∷ [] else [])) same
          ∙ sym (due-append 1 given (fate.Late k) n);
      later = each-kept (λ x. last < x.due) l late (omega arith) w.later;
      rising = rising-kept l late w.rising (sent-before given last late w);
    }

kept-by : (given : List Fate) (last : ℕ) (late : List Late) (f : Fate) (m : Message) → IsWaiting given last late
    → IsKept (given ++ f ∷ []) last (kept_by f (last + 1) m late)
kept-by given last late fate.Deliver m w = kept-prompt given last late fate.Deliver (λ j n. refl) w
kept-by given last late fate.LoseRequest m w = kept-prompt given last late fate.LoseRequest (λ j n. refl) w
kept-by given last late fate.LoseReply m w = kept-prompt given last late fate.LoseReply (λ j n. refl) w
kept-by given last late fate.Twice m w = kept-prompt given last late fate.Twice (λ j n. refl) w
kept-by given last late (fate.Late k) m w = kept-late given last k m late w

none-due : (now : ℕ) (late : List Late) → AreRising late → NoneIsDue now late → Each (λ l. now < l.due) late
none-due now [] r h = tt
none-due now (l ∷ late) r h = (h, later-due now l late h r.0)

-- what waits once those that are due were taken
rest-waits : (given : List Fate) (last : ℕ) (taken rest : List Late) → IsKept given last (taken ++ rest) → Each (λ l. l.due ≤ last + 1) taken
    → NoneIsDue (last + 1) rest → IsWaiting given (last + 1) rest
rest-waits given last taken rest k h none = record {
  counted = k.counted;
  each = λ n lt.
      let gone : due_at n taken ≡ [] = nothing-due-now n (last + 1) taken lt h in
      sym (due-at-append n taken rest ∙ ap (λ (ns : List ℕ). ns ++ due_at n rest) gone) ∙ k.each n (omega arith);
  later = none-due (last + 1) rest (rising-second taken rest k.rising) none;
  rising = rising-second taken rest k.rising;
}

taken-due : (given : List Fate) (last : ℕ) (taken rest : List Late) → IsKept given last (taken ++ rest) → Each (λ l. l.due ≤ last + 1) taken
    → NoneIsDue (last + 1) rest → numbers taken ≡ due given (last + 1)
taken-due given last taken rest k h none =
    let gone : due_at (last + 1) rest ≡ [] = nothing-due (last + 1) rest (none-due (last + 1) rest (rising-second taken rest k.rising) none) in
    sym (all-due last (last + 1) taken refl h (each-first (λ l. last < l.due) taken rest k.later))
    ∙ sym (append-nil (due_at (last + 1) taken)) ∙ ap (λ (ns : List ℕ). due_at (last + 1) taken ++ ns) (sym gone)
    ∙ sym (due-at-append (last + 1) taken rest) ∙ k.each (last + 1) (omega arith)

pub waiting : (given : List Fate) (last : ℕ) (late : List Late) (f : Fate) (m : Message) (taken rest : List Late)
    → IsWaiting given last late → AreTaken (last + 1) (kept_by f (last + 1) m late) taken rest → NoneIsDue (last + 1) rest
    → IsWaiting (given ++ f ∷ []) (last + 1) rest
waiting given last late f m taken rest w t none =
    rest-waits (given ++ f ∷ []) last taken rest (subst (IsKept (given ++ f ∷ []) last) t.all (kept-by given last late f m w)) t.due none

pub taken_are_due : (given : List Fate) (last : ℕ) (late : List Late) (f : Fate) (m : Message) (taken rest : List Late)
    → IsWaiting given last late → AreTaken (last + 1) (kept_by f (last + 1) m late) taken rest → NoneIsDue (last + 1) rest
    → numbers taken ≡ due (given ++ f ∷ []) (last + 1)
taken_are_due given last late f m taken rest w t none =
    taken-due (given ++ f ∷ []) last taken rest (subst (IsKept (given ++ f ∷ []) last) t.all (kept-by given last late f m w)) t.due none

-- the journal has the fate more, once the message was dealt with and those that are due were delivered
pub carried : (given : List Fate) (last : ℕ) (late : List Late) (f : Fate) (m : Message) (taken rest : List Late)
    → IsWaiting given last late → AreTaken (last + 1) (kept_by f (last + 1) m late) taken rest → NoneIsDue (last + 1) rest
    → (J after K : List LaneEvent) (version sender receiver : ℕ) (body : NotedBody) → IsCarried given J
    → IsDealt (met (stopped receiver (history J)) f) (last + 1) (Sent (last + 1) version sender receiver body ∷ J) after → AreDelivered (numbers taken) after K
    → IsCarried (given ++ f ∷ []) K
carried given last late f m taken rest w t none J after K version sender receiver body c own delivered =
    OneMore given J f K (record {
      version = version;
      sender = sender;
      receiver = receiver;
      body = body;
      after = after;
      dealt = subst (λ (n : ℕ). IsDealt (met (stopped receiver (history J)) f) (n + 1) (Sent (n + 1) version sender receiver body ∷ J) after) w.counted own;
      late = subst (λ (n : ℕ). AreDelivered (due (given ++ f ∷ []) (n + 1)) after K) w.counted
          (subst (λ (ns : List ℕ). AreDelivered ns after K) (taken_are_due given last late f m taken rest w t none) delivered);
    }) c

-- ---- taking one by one

pub further : (now : ℕ) (late taken rest left : List Late) (l : Late) → AreTaken now late taken rest → IsTaken now rest (Some l) left
    → AreTaken now late (taken ++ l ∷ []) left
further now late taken rest left l t h = record {
  all = t.all ∙ ap (λ (xs : List Late). taken ++ xs) h.1 ∙ sym (append_assoc taken (l ∷ []) left);
  due = each-append (λ x. x.due ≤ now) taken (l ∷ []) t.due (h.0, tt);
}

-- one more is given out behind the others
given-further : (c : Bool) (taken : List Late) (l : Late) (J K L : List LaneEvent) → AreDelivered (numbers taken) J K → is_cut_off l.number K ≡ c → IsGivenOut c l.number K L
    → AreDelivered (numbers (taken ++ l ∷ [])) J L
given-further c [] l J K L h cut out =
    (L, (subst (λ (M : List LaneEvent). IsGivenOut (is_cut_off l.number M) l.number M L) h (subst (λ (b : Bool). IsGivenOut b l.number K L) (sym cut) out), refl))
given-further c (x ∷ taken) l J K L h cut out = (h.0, (h.1.0, given-further c taken l h.0 K L h.1.1 cut out))

pub delivered-further : (taken : List Late) (l : Late) (J K : List LaneEvent) (r : NotedReply) → AreDelivered (numbers taken) J K → is_cut_off l.number K ≡ false
    → AreDelivered (numbers (taken ++ l ∷ [])) J (Delivered l.number r ∷ K)
delivered-further taken l J K r h runs = given-further false taken l J K (Delivered l.number r ∷ K) h runs (r, refl)

pub passed-over : (taken : List Late) (l : Late) (J K : List LaneEvent) → AreDelivered (numbers taken) J K → is_cut_off l.number K ≡ true
    → AreDelivered (numbers (taken ++ l ∷ [])) J K
passed-over taken l J K h halted = given-further true taken l J K K h halted refl
