-- What the lines of a segment are answered, line by line.
use Rattle.std.proofs.Common.{◌≡◌, ◌+◌, ℕ, suc, List, [], ◌∷◌, ◌++◌, Option, None, Some, inl, inr, refl, sym, ap, ap₂, ◌∙◌, subst, arith, length, length-append, append_assoc, append-nil}
use Rattle.cluster_states.specs.Publishing.{Told}
use Rattle.messages.specs.declared.outcome.Outcome.{Outcome}
use Rattle.query_text.specs.Grammar.{Said}
use Rattle.reports.specs.declared.answer.Answer.{Answer}
use Rattle.lane_calls.specs.Lines.{Lines}
use Rattle.lane_calls.specs.Readings.{outcome_in}
use Rattle.lane_lives.specs.declared.setting.Setting.{Setting}
use Rattle.lane_locks.specs.declared.lines.Stage.{Stage}
use Rattle.lane_locks.specs.Lines.{Listed}
use Rattle.session_cluster.specs.Cells.{Cell, journals_of}
use Rattle.session_cluster.specs.Lanes.{journal_in}
use Rattle.session_cluster.specs.Output.{outcome_answer, entry_of, closed_answer, found_answer_of, answer_in}
use Rattle.session_cluster.specs.Searches.{fronts_of, fronts_now}
use Rattle.session_cluster.specs.declared.searching.LineFronts.{LineFronts}
use Rattle.session_cluster.specs.declared.asked.Asked.{Asked}
use Rattle.session_cluster.specs.declared.asked.Asked.TheVariants as command
use Rattle.session_cluster.proofs.FrontLists.{fronts_other}
use Rattle.session_segments.specs.Fed.{front_of, fronts_from, answers_from}
use Rattle.session_segments.specs.Sorted.{IsOutcomeDue, IsFixed, IsDueFor, IsStillDue, AreDue, outcome_at, MayBeAnswered, IsUnread, IsAnswered, MayHaveRead, read_by, AreAnsweredSoFar, WasReadSoFar}
use Rattle.session_segments.specs.declared.sorting.Due.{Due}
use Rattle.session_segments.specs.declared.sorting.Due.TheVariants as due
use Rattle.session_segments.proofs.SegmentFronts.{fronts_append, fronts_found, fronts_later, fronts_behind}

-- ---- one line

pub fixed_due : (line : ℕ) (c : Asked) (a : Option Answer) (lists : List Listed) → ((s : Setting) (told : Told) (cell : Cell) → a ≡ answer_in s told line c cell) → ((fronts : List ℕ) → front_of line c fronts ≡ []) → IsStillDue line c (due.Fixed a) lists lists
fixed_due line c a lists is unread = record { due_is = inr (a, (record { is = is; unread = unread }, refl)); same = refl }

pub search_due : (line : ℕ) (query : Said) (lists : List Listed) → IsStillDue line (command.Search query) (due.Search query) lists lists
search_due line query lists = record { due_is = inl (query, (refl, refl)); same = refl }

abbrev with_fronts : Cell → List LineFronts → Cell
with_fronts c fs = record c { fronts = fs }

-- no front more
unread-same : (line : ℕ) (c : Asked) (old : Cell) → ((fronts : List ℕ) → front_of line c fronts ≡ []) → old ≡ with_fronts old (old.fronts ++ front_of line c (fronts_now old.lanes))
unread-same line c old none = sym (ap (with_fronts old) (ap (λ (fs : List LineFronts). old.fronts ++ fs) (none (fronts_now old.lanes)) ∙ append-nil old.fronts))

pub answered_fixed : (s : Setting) (line : ℕ) (c : Asked) (a : Option Answer) (old : Cell) → IsFixed line c a → IsAnswered s line c old old a
answered_fixed s line c a old is = record { now = unread-same line c old is.unread; is = is.is s old.told old }

pub answered_outcome : (s : Setting) (lines : ℕ → Lines) (stages : List (List Stage)) (line lane place : ℕ) (c : Asked) (a : Option Answer) (x : Outcome) (old : Cell) → MayBeAnswered s lines stages old → IsOutcomeDue s lines line c lane place
    → outcome_at stages lane place ≡ Some x → a ≡ outcome_answer x (entry_of x (journal_in lane (journals_of old))) → IsAnswered s line c old old a
answered_outcome s lines stages line lane place c a x old may is found told =
    subst (λ (d : Asked). IsAnswered s line d old old a) (sym is.asked) (record {
      now = unread-same line (command.Feed is.operation is.via) old (λ fronts. refl);
      is = told ∙ (sym (ap (λ o. closed_answer o (journal_in lane (journals_of old))) (may.told lane place _ x is.at_place found))
          ∙ ap (λ n. closed_answer (let J = journal_in n (journals_of old) in outcome_in line J) (journal_in n (journals_of old))) is.lane_is);
    })

pub answered_search : (s : Setting) (line : ℕ) (c : Asked) (query : Said) (a : Answer) (old new : Cell) → c ≡ command.Search query
    → (new ≡ record old { fronts = old.fronts ++ record { line = line; fronts = fronts_now old.lanes } ∷ [] }) × (Some a ≡ found_answer_of s.schema old.told query (fronts_of line new.fronts) (journals_of new))
    → IsAnswered s line c old new (Some a)
answered_search s line c query a old new is told = subst (λ (d : Asked). IsAnswered s line d old new (Some a)) (sym is) (record { now = told.0; is = told.1 })

-- ---- all lines

pub due_count : (s : Setting) (lines : ℕ → Lines) (n : ℕ) (cs : List Asked) (ds : List Due) → AreDue s lines n cs ds → length cs ≡ length ds
due_count s lines n [] [] are = refl
due_count s lines n [] (d ∷ ds) are = absurd are
due_count s lines n (c ∷ cs) [] are = absurd are
due_count s lines n (c ∷ cs) (d ∷ ds) are = let rest = due_count s lines (suc n) cs ds are.1 in omega (arith, rest)

answers-push : (s : Setting) (told : Told) (line : ℕ) (cs : List Asked) (c : Asked) (cell : Cell) → answers_from s told line (cs ++ c ∷ []) cell ≡ answers_from s told line cs cell ++ answer_in s told (line + length cs) c cell ∷ []
answers-push s told line [] c cell = ap (λ n. answer_in s told n c cell ∷ []) (omega arith)
answers-push s told line (x ∷ cs) c cell =
    ap (λ got. answer_in s told line x cell ∷ got) (answers-push s told (suc line) cs c cell ∙ ap (λ n. answers_from s told (suc line) cs cell ++ answer_in s told n c cell ∷ []) (omega arith))

-- the searches so far, and one line more
read-more : (first line : ℕ) (done : List Asked) (c : Asked) (old mid new : Cell) → line ≡ first + length done → mid ≡ read_by first done old → new ≡ record mid { fronts = mid.fronts ++ front_of line c (fronts_now mid.lanes) } → new ≡ read_by first (done ++ c ∷ []) old
read-more first line done c old mid new is was now =
    let g = fronts_now old.lanes in
    now ∙ ap (λ (m : Cell). with_fronts m (m.fronts ++ front_of line c (fronts_now m.lanes))) was
    ∙ ap (with_fronts old) (
    append_assoc old.fronts (fronts_from first done g) (front_of line c g)
    ∙ ap (λ (fs : List LineFronts). old.fronts ++ fs) (
    ap (λ n. fronts_from first done g ++ front_of n c g) is
    ∙ (ap (λ (fs : List LineFronts). fronts_from first done g ++ fs) (sym (append-nil (front_of (first + length done) c g))) ∙ sym (fronts_append first done (c ∷ []) g))
    )
    )

-- what a line is answered stays
answer-stays : (s : Setting) (first line : ℕ) (done : List Asked) (c : Asked) (rest : List Asked) (old : Cell) → line ≡ first + length done → IsUnread first old
    → answer_in s old.told line c (read_by first (done ++ c ∷ []) old) ≡ answer_in s old.told line c (read_by first (done ++ c ∷ rest) old)
answer-stays s first line done command.Blank rest old is unread = refl
answer-stays s first line done command.TooLong rest old is unread = refl
answer-stays s first line done command.Barrier rest old is unread = refl
answer-stays s first line done (command.Bad why) rest old is unread = refl
answer-stays s first line done (command.Feed op via) rest old is unread = refl
answer-stays s first line done (command.State state deaf) rest old is unread = refl
answer-stays s first line done (command.BadState offset) rest old is unread = refl
answer-stays s first line done (command.Stop node) rest old is unread = refl
answer-stays s first line done (command.Start node) rest old is unread = refl
answer-stays s first line done (command.Net lane fates) rest old is unread = refl
answer-stays s first line done command.Maintain rest old is unread = refl
answer-stays s first line done (command.Search query) rest old is unread =
    let none : fronts_of line old.fronts ≡ None = unread line (omega (arith, is)) in
    let g = fronts_now old.lanes in
    ap (λ o. found_answer_of s.schema old.told query o (journals_of old)) (fronts_found first line done query [] old.fronts g is none ∙ sym (fronts_found first line done query rest old.fronts g is none))
answer-stays s first line done (command.BadQuery offset) rest old is unread = refl

pub so_far_none : (s : Setting) (lines : ℕ → Lines) (first : ℕ) (cs : List Asked) (ds : List Due) (old : Cell) (got : List (Option Answer)) → got ≡ [] → AreDue s lines first cs ds → AreAnsweredSoFar s lines first cs ds old old got
so_far_none s lines first cs ds old got none are = record {
  done = [];
  rest = cs;
  whole = refl;
  due = subst (λ n. AreDue s lines n cs ds) (omega arith) are;
  now = sym (ap (with_fronts old) (append-nil old.fronts));
  answers_are = none;
}

one-more : (s : Setting) (lines : ℕ → Lines) (first line : ℕ) (cs done rest : List Asked) (d : Due) (ds : List Due) (old mid new : Cell) (got bs : List (Option Answer)) (a : Option Answer) → cs ≡ done ++ rest → AreDue s lines (first + length done) rest (d ∷ ds) → mid ≡ read_by first done old
    → got ≡ answers_from s old.told first done (read_by first cs old) → line ≡ first + length done → IsUnread first old → ((c : Asked) → IsDueFor s lines line c d → IsAnswered s line c mid new a) → bs ≡ got ++ a ∷ []
    → AreAnsweredSoFar s lines first cs ds old new bs
one-more s lines first line cs done [] d ds old mid new got bs a whole are now was is unread answered more = absurd are
one-more s lines first line cs done (c ∷ rest) d ds old mid new got bs a whole are now was is unread answered more =
    let one = answered c (subst (λ n. IsDueFor s lines n c d) (sym is) are.0) in
    let read = read-more first line done c old mid new is now one.now in
    let last : a ≡ answer_in s old.told line c (read_by first cs old)
    = one.is ∙ ap₂ (λ (t : Told) (x : Cell). answer_in s t line c x) (ap (λ (x : Cell). x.told) now) read ∙ (answer-stays s first line done c rest old is unread ∙ ap (λ (xs : List Asked). answer_in s old.told line c (read_by first xs old)) (sym whole)) in
    record {
      done = done ++ c ∷ [];
      rest = rest;
      whole = whole ∙ sym (append_assoc done (c ∷ []) rest);
      due = subst (λ n. AreDue s lines n rest ds) (omega (arith, length-append done (c ∷ []))) are.1;
      now = read;
      answers_are = more ∙ ap₂ (λ (xs : List (Option Answer)) (b : Option Answer). xs ++ b ∷ []) was last ∙ (ap (λ n. answers_from s old.told first done (read_by first cs old) ++ answer_in s old.told n c (read_by first cs old) ∷ []) is ∙ sym (answers-push s old.told first done c (read_by first cs old)));
    }

pub so_far_more : (s : Setting) (lines : ℕ → Lines) (first line count : ℕ) (cs : List Asked) (left : List Due) (d : Due) (ds : List Due) (old mid new : Cell) (got bs : List (Option Answer)) (a : Option Answer) → AreAnsweredSoFar s lines first cs left old mid got → left ≡ d ∷ ds
    → line + length left ≡ first + count → length cs ≡ count → IsUnread first old → ((c : Asked) → IsDueFor s lines line c d → IsAnswered s line c mid new a) → bs ≡ got ++ a ∷ [] → AreAnsweredSoFar s lines first cs ds old new bs
so_far_more s lines first line count cs left d ds old mid new got bs a so split at many unread answered more =
    let rest = due_count s lines (first + length so.done) so.rest left so.due in
    let whole = ap length so.whole ∙ length-append so.done so.rest in
    one-more s lines first line cs so.done so.rest d ds old mid new got bs a so.whole (subst (λ (xs : List Due). AreDue s lines (first + length so.done) so.rest xs) split so.due) so.now so.answers_are (omega (arith, at, many, rest, whole)) unread answered more

-- no front of this line is there before it
pub so_far_unread : (s : Setting) (lines : ℕ → Lines) (first line count : ℕ) (cs : List Asked) (left : List Due) (old mid : Cell) (got : List (Option Answer)) → AreAnsweredSoFar s lines first cs left old mid got
    → line + length left ≡ first + count → length cs ≡ count → IsUnread first old → fronts_of line mid.fronts ≡ None
so_far_unread s lines first line count cs left old mid got so at many unread =
    let rest = due_count s lines (first + length so.done) so.rest left so.due in
    let whole = ap length so.whole ∙ length-append so.done so.rest in
    ap (λ (x : Cell). fronts_of line x.fronts) so.now
    ∙ fronts_behind line old.fronts (fronts_from first so.done (fronts_now old.lanes)) (unread line (omega (arith, at, many, rest, whole)))
    ∙ fronts_later first line so.done (fronts_now old.lanes) (omega (arith, at, many, rest, whole))

pub so_far_read : (s : Setting) (lines : ℕ → Lines) (first : ℕ) (cs : List Asked) (left : List Due) (old mid : Cell) (got : List (Option Answer)) → AreAnsweredSoFar s lines first cs left old mid got → WasReadSoFar first cs old mid
so_far_read s lines first cs left old mid got so = record { done = so.done; rest = so.rest; whole = so.whole; now = so.now }

-- all of them
pub all_so_far : (s : Setting) (lines : ℕ → Lines) (first : ℕ) (cs : List Asked) (old new : Cell) (got : List (Option Answer)) → AreAnsweredSoFar s lines first cs [] old new got
    → (new ≡ read_by first cs old) × (got ≡ answers_from s old.told first cs new)
all_so_far s lines first cs old new got so =
    let none = due_count s lines (first + length so.done) so.rest [] so.due in
    let all : so.done ≡ cs = sym (so.whole ∙ (ap (λ (xs : List Asked). so.done ++ xs) (nothing so.rest none) ∙ append-nil so.done)) in
    let now : new ≡ read_by first cs old = so.now ∙ ap (λ (xs : List Asked). read_by first xs old) all in
    (now, so.answers_are ∙ (ap (λ (xs : List Asked). answers_from s old.told first xs (read_by first cs old)) all ∙ ap (answers_from s old.told first cs) (sym now)))
  where
    nothing : (xs : List Asked) → length xs ≡ 0 → xs ≡ []
    nothing [] h = refl
    nothing (x ∷ xs) h = absurd (omega (arith, h))

-- ---- the loop over them

pub may_on : (s : Setting) (lines : ℕ → Lines) (stages : List (List Stage)) (first : ℕ) (done : List Asked) (old mid : Cell) → mid ≡ read_by first done old → MayBeAnswered s lines stages old → MayBeAnswered s lines stages mid
may_on s lines stages first done old mid is may = subst (MayBeAnswered s lines stages) (sym is) (record { typed = may.typed; told = may.told })

-- what is known of the cell whatever the lines are: its lanes are the same, and no later line has read
pub lanes_on : (line : ℕ) (old new : Cell) → MayHaveRead line old new → new.lanes ≡ old.lanes
lanes_on line old new (inl same) = ap (λ (c : Cell). c.lanes) same
lanes_on line old new (inr read) = ap (λ (c : Cell). c.lanes) read

pub unread_next : (line : ℕ) (old new : Cell) → MayHaveRead line old new → IsUnread line old → IsUnread (line + 1) new
unread_next line old new (inl same) unread other late = ap (λ (c : Cell). fronts_of other c.fronts) same ∙ unread other (omega (arith, late))
unread_next line old new (inr read) unread other late =
    ap (λ (c : Cell). fronts_of other c.fronts) read
    ∙ (fronts_other other old.fronts (record { line = line; fronts = fronts_now old.lanes }) (λ e. absurd (omega (arith, e, late))) ∙ unread other (omega (arith, late)))

pub so_far_next : (first line : ℕ) (stages : List (List Stage)) (left : List Due) (d : Due) (ds all : List Due) (old mid new : Cell) (got more : List (Option Answer)) (a : Option Answer)
    → ((s : Setting) (lines : ℕ → Lines) (c : Asked) → MayBeAnswered s lines stages mid → IsDueFor s lines line c d → IsAnswered s line c mid new a) → left ≡ d ∷ ds → line + length left ≡ first + length all → IsUnread first old → more ≡ got ++ a ∷ []
    → (s : Setting) (lines : ℕ → Lines) (cs : List Asked) → MayBeAnswered s lines stages old → AreDue s lines first cs all → AreAnsweredSoFar s lines first cs left old mid got → AreAnsweredSoFar s lines first cs ds old new more
so_far_next first line stages left d ds all old mid new got more a answered split at unread now s lines cs may are so =
    so_far_more s lines first line (length all) cs left d ds old mid new got more a so split at (due_count s lines first cs all are) unread (λ c is. answered s lines c (may_on s lines stages first so.done old mid so.now may) is) now
