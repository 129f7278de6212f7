-- What is read of a file when it is opened.
use Rattle.std.proofs.Common.{◌≡◌, ◌⊎◌, inl, inr, ◌<◌, ◌≤◌, ◌+◌, ◌-◌, ℕ, List, [], ◌∷◌, ◌++◌, length, take, drop, get_or, nat_lt, Bool, true, false, cond, Option, Some, None, Result, Err, refl, sym, ◌∙◌, ap, subst, arith, append_assoc, length-append, take-append-drop}
use Rattle.std.specs.Int.{w32, from_le_bytes}
use Rattle.std.proofs.lemmas.List.{take_at, take-take, drop-take, drop-drop, drop_more, length-drop, length-take-le}
use Rattle.std.proofs.lemmas.Bool.Decides.{nat_tests}
use Rattle.message_texts.specs.Texts.{message_in}
use Rattle.message_texts.specs.Fitting.{Fits}
use Rattle.doc_types.specs.SchemaCodes.{Types}
use Rattle.messages.specs.declared.message.Message.{Message}
use Rattle.node_model.specs.Nodes.{Node, new_node}
use Rattle.disks.specs.Disks.{DiskState, Only, Torn, HasClock, LeavesOnly, written}
use Rattle.disks.specs.Moments.{started}
use Rattle.io_ends.specs.Causes.{HasRisen}
use Rattle.node_journal.specs.Files.{text_len, text_in, read_in, onto, reading, Stands}
use Rattle.node_journal.specs.Lives.{after}
use Rattle.node_journal.specs.Journals.{recorded, Records, IsAt, Holds}
use Rattle.node_journal.specs.Opening.{IsBehind, IsSoFar, IsCause, IsReplayed, IsRead}
use Rattle.node_journal.specs.declared.causes.OpenCause.{OpenCause}
use Rattle.node_journal.specs.declared.causes.OpenCause.TheVariants as cause
use Rattle.node_journal.proofs.Readings.{reading_damaged, stands_none, stands_more, journal_long, journal_short}
use Rattle.node_journal.proofs.Writings.{at_recorded}
use Rattle.node_journal.proofs.Lives.{serial_after, all_more, live_is}

-- a text that was read is that of a whole record
pub text_whole : (file mid v : List ℕ) (at n : ℕ) → mid ≡ file → n ≡ text_len (drop at file) → at + 4 + n < length file → v ≡ take n (drop (at + 4) mid) → Some v ≡ text_in (drop at file)
text_whole file mid v at n same is lt read =
    let some : List ℕ → Option (List ℕ) = λ l. Some l in
    let long : 4 + text_len (drop at file) < length (drop at file) = omega (arith, is, lt, length-drop at file) in
    ap some (read ∙ ap (λ (f : List ℕ). take n (drop (at + 4) f)) same ∙ ap (λ (l : List ℕ). take n l) (sym (drop-drop 4 at file)) ∙ ap (λ (k : ℕ). take k (drop 4 (drop at file))) is)
    ∙ sym (yes (drop at file) long)
  where
    yes : (b : List ℕ) → 4 + text_len b < length b → text_in b ≡ Some (take (text_len b) (drop 4 b))
    yes b long = grind (arith, nat_tests)

-- an open gate before what is no message
pub damaged_here : {M : Type 0} (reads : List ℕ → Option M) (file : List ℕ) (at : ℕ) → at < length file → get_or file at 0 ≡ 1 → read_in reads (text_in (drop (at + 1) file)) ≡ None → reading reads 0 at (drop at file) ≡ Err at
damaged_here reads file at lt gate none =
    ap (reading reads 0 at) (drop_more file at 0 lt) ∙ ap (λ (g : ℕ). reading reads 0 at (g ∷ drop (at + 1) file)) gate ∙ reading_damaged reads at (drop (at + 1) file) none

-- a whole record has a text of its length
text_of_whole : (b text : List ℕ) → text_in b ≡ Some text → (4 + text_len b < length b) × (take (text_len b) (drop 4 b) ≡ text)
text_of_whole b text is = by_test (nat_lt (4 + text_len b) (length b)) (λ t. grind (arith, nat_tests)) is
  where
    by_test : (t : Bool) → (t ≡ true → 4 + text_len b < length b) → cond t (Some (take (text_len b) (drop 4 b))) None ≡ Some text → (4 + text_len b < length b) × (take (text_len b) (drop 4 b) ≡ text)
    by_test true long e = (long refl, cc)
    by_test false long e = absurd cc

-- a record that is a message
pub found_behind : (schema : Types) (file text : List ℕ) (at : ℕ) (m : Message) → at < length file → get_or file at 0 ≡ 1 → text_in (drop (at + 1) file) ≡ Some text → message_in schema text ≡ Some m → Fits schema m → IsBehind schema file at m (at + 5 + length text)
found_behind schema file text at m lt gate is reads fits =
    let b = drop (at + 1) file in
    let n = text_len b in
    let w = text_of_whole b text is in
    let size : length b ≡ length file - (at + 1) = length-drop (at + 1) file in
    let piece = take (4 + n) b in
    let len : length piece ≡ 4 + n = length-take-le (4 + n) b (omega (arith, w.0)) in
    let same : text_len piece ≡ n = ap (from_le_bytes w32) (take-take 4 (4 + n) b (omega arith)) in
    let text_long : length text ≡ n = ap (λ (l : List ℕ). length l) (sym w.1) ∙ length-take-le n (drop 4 b) (omega (arith, w.0, length-drop 4 b)) in
    let next : at + 5 + length text ≡ at + (1 + length piece) = omega (arith, len, text_long) in
    let begin : length (take at file) ≡ at = length-take-le at file (omega (arith, lt)) in
    let whole : file ≡ (take at file ++ 1 ∷ piece) ++ drop (4 + n) b =
    sym (take-append-drop at file) ∙ ap (λ (l : List ℕ). take at file ++ l) (drop_more file at 0 lt ∙ ap (λ (g : ℕ). g ∷ b) gate ∙ ap (λ (l : List ℕ). 1 ∷ l) (sym (take-append-drop (4 + n) b)))
    ∙ sym (append_assoc (take at file) (1 ∷ piece) (drop (4 + n) b)) in
    record {
      piece = piece;
      is = record { size = omega (arith, len, same); text = ap (message_in schema) (drop-take 4 n b ∙ w.1) ∙ reads };
      fits = fits;
      place = next;
      within = omega (arith, w.0, size, text_long);
      front = ap (take (at + 5 + length text)) whole ∙ take_at (take at file ++ 1 ∷ piece) (drop (4 + n) b) (at + 5 + length text) (omega (arith, length-append (take at file) (1 ∷ piece), begin, next));
    }

-- nothing was read yet
pub so_far_none : (schema : Types) (file : List ℕ) → 0 < length file → IsSoFar schema file new_node 0
so_far_none schema file lt = record {
  messages = [];
  within = lt;
  front = stands_none (message_in schema);
  took = refl;
  few = omega arith;
  none = λ e. refl;
}

-- one record more was read, and the node took its message
pub so_far_more : (schema : Types) (file : List ℕ) (old new : Node) (end next : ℕ) (m : Message) → IsSoFar schema file old end → IsBehind schema file end m next → new ≡ after m old → IsSoFar schema file new next
so_far_more schema file old new end next m so_far behind is =
    record {
      messages = so_far.messages ++ m ∷ [];
      within = behind.within;
      front = subst (λ (l : List ℕ). Stands (message_in schema) l (so_far.messages ++ m ∷ [])) (sym behind.front) (stands_more (message_in schema) (take end file) behind.piece so_far.messages m so_far.front behind.is);
      took = is ∙ ap (after m) so_far.took ∙ sym (all_more so_far.messages m new_node);
      few = omega (arith, ap (λ (n : Node). n.serial) is, serial_after m old, so_far.few, behind.place);
      none = λ e. absurd (omega (arith, e, behind.place));
    }

-- what the rest reads as is what the file reads as
pub rest_reads : (schema : Types) (file : List ℕ) (node : Node) (end : ℕ) (s : IsSoFar schema file node end) → reading (message_in schema) 0 0 file ≡ onto s.messages (reading (message_in schema) 0 end (drop end file))
rest_reads schema file node end s =
    let n : length (take end file) ≡ end = length-take-le end file (omega (arith, s.within)) in
    ap (reading (message_in schema) 0 0) (sym (take-append-drop end file) ∙ ap (λ (l : List ℕ). take end file ++ l) (drop_more file end 0 s.within))
    ∙ s.front.before (get_or file end 0) (drop (end + 1) file)
    ∙ ap (λ (k : ℕ). onto s.messages (reading (message_in schema) 0 k (get_or file end 0 ∷ drop (end + 1) file))) n
    ∙ ap (λ (l : List ℕ). onto s.messages (reading (message_in schema) 0 end l)) (sym (drop_more file end 0 s.within))

pub risen_later : (last : Option ℕ) (old mid new : ℕ) → old ≤ mid → HasRisen last mid new → HasRisen last old new
risen_later last old mid new le (inl lt) = inl (omega arith)
risen_later last old mid new le (inr stands) = elim (cases_less old mid) [
  | inl lt ↦ inl (omega (arith, lt, stands.1))
  | inr ge ↦ let same : mid ≡ old = omega (arith, le, ge) in inr (stands.0 ∙ ap (λ (n : ℕ). some n) same, stands.1 ∙ same)
]
  where
    some : ℕ → Option ℕ
    some n = Some n

    cases_less : (a b : ℕ) → (a < b) ⊎ (b ≤ a)
    cases_less a b = grind arith

-- a cause that is met on the way
pub cause_so_far : {M : Type 0} (told rest : Result (List M) ℕ) (ms : List M) (last : Option ℕ) (old mid new : DiskState) (e : OpenCause) → told ≡ onto ms rest → old.faults ≤ mid.faults → IsCause rest last mid new e → IsCause told last old new e
cause_so_far told rest ms last old mid new (cause.TooLong n) is le c = absurd c
cause_so_far told rest ms last old mid new (cause.Damaged at) is le c = is ∙ ap (onto ms) c
cause_so_far told rest ms last old mid new cause.DiskFault is le c = risen_later last old.faults mid.faults new.faults le c
cause_so_far told rest ms last old mid new cause.NoMemory is le c = tt

-- a file of fewer than six bytes, whose gate was written
pub empty_read : (schema : Types) (file : List ℕ) (new : DiskState) (node : Node) → length file < 6 → new.seen ≡ written 0 (0 ∷ []) file → Only new.seen new.may_leave → node ≡ new_node → IsRead schema file new node 0
empty_read schema file new node short is durable took = record {
  messages = [];
  told = journal_short (message_in schema) file short;
  at = subst (λ (f : List ℕ). IsAt schema f 0 []) (sym is) (record {
    within = omega arith;
    front = stands_none (message_in schema);
    closed = λ e. absurd (omega (arith, e));
    short = λ lt. refl;
  });
  took = took;
  few = omega (arith, ap (λ (n : Node). n.serial) took);
  durable = durable;
  size = omega (arith, ap (λ (f : List ℕ). length f) is, length-drop 1 file);
}

pub empty_moment : (schema : Types) (file c : List ℕ) (limit : ℕ) → length file < 6 → 1 ≤ limit → length file ≤ limit → Torn 0 1 file c → Records schema limit (recorded schema file) c
empty_moment schema file c limit short least size torn = record {
  size = omega (arith, torn.no_longer, least, size);
  messages = journal_short (message_in schema) c (omega (arith, torn.no_longer, short)) ∙ sym (journal_short (message_in schema) file short);
}

-- any other file, whose records were read
pub filled_read : (schema : Types) (file : List ℕ) (new : DiskState) (node : Node) (end : ℕ) → 6 ≤ length file → new.seen ≡ file → Only file new.may_leave → IsReplayed schema file node end → IsRead schema file new node end
filled_read schema file new node end long is durable r =
    let at : IsAt schema file end r.so_far.messages = record {
      within = r.so_far.within;
      front = r.so_far.front;
      closed = r.closed;
      short = λ lt. absurd (omega (arith, lt, long));
    } in
    record {
      messages = r.so_far.messages;
      told = at_recorded schema file end r.so_far.messages at;
      at = subst (λ (f : List ℕ). IsAt schema f end r.so_far.messages) (sym is) at;
      took = r.so_far.took;
      few = r.so_far.few;
      durable = subst (λ (f : List ℕ). Only f new.may_leave) (sym is) durable;
      size = omega (arith, ap (λ (f : List ℕ). length f) is);
    }

-- a disk that wasn't touched
pub untouched : (schema : Types) (limit : ℕ) (s : DiskState) → HasClock s → length s.seen ≤ limit → Only s.seen s.may_leave → LeavesOnly s s (Records schema limit (recorded schema s.seen))
untouched schema limit s clock size only = started s (Records schema limit (recorded schema s.seen)) clock (λ f left. record {
  size = subst (λ (l : List ℕ). length l ≤ limit) (sym (only f left)) size;
  messages = ap (recorded schema) (only f left);
})

pub cause_long : (schema : Types) (file : List ℕ) (last : Option ℕ) (old new : DiskState) (e : OpenCause) → 6 ≤ length file → IsCause (reading (message_in schema) 0 0 file) last old new e → IsCause (recorded schema file) last old new e
cause_long schema file last old new e long c = subst (λ (t : Result (List Message) ℕ). IsCause t last old new e) (sym (journal_long (message_in schema) file long)) c

-- what was read is what an opened node holds
pub read_holds : {D : Type 0} (state : D → DiskState) (schema : Types) (file : List ℕ) (disk : D) (node : Node) (end limit : ℕ) → length file ≤ limit → 1 ≤ limit → (r : IsRead schema file (state disk) node end) → Holds state (record { node = node; disk = disk; schema = schema; max_bytes = limit; end = end; shut = false }) r.messages
read_holds state schema file disk node end limit size least r = record {
  goes_on = refl;
  size = omega (arith, r.size, size, least);
  at = r.at;
  live = live_is r.messages node r.took;
  few = r.few;
  durable = r.durable;
}
