-- What a crash leaves in each of the two steps of a take.
use Rattle.std.proofs.Common.{◌≡◌, ◌≢◌, ◌⊎◌, inl, inr, ◌<◌, ◌≤◌, ◌+◌, ◌-◌, ℕ, List, [], ◌∷◌, ◌++◌, length, take, drop, get_or, Result, Ok, sym, ◌∙◌, ap, subst, arith, append_assoc, length-append, take-append-drop, get_or-take}
use Rattle.std.proofs.lemmas.List.{take_at, drop_at, take-take, drop_more, length-drop, length-take-le, get_or_at}
use Rattle.std.proofs.lemmas.Bool.{cases_eq}
use Rattle.disks.specs.Disks.{Torn, written}
use Rattle.message_texts.specs.Texts.{message_in}
use Rattle.doc_types.specs.SchemaCodes.{Types}
use Rattle.messages.specs.declared.message.Message.{Message}
use Rattle.node_journal.specs.Files.{reading, IsRecord, Stands}
use Rattle.node_journal.specs.Journals.{recorded, Records, RecordsOrAlso, IsAt}
use Rattle.node_journal.proofs.Readings.{stands_more, stands_closed, journal_long, journal_short}

-- a file in three parts
pub parts : (file : List ℕ) (end : ℕ) → end < length file → file ≡ take end file ++ get_or file end 0 ∷ drop (end + 1) file
parts file end lt = sym (take-append-drop end file) ∙ ap (λ (l : List ℕ). take end file ++ l) (drop_more file end 0 lt)

-- a write that was done is one that a crash may cut short
pub written_torn : (at : ℕ) (bytes file : List ℕ) → at ≤ length file → Torn at (length bytes) file (written at bytes file)
written_torn at bytes file le =
    let n : length (take at file) ≡ at = length-take-le at file le in
    let rest = drop (at + length bytes) file in
    let two : length (take at file ++ bytes) ≡ at + length bytes = omega (arith, n, length-append (take at file) bytes) in
    let size : length (written at bytes file) ≡ at + (length bytes + (length file - (at + length bytes))) = omega (arith, n, length-append (take at file) (bytes ++ rest), length-append bytes rest, length-drop (at + length bytes) file) in
    record {
      before = take_at (take at file) (bytes ++ rest) at n;
      behind = ap (drop (at + length bytes)) (sym (append_assoc (take at file) bytes rest)) ∙ drop_at (take at file ++ bytes) rest (at + length bytes) two;
      no_shorter = omega (arith, size);
      no_longer = omega (arith, size, le);
    }

module _ (schema : Types) where
  -- a file before whose closed gate stand open records
  pub at_recorded : (file : List ℕ) (end : ℕ) (ms : List Message) → IsAt schema file end ms → recorded schema file ≡ Ok ms
  at_recorded file end ms at = elim (cases_short (length file)) [
    | inl short ↦ journal_short (message_in schema) file short ∙ (let ok : List Message → Result (List Message) ℕ = λ l. Ok l in ap ok (sym (at.short short)))
    | inr long ↦ journal_long (message_in schema) file long ∙ ap (reading (message_in schema) 0 0) (parts file end at.within)
        ∙ stands_closed (message_in schema) (take end file) (get_or file end 0) (drop (end + 1) file) ms at.front at.closed
  ]
    where
      cases_short : (n : ℕ) → (n < 6) ⊎ (6 ≤ n)
      cases_short n = grind arith

  -- behind the closed gate there may be anything
  pub behind_is_at : (file c : List ℕ) (end n : ℕ) (ms : List Message) → IsAt schema file end ms → Torn (end + 1) n file c → IsAt schema c end ms
  behind_is_at file c end n ms at torn = record {
    within = omega (arith, at.within, torn.no_shorter);
    front = subst (λ (l : List ℕ). Stands (message_in schema) l ms) (sym same) at.front;
    closed = λ e. at.closed (sym (get_or-take (end + 1) file end 0 (omega arith)) ∙ ap (λ (l : List ℕ). get_or l end 0) (sym torn.before) ∙ get_or-take (end + 1) c end 0 (omega arith) ∙ e);
    short = λ lt. at.short (omega (arith, lt, torn.no_shorter));
  }
    where
      same : take end c ≡ take end file
      same = sym (take-take end (end + 1) c (omega arith)) ∙ ap (take end) torn.before ∙ take-take end (end + 1) file (omega arith)

  pub behind_records : (file c : List ℕ) (end n limit : ℕ) (ms : List Message) → IsAt schema file end ms → length file ≤ limit → end + 1 + n ≤ limit → Torn (end + 1) n file c → Records schema limit (Ok ms) c
  behind_records file c end n limit ms at size room torn = record {
    size = omega (arith, size, room, torn.no_longer);
    messages = at_recorded c end ms (behind_is_at file c end n ms at torn);
  }

  -- the record stands behind the closed gate
  pub record IsStaged (file : List ℕ) (end : ℕ) (ms : List Message) (piece : List ℕ) : Type 0 where
    pub at : IsAt schema file end ms
    pub rest : List ℕ
    pub behind : drop (end + 1) file ≡ piece ++ 0 ∷ rest

  pub staged : (file : List ℕ) (end : ℕ) (ms : List Message) (piece : List ℕ) → IsAt schema file end ms → IsStaged (written (end + 1) (piece ++ 0 ∷ []) file) end ms piece
  staged file end ms piece at = record {
    at = behind_is_at file (written (end + 1) (piece ++ 0 ∷ []) file) end (length (piece ++ 0 ∷ [])) ms at (written_torn (end + 1) (piece ++ 0 ∷ []) file (omega (arith, at.within)));
    rest = drop (end + 1 + length (piece ++ 0 ∷ [])) file;
    behind = drop_at (take (end + 1) file) ((piece ++ 0 ∷ []) ++ drop (end + 1 + length (piece ++ 0 ∷ [])) file) (end + 1) (length-take-le (end + 1) file (omega (arith, at.within)))
        ∙ append_assoc piece (0 ∷ []) (drop (end + 1 + length (piece ++ 0 ∷ [])) file);
  }

  -- a file with one more record, whose gate is open
  pub opened_at : (front piece rest : List ℕ) (ms : List Message) (m : Message) → Stands (message_in schema) front ms → IsRecord (message_in schema) piece m
      → IsAt schema (front ++ 1 ∷ (piece ++ 0 ∷ rest)) (length front + (1 + length piece)) (ms ++ m ∷ [])
  opened_at front piece rest ms m stands is = record {
    within = omega (arith, long);
    front = subst (λ (l : List ℕ). Stands (message_in schema) l (ms ++ m ∷ [])) (sym (ap (take (length front + (1 + length piece))) whole ∙ take_at (front ++ 1 ∷ piece) (0 ∷ rest) (length front + (1 + length piece)) size)) (stands_more (message_in schema) front piece ms m stands is);
    closed = zero_not (get_or (front ++ 1 ∷ (piece ++ 0 ∷ rest)) (length front + (1 + length piece)) 0) (ap (λ (l : List ℕ). get_or l (length front + (1 + length piece)) 0) whole ∙ get_or_at (front ++ 1 ∷ piece) 0 rest 0 (length front + (1 + length piece)) size);
    short = λ lt. absurd (omega (arith, lt, long, is.size));
  }
    where
      whole : front ++ 1 ∷ (piece ++ 0 ∷ rest) ≡ (front ++ 1 ∷ piece) ++ 0 ∷ rest
      whole = sym (append_assoc front (1 ∷ piece) (0 ∷ rest))

      size : length (front ++ 1 ∷ piece) ≡ length front + (1 + length piece)
      size = omega (arith, length-append front (1 ∷ piece))

      long : length front + (1 + length piece) < length (front ++ 1 ∷ (piece ++ 0 ∷ rest))
      long = omega (arith, length-append front (1 ∷ (piece ++ 0 ∷ rest)), length-append piece (0 ∷ rest))

      zero_not : (n : ℕ) → n ≡ 0 → n ≢ 1
      zero_not n e h = absurd (omega (arith, e, h))

  -- the length of what is staged
  pub staged_long : (file : List ℕ) (end : ℕ) (ms : List Message) (piece : List ℕ) → IsStaged file end ms piece → end + 1 + length piece + 1 ≤ length file
  staged_long file end ms piece s =
      omega (arith, s.at.within, length-drop (end + 1) file, ap length s.behind, length-append piece (0 ∷ s.rest))

  -- whatever byte the gate has, the record counts or it doesn't
  pub gate_records : (file c : List ℕ) (end limit : ℕ) (ms : List Message) (m : Message) (piece : List ℕ) → IsStaged file end ms piece → IsRecord (message_in schema) piece m → length file ≤ limit → Torn end 1 file c → RecordsOrAlso schema limit (Ok ms) m c
  gate_records file c end limit ms m piece s is size torn = elim (cases_eq (get_or c end 0) 1) [
    | inl open_gate ↦ inr (record { size = small; messages = ap (recorded schema) (whole ∙ ap (λ (g : ℕ). take end file ++ g ∷ (piece ++ 0 ∷ s.rest)) open_gate) ∙ at_recorded _ _ (ms ++ m ∷ []) (opened_at (take end file) piece s.rest ms m s.at.front is) })
    | inr shut ↦ inl (record {
      size = small;
      messages = at_recorded c end ms (record {
        within = inside;
        front = subst (λ (l : List ℕ). Stands (message_in schema) l ms) (sym torn.before) s.at.front;
        closed = shut;
        short = λ lt. s.at.short (omega (arith, lt, torn.no_shorter));
      });
    })
  ]
    where
      inside : end < length c
      inside = omega (arith, s.at.within, torn.no_shorter)

      small : length c ≤ limit
      small = omega (arith, size, torn.no_longer, s.at.within)

      whole : c ≡ take end file ++ get_or c end 0 ∷ (piece ++ 0 ∷ s.rest)
      whole = parts c end inside ∙ ap (λ (l : List ℕ). l ++ get_or c end 0 ∷ drop (end + 1) c) torn.before ∙ ap (λ (l : List ℕ). take end file ++ get_or c end 0 ∷ l) (torn.behind ∙ s.behind)

  -- the gate was opened
  pub gate_opened : (file : List ℕ) (end : ℕ) (ms : List Message) (m : Message) (piece : List ℕ) → IsStaged file end ms piece → IsRecord (message_in schema) piece m → IsAt schema (written end (1 ∷ []) file) (end + (1 + length piece)) (ms ++ m ∷ [])
  gate_opened file end ms m piece s is =
      let n : length (take end file) ≡ end = length-take-le end file (omega (arith, s.at.within)) in
      let whole : written end (1 ∷ []) file ≡ take end file ++ 1 ∷ (piece ++ 0 ∷ s.rest) = ap (λ (l : List ℕ). take end file ++ 1 ∷ l) s.behind in
      subst (λ (l : List ℕ). IsAt schema l (end + (1 + length piece)) (ms ++ m ∷ [])) (sym whole)
      (subst (λ (k : ℕ). IsAt schema (take end file ++ 1 ∷ (piece ++ 0 ∷ s.rest)) (k + (1 + length piece)) (ms ++ m ∷ [])) n (opened_at (take end file) piece s.rest ms m s.at.front is))
