-- What a take leaves.
use Rattle.std.proofs.Common.{◌≡◌, inl, ◌<◌, ◌≤◌, ◌+◌, ◌^◌, ℕ, max, List, [], ◌∷◌, ◌++◌, length, Bool, true, false, cond, Some, Ok, refl, sym, ◌∙◌, ap, subst, arith, length-append}
use Rattle.std.proofs.lemmas.List.{append-nil}
use Rattle.disks.specs.Disks.{DiskState, Only, HasClock, LeavesOnly}
use Rattle.disks.specs.Moments.{started}
use Rattle.node_model.specs.Nodes.{Node, adopt}
use Rattle.node_model.specs.Takes.{Takes, Treats}
use Rattle.message_texts.specs.Texts.{message_in, text_of}
use Rattle.doc_types.specs.SchemaCodes.{Types}
use Rattle.messages.specs.declared.message.Message.{Message}
use Rattle.messages.specs.declared.body.Body.{Body}
use Rattle.messages.specs.declared.reply.Reply.{Reply}
use Rattle.messages.specs.declared.reply.Reply.TheVariants as reply
use Rattle.node_journal.specs.Files.{record_of, IsRecord}
use Rattle.node_journal.specs.Lives.{IsLive, is_wanting, is_recorded, added}
use Rattle.node_journal.specs.Journals.{Records, RecordsOrAlso, IsAt, Journaled, Holds, IsJournal}
use Rattle.node_journal.specs.Taking.{IsFramed}
use Rattle.node_journal.proofs.Readings.{record_is}
use Rattle.node_journal.proofs.Writings.{at_recorded}
use Rattle.node_journal.proofs.Lives.{live_more, live_wanting, live_older, serial_more, serial_wanting}

-- what is recorded where the reply is neither of the two
pub recorded_here : (b : Body) (old new : Node) (r : Reply) → is_wanting r ≡ false → Treats old b new r → is_recorded r ≡ true
recorded_here b old new (reply.Answer ps es) served t = refl
recorded_here b old new (reply.Newer v) served t = absurd t
recorded_here b old new reply.NoBucket served t = refl
recorded_here b old new reply.Differs served t = refl
recorded_here b old new reply.NoMemory served t = cc

-- what was wanting isn't recorded
wanting_told : (r : Reply) → is_wanting r ≡ true → is_recorded r ≡ false
wanting_told (reply.Answer ps es) wants = cc
wanting_told (reply.Newer v) wants = refl
wanting_told reply.NoBucket wants = cc
wanting_told reply.Differs wants = cc
wanting_told reply.NoMemory wants = refl

module _ {D : Type 0} (state : D → DiskState) where
  -- the last serial is far from its end
  pub few_serials : (j : Journaled D) → IsJournal state j → j.shut ≡ false → j.node.serial < 2 ^ 32
  few_serials j is awake = let h = (is.holds awake).1 in omega (arith, h.few, h.at.within, h.size, is.most)

  -- what a crash leaves while the disk isn't touched
  pub still : (j : Journaled D) (d : D) (ms : List Message) (m : Message) → HasClock (state j.disk) → d ≡ j.disk → Holds state j ms → LeavesOnly (state j.disk) (state d) (RecordsOrAlso j.schema j.max_bytes (Ok ms) m)
  still j d ms m clock same h =
      subst (λ (e : D). LeavesOnly (state j.disk) (state e) (RecordsOrAlso j.schema j.max_bytes (Ok ms) m)) (sym same)
      (started (state j.disk) (RecordsOrAlso j.schema j.max_bytes (Ok ms) m) clock (λ f left. inl (subst (Records j.schema j.max_bytes (Ok ms)) (sym (h.durable f left)) (record {
        size = h.size;
        messages = at_recorded j.schema (state j.disk).seen j.end ms h.at;
      }))))

  -- a node that changed, over the same disk
  same_disk : (j : Journaled D) (node : Node) (ms ns : List Message) → ns ≡ ms → Holds state j ms → IsLive ms node → node.serial ≤ j.node.serial → Holds state (record j { node = node }) ns
  same_disk j node ms ns same h live few = subst (Holds state (record j { node = node })) (sym same) (record {
    goes_on = h.goes_on;
    size = h.size;
    at = h.at;
    live = live;
    few = omega (arith, few, h.few);
    durable = h.durable;
  })

  -- nothing is added
  none_added : (ms : List Message) (r : Reply) (m : Message) → is_recorded r ≡ false → ms ++ added r m ≡ ms
  none_added ms r m told = ap (λ (t : Bool). ms ++ cond t (m ∷ []) []) told ∙ append-nil ms

  one_added : (ms : List Message) (r : Reply) (m : Message) → is_recorded r ≡ true → ms ++ added r m ≡ ms ++ m ∷ []
  one_added ms r m told = ap (λ (t : Bool). ms ++ cond t (m ∷ []) []) told

  pub holds_older : (j : Journaled D) (node : Node) (ms : List Message) (m : Message) (r : Reply) → Holds state j ms → m.version < j.node.version → Takes j.node m node r → Holds state (record j { node = node }) (ms ++ added r m)
  holds_older j node ms m r h lt takes =
      let l = live_older ms j.node node m r h.live lt takes in
      same_disk j node ms (ms ++ added r m) (none_added ms r m l.1) h l.0 (omega (arith, ap (λ (n : Node). n.serial) (takes.too_old lt).1))

  pub holds_wanting : (j : Journaled D) (node : Node) (ms : List Message) (m : Message) (r : Reply) → Holds state j ms → j.node.version ≤ m.version → Takes j.node m node r → is_wanting r ≡ true → Holds state (record j { node = node }) (ms ++ added r m)
  holds_wanting j node ms m r h le takes wants =
      let told : is_recorded r ≡ false = wanting_told r wants in
      same_disk j node ms (ms ++ added r m) (none_added ms r m told) h (live_wanting ms j.node node m r h.live le takes told) (omega (arith, serial_wanting j.node node m r le takes told))

  pub framed_is : (schema : Types) (m : Message) (end limit : ℕ) (bytes : List ℕ) → IsFramed (text_of m) end limit bytes → message_in schema (text_of m) ≡ Some m → IsRecord (message_in schema) (record_of (text_of m)) m
  framed_is schema m end limit bytes framed reads = record_is (message_in schema) (text_of m) m framed.short reads

  pub holds_added : (j : Journaled D) (node : Node) (disk : D) (ms : List Message) (m : Message) (r : Reply) (bytes : List ℕ) (end : ℕ) → Holds state j ms → j.node.version ≤ m.version → Takes j.node m node r → is_wanting r ≡ false → IsFramed (text_of m) j.end j.max_bytes bytes → end + 1 ≡ j.end + length bytes
      → IsAt j.schema (state disk).seen (j.end + (1 + length (record_of (text_of m)))) (ms ++ m ∷ []) → length (state disk).seen ≤ max (length (state j.disk).seen) (j.end + length bytes) → Only (state disk).seen (state disk).may_leave
      → Holds state (record { node = node; disk = disk; schema = j.schema; max_bytes = j.max_bytes; end = end; shut = j.shut }) (ms ++ added r m)
  holds_added j node disk ms m r bytes end h le takes served framed is at size durable =
      let told : is_recorded r ≡ true = recorded_here m.body (adopt m.version j.node) node r served (takes.treated le) in
      let place : j.end + (1 + length (record_of (text_of m))) ≡ end = omega (arith, is, ap (λ (l : List ℕ). length l) framed.is, length-append (record_of (text_of m)) (0 ∷ [])) in
      subst (Holds state (record { node = node; disk = disk; schema = j.schema; max_bytes = j.max_bytes; end = end; shut = j.shut })) (sym (one_added ms r m told)) (record {
        goes_on = h.goes_on;
        size = omega (arith, h.size, size, framed.room, framed.size);
        at = subst (λ (k : ℕ). IsAt j.schema (state disk).seen k (ms ++ m ∷ [])) place at;
        live = live_more ms j.node node m r h.live le takes told;
        few = omega (arith, serial_more j.node node m r le takes told, h.few, is, framed.size);
        durable = durable;
      })

  -- the record and its gate are on the disk
  pub holds_after : (j : Journaled D) (node : Node) (disk : D) (m : Message) (r : Reply) (bytes : List ℕ) (end : ℕ) → j.node.version ≤ m.version → Takes j.node m node r → is_wanting r ≡ false → IsFramed (text_of m) j.end j.max_bytes bytes → message_in j.schema (text_of m) ≡ Some m → end + 1 ≡ j.end + length bytes
      → ((schema : Types) (ms : List Message) (m : Message) (piece : List ℕ) → IsAt schema (state j.disk).seen j.end ms → IsRecord (message_in schema) piece m → bytes ≡ 1 ∷ (piece ++ 0 ∷ []) → IsAt schema (state disk).seen (j.end + (1 + length piece)) (ms ++ m ∷ []))
      → length (state disk).seen ≤ max (length (state j.disk).seen) (j.end + length bytes) → Only (state disk).seen (state disk).may_leave
      → (ms : List Message) → Holds state j ms → Holds state (record { node = node; disk = disk; schema = j.schema; max_bytes = j.max_bytes; end = end; shut = j.shut }) (ms ++ added r m)
  holds_after j node disk m r bytes end le takes served framed reads is adds size durable ms h =
      holds_added j node disk ms m r bytes end h le takes served framed is
      (adds j.schema ms m (record_of (text_of m)) h.at (framed_is j.schema m j.end j.max_bytes bytes framed reads) framed.is) size durable

  -- at each moment of the two steps
  pub moment_after : (j : Journaled D) (disk : D) (m : Message) (bytes : List ℕ) → IsFramed (text_of m) j.end j.max_bytes bytes → message_in j.schema (text_of m) ≡ Some m
      → ((schema : Types) (ms : List Message) (m : Message) (piece : List ℕ) (limit : ℕ) → IsAt schema (state j.disk).seen j.end ms → IsRecord (message_in schema) piece m → bytes ≡ 1 ∷ (piece ++ 0 ∷ []) → length (state j.disk).seen ≤ limit → j.end + length bytes ≤ limit → LeavesOnly (state j.disk) (state disk) (RecordsOrAlso schema limit (Ok ms) m))
      → (ms : List Message) → Holds state j ms → LeavesOnly (state j.disk) (state disk) (RecordsOrAlso j.schema j.max_bytes (Ok ms) m)
  moment_after j disk m bytes framed reads leaves ms h =
      leaves j.schema ms m (record_of (text_of m)) j.max_bytes h.at (framed_is j.schema m j.end j.max_bytes bytes framed reads) framed.is h.size (omega (arith, framed.room, framed.size))
