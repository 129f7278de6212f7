-- What a reply tells, and the tally after it.
use Rattle.std.specs.Prelude.{◌≡◌, ◌==◌, ◌||◌, ◌&&◌, ℕ, Bool, true, false, List, Option, None, Some}
use Rattle.std.specs.FinMap as fin
use Rattle.node_sets.specs.Members.{has_node}
use Rattle.documents.specs.declared.entry.Entry.{Entry}
use Rattle.entry_maps.specs.Entries.{newer_of}
use Rattle.messages.specs.declared.reply.Reply.{Reply}
use Rattle.messages.specs.declared.reply.Reply.TheVariants.{Answer, Newer, NoBucket, Differs, NoMemory}
use Rattle.op_machine.specs.declared.tally.Tally.{Tally}

-- only Answer counts as answered; none is told where no reply came
abbrev pub is_answer : Option Reply → Bool
is_answer (Some (Answer ps m)) = true
is_answer (Some (Newer v)) = false
is_answer (Some NoBucket) = false
is_answer (Some Differs) = false
is_answer (Some NoMemory) = false
is_answer None = false

abbrev pub is_short : Option Reply → Bool
is_short (Some (Answer ps m)) = false
is_short (Some (Newer v)) = false
is_short (Some NoBucket) = false
is_short (Some Differs) = false
is_short (Some NoMemory) = true
is_short None = false

-- the document's entry that a reply shows
abbrev pub entry_shown : List ℕ → Option Reply → Option Entry
entry_shown id (Some (Answer ps m)) = fin.get m id
entry_shown id (Some (Newer v)) = None
entry_shown id (Some NoBucket) = None
entry_shown id (Some Differs) = None
entry_shown id (Some NoMemory) = None
entry_shown id None = None

-- the set has a node more where a test passes
abbrev pub IsWith : ℕ → Bool → ℕ → ℕ → Type 0
IsWith node test old new = (n : ℕ) → has_node new n ≡ (has_node old n || (test && n == node))

-- the tally once a node's reply is told, or that none came, whatever it shows
pub record IsCounted (node : ℕ) (reply : Option Reply) (old new : Tally) : Type 0 where
  pub told : IsWith node true old.told new.told
  pub answered : IsWith node (is_answer reply) old.answered new.answered
  pub short : new.short ≡ (old.short || is_short reply)

-- and with what it shows of a document
pub record IsTold (id : List ℕ) (node : ℕ) (reply : Option Reply) (old new : Tally) : Type 0 where
  pub counted : IsCounted node reply old new
  pub seen : new.seen ≡ newer_of old.seen (entry_shown id reply)

-- nothing was told
pub record IsNobody (t : Tally) : Type 0 where
  pub told : (n : ℕ) → has_node t.told n ≡ false
  pub answered : (n : ℕ) → has_node t.answered n ≡ false
  pub short : t.short ≡ false
  pub seen : t.seen ≡ None
