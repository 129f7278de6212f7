-- What is read of ids, stamps and numbers.
use Rattle.std.proofs.Common.{◌≡◌, ◌≢◌, ◌∙◌, ℕ, ◌<◌, Bool, true, cond, nat_lt, List, Option, Some, None, Ok, sym, ap, arith}
use Rattle.std.specs.Option.{MatchOption}
use Rattle.std.proofs.lemmas.Bool.Decides.{nat_tests}
use Rattle.document_ids.specs.Grammar.{Parts, HasParts, IsId}
use Rattle.document_ids.specs.Parts.{parts_of}
use Rattle.stamps.specs.declared.stamp.Stamp.{Stamp}
use Rattle.stamps.specs.Printed.{printed, IsStamp, stamp_in}
use Rattle.message_texts.specs.Parts.{id_by, id_in, below}

-- an id is read again
pub read_id : ((text : List ℕ) (p : Parts) → HasParts text p → parts_of text ≡ Ok p) → (id : List ℕ) → IsId id → id_in id ≡ Some id
read_id accepts id is = ap (id_by id) (accepts id is.0 is.1)

-- a stamp is found where its text is
pub found_stamp : ((s : Stamp) → IsStamp s → stamp_in (printed s) ≡ Some s) → ((text : List ℕ) → ((s : Stamp) → IsStamp s → text ≢ printed s) → stamp_in text ≡ None)
    → (text : List ℕ) (r : Option Stamp) → MatchOption r ((s : Stamp) → IsStamp s → text ≢ printed s) (λ s. (text ≡ printed s) × IsStamp s) → r ≡ stamp_in text
found_stamp its none text None h = sym (none text h)
found_stamp its none text (Some s) h = sym (ap stamp_in h.0 ∙ its s h.1)

pub small_below : (limit n : ℕ) → n < limit → below limit n ≡ Some n
small_below limit n lt = ap (λ (t : Bool). cond t (Some n) None) (under n limit lt)
  where
    under : (a b : ℕ) → a < b → nat_lt a b ≡ true
    under a b lt = grind (arith, nat_tests)
