-- The script that a journal says.
use Rattle.std.specs.Prelude.{◌≡◌, ◌==◌, ◌&&◌, ℕ, Bool, true, false, not, nat_lt, is_some, List, [], ◌∷◌, None, Some, if◌then◌else◌}
use Rattle.lane_journals.specs.Events.{Delivered}
use Rattle.lane_journals.specs.Readers.{Journal, Message, sent, first_reply}
use Rattle.pass_model.specs.Scripts.{tells, is_telling, came, takings}

-- as the message is delivered it comes to the node for the first time, as this number
abbrev pub comes_as : ℕ → ℕ → ℕ → Journal → Bool
comes_as n i k H = (tells n (sent k H) && not (is_some (first_reply k H))) && (came n H == i)

-- whether the message that came to the node as this number is taken twice in a whole journal
unfoldable pub script_in : Journal → ℕ → ℕ → Journal → Bool
script_in whole n i [] = false
script_in whole n i (Delivered k r ∷ H) = if comes_as n i k H then nat_lt 1 (takings k whole) else script_in whole n i H
script_in whole n i (_ ∷ H) = script_in whole n i H

-- each message that was sent behind the first journal was delivered
abbrev pub AreDelivered : Journal → Journal → Type 0
AreDelivered J K = (k : ℕ) (m : Message) → sent k J ≡ None → sent k K ≡ Some m → is_telling m.body ≡ true → is_some (first_reply k K) ≡ true
