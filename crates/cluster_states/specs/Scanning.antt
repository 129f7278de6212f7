-- What may still follow where a part of a state text was read.
use Rattle.std.specs.Prelude.{◌≡◌, ◌≢◌, ℕ, ◌+◌, ◌-◌, ◌*◌, ◌^◌, ◌<◌, ◌≤◌, ◌&&◌, ◌||◌, ◌↔◌, ⊤, Bool, true, List, [], ◌∷◌, ◌++◌, length, take, drop, replicate, codes, nat_le, nat_lt, nat_eq, Option, Some, None, slice_set, if◌then◌else◌}
use Rattle.std.specs.Fmt.{decimal}
use Rattle.cluster_states.specs.declared.marks.Mark.{Mark}
use Rattle.cluster_states.specs.declared.marks.Mark.TheVariants.{Up, Down, Retired}
use Rattle.cluster_states.specs.declared.places.Role.{Role}
use Rattle.cluster_states.specs.declared.places.Role.TheVariants.{Distributor, Storage}
use Rattle.cluster_states.specs.declared.places.Number.{Number}
use Rattle.cluster_states.specs.declared.places.Number.TheVariants.{Version, Distributors, Nodes, Groups, Marked}
use Rattle.cluster_states.specs.declared.places.Place.{Place}
use Rattle.cluster_states.specs.declared.places.Place.TheVariants.{Word, Digits, Counts, CountsSpace, Sign, Gap, Space}
use Rattle.cluster_states.specs.ClusterStates.{State, IsState}
use Rattle.cluster_states.specs.StateTexts.{IsStateText, marks_text, after_version, after_distributors, after_counts, after_groups}

-- the marks of a role
abbrev pub marks_of : Role → State → List Mark
marks_of Distributor s = s.distributors
marks_of Storage s = s.nodes

-- how a mark of a role begins
abbrev pub role_word : Role → List ℕ
role_word Distributor = codes " distributor."
role_word Storage = codes " storage."

-- what follows the marks of a role
abbrev pub tail_of : Role → State → List ℕ
tail_of Distributor s = marks_text (codes " storage.") 0 s.nodes
tail_of Storage s = []

-- the letter of a mark
abbrev pub letter_of : Mark → ℕ
letter_of Up = 0
letter_of Down = 100
letter_of Retired = 114

-- what is read before a number
abbrev pub word_of : Number → List ℕ
word_of Version = codes "version:"
word_of Distributors = codes " distributor:"
word_of Nodes = codes " storage:"
word_of Groups = codes "roups:"
word_of (Marked Distributor least) = codes "istributor."
word_of (Marked Storage least) = codes "torage."

-- the least number that may stand there, and the first that is too great
abbrev pub least_of : Number → ℕ
least_of Version = 0
least_of Distributors = 1
least_of Nodes = 1
least_of Groups = 2
least_of (Marked role least) = least

abbrev pub end_of : Number → State → ℕ
end_of Version s = 2 ^ 32
end_of Distributors s = 33
end_of Nodes s = 33
end_of Groups s = 9
end_of (Marked role least) s = length (marks_of role s)

-- a number of these bounds begins with this one's digits
abbrev pub can_begin : ℕ → ℕ → ℕ → Bool
can_begin least end value = (nat_le least value && nat_lt value end) || (nat_le 1 value && (nat_lt (10 * value) end && nat_le least (10 * value + 9)))

-- the number that digits make behind another number's digits
abbrev pub value_from : ℕ → List ℕ → ℕ
value_from n [] = n
value_from n (c ∷ cs) = value_from (10 * n + (c - 48)) cs

abbrev pub AreDigits : List ℕ → Type 0
AreDigits [] = ⊤
AreDigits (c ∷ cs) = (48 ≤ c) × ((c < 58) × AreDigits cs)

-- a number whose digits are those of n and then these; nothing follows a zero
pub record Continues (n : ℕ) (cs : List ℕ) (v : ℕ) : Type 0 where
  pub digits : AreDigits cs
  pub value : v ≡ value_from n cs
  pub no_zero : n ≡ 0 → cs ≡ []

-- a state has the version and the groups that are known
abbrev pub SameHead : State → State → Type 0
SameHead known s = (s.version ≡ known.version) × (s.groups ≡ known.groups)

-- a state has of the other role what is known of it
abbrev pub Others : Role → State → State → Type 0
Others Distributor known s = SameHead known s × (length s.nodes ≡ length known.nodes)
Others Storage known s = SameHead known s × (s.distributors ≡ known.distributors)

-- a number of a role has a mark, whose letter and all behind it follow
pub record Signed (role : Role) (number : ℕ) (known : State) (more : List ℕ) (s : State) : Type 0 where
  pub mark : Mark
  pub rest : List Mark
  pub others : Others role known s
  pub size : length (marks_of role s) ≡ length (marks_of role known)
  pub marks : marks_of role s ≡ take number (marks_of role known) ++ mark ∷ rest
  pub marked : mark ≢ Up
  pub text : more ≡ letter_of mark ∷ (marks_text (role_word role) (number + 1) rest ++ tail_of role s)

-- the marks of a role from a number on follow
pub record Follows (role : Role) (least : ℕ) (known : State) (more : List ℕ) (s : State) : Type 0 where
  pub rest : List Mark
  pub others : Others role known s
  pub size : length (marks_of role s) ≡ length (marks_of role known)
  pub marks : marks_of role s ≡ take least (marks_of role known) ++ rest
  pub text : more ≡ marks_text (role_word role) least rest ++ tail_of role s

-- a state has the version and the counts that are known
abbrev pub IsCounted : State → State → Type 0
IsCounted known s = (s.version ≡ known.version) × ((length s.distributors ≡ length known.distributors) × (length s.nodes ≡ length known.nodes))

-- a number is this one, and so much follows
abbrev pub TakesNumber : Number → State → ℕ → List ℕ → State → Type 0
TakesNumber Version known n after s = (s.version ≡ n) × (after ≡ after_version s)
TakesNumber Distributors known n after s = (s.version ≡ known.version) × ((length s.distributors ≡ n) × (after ≡ after_distributors s))
TakesNumber Nodes known n after s = (s.version ≡ known.version) × ((length s.distributors ≡ length known.distributors) × ((length s.nodes ≡ n) × (after ≡ after_counts s)))
TakesNumber Groups known n after s = IsCounted known s × ((2 ≤ n) × ((s.groups ≡ n) × (after ≡ after_groups s)))
TakesNumber (Marked role least) known n after s = (least ≤ n) × ((more : List ℕ) × ((after ≡ codes ".s:" ++ more) × Signed role n known more s))

-- a number and what is behind it follow
pub record Numbered (number : Number) (known : State) (more : List ℕ) (s : State) : Type 0 where
  pub value : ℕ
  pub after : List ℕ
  pub text : more ≡ decimal value ++ after
  pub takes : TakesNumber number known value after s

-- the rest of a number and what is behind it follow
pub record Counting (number : Number) (value : ℕ) (known : State) (more : List ℕ) (s : State) : Type 0 where
  pub whole : ℕ
  pub digits : List ℕ
  pub after : List ℕ
  pub continues : Continues value digits whole
  pub text : more ≡ digits ++ after
  pub takes : TakesNumber number known whole after s

-- what may follow a place, and the state that is said then
abbrev pub At : Place → State → List ℕ → State → Type 0
At (Word number at) known more s = (rest : List ℕ) × ((more ≡ drop at (word_of number) ++ rest) × Numbered number known rest s)
At (Digits number value) known more s = Counting number value known more s
At Counts known more s = IsCounted known s × (more ≡ after_counts s)
At CountsSpace known more s = IsCounted known s × (32 ∷ more ≡ after_counts s)
At (Sign role number at) known more s = (rest : List ℕ) × ((more ≡ drop at (codes ".s:") ++ rest) × Signed role number known rest s)
At (Gap role least) known more s = Follows role least known more s
At (Space role least) known more s = Follows role least known (32 ∷ more) s

-- where a reader stands, and the state so far, in which all that has no mark yet is up
pub record Scan : Type 0 where
  pub place : Place
  pub state : State

-- what may follow a scan, and the state that is said then
abbrev pub Rests : Scan → List ℕ → State → Type 0
Rests x more s = IsState s × At x.place x.state more s

-- from a number on all are up
abbrev pub AreUpFrom : ℕ → List Mark → Type 0
AreUpFrom least ms = drop least ms ≡ replicate (length ms - least) Up

-- of the other role all is known, or all are up
abbrev pub Others_up : Role → State → Type 0
Others_up Distributor known = AreUpFrom 0 known.nodes
Others_up Storage known = ⊤

-- the marks of a role are known below a number, and up from there on
pub record IsReady (role : Role) (least : ℕ) (known : State) : Type 0 where
  pub state : IsState known
  pub few : least ≤ length (marks_of role known)
  pub up : AreUpFrom least (marks_of role known)
  pub others : Others_up role known

-- the counts are known, all are up, and of groups nothing is said
abbrev pub IsPlain : State → Type 0
IsPlain known = IsReady Distributor 0 known × (known.groups ≡ 1)

-- what is known before a number
abbrev pub IsKnown : Number → State → Type 0
IsKnown Version known = known.groups ≡ 1
IsKnown Distributors known = (known.version < 2 ^ 32) × (known.groups ≡ 1)
IsKnown Nodes known = ((known.version < 2 ^ 32) × (known.groups ≡ 1)) × ((1 ≤ length known.distributors) × ((length known.distributors ≤ 32) × AreUpFrom 0 known.distributors))
IsKnown Groups known = IsPlain known
IsKnown (Marked role least) known = (least < length (marks_of role known)) × IsReady role least known

-- there is room for a mark
abbrev pub HasRoom : Role → ℕ → State → Type 0
HasRoom Distributor least known = ⊤
HasRoom Storage least known = least < length known.nodes

-- a place that is reached
abbrev pub IsPlace : Place → State → Type 0
IsPlace (Word number at) known = IsKnown number known × (at ≤ length (word_of number))
IsPlace (Digits number value) known = IsKnown number known × (can_begin (least_of number) (end_of number known) value ≡ true)
IsPlace Counts known = IsPlain known
IsPlace CountsSpace known = IsPlain known
IsPlace (Sign role number at) known = (number < length (marks_of role known)) × (IsReady role number known × (at ≤ 3))
IsPlace (Gap role least) known = IsReady role least known
IsPlace (Space role least) known = IsReady role least known × HasRoom role least known

abbrev pub IsScan : Scan → Type 0
IsScan x = IsPlace x.place x.state

-- a letter moves a scan on, or nothing goes on so
abbrev pub Moves : Scan → ℕ → Option Scan → Type 0
Moves x letter (Some y) = IsScan y × ((more : List ℕ) (s : State) → Rests x (letter ∷ more) s ↔ Rests y more s)
Moves x letter None = (more : List ℕ) (s : State) → Rests x (letter ∷ more) s → ⊥

-- what a text says that ends here
abbrev pub Ends : Scan → Option State → Type 0
Ends x (Some s) = Rests x [] s
Ends x None = (s : State) → Rests x [] s → ⊥

-- a number may end here
abbrev pub IsWithin : Number → State → ℕ → Type 0
IsWithin number known value = (least_of number ≤ value) × (value < end_of number known)

-- a number may end here
abbrev pub is_within : Number → State → ℕ → Bool
is_within number known value = nat_le (least_of number) value && nat_lt value (end_of number known)

-- the mark that a letter stands for
abbrev pub mark_by : Role → ℕ → Option Mark
mark_by Distributor letter = if nat_eq letter 100 then Some Down else None
mark_by Storage letter = if nat_eq letter 100 then Some Down else (if nat_eq letter 114 then Some Retired else None)

-- a state with another mark for a number
abbrev pub with_mark : State → Role → ℕ → Mark → State
with_mark s Distributor number mark = record { version = s.version; distributors = slice_set s.distributors number mark; nodes = s.nodes; groups = s.groups }
with_mark s Storage number mark = record { version = s.version; distributors = s.distributors; nodes = slice_set s.nodes number mark; groups = s.groups }

-- there is room for a mark
abbrev pub has_room : Role → ℕ → State → Bool
has_room Distributor least known = true
has_room Storage least known = nat_lt least (length known.nodes)

-- no digit of the text's last number was read at this place
abbrev pub IsOutsidePlace : Place → Type 0
IsOutsidePlace (Word number at) = ⊤
IsOutsidePlace (Digits number value) = ⊥
IsOutsidePlace Counts = ⊤
IsOutsidePlace CountsSpace = ⊤
IsOutsidePlace (Sign role number at) = ⊤
IsOutsidePlace (Gap role least) = ⊤
IsOutsidePlace (Space role least) = ⊤

abbrev pub IsOutside : Scan → Type 0
IsOutside x = IsOutsidePlace x.place

-- a scan stands behind a number
abbrev pub IsBehind : Number → State → ℕ → Scan → Type 0
IsBehind number known value y = IsOutside y × (IsScan y × ((more : List ℕ) (s : State) → (IsState s × TakesNumber number known value more s) ↔ Rests y more s))

-- the place behind the digits of a number so far, where a number may begin so
abbrev pub digits_of : Number → State → ℕ → Option Scan
digits_of number known value = if can_begin (least_of number) (end_of number known) value then Some (record { place = Digits number value; state = known }) else None

-- the number of a mark whose role begins with a letter
abbrev pub number_by : Role → ℕ → State → ℕ → Option Number
number_by Distributor least known letter = if nat_eq letter 100 then (if nat_lt least (length known.distributors) then Some (Marked Distributor least) else None)
    else (if nat_eq letter 115 then Some (Marked Storage 0) else None)
number_by Storage least known letter = if nat_eq letter 115 then Some (Marked Storage least) else None

-- a place is reached by reading these letters: the texts that begin so are those that go on from it
abbrev pub IsReached : Scan → List ℕ → Type 0
IsReached x letters = IsScan x × ((more : List ℕ) (s : State) → IsStateText (letters ++ more) s ↔ Rests x more s)
