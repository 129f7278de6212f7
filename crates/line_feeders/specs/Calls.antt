-- The calls for a line, and what is answered at the lock of its group.
use Rattle.std.specs.Prelude.{◌≡◌, ◌⊎◌, ℕ, Bool, true, false}
use Rattle.line_feeders.specs.declared.turns.Went.{Went}
use Rattle.line_feeders.specs.declared.turns.Went.TheVariants as went

pub data Call : Type 0 where
  Begins : Call
  Advances : Call
  Closes : Call

-- ---- one call at a lock

-- a group of the lock's number took the call, and this was its answer
pub record WasCalled {T : Type 0} (number : T → ℕ) (does : T → T → Went → Type 0) (lock : ℕ) (answer : Went) : Type 0 where
  pub before : T
  pub after : T
  pub of_lock : number before ≡ lock
  pub done : does before after answer

-- a group of another number was behind it, and the line is left
pub record WasAnother {T : Type 0} (number : T → ℕ) (lock : ℕ) (answer : Went) : Type 0 where
  pub group : T
  pub other : number group ≡ lock → ⊥
  pub left : answer ≡ went.Left

-- what is answered at a lock of the number to a call for the line at a place
abbrev pub IsAnswer : {T : Type 0} → (T → ℕ) → (Call → ℕ → T → T → Went → Type 0) → ℕ → Call → ℕ → Went → Type 0
IsAnswer number does lock call place answer = WasCalled number (does call place) lock answer ⊎ WasAnother number lock answer

-- ---- all calls for a line

-- it has its outcome
abbrev pub is_over : Went → Bool
is_over went.On = false
is_over went.Waits = false
is_over went.Ends = false
is_over went.Over = true
is_over went.Left = false

-- it doesn't go on once it is to begin
pub record WasSpared (answers : Call → ℕ → Went → Type 0) (place : ℕ) (over : Bool) : Type 0 where
  pub answer : Went
  pub began : answers Begins place answer
  pub not_on : answer ≡ went.On → ⊥
  pub over_is : over ≡ is_over answer

-- it began, went on until it was not to go on, and was to be closed
pub record WasDriven (answers : Call → ℕ → Went → Type 0) (place : ℕ) (over : Bool) : Type 0 where
  pub began : answers Begins place went.On
  pub last : Went
  pub advanced : answers Advances place last
  pub not_on : last ≡ went.On → ⊥
  pub answer : Went
  pub closed : answers Closes place answer
  pub over_is : over ≡ is_over answer

-- the line at the place was run by calls with such answers, and has its outcome or not
abbrev pub RanTo : (Call → ℕ → Went → Type 0) → ℕ → Bool → Type 0
RanTo answers place over = WasSpared answers place over ⊎ WasDriven answers place over
