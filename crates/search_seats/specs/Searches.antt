-- What a search reads of seats, and what seats keep.
use Rattle.std.specs.Prelude.{◌≡◌, ◌+◌, ◌++◌, ℕ, List, [], ◌∷◌, map, take, Option, None, Some, slice_index_or}
use Rattle.view_changes.specs.Views.{View, view_after}
use Rattle.query_text.specs.Grammar.{said_of}
use Rattle.query_text.specs.declared.query.Query.{Query}
use Rattle.search_views.specs.Answers.{search_answer}
use Rattle.search_views.specs.Summed.{IsSummed}
use Rattle.search_views.specs.declared.sums.SearchSum.{SearchSum}
use Rattle.generation_guard.specs.Histories.{Beginning}
use Rattle.generation_guard.specs.Seats.{front_of}
use Rattle.generation_guard.specs.Known.{Known, SeesNoLess}
use Rattle.search_seats.specs.declared.reading.Searched.{Searched}

-- the view that a seat saw last, and how far that is
abbrev pub view_by : Known → View
view_by k = view_after k.shelf.opening k.seen

abbrev pub front_by : Known → Beginning
front_by k = front_of k.shelf k.seen

-- ---- what seats keep

abbrev pub seat_at : List (Option Known) → ℕ → Option Known
seat_at seats lane = slice_index_or seats lane None

-- a seat is back, and has seen no less
abbrev pub KeepsSeat : Option Known → Option Known → Type 0
KeepsSeat None None = Unit {0}
KeepsSeat (Some old) (Some new) = SeesNoLess old new
KeepsSeat _ _ = ⊥

-- of all lanes
abbrev pub KeepSeats : List (Option Known) → List (Option Known) → Type 0
KeepSeats [] [] = Unit {0}
KeepSeats (old ∷ olds) (new ∷ news) = KeepsSeat old new × KeepSeats olds news
KeepSeats _ _ = ⊥

-- ---- what a search reads

-- the view that the seat has seen was added to a sum, and the front is how far that is
pub record ReadsSeat (seat : Option Known) (front : Beginning) (sum sum' : SearchSum) : Type 0 where
  pub known : Known
  pub seat_is : seat ≡ Some known
  pub front_is : front ≡ front_by known
  pub added : (q : Query) (w : ℕ) (vs : List View) → IsSummed q w vs sum → IsSummed q w (vs ++ view_by known ∷ []) sum'

-- the seat of a lane was read, and those of the lanes before stay
pub record ReadsAt (lane : ℕ) (seats seats' : List (Option Known)) (front : Beginning) (sum sum' : SearchSum) : Type 0 where
  pub seat : Option Known
  pub read : ReadsSeat seat front sum sum'
  pub seats_are : take (lane + 1) seats' ≡ take lane seats ++ seat ∷ []

-- these seats were read, in order
pub record ReadSoFar (q : Query) (w : ℕ) (seats : List (Option Known)) (fronts : List Beginning) (sum : SearchSum) : Type 0 where
  pub known : List Known
  pub seats_are : seats ≡ map (λ k. Some k) known
  pub fronts_are : fronts ≡ map front_by known
  pub summed : IsSummed q w (map view_by known) sum

-- each lane has a seat, the fronts are what these have seen, and the answer is that over the views there
pub record IsReadFrom (q : Query) (w : ℕ) (seats : List (Option Known)) (searched : Searched) : Type 0 where
  pub known : List Known
  pub seats_are : seats ≡ map (λ k. Some k) known
  pub fronts_are : searched.fronts ≡ map front_by known
  pub answer_is : searched.answer ≡ search_answer (said_of q) w (map view_by known)
