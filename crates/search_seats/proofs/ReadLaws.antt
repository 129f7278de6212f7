-- Seats are read one after the other.
use Rattle.std.proofs.Common.{◌≡◌, ℕ, ◌+◌, ◌<◌, ◌≤◌, List, [], ◌∷◌, ◌++◌, length, take, map, Option, Some, refl, sym, ◌∙◌, ap, ap₂, subst, arith}
use Rattle.std.proofs.lemmas.List.{length-map, length-take-le, map-append, take_all}
use Rattle.view_changes.specs.Views.{View}
use Rattle.query_text.specs.declared.query.Query.{Query}
use Rattle.search_views.specs.Summed.{IsSummed}
use Rattle.search_views.specs.declared.sums.SearchSum.{SearchSum}
use Rattle.generation_guard.specs.Histories.{Beginning}
use Rattle.generation_guard.specs.Known.{Known}
use Rattle.search_seats.specs.Searches.{ReadsAt, ReadSoFar, front_by, view_by}

pub none_read : (q : Query) (w : ℕ) (fronts : List Beginning) (sum : SearchSum) → fronts ≡ [] → IsSummed q w [] sum → ReadSoFar q w [] fronts sum
none_read q w fronts sum none new = record { known = []; seats_are = refl; fronts_are = none; summed = new }

pub read_more : (q : Query) (w lane : ℕ) (seats seats' : List (Option Known)) (fronts fronts' : List Beginning) (front : Beginning) (sum sum' : SearchSum)
    → ReadSoFar q w (take lane seats) fronts sum → ReadsAt lane seats seats' front sum sum' → fronts' ≡ fronts ++ front ∷ [] → ReadSoFar q w (take (lane + 1) seats') fronts' sum'
read_more q w lane seats seats' fronts fronts' front sum sum' so now more =
    let last = now.read.known in
    record {
      known = so.known ++ last ∷ [];
      seats_are = now.seats_are ∙ (ap₂ (λ (xs : List (Option Known)) (x : Option Known). xs ++ x ∷ []) so.seats_are now.read.seat_is ∙ sym (map-append (λ (k : Known). Some k) so.known (last ∷ [])));
      fronts_are = more ∙ (ap₂ (λ (xs : List Beginning) (x : Beginning). xs ++ x ∷ []) so.fronts_are now.read.front_is ∙ sym (map-append front_by so.known (last ∷ [])));
      summed = subst (λ (vs : List View). IsSummed q w vs sum') (sym (map-append view_by so.known (last ∷ []))) (now.read.added q w (map view_by so.known) so.summed);
    }

-- all lanes were read
pub all_read : (q : Query) (w lane : ℕ) (seats : List (Option Known)) (fronts : List Beginning) (sum : SearchSum)
    → ReadSoFar q w (take lane seats) fronts sum → length seats ≤ lane → ReadSoFar q w seats fronts sum
all_read q w lane seats fronts sum so past = subst (λ (xs : List (Option Known)). ReadSoFar q w xs fronts sum) (take_all lane seats past) so

-- one view more is one of 64
pub few_read : (q : Query) (w lane : ℕ) (seats : List (Option Known)) (fronts : List Beginning) (sum : SearchSum)
    → ReadSoFar q w (take lane seats) fronts sum → lane < length seats → length seats ≤ 64 → sum.groups.views < 64
few_read q w lane seats fronts sum so below few =
    let count : sum.groups.views ≡ lane =
    so.summed.views ∙ length-map so.known view_by ∙ sym (length-map so.known (λ (k : Known). Some k)) ∙ ap length (sym so.seats_are) ∙ length-take-le lane seats (omega (arith, below)) in
    omega (arith, count, below, few)
