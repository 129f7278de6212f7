-- A tally has what its list of answers says.
use Rattle.std.proofs.Common.{◌≡◌, ℕ, List, [], ◌∷◌, ap, ◌∙◌}
use Rattle.op_machine.specs.declared.tally.Tally.{Tally}
use Rattle.op_machine.specs.Outcomes.{answers_of}
use Rattle.op_machine.specs.Telling.{IsTold, IsNobody}
use Rattle.op_machine.specs.Lists.{Told, no_answers, with_told, answers_in, IsTally}

nobody : (t : Tally) → IsNobody t → answers_of t ≡ no_answers
nobody t h = λ i. record { told = λ n. h.told n i; answered = λ n. h.answered n i; short = h.short i; seen = h.seen i }

one_more : (id : List ℕ) (x : Told) (s t : Tally) → IsTold id x.node x.reply s t → answers_of t ≡ with_told id x (answers_of s)
one_more id x s t h = λ i. record { told = λ n. (h.counted).told n i; answered = λ n. (h.counted).answered n i; short = (h.counted).short i; seen = h.seen i }

pub tally-list : (id : List ℕ) (xs : List Told) (t : Tally) → IsTally id xs t → answers_of t ≡ answers_in id xs
tally-list id [] t h = nobody t h
tally-list id (x ∷ xs) t h = one_more id x h.0 t h.2 ∙ ap (with_told id x) (tally-list id xs h.0 h.1)
