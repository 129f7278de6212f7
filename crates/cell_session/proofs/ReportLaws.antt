-- The reports of lines, one after the other.
use Rattle.std.proofs.Common.{◌≡◌, ℕ, zero, suc, ◌+◌, ◌<◌, ◌≤◌, List, [], ◌∷◌, ◌++◌, Option, refl, sym, ap, ◌∙◌, subst, arith, length, append_assoc, append-nil, take, drop, slice_index_or}
use Rattle.std.proofs.Math.Seq.{take-suc}
use Rattle.std.proofs.KnownBytes.{Appends-nil, Appends-trans}
use Rattle.std.specs.Io.KnownBytes.{Appends}
use Rattle.reports.specs.declared.answer.Answer.{Answer}
use Rattle.session_cluster.specs.Output.{bytes_of}
use Rattle.cell_session.specs.Reporting.{LeavesFront, reports_from, LeavesSome}
use Rattle.cell_session.specs.declared.answering.Stop.{Stop}
use Rattle.cell_session.specs.declared.answering.Stop.TheVariants as stop
use Rattle.cell_session.proofs.Loops.{appends_kept}

abbrev Answers : Type 0
Answers = List (Option Answer)

reports_push : (line : ℕ) (xs : Answers) (a : Option Answer) → reports_from line (xs ++ a ∷ []) ≡ reports_from line xs ++ bytes_of (line + length xs) a
reports_push line [] a = append-nil (bytes_of line a) ∙ ap (λ n. bytes_of n a) (omega arith)
reports_push line (b ∷ xs) a =
    ap (λ l. bytes_of line b ++ l) (reports_push (suc line) xs a ∙ ap (λ n. reports_from (suc line) xs ++ bytes_of n a) (omega arith))
    ∙ sym (append_assoc (bytes_of line b) (reports_from (suc line) xs) (bytes_of (line + suc (length xs)) a))

-- ---- so many of them

-- the sink took the reports of the first so many
pub record TookFirst (line : ℕ) (answers : Answers) (at : ℕ) (before now : Option (List ℕ)) : Type 0 where
  pub output : Appends before now (reports_from line (take at answers))

pub took_none : (line : ℕ) (answers : Answers) (before : Option (List ℕ)) → TookFirst line answers 0 before before
took_none line answers before = record { output = Appends-nil before }

long_enough : (answers : Answers) (at : ℕ) → at < length answers → length (take at answers) ≡ at
long_enough [] at below = absurd (omega (arith, below))
long_enough (a ∷ answers) zero below = refl
long_enough (a ∷ answers) (suc at) below = ap suc (long_enough answers at (omega (arith, below)))

one_more : (answers : Answers) (at : ℕ) (a : Option Answer) → at < length answers → a ≡ slice_index_or answers at a → take (at + 1) answers ≡ take at answers ++ a ∷ []
one_more answers at a below is = ap (λ n. take n answers) (next at) ∙ take-suc answers at a below ∙ ap (λ x. take at answers ++ x ∷ []) (sym is)
  where
    next : (k : ℕ) → k + 1 ≡ suc k
    next k = omega arith

split_at : (answers : Answers) (at : ℕ) → answers ≡ take at answers ++ drop at answers
split_at answers zero = refl
split_at [] (suc at) = refl
split_at (a ∷ answers) (suc at) = ap (λ l. a ∷ l) (split_at answers at)

split_here : (answers : Answers) (at : ℕ) (a : Option Answer) → at < length answers → a ≡ slice_index_or answers at a → answers ≡ take at answers ++ a ∷ drop (suc at) answers
split_here [] at a below is = absurd (omega (arith, below))
split_here (b ∷ answers) zero a below is = ap (λ x. x ∷ answers) (sym is)
split_here (b ∷ answers) (suc at) a below is = ap (λ l. b ∷ l) (split_here answers at a (omega (arith, below)) is)

pub took_more : (line : ℕ) (answers : Answers) (at : ℕ) (a : Option Answer) (before now now' : Option (List ℕ)) → TookFirst line answers at before now → at < length answers → a ≡ slice_index_or answers at a
    → Appends now now' (bytes_of (line + at) a) → TookFirst line answers (at + 1) before now'
took_more line answers at a before now now' took below is wrote = record {
  output = subst (Appends before now') (sym (ap (reports_from line) (one_more answers at a below is) ∙ reports_push line (take at answers) a ∙ ap (λ n. reports_from line (take at answers) ++ bytes_of (line + n) a) (long_enough answers at below)))
      (Appends-trans before now now' (reports_from line (take at answers)) (bytes_of (line + at) a) took.output wrote);
}

pub took_all : (line : ℕ) (answers : Answers) (at : ℕ) (before now : Option (List ℕ)) → TookFirst line answers at before now → length answers ≤ at → Appends before now (reports_from line answers)
took_all line answers at before now took past = subst (Appends before now) (ap (reports_from line) (whole answers at past)) took.output
  where
    whole : (answers : Answers) (at : ℕ) → length answers ≤ at → take at answers ≡ answers
    whole [] zero past = refl
    whole [] (suc at) past = refl
    whole (a ∷ answers) zero past = absurd (omega (arith, past))
    whole (a ∷ answers) (suc at) past = ap (λ l. a ∷ l) (whole answers at (omega (arith, past)))

-- where the next one didn't reach the sink whole
pub left_some : (why : Stop) (line : ℕ) (answers : Answers) (at : ℕ) (a : Option Answer) (before now now' : Option (List ℕ)) → TookFirst line answers at before now → at < length answers → a ≡ slice_index_or answers at a
    → LeavesFront why (bytes_of (line + at) a) now now' → LeavesSome why line answers before now'
left_some stop.Fault line answers at a before now now' took below is (front, (rest, (whole, (some, wrote)))) = record {
  earlier = take at answers;
  last = a;
  later = drop (suc at) answers;
  all = split_here answers at a below is;
  front = front;
  rest = rest;
  cut = some;
  report = ap (λ n. bytes_of (line + n) a) (long_enough answers at below) ∙ whole;
  output = Appends-trans before now now' (reports_from line (take at answers)) front took.output wrote;
}
left_some stop.Memory line answers at a before now now' took below is kept = record {
  earlier = take at answers;
  later = drop at answers;
  all = split_at answers at;
  output = appends_kept before now now' (reports_from line (take at answers)) took.output kept;
}
