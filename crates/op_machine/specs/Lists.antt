-- The answers of a phase as a list, the newest at its head.
use Rattle.std.specs.Prelude.{◌==◌, ◌||◌, ◌&&◌, ℕ, false, List, [], ◌∷◌, Option, None}
use Rattle.entry_maps.specs.Entries.{newer_of}
use Rattle.messages.specs.declared.reply.Reply.{Reply}
use Rattle.op_machine.specs.declared.tally.Tally.{Tally}
use Rattle.op_machine.specs.Outcomes.{Answers}
use Rattle.op_machine.specs.Telling.{is_answer, is_short, entry_shown, IsTold, IsNobody}

-- of a node its reply, or that none came
pub record Told : Type 0 where
  pub node : ℕ
  pub reply : Option Reply

abbrev pub no_answers : Answers
no_answers = record { told = λ n. false; answered = λ n. false; short = false; seen = None }

-- one more
abbrev pub with_told : List ℕ → Told → Answers → Answers
with_told id x a = record {
  told = λ n. a.told n || n == x.node;
  answered = λ n. a.answered n || (is_answer x.reply && n == x.node);
  short = a.short || is_short x.reply;
  seen = newer_of a.seen (entry_shown id x.reply);
}

-- what was answered about a document
abbrev pub answers_in : List ℕ → List Told → Answers
answers_in id [] = no_answers
answers_in id (x ∷ xs) = with_told id x (answers_in id xs)

-- the tally once these were told, one after the other
abbrev pub IsTally : List ℕ → List Told → Tally → Type 0
IsTally id [] t = IsNobody t
IsTally id (x ∷ xs) t = (s : Tally) × IsTally id xs s × IsTold id x.node x.reply s t
