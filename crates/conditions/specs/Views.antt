-- What the code's types stand for.
use Rattle.std.specs.Prelude.{◌≡◌, ℕ, List, map, reverse, Option, Some, None, Result, Ok, Err}
use Rattle.conditions.specs.declared.reader.Stop.{Stop}
use Rattle.conditions.specs.declared.reader.Stop.TheVariants as stop
use Rattle.conditions.specs.declared.tree.Tree as code
use Rattle.conditions.specs.declared.chains.Link.{Link}
use Rattle.conditions.specs.declared.chains.Chain.{Chain}
use Rattle.conditions.specs.declared.frames.Level.{Level}
use Rattle.conditions.specs.declared.frames.Open.{Open}
use Rattle.conditions.specs.declared.frames.Open.TheVariants as frame
use Rattle.conditions.specs.declared.frames.Place.{Place}
use Rattle.conditions.specs.declared.frames.Place.TheVariants as gap
use Rattle.conditions.specs.declared.reading.Conditions.{Conditions}
use Rattle.conditions.specs.declared.reading.Settled.{Settled}
use Rattle.conditions.specs.Formulas.{Formula, truth, falsity, claim, opposite, both, either}
use Rattle.conditions.specs.Chains.{Links}
use Rattle.conditions.specs.Machine.{Frame, level, pending, Gap, want, want_bracket, behind, Moved}

abbrev pub formula_of : {A : Type 0} → code.Tree A → Formula A
formula_of code.True = truth
formula_of code.False = falsity
formula_of (code.Atom a) = claim a
formula_of (code.Not' p x) = opposite (formula_of x)
formula_of (code.And' p x q y) = both (formula_of x) (formula_of y)
formula_of (code.Or' p x q y) = either (formula_of x) (formula_of y)

abbrev pub link_of : {A : Type 0} → Link A → ℕ × Formula A
link_of l = (l.rank, formula_of l.tree)

-- newest first
abbrev pub links_of : {A : Type 0} → List (Link A) → Links A
links_of links = reverse (map link_of links)

abbrev pub chain_of : {A : Type 0} → Chain A → Links A
chain_of c = links_of c.links.items

abbrev pub frame_of : {A : Type 0} → Open A → Frame A
frame_of (frame.Level l) = level l.bracket (chain_of l.ors) (chain_of l.ands)
frame_of frame.Not = pending

abbrev pub stack_of : {A : Type 0} → List (Open A) → List (Frame A)
stack_of frames = reverse (map frame_of frames)

abbrev pub gap_of : {A : Type 0} → Place A → Gap A
gap_of gap.Want = want
gap_of gap.WantBracket = want_bracket
gap_of (gap.Behind x) = behind (formula_of x)

abbrev pub moved_of : {A : Type 0} → Conditions A → Moved A
moved_of c = (stack_of c.frames.items, gap_of c.place)

abbrev pub settled_of : {A : Type 0} → Settled A → Formula A × List (Frame A)
settled_of s = (formula_of s.tree, stack_of s.frames.items)

-- a step of the code is one of the machine
abbrev pub Goes : {X Y : Type 0} → (X → Y) → Result X Stop → Option Y → Type 0
Goes seen (Ok x) step = step ≡ Some (seen x)
Goes seen (Err stop.Refused) step = step ≡ None
Goes seen (Err stop.NoMemory) step = Unit {0}
