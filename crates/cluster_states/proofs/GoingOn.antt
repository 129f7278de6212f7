-- Each place goes on to a state text.
use Rattle.std.proofs.Common.{◌≢◌, ℕ, suc, ◌+◌, ◌-◌, ◌<◌, List, [], ◌∷◌, ◌++◌, length, drop, replicate, codes, refl, sym, ap, subst, ◌∙◌, arith, Some}
use Rattle.std.specs.Fmt.{decimal}
use Rattle.std.specs.List.{All}
use Rattle.std.proofs.lemmas.List.{length-set, length-replicate, set_split}
use Rattle.std.proofs.lemmas.List.Elements.{All-replicate}
use Rattle.cluster_states.specs.ClusterStates.{State, IsState}
use Rattle.cluster_states.specs.declared.marks.Mark.TheVariants.{Up, Down, Retired}
use Rattle.cluster_states.specs.declared.places.Role.{Role}
use Rattle.cluster_states.specs.declared.places.Role.TheVariants.{Distributor, Storage}
use Rattle.cluster_states.specs.declared.places.Number.{Number}
use Rattle.cluster_states.specs.declared.places.Number.TheVariants.{Version, Distributors, Nodes, Groups, Marked}
use Rattle.cluster_states.specs.declared.places.Place.{Place}
use Rattle.cluster_states.specs.declared.places.Place.TheVariants.{Word, Digits, Counts, CountsSpace, Sign, Gap, Space}
use Rattle.cluster_states.specs.StateTexts.{marks_text, after_version, after_distributors, after_counts, after_groups}
use Rattle.cluster_states.specs.Scanning.{marks_of, role_word, word_of, tail_of, letter_of, least_of, end_of, with_mark, Others, Signed, TakesNumber, IsKnown, IsPlace, IsWithin, At}
use Rattle.cluster_states.proofs.Counting.{reached}
use Rattle.cluster_states.proofs.Moving.{scan_at}
use Rattle.cluster_states.proofs.MarkTexts.{down_is_not_up}
use Rattle.cluster_states.proofs.MarkMoves.{marks_with, state_with, down_is_not_retired}
use Rattle.cluster_states.proofs.SpaceMoves.{gap_ends, to_nodes, to_node}
use Rattle.cluster_states.proofs.GroupMoves.{counts_ends, past_groups}

up_is_not_retired : Up ≢ Retired
up_is_not_retired e = absurd (omega (arith, ap letter_of e))

all_up : (n : ℕ) → All (λ m. m ≢ Retired) (replicate n Up)
all_up n = All-replicate (λ m. m ≢ Retired) n Up up_is_not_retired

-- what can follow a number of the bounds
pub record Follower (number : Number) (known : State) (n : ℕ) : Type 0 where
  pub after : List ℕ
  pub state : State
  pub is : IsState state
  pub takes : TakesNumber number known n after state

others_itself : (role : Role) (known : State) → Others role known known
others_itself Distributor known = ((refl, refl), refl)
others_itself Storage known = ((refl, refl), refl)

-- a mark that is down can stand at each number
pub signed_some : (role : Role) (n : ℕ) (known : State) → n < length (marks_of role known)
    → Signed role n known (letter_of Down ∷ (marks_text (role_word role) (n + 1) (drop (suc n) (marks_of role known)) ++ tail_of role (with_mark known role n Down))) (with_mark known role n Down)
signed_some role n known lt = record {
  mark = Down;
  rest = drop (suc n) (marks_of role known);
  others = turned role n known;
  size = ap length (marks_with known role n Down) ∙ length-set (marks_of role known) n Down;
  marks = marks_with known role n Down ∙ set_split (marks_of role known) n Down lt;
  marked = down_is_not_up;
  text = refl;
}
  where
    turned : (role : Role) (n : ℕ) (known : State) → Others role known (with_mark known role n Down)
    turned Distributor n known = ((refl, refl), refl)
    turned Storage n known = ((refl, refl), refl)

state_marked : (role : Role) (n : ℕ) (known : State) → IsState known → IsState (with_mark known role n Down)
state_marked role n known h = state_with known role n Down (λ _. down_is_not_retired) h

pub takes_some : (number : Number) (known : State) (n : ℕ) → IsKnown number known → IsWithin number known n → Follower number known n
takes_some Version known n k w =
    let s : State = record { version = n; distributors = replicate 1 Up; nodes = replicate 1 Up; groups = 1 } in
    record {
      after = after_version s;
      state = s;
      is = record { version = w.1; some_distributors = omega arith; few_distributors = omega arith; some_nodes = omega arith; few_nodes = omega arith; plain = all_up 1; some_groups = omega arith; few_groups = omega arith };
      takes = (refl, refl);
    }
takes_some Distributors known n k w =
    let s : State = record { version = known.version; distributors = replicate n Up; nodes = replicate 1 Up; groups = 1 } in
    let size = length-replicate n Up in
    record {
      after = after_distributors s;
      state = s;
      is = record { version = k.0; some_distributors = omega (arith, size, w.0); few_distributors = omega (arith, size, w.1); some_nodes = omega arith; few_nodes = omega arith; plain = all_up n; some_groups = omega arith; few_groups = omega arith };
      takes = (refl, (size, refl));
    }
takes_some Nodes known n k w =
    let s : State = record { version = known.version; distributors = known.distributors; nodes = replicate n Up; groups = 1 } in
    let size = length-replicate n Up in
    record {
      after = after_counts s;
      state = s;
      is = record {
        version = k.0.0;
        some_groups = omega arith;
        few_groups = omega arith;
        some_distributors = k.1.0;
        few_distributors = k.1.1.0;
        some_nodes = omega (arith, size, w.0);
        few_nodes = omega (arith, size, w.1);
        plain = subst (All (λ m. m ≢ Retired)) (sym k.1.1.1) (all_up (length known.distributors - 0));
      };
      takes = (refl, (refl, (size, refl)));
    }
takes_some Groups known n k w =
    let s : State = record { version = known.version; distributors = known.distributors; nodes = known.nodes; groups = n } in
    let h = k.0.state in
    record {
      after = after_groups s;
      state = s;
      is = record {
        version = h.version;
        some_distributors = h.some_distributors;
        few_distributors = h.few_distributors;
        some_nodes = h.some_nodes;
        few_nodes = h.few_nodes;
        plain = h.plain;
        some_groups = omega (arith, w.0);
        few_groups = omega (arith, w.1);
      };
      takes = ((refl, (refl, refl)), (w.0, (refl, refl)));
    }
takes_some (Marked role least) known n k w =
    let more : List ℕ = letter_of Down ∷ (marks_text (role_word role) (n + 1) (drop (suc n) (marks_of role known)) ++ tail_of role (with_mark known role n Down)) in
    record {
      after = codes ".s:" ++ more;
      state = with_mark known role n Down;
      is = state_marked role n known k.1.state;
      takes = (w.0, (more, (refl, signed_some role n known w.1)));
    }

some_number : (number : Number) (known : State) → IsKnown number known → least_of number < end_of number known
some_number Version known k = omega arith
some_number Distributors known k = omega arith
some_number Nodes known k = omega arith
some_number Groups known k = omega arith
some_number (Marked role least) known k = k.0

-- a text that goes on from a place
pub record GoesOn (place : Place) (known : State) : Type 0 where
  pub more : List ℕ
  pub state : State
  pub is : IsState state
  pub at : At place known more state

word_goes_on : (number : Number) (at : ℕ) (known : State) → IsKnown number known → GoesOn (Word number at) known
word_goes_on number at known k =
    let f = takes_some number known (least_of number) k (omega arith, some_number number known k) in
    record {
      more = drop at (word_of number) ++ (decimal (least_of number) ++ f.after);
      state = f.state;
      is = f.is;
      at = (decimal (least_of number) ++ f.after, (refl, record { value = least_of number; after = f.after; text = refl; takes = f.takes }));
    }

pub goes_on : (place : Place) (known : State) → IsPlace place known → GoesOn place known
goes_on (Word number at) known k = word_goes_on number at known k.0
goes_on (Digits number value) known k =
    let r = reached (least_of number) (end_of number known) value (some_number number known k.0) k.1 in
    let f = takes_some number known r.whole k.0 (r.low, r.high) in
    record {
      more = r.digits ++ f.after;
      state = f.state;
      is = f.is;
      at = record { whole = r.whole; digits = r.digits; after = f.after; continues = r.continues; text = refl; takes = f.takes };
    }
goes_on Counts known k = let e = counts_ends known k in record { more = []; state = known; is = e.0; at = e.1 }
goes_on CountsSpace known k =
    let m = past_groups known 115 (Some (scan_at (Word (Marked Storage 0) 0) known)) (λ e. absurd (omega (arith, e))) k (to_nodes 0 known 115 refl k.0) in
    let g = word_goes_on (Marked Storage 0) 0 known m.0.0 in
    let back = (m.1 g.more g.state).1 (g.is, g.at) in
    record { more = 115 ∷ g.more; state = g.state; is = back.0; at = back.1 }
goes_on (Sign role n at) known k =
    let more : List ℕ = letter_of Down ∷ (marks_text (role_word role) (n + 1) (drop (suc n) (marks_of role known)) ++ tail_of role (with_mark known role n Down)) in
    record {
      more = drop at (codes ".s:") ++ more;
      state = with_mark known role n Down;
      is = state_marked role n known k.1.0.state;
      at = (more, (refl, signed_some role n known k.0));
    }
goes_on (Gap role least) known k = let e = gap_ends role least known k in record { more = []; state = known; is = e.0; at = e.1 }
goes_on (Space Distributor least) known k =
    let m = to_nodes least known 115 refl k.0 in
    let g = word_goes_on (Marked Storage 0) 0 known m.0.0 in
    let back = (m.1 g.more g.state).1 (g.is, g.at) in
    record { more = 115 ∷ g.more; state = g.state; is = back.0; at = back.1 }
goes_on (Space Storage least) known k =
    let m = to_node least known 115 refl k.1 k.0 in
    let g = word_goes_on (Marked Storage least) 0 known m.0.0 in
    let back = (m.1 g.more g.state).1 (g.is, g.at) in
    record { more = 115 ∷ g.more; state = g.state; is = back.0; at = back.1 }
