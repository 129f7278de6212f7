-- What lines are states, stops, starts and plans of messages.
use Rattle.std.proofs.Common.{◌≡◌, ℕ, ◌&&◌, Bool, true, false, List, [], ◌∷◌, codes, Option, Some, None, is_some, option_map, option_and_then, Ok, refl, sym, ap, ap₂, ◌∙◌}
use Rattle.serde_json.specs.Data.{Data, null, boolean, number, string, array, object}
use Rattle.serde_json.specs.Find.{get, as_str}
use Rattle.doc_types.specs.SchemaCodes.{Types}
use Rattle.carriers.specs.declared.fate.Fate.{Fate}
use Rattle.feed_lines.specs.Lines.{SaysDeaf, IsState, IsNodeLine, IsNet}
use Rattle.feed_lines.specs.Meaning.{answer_by, number_of, list_of, command_in, own_said, state_said, stop_said, start_said, net_said, data_said}
use Rattle.feed_lines.specs.Tests.{first_cause, verb_of, members_of, has_net_keys, net_of, in_net, state_in, deaf_in, node_in, lane_in, fates_in, text_of, tests}
use Rattle.feed_lines.specs.Keys.{all_stand}
use Rattle.feed_lines.specs.Values.{node_of, lane_of, set_of, nodes_of, set_said, fates_of}
use Rattle.feed_lines.specs.declared.command.Cause.{Cause}
use Rattle.feed_lines.specs.declared.command.Cause.TheVariants as cause
use Rattle.feed_lines.specs.declared.command.Command.TheVariants as command
use Rattle.feed_lines.specs.declared.keys.LineVerb.{LineVerb}
use Rattle.feed_lines.specs.declared.keys.LineVerb.TheVariants as line
use Rattle.feed_lines.proofs.LineTests.{left, right, some_from, said, says}

-- ---- what the arms say

state_by : (text : Option (List ℕ)) (deaf : Option ℕ) → state_said text deaf ≡ answer_by (first_cause ((is_some text && is_some deaf, cause.Value) ∷ [])) (command.State (text_of text) (number_of deaf))
state_by None deaf = refl
state_by (Some text) None = refl
state_by (Some text) (Some deaf) = refl

pub state_is : (types : Types) (bits : ℕ) (d : Data) → state_said (state_in d) (deaf_in d) ≡ own_said types bits line.State d
state_is types bits d = state_by (state_in d) (deaf_in d)

stop_by : (node : Option ℕ) → stop_said node ≡ answer_by (first_cause ((is_some node, cause.Value) ∷ [])) (command.Stop (number_of node))
stop_by None = refl
stop_by (Some node) = refl

pub stop_is : (types : Types) (bits : ℕ) (d : Data) → stop_said (node_in (codes "stop") d) ≡ own_said types bits line.Stop d
stop_is types bits d = stop_by (node_in (codes "stop") d)

start_by : (node : Option ℕ) → start_said node ≡ answer_by (first_cause ((is_some node, cause.Value) ∷ [])) (command.Start (number_of node))
start_by None = refl
start_by (Some node) = refl

pub start_is : (types : Types) (bits : ℕ) (d : Data) → start_said (node_in (codes "start") d) ≡ own_said types bits line.Start d
start_is types bits d = start_by (node_in (codes "start") d)

net_by : (lane : Option ℕ) (fates : Option (List Fate)) → net_said lane fates ≡ answer_by (first_cause ((is_some lane && is_some fates, cause.Value) ∷ [])) (command.Net (number_of lane) (list_of fates))
net_by None fates = refl
net_by (Some lane) None = refl
net_by (Some lane) (Some fates) = refl

pub net_is : (types : Types) (bits : ℕ) (d : Data) → net_said (lane_in bits d) (fates_in d) ≡ own_said types bits line.Net d
net_is types bits d = net_by (lane_in bits d) (fates_in d)

-- ---- each test holds, and back

pub two_hold : (a b : Bool) (p q : Cause) → a ≡ true → b ≡ true → first_cause ((a, p) ∷ (b, q) ∷ []) ≡ None
two_hold a b p q h k = rw (h, k) refl

pub each_of_two : (a b : Bool) (p q : Cause) → first_cause ((a, p) ∷ (b, q) ∷ []) ≡ None → (a ≡ true) × (b ≡ true)
each_of_two true true p q h = (refl, refl)
each_of_two true false p q h = cc
each_of_two false b p q h = cc

pub with_true : (a : Bool) → a ≡ true → (a && true) ≡ true
with_true a h = rw h refl

-- ---- states

pub text_back : (o : Option Data) (text : List ℕ) → option_and_then as_str o ≡ Some text → o ≡ Some (string text)
text_back None text h = cc
text_back (Some null) text h = cc
text_back (Some (boolean b)) text h = cc
text_back (Some (number n)) text h = cc
text_back (Some (string s)) text h = let is : s ≡ text = cc in ap (λ t. Some (string t)) is
text_back (Some (array ds)) text h = cc
text_back (Some (object ms)) text h = cc

some_set : (o : Option (List ℕ)) (set : ℕ) → option_map set_of o ≡ Some set → (nodes : List ℕ) × (o ≡ Some nodes) × (set ≡ set_of nodes)
some_set None set h = cc
some_set (Some nodes) set h = (nodes, refl, cc)

deaf_back : (o : Option Data) (set : ℕ) → set_said o ≡ Some set → (nodes : List ℕ) × SaysDeaf o nodes × (set ≡ set_of nodes)
deaf_back None set h = ([], refl, cc)
deaf_back (Some d) set h = some_set (nodes_of d) set h

deaf_from : (o : Option Data) (nodes : List ℕ) → SaysDeaf o nodes → set_said o ≡ Some (set_of nodes)
deaf_from None nodes h = ap (λ l. Some (set_of l)) (sym h)
deaf_from (Some d) nodes h = ap (option_map set_of) h

same_state : (t u : List ℕ) (a b : ℕ) → command.State t a ≡ command.State u b → (t ≡ u) × (a ≡ b)
same_state t u a b h = (cc, cc)

state_parts : (types : Types) (bits : ℕ) (d : Data) (text : List ℕ) (deaf : ℕ) → verb_of d ≡ Some line.State → first_cause (tests types bits line.State d) ≡ None
    → command_in types bits line.State d ≡ command.State text deaf → IsState d text deaf
state_parts types bits d text deaf verb holds is =
    let each = each_of_two (all_stand line.State (members_of d) && true) (is_some (state_in d) && is_some (deaf_in d)) cause.Key cause.Value holds in
    let words = some_from (state_in d) (left _ _ each.1) in
    let set = some_from (deaf_in d) (right _ _ each.1) in
    let same = same_state _ text _ deaf is in
    let nodes = deaf_back (get (codes "deaf") d) set.0 set.1 in
    record {
      has_verb = record { verb = verb; keys = left _ _ each.0 };
      says_text = text_back (get (codes "state") d) words.0 words.1 ∙ ap (λ t. Some (string t)) (sym (ap text_of words.1) ∙ same.0);
      nodes = nodes.0;
      says_deaf = nodes.1;
      is_set = sym same.1 ∙ ap number_of set.1 ∙ nodes.2;
    }

state_by_verb : (types : Types) (bits : ℕ) (v : LineVerb) (d : Data) (text : List ℕ) (deaf : ℕ) → verb_of d ≡ Some v → first_cause (tests types bits v d) ≡ None
    → command_in types bits v d ≡ command.State text deaf → IsState d text deaf
state_by_verb types bits (line.Feed v) d text deaf verb holds is = cc
state_by_verb types bits line.Search d text deaf verb holds is = cc
state_by_verb types bits line.State d text deaf verb holds is = state_parts types bits d text deaf verb holds is
state_by_verb types bits line.Stop d text deaf verb holds is = cc
state_by_verb types bits line.Start d text deaf verb holds is = cc
state_by_verb types bits line.Net d text deaf verb holds is = cc
state_by_verb types bits line.Maintain d text deaf verb holds is = cc
state_by_verb types bits line.Barrier d text deaf verb holds is = cc

pub state_means : (types : Types) (bits : ℕ) (d : Data) (text : List ℕ) (deaf : ℕ) → data_said types bits d ≡ Ok (command.State text deaf) → IsState d text deaf
state_means types bits d text deaf h = let s = said types bits d _ h in state_by_verb types bits s.v d text deaf s.verb s.holds s.command

pub means_state : (types : Types) (bits : ℕ) (d : Data) (text : List ℕ) (deaf : ℕ) → IsState d text deaf → data_said types bits d ≡ Ok (command.State text deaf)
means_state types bits d text deaf p =
    let words = ap (option_and_then as_str) p.says_text in
    let set = deaf_from (get (codes "deaf") d) p.nodes p.says_deaf in
    says types bits line.State d p.has_verb.verb
    (two_hold (all_stand line.State (members_of d) && true) (is_some (state_in d) && is_some (deaf_in d)) cause.Key cause.Value
    (with_true _ p.has_verb.keys) (ap₂ (λ a b. is_some a && is_some b) words set))
    ∙ ap₂ (λ t s. Ok (command.State (text_of t) (number_of s))) words set ∙ ap (λ s. Ok (command.State text s)) (sym p.is_set)

-- ---- stops and starts

node_back : (o : Option Data) (node : ℕ) → option_and_then node_of o ≡ Some node → (d : Data) × (o ≡ Some d) × (node_of d ≡ Some node)
node_back None node h = cc
node_back (Some d) node h = (d, refl, h)

node_line : (v : LineVerb) (key : List ℕ) (d : Data) (node : ℕ) → verb_of d ≡ Some v → all_stand v (members_of d) ≡ true → is_some (node_in key d) ≡ true → number_of (node_in key d) ≡ node → IsNodeLine v key d node
node_line v key d node verb keys there is =
    let some = some_from (node_in key d) there in
    let back = node_back (get key d) some.0 some.1 in
    record { has_verb = record { verb = verb; keys = keys }; said = back.0; value = back.1; number = back.2 ∙ ap Some (sym (ap number_of some.1) ∙ is) }

node_there : (v : LineVerb) (key : List ℕ) (d : Data) (node : ℕ) → IsNodeLine v key d node → node_in key d ≡ Some node
node_there v key d node p = ap (option_and_then node_of) p.value ∙ p.number

stop_by_verb : (types : Types) (bits : ℕ) (v : LineVerb) (d : Data) (node : ℕ) → verb_of d ≡ Some v → first_cause (tests types bits v d) ≡ None → command_in types bits v d ≡ command.Stop node
    → IsNodeLine line.Stop (codes "stop") d node
stop_by_verb types bits (line.Feed v) d node verb holds is = cc
stop_by_verb types bits line.Search d node verb holds is = cc
stop_by_verb types bits line.State d node verb holds is = cc
stop_by_verb types bits line.Stop d node verb holds is =
    let each = each_of_two (all_stand line.Stop (members_of d) && true) (is_some (node_in (codes "stop") d)) cause.Key cause.Value holds in
    node_line line.Stop (codes "stop") d node verb (left _ _ each.0) each.1 cc
stop_by_verb types bits line.Start d node verb holds is = cc
stop_by_verb types bits line.Net d node verb holds is = cc
stop_by_verb types bits line.Maintain d node verb holds is = cc
stop_by_verb types bits line.Barrier d node verb holds is = cc

start_by_verb : (types : Types) (bits : ℕ) (v : LineVerb) (d : Data) (node : ℕ) → verb_of d ≡ Some v → first_cause (tests types bits v d) ≡ None → command_in types bits v d ≡ command.Start node
    → IsNodeLine line.Start (codes "start") d node
start_by_verb types bits (line.Feed v) d node verb holds is = cc
start_by_verb types bits line.Search d node verb holds is = cc
start_by_verb types bits line.State d node verb holds is = cc
start_by_verb types bits line.Stop d node verb holds is = cc
start_by_verb types bits line.Start d node verb holds is =
    let each = each_of_two (all_stand line.Start (members_of d) && true) (is_some (node_in (codes "start") d)) cause.Key cause.Value holds in
    node_line line.Start (codes "start") d node verb (left _ _ each.0) each.1 cc
start_by_verb types bits line.Net d node verb holds is = cc
start_by_verb types bits line.Maintain d node verb holds is = cc
start_by_verb types bits line.Barrier d node verb holds is = cc

pub stop_means : (types : Types) (bits : ℕ) (d : Data) (node : ℕ) → data_said types bits d ≡ Ok (command.Stop node) → IsNodeLine line.Stop (codes "stop") d node
stop_means types bits d node h = let s = said types bits d _ h in stop_by_verb types bits s.v d node s.verb s.holds s.command

pub start_means : (types : Types) (bits : ℕ) (d : Data) (node : ℕ) → data_said types bits d ≡ Ok (command.Start node) → IsNodeLine line.Start (codes "start") d node
start_means types bits d node h = let s = said types bits d _ h in start_by_verb types bits s.v d node s.verb s.holds s.command

pub means_stop : (types : Types) (bits : ℕ) (d : Data) (node : ℕ) → IsNodeLine line.Stop (codes "stop") d node → data_said types bits d ≡ Ok (command.Stop node)
means_stop types bits d node p =
    let there = node_there line.Stop (codes "stop") d node p in
    says types bits line.Stop d p.has_verb.verb
    (two_hold (all_stand line.Stop (members_of d) && true) (is_some (node_in (codes "stop") d)) cause.Key cause.Value (with_true _ p.has_verb.keys) (ap is_some there))
    ∙ ap (λ o. Ok (command.Stop (number_of o))) there

pub means_start : (types : Types) (bits : ℕ) (d : Data) (node : ℕ) → IsNodeLine line.Start (codes "start") d node → data_said types bits d ≡ Ok (command.Start node)
means_start types bits d node p =
    let there = node_there line.Start (codes "start") d node p in
    says types bits line.Start d p.has_verb.verb
    (two_hold (all_stand line.Start (members_of d) && true) (is_some (node_in (codes "start") d)) cause.Key cause.Value (with_true _ p.has_verb.keys) (ap is_some there))
    ∙ ap (λ o. Ok (command.Start (number_of o))) there

-- ---- plans of messages

pub value_back : {A : Type 0} (f : Data → Option A) (o : Option Data) (x : A) → option_and_then f o ≡ Some x → (d : Data) × (o ≡ Some d) × (f d ≡ Some x)
value_back f None x h = cc
value_back f (Some d) x h = (d, refl, h)

same_net : (l k : ℕ) (f g : List Fate) → command.Net l f ≡ command.Net k g → (l ≡ k) × (f ≡ g)
same_net l k f g h = (cc, cc)

net_parts : (types : Types) (bits : ℕ) (d : Data) (lane : ℕ) (fates : List Fate) → verb_of d ≡ Some line.Net → first_cause (tests types bits line.Net d) ≡ None
    → command_in types bits line.Net d ≡ command.Net lane fates → IsNet bits d lane fates
net_parts types bits d lane fates verb holds is =
    let each = each_of_two (all_stand line.Net (members_of d) && has_net_keys (net_of d)) (is_some (lane_in bits d) && is_some (fates_in d)) cause.Key cause.Value holds in
    let some_lane = some_from (lane_in bits d) (left _ _ each.1) in
    let some_fates = some_from (fates_in d) (right _ _ each.1) in
    let same = same_net _ lane _ fates is in
    let lane_said = value_back (lane_of bits) (in_net (codes "lane") (net_of d)) some_lane.0 some_lane.1 in
    let fates_said = value_back fates_of (in_net (codes "fates") (net_of d)) some_fates.0 some_fates.1 in
    record {
      has_verb = record { verb = verb; keys = left _ _ each.0 };
      object = right _ _ each.0;
      said_lane = lane_said.0;
      lane_there = lane_said.1;
      says_lane = lane_said.2 ∙ ap Some (sym (ap number_of some_lane.1) ∙ same.0);
      said_fates = fates_said.0;
      fates_there = fates_said.1;
      says_fates = fates_said.2 ∙ ap Some (sym (ap list_of some_fates.1) ∙ same.1);
    }

net_by_verb : (types : Types) (bits : ℕ) (v : LineVerb) (d : Data) (lane : ℕ) (fates : List Fate) → verb_of d ≡ Some v → first_cause (tests types bits v d) ≡ None
    → command_in types bits v d ≡ command.Net lane fates → IsNet bits d lane fates
net_by_verb types bits (line.Feed v) d lane fates verb holds is = cc
net_by_verb types bits line.Search d lane fates verb holds is = cc
net_by_verb types bits line.State d lane fates verb holds is = cc
net_by_verb types bits line.Stop d lane fates verb holds is = cc
net_by_verb types bits line.Start d lane fates verb holds is = cc
net_by_verb types bits line.Net d lane fates verb holds is = net_parts types bits d lane fates verb holds is
net_by_verb types bits line.Maintain d lane fates verb holds is = cc
net_by_verb types bits line.Barrier d lane fates verb holds is = cc

pub net_means : (types : Types) (bits : ℕ) (d : Data) (lane : ℕ) (fates : List Fate) → data_said types bits d ≡ Ok (command.Net lane fates) → IsNet bits d lane fates
net_means types bits d lane fates h = let s = said types bits d _ h in net_by_verb types bits s.v d lane fates s.verb s.holds s.command

pub means_net : (types : Types) (bits : ℕ) (d : Data) (lane : ℕ) (fates : List Fate) → IsNet bits d lane fates → data_said types bits d ≡ Ok (command.Net lane fates)
means_net types bits d lane fates p =
    let lane_there = ap (option_and_then (lane_of bits)) p.lane_there ∙ p.says_lane in
    let fates_there = ap (option_and_then fates_of) p.fates_there ∙ p.says_fates in
    says types bits line.Net d p.has_verb.verb
    (two_hold (all_stand line.Net (members_of d) && has_net_keys (net_of d)) (is_some (lane_in bits d) && is_some (fates_in d)) cause.Key cause.Value
    (ap₂ (λ a b. a && b) p.has_verb.keys p.object) (ap₂ (λ a b. is_some a && is_some b) lane_there fates_there))
    ∙ ap₂ (λ l f. Ok (command.Net (number_of l) (list_of f))) lane_there fates_there
