-- Keys that a verb hasn't aren't in its lines.
use Rattle.std.proofs.Common.{◌≡◌, ℕ, Bool, true, false, List, codes, Option, Some, None, refl, sym, ap, ◌∙◌, cond}
use Rattle.std.specs.Ordering.{nat_cmp, match_ordering}
use Rattle.std.specs.declared.cmp.Ordering.{Ordering}
use Rattle.std.specs.declared.cmp.Ordering.TheVariants.{Less, Equal, Greater}
use Rattle.std.specs.Cmp.Lexicographic.{slice_cmp}
use Rattle.std.specs.FinMap.{slice_cmp-IsAntisymmetric, nat_cmp-IsAntisymmetric}
use mathlib.Core.Bool.{true≢false}
use Rattle.serde_json.specs.Data.{Data, null, boolean, number, string, array, object, Members, no_members, member}
use Rattle.serde_json.specs.Find.{get, get_member}
use Rattle.doc_types.specs.SchemaCodes.{Types}
use Rattle.conditions.specs.Formulas.{Formula}
use Rattle.doc_selection.specs.declared.terms.Term.{Term}
use Rattle.feed_lines.specs.Keys.{may_stand_with, may_stand, all_stand}
use Rattle.feed_lines.specs.Lines.{SaysCondition, SaysCreate, IsLine}
use Rattle.feed_lines.specs.Tests.{members_of}
use Rattle.feed_lines.specs.declared.keys.LineVerb.{LineVerb}
use Rattle.feed_lines.specs.declared.keys.LineVerb.TheVariants as line
use Rattle.feed_lines.specs.declared.keys.Verb.TheVariants as verb

here : (v : LineVerb) (key l : List ℕ) (rest found : Option Data) (o : Ordering) → slice_cmp nat_cmp key l ≡ o → may_stand v key ≡ false → may_stand v l ≡ true → rest ≡ None
    → match_ordering o rest found rest ≡ None
here v key l rest found Less is key_not l_may none = none
here v key l rest found Greater is key_not l_may none = none
here v key l rest found Equal is key_not l_may none =
    absurd (true≢false (sym l_may ∙ ap (may_stand v) (sym (slice_cmp-IsAntisymmetric nat_cmp-IsAntisymmetric key l is)) ∙ key_not))

first_stands : (b rest : Bool) → cond b rest false ≡ true → (b ≡ true) × (rest ≡ true)
first_stands true rest h = (refl, h)
first_stands false rest h = cc

none_of : (v : LineVerb) (key : List ℕ) (ms : Members) → may_stand v key ≡ false → all_stand v ms ≡ true → get_member key ms ≡ None
none_of v key no_members key_not all = refl
none_of v key (member l d ms) key_not all =
    let stands = first_stands (may_stand v l) (all_stand v ms) all in
    here v key l (get_member key ms) (Some d) (slice_cmp nat_cmp key l) refl key_not stands.0 (none_of v key ms key_not stands.1)

absent : (v : LineVerb) (key : List ℕ) (d : Data) → may_stand v key ≡ false → all_stand v (members_of d) ≡ true → get key d ≡ None
absent v key null key_not all = refl
absent v key (boolean b) key_not all = refl
absent v key (number n) key_not all = refl
absent v key (string s) key_not all = refl
absent v key (array ds) key_not all = refl
absent v key (object ms) key_not all = none_of v key ms key_not all

no_condition : (types : Types) (o : Option Data) (c : Option (Formula Term)) → o ≡ None → SaysCondition types o c → c ≡ None
no_condition types o None is h = refl
no_condition types o (Some f) is h = let e = sym is ∙ h.1.0 in cc

no_create : (o : Option Data) (create : Bool) → o ≡ None → SaysCreate o create → create ≡ false
no_create None create is h = h
no_create (Some d) create is h = cc

get_no_condition : may_stand (line.Feed verb.Get) (codes "condition") ≡ false
unfolding may_stand may_stand_with
get_no_condition = refl

get_no_create : may_stand (line.Feed verb.Get) (codes "create") ≡ false
unfolding may_stand may_stand_with
get_no_create = refl

remove_no_create : may_stand (line.Feed verb.Remove) (codes "create") ≡ false
unfolding may_stand may_stand_with
remove_no_create = refl

-- a get has no condition and no `create`, and a remove no `create`
pub bare_get : (types : Types) (d : Data) (id : List ℕ) (c : Option (Formula Term)) (e : Bool) (via : Option ℕ) → IsLine types verb.Get d id c e via → (c ≡ None) × (e ≡ false)
bare_get types d id c e via said = (
  no_condition types (get (codes "condition") d) c (absent (line.Feed verb.Get) (codes "condition") d get_no_condition said.has_verb.keys) said.says_condition,
  no_create (get (codes "create") d) e (absent (line.Feed verb.Get) (codes "create") d get_no_create said.has_verb.keys) said.says_create,
)

pub bare_remove : (types : Types) (d : Data) (id : List ℕ) (c : Option (Formula Term)) (e : Bool) (via : Option ℕ) → IsLine types verb.Remove d id c e via → e ≡ false
bare_remove types d id c e via said = no_create (get (codes "create") d) e (absent (line.Feed verb.Remove) (codes "create") d remove_no_create said.has_verb.keys) said.says_create
