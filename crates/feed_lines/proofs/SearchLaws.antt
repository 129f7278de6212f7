-- What lines are searches.
use Rattle.std.proofs.Common.{◌≡◌, ℕ, ◌&&◌, true, List, [], ◌∷◌, codes, Option, Some, None, is_some, option_and_then, Ok, refl, sym, ap, ◌∙◌}
use Rattle.serde_json.specs.Data.{Data, string}
use Rattle.serde_json.specs.Find.{get, as_str}
use Rattle.doc_types.specs.SchemaCodes.{Types}
use Rattle.feed_lines.specs.Keys.{all_stand}
use Rattle.feed_lines.specs.Lines.{IsSearch}
use Rattle.feed_lines.specs.Meaning.{answer_by, command_in, own_said, search_said, data_said}
use Rattle.feed_lines.specs.Tests.{first_cause, verb_of, members_of, search_in, text_of, tests}
use Rattle.feed_lines.specs.declared.command.Cause.TheVariants as cause
use Rattle.feed_lines.specs.declared.command.Command.TheVariants as command
use Rattle.feed_lines.specs.declared.keys.LineVerb.{LineVerb}
use Rattle.feed_lines.specs.declared.keys.LineVerb.TheVariants as line
use Rattle.feed_lines.proofs.LineTests.{left, some_from, said, says}
use Rattle.feed_lines.proofs.SettingLaws.{two_hold, each_of_two, with_true, text_back}

search_by : (text : Option (List ℕ)) → search_said text ≡ answer_by (first_cause ((is_some text, cause.Value) ∷ [])) (command.Search (text_of text))
search_by None = refl
search_by (Some text) = refl

pub search_is : (types : Types) (bits : ℕ) (d : Data) → search_said (search_in d) ≡ own_said types bits line.Search d
search_is types bits d = search_by (search_in d)

search_parts : (types : Types) (bits : ℕ) (d : Data) (text : List ℕ) → verb_of d ≡ Some line.Search → first_cause (tests types bits line.Search d) ≡ None → text_of (search_in d) ≡ text → IsSearch d text
search_parts types bits d text verb holds is =
    let each = each_of_two (all_stand line.Search (members_of d) && true) (is_some (search_in d)) cause.Key cause.Value holds in
    let words = some_from (search_in d) each.1 in
    record {
      has_verb = record { verb = verb; keys = left _ _ each.0 };
      says_text = text_back (get (codes "search") d) words.0 words.1 ∙ ap (λ t. Some (string t)) (sym (ap text_of words.1) ∙ is);
    }

search_by_verb : (types : Types) (bits : ℕ) (v : LineVerb) (d : Data) (text : List ℕ) → verb_of d ≡ Some v → first_cause (tests types bits v d) ≡ None
    → command_in types bits v d ≡ command.Search text → IsSearch d text
search_by_verb types bits (line.Feed v) d text verb holds is = cc
search_by_verb types bits line.Search d text verb holds is = search_parts types bits d text verb holds cc
search_by_verb types bits line.State d text verb holds is = cc
search_by_verb types bits line.Stop d text verb holds is = cc
search_by_verb types bits line.Start d text verb holds is = cc
search_by_verb types bits line.Net d text verb holds is = cc
search_by_verb types bits line.Maintain d text verb holds is = cc
search_by_verb types bits line.Barrier d text verb holds is = cc

pub search_means : (types : Types) (bits : ℕ) (d : Data) (text : List ℕ) → data_said types bits d ≡ Ok (command.Search text) → IsSearch d text
search_means types bits d text h = let s = said types bits d _ h in search_by_verb types bits s.v d text s.verb s.holds s.command

pub means_search : (types : Types) (bits : ℕ) (d : Data) (text : List ℕ) → IsSearch d text → data_said types bits d ≡ Ok (command.Search text)
means_search types bits d text p =
    let words = ap (option_and_then as_str) p.says_text in
    says types bits line.Search d p.has_verb.verb
    (two_hold (all_stand line.Search (members_of d) && true) (is_some (search_in d)) cause.Key cause.Value (with_true _ p.has_verb.keys) (ap is_some words))
    ∙ ap (λ t. Ok (command.Search (text_of t))) words
