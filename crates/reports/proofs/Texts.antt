-- The bytes of a report, by the tokens that were written.
use Rattle.std.proofs.Common.{◌≡◌, ℕ, List, [], ◌∷◌, ◌++◌, ap, ap₂, ◌∙◌}
use Rattle.json.specs.Token.{Token, begin_object}
use Rattle.json.specs.Tree.{members_tokens}
use Rattle.json.specs.Print.{print}
use Rattle.serde_json.specs.Data.{object, Members}
use Rattle.serde_json.specs.Written.{compact_text, members_outline}
use Rattle.serde_json.proofs.Texts.{print-outline}
use Rattle.reports.specs.ReportText.{line_text}

-- what was written, and a line feed
pub joined : (b c : List ℕ) (ts us : List Token) (inner bytes : List ℕ) → c ≡ b → us ≡ ts → inner ≡ c ++ print us → bytes ≡ inner ++ 10 ∷ [] → bytes ≡ (b ++ print ts) ++ 10 ∷ []
joined b c ts us inner bytes same tokens written fed = fed ∙ ap (λ l. l ++ 10 ∷ []) (written ∙ ap₂ (λ x y. x ++ print y) same tokens)

plain : (before : List ℕ) (ts : List Token) (members : Members) → before ≡ [] → ts ≡ begin_object ∷ members_tokens (members_outline members) → before ++ print ts ≡ compact_text (object members)
plain before ts members none same = ap₂ (λ b t. b ++ print t) none same ∙ print-outline (object members)

-- tokens of members print as their line
pub whole : (before bytes : List ℕ) (ts : List Token) (members : Members) → bytes ≡ (before ++ print ts) ++ 10 ∷ [] → before ≡ [] → ts ≡ begin_object ∷ members_tokens (members_outline members) → bytes ≡ line_text members
unfolding line_text
whole before bytes ts members written none same = written ∙ ap (λ l. l ++ 10 ∷ []) (plain before ts members none same)
