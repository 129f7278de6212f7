-- A loop over the members of an object: what they all say is what was found, and then what those left say.
use Rattle.std.proofs.Common.{◌≡◌, ℕ, Bool, false, cond, List, [], ◌∷◌, ◌++◌, sym, ap, ap₂, ◌∙◌, ◌+◌, ◌<◌, length, get_or, drop, drop-cons, add-one, Option, Some, None}
use Rattle.std.proofs.lemmas.List.{append-nil, append_assoc}
use Rattle.serde_json.specs.Data.{Data, Members, no_members, member}
use Rattle.json_documents.specs.DocumentFaults.{first_name}
use Rattle.json_documents.specs.Json.{with_value, said}

-- what is left from a place on is what stands there, and what is left behind it
pub one_left : {A : Type 0} (all : List A) (i : ℕ) (a : A) → i < length all → a ≡ get_or all i a → drop i all ≡ a ∷ drop (i + 1) all
one_left all i a lt is = drop-cons all i a lt ∙ ap₂ (λ x n. x ∷ drop n all) (sym is) (sym (add-one i))

module _ {X : Type 0} (test : List ℕ → Data → Bool) (read : List ℕ → Data → Option X) (all : Members) where
  -- no member so far passes a test, and what was found stands before what those left say
  abbrev pub SoFar : List (List ℕ × X) → Members → Type 0
  SoFar found ms = (first_name test ms ≡ first_name test all) × (found ++ said read ms ≡ said read all)

  passed : (n : List ℕ) (d : Data) (ms : Members) → test n d ≡ false → first_name test ms ≡ first_name test (member n d ms)
  passed n d ms right = sym (ap (λ b. cond b (Some n) (first_name test ms)) right)

  pub one_said : (found : List (List ℕ × X)) (n : List ℕ) (d : Data) (x : X) (ms : Members) → test n d ≡ false → read n d ≡ Some x
      → SoFar found (member n d ms) → SoFar (found ++ (n, x) ∷ []) ms
  one_said found n d x ms right says so =
      (passed n d ms right ∙ so.0, append_assoc found ((n, x) ∷ []) (said read ms) ∙ ap (λ o. found ++ with_value n o (said read ms)) (sym says) ∙ so.1)

  pub none_said : (found : List (List ℕ × X)) (n : List ℕ) (d : Data) (ms : Members) → test n d ≡ false → read n d ≡ None
      → SoFar found (member n d ms) → SoFar found ms
  none_said found n d ms right says so =
      (passed n d ms right ∙ so.0, ap (λ o. found ++ with_value n o (said read ms)) (sym says) ∙ so.1)

  pub all_said : (found : List (List ℕ × X)) → SoFar found no_members → (first_name test all ≡ None) × (found ≡ said read all)
  all_said found so = (sym so.0, sym (append-nil found) ∙ so.1)
