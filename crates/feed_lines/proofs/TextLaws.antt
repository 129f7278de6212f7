-- Which bytes are a text.
use Rattle.std.proofs.Common.{◌≡◌, ℕ, List, refl, ap, Bool, true, false, cond, Result, Err, IsUtf8}
use Rattle.std.specs.Str.{is_utf8}
use Rattle.std.proofs.lemmas.Str.{IsUtf8-from_is_utf8, is_utf8-from_IsUtf8}
use Rattle.serde_json.specs.Read.{read}
use Rattle.doc_types.specs.SchemaCodes.{Types}
use Rattle.feed_lines.specs.Meaning.{text_said, json_said}
use Rattle.feed_lines.specs.declared.command.Cause.{Cause}
use Rattle.feed_lines.specs.declared.command.Cause.TheVariants as cause
use Rattle.feed_lines.specs.declared.command.Command.{Command}

pub of_text : (types : Types) (bits : ℕ) (bytes : List ℕ) → IsUtf8 bytes → text_said types bits bytes ≡ json_said types bits (read bytes)
unfolding text_said
of_text types bits bytes h = ap (λ t. cond t (json_said types bits (read bytes)) (Err cause.Json)) (is_utf8-from_IsUtf8 bytes h)

no_text : (said : Result Command Cause) (bytes : List ℕ) → (IsUtf8 bytes → ⊥) → (t : Bool) → is_utf8 bytes ≡ t → cond t said (Err cause.Json) ≡ Err cause.Json
no_text said bytes h true e = absurd (h (IsUtf8-from_is_utf8 bytes e))
no_text said bytes h false e = refl

pub of_no_text : (types : Types) (bits : ℕ) (bytes : List ℕ) → (IsUtf8 bytes → ⊥) → text_said types bits bytes ≡ Err cause.Json
unfolding text_said
of_no_text types bits bytes h = no_text (json_said types bits (read bytes)) bytes h (is_utf8 bytes) refl
