use mathlib.Core.Bool.{true≢false}
use Rattle.std.proofs.Common.{◌≡◌, Bool, true, false, cond, Option, None, sym, ◌∙◌, ap, refl}
use Rattle.std.specs.Str.{is_utf8}
use Rattle.std.proofs.lemmas.Str.{is_utf8-from_IsUtf8, IsUtf8-from_is_utf8}
use Rattle.serde_json.specs.Data.{Data}
use Rattle.serde_json.specs.Read.{read}
use Rattle.message_texts.proofs.message.value_of.Goals as goal

pub returns-in-Ok : goal.returns-in-Ok
returns-in-Ok c =
    let text = c.args.text.now in
    sym (ap (λ (t : Bool). cond t (read text) None) (is_utf8-from_IsUtf8 text c.in-Ok.ensures.ok.0) ∙ c.in-Ok.ensures.ok.1)

none_if : (t : Bool) (o : Option Data) → (t ≡ true → o ≡ None) → None ≡ cond t o None
none_if true o none = sym (none refl)
none_if false o none = refl

pub returns-else-is_memory : goal.returns-else-is_memory
returns-else-is_memory c =
    let text = c.args.text.now in
    none_if (is_utf8 text) (read text) (λ e. c.in-Err.ensures.err (λ memory. absurd (true≢false (sym (c.is_memory.ensures.1 memory) ∙ c.if-is_memory.false))) (IsUtf8-from_is_utf8 text e))
