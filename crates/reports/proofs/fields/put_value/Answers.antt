use Rattle.std.proofs.Common.{◌∙◌, ◌∷◌, sym, ap, subst, OnOk}
use Rattle.json.specs.Token.{begin_array}
use Rattle.reports.specs.Writing.{Puts, number_list_tokens, text_list_tokens, value_tokens}
use Rattle.reports.proofs.FieldTokens.{numbers_said, texts_said}
use Rattle.reports.proofs.fields.put_value.Goals as goal

pub returns-in-Ints : goal.returns-in-Ints
returns-in-Ints c =
    subst (λ ts. OnOk c.put_number_list.result (Puts c.args.out.now c.put_number_list.new.out ts))
    (ap number_list_tokens c.items.ensures ∙ ap (λ l. begin_array ∷ l) (numbers_said c.in-Ints.numbers) ∙ ap value_tokens (sym c.in-Ints.is)) c.put_number_list.ensures

pub returns-in-Texts : goal.returns-in-Texts
returns-in-Texts c =
    subst (λ ts. OnOk c.put_text_list.result (Puts c.args.out.now c.put_text_list.new.out ts))
    (ap text_list_tokens c.items-in-Texts.ensures ∙ ap (λ l. begin_array ∷ l) (texts_said c.in-Texts.texts) ∙ ap value_tokens (sym c.in-Texts.is)) c.put_text_list.ensures
