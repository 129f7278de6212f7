use Rattle.std.proofs.Common.{◌∷◌, ◌++◌, [], decimal, sym, ap, ap₂, ◌∙◌, append_assoc, arith}
use Rattle.reports.proofs.Stamps.{printed_is}
use Rattle.reports.proofs.reports.stamp_text.Goals as goal

pub returns : goal.returns
returns c =
    let version = c.push_str.ensures.bytes ∙ ap₂ (λ a b. a ++ b) c.new-text.ensures c.format.ensures.text in
    let colon = c.push.ensures.ascii (omega arith) ∙ ap (λ a. a ++ 58 ∷ []) version in
    c.push_str-2.ensures.bytes ∙ ap₂ (λ a b. a ++ b) colon c.format-2.ensures.text
    ∙ append_assoc (decimal c.args.stamp.version) (58 ∷ []) (decimal c.args.stamp.count) ∙ sym (printed_is c.args.stamp)
