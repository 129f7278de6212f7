use Rattle.std.proofs.Common.{Some, None, sym, ◌∙◌, ap, arith}
use Rattle.std.specs.Fmt.{decimal}
use Rattle.std.proofs.lemmas.Str.Pattern.{split_once_first}
use Rattle.stamps.proofs.TextLaws.{none_without, none_before, none_behind, none_so_wide, printed_of_parts}
use Rattle.stamps.proofs.stamp.Stamp.parse.Goals as goal

pub returns-in_default : goal.returns-in_default
returns-in_default c = none_without c.args.text.now (split_once_first 58 c.args.text.now None c.in_default.ensures.cases (omega arith))

pub returns-in_default-plain_number : goal.returns-in_default-plain_number
returns-in_default-plain_number c =
    let parts = split_once_first 58 c.args.text.now (Some (c.in-Some.version, c.in-Some.count)) c.in-Some.ensures.cases (omega arith) in
    none_before c.args.text.now c.in-Some.version.now parts.1 c.in_default-plain_number.ensures

pub returns-in_default-plain_number-2 : goal.returns-in_default-plain_number-2
returns-in_default-plain_number-2 c =
    let parts = split_once_first 58 c.args.text.now (Some (c.in-Some.version, c.in-Some.count)) c.in-Some.ensures.cases (omega arith) in
    none_behind c.args.text.now c.in-Some.count.now parts.2 c.in_default-plain_number-2.ensures

pub returns-in_default-try_from : goal.returns-in_default-try_from
returns-in_default-try_from c =
    let parts = split_once_first 58 c.args.text.now (Some (c.in-Some.version, c.in-Some.count)) c.in-Some.ensures.cases (omega arith) in
    none_so_wide c.args.text.now c.in-Some.version.now c.in-Some-plain_number.version parts.1 c.in-Some-plain_number.ensures.0 c.in-Some-plain_number.ensures.1 (omega (arith, c.in_default-try_from.ensures))

pub returns : goal.returns
returns c =
    let parts = split_once_first 58 c.args.text.now (Some (c.in-Some.version, c.in-Some.count)) c.in-Some.ensures.cases (omega arith) in
    (printed_of_parts c.args.text.now _ (record { there = parts.0; before = sym parts.1 ∙ c.in-Some-plain_number.ensures.0 ∙ ap decimal (sym c.in-Ok.ensures.1); behind = sym parts.2 ∙ c.in-Some-plain_number-2.ensures.0 }), record { version = omega (arith, c.in-Ok.ensures); count = c.in-Some-plain_number-2.ensures.1 })
