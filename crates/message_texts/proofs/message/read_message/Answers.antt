use Rattle.std.proofs.Common.{Result, Ok, Err, IfOk}
use Rattle.message_texts.proofs.message.read_message.Goals as goal

if_ok : {A E : Type 0} (r : Result A E) {P Q : A → Type 0} → ((a : A) → P a → Q a) → IfOk r P → IfOk r Q
if_ok (Ok a) more p = more a p
if_ok (Err e) more p = tt

pub returns-clause-message : goal.returns-clause-message
returns-clause-message c = if_ok c.message_in.result (λ m is. (c.texts_are_messages.ensures.one c.args.schema.now c.args.text.now m).0 is) c.message_in.ensures.message

pub returns-clause-bad : goal.returns-clause-bad
returns-clause-bad c bad m is = (c.texts_are_messages.ensures.none c.args.schema.now c.args.text.now).0 (c.message_in.ensures.none bad) m is
