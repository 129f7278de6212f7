use Rattle.std.proofs.Common.{◌≡◌, sym, ap, subst, ◌∙◌, cond, []}
use Rattle.std.specs.FinMap as fin
use Rattle.std.specs.Option.{option_map_or}
use Rattle.local_ids.specs.Rising.{with_local}
use Rattle.word_index.specs.Index.{list_of}
use Rattle.field_indexes.specs.Words.{has_word}
use Rattle.field_indexes.proofs.KeptLaws.{own_after, put_back}
use Rattle.field_indexes.proofs.field_index.enter_words.Goals as goal

pub add_words-requires-clause-lack : goal.add_words-requires-clause-lack
add_words-requires-clause-lack c = λ w t.
    let e : c.words_at.result.now ≡ c.args.own = c.words_at.ensures ∙ ap (λ m. option_map_or (λ words. words) (fin.get m c.args.local) []) c.in_ok-set.ensures.ok ∙ own_after c.args.kept.now c.args.local c.args.own in
    c.requires.lack w (sym (ap (has_word w) e) ∙ t)

pub returns-in-Ok-clause-lists : goal.returns-in-Ok-clause-lists
returns-in-Ok-clause-lists c = λ w.
    let e : c.words_at.result.now ≡ c.args.own = c.words_at.ensures ∙ ap (λ m. option_map_or (λ words. words) (fin.get m c.args.local) []) c.in_ok-set.ensures.ok ∙ own_after c.args.kept.now c.args.local c.args.own in
    c.in-Ok.ensures.ok w ∙ ap (λ words. cond (has_word w words) (with_local c.args.local (list_of w c.args.words.now)) (list_of w c.args.words.now)) e

pub returns-in-Err-clause-kept_before : goal.returns-in-Err-clause-kept_before
returns-in-Err-clause-kept_before c = c.clear.ensures ∙ ap (λ m. fin.remove m c.args.local) c.in_ok-set.ensures.ok ∙ put_back c.args.kept.now c.args.local c.args.own c.requires.free
