use Rattle.std.proofs.Common.{◌≡◌, ◌<◌, sym, ap, ◌∙◌, cond, take, length, get_or, [], arith}
use Rattle.std.specs.Str.{bytes_eq}
use Rattle.std.proofs.lemmas.List.{get_or_read}
use Rattle.std.proofs.lemmas.List.Folds.{list_any_more}
use Rattle.local_ids.specs.Rising.{with_local}
use Rattle.word_index.specs.Index.{list_of}
use Rattle.word_index.proofs.IndexLaws.{list_with}
use Rattle.field_indexes.specs.Words.{has_word}
use Rattle.field_indexes.proofs.WordLaws.{step_with, with_part_rises, undone, any_take}
use Rattle.field_indexes.proofs.word_lists.add_words.Goals as goal

pub loop-at-preserved : goal.loop-at-preserved
loop-at-preserved c = λ w.
    let tokens = c.args.tokens.now in
    let at = c.loop-at.at in
    let x = c.args.local in
    let z = get_or tokens at [] in
    let less : at < length tokens = omega arith in
    let e : c.text.result.now ≡ z = c.text.ensures ∙ get_or_read tokens _ _ less c.index-tokens-at.is [] in
    step_with x z w (has_word w (take at tokens)) (λ q. list_of q c.loop-at.words) (λ q. list_of q c.args.words.now) (list_of w c.add.new.self) (c.requires.rising w)
    (ap (list_of w) c.in_default.ensures.ok ∙ list_with c.text.result.now w x c.loop-at.words ∙ ap (λ t. cond (bytes_eq t w) (with_local x (list_of t c.loop-at.words)) (list_of w c.loop-at.words)) e)
    (c.loop-at.invariant w)
    ∙ ap (λ b. cond b (with_local x (list_of w c.args.words.now)) (list_of w c.args.words.now)) (sym (list_any_more (bytes_eq w) tokens at [] less))

pub drop_words-requires : goal.drop_words-requires
drop_words-requires c = λ w.
    with_part_rises c.args.local (has_word w (take c.loop-at.at c.args.tokens.now)) (list_of w c.args.words.now) (list_of w c.add.new.self) (c.requires.rising w) (ap (list_of w) c.in-Err.ensures.err ∙ c.loop-at.invariant w)

pub returns-in-Err-clause-err : goal.returns-in-Err-clause-err
returns-in-Err-clause-err c = λ w.
    undone c.args.local (has_word w (take c.loop-at.at c.args.tokens.now)) (list_of w c.args.words.now) (list_of w c.add.new.self) (list_of w c.drop_words.new.words)
    (c.requires.rising w) (λ t. c.requires.lack w (any_take (bytes_eq w) c.args.tokens.now c.loop-at.at t)) (ap (list_of w) c.in-Err.ensures.err ∙ c.loop-at.invariant w) (c.drop_words.ensures w)
