use Rattle.std.proofs.Common.{◌≡◌, ◌<◌, sym, ap, ◌∙◌, cond, take, length, get_or, [], arith}
use Rattle.std.specs.Str.{bytes_eq}
use Rattle.std.proofs.lemmas.List.{get_or_read}
use Rattle.std.proofs.lemmas.List.Folds.{list_any_more}
use Rattle.local_ids.specs.Rising.{without_local}
use Rattle.word_index.specs.Index.{list_of}
use Rattle.word_index.proofs.IndexLaws.{list_without}
use Rattle.field_indexes.specs.Words.{has_word}
use Rattle.field_indexes.proofs.WordLaws.{step_without}
use Rattle.field_indexes.proofs.word_lists.drop_words.Goals as goal

pub loop-at-preserved : goal.loop-at-preserved
loop-at-preserved c = λ w.
    let tokens = c.args.tokens.now in
    let at = c.loop-at.at in
    let x = c.args.local in
    let z = get_or tokens at [] in
    let less : at < length tokens = omega arith in
    let e : c.text.result.now ≡ z = c.text.ensures ∙ get_or_read tokens _ _ less c.index-tokens-at.is [] in
    step_without x z w (has_word w (take at tokens)) (λ q. list_of q c.loop-at.words) (λ q. list_of q c.args.words.now) (list_of w c.remove.new.self) (c.requires w)
    (ap (list_of w) c.remove.ensures ∙ list_without c.text.result.now w x c.loop-at.words ∙ ap (λ t. cond (bytes_eq t w) (without_local x (list_of t c.loop-at.words)) (list_of w c.loop-at.words)) e)
    (c.loop-at.invariant w)
    ∙ ap (λ b. cond b (without_local x (list_of w c.args.words.now)) (list_of w c.args.words.now)) (sym (list_any_more (bytes_eq w) tokens at [] less))
