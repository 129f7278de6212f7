use Rattle.std.proofs.lemmas.Str.{IsUtf8-from_ascii}
use Rattle.word_index.proofs.words.push_token.Goals as goal

-- ASCII is UTF-8
pub unreachable-requires : goal.unreachable-requires
unreachable-requires c = c.in_default.ensures.cases.0 (IsUtf8-from_ascii c.args.part.now c.requires)
