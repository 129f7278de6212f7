use Rattle.std.proofs.Common.{◌∙◌, ap, drop}
use Rattle.io_ends.proofs.FeedPlaces.{feed_found, feed_missing}
use Rattle.io_ends.proofs.window.Window.feed_after.Goals as goal

pub returns-in-Some : goal.returns-in-Some
returns-in-Some c = feed_found _ _ _ _ c.requires (c.split_at.ensures.back ∙ ap (drop c.args.from) c.ahead.ensures) c.in-Some.ensures

pub returns-in-None : goal.returns-in-None
returns-in-None c = feed_missing _ _ _ (c.split_at.ensures.back ∙ ap (drop c.args.from) c.ahead.ensures) c.in-None.ensures
