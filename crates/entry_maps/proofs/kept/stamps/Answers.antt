use Rattle.std.proofs.Common.{sym}
use Rattle.entry_maps.proofs.AloneLaws.{stamps_alone}
use Rattle.entry_maps.proofs.kept.stamps.Goals as goal

pub returns : goal.returns
returns c = rw (c.in_ok-push.ensures.items, c.in_ok-stamps.ensures.items, c.entry.ensures) (sym (stamps_alone c.args.entry.now))
