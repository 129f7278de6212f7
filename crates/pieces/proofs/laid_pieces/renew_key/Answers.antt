use Rattle.std.proofs.Common.{◌∙◌, sym}
use Rattle.pieces.specs.Places.{key_bucket}
use Rattle.pieces.proofs.PlaceLaws.{renewed-over, any-key, renewed-key, renewed-none, IsBucket-key}
use Rattle.pieces.proofs.laid_pieces.renew_key.Goals as goal

pub returns-in_default : goal.returns-in_default
returns-in_default c =
    let ps = c.args.pieces.now.items in
    let none = rw c.key_bucket.ensures at (rw c.deref.ensures.value at c.in_default.ensures.none) in
    let keys = any-key c.args.key c.requires.small 0 ps c.requires.laid in
    renewed-none (key_bucket c.args.key) c.args.serial ps (keys.0 ∙ sym keys.1 ∙ none) ∙ renewed-key c.args.key c.requires.small c.args.serial 0 ps c.requires.laid

pub returns : goal.returns
returns c =
    let ps = c.args.pieces.now.items in
    let some = rw c.key_bucket.ensures at (rw c.deref.ensures.value at c.in-Some.ensures.some) in
    renewed-over c.runs_are_known.ensures (key_bucket c.args.key) (IsBucket-key c.args.key c.requires.small) c.args.serial ps c.requires.laid c.in-Some.at c.index_mut.result.now some c.index_mut.ensures.value
    ∙ renewed-key c.args.key c.requires.small c.args.serial 0 ps c.requires.laid
