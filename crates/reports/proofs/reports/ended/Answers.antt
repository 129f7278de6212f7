use Rattle.reports.proofs.Texts.{joined, whole}
use Rattle.reports.proofs.reports.ended.Goals as goal

pub returns : goal.returns
returns c members none same =
    whole _ _ _ members (joined _ _ _ _ _ _ c.in_ok-end_object.ensures.room.0 c.in_ok-end_object.ensures.ok c.into_inner-bytes.ensures.items c.in_ok-push.ensures.items) none same
