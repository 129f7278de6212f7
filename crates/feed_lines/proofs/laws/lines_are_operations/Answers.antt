use Rattle.feed_lines.proofs.GetsAndRemoves.{bare_get, bare_remove}
use Rattle.feed_lines.proofs.LineLaws.{put_means, means_put, update_means, means_update, remove_means, means_remove, get_means, means_get}
use Rattle.feed_lines.proofs.laws.lines_are_operations.Goals as goal

pub returns-clause-put : goal.returns-clause-put
returns-clause-put c = λ types bits d id document condition create via. (put_means types bits d id document condition create via, means_put types bits d id document condition create via)

pub returns-clause-update : goal.returns-clause-update
returns-clause-update c = λ types bits d id changes condition create via. (update_means types bits d id changes condition create via, means_update types bits d id changes condition create via)

pub returns-clause-remove : goal.returns-clause-remove
returns-clause-remove c = λ types bits d id condition create via. (remove_means types bits d id condition create via, means_remove types bits d id condition create via)

pub returns-clause-get : goal.returns-clause-get
returns-clause-get c = λ types bits d id condition create via. (get_means types bits d id condition create via, means_get types bits d id condition create via)

pub returns-clause-bare_get : goal.returns-clause-bare_get
returns-clause-bare_get c = bare_get

pub returns-clause-bare_remove : goal.returns-clause-bare_remove
returns-clause-bare_remove c = bare_remove
