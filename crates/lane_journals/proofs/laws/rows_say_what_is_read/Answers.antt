use Rattle.lane_journals.proofs.RowLists.{linked}
use Rattle.lane_journals.proofs.Pieces.{shaped}
use Rattle.lane_journals.proofs.Parted.{parted, in-list, listed-row, listed-member, row-listed}
use Rattle.lane_journals.specs.RowLists.{rows}
use Rattle.lane_journals.proofs.laws.rows_say_what_is_read.Goals as goal

pub returns : goal.returns
returns c = record {
  row = λ acks P J l v key. (linked acks P J l v key).row;
  members = λ acks P J l v n key. (linked acks P J l v key).members n;
  actives = λ acks P J l v key. (linked acks P J l v key).actives;
  deletes = λ acks P J l v key. (linked acks P J l v key).deletes;
  is_row = λ acks P J l v r h key i. in-list r (rows v J) (parted acks P J l v) h key i;
  listed = λ acks P J l v r o fits h. listed-row acks P J l v r o fits h;
  marks = λ acks P J l v n r h key i. listed-member acks P J l v n r h key i;
  found = λ acks P J l v b key q i. row-listed acks P J l v b key q i;
  over = λ acks P J l n key. (shaped acks P J l n).over key;
}
