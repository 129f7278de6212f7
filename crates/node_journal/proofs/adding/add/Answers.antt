use Rattle.std.proofs.Common.{◌≡◌, ◌<◌, ◌≤◌, ◌+◌, ℕ, max, List, [], ◌∷◌, ◌++◌, length, take, drop, Result, Ok, Err, OnOk, inl, sym, ◌∙◌, ap, subst, arith}
use Rattle.std.proofs.lemmas.List.{length-drop, length-take-le}
use Rattle.disks.specs.Disks.{Torn, written}
use Rattle.disks.specs.Moments.{joined, weaker}
use Rattle.node_journal.specs.Journals.{IsAt, RecordsOrAlso}
use Rattle.node_journal.proofs.Writings.{IsStaged, staged, behind_records, gate_records, gate_opened, written_torn}
use Rattle.node_journal.proofs.adding.add.Goals as goal

then : {A E P Q : Type 0} → (P → Q) → (r : Result A E) → OnOk r P → OnOk r Q
then f (Ok x) p = f p
then f (Err e) p = tt

-- how long the file is when the record is written
long : (file new bytes : List ℕ) (at : ℕ) → at ≤ length file → new ≡ written at bytes file → length new ≤ max (length file) (at + length bytes)
long file new bytes at le is = subst (λ (f : List ℕ). length f ≤ max (length file) (at + length bytes)) (sym is) (written_torn at bytes file le).no_longer

-- the file after the two writes
both_long : (file mid new bytes one : List ℕ) (end : ℕ) → end < length file → length one ≡ 1 → mid ≡ written (end + 1) bytes file → new ≡ written end one mid → length new ≤ max (length file) (end + (1 + length bytes))
both_long file mid new bytes gate end lt single first second =
    let torn = written_torn (end + 1) bytes file (omega (arith, lt)) in
    let mid_long : length file ≤ length mid = subst (λ (f : List ℕ). length file ≤ length f) (sym first) torn.no_shorter in
    let one = long file mid bytes (end + 1) (omega (arith, lt)) first in
    let two = long mid new gate end (omega (arith, lt, mid_long)) second in
    omega (arith, one, two, lt, single)

rest_size : (frame : List ℕ) → 1 ≤ length frame → 1 + length (drop 1 frame) ≡ length frame
rest_size frame le = omega (arith, length-drop 1 frame, le)

one_size : (frame : List ℕ) → 1 ≤ length frame → length (take 1 frame) ≡ 1
one_size frame le = length-take-le 1 frame le

pub returns-in_err-stage-clause-any_moment : goal.returns-in_err-stage-clause-any_moment
returns-in_err-stage-clause-any_moment g c schema ms m piece limit at is whole size room =
    weaker _ _ _ (RecordsOrAlso schema limit (Ok ms) m) (c.stage.ensures.any_moment c.requires.settled)
    (λ f torn. inl (behind_records schema (g.D.Disk.state c.args.disk.now).seen f c.args.end (length (drop 1 c.args.frame.now)) limit ms at size (omega (arith, room, rest_size c.args.frame.now c.requires.some)) torn))

pub returns-clause-added : goal.returns-clause-added
returns-clause-added g c schema ms m piece at is whole =
    let file = (g.D.Disk.state c.args.disk.now).seen in
    let now : (g.D.Disk.state c.stage.new.disk).seen ≡ written (c.args.end + 1) (piece ++ 0 ∷ []) file = c.in_ok-stage.ensures.written ∙ ap (λ (b : List ℕ). written (c.args.end + 1) (drop 1 b) file) whole in
    let staged_now = subst (λ (f : List ℕ). IsStaged schema f c.args.end ms piece) (sym now) (staged schema file c.args.end ms piece at) in
    then (λ e. subst (λ (f : List ℕ). IsAt schema f (c.args.end + (1 + length piece)) (ms ++ m ∷ [])) (sym (e ∙ ap (λ (b : List ℕ). written c.args.end (take 1 b) (g.D.Disk.state c.stage.new.disk).seen) whole))
    (gate_opened schema (g.D.Disk.state c.stage.new.disk).seen c.args.end ms m piece staged_now is)) _ c.open_gate.ensures.written

pub returns-clause-size : goal.returns-clause-size
returns-clause-size g c =
    let frame = c.args.frame.now in
    let bound : max (length (g.D.Disk.state c.args.disk.now).seen) (c.args.end + (1 + length (drop 1 frame))) ≡ max (length (g.D.Disk.state c.args.disk.now).seen) (c.args.end + length frame) =
    ap (λ (n : ℕ). max (length (g.D.Disk.state c.args.disk.now).seen) (c.args.end + n)) (rest_size frame c.requires.some) in
    then (λ e. subst (λ (n : ℕ). length (g.D.Disk.state c.open_gate.new.disk).seen ≤ n) bound (both_long (g.D.Disk.state c.args.disk.now).seen (g.D.Disk.state c.stage.new.disk).seen (g.D.Disk.state c.open_gate.new.disk).seen (drop 1 frame) (take 1 frame) c.args.end c.requires.within (one_size frame c.requires.some) c.in_ok-stage.ensures.written e)) _ c.open_gate.ensures.written

pub returns-clause-any_moment : goal.returns-clause-any_moment
returns-clause-any_moment g c schema ms m piece limit at is whole size room =
    let file = (g.D.Disk.state c.args.disk.now).seen in
    let now : (g.D.Disk.state c.stage.new.disk).seen ≡ written (c.args.end + 1) (piece ++ 0 ∷ []) file = c.in_ok-stage.ensures.written ∙ ap (λ (b : List ℕ). written (c.args.end + 1) (drop 1 b) file) whole in
    let staged_now = subst (λ (f : List ℕ). IsStaged schema f c.args.end ms piece) (sym now) (staged schema file c.args.end ms piece at) in
    let rest = rest_size c.args.frame.now c.requires.some in
    let one = long (g.D.Disk.state c.args.disk.now).seen _ (drop 1 c.args.frame.now) (c.args.end + 1) (omega (arith, c.requires.within)) c.in_ok-stage.ensures.written in
    joined _ _ _ _ _ (RecordsOrAlso schema limit (Ok ms) m) (c.stage.ensures.any_moment c.requires.settled) (c.open_gate.ensures.any_moment c.in_ok-stage.ensures.durable)
    (λ f torn. inl (behind_records schema file f c.args.end (length (drop 1 c.args.frame.now)) limit ms at size (omega (arith, room, rest)) torn))
    (λ f torn. gate_records schema (g.D.Disk.state c.stage.new.disk).seen f c.args.end limit ms m piece staged_now is (omega (arith, one, size, room, rest))
    (subst (λ (n : ℕ). Torn c.args.end n (g.D.Disk.state c.stage.new.disk).seen f) (one_size c.args.frame.now c.requires.some) torn))
