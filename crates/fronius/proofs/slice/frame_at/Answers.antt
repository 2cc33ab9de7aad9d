-- `slice::frame_at`: each end answers what is found from the length on.
use Rattle.std.proofs.Common.{◌≡◌, ℕ, ◌+◌, ◌-◌, ◌≤◌, List, length, get_or, take, drop, length-drop, arith}
use lib.Seq.{take_all}
use Rattle.fronius.specs.Inside.{judged_frame}
use Rattle.fronius.proofs.FoundIsAnswered.{answers_end, answers_bad_length, answers_cut_off, answers_frame}
use Rattle.fronius.proofs.JudgedIsDelivered.{DeliveredBy, delivers_frame}
use Rattle.fronius.proofs.slice.frame_at.Goals.{After-judge_frame-answer}
use Rattle.fronius.proofs.slice.frame_at.Goals as goal

-- what stands behind a length at k, as it is handed on: all of it
abbrev held : List ℕ → ℕ → List ℕ
held s k = take (length s - (k + 1)) (drop (k + 1) s)

all_held : (s : List ℕ) (k : ℕ) → held s k ≡ drop (k + 1) s
all_held s k = take_all (length s - (k + 1)) (drop (k + 1) s) (simp length-drop (omega arith))

room : (s : List ℕ) (k n : ℕ) → 3 + n ≤ length s - (k + 1) → n ≤ length s → 3 + n ≤ length (held s k)
room s k n h r = simp (all_held s k, length-drop) (omega arith)

judged : (c : After-judge_frame-answer)
    → (let s = c.args.slice.now in
    let k = c.args.at in
    DeliveredBy c.judge_frame-answer.result (judged_frame (get_or s k 0) (get_or s (k + 1 + (3 + get_or s k 0)) 0) (held s k)) (held s k) c.args.lent.now)
judged c =
    let s = c.args.slice.now in
    let k = c.args.at in
    let n = get_or s k 0 in
    delivers_frame n (get_or s (k + 1 + (3 + n)) 0) (held s k) c.args.lent.now c.judge_frame-answer.result (omega arith) (room s k n (omega arith) (omega arith)) (rw c.from-len.ensures at c.judge_frame-answer.ensures)

pub returns-then-slice-at : goal.returns-then-slice-at
returns-then-slice-at c = answers_end c.args.slice.now c.args.at c.args.lent.now c.used_up.result c.used_up.ensures (omega arith)

pub returns-then-len-gt-PAYLOAD : goal.returns-then-len-gt-PAYLOAD
returns-then-len-gt-PAYLOAD c = answers_bad_length c.args.slice.now c.args.at c.args.lent.now (omega arith) (omega (arith, c.requires.2))

pub returns-then-slice-held : goal.returns-then-slice-held
returns-then-slice-held c =
    answers_cut_off c.args.slice.now c.args.at c.args.lent.now c.used_up-then-slice-held.result c.used_up-then-slice-held.ensures (omega arith) (omega arith) (omega arith)

pub deliver-requires : goal.deliver-requires
deliver-requires c =
    let j = judged (goal.at.deliver-requires c).After-judge_frame-answer in
    (j.0, j.1, c.requires.1)

pub returns : goal.returns
returns c =
    let s = c.args.slice.now in
    let k = c.args.at in
    rw c.from-len.ensures (answers_frame s k c.args.lent.now (held s k) _ c.judge_frame-answer.result (omega arith) (omega arith) (omega arith) (all_held s k) (rw c.from-len.ensures at c.judge_frame-answer.ensures) c.deliver.ensures)
