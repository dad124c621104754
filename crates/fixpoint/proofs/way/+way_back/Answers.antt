use Rattle.std.proofs.Common.{◌≡◌, ◌-◌, ◌<◌, ◌≤◌, length, ◌∙◌, inr, arith, rules}
use Rattle.fixpoint.proofs.Items.{placed}
use Rattle.fixpoint.proofs.Back.{no_back, written_first, written_more, rest_first, rest_more}
use Rattle.fixpoint.proofs.way.+way_back.Goals as goal
use Rattle.fixpoint.proofs.way.+way_back.Goals.{then-round-gt1+in_ok-before+in_ok-way_back, else-round-gt1}

pub returns-in_err-before-clause-way : goal.returns-in_err-before-clause-way
returns-in_err-before-clause-way g t c = λ f. rw c.from_residual.ensures (inr (inr (no_back f (c.round_of-round.result - 1) c.args.goal (omega arith) (omega arith) c.in_err-before.ensures)))

pub overflow_cast-out : goal.overflow_cast-out
overflow_cast-out g t c =
    let l = placed c.args.rounds.now c.args.goal (omega arith) in
    let k : length c.args.rounds.now ≡ 1024 = search rules in
    omega arith

pub returns : goal.returns
returns g t c =
    let r = c.round_of-round.result in
    let out = c.if-round-gt1.out in
    let some : 0 < r = omega arith in
    let room : r ≤ length out = omega arith in
    record {
      many = (c.round_of-round.ensures, omega arith);
      way = λ f. elim c.if-round-gt1.branch [
        | then-round-gt1+in_ok-before+in_ok-way_back w ↦ let x = w.in_ok-before.ensures in let y = w.in_ok-way_back.ensures in
            written_more f w.in_ok-before.before c.args.goal r w.in_ok-way_back.field-0 out c.round_of-round.ensures some room y.many.0 x.1 x.0 (rw w.out-is (y.way f))
        | else-round-gt1 w ↦ written_first f c.args.goal r out c.round_of-round.ensures some w.if-round-gt1.false room
      ];
      rest = elim c.if-round-gt1.branch [
        | then-round-gt1+in_ok-before+in_ok-way_back w ↦ let y = w.in_ok-way_back.ensures in rest_more c.args.goal r w.in_ok-way_back.field-0 c.args.out.now out some (y.many.0 ∙ w.in_ok-before.ensures.1) (rw w.out-is y.rest)
        | else-round-gt1 w ↦ rw w.out-is (rest_first c.args.goal r c.args.out.now some)
      ];
    }
