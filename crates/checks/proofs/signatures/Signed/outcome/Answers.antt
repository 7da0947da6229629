use Rattle.std.proofs.Common.{ap}
use native.Mathlib.Nat.{add-sub_cancel_left}
use Rattle.lms.specs.Check.{Checked}
use Rattle.machine.specs.Machine.{verdict}
use Rattle.checks.proofs.Asking.{steps_most}
use Rattle.checks.proofs.signatures.Signed.outcome.Goals as goal

pub returns-clause-verdict : goal.returns-clause-verdict
unfolding verdict
returns-clause-verdict c =
    let e = rw (c.unwrap.ensures, c.message-buffer.ensures, add-sub_cancel_left) at c.check.ensures.answer in
    ap (λ (v : Checked). record { good = v.verdict; steps = v.steps; leaf = v.leaf }) e

pub returns-clause-bound : goal.returns-clause-bound
returns-clause-bound c = steps_most _ _ _ _ (rw c.unwrap.ensures at c.check.ensures.answer)
