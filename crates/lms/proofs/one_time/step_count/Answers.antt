use Rattle.std.proofs.Common.{ap, ◌∙◌, List, ℕ, arith}
use Rattle.lms.specs.OneTime.{deficit, step_count}
use Rattle.lms.proofs.one_time.step_count.Goals as goal

pub returns : goal.returns
unfolding step_count
returns c =
    c.deficit.ensures.sum ∙ ap (deficit c.digits_of.result) (omega arith) ∙ ap (λ (x : List ℕ). deficit x 34) c.digits_of.ensures
