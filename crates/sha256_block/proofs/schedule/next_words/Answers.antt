use Rattle.std.proofs.Common.{ℕ, List, ◌++◌, sym, refl, ap, ◌∙◌, append-nil, arith}
use Rattle.std.proofs.lemmas.List.{take_all}
use Rattle.sha256_block.specs.Ring.{Ring}
use Rattle.sha256_block.proofs.Laws.{enough}
use Rattle.sha256_block.proofs.schedule.next_words.Goals as goal

pub returns : goal.returns
returns c =
    let x = c.args.x in
    let none : Ring x 0 x = record { made = enough x ∙ sym (append-nil x); left = refl } in
    let h = c.four_on.ensures x (omega arith) (c.four_on-twelve.ensures x (omega arith) (c.four_on-eight.ensures x (omega arith) (c.four_on-four.ensures x (omega arith) none))) in
    h.made ∙ ap (λ (l : List ℕ). x ++ l) (take_all 16 c.four_on.result (omega arith))
