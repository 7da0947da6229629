use Rattle.std.proofs.Common.{ap, ◌∙◌, List, [], ◌∷◌, ◌++◌, ℕ, take, drop, replicate, arith}
use Rattle.lms.proofs.Laws.{started}
use Rattle.lms.proofs.one_time.chain_start.Goals as goal

pub returns : goal.returns
returns c =
    let I = c.args.leaf.id in
    let z : List ℕ = replicate 7 0 in
    ap (λ (x : List ℕ). take 16 (x ++ z) ++ (c.copy_from_slice-2.new.self ++ drop 4 (drop 16 (x ++ z)))) c.copy_from_slice.ensures.after
    ∙ started I c.copy_from_slice-2.new.self (omega arith)
    ∙ ap (λ (b : List ℕ). I ++ b ++ 0 ∷ 0 ∷ 0 ∷ []) (c.copy_from_slice-2.ensures.after ∙ c.u32_bytes.ensures)
