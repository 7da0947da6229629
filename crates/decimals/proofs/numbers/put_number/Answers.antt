use Rattle.std.proofs.Common.{◌≡◌, ℕ, List, [], ◌∷◌, ◌++◌, ap, ◌∙◌, length, arith}
use Rattle.std.proofs.Math.Seq.{paste}
use Rattle.wire.specs.Parts.{pasted}
use Rattle.decimals.specs.Numbers.{decimal}
use Rattle.decimals.proofs.numbers.put_number.Goals as goal

pub returns : goal.returns
unfolding pasted
returns c =
    let t : List ℕ = decimal c.args.n ++ (c.args.close ∷ []) in
    let e : c.as_slice.result.now ≡ t = c.as_slice.ensures.value ∙ c.push_number.ensures.text ∙ ap (λ (s : List ℕ). s ++ t) c.new-text.ensures in (
      c.copy_into.ensures ∙ ap (λ (s : List ℕ). paste c.args.out.now c.args.at s (length s)) e,
      omega (arith, c.len.ensures.value, ap length c.as_slice.ensures.value, ap length e),
      omega (arith, c.len.ensures.value, c.push_number.ensures.size, ap length c.new-text.ensures),
    )
