use Rattle.std.proofs.Common.{◌≡◌, ℕ, ◌*◌, List, [], ◌∷◌, ◌++◌, map, take, drop, sym, ap, ◌∙◌, arith}
use Rattle.std.proofs.lemmas.List.{take_more_set, take_all, length-set}
use Rattle.std.specs.List.{range_with_len}
use Rattle.std.proofs.lemmas.List.FromFn.{map-range_with_len_more}
use Rattle.wire.specs.Numbers.{u32_at}
use Rattle.sha256_block.specs.Block.{words}
use Rattle.sha256_block.proofs.Laws.{word_in}
use Rattle.sha256_block.proofs.schedule.block_words.Goals as goal

pub loop-i-preserved : goal.loop-i-preserved
loop-i-preserved c =
    let s = c.args.s.now in
    let at = c.args.at in
    let i = c.loop-i.i in
    let f = λ (k : ℕ). u32_at (take 64 (drop at s)) (4 * k) in
    let e : c.u32_at.result ≡ f i = c.u32_at.ensures ∙ word_in s at (4 * i) (omega arith) in (
      simp length-set (omega arith),
      take_more_set c.loop-i.w i c.u32_at.result (omega arith)
          ∙ ap (λ (l : List ℕ). l ++ c.u32_at.result ∷ []) c.loop-i.invariant.1
          ∙ ap (λ (x : ℕ). map f (range_with_len 0 i) ++ x ∷ []) e
          ∙ sym (map-range_with_len_more f 0 i i (omega arith)),
    )

pub returns : goal.returns
unfolding words
returns c =
    let n : c.loop-i.i ≡ 16 = omega arith in
    sym (take_all 16 c.loop-i.w (omega arith)) ∙ (rw n at c.loop-i.invariant.1)
