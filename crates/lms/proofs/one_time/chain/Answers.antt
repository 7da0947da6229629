use Rattle.std.proofs.Common.{refl, sym, ap, ◌∙◌, ℕ, List, take, arith}
use lib.ListN.{length-set}
use lib.Seq.{take-set-le}
use Rattle.sha256.specs.Digest.{digest_of}
use Rattle.lms.specs.OneTime.{chain_step}
use Rattle.lms.proofs.Laws.{walk_on, walked, stepped}
use Rattle.lms.proofs.one_time.chain.Goals as goal

pub loop-j-init : goal.loop-j-init
loop-j-init c = (omega arith, refl, refl)

pub loop-j-preserved : goal.loop-j-preserved
loop-j-preserved c =
    let l = c.loop-j in
    let s = take 22 c.args.start in
    let x = digest_of l.value in
    let y = digest_of c.hash_after-value.result in
    let e = stepped l.prefix x y l.j l.invariant.0 (omega (arith, c.ranges.to.fits)) c.hash_after-value.ensures in
    let e' = e ∙ ap (λ (p : List ℕ). chain_step p l.j x) l.invariant.1 in (
      simp length-set l.invariant.0,
      take-set-le 22 l.prefix 22 l.j (omega arith) ∙ l.invariant.1,
      l.invariant.2 ∙ walk_on s x y _ l.j (omega arith) e',
    )

pub returns : goal.returns
returns c = sym (c.loop-j.invariant.2 ∙ walked (take 22 c.args.start) (digest_of c.loop-j.value) _ c.loop-j.j (omega arith))
