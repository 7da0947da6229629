use Rattle.std.proofs.Common.{◌≡◌, sym, ◌∙◌, arith}
use Rattle.std.proofs.lemmas.List.{take_all}
use Rattle.wire.specs.Numbers.{bytes}
use Rattle.sha256.specs.Digest.{digest_of}
use Rattle.sha256.proofs.Laws.{word_more}
use Rattle.sha256.proofs.bytes.digest.Goals as goal

pub loop-i-preserved : goal.loop-i-preserved
loop-i-preserved c = (
  omega arith,
  word_more c.loop-i.out c.copy_into.new.dst _ c.u32_bytes.result c.loop-i.i _ (omega arith) (omega arith) c.loop-i.invariant.1 c.u32_bytes.ensures c.copy_into.ensures,
)

pub returns : goal.returns
unfolding digest_of bytes
returns c =
    let n : c.loop-i.i ≡ 8 = omega arith in
    sym (take_all 32 c.loop-i.out (omega arith)) ∙ (rw n at c.loop-i.invariant.1)
