use Rattle.std.proofs.Common.{◌≡◌, ℕ, ◌+◌, ◌-◌, ◌*◌, ◌/◌, ◌%◌, ◌++◌, drop, length, refl, sym, ap, ◌∙◌, arith}
use Rattle.std.proofs.lemmas.List.{drop-drop}
use Rattle.sha256_block.specs.Block.{compress_of}
use Rattle.sha256.specs.Digest.{hashed}
use Rattle.sha256.proofs.Feeding.{short, filled, whole, long, block_in}
use Rattle.sha256.proofs.state.Sha256.feed.Goals as goal

pub returns-then-part-room : goal.returns-then-part-room
returns-then-part-room c = record { longer = refl; taken = λ m t. short c.args.self _ m c.args.part.now t (omega arith) refl refl c.write_into.ensures }

pub loop-block-init : goal.loop-block-init
loop-block-init c =
    let n = c.args.self.n in
    let e : 64 - n % 64 ≡ 64 - n % 64 + 0 = omega arith in
    (refl, omega arith, λ m l b. b ∙ ap (λ (i : ℕ). hashed ((n + i) / 64) (m ++ c.args.part.now)) e)

pub loop-block-preserved : goal.loop-block-preserved
loop-block-preserved c =
    let n = c.args.self.n in
    let part = c.args.part.now in
    let rest = c.split_at.result.1.now in
    let blocks = c.as_chunks.result.0.now in
    let j = c.loop-block.block-index in
    let e : 64 - n % 64 + 64 * j + 64 ≡ 64 - n % 64 + 64 * (j + 1) = omega arith in
    let block = block_in part rest _ blocks (64 - n % 64) (length rest / 64) j c.split_at.ensures.back c.as_chunks.ensures.front (omega arith) in (
      c.loop-block.invariant.0,
      c.loop-block.invariant.1,
      λ m l b. whole m part n (64 - n % 64 + 64 * j) l (omega arith) (c.loop-block.invariant.2 m l b) (c.compress-self-in-loop-block.ensures ∙ ap (compress_of c.loop-block.self.h) block)
          ∙ ap (λ (i : ℕ). hashed ((n + i) / 64) (m ++ part)) e,
    )

pub returns : goal.returns
returns c =
    let s = c.args.self in
    let part = c.args.part.now in
    let room = 64 - s.n % 64 in
    let rest = c.split_at.result.1.now in
    let i = room + 64 * c.loop-block.block-index in
    let k : room + length rest / 64 * 64 ≡ i = omega arith in
    let tail : c.as_chunks.result.1.now ≡ drop i part =
    c.as_chunks.ensures.back ∙ ap (drop (length rest / 64 * 64)) c.split_at.ensures.back ∙ drop-drop (length rest / 64 * 64) room part ∙ ap (λ (x : ℕ). drop x part) k in
    record {
      longer = c.loop-block.invariant.0;
      taken = λ m t.
          let begun = filled s m part c.split_at.result.0.now c.write_into-2.new.block t (omega arith) c.split_at.ensures.front c.write_into-2.ensures c.compress-self.ensures in
          long s _ m part _ c.loop-block.self.buf i t c.loop-block.invariant.0 (omega arith) (omega arith) (omega arith) (c.loop-block.invariant.2 m (sym t.count) begun) tail c.write_into-3.ensures;
    }
