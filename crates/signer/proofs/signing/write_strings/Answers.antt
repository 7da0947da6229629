use Rattle.std.proofs.Common.{◌≡◌, ap, ◌∙◌, ℕ, ◌+◌, ◌-◌, ◌*◌, ◌++◌, length, replicate, arith}
use lib.Seq.{length-paste}
use Rattle.lms.specs.Rows.{row}
use Rattle.signer.specs.Signature.{signed_string}
use Rattle.signer.proofs.Parts.{writing_none, writing_more}
use Rattle.signer.proofs.signing.write_strings.Goals as goal

pub loop-i-init : goal.loop-i-init
loop-i-init c =
    let a = c.args in
    (omega arith, λ b n f. writing_none (signed_string a.seed a.leaf.id a.leaf.number a.digits) b a.signature.now 1412 f)

pub loop-i-preserved : goal.loop-i-preserved
loop-i-preserved c =
    let l = c.loop-i in
    let a = c.args in
    let x = c.chain_string-string.result in
    let size : length x ≡ 32 = omega arith in
    let e = c.chain_string-string.ensures in (
      ap length c.copy_into.ensures ∙ length-paste l.signature (40 + 32 * l.i) x (length x) (omega arith) (omega arith) ∙ l.invariant.0,
      λ b n f.
          writing_more (signed_string a.seed a.leaf.id a.leaf.number a.digits) b l.signature _ x (324 + 32 * (34 - l.i)) (324 + 32 * (34 - (l.i + 1))) l.i (40 + 32 * l.i)
          (l.invariant.1 b n f) e size (omega arith) (omega arith) c.copy_into.ensures,
    )

pub returns : goal.returns
returns c b n f =
    let l = c.loop-i in
    let a = c.args in
    let k : l.i ≡ 34 = omega arith in
    (l.invariant.1 b n f).whole
    ∙ ap (λ (j : ℕ). b ++ row (signed_string a.seed a.leaf.id a.leaf.number a.digits) j ++ replicate (324 + 32 * (34 - j)) 0) k
