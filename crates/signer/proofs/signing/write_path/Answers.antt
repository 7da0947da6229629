use Rattle.std.proofs.Common.{◌≡◌, refl, ap, ◌∙◌, ℕ, ◌+◌, ◌-◌, ◌*◌, List, [], ◌++◌, length, get_or, replicate, arith}
use mathlib.Core.List.{append-nil}
use lib.Seq.{length-paste}
use Rattle.lms.specs.Rows.{row}
use Rattle.signer.proofs.Parts.{writing_none, writing_more}
use Rattle.signer.proofs.signing.write_path.Goals as goal

abbrev at : List (List ℕ) → ℕ → List ℕ
at path i = get_or path i []

pub loop-i-init : goal.loop-i-init
loop-i-init c = (omega arith, λ b l e. writing_none (at c.args.path) b c.args.signature.now 320 e)

pub loop-i-preserved : goal.loop-i-preserved
loop-i-preserved c =
    let l = c.loop-i in
    let x = get_or c.args.path l.i [] in
    let size : length x ≡ 32 = omega arith in (
      ap length c.copy_into.ensures ∙ length-paste l.signature (1132 + 32 * l.i) x (length x) (omega arith) (omega arith) ∙ l.invariant.0,
      λ b n f.
          writing_more (at c.args.path) b l.signature _ x (32 * (10 - l.i)) (32 * (10 - (l.i + 1))) l.i (1132 + 32 * l.i) (l.invariant.1 b n f) refl size
          (omega arith) (omega arith) c.copy_into.ensures,
    )

pub returns : goal.returns
returns c b n f =
    let l = c.loop-i in
    let k : l.i ≡ 10 = omega arith in
    (l.invariant.1 b n f).whole
    ∙ ap (λ (j : ℕ). b ++ row (at c.args.path) j ++ replicate (32 * (10 - j)) 0) k
    ∙ append-nil (b ++ row (at c.args.path) 10)
