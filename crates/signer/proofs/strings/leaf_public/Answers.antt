use Rattle.std.proofs.Common.{◌≡◌, ap, ◌∙◌, ℕ, List, ◌++◌, arith}
use Rattle.wire.specs.Numbers.{bytes}
use Rattle.sha256.specs.Digest.{sha256}
use Rattle.lms.specs.Rows.{row}
use Rattle.lms.specs.OneTime.{key_of_ends}
use Rattle.lms.proofs.Laws.{none_fed, more_fed}
use Rattle.signer.specs.Strings.{full_end, leaf_public}
use Rattle.signer.proofs.strings.leaf_public.Goals as goal

pub loop-i-init : goal.loop-i-init
loop-i-init c = none_fed _ _ _ _ c.begun-state.ensures

pub loop-i-preserved : goal.loop-i-preserved
loop-i-preserved c =
    let a = c.args in
    let end = c.chain_string-end.ensures in
    more_fed _ a.leaf.number (full_end a.seed a.leaf.id a.leaf.number) _ c.loop-i.i _ _ end c.loop-i.invariant (omega arith) c.feed-state.ensures

pub returns : goal.returns
unfolding leaf_public key_of_ends
returns c =
    let a = c.args in
    let n : c.loop-i.i ≡ 34 = omega arith in
    let hash : ℕ → List ℕ = λ k. sha256 (a.leaf.id ++ bytes 4 a.leaf.number ++ bytes 2 0x8080 ++ row (full_end a.seed a.leaf.id a.leaf.number) k) in
    c.finish.ensures _ c.loop-i.invariant.taken ∙ ap hash n
