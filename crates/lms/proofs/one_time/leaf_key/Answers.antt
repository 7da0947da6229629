use Rattle.std.proofs.Common.{◌≡◌, ap, ◌∙◌, ℕ, List, ◌++◌, get_or, length, arith}
use Rattle.wire.specs.Numbers.{bytes}
use Rattle.sha256.specs.Digest.{sha256}
use Rattle.lms.specs.declared.one_time.Walked.{Walked}
use Rattle.lms.specs.OneTime.{deficit, chain_end, end_of, key_of_ends, leaf_key, step_count}
use Rattle.lms.specs.Rows.{row}
use Rattle.lms.proofs.Laws.{none_fed, more_fed}
use Rattle.lms.proofs.one_time.leaf_key.Goals as goal

answered : (k k' : List ℕ) (s s' : ℕ) → k ≡ k' → s ≡ s' → ◌≡◌ {A = Walked} (record { key = k; steps = s }) (record { key = k'; steps = s' })
answered k k' s s' p q = cc

pub loop-i-init : goal.loop-i-init
loop-i-init c = none_fed _ _ _ _ c.begun-state.ensures

pub feed-state-requires : goal.feed-state-requires
feed-state-requires c = omega arith

pub loop-i-preserved : goal.loop-i-preserved
loop-i-preserved c =
    let I = c.args.leaf.id in
    let q = c.args.leaf.number in
    let i = c.loop-i.i in
    let d = c.digits_of-d.result in
    more_fed I q (end_of I q d c.args.signature.now) _ i _ _ (c.chain_end-end.ensures ∙ ap (chain_end I q i (get_or d i 0)) c.array_at.ensures)
    c.loop-i.invariant (omega arith) c.feed-state.ensures

pub returns : goal.returns
unfolding leaf_key key_of_ends step_count
returns c =
    let l = c.loop-i in
    let a = c.args in
    let n : l.i ≡ 34 = omega arith in
    let m : length c.digits_of-d.result ≡ 34 = omega arith in
    let hash : ℕ → List ℕ → List ℕ = λ k ds. sha256 (a.leaf.id ++ bytes 4 a.leaf.number ++ bytes 2 0x8080 ++ row (end_of a.leaf.id a.leaf.number ds a.signature.now) k) in
    answered _ _ _ _
    (c.finish.ensures _ l.invariant.taken ∙ ap (λ (k : ℕ). hash k c.digits_of-d.result) n ∙ ap (hash 34) c.digits_of-d.ensures)
    (c.deficit.ensures.sum ∙ ap (deficit c.digits_of-d.result) m ∙ ap (λ (x : List ℕ). deficit x 34) c.digits_of-d.ensures)
