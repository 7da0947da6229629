use Rattle.std.proofs.Common.{◌≡◌, ap, ◌∙◌, ℕ, ◌-◌, List, take, set, arith}
use lib.Seq.{take_all, take-set-le}
use Rattle.sha256.specs.Digest.{digest_of}
use Rattle.lms.specs.OneTime.{walk, chain_step, chain_of}
use Rattle.lms.proofs.Laws.{stepped}
use Rattle.signer.specs.Strings.{secret_of, string_of}
use Rattle.signer.proofs.strings.chain_string.Goals as goal

pub returns : goal.returns
unfolding string_of secret_of
returns c =
    let a = c.args in
    let y = digest_of c.hash_after-secret.result in
    let p : List ℕ = c.numbered_start-numbered.result in
    let n : take 22 p ≡ chain_of a.leaf.id a.leaf.number a.i = c.numbered_start-numbered.ensures in
    let x : digest_of c.value_at.result ≡ a.seed = c.value_at.ensures ∙ take_all 32 a.seed (omega arith) in
    let h : y ≡ chain_step (take 22 p) 0xff a.seed = stepped p _ y 0xff (omega arith) (omega arith) c.hash_after-secret.ensures ∙ ap (chain_step (take 22 p) 0xff) x in
    let d : a.steps - 0 ≡ a.steps = omega arith in
    c.digest.ensures
    ∙ c.chain.ensures
    ∙ ap (λ (j : ℕ). walk (take 22 (set p 22 0xff)) j 0 y) d
    ∙ ap (λ (s : List ℕ). walk s a.steps 0 y) (take-set-le 22 p 22 0xff (omega arith) ∙ n)
    ∙ ap (walk (chain_of a.leaf.id a.leaf.number a.i) a.steps 0) (h ∙ ap (λ (s : List ℕ). chain_step s 0xff a.seed) n)
