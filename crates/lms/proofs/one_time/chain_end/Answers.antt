use Rattle.std.proofs.Common.{ap, ◌∙◌, ℕ, ◌-◌, List, arith}
use lib.Seq.{take_all}
use Rattle.sha256.specs.Digest.{digest_of}
use Rattle.lms.specs.OneTime.{walk, chain_of, chain_end}
use Rattle.lms.proofs.one_time.chain_end.Goals as goal

pub returns : goal.returns
unfolding chain_end
returns c =
    let a = c.args in
    c.digest.ensures
    ∙ c.chain.ensures
    ∙ ap (λ (s : List ℕ). walk s (255 - a.digit) a.digit (digest_of c.value_at.result)) c.numbered_start.ensures
    ∙ ap (walk (chain_of a.leaf.id a.leaf.number a.i) (255 - a.digit) a.digit) (c.value_at.ensures ∙ take_all 32 a.string (omega arith))
