use Rattle.std.proofs.Common.{◌≡◌, ℕ, List, ap, ◌∙◌, arith}
use Rattle.std.specs.Prelude.{get_or}
use Rattle.sha256_block.specs.Block.{next_word}
use Rattle.sha256_block.proofs.Laws.{ring_on}
use Rattle.sha256_block.proofs.schedule.one_on.Goals as goal

-- The next word is by the places that are read, however they are spelled.
places : (w : List ℕ) {a b c d a' b' c' d' : ℕ} → a ≡ a' → b ≡ b' → c ≡ c' → d ≡ d'
    → next_word (get_or w a 0) (get_or w b 0) (get_or w c 0) (get_or w d 0) ≡ next_word (get_or w a' 0) (get_or w b' 0) (get_or w c' 0) (get_or w d' 0)
places w p q r s = cc (ap (λ n. get_or w n 0) p, ap (λ n. get_or w n 0) q, ap (λ n. get_or w n 0) r, ap (λ n. get_or w n 0) s)

pub returns : goal.returns
returns c = λ x l r.
    ring_on x c.args.ring c.args.i _ (omega arith) l (omega arith)
    (c.next_word.ensures ∙ places c.args.ring (omega arith) (omega arith) (omega arith) (omega arith)) r
