-- The three parts, one behind the other.
use Rattle.std.proofs.Common.{ap, subst, List, [], ◌∷◌, ◌++◌, ℕ, length, arith}
use Rattle.wire.specs.Numbers.{bytes}
use Rattle.sha256.specs.State.{Taken}
use Rattle.lms.proofs.place.begun.Goals as goal

pub returns : goal.returns
unfolding bytes
returns c =
    let a = c.args in
    let four = c.u32_bytes-four.ensures in
    let t = c.feed-3.ensures.taken _ (c.feed-2.ensures.taken _ (c.feed.ensures.taken [] c.new.ensures)) in
    record {
      count = omega (arith, c.feed-3.ensures.longer, c.feed-2.ensures.longer, c.feed.ensures.longer, c.new.ensures.count, ap length four);
      taken = subst (λ (l : List ℕ). Taken c.feed-3.result (a.place.id ++ l ++ a.tag ∷ a.tag ∷ [])) four t;
    }
