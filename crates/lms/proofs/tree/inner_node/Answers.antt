-- What was fed, part by part, is what the definition hashes.
use Rattle.wire.specs.Numbers.{bytes}
use Rattle.lms.specs.Tree.{inner_node}
use Rattle.lms.proofs.tree.inner_node.Goals as goal

pub returns : goal.returns
unfolding inner_node bytes
returns c = c.finish.ensures _ (c.feed-2.ensures.taken _ (c.feed.ensures.taken _ c.begun.ensures.taken))
