-- What was fed, part by part, is what the definition hashes.
use Rattle.wire.specs.Numbers.{bytes}
use Rattle.lms.specs.Tree.{leaf_node}
use Rattle.lms.proofs.tree.leaf_node.Goals as goal

pub returns : goal.returns
unfolding leaf_node bytes
returns c = c.finish.ensures _ (c.feed.ensures.taken _ c.begun.ensures.taken)
