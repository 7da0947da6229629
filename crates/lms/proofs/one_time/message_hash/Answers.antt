-- What was fed, part by part, is what the definition hashes.
use Rattle.wire.specs.Numbers.{bytes}
use Rattle.lms.specs.OneTime.{message_hash}
use Rattle.lms.proofs.one_time.message_hash.Goals as goal

pub returns : goal.returns
unfolding message_hash bytes
returns c = c.finish.ensures _ (c.feed-2.ensures.taken _ (c.feed.ensures.taken _ c.begun.ensures.taken))
