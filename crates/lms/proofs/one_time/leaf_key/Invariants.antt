-- After i turns the state is that of I, q, 8080 and the ends of the first i chains.
use Rattle.lms.specs.OneTime.{end_of}
use Rattle.lms.specs.Walked.{Fed}
use Rattle.lms.proofs.one_time.leaf_key.Given as goal

abbrev pub invariant-loop-i : goal.invariant-loop-i
invariant-loop-i l = Fed l.leaf.id l.leaf.number (end_of l.leaf.id l.leaf.number l.d l.signature) l.i l.state
