-- After i turns the state is that of I, q, 8080 and the ends of the first i chains.
use Rattle.lms.specs.Walked.{Fed}
use Rattle.signer.specs.Strings.{full_end}
use Rattle.signer.proofs.strings.leaf_public.Given as goal

abbrev pub invariant-loop-i : goal.invariant-loop-i
invariant-loop-i l = Fed l.leaf.id l.leaf.number (full_end l.seed l.leaf.id l.leaf.number) l.i l.state
