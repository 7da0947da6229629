-- Before the turn of node r every node above r stands in its place.
use Rattle.signer.proofs.Tree.{Filled}
use Rattle.signer.proofs.nodes.tree_of.Given as goal

abbrev pub invariant-loop-r : goal.invariant-loop-r
invariant-loop-r l = Filled l.seed l.id l.nodes l.r
