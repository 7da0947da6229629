-- After so many siblings the value is the one as many levels above the start.
use Rattle.std.proofs.Common.{◌≡◌, ◌/◌, ◌^◌}
use Rattle.lms.specs.Tree.{climb}
use Rattle.lms.proofs.tree.climbed.Given as goal

abbrev pub invariant-loop-sibling : goal.invariant-loop-sibling
invariant-loop-sibling l = record {
  same : l.node.id ≡ l.fn.start.id;
  node : l.node.number ≡ l.fn.start.number / 2 ^ l.sibling-index;
  value : l.value ≡ climb l.fn.start.id l.fn.start.number l.fn.leaf l.fn.path l.sibling-index;
}
