use Rattle.std.proofs.Common.{ap, sym, ◌∙◌}
use Rattle.lms.specs.Tree.{leaf_node}
use Rattle.signer.proofs.Tree.{leaf_alone, inner}
use Rattle.signer.proofs.nodes.node_value.Goals as goal

pub returns-then-node-ge1024 : goal.returns-then-node-ge1024
returns-then-node-ge1024 c =
    let a = c.args in
    c.leaf_node.ensures
    ∙ ap (leaf_node a.node.id a.node.number) c.leaf_public.ensures
    ∙ sym (leaf_alone a.seed a.node.id a.node.number a.left a.right c.if-node-ge1024.true)

pub returns-else-node-ge1024 : goal.returns-else-node-ge1024
returns-else-node-ge1024 c =
    let a = c.args in
    c.inner_node.ensures ∙ sym (inner a.seed a.node.id a.node.number a.left a.right c.if-node-ge1024.false)
