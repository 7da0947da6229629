use Rattle.std.proofs.Common.{◌≡◌, refl, subst, ◌+◌, ◌-◌, arith}
use lib.ListN.{length-replicate}
use Rattle.signer.specs.Nodes.{no_node}
use Rattle.signer.proofs.Tree.{Filled, fill, full}
use Rattle.signer.proofs.nodes.tree_of.Goals as goal

pub loop-r-init : goal.loop-r-init
loop-r-init c = record { size = length-replicate 2048 no_node; within = omega arith; zeros = refl; above = λ k h l. absurd (omega arith) }

pub loop-r-preserved : goal.loop-r-preserved
loop-r-preserved c =
    let l = c.loop-r in
    let a = c.args in
    let next : l.r ≡ l.r - 1 + 1 = omega arith in
    fill a.seed a.id l.nodes (l.r - 1) c.node_value-value.result (subst (Filled a.seed a.id l.nodes) next l.invariant) (omega arith) c.node_value-value.ensures

pub returns : goal.returns
returns c = full c.args.seed c.args.id c.loop-r.nodes c.loop-r.r c.loop-r.invariant c.loop-r-test.false
