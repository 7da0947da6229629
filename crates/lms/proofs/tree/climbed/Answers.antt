use Rattle.std.proofs.Common.{◌≡◌, ◌/◌, ◌^◌, refl, sym, ap, ◌∙◌, ℕ, add-one, arith}
use Rattle.lms.specs.declared.place.Place.{Place}
use Rattle.lms.specs.Tree.{climb}
use Rattle.lms.proofs.Climbing.{half}
use Rattle.lms.proofs.tree.climbed.Goals as goal

pub loop-sibling-init : goal.loop-sibling-init
unfolding climb
loop-sibling-init c = record { same = refl; node = omega arith; value = refl }

pub loop-sibling-preserved : goal.loop-sibling-preserved
unfolding climb
loop-sibling-preserved c =
    let l = c.loop-sibling in
    let q = c.args.start.number in
    let i = l.sibling-index in
    record {
      same = ap (λ (p : Place). p.id) c.above-node.ensures ∙ l.invariant.same;
      node =
          ap (λ (p : Place). p.number) c.above-node.ensures
          ∙ ap (λ (x : ℕ). x / 2) l.invariant.node
          ∙ half q i
          ∙ ap (λ (k : ℕ). q / 2 ^ k) (sym (add-one i));
      value = rw (add-one, ← l.invariant.same, ← l.invariant.node, ← l.invariant.value) c.parent-over.ensures;
    }

pub returns : goal.returns
returns c =
    let h : c.loop-sibling.sibling-index ≡ 10 = omega arith in
    rw h at c.loop-sibling.invariant.value
