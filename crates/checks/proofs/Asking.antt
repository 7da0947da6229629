-- One check: what comes after a no does not matter; and the steps of a signature check.
use mathlib.Core.Path.{◌≡◌, refl, ap}
use mathlib.Core.Bool.{Bool, true, false, cond}
use mathlib.Core.List.{List}
use Prim.Native.Nat.{ℕ, ◌≤◌}
use native.Mathlib.Omega.{arith}
use Rattle.lms.specs.Check.{Checked, check_of}
use Rattle.lms.proofs.StepLaw.{step_law}
use Rattle.machine.specs.Answered.{Judged}
use Rattle.machine.specs.Checks.{Check, passed, made, ask}
use Rattle.machine.specs.Machine.{concluded}
use Rattle.machine.specs.declared.units.Cents.{Cents}
use Rattle.machine.specs.declared.state.Channel.{Channel}

-- Where a check said no it does not matter which one comes next, nor what would become of the channel.
pub unasked : (j : Judged) → passed j ≡ false → (k l : Check) → ask j k ≡ ask j l
unfolding ask
unasked j z k l = rw z

pub unconcluded : (j : Judged) → passed j ≡ false → (k : Check) (before p q : Channel) (c m : Cents) → concluded (ask j k) before p c m ≡ concluded (ask j k) before q c m
unfolding ask concluded
unconcluded j z k before p q c m = rw z (rw z)

-- What does not look at a leaf where a check said no may look at the leaf of a verdict, though the check may not have been made.
pub leaf_known : {A : Type 0} (f : Judged → ℕ → A) (j : Judged) (k : Check) (q : ℕ) → ((i : Judged) → passed i ≡ false → (a b : ℕ) → f i a ≡ f i b) → f (ask j k) (cond (passed j) q 0) ≡ f (ask j k) q
unfolding ask
leaf_known f j k q h = go (passed j) refl
  where
    go : (x : Bool) → passed j ≡ x → f (cond x (made j k) j) (cond x q 0) ≡ f (cond x (made j k) j) q
    go true z = refl
    go false z = h j z 0 q

pub steps_most : (v : Checked) (key message signature : List ℕ) → v ≡ check_of key message signature → v.steps ≤ 8415
steps_most v key message signature e = omega (arith, ap (λ (x : Checked). x.steps) e, step_law.check key message signature)
