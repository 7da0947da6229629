-- A test that the rule of every opcode passes.
use mathlib.Core.Path.{◌≡◌}
use mathlib.Core.Bool.{Bool, true, ◌&&◌}
use mathlib.Core.List.{List, [], ◌∷◌}
use Prim.Native.Nat.{ℕ, zero, suc, ◌≤◌}
use native.Mathlib.Omega.{arith}
use lib.ListN.{length, get_or}
use Rattle.machine.specs.Rules.{Plan}
use Rattle.wire.proofs.Laws.{and_both}

abbrev pub all_plans : (Plan → Bool) → List Plan → Bool
all_plans p [] = true
all_plans p (x ∷ l) = p x && all_plans p l

-- At a place past the end it is asked of what stands there.
pub each_plan : (p : Plan → Bool) (d : Plan) (l : List Plan) → all_plans p l ≡ true → (i : ℕ) → (length l ≤ i → p d ≡ true) → p (get_or l i d) ≡ true
each_plan p d [] h i e = e (omega arith)
each_plan p d (x ∷ l) h zero e = (and_both (p x) (all_plans p l) h).0
each_plan p d (x ∷ l) h (suc i) e = each_plan p d l (and_both (p x) (all_plans p l) h).1 i (λ q. e (omega (arith, q)))
