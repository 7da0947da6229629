-- The leaf that a check hands back, by its verdict.
use Prim.Native.Nat.{ℕ, ◌<◌}
use native.Mathlib.Omega.{arith}
use mathlib.Core.Path.{◌≡◌, refl}
use mathlib.Core.Bool.{Bool, true, false, cond, true≢false, false≢true}
use mathlib.Core.List.{List}
use lib.Dec.{leb}
use lib.ListN.{length}
use Rattle.wire.specs.Parts.{same}
use Rattle.lms.specs.Layout.{root, leaf, well_formed}
use Rattle.lms.specs.OneTime.{step_count}
use Rattle.lms.specs.Check.{hash_of, top_of, verified_of, checked_by, check_of}
use Rattle.lms.specs.Leaves.{HandsBack, LeafLaw}
use Rattle.lms.proofs.Forms.{formed}

-- A no hands back 0.
no : (signature : List ℕ) (refusal steps : ℕ) → HandsBack signature (record { refusal = refusal; verdict = false; steps = steps; leaf = 0 })
no signature refusal steps = record { good = λ e. absurd (false≢true e); bad = λ _. refl; inside = omega arith }

module _ (key message signature : List ℕ) where
  verified : leaf signature < 1024 → HandsBack signature (verified_of key message signature)
  unfolding verified_of
  verified inside = go (same (top_of key message signature) (root key))
    where
      go : (x : Bool) → HandsBack signature (record { refusal = 0; verdict = x; steps = step_count (hash_of key message signature); leaf = cond x (leaf signature) 0 })
      go true = record { good = λ _. refl; bad = λ e. absurd (true≢false e); inside = inside }
      go false = no signature 0 _

  by : (short form : Bool) → well_formed key signature ≡ form → HandsBack signature (checked_by short form (verified_of key message signature))
  by false form e = no signature 2 0
  by true false e = no signature 0 0
  by true true e = verified (formed key signature e).1.inside

pub leaf_law : LeafLaw
unfolding check_of
leaf_law key message signature = by key message signature (leb (length message) 1024) (well_formed key signature) refl
