-- What a well-formed key and signature are like, and what `check` answers by that.
use Prim.Native.Nat.{ℕ, ◌<◌, ◌≤◌}
use mathlib.Core.Path.{◌≡◌}
use mathlib.Core.Bool.{true, false, ◌&&◌, and-false}
use mathlib.Core.List.{List}
use lib.Dec.{eqb, ltb}
use lib.ListN.{length}
use borrow.Author.Tests.{eqb-true, ltb-true, eq-eqb, ne_eqb, le-leb}
use Rattle.wire.proofs.Laws.{and_both}
use Rattle.lms.specs.Layout.{key_type, key_one_time_type, leaf, one_time_type, tree_type, right_types, well_formed}
use Rattle.lms.specs.Check.{Formed, verified_of, check_of}

module _ (key signature : List ℕ) where
  pub inside : right_types key signature ≡ true → leaf signature < 1024
  inside h =
      let types = eqb (key_type key) 6 && eqb (key_one_time_type key) 4 && eqb (tree_type signature) 6 && eqb (one_time_type signature) 4 in
      ltb-true _ _ (and_both types (ltb (leaf signature) 1024) h).1

  pub formed : well_formed key signature ≡ true → (length key ≡ 56) × Formed signature
  unfolding well_formed
  formed h =
      let k = eqb (length key) 56 in
      let s = eqb (length signature) 1452 in
      let lengths = (and_both (k && s) (right_types key signature) h).0 in
      let types = (and_both (k && s) (right_types key signature) h).1 in
      (eqb-true _ _ (and_both k s lengths).0, record { size = eqb-true _ _ (and_both k s lengths).1; inside = inside types })

  -- A key or a signature of another length, and those of the right ones.
  pub other_key : (length key ≡ 56 → ⊥) → well_formed key signature ≡ false
  unfolding well_formed
  other_key h = simp (ne_eqb _ _ h)

  pub other_signature : (length signature ≡ 1452 → ⊥) → well_formed key signature ≡ false
  unfolding well_formed
  other_signature h = simp (ne_eqb _ _ h, and-false)

  pub sized : length key ≡ 56 → length signature ≡ 1452 → well_formed key signature ≡ right_types key signature
  unfolding well_formed
  sized k s = simp (eq-eqb _ _ k, eq-eqb _ _ s)

  pub checked_bad : (message : List ℕ) → length message ≤ 1024 → well_formed key signature ≡ false
      → record { refusal = 0; verdict = false; steps = 0; leaf = 0 } ≡ check_of key message signature
  unfolding check_of
  checked_bad message h w = simp (le-leb _ _ h, w)

  pub checked_good : (message : List ℕ) → length message ≤ 1024 → well_formed key signature ≡ true → verified_of key message signature ≡ check_of key message signature
  unfolding check_of
  checked_good message h w = simp (le-leb _ _ h, w)
