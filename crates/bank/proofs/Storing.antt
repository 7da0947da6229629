-- The payments of a run, stored one after another, and what collecting answers.
use Prim.Native.Nat.{ℕ, ◌+◌, ◌≤◌, ◌<◌}
use native.Mathlib.Nat.{add-zero}
use native.Mathlib.Omega.{arith}
use mathlib.Core.Path.{◌≡◌, refl, ap, ◌∙◌}
use mathlib.Core.List.{List, [], ◌∷◌, map}
use borrow.Author.Tests.{le-leb, lt-leb}
use lib.ListN.{length, set, length-map}
use Rattle.std.specs.Iterator.{YieldsFirst, Drains}
use Rattle.std.proofs.lemmas.Iterator.Consumers.{count_from_yields_List, YieldsList-from_first}
use Rattle.wire.specs.Parts.{pasted}
use Rattle.wire.proofs.Pasting.{pasted_none, pasted_one, Towards, at_first, and_then, at_last}
use Rattle.payments.specs.declared.lists.Counted.{Counted}
use Rattle.payments.specs.declared.lists.Payment.{Payment}
use Rattle.payments.specs.Payments.{listed}
use Rattle.payments.specs.Answers.{accepted, refused}
use Rattle.journal.specs.declared.lines.Line.{Line}
use Rattle.bank.specs.declared.paid.Payments.{Payments}
use Rattle.bank.specs.Left.{left}
use Rattle.bank.specs.Collected.{collected}
use Rattle.bank.specs.Answers.{collect_of}
use Rattle.bank.proofs.Answering.{collect_0, collect_18}

set_first : {A : Type 0} (d : List A) (at : ℕ) (e : A) → at < length d → set d at e ≡ pasted d at (e ∷ [])
set_first d at e h = rw (pasted_none d at, add-zero) at (pasted_one d at [] e (omega arith))

module _ (cs : List ℕ) (ls : List Line) (list : List (List ℕ)) where
  abbrev every : List Payment
  every = collected cs ls

  -- As many as the iterator counts.
  pub counted : (p : Payments) (n : ℕ) → (xs : List Payment) × Drains (YieldsFirst left) p xs × (n ≡ length xs) → left p ≡ every → n ≡ length every
  counted p n d e = count_from_yields_List p n d (YieldsList-from_first (λ x. x) left _ e)

  -- The list with some payments stored, and the others left for the places from `at` on.
  pub record Stored (out : List (List ℕ)) (at : ℕ) (others : List Payment) : Type 0 where
    pub len : length out ≡ length list
    pub towards : Towards list 0 (map listed every) out at (map listed others)

  pub none_stored : (at : ℕ) (others : List Payment) → at ≡ 0 → others ≡ every → Stored list at others
  none_stored at others e f = rw (e, f) (record { len = refl; towards = at_first list 0 (map listed every) })

  -- What collecting answers, and the list after it.
  abbrev pub Collects : Counted → List (List ℕ) → Type 0
  Collects a out = (a ≡ (collect_of cs ls list).answer) × (out ≡ (collect_of cs ls list).list)

  pub too_many : length list < length every → Collects (refused 18) list
  too_many h = rw (collect_18 cs ls list (lt-leb _ _ h)) (refl, refl)

  module _ (room : length every ≤ length list) where
    -- A payment has its place.
    pub has_place : (out : List (List ℕ)) (at : ℕ) (p : Payment) (others : List Payment) → Stored out at (p ∷ others) → at < length out
    has_place out at p others s = omega (arith, s.len, s.towards.ends, length-map every listed)

    stored : (out : List (List ℕ)) (at : ℕ) (p : Payment) (others : List Payment) → Stored out at (p ∷ others) → Stored (set out at (listed p)) (at + 1) others
    stored out at p others s =
        let h = has_place out at p others s in
        let k = and_then list 0 (map listed every) out (set out at (listed p)) (map listed (p ∷ others)) (listed p ∷ []) (map listed others) at (at + 1) refl (set_first out at (listed p) h) refl (omega (arith, h)) s.towards in
        record { len = k.0 ∙ s.len; towards = k.1 }

    pub store : (out : List (List ℕ)) (at i next : ℕ) (e : List ℕ) (p : Payment) (left others : List Payment) → Stored out at left → left ≡ p ∷ others → i ≡ at → next ≡ at + 1 → e ≡ listed p → Stored (set out i e) next others
    store out at i next e p left others s l q n f = rw (q, n, f) (stored out at p others (rw l at s))

    pub all_stored : (out : List (List ℕ)) (at n : ℕ) (left : List Payment) → Stored out at left → left ≡ [] → n ≡ length every → Collects (accepted n) out
    all_stored out at n left s l e = let t = rw l at s in rw (collect_0 cs ls list (le-leb _ _ room)) (ap accepted e, (at_last list 0 (map listed every) out at t.towards).0)
