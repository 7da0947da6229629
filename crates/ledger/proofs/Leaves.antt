-- The leaves that a channel remembers, against those of its strings.
use mathlib.Core.Path.{◌≡◌, refl, sym, ◌∙◌}
use mathlib.Core.Bool.{Bool, true, false, cond}
use mathlib.Core.List.{List}
use Prim.Native.Nat.{ℕ}
use lib.Dec.{eqb}
use borrow.Author.Tests.{eqb-false, ne_eqb}
use Rattle.machine.specs.Book.{remembered}
use Rattle.ledger.specs.Ledger.{Event, has, event_of, Unspent}
use Rattle.machine.specs.declared.state.Channel.{Channel}
use Rattle.wire.proofs.Laws.{or_neither}
use Rattle.ledger.proofs.Life.{Remembers}

module _ (leaf : ℕ → List ℕ → ℕ) (l : List Event) (c : Channel) (m : Remembers leaf l c.leaves.first c.leaves.second) (d : List ℕ) where
  -- A leaf that is neither that of the 07 nor of the 08 is not remembered.
  pub unremembered : Unspent leaf l d → remembered (leaf 9 d) c ≡ false
  unremembered u = rw (ne_eqb _ _ (go (has 8 l) refl m.of_08), ne_eqb _ _ (λ e. u.of_07 (e ∙ m.of_07)))
    where
      go : (x : Bool) → has 8 l ≡ x → c.leaves.first ≡ cond x (leaf 8 (event_of 8 l).string) (leaf 7 (event_of 7 l).string) → leaf 9 d ≡ c.leaves.first → ⊥
      go true b f e = u.of_08 b (e ∙ f)
      go false b f e = u.of_07 (e ∙ f)

  -- And the other way.
  pub unspent : remembered (leaf 9 d) c ≡ false → Unspent leaf l d
  unspent h =
      let n = or_neither (eqb (leaf 9 d) c.leaves.first) _ h in
      record {
        of_07 = λ e. eqb-false _ _ n.1 (e ∙ sym m.of_07);
        of_08 = λ b e. eqb-false _ _ n.0 (e ∙ sym (m.of_08 ∙ rw b));
      }
