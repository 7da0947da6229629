-- What `array::from_fn` gives by a closure that stays as it is.
use Rattle.std.proofs.Common.{◌≡◌, refl, ap, sym, subst, ◌∙◌, ℕ, zero, suc, ◌+◌, ◌<◌, List, get_or, arith}
use Rattle.std.specs.Array.{IsFromFnResultFrom, IsFromFnResult}
use Rattle.std.specs.Fn.{Called}
use denote.Param.Members.{Mut}

module _ {F B : Type 0} (g : Mut F (ℕ × Unit {0}) B) (f : F) (want : ℕ → B) (ys : List B) (d : B)
    (pure : (i : ℕ) (y : B) (q : F) → Called g f (i, tt) y q → (q ≡ f) × (y ≡ want i)) where
  made_from : (n i : ℕ) (p : F) → p ≡ f → IsFromFnResultFrom g p ys i n → (k : ℕ) → k < n → get_or ys (i + k) d ≡ want (i + k)
  made_from zero i p e made k h = absurd (omega arith)
  made_from (suc n) i p e made zero h =
      let given = pure i _ _ (subst (λ (x : F). Called g x (i, tt) made.1 made.0) e made.3) in
      let z : i + 0 ≡ i = omega arith in
      ap (λ (j : ℕ). get_or ys j d) z ∙ made.2.1 d ∙ given.1 ∙ ap want (sym z)
  made_from (suc n) i p e made (suc k) h =
      let given = pure i _ _ (subst (λ (x : F). Called g x (i, tt) made.1 made.0) e made.3) in
      let s : i + suc k ≡ i + 1 + k = omega arith in
      ap (λ (j : ℕ). get_or ys j d) s ∙ made_from n (i + 1) made.0 given.0 made.4 k (omega arith) ∙ ap want (sym s)

  pub made_at : (n : ℕ) → IsFromFnResult g f ys n → (k : ℕ) → k < n → get_or ys k d ≡ want k
  made_at n made k h =
      let z : 0 + k ≡ k = omega arith in
      subst (λ (j : ℕ). get_or ys j d ≡ want j) z (made_from n 0 f refl made.each k h)
