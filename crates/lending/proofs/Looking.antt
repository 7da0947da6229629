-- The walks of the calls that only look into a lent struct: of a call on the struct, of one that passes a plain value on beside it, and of one that passes both on to such a call.
-- Of a callee they know only that it meets its contract. Assumes nothing.
use mathlib.Core.Path.{◌≡◌, refl}
use Prim.Native.Nat.{ℕ}
use mathlib.Core.List.{[], ◌∷◌, List}
use lib.Dec.{T}
use seplogic.Ra.Ura.{Ura}
use mir.Syntax.{Callee, Ty, Fn, named, imm, ty_ref, local, value_local, place, deref, copy, rv_opd, assign, call, seq, «return»}
use mir.Val.{Val, vptr, WT, has_ty}
use base.Logic.{SProp, ent, sep, emp, via, fst∗, id⊢}
use base.Fml.{GName, Lft, Share, Fml, ftrue, fsep, flft}
use prog.Model.{Model}
use prog.Routine.{Routine, Env}
use prog.Wp.{Calls, Loops, WpFn, Closed, Tables}
use types.Logic.{Logic, sem}
use contract.Lifetimes.{Shares}
use contract.Monad.{fact}
use contract.Running.{Running, tables}
use types.Kit.{Item, ‵, raw, ⋆, ◌⊛◌, ◌$◌, ◌∵◌, !, qed, by, move, keep, drop, use0, use2, split, join, fsplit, fjoin, feq_i, suffices, frame, done}
use types.Run.{look, look_raw, init, forget, stop, hop, from, load, of_opd, and_then, no_more, assigns, land, returns, enter, alloc1, alloc0, params1, pass1, pass0, free1, free0}
use sound.WpLaws.{FmC, fm_of}
use denote.RattleType.{RattleType, owns, flat}
use denote.Laws.{Is}
use denote.Memory.{hidden_shr, pointee}
use denote.Ref.{Bor, ShrRef, shr_vals, shr_Tells}
use denote.Signature.{types_at, plain, shr_ref_to}
use denote.Steps.{said, shuts, nothing}
use denote.Triple.Entry.{on_entry}
use denote.Triple.Spec.{triple_of}
use denote.Triple.Statement.{Contract, Triple}
use denote.Triple.Call.{calls_at}
use denote.Triple.Clauses.{Ended, Clauses, closing}
use denote.Triple.Walked.{says, Stays, stay_none, stay_none_ref, walk_of, Goes-none, Goes-none_ref, ends_at, walked}
use denote.Exit.{yes}
use Rattle.lending.proofs.Lent.{Lent, Row, τ, Held, held_val, IsHeld, held_typed, owns_held, looks_held, Passed, passed_vals, OwnPassed, makes_passed, gave, answered, hands_back, by_call, by_walk}

-- What a form by value returns: its machine type, and that what stands for a result is of it.
pub record Returned (R : RattleType) : Type 2 where
  pub ty : Ty
  pub typed : {M : Type 1} {𝓤 : Ura M} (𝓛 : Logic 𝓤) → (r : R.Denot) (w : Val) → Is R r (w ∷ []) → T (has_ty ty w) × WT w

-- What a walk has at its end: the token, the lent struct and the result.
abbrev Left : (L : Lent) {M : Type 1} (𝓤 : Ura M) (R : RattleType) → Lft → Share → ℕ → ℕ → GName → Held L → R.Denot → Val → List (Item 𝓤)
Left L 𝓤 R κ q b o γ h r w = ‵ (flft κ q) ∷ ‵ (hidden_shr (Row L) κ h b o) ∷ ‵ (R.own_val r (w ∷ [])) ∷ []

-- F is what the values own that are passed on: it is had for nothing, so what the callee asks for is had, and what the call gives back.
module _ (L : Lent) {M : Type 1} {𝓤 : Ura M} (𝓛 : Logic 𝓤) (F : Fml) (free : ent 𝓤 (emp 𝓤) (sem 𝓛 F)) (h : Held L) where
  open 𝓛 use {A}

  goes_in : IsHeld L h → ent 𝓤 (⋆ 𝓛 []) (sep 𝓤 (sep 𝓤 (emp 𝓤) (sem 𝓛 (fsep ((Row L).own_val h (held_val L h ∷ [])) F))) (emp 𝓤))
  goes_in was = qed 𝓛 [] ∵ use0 𝓛 (‵ F) free $ owns_held L ! h was $ fjoin ! $ nothing ! $ join ! $ nothing ! $ move ! (1 ∷ 0 ∷ []) $ frame ! $ done !

  gives_back : (R : RattleType) (κ : Lft) (q : Share) (b o : ℕ) (γ : GName) (r : R.Denot) (w : Val)
      → ent 𝓤 (⋆ 𝓛 (Left L 𝓤 R κ q b o γ h r w)) (sep 𝓤 (sep 𝓤 (A.lft κ q) (emp 𝓤)) (sep 𝓤 (sem 𝓛 (fsep ((ShrRef (named 0) κ (Row L)).own_val (record { ref_ptr = (b, o); now = h }) (vptr b o ∷ [])) F)) (sem 𝓛 (R.own_val r (w ∷ [])))))
  gives_back R κ q b o γ r w =
      qed 𝓛 (Left L 𝓤 R κ q b o γ h r w) ∵ nothing ! $ move ! (1 ∷ 0 ∷ []) $ join ! $ frame ! $ feq_i ! (List Val) (vptr b o ∷ []) (vptr b o ∷ []) refl $ fjoin ! $ use0 𝓛 (‵ F) free $ move ! (1 ∷ 0 ∷ []) $ fjoin ! $ frame ! $ done !

-- A call that lends a struct to a form by value; `Says` is what both promise of the struct and a result.
module _ (L : Lent) {R : RattleType} (O : Returned R) (Says : Held L → R.Denot → Type 0) (callee : Callee) where
  -- The form by value: its contract.
  abbrev by_value : Ended
  by_value = record { signature = record { lifetimes = 0; outlives = []; params = plain (λ _. Row L) ∷ []; result = plain (λ _. R) }; kept = (yes, tt) }

  abbrev by_value_says : {M : Type 1} (𝓤 : Ura M) → Clauses 𝓤 by_value
  by_value_says 𝓤 κs a = record { ghost = Unit {0}; requires = λ _. emp 𝓤; ensures = λ _ r _. fact 𝓤 (Says a.0 r) }

  abbrev ByValue : {M : Type 1} {𝓤 : Ura M} (𝓛 : Logic 𝓤) → Contract 𝓤
  ByValue {𝓤 = 𝓤} 𝓛 = triple_of 𝓛 by_value.signature (closing 𝓛 by_value (by_value_says 𝓤))

  -- The call on a lent struct: its contract and its code.
  abbrev looking : Ended
  looking = record { signature = record { lifetimes = 1; outlives = []; params = shr_ref_to (0 ∷ []) tt (plain (λ _. Row L)) ∷ []; result = plain (λ _. R) }; kept = (yes, tt) }

  abbrev looking_says : {M : Type 1} (𝓤 : Ura M) → Clauses 𝓤 looking
  looking_says 𝓤 κs a = record { ghost = Unit {0}; requires = λ _. emp 𝓤; ensures = λ _ r _. fact 𝓤 (Says a.0.now r) }

  abbrev looking_code : Fn
  looking_code = record {
    lifetimes = 1;
    outlives = [];
    ty_params = [];
    givens = 0;
    params = 1;
    locals = local O.ty value_local ∷ local (ty_ref (named 0) imm (pointee (Row L).written)) value_local ∷ local (τ L) value_local ∷ [];
    body = seq (assign (place 2 []) (rv_opd (copy (place 1 (deref (τ L) ∷ []))))) (seq (call callee (copy (place 2 []) ∷ []) (place 0 [])) «return»);
  }

  abbrev stayed : Stays looking.signature.params looking.kept
  stayed = (stay_none_ref (0 ∷ []) tt (plain (λ _. Row L)) yes, tt)

  module _ {M : Type 1} {𝓤 : Ura M} (𝓛 : Logic 𝓤) (κ : Lft) (q : Share) (b o : ℕ) (γ : GName) (h : Held L) where
    -- The walk's triple, and what it and the callee's contract are taken at.
    open 𝓛 use {H}

    abbrev Walk : Contract 𝓤
    Walk = walk_of 𝓛 looking stayed (looking_says 𝓤)

    abbrev lent : Walk.Ghost
    lent = (((κ, tt), (q, tt), tt, (record { ref_ptr = (b, o); now = h }, tt), (vptr b o ∷ [], tt)), tt)

    abbrev copied : (ByValue 𝓛).Ghost
    copied = ((tt, tt, tt, (h, tt), (held_val L h ∷ [], tt)), tt)

    exits : (r : R.Denot) (w : Val) → Says h r → ent 𝓤 (⋆ 𝓛 (Left L 𝓤 R κ q b o γ h r w)) (Walk.post lent w)
    exits r w e =
        qed 𝓛 (Left L 𝓤 R κ q b o γ h r w) ∵ suffices ! _ (ends_at 𝓛 looking stayed (looking_says 𝓤) lent w r (tt, tt) (tt, tt)) $ says ! e $ by ! (gives_back L 𝓛 ftrue (id⊢ 𝓤 (emp 𝓤)) h R κ q b o γ r w)

    module _ (C : Calls 𝓤 H) (Λ : Loops 𝓤 H) (fm : FmC 𝓤 H 𝓛.laws C) (known : Triple 𝓤 (C callee) (ByValue 𝓛)) where
      walk : ent 𝓤 (on_entry 𝓛 looking.signature (κ, tt) (q, tt) lent.0.3 lent.0.4) (WpFn 𝓤 H C Λ looking_code (vptr b o ∷ []) (Walk.post lent))
      walk =
          qed 𝓛 ((‵ (flft κ q) ⊛ ‵ ftrue) ∷ ‵ (owns (ShrRef (named 0) κ (Row L) ∷ []) lent.0.3 lent.0.4) ∷ []) ∵ enter ! C Λ looking_code (vptr b o ∷ []) _ $
          alloc1 ! (λ l₀. alloc1 ! (λ l₁. alloc1 ! (λ l₂. alloc0 ! $ params1 ! $ pass1 ! (init ! 2 refl (tt, tt)) $ pass0 ! $
          move ! (7 ∷ []) $ fsplit ! $ fsplit ! $ drop ! $ move ! (8 ∷ []) $ split ! $ move ! (2 ∷ 0 ∷ []) $
          looks_held L ! tt h b o (λ q₁ was.
          -- The context is [a share of the struct's cell; what it owns; what shuts it; the fractured borrow; true; true; _2; …; _1; …; room for _0; …].
          assigns ! (of_opd ! (load ! (from ! (hop ! (look ! 8 refl) (stop !))) (look_raw ! 0 refl))) (from ! (stop !)) (init ! 6 refl (held_typed L 𝓛 h was)) $
          shuts ! tt (Row L) q₁ h (held_val L h ∷ []) b o $
          -- The context is [the token; the fractured borrow; true; true; _2; …; _1; …; room for _0; …].
          use0 𝓛 (raw ((ByValue 𝓛).pre copied)) (goes_in L 𝓛 ftrue (id⊢ 𝓤 (emp 𝓤)) h was) $
          calls_at ! fm (ByValue 𝓛) known copied (and_then ! (load ! (from ! (stop !)) (look ! 5 refl)) (no_more !)) (λ w.
          answered ! tt by_value (by_value_says 𝓤) copied w (λ r. Says h r) (λ r e. id⊢ 𝓤 (fact 𝓤 (Says h r))) (λ r e is.
          -- The context is [what the result owns; true; the token; the fractured borrow; true; true; _2; …; _1; …; room for _0; …].
          land ! (from ! (stop !)) (init ! 10 refl (O.typed 𝓛 r w is)) $
          returns ! (look ! 10 refl) $ forget ! 6 refl $ forget ! 8 refl $ forget ! 10 refl $
          move ! (10 ∷ 11 ∷ []) $ free1 ! $ move ! (8 ∷ 9 ∷ []) $ free1 ! $ move ! (6 ∷ 7 ∷ []) $ free1 ! $ free0 ! $
          keep ! (2 ∷ 3 ∷ 0 ∷ []) $ by ! (exits r w e)))))))

  -- It meets its contract where the form by value meets its own.
  module _ {M : Type 1} {𝓤 : Ura M} (𝓛 : Logic 𝓤) (𝓜 : Model 𝓤 𝓛.H) (𝓡 : Running 𝓤 𝓛.H 𝓜) (env : Env) (key : Callee) where
    open 𝓛 use {H}

    pub looking_meets : Closed 𝓤 H (tables 𝓤 H 𝓜 𝓡 env).C (tables 𝓤 H 𝓜 𝓡 env).Λ key looking_code → (r : Routine) → env callee ≡ r → Triple 𝓤 (𝓡.run r) (ByValue 𝓛)
        → Triple 𝓤 ((tables 𝓤 H 𝓜 𝓡 env).C key) (triple_of 𝓛 looking.signature (closing 𝓛 looking (looking_says 𝓤)))
    looking_meets closed =
        by_walk 𝓛 𝓜 𝓡 env key callee looking_code closed (ByValue 𝓛) looking stayed (looking_says 𝓤) (Goes-none_ref 𝓛 1 (0 ∷ []) tt (plain (λ _. Row L)) yes, tt) (λ C Λ fm known.
        walked 𝓛 looking stayed (looking_says 𝓤) (WpFn 𝓤 H C Λ looking_code) (λ κs. (shr_vals, tt)) (λ κs. (shr_Tells (named 0) κs.0 (Row L), tt))
        (λ κs qs bounds a g are. via 𝓤 _ (fst∗ 𝓤 _ (emp 𝓤)) (walk 𝓛 κs.0 qs.0 a.0.ref_ptr.0 a.0.ref_ptr.1 0 a.0.now C Λ fm known)))

-- A call that lends a struct to a form by value, and passes a plain value on.
module _ (L : Lent) {R P : RattleType} (O : Returned R) (D : Passed P) (f : Held L → P.Denot → R.Denot) (callee : Callee) where
  -- The form by value: its contract.
  abbrev by_value_at : Ended
  by_value_at = record { signature = record { lifetimes = 0; outlives = []; params = plain (λ _. Row L) ∷ plain (λ _. P) ∷ []; result = plain (λ _. R) }; kept = (yes, (yes, tt)) }

  abbrev by_value_at_says : {M : Type 1} (𝓤 : Ura M) → Clauses 𝓤 by_value_at
  by_value_at_says 𝓤 κs a = record { ghost = Unit {0}; requires = λ _. emp 𝓤; ensures = λ _ r _. fact 𝓤 (r ≡ f a.0 a.1.0) }

  abbrev ByValueAt : {M : Type 1} {𝓤 : Ura M} (𝓛 : Logic 𝓤) → Contract 𝓤
  ByValueAt {𝓤 = 𝓤} 𝓛 = triple_of 𝓛 by_value_at.signature (closing 𝓛 by_value_at (by_value_at_says 𝓤))

  -- The call on a lent struct: its contract and its code.
  abbrev looking_at : Ended
  looking_at = record { signature = record { lifetimes = 1; outlives = []; params = shr_ref_to (0 ∷ []) tt (plain (λ _. Row L)) ∷ plain (λ _. P) ∷ []; result = plain (λ _. R) }; kept = (yes, (yes, tt)) }

  abbrev looking_at_says : {M : Type 1} (𝓤 : Ura M) → Clauses 𝓤 looking_at
  looking_at_says 𝓤 κs a = record { ghost = Unit {0}; requires = λ _. emp 𝓤; ensures = λ _ r _. fact 𝓤 (r ≡ f a.0.now a.1.0) }

  abbrev looking_at_code : Fn
  looking_at_code = record {
    lifetimes = 1;
    outlives = [];
    ty_params = [];
    givens = 0;
    params = 2;
    locals = local O.ty value_local ∷ local (ty_ref (named 0) imm (pointee (Row L).written)) value_local ∷ local D.ty value_local ∷ local (τ L) value_local ∷ [];
    body = seq (assign (place 3 []) (rv_opd (copy (place 1 (deref (τ L) ∷ []))))) (seq (call callee (copy (place 3 []) ∷ copy (place 2 []) ∷ []) (place 0 [])) «return»);
  }

  abbrev stayed_at : Stays looking_at.signature.params looking_at.kept
  stayed_at = (stay_none_ref (0 ∷ []) tt (plain (λ _. Row L)) yes, (stay_none (λ _. P) yes, tt))

  module _ {M : Type 1} {𝓤 : Ura M} (𝓛 : Logic 𝓤) (κ : Lft) (q : Share) (b o : ℕ) (γ : GName) (h : Held L) (v : P.Denot) (v-is : Is P v (D.val v ∷ [])) where
    -- The walk's triple, and what it and the callee's contract are taken at.
    open 𝓛 use {H}

    abbrev WalkAt : Contract 𝓤
    WalkAt = walk_of 𝓛 looking_at stayed_at (looking_at_says 𝓤)

    abbrev lent_at : WalkAt.Ghost
    lent_at = (((κ, tt), (q, tt), tt, (record { ref_ptr = (b, o); now = h }, (v, tt)), (vptr b o ∷ [], (D.val v ∷ [], tt))), tt)

    abbrev copied_at : (ByValueAt 𝓛).Ghost
    copied_at = ((tt, tt, tt, (h, (v, tt)), (held_val L h ∷ [], (D.val v ∷ [], tt))), tt)

    exits_at : (r : R.Denot) (w : Val) → r ≡ f h v → ent 𝓤 (⋆ 𝓛 (Left L 𝓤 R κ q b o γ h r w)) (WalkAt.post lent_at w)
    exits_at r w e =
        qed 𝓛 (Left L 𝓤 R κ q b o γ h r w) ∵ suffices ! _ (ends_at 𝓛 looking_at stayed_at (looking_at_says 𝓤) lent_at w r (tt, (D.last v, tt)) (tt, (tt, tt))) $ says ! e $
        by ! (gives_back L 𝓛 (OwnPassed D v) (makes_passed 𝓛 D v v-is) h R κ q b o γ r w)

    module _ (C : Calls 𝓤 H) (Λ : Loops 𝓤 H) (fm : FmC 𝓤 H 𝓛.laws C) (known : Triple 𝓤 (C callee) (ByValueAt 𝓛)) where
      walk_at : ent 𝓤 (on_entry 𝓛 looking_at.signature (κ, tt) (q, tt) lent_at.0.3 lent_at.0.4) (WpFn 𝓤 H C Λ looking_at_code (vptr b o ∷ D.val v ∷ []) (WalkAt.post lent_at))
      walk_at =
          qed 𝓛 ((‵ (flft κ q) ⊛ ‵ ftrue) ∷ ‵ (owns (ShrRef (named 0) κ (Row L) ∷ P ∷ []) lent_at.0.3 lent_at.0.4) ∷ []) ∵ enter ! C Λ looking_at_code (vptr b o ∷ D.val v ∷ []) _ $
          alloc1 ! (λ l₀. alloc1 ! (λ l₁. alloc1 ! (λ l₂. alloc1 ! (λ l₃. alloc0 ! $ params1 ! $ pass1 ! (init ! 4 refl (tt, tt)) $ pass1 ! (init ! 2 refl (D.typed 𝓛 v v-is)) $ pass0 ! $
          move ! (9 ∷ []) $ fsplit ! $ fsplit ! $ drop ! $ move ! (10 ∷ []) $ split ! $ move ! (2 ∷ 0 ∷ []) $
          looks_held L ! tt h b o (λ q₁ was.
          -- The context is [a share of the struct's cell; what it owns; what shuts it; the fractured borrow; true; what the value owns; _3; …; _2; …; _1; …; room for _0; …].
          assigns ! (of_opd ! (load ! (from ! (hop ! (look ! 10 refl) (stop !))) (look_raw ! 0 refl))) (from ! (stop !)) (init ! 6 refl (held_typed L 𝓛 h was)) $
          shuts ! tt (Row L) q₁ h (held_val L h ∷ []) b o $
          -- The context is [the token; the fractured borrow; true; what the value owns; _3; …; _2; …; _1; …; room for _0; …].
          use0 𝓛 (raw ((ByValueAt 𝓛).pre copied_at)) (goes_in L 𝓛 (OwnPassed D v) (makes_passed 𝓛 D v v-is) h was) $
          calls_at ! fm (ByValueAt 𝓛) known copied_at (and_then ! (load ! (from ! (stop !)) (look ! 5 refl)) (and_then ! (load ! (from ! (stop !)) (look ! 7 refl)) (no_more !))) (λ w.
          answered ! tt by_value_at (by_value_at_says 𝓤) copied_at w (λ r. r ≡ f h v) (λ r e. id⊢ 𝓤 (fact 𝓤 (r ≡ f h v))) (λ r e is.
          -- The context is [what the result owns; true; the token; the fractured borrow; true; what the value owns; _3; …; _2; …; _1; …; room for _0; …].
          land ! (from ! (stop !)) (init ! 12 refl (O.typed 𝓛 r w is)) $
          returns ! (look ! 12 refl) $ forget ! 6 refl $ forget ! 8 refl $ forget ! 10 refl $ forget ! 12 refl $
          move ! (12 ∷ 13 ∷ []) $ free1 ! $ move ! (10 ∷ 11 ∷ []) $ free1 ! $ move ! (8 ∷ 9 ∷ []) $ free1 ! $ move ! (6 ∷ 7 ∷ []) $ free1 ! $ free0 ! $
          keep ! (2 ∷ 3 ∷ 0 ∷ []) $ by ! (exits_at r w e))))))))

  -- It meets its contract where the form by value meets its own.
  module _ {M : Type 1} {𝓤 : Ura M} (𝓛 : Logic 𝓤) (𝓜 : Model 𝓤 𝓛.H) (𝓡 : Running 𝓤 𝓛.H 𝓜) (env : Env) (key : Callee) where
    open 𝓛 use {H}

    pub looking_at_meets : Closed 𝓤 H (tables 𝓤 H 𝓜 𝓡 env).C (tables 𝓤 H 𝓜 𝓡 env).Λ key looking_at_code → (r : Routine) → env callee ≡ r → Triple 𝓤 (𝓡.run r) (ByValueAt 𝓛)
        → Triple 𝓤 ((tables 𝓤 H 𝓜 𝓡 env).C key) (triple_of 𝓛 looking_at.signature (closing 𝓛 looking_at (looking_at_says 𝓤)))
    looking_at_meets closed =
        by_walk 𝓛 𝓜 𝓡 env key callee looking_at_code closed (ByValueAt 𝓛) looking_at stayed_at (looking_at_says 𝓤)
        (Goes-none_ref 𝓛 1 (0 ∷ []) tt (plain (λ _. Row L)) yes, (Goes-none 𝓛 1 (λ _. P) yes (λ κs. D.still), tt)) (λ C Λ fm known.
        walked 𝓛 looking_at stayed_at (looking_at_says 𝓤) (WpFn 𝓤 H C Λ looking_at_code) (λ κs. (shr_vals, (passed_vals D, tt))) (λ κs. (shr_Tells (named 0) κs.0 (Row L), (D.tells, tt)))
        (λ κs qs bounds a g are. via 𝓤 _ (fst∗ 𝓤 _ (emp 𝓤)) (walk_at 𝓛 κs.0 qs.0 a.0.ref_ptr.0 a.0.ref_ptr.1 0 a.0.now a.1.0 are.1.0 C Λ fm known)))

  -- A call that passes both on to such a call: what that gives is handed back.
  abbrev LookingAt : {M : Type 1} {𝓤 : Ura M} (𝓛 : Logic 𝓤) → Contract 𝓤
  LookingAt {𝓤 = 𝓤} 𝓛 = triple_of 𝓛 looking_at.signature (closing 𝓛 looking_at (looking_at_says 𝓤))

  abbrev passing_code : Fn
  passing_code = record {
    lifetimes = 1;
    outlives = [];
    ty_params = [];
    givens = 0;
    params = 2;
    locals = local O.ty value_local ∷ local (ty_ref (named 0) imm (pointee (Row L).written)) value_local ∷ local D.ty value_local ∷ [];
    body = seq (call callee (copy (place 1 []) ∷ copy (place 2 []) ∷ []) (place 0 [])) «return»;
  }

  module _ {M : Type 1} {𝓤 : Ura M} (𝓛 : Logic 𝓤) (𝓣 : Tables 𝓤 𝓛.H) (known : Triple 𝓤 (𝓣.C callee) (LookingAt 𝓛)) where
    open 𝓛 use {H}

    module _ (κ : Lft) (qs : Shares 1) (b : Bor (Held L)) (v : P.Denot) where
      abbrev passed : (LookingAt 𝓛).Ghost
      passed = (((κ, tt), qs, tt, (b, (v, tt)), (vptr b.ref_ptr.0 b.ref_ptr.1 ∷ [], (D.val v ∷ [], tt))), tt)

      abbrev Got : SProp 𝓤
      Got = on_entry 𝓛 looking_at.signature (κ, tt) qs passed.0.3 passed.0.4

      passes : Is P v (D.val v ∷ []) → ent 𝓤 Got (WpFn 𝓤 H 𝓣.C 𝓣.Λ passing_code (vptr b.ref_ptr.0 b.ref_ptr.1 ∷ D.val v ∷ []) ((LookingAt 𝓛).post passed))
      passes v-is =
          qed 𝓛 (raw Got ∷ []) ∵ enter ! 𝓣.C 𝓣.Λ passing_code (vptr b.ref_ptr.0 b.ref_ptr.1 ∷ D.val v ∷ []) _ $
          alloc1 ! (λ l₀. alloc1 ! (λ l₁. alloc1 ! (λ l₂. alloc0 ! $ params1 ! $ pass1 ! (init ! 2 refl (tt, tt)) $ pass1 ! (init ! 0 refl (D.typed 𝓛 v v-is)) $ pass0 ! $
          -- The context is [_2; …; _1; …; room for _0; …; what the call got].
          nothing ! $ move ! (7 ∷ 0 ∷ []) $ use2 𝓛 (raw ((LookingAt 𝓛).pre passed)) (id⊢ 𝓤 _) $
          calls_at ! (fm_of 𝓤 H 𝓛.laws 𝓣) (LookingAt 𝓛) known passed (and_then ! (load ! (from ! (stop !)) (look ! 3 refl)) (and_then ! (load ! (from ! (stop !)) (look ! 1 refl)) (no_more !))) (λ w.
          gave ! tt looking_at (looking_at_says 𝓤) passed w (λ r is.
          -- The context is [what the result owns; the tokens; what the callee says; _2; …; _1; …; room for _0; …].
          land ! (from ! (stop !)) (init ! 7 refl (O.typed 𝓛 r w is)) $
          returns ! (look ! 7 refl) $ forget ! 3 refl $ forget ! 5 refl $ forget ! 7 refl $
          move ! (7 ∷ 8 ∷ []) $ free1 ! $ move ! (5 ∷ 6 ∷ []) $ free1 ! $ move ! (3 ∷ 4 ∷ []) $ free1 ! $ free0 ! $
          by ! (hands_back 𝓛 looking_at (looking_at_says 𝓤) passed w r))))))

    passes_on : Triple 𝓤 (WpFn 𝓤 H 𝓣.C 𝓣.Λ passing_code) (LookingAt 𝓛)
    passes_on y =
        via 𝓤 _ (fst∗ 𝓤 _ (emp 𝓤))
        (said 𝓛 looking_at.signature y.0.0 y.0.1 (shr_vals, (passed_vals D, tt)) (shr_Tells (named 0) y.0.0.0 (Row L), (D.tells, tt)) y.0.3
        (λ vs. WpFn 𝓤 H 𝓣.C 𝓣.Λ passing_code (flat (types_at looking_at.signature.params y.0.0) vs) ((LookingAt 𝓛).post y)) y.0.4
        (λ are. passes y.0.0.0 y.0.1 y.0.3.0 y.0.3.1.0 are.1.0))

  -- It meets the same contract.
  module _ {M : Type 1} {𝓤 : Ura M} (𝓛 : Logic 𝓤) (𝓜 : Model 𝓤 𝓛.H) (𝓡 : Running 𝓤 𝓛.H 𝓜) (env : Env) (key : Callee) where
    open 𝓛 use {H}

    pub passed_at_meets : Closed 𝓤 H (tables 𝓤 H 𝓜 𝓡 env).C (tables 𝓤 H 𝓜 𝓡 env).Λ key passing_code → (r : Routine) → env callee ≡ r → Triple 𝓤 (𝓡.run r) (LookingAt 𝓛) → Triple 𝓤 ((tables 𝓤 H 𝓜 𝓡 env).C key) (LookingAt 𝓛)
    passed_at_meets closed = by_call 𝓛 𝓜 𝓡 env key callee passing_code closed (LookingAt 𝓛) (LookingAt 𝓛) (passes_on 𝓛)
