-- The walk of `Lending` with two slices of bytes.
-- Of the callee it knows only that it meets its contract. Assumes nothing.
use mathlib.Core.Path.{◌≡◌, refl}
use Prim.Native.Nat.{ℕ}
use mathlib.Core.List.{[], ◌∷◌, List}
use seplogic.Ra.Ura.{Ura}
use base.Fraction.{full_share}
use mir.Syntax.{Callee, Fn, named, imm, mut, ty_ref, local, value_local, place, deref, field, copy, rv_opd, assign, call, seq, «return»}
use mir.Val.{Val, vptr}
use base.Logic.{ent, emp, via, fst∗, id⊢}
use base.Fml.{GName, Lft, Share, Fml, ftrue, fat, flft, fobs, fbor}
use prog.Model.{Model}
use prog.Routine.{Routine, Env}
use prog.Wp.{Calls, Loops, WpFn, Closed}
use types.Logic.{Logic}
use contract.Lifetimes.{AllOutlive}
use contract.Monad.{fact}
use contract.Running.{Running, tables}
use types.Kit.{Item, ‵, raw, ⋆, ◌⊛◌, ◌$◌, ◌∵◌, !, qed, by, move, keep, drop, use3, split, join, rewrite, fsplit, fsplit3, fjoin, fjoin3, feq_i, suffices, frame, done}
use types.Run.{look, look_raw, init, store_raw, forget, stop, hop, fld, from, load, of_opd, and_then, no_more, assigns, land, returns, enter, alloc1, alloc0, params1, pass1, pass0, free1, free0}
use types.Part.{whole, sub, look_in}
use types.SemTy.{Body}
use sound.WpLaws.{FmC}
use denote.RattleType.{RattleType, owns}
use denote.Laws.{Is}
use denote.Memory.{mem, pointee}
use denote.Builtin.{u8}
use denote.Ref.{Bor, MutRef, mut_vals, mut_Tells}
use denote.Slice.{slice_ty, ShrSlice, shr_slice_vals, shr_slice_Tells, shr_slice_Lawful}
use denote.Signature.{plain, mut_ref_to, shr_slice_of}
use denote.Steps.{opens, closes, owned, nothing}
use denote.Triple.Entry.{on_entry}
use denote.Triple.Spec.{triple_of}
use denote.Triple.Statement.{Contract, Triple}
use denote.Triple.Call.{calls_at}
use denote.Triple.Clauses.{Ended, Clauses, closing}
use denote.Triple.Walked.{says, Stays, stay_ref, stay_none_slice, walk_of, AllGo, Goes-ref, Goes-none_slice, Walks, ends_at, walked}
use denote.Exit.{yes}
use Rattle.lending.proofs.Lent.{Lent, Row, τ, Held, held_val, IsHeld, held_typed, owns_held, spells_held, own_slice_val, OwnSlice, slice_twice, answered, by_walk}
use Rattle.lending.proofs.Lending.{Outcome, σ, Wrote}

-- A call that lends a struct and two slices of bytes to a form by value, and writes the struct that it returns over the lent one.
module _ (L : Lent) {S R : RattleType} (O : Outcome L S R) (f : Held L → List ℕ → List ℕ → S.Denot) (callee : Callee) where
  -- The form by value: its contract.
  abbrev by_value : Ended
  by_value = record {
    signature = record { lifetimes = 2; outlives = []; params = plain (λ _. Row L) ∷ shr_slice_of (0 ∷ []) tt (plain (λ _. u8)) ∷ shr_slice_of (1 ∷ []) tt (plain (λ _. u8)) ∷ []; result = plain (λ _. S) };
    kept = (yes, (yes, (yes, tt)));
  }

  abbrev by_value_says : {M : Type 1} (𝓤 : Ura M) → Clauses 𝓤 by_value
  by_value_says 𝓤 κs a = record { ghost = Unit {0}; requires = λ _. emp 𝓤; ensures = λ _ r _. fact 𝓤 (r ≡ f a.0 a.1.0.now a.1.1.0.now) }

  abbrev ByValue : {M : Type 1} {𝓤 : Ura M} (𝓛 : Logic 𝓤) → Contract 𝓤
  ByValue {𝓤 = 𝓤} 𝓛 = triple_of 𝓛 by_value.signature (closing 𝓛 by_value (by_value_says 𝓤))

  -- The call on a lent struct: its contract and its code.
  abbrev lent : Ended
  lent = record {
    signature = record { lifetimes = 3; outlives = []; params = mut_ref_to (0 ∷ []) tt (plain (λ _. Row L)) ∷ shr_slice_of (1 ∷ []) tt (plain (λ _. u8)) ∷ shr_slice_of (2 ∷ []) tt (plain (λ _. u8)) ∷ []; result = plain (λ _. R) };
    kept = (yes, (yes, (yes, tt)));
  }

  abbrev lent_says : {M : Type 1} (𝓤 : Ura M) → Clauses 𝓤 lent
  lent_says 𝓤 κs a = record { ghost = Unit {0}; requires = λ _. emp 𝓤; ensures = λ _ r e. fact 𝓤 (Wrote O (f a.0.now a.1.0.now a.1.1.0.now) r e.0.now) }

  abbrev LentTo : {M : Type 1} {𝓤 : Ura M} (𝓛 : Logic 𝓤) → Contract 𝓤
  LentTo {𝓤 = 𝓤} 𝓛 = triple_of 𝓛 lent.signature (closing 𝓛 lent (lent_says 𝓤))

  abbrev lent_code : Fn
  lent_code = record {
    lifetimes = 3;
    outlives = [];
    ty_params = [];
    givens = 0;
    params = 3;
    locals = local O.ty value_local ∷ local (ty_ref (named 0) mut (pointee (Row L).written)) value_local ∷ local (slice_ty (ty_ref (named 1) imm (pointee u8.written))) value_local ∷ local (slice_ty (ty_ref (named 2) imm (pointee u8.written))) value_local ∷ local (τ L) value_local ∷ local (σ O) value_local ∷ [];
    body = seq (assign (place 4 []) (rv_opd (copy (place 1 (deref (τ L) ∷ [])))))
        (seq (call callee (copy (place 4 []) ∷ copy (place 2 []) ∷ copy (place 3 []) ∷ []) (place 5 []))
        (seq (assign (place 1 (deref (τ L) ∷ [])) (rv_opd (copy (place 5 (field 0 ∷ [])))))
        (seq (assign (place 0 []) (rv_opd (copy (place 5 (field 1 ∷ []))))) «return»)));
  }

  abbrev stayed : Stays lent.signature.params lent.kept
  stayed = (stay_ref (0 ∷ []) tt (plain (λ _. Row L)), (stay_none_slice (1 ∷ []) tt (plain (λ _. u8)) yes, (stay_none_slice (2 ∷ []) tt (plain (λ _. u8)) yes, tt)))

  module _ {M : Type 1} {𝓤 : Ura M} (𝓛 : Logic 𝓤) (κ κ' κ'' : Lft) (bounds : AllOutlive 3 [] (κ, (κ', (κ'', tt)))) (q q' q'' : Share) (b o : ℕ) (γ : GName) (h : Held L) (s t : Bor (List ℕ)) where
    -- The walk's triple, and what it and the callee's contract are taken at.
    open 𝓛 use {H}

    abbrev Walk : Contract 𝓤
    Walk = walk_of 𝓛 lent stayed (lent_says 𝓤)

    abbrev lent_at : Walk.Ghost
    lent_at = (((κ, (κ', (κ'', tt))), (q, (q', (q'', tt))), bounds, (record { ref_ptr = (b, o); ghost_name = γ; now = h }, (s, (t, tt))), (vptr b o ∷ [], (own_slice_val s ∷ [], (own_slice_val t ∷ [], tt)))), tt)

    abbrev copied : (ByValue 𝓛).Ghost
    copied = (((κ', (κ'', tt)), (q', (q'', tt)), tt, (h, (s, (t, tt))), (held_val L h ∷ [], (own_slice_val s ∷ [], (own_slice_val t ∷ [], tt)))), tt)

    -- What the slices own, and their tokens.
    abbrev Own₁ : Fml
    Own₁ = OwnSlice (named 1) κ' s

    abbrev Own₂ : Fml
    Own₂ = OwnSlice (named 2) κ'' t

    abbrev Tokens : Item 𝓤
    Tokens = ‵ (flft κ' q') ⊛ ‵ (flft κ'' q'') ⊛ ‵ ftrue

    goes_in : IsHeld L h → ent 𝓤 (⋆ 𝓛 (‵ Own₁ ∷ ‵ Own₂ ∷ Tokens ∷ [])) ((ByValue 𝓛).pre copied)
    goes_in was =
        qed 𝓛 (‵ Own₁ ∷ ‵ Own₂ ∷ Tokens ∷ []) ∵ nothing ! $ move ! (2 ∷ 0 ∷ []) $ fjoin ! $ move ! (1 ∷ 0 ∷ []) $ fjoin ! $ owns_held L ! h was $ fjoin ! $ move ! (1 ∷ 0 ∷ []) $ join ! $ frame ! $ done !

    exits : (r : S.Denot) → r ≡ f h s.now t.now → Is R (O.answer r) (O.val (O.answer r) ∷ [])
        → ent 𝓤 (⋆ 𝓛 (‵ (fobs γ ((Row L).coded.code (O.held r))) ∷ ‵ (fbor κ (Body (mem (Row L)) b o γ)) ∷ ‵ (flft κ q) ∷ Tokens ∷ ‵ Own₁ ∷ ‵ Own₂ ∷ [])) (Walk.post lent_at (O.val (O.answer r)))
    exits r e is =
        qed 𝓛 (‵ (fobs γ ((Row L).coded.code (O.held r))) ∷ ‵ (fbor κ (Body (mem (Row L)) b o γ)) ∷ ‵ (flft κ q) ∷ Tokens ∷ ‵ Own₁ ∷ ‵ Own₂ ∷ []) ∵
        suffices ! _ (ends_at 𝓛 lent stayed (lent_says 𝓤) lent_at (O.val (O.answer r)) (O.answer r) (O.held r, (tt, (tt, tt))) (tt, (tt, (tt, tt)))) $
        says ! ((λ i. O.answer (e i)), (λ i. O.held (e i))) $ move ! (2 ∷ 3 ∷ []) $ join ! $ frame ! $
        feq_i ! (List Val) (vptr b o ∷ []) (vptr b o ∷ []) refl $ fjoin3 ! $ nothing ! $ move ! (3 ∷ 0 ∷ []) $ fjoin ! $ move ! (2 ∷ 0 ∷ []) $ fjoin ! $ move ! (1 ∷ 0 ∷ []) $ fjoin ! $
        owned ! R (Is R) (O.makes 𝓛) (O.answer r) _ is $ move ! (1 ∷ 0 ∷ []) $ done !

    module _ (C : Calls 𝓤 H) (Λ : Loops 𝓤 H) (fm : FmC 𝓤 H 𝓛.laws C) (known : Triple 𝓤 (C callee) (ByValue 𝓛)) where
      walk : Is (ShrSlice (named 1) κ' u8) s (own_slice_val s ∷ []) → Is (ShrSlice (named 2) κ'' u8) t (own_slice_val t ∷ [])
          → ent 𝓤 (on_entry 𝓛 lent.signature lent_at.0.0 lent_at.0.1 lent_at.0.3 lent_at.0.4) (WpFn 𝓤 H C Λ lent_code (vptr b o ∷ own_slice_val s ∷ own_slice_val t ∷ []) (Walk.post lent_at))
      walk p p' =
          qed 𝓛 ((‵ (flft κ q) ⊛ Tokens) ∷ ‵ (owns (MutRef (named 0) κ (Row L) ∷ ShrSlice (named 1) κ' u8 ∷ ShrSlice (named 2) κ'' u8 ∷ []) lent_at.0.3 lent_at.0.4) ∷ []) ∵ enter ! C Λ lent_code (vptr b o ∷ own_slice_val s ∷ own_slice_val t ∷ []) _ $
          alloc1 ! (λ l₀. alloc1 ! (λ l₁. alloc1 ! (λ l₂. alloc1 ! (λ l₃. alloc1 ! (λ l₄. alloc1 ! (λ l₅. alloc0 ! $ params1 ! $ pass1 ! (init ! 8 refl (tt, tt)) $ pass1 ! (init ! 6 refl ((shr_slice_Lawful 𝓛 (named 1) κ' u8).typed s (own_slice_val s ∷ []) p).0) $ pass1 ! (init ! 4 refl ((shr_slice_Lawful 𝓛 (named 2) κ'' u8).typed t (own_slice_val t ∷ []) p').0) $ pass0 ! $
          -- The borrow is opened, and the struct's machine value is written out.
          move ! (13 ∷ []) $ fsplit ! $ fsplit3 ! $ drop ! $ move ! (15 ∷ []) $ split ! $ move ! (2 ∷ 3 ∷ 0 ∷ []) $
          opens ! tt (Row L) {h = h} b o (λ vs. spells_held L ! full_share h vs b o (λ was.
          -- The context is [the struct's cell; what it owns; the open borrow; obs; auth; the other tokens; what the slices own, ∗ true; _5; …; _0; …].
          assigns ! (of_opd ! (load ! (from ! (hop ! (look ! 15 refl) (stop !))) (look_raw ! 0 refl))) (from ! (stop !)) (init ! 9 refl (held_typed L 𝓛 h was)) $
          -- Each slice is had twice, and one of each goes to the callee.
          move ! (6 ∷ []) $ fsplit ! $ slice_twice ! (named 1) κ' s $
          move ! (2 ∷ []) $ fsplit ! $ slice_twice ! (named 2) κ'' t $
          move ! (3 ∷ 0 ∷ 10 ∷ []) $ use3 𝓛 (raw ((ByValue 𝓛).pre copied)) (goes_in was) $
          calls_at ! fm (ByValue 𝓛) known copied (and_then ! (load ! (from ! (stop !)) (look ! 11 refl)) (and_then ! (load ! (from ! (stop !)) (look ! 15 refl)) (and_then ! (load ! (from ! (stop !)) (look ! 13 refl)) (no_more !)))) (λ w.
          answered ! tt by_value (by_value_says 𝓤) copied w (λ r. r ≡ f h s.now t.now) (λ r e. id⊢ 𝓤 (fact 𝓤 (r ≡ f h s.now t.now))) (λ r e is.
          -- The context is [what the result owns; the other tokens; what the second slice owns; true; what the first owns; the struct's cell; what it owns; the open borrow; obs; auth; room for _5; …; _0; …].
          land ! (from ! (stop !)) (init ! 10 refl (O.typed 𝓛 r w is)) $ rewrite ! 10 (λ (u : Val). ‵ (fat full_share (σ O) l₅ 0 u)) (O.spells r w is) refl $
          assigns ! (of_opd ! (load ! (from ! (fld ! refl (stop !))) (look_in ! 10 (sub ! 0 refl (whole !))))) (from ! (hop ! (look ! 18 refl) (stop !))) (store_raw ! 5 refl (held_typed L 𝓛 (O.held r) (O.held_is r w is))) $
          assigns ! (of_opd ! (load ! (from ! (fld ! refl (stop !))) (look_in ! 10 (sub ! 1 refl (whole !))))) (from ! (stop !)) (init ! 20 refl (O.answer_typed 𝓛 (O.answer r) _ (O.answer_is r w is))) $
          -- The borrow is closed at the new struct.
          move ! (5 ∷ 7 ∷ 8 ∷ 9 ∷ []) $ owns_held L ! (O.held r) (O.held_is r w is) $ move ! (1 ∷ 0 ∷ []) $ closes ! tt (Row L) (O.held r) (held_val L (O.held r) ∷ []) b o $
          -- The context is [obs; the borrow; the token; what the result owns; the other tokens; what the second slice owns; true; what the first owns; what the old struct owned; _5; …; _0; …].
          returns ! (look ! 19 refl) $ forget ! 9 refl $ forget ! 11 refl $ forget ! 13 refl $ forget ! 15 refl $ forget ! 17 refl $ forget ! 19 refl $
          move ! (19 ∷ 20 ∷ []) $ free1 ! $ move ! (17 ∷ 18 ∷ []) $ free1 ! $ move ! (15 ∷ 16 ∷ []) $ free1 ! $ move ! (13 ∷ 14 ∷ []) $ free1 ! $ move ! (11 ∷ 12 ∷ []) $ free1 ! $ move ! (9 ∷ 10 ∷ []) $ free1 ! $ free0 ! $
          keep ! (0 ∷ 1 ∷ 2 ∷ 4 ∷ 7 ∷ 5 ∷ []) $ by ! (exits r e (O.answer_is r w is))))))))))))

  module _ {M : Type 1} {𝓤 : Ura M} (𝓛 : Logic 𝓤) where
    open 𝓛 use {H}

    walks : (C : Calls 𝓤 H) (Λ : Loops 𝓤 H) → FmC 𝓤 H 𝓛.laws C → Triple 𝓤 (C callee) (ByValue 𝓛) → Walks 𝓛 lent stayed (WpFn 𝓤 H C Λ lent_code) (lent_says 𝓤)
    walks C Λ fm known = walked 𝓛 lent stayed (lent_says 𝓤) (WpFn 𝓤 H C Λ lent_code) (λ κs. (mut_vals, (shr_slice_vals, (shr_slice_vals, tt)))) (λ κs. (mut_Tells (named 0) κs.0 (Row L), (shr_slice_Tells (named 1) κs.1.0 u8, (shr_slice_Tells (named 2) κs.1.1.0 u8, tt))))
        (λ κs qs bounds a g are. via 𝓤 _ (fst∗ 𝓤 _ (emp 𝓤)) (walk 𝓛 κs.0 κs.1.0 κs.1.1.0 bounds qs.0 qs.1.0 qs.1.1.0 a.0.ref_ptr.0 a.0.ref_ptr.1 a.0.ghost_name a.0.now a.1.0 a.1.1.0 C Λ fm known are.1.0 are.1.1.0))

    goes : AllGo 𝓛 3 lent.signature.params lent.kept stayed
    goes = (Goes-ref 𝓛 3 0 tt (plain (λ _. Row L)), (Goes-none_slice 𝓛 3 (1 ∷ []) tt (plain (λ _. u8)) yes, (Goes-none_slice 𝓛 3 (2 ∷ []) tt (plain (λ _. u8)) yes, tt)))

  -- It meets its contract where the form by value meets its own.
  module _ {M : Type 1} {𝓤 : Ura M} (𝓛 : Logic 𝓤) (𝓜 : Model 𝓤 𝓛.H) (𝓡 : Running 𝓤 𝓛.H 𝓜) (env : Env) where
    open 𝓛 use {H}

    pub lent_meets_two : (key : Callee) → Closed 𝓤 H (tables 𝓤 H 𝓜 𝓡 env).C (tables 𝓤 H 𝓜 𝓡 env).Λ key lent_code
        → (r : Routine) → env callee ≡ r → Triple 𝓤 (𝓡.run r) (ByValue 𝓛) → Triple 𝓤 ((tables 𝓤 H 𝓜 𝓡 env).C key) (LentTo 𝓛)
    lent_meets_two key closed = by_walk 𝓛 𝓜 𝓡 env key callee lent_code closed (ByValue 𝓛) lent stayed (lent_says 𝓤) (goes 𝓛) (walks 𝓛)
