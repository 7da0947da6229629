-- The walks of `Lending` with a plain value and a slice of numbers that are passed on beside the bytes.
-- Of a callee they know only that it meets its contract. Assumes nothing.
use mathlib.Core.Path.{◌≡◌, refl}
use Prim.Native.Nat.{ℕ}
use mathlib.Core.List.{[], ◌∷◌, List}
use seplogic.Ra.Ura.{Ura}
use base.Fraction.{full_share}
use mir.Syntax.{Callee, Width, Fn, named, erased, imm, mut, ty_ref, local, value_local, place, deref, field, copy, rv_opd, addr_of, assign, call, seq, «return»}
use mir.Val.{Val, vptr}
use base.Logic.{SProp, ent, emp, via, fst∗, id⊢}
use base.Fml.{GName, Lft, Share, ftrue, fat, flft, Fml, fobs, fbor}
use prog.Model.{Model}
use prog.Routine.{Routine, Env}
use prog.Wp.{Calls, Loops, WpFn, Closed, Tables}
use types.Logic.{Logic}
use contract.Lifetimes.{Shares, AllOutlive}
use contract.Monad.{fact}
use contract.Running.{Running, tables}
use types.Kit.{‵, raw, ⋆, ◌⊛◌, ◌$◌, ◌∵◌, !, qed, by, move, keep, drop, use2, split, rewrite, fsplit, fsplit3, suffices, Item, use3, join, fjoin, fjoin3, feq_i, frame, done}
use types.Run.{look, look_raw, init, store_raw, forget, stop, hop, fld, from, load, addr, of_opd, and_then, no_more, assigns, land, returns, enter, alloc1, alloc0, params1, pass1, pass0, free1, free0}
use types.Part.{whole, sub, look_in}
use sound.WpLaws.{FmC, fm_of}
use denote.RattleType.{RattleType, owns, flat}
use denote.Laws.{Is}
use denote.Memory.{pointee, mem}
use denote.Builtin.{u8}
use denote.Ref.{Bor, MutBor, MutRef, mut_vals, mut_Tells}
use denote.Slice.{slice_ty, ShrSlice, shr_slice_vals, shr_slice_Tells, shr_slice_Lawful}
use denote.Signature.{types_at, plain, mut_ref_to, shr_slice_of}
use denote.Steps.{opens, closes, said, nothing, owned}
use denote.Triple.Entry.{on_entry}
use denote.Triple.Spec.{triple_of}
use denote.Triple.Statement.{Contract, Triple}
use denote.Triple.Call.{calls_at}
use denote.Triple.Clauses.{Ended, Clauses, closing}
use denote.Triple.Walked.{says, Stays, stay_none, stay_ref, stay_none_slice, walk_of, AllGo, Goes-none, Goes-ref, Goes-none_slice, Walks, ends_at, walked}
use denote.Exit.{yes}
use Rattle.lending.proofs.Lent.{Lent, Row, τ, Held, held_val, held_typed, owns_held, spells_held, Passed, passed_vals, own_slice_val, slice_twice, gave, answered, hands_back, by_call, by_walk, IsHeld, OwnSlice, OwnNumbers, numbers_twice}
use Rattle.lending.proofs.Lending.{Outcome, σ, Wrote}
use types.SemTy.{Body}
use denote.Plain.{UInt}

-- A call that lends a struct, a slice of bytes and a slice of numbers to a form by value, passes a plain value on, and writes the struct that it returns over the lent one.
module _ (L : Lent) {S R P : RattleType} (O : Outcome L S R) (D : Passed P) (N : Width) (f : Held L → List ℕ → P.Denot → List ℕ → S.Denot) (callee : Callee) where
  -- The form by value: its contract.
  abbrev by_value : Ended
  by_value = record {
    signature = record { lifetimes = 2; outlives = []; params = plain (λ _. Row L) ∷ shr_slice_of (0 ∷ []) tt (plain (λ _. u8)) ∷ plain (λ _. P) ∷ shr_slice_of (1 ∷ []) tt (plain (λ _. UInt N)) ∷ []; result = plain (λ _. S) };
    kept = (yes, (yes, (yes, (yes, tt))));
  }

  abbrev by_value_says : {M : Type 1} (𝓤 : Ura M) → Clauses 𝓤 by_value
  by_value_says 𝓤 κs a = record { ghost = Unit {0}; requires = λ _. emp 𝓤; ensures = λ _ r _. fact 𝓤 (r ≡ f a.0 a.1.0.now a.1.1.0 a.1.1.1.0.now) }

  abbrev ByValue : {M : Type 1} {𝓤 : Ura M} (𝓛 : Logic 𝓤) → Contract 𝓤
  ByValue {𝓤 = 𝓤} 𝓛 = triple_of 𝓛 by_value.signature (closing 𝓛 by_value (by_value_says 𝓤))

  -- The call on a lent struct: its contract and its code.
  abbrev lent : Ended
  lent = record {
    signature = record { lifetimes = 3; outlives = []; params = mut_ref_to (0 ∷ []) tt (plain (λ _. Row L)) ∷ shr_slice_of (1 ∷ []) tt (plain (λ _. u8)) ∷ plain (λ _. P) ∷ shr_slice_of (2 ∷ []) tt (plain (λ _. UInt N)) ∷ []; result = plain (λ _. R) };
    kept = (yes, (yes, (yes, (yes, tt))));
  }

  abbrev lent_says : {M : Type 1} (𝓤 : Ura M) → Clauses 𝓤 lent
  lent_says 𝓤 κs a = record { ghost = Unit {0}; requires = λ _. emp 𝓤; ensures = λ _ r e. fact 𝓤 (Wrote O (f a.0.now a.1.0.now a.1.1.0 a.1.1.1.0.now) r e.0.now) }

  abbrev LentTo : {M : Type 1} {𝓤 : Ura M} (𝓛 : Logic 𝓤) → Contract 𝓤
  LentTo {𝓤 = 𝓤} 𝓛 = triple_of 𝓛 lent.signature (closing 𝓛 lent (lent_says 𝓤))

  abbrev lent_code : Fn
  lent_code = record {
    lifetimes = 3;
    outlives = [];
    ty_params = [];
    givens = 0;
    params = 4;
    locals = local O.ty value_local ∷ local (ty_ref (named 0) mut (pointee (Row L).written)) value_local ∷ local (slice_ty (ty_ref (named 1) imm (pointee u8.written))) value_local ∷ local D.ty value_local ∷ local (slice_ty (ty_ref (named 2) imm (pointee (UInt N).written))) value_local ∷ local (τ L) value_local ∷ local (σ O) value_local ∷ [];
    body = seq (assign (place 5 []) (rv_opd (copy (place 1 (deref (τ L) ∷ [])))))
        (seq (call callee (copy (place 5 []) ∷ copy (place 2 []) ∷ copy (place 3 []) ∷ copy (place 4 []) ∷ []) (place 6 []))
        (seq (assign (place 1 (deref (τ L) ∷ [])) (rv_opd (copy (place 6 (field 0 ∷ [])))))
        (seq (assign (place 0 []) (rv_opd (copy (place 6 (field 1 ∷ []))))) «return»)));
  }

  abbrev stayed : Stays lent.signature.params lent.kept
  stayed = (stay_ref (0 ∷ []) tt (plain (λ _. Row L)), (stay_none_slice (1 ∷ []) tt (plain (λ _. u8)) yes, (stay_none (λ _. P) yes, (stay_none_slice (2 ∷ []) tt (plain (λ _. UInt N)) yes, tt))))

  module _ {M : Type 1} {𝓤 : Ura M} (𝓛 : Logic 𝓤) (κ κ' κ'' : Lft) (bounds : AllOutlive 3 [] (κ, (κ', (κ'', tt)))) (q q' q'' : Share) (b o : ℕ) (γ : GName) (h : Held L) (s t : Bor (List ℕ)) (v : P.Denot) (v-is : Is P v (D.val v ∷ [])) where
    -- The walk's triple, and what it and the callee's contract are taken at.
    open 𝓛 use {H}

    abbrev Walk : Contract 𝓤
    Walk = walk_of 𝓛 lent stayed (lent_says 𝓤)

    abbrev lent_at : Walk.Ghost
    lent_at = (((κ, (κ', (κ'', tt))), (q, (q', (q'', tt))), bounds, (record { ref_ptr = (b, o); ghost_name = γ; now = h }, (s, (v, (t, tt)))), (vptr b o ∷ [], (own_slice_val s ∷ [], (D.val v ∷ [], (own_slice_val t ∷ [], tt))))), tt)

    abbrev copied : (ByValue 𝓛).Ghost
    copied = (((κ', (κ'', tt)), (q', (q'', tt)), tt, (h, (s, (v, (t, tt)))), (held_val L h ∷ [], (own_slice_val s ∷ [], (D.val v ∷ [], (own_slice_val t ∷ [], tt))))), tt)

    -- What the slices own, and their tokens.
    abbrev Own₁ : Fml
    Own₁ = OwnSlice (named 1) κ' s

    abbrev Own₂ : Fml
    Own₂ = OwnNumbers N (named 2) κ'' t

    abbrev Tokens : Item 𝓤
    Tokens = ‵ (flft κ' q') ⊛ ‵ (flft κ'' q'') ⊛ ‵ ftrue

    goes_in : IsHeld L h → ent 𝓤 (⋆ 𝓛 (‵ Own₁ ∷ ‵ Own₂ ∷ Tokens ∷ [])) ((ByValue 𝓛).pre copied)
    goes_in was =
        qed 𝓛 (‵ Own₁ ∷ ‵ Own₂ ∷ Tokens ∷ []) ∵ nothing ! $ move ! (2 ∷ 0 ∷ []) $ fjoin ! $ owned ! P (Is P) (D.makes 𝓛) v _ v-is $ fjoin ! $ move ! (1 ∷ 0 ∷ []) $ fjoin ! $ owns_held L ! h was $ fjoin ! $ move ! (1 ∷ 0 ∷ []) $ join ! $ frame ! $ done !

    exits : (r : S.Denot) → r ≡ f h s.now v t.now → Is R (O.answer r) (O.val (O.answer r) ∷ [])
        → ent 𝓤 (⋆ 𝓛 (‵ (fobs γ ((Row L).coded.code (O.held r))) ∷ ‵ (fbor κ (Body (mem (Row L)) b o γ)) ∷ ‵ (flft κ q) ∷ Tokens ∷ ‵ Own₁ ∷ ‵ Own₂ ∷ [])) (Walk.post lent_at (O.val (O.answer r)))
    exits r e is =
        qed 𝓛 (‵ (fobs γ ((Row L).coded.code (O.held r))) ∷ ‵ (fbor κ (Body (mem (Row L)) b o γ)) ∷ ‵ (flft κ q) ∷ Tokens ∷ ‵ Own₁ ∷ ‵ Own₂ ∷ []) ∵
        suffices ! _ (ends_at 𝓛 lent stayed (lent_says 𝓤) lent_at (O.val (O.answer r)) (O.answer r) (O.held r, (tt, (D.last v, (tt, tt)))) (tt, (tt, (tt, (tt, tt))))) $
        says ! ((λ i. O.answer (e i)), (λ i. O.held (e i))) $ move ! (2 ∷ 3 ∷ []) $ join ! $ frame ! $
        feq_i ! (List Val) (vptr b o ∷ []) (vptr b o ∷ []) refl $ fjoin3 ! $ nothing ! $ move ! (3 ∷ 0 ∷ []) $ fjoin ! $ owned ! P (Is P) (D.makes 𝓛) v _ v-is $ fjoin ! $ move ! (2 ∷ 0 ∷ []) $ fjoin ! $ move ! (1 ∷ 0 ∷ []) $ fjoin ! $
        owned ! R (Is R) (O.makes 𝓛) (O.answer r) _ is $ move ! (1 ∷ 0 ∷ []) $ done !

    module _ (C : Calls 𝓤 H) (Λ : Loops 𝓤 H) (fm : FmC 𝓤 H 𝓛.laws C) (known : Triple 𝓤 (C callee) (ByValue 𝓛)) where
      walk : Is (ShrSlice (named 1) κ' u8) s (own_slice_val s ∷ []) → Is (ShrSlice (named 2) κ'' (UInt N)) t (own_slice_val t ∷ [])
          → ent 𝓤 (on_entry 𝓛 lent.signature lent_at.0.0 lent_at.0.1 lent_at.0.3 lent_at.0.4) (WpFn 𝓤 H C Λ lent_code (vptr b o ∷ own_slice_val s ∷ D.val v ∷ own_slice_val t ∷ []) (Walk.post lent_at))
      walk p p' =
          qed 𝓛 ((‵ (flft κ q) ⊛ Tokens) ∷ ‵ (owns (MutRef (named 0) κ (Row L) ∷ ShrSlice (named 1) κ' u8 ∷ P ∷ ShrSlice (named 2) κ'' (UInt N) ∷ []) lent_at.0.3 lent_at.0.4) ∷ []) ∵ enter ! C Λ lent_code (vptr b o ∷ own_slice_val s ∷ D.val v ∷ own_slice_val t ∷ []) _ $
          alloc1 ! (λ l₀. alloc1 ! (λ l₁. alloc1 ! (λ l₂. alloc1 ! (λ l₃. alloc1 ! (λ l₄. alloc1 ! (λ l₅. alloc1 ! (λ l₆. alloc0 ! $ params1 ! $ pass1 ! (init ! 10 refl (tt, tt)) $
          pass1 ! (init ! 8 refl ((shr_slice_Lawful 𝓛 (named 1) κ' u8).typed s (own_slice_val s ∷ []) p).0) $ pass1 ! (init ! 6 refl (D.typed 𝓛 v v-is)) $ pass1 ! (init ! 4 refl ((shr_slice_Lawful 𝓛 (named 2) κ'' (UInt N)).typed t (own_slice_val t ∷ []) p').0) $ pass0 ! $
          -- The borrow is opened, and the struct's machine value is written out.
          move ! (15 ∷ []) $ fsplit ! $ fsplit3 ! $ drop ! $ move ! (17 ∷ []) $ split ! $ move ! (2 ∷ 3 ∷ 0 ∷ []) $
          opens ! tt (Row L) {h = h} b o (λ vs. spells_held L ! full_share h vs b o (λ was.
          -- The context is [the struct's cell; what it owns; the open borrow; obs; auth; the other tokens; what the slices and the value own, ∗ true; _6; …; _0; …].
          assigns ! (of_opd ! (load ! (from ! (hop ! (look ! 17 refl) (stop !))) (look_raw ! 0 refl))) (from ! (stop !)) (init ! 9 refl (held_typed L 𝓛 h was)) $
          -- Each slice is had twice, and one of each goes to the callee.
          move ! (6 ∷ []) $ fsplit ! $ slice_twice ! (named 1) κ' s $
          move ! (2 ∷ []) $ fsplit ! $ drop ! $ fsplit ! $ numbers_twice ! N (named 2) κ'' t $
          move ! (3 ∷ 0 ∷ 10 ∷ []) $ use3 𝓛 (raw ((ByValue 𝓛).pre copied)) (goes_in was) $
          calls_at ! fm (ByValue 𝓛) known copied (and_then ! (load ! (from ! (stop !)) (look ! 11 refl)) (and_then ! (load ! (from ! (stop !)) (look ! 17 refl)) (and_then ! (load ! (from ! (stop !)) (look ! 15 refl)) (and_then ! (load ! (from ! (stop !)) (look ! 13 refl)) (no_more !))))) (λ w.
          answered ! tt by_value (by_value_says 𝓤) copied w (λ r. r ≡ f h s.now v t.now) (λ r e. id⊢ 𝓤 (fact 𝓤 (r ≡ f h s.now v t.now))) (λ r e is.
          -- The context is [what the result owns; the other tokens; what the second slice owns; true; what the first owns; the struct's cell; what it owns; the open borrow; obs; auth; room for _6; …; _0; …].
          land ! (from ! (stop !)) (init ! 10 refl (O.typed 𝓛 r w is)) $ rewrite ! 10 (λ (u : Val). ‵ (fat full_share (σ O) l₆ 0 u)) (O.spells r w is) refl $
          assigns ! (of_opd ! (load ! (from ! (fld ! refl (stop !))) (look_in ! 10 (sub ! 0 refl (whole !))))) (from ! (hop ! (look ! 20 refl) (stop !))) (store_raw ! 5 refl (held_typed L 𝓛 (O.held r) (O.held_is r w is))) $
          assigns ! (of_opd ! (load ! (from ! (fld ! refl (stop !))) (look_in ! 10 (sub ! 1 refl (whole !))))) (from ! (stop !)) (init ! 22 refl (O.answer_typed 𝓛 (O.answer r) _ (O.answer_is r w is))) $
          -- The borrow is closed at the new struct.
          move ! (5 ∷ 7 ∷ 8 ∷ 9 ∷ []) $ owns_held L ! (O.held r) (O.held_is r w is) $ move ! (1 ∷ 0 ∷ []) $ closes ! tt (Row L) (O.held r) (held_val L (O.held r) ∷ []) b o $
          -- The context is [obs; the borrow; the token; what the result owns; the other tokens; what the second slice owns; true; what the first owns; what the old struct owned; _6; …; _0; …].
          returns ! (look ! 21 refl) $ forget ! 9 refl $ forget ! 11 refl $ forget ! 13 refl $ forget ! 15 refl $ forget ! 17 refl $ forget ! 19 refl $ forget ! 21 refl $
          move ! (21 ∷ 22 ∷ []) $ free1 ! $ move ! (19 ∷ 20 ∷ []) $ free1 ! $ move ! (17 ∷ 18 ∷ []) $ free1 ! $ move ! (15 ∷ 16 ∷ []) $ free1 ! $ move ! (13 ∷ 14 ∷ []) $ free1 ! $ move ! (11 ∷ 12 ∷ []) $ free1 ! $ move ! (9 ∷ 10 ∷ []) $ free1 ! $ free0 ! $
          keep ! (0 ∷ 1 ∷ 2 ∷ 4 ∷ 7 ∷ 5 ∷ []) $ by ! (exits r e (O.answer_is r w is)))))))))))))

  module _ {M : Type 1} {𝓤 : Ura M} (𝓛 : Logic 𝓤) where
    open 𝓛 use {H}

    walks : (C : Calls 𝓤 H) (Λ : Loops 𝓤 H) → FmC 𝓤 H 𝓛.laws C → Triple 𝓤 (C callee) (ByValue 𝓛) → Walks 𝓛 lent stayed (WpFn 𝓤 H C Λ lent_code) (lent_says 𝓤)
    walks C Λ fm known = walked 𝓛 lent stayed (lent_says 𝓤) (WpFn 𝓤 H C Λ lent_code) (λ κs. (mut_vals, (shr_slice_vals, (passed_vals D, (shr_slice_vals, tt))))) (λ κs. (mut_Tells (named 0) κs.0 (Row L), (shr_slice_Tells (named 1) κs.1.0 u8, (D.tells, (shr_slice_Tells (named 2) κs.1.1.0 (UInt N), tt)))))
        (λ κs qs bounds a g are. via 𝓤 _ (fst∗ 𝓤 _ (emp 𝓤)) (walk 𝓛 κs.0 κs.1.0 κs.1.1.0 bounds qs.0 qs.1.0 qs.1.1.0 a.0.ref_ptr.0 a.0.ref_ptr.1 a.0.ghost_name a.0.now a.1.0 a.1.1.1.0 a.1.1.0 are.1.1.0 C Λ fm known are.1.0 are.1.1.1.0))

    goes : AllGo 𝓛 3 lent.signature.params lent.kept stayed
    goes = (Goes-ref 𝓛 3 0 tt (plain (λ _. Row L)), (Goes-none_slice 𝓛 3 (1 ∷ []) tt (plain (λ _. u8)) yes, (Goes-none 𝓛 3 (λ _. P) yes (λ κs. D.still), (Goes-none_slice 𝓛 3 (2 ∷ []) tt (plain (λ _. UInt N)) yes, tt))))

  -- It meets its contract where the form by value meets its own.
  module _ {M : Type 1} {𝓤 : Ura M} (𝓛 : Logic 𝓤) (𝓜 : Model 𝓤 𝓛.H) (𝓡 : Running 𝓤 𝓛.H 𝓜) (env : Env) where
    open 𝓛 use {H}

    pub lent_meets_dated : (key : Callee) → Closed 𝓤 H (tables 𝓤 H 𝓜 𝓡 env).C (tables 𝓤 H 𝓜 𝓡 env).Λ key lent_code
        → (r : Routine) → env callee ≡ r → Triple 𝓤 (𝓡.run r) (ByValue 𝓛) → Triple 𝓤 ((tables 𝓤 H 𝓜 𝓡 env).C key) (LentTo 𝓛)
    lent_meets_dated key closed = by_walk 𝓛 𝓜 𝓡 env key callee lent_code closed (ByValue 𝓛) lent stayed (lent_says 𝓤) (goes 𝓛) (walks 𝓛)

  -- A call that passes the struct, the bytes, the plain value and the numbers on to such a call, for good: what that gives is handed back.
  abbrev passing_code : Fn
  passing_code = record {
    lifetimes = 3;
    outlives = [];
    ty_params = [];
    givens = 0;
    params = 4;
    locals = local O.ty value_local ∷ local (ty_ref (named 0) mut (pointee (Row L).written)) value_local ∷ local (slice_ty (ty_ref (named 1) imm (pointee u8.written))) value_local ∷ local D.ty value_local ∷ local (slice_ty (ty_ref (named 2) imm (pointee (UInt N).written))) value_local ∷ local (ty_ref erased mut (pointee (Row L).written)) value_local ∷ [];
    body = seq (assign (place 5 []) (addr_of (place 1 (deref (τ L) ∷ [])))) (seq (call callee (copy (place 5 []) ∷ copy (place 2 []) ∷ copy (place 3 []) ∷ copy (place 4 []) ∷ []) (place 0 [])) «return»);
  }

  module _ {M : Type 1} {𝓤 : Ura M} (𝓛 : Logic 𝓤) (𝓣 : Tables 𝓤 𝓛.H) (known : Triple 𝓤 (𝓣.C callee) (LentTo 𝓛)) where
    open 𝓛 use {H}

    module _ (κ κ' κ'' : Lft) (qs : Shares 3) (bounds : AllOutlive 3 [] (κ, (κ', (κ'', tt)))) (b : MutBor (Held L)) (s t : Bor (List ℕ)) (v : P.Denot) where
      abbrev passed : (LentTo 𝓛).Ghost
      passed = (((κ, (κ', (κ'', tt))), qs, bounds, (b, (s, (v, (t, tt)))), (vptr b.ref_ptr.0 b.ref_ptr.1 ∷ [], (own_slice_val s ∷ [], (D.val v ∷ [], (own_slice_val t ∷ [], tt))))), tt)

      abbrev Got : SProp 𝓤
      Got = on_entry 𝓛 lent.signature passed.0.0 qs passed.0.3 passed.0.4

      passes : Is (ShrSlice (named 1) κ' u8) s (own_slice_val s ∷ []) → Is P v (D.val v ∷ []) → Is (ShrSlice (named 2) κ'' (UInt N)) t (own_slice_val t ∷ []) → ent 𝓤 Got (WpFn 𝓤 H 𝓣.C 𝓣.Λ passing_code (vptr b.ref_ptr.0 b.ref_ptr.1 ∷ own_slice_val s ∷ D.val v ∷ own_slice_val t ∷ []) ((LentTo 𝓛).post passed))
      passes p v-is p' =
          qed 𝓛 (raw Got ∷ []) ∵ enter ! 𝓣.C 𝓣.Λ passing_code (vptr b.ref_ptr.0 b.ref_ptr.1 ∷ own_slice_val s ∷ D.val v ∷ own_slice_val t ∷ []) _ $
          alloc1 ! (λ l₀. alloc1 ! (λ l₁. alloc1 ! (λ l₂. alloc1 ! (λ l₃. alloc1 ! (λ l₄. alloc1 ! (λ l₅. alloc0 ! $ params1 ! $
          pass1 ! (init ! 8 refl (tt, tt)) $ pass1 ! (init ! 6 refl ((shr_slice_Lawful 𝓛 (named 1) κ' u8).typed s _ p).0) $ pass1 ! (init ! 4 refl (D.typed 𝓛 v v-is)) $ pass1 ! (init ! 2 refl ((shr_slice_Lawful 𝓛 (named 2) κ'' (UInt N)).typed t _ p').0) $ pass0 ! $
          assigns ! (addr ! (from ! (hop ! (look ! 8 refl) (stop !)))) (from ! (stop !)) (init ! 0 refl (tt, tt)) $
          -- The context is [_5; …; _4; …; _3; …; _2; …; _1; …; room for _0; …; what the call got].
          nothing ! $ move ! (13 ∷ 0 ∷ []) $ use2 𝓛 (raw ((LentTo 𝓛).pre passed)) (id⊢ 𝓤 _) $
          calls_at ! (fm_of 𝓤 H 𝓛.laws 𝓣) (LentTo 𝓛) known passed (and_then ! (load ! (from ! (stop !)) (look ! 1 refl)) (and_then ! (load ! (from ! (stop !)) (look ! 7 refl)) (and_then ! (load ! (from ! (stop !)) (look ! 5 refl)) (and_then ! (load ! (from ! (stop !)) (look ! 3 refl)) (no_more !))))) (λ w.
          gave ! tt lent (lent_says 𝓤) passed w (λ r is.
          -- The context is [what the result owns; the tokens; what the callee says; _5; …; _4; …; _3; …; _2; …; _1; …; room for _0; …].
          land ! (from ! (stop !)) (init ! 13 refl (O.answer_typed 𝓛 r w is)) $
          returns ! (look ! 13 refl) $ forget ! 3 refl $ forget ! 5 refl $ forget ! 7 refl $ forget ! 9 refl $ forget ! 11 refl $ forget ! 13 refl $
          move ! (13 ∷ 14 ∷ []) $ free1 ! $ move ! (11 ∷ 12 ∷ []) $ free1 ! $ move ! (9 ∷ 10 ∷ []) $ free1 ! $ move ! (7 ∷ 8 ∷ []) $ free1 ! $ move ! (5 ∷ 6 ∷ []) $ free1 ! $ move ! (3 ∷ 4 ∷ []) $ free1 ! $ free0 ! $
          by ! (hands_back 𝓛 lent (lent_says 𝓤) passed w r)))))))))

    passes_on : Triple 𝓤 (WpFn 𝓤 H 𝓣.C 𝓣.Λ passing_code) (LentTo 𝓛)
    passes_on y =
        via 𝓤 _ (fst∗ 𝓤 _ (emp 𝓤))
        (said 𝓛 lent.signature y.0.0 y.0.1 (mut_vals, (shr_slice_vals, (passed_vals D, (shr_slice_vals, tt)))) (mut_Tells (named 0) y.0.0.0 (Row L), (shr_slice_Tells (named 1) y.0.0.1.0 u8, (D.tells, (shr_slice_Tells (named 2) y.0.0.1.1.0 (UInt N), tt)))) y.0.3
        (λ vs. WpFn 𝓤 H 𝓣.C 𝓣.Λ passing_code (flat (types_at lent.signature.params y.0.0) vs) ((LentTo 𝓛).post y)) y.0.4
        (λ are. passes y.0.0.0 y.0.0.1.0 y.0.0.1.1.0 y.0.1 y.0.2 y.0.3.0 y.0.3.1.0 y.0.3.1.1.1.0 y.0.3.1.1.0 are.1.0 are.1.1.0 are.1.1.1.0))

  -- It meets the same contract.
  module _ {M : Type 1} {𝓤 : Ura M} (𝓛 : Logic 𝓤) (𝓜 : Model 𝓤 𝓛.H) (𝓡 : Running 𝓤 𝓛.H 𝓜) (env : Env) where
    open 𝓛 use {H}

    pub passed_meets_dated : (key : Callee) → Closed 𝓤 H (tables 𝓤 H 𝓜 𝓡 env).C (tables 𝓤 H 𝓜 𝓡 env).Λ key passing_code
        → (r : Routine) → env callee ≡ r → Triple 𝓤 (𝓡.run r) (LentTo 𝓛) → Triple 𝓤 ((tables 𝓤 H 𝓜 𝓡 env).C key) (LentTo 𝓛)
    passed_meets_dated key closed =
        by_call 𝓛 𝓜 𝓡 env key callee passing_code closed (LentTo 𝓛) (LentTo 𝓛) (passes_on 𝓛)
