-- What the proofs of the calls on a lent struct have in common: the struct behind a reference, a plain value that is passed on, a slice of bytes, and what a callee gave.
-- Of a callee they know only that it meets its contract. Assumes nothing.
use mathlib.Core.Path.{◌≡◌, refl, sym, subst}
use Prim.Native.Nat.{ℕ}
use mathlib.Core.List.{[], ◌∷◌, List}
use lib.Dec.{T}
use lib.ListN.{length}
use seplogic.Ra.Ura.{Ura}
use mir.Syntax.{Callee, Ty, Fn, Lifetime, Width, w8, w64, ty_int}
use mir.Val.{Val, vint, WT, has_ty}
use base.Logic.{ent, sep, emp, via, snd∗, ex_e, id⊢}
use base.Fml.{Lft, Share, Fml, ftrue, fsep, flft}
use prog.Model.{Model}
use prog.Routine.{Routine, Env}
use prog.Wp.{Calls, Loops, WpFn, Closed, Tables}
use types.Logic.{Logic, sem}
use contract.Lifetimes.{Lfts}
use contract.Monad.{fact}
use contract.Running.{Running, tables, tables_of}
use types.Kit.{Goal, Soaks, Seq, Step, Item, ‵, raw, ⋆, ◌⊛◌, some, later, ◌$◌, ◌∵◌, !, qed, cut, move, use1, split, join, pick, fjoin, frame, await, updating, now as at_once, show, done}
use sound.WpLaws.{FmC, fm_of, WpFn-mono}
use denote.RattleType.{RattleType}
use denote.Laws.{Is, Tells, Makes, shows}
use denote.Memory.{cell_at, part_at, hidden_shr}
use denote.Opens.{Shut}
use denote.Plain.{UInt, uint_Tells, uint_Lawful, uint_Makes, uint_row_laws}
use denote.Builtin.{usize}
use denote.Ref.{Bor}
use denote.Slice.{slice_val, ShrSlice, shr_slice_copy}
use denote.Signature.{type_at}
use denote.Steps.{looks, owned, peeks, heard, nothing}
use denote.Struct.Declared.{Declared, fields, shape, row}
use denote.Struct.Struct.{Plains, layout}
use denote.Struct.Steps.{spelt}
use denote.Struct.Laws as LL
use denote.Triple.Entry.{alive}
use denote.Triple.Spec.{Back, triple_of}
use denote.Triple.Statement.{Contract, Triple}
use denote.Triple.Clauses.{Ended, Clauses, AtExit, at_exit, closing, ensured, lasts}
use denote.Triple.Table.{entered, cited}
use denote.Triple.Walked.{Stays, AllGo, Walks, walk_Meets}
use denote.Exit.{yes, Exit, unchanged, Last, left}

-- A struct of plain data, as its crate's generated modules have its type and laws.
pub record Lent : Type 2 where
  pub type : Declared
  pub laws : LL.Laws type
  pub plainly : Plains (fields type)
  pub copies : LL.Copyables type.parts

module _ (L : Lent) where
  -- The struct's type, its machine type, and what it denotes.
  abbrev pub Row : RattleType
  Row = row L.type

  abbrev pub τ : Ty
  τ = layout (shape L.type)

  abbrev pub Held : Type 0
  Held = L.type.D

  -- The struct's machine value.
  abbrev pub held_val : Held → Val
  held_val = LL.val L.type L.laws

  -- It stands for the struct.
  abbrev pub IsHeld : Held → Type 0
  IsHeld h = Is Row h (held_val h ∷ [])

  -- What stands for the struct is of its machine type.
  pub held_typed : {M : Type 1} {𝓤 : Ura M} (𝓛 : Logic 𝓤) → (h : Held) → IsHeld h → T (has_ty τ (held_val h)) × WT (held_val h)
  held_typed 𝓛 h was = ((LL.lawful L.type L.laws 𝓛).typed h _ was).0

  module _ {M : Type 1} {𝓤 : Ura M} {𝓛 : Logic 𝓤} {K : Type 0} {Γ : List (Item 𝓤)} {G : Goal 𝓤 𝓛.H} where
    -- What the struct owns is had for nothing.
    pub owns_held : K → (h : Held) → IsHeld h → Step K 𝓛 (‵ (Row.own_val h (held_val h ∷ [])) ∷ Γ) G Γ G
    owns_held t h was = owned t Row (Is Row) (LL.makes L.type L.plainly 𝓛) h (held_val h ∷ []) was

    -- The machine value of the struct that lies behind a reference is written out.
    pub spells_held : K → (q : Share) (h : Held) (vs : List Val) (b o : ℕ) → (IsHeld h → Seq K 𝓛 (‵ (cell_at q Row.mir (held_val h ∷ []) b o) ∷ ‵ (Row.own_val h (held_val h ∷ [])) ∷ Γ) G)
        → Seq K 𝓛 (‵ (cell_at q Row.mir vs b o) ∷ ‵ (Row.own_val h vs) ∷ Γ) G
    spells_held t q h vs b o k =
        spelt t Row (Is Row) (shows 𝓛 Row) (LL.vals L.type L.laws) (LL.tells L.type L.laws) q h vs b o $
        move t (1 ∷ []) $ peeks t Row (Is Row) (shows 𝓛 Row) h (held_val h ∷ []) (λ was. move t (1 ∷ 0 ∷ []) $ k was)

  module _ {M : Type 1} {𝓤 : Ura M} {𝓛 : Logic 𝓤} {K : Type 0} {Γ : List (Item 𝓤)} {G : Goal 𝓤 𝓛.H} where
    -- A `&` to the struct is looked into.
    pub looks_held : K → Soaks G → {κ : Lft} {q : Share} (h : Held) (b o : ℕ)
        → ((q' : Share) → IsHeld h → Seq K 𝓛 (‵ (cell_at q' Row.mir (held_val h ∷ []) b o) ∷ ‵ (Row.own_val h (held_val h ∷ [])) ∷ Shut 𝓛 κ q (part_at Row q' h b o) ∷ ‵ (hidden_shr Row κ h b o) ∷ Γ) G)
        → Seq K 𝓛 (‵ (hidden_shr Row κ h b o) ∷ ‵ (flft κ q) ∷ Γ) G
    looks_held t z h b o k =
        looks t z Row (LL.copied L.type L.copies 𝓛).opens h b o (λ q' vs. spells_held t q' h vs b o (k q'))

-- A plain value that is passed on: its machine type and value, what stands for it, that what it owns is had for nothing, and that nothing is left of it at exit.
pub record Passed (P : RattleType) : Type 2 where
  pub ty : Ty
  pub val : P.Denot → Val
  pub tells : Tells P (Is P) (λ x. val x ∷ [])
  pub typed : {M : Type 1} {𝓤 : Ura M} (𝓛 : Logic 𝓤) → (x : P.Denot) → Is P x (val x ∷ []) → T (has_ty ty (val x)) × WT (val x)
  pub makes : {M : Type 1} {𝓤 : Ura M} (𝓛 : Logic 𝓤) → Makes 𝓛 P (Is P)
  pub last : (x : P.Denot) → Last (P.exit yes) x
  pub still : (x : P.Denot) (f : Last (P.exit yes) x) → left (P.exit yes) x f ≡ ftrue

-- Its machine value, as a parameter has it.
abbrev pub passed_vals : {P : RattleType} → Passed P → P.Denot → List Val
passed_vals D x = D.val x ∷ []

-- What it owns, as the last parameter, is had for nothing.
abbrev pub OwnPassed : {P : RattleType} → Passed P → P.Denot → Fml
OwnPassed {P} D x = fsep (P.own_val x (D.val x ∷ [])) ftrue

pub makes_passed : {M : Type 1} {𝓤 : Ura M} (𝓛 : Logic 𝓤) → {P : RattleType} (D : Passed P) (x : P.Denot) → Is P x (D.val x ∷ []) → ent 𝓤 (emp 𝓤) (sem 𝓛 (OwnPassed D x))
makes_passed 𝓛 {P} D x is = qed 𝓛 [] ∵ nothing ! $ owned ! P (Is P) (D.makes 𝓛) x _ is $ fjoin ! $ done !

-- A number is such a value.
abbrev pub passed_usize : Passed usize
passed_usize = record {
  ty = ty_int w64;
  val = vint w64;
  tells = uint_Tells w64;
  typed = λ 𝓛 x is. ((uint_Lawful 𝓛 w64).typed x _ is).0;
  makes = λ 𝓛. uint_Makes 𝓛 w64;
  last = λ x. tt;
  still = λ x f. refl;
}

-- What is seen at exit as it was passed leaves nothing.
pub leaves_nothing : {D : Type 0} {e : Exit D} → unchanged ≡ e → (x : D) (f : Last e x) → left e x f ≡ ftrue
leaves_nothing {D} p x = subst (λ (e : Exit D). (f : Last e x) → left e x f ≡ ftrue) p (λ f. refl)

-- So is a struct of plain data.
abbrev pub passed_struct : (L : Lent) → Passed (Row L)
passed_struct L = record {
  ty = τ L;
  val = held_val L;
  tells = LL.tells L.type L.laws;
  typed = held_typed L;
  makes = λ 𝓛. LL.makes L.type L.plainly 𝓛;
  last = λ x. subst (λ (e : Exit (Held L)). Last e x) (sym (LL.still L.type L.copies yes)) tt;
  still = leaves_nothing (sym (LL.still L.type L.copies yes));
}

-- The machine value of a slice of numbers, and what it owns: of numbers of some type, and of bytes.
abbrev pub own_slice_val : Bor (List ℕ) → Val
own_slice_val s = slice_val s.ref_ptr (length s.now)

abbrev pub OwnNumbers : Width → Lifetime → Lft → Bor (List ℕ) → Fml
OwnNumbers w ℓ κ s = (ShrSlice ℓ κ (UInt w)).own_val s (own_slice_val s ∷ [])

abbrev pub OwnSlice : Lifetime → Lft → Bor (List ℕ) → Fml
OwnSlice = OwnNumbers w8

-- That is had twice.
module _ {M : Type 1} {𝓤 : Ura M} {𝓛 : Logic 𝓤} {K : Type 0} {Γ : List (Item 𝓤)} {G : Goal 𝓤 𝓛.H} where
  pub numbers_twice : K → (w : Width) (ℓ : Lifetime) (κ : Lft) (s : Bor (List ℕ)) → Step K 𝓛 (‵ (OwnNumbers w ℓ κ s) ∷ ‵ (OwnNumbers w ℓ κ s) ∷ Γ) G (‵ (OwnNumbers w ℓ κ s) ∷ Γ) G
  numbers_twice t w ℓ κ s =
      cut (‵ (OwnNumbers w ℓ κ s) ∷ []) (‵ (OwnNumbers w ℓ κ s) ∷ ‵ (OwnNumbers w ℓ κ s) ∷ []) Γ ((shr_slice_copy 𝓛 ℓ κ (UInt w) (uint_row_laws w)).twice s (own_slice_val s ∷ []))

  pub slice_twice : K → (ℓ : Lifetime) (κ : Lft) (s : Bor (List ℕ)) → Step K 𝓛 (‵ (OwnSlice ℓ κ s) ∷ ‵ (OwnSlice ℓ κ s) ∷ Γ) G (‵ (OwnSlice ℓ κ s) ∷ Γ) G
  slice_twice t = numbers_twice t w8

-- What a function returns.
abbrev Result : (E : Ended) → Lfts E.signature.lifetimes → RattleType
Result E κs = type_at E.signature.result κs

module _ {M : Type 1} {𝓤 : Ura M} {𝓛 : Logic 𝓤} {K : Type 0} {Γ : List (Item 𝓤)} {G : Goal 𝓤 𝓛.H} where
  -- A callee has returned: the result, the tokens, and what its contract says.
  pub gave : K → Soaks G → (E : Ended) (c : Clauses 𝓤 E) (y : (triple_of 𝓛 E.signature (closing 𝓛 E c)).Ghost) (w : Val)
      → ((r : (Result E y.0.0).Denot) → Is (Result E y.0.0) r (w ∷ []) → Seq K 𝓛 (‵ ((Result E y.0.0).own_val r (w ∷ [])) ∷ raw (alive 𝓛 E.signature y.0.0 y.0.1) ∷ raw (ensured 𝓛 E c y.0.0 y.0.3 y.1 r) ∷ Γ) G)
      → Seq K 𝓛 (raw ((triple_of 𝓛 E.signature (closing 𝓛 E c)).post y w) ∷ Γ) G
  gave t z E c y w k =
      let R = Result E y.0.0 in
      use1 𝓛 (later (some (λ (r : R.Denot). (raw (alive 𝓛 E.signature y.0.0 y.0.1) ⊛ ‵ (R.own_val r (w ∷ []))) ⊛ raw (ensured 𝓛 E c y.0.0 y.0.3 y.1 r)))) (id⊢ 𝓤 _) $ await t z $ pick t (λ r.
      split t $ split t $ move t (1 ∷ []) $ peeks t R (Is R) (shows 𝓛 R) r (w ∷ []) (k r))

  -- The same, where of what the contract says a fact φ of the result is kept.
  pub answered : K → Soaks G → (E : Ended) (c : Clauses 𝓤 E) (y : (triple_of 𝓛 E.signature (closing 𝓛 E c)).Ghost) (w : Val) (φ : (Result E y.0.0).Denot → Type 0)
      → ((r : (Result E y.0.0).Denot) (e : AtExit E y.0.0) → ent 𝓤 ((c y.0.0 y.0.3).ensures y.1 r e) (fact 𝓤 (φ r)))
      → ((r : (Result E y.0.0).Denot) → φ r → Is (Result E y.0.0) r (w ∷ []) → Seq K 𝓛 (‵ ((Result E y.0.0).own_val r (w ∷ [])) ∷ raw (alive 𝓛 E.signature y.0.0 y.0.1) ∷ Γ) G)
      → Seq K 𝓛 (raw ((triple_of 𝓛 E.signature (closing 𝓛 E c)).post y w) ∷ Γ) G
  answered t z E c y w φ told k =
      gave t z E c y w (λ r is.
      move t (2 ∷ []) $ use1 𝓛 (raw (fact 𝓤 (φ r))) (ex_e 𝓤 _ (λ ws. via 𝓤 _ (snd∗ 𝓤 (sem 𝓛 (lasts E y.0.0 y.0.3 ws)) _) (told r (at_exit E y.0.0 y.0.3 ws)))) $
      heard t (φ r) (λ e. k r e is))

-- What a callee of the function's own contract gave is handed back.
pub hands_back : {M : Type 1} {𝓤 : Ura M} (𝓛 : Logic 𝓤) → (E : Ended) (c : Clauses 𝓤 E) (y : (triple_of 𝓛 E.signature (closing 𝓛 E c)).Ghost) (w : Val) (r : (Result E y.0.0).Denot)
    → ent 𝓤 (⋆ 𝓛 (‵ ((Result E y.0.0).own_val r (w ∷ [])) ∷ raw (alive 𝓛 E.signature y.0.0 y.0.1) ∷ raw (ensured 𝓛 E c y.0.0 y.0.3 y.1 r) ∷ [])) ((triple_of 𝓛 E.signature (closing 𝓛 E c)).post y w)
hands_back {𝓤 = 𝓤} 𝓛 E c y w r =
    qed 𝓛 (‵ ((Result E y.0.0).own_val r (w ∷ [])) ∷ raw (alive 𝓛 E.signature y.0.0 y.0.1) ∷ raw (ensured 𝓛 E c y.0.0 y.0.3 y.1 r) ∷ []) ∵ updating ! $ at_once ! $
    show ! (λ (x : (Result E y.0.0).Denot). sep 𝓤 (Back 𝓛 E.signature y.0 w x) (ensured 𝓛 E c y.0.0 y.0.3 y.1 x)) r $ move ! (1 ∷ 0 ∷ []) $ join ! $ frame ! $ done !

-- A function that calls one other meets its contract D', by a walk of its MIR that knows the other's, D.
module _ {M : Type 1} {𝓤 : Ura M} (𝓛 : Logic 𝓤) (𝓜 : Model 𝓤 𝓛.H) (𝓡 : Running 𝓤 𝓛.H 𝓜) where
  open 𝓛 use {H}

  module _ (env : Env) (key callee : Callee) (f : Fn) (closed : Closed 𝓤 H (tables 𝓤 H 𝓜 𝓡 env).C (tables 𝓤 H 𝓜 𝓡 env).Λ key f) (D : Contract 𝓤) where
    pub by_call : (D' : Contract 𝓤) → ((𝓣 : Tables 𝓤 H) → Triple 𝓤 (𝓣.C callee) D → Triple 𝓤 (WpFn 𝓤 H 𝓣.C 𝓣.Λ f) D') → (r : Routine) → env callee ≡ r → Triple 𝓤 (𝓡.run r) D → Triple 𝓤 ((tables 𝓤 H 𝓜 𝓡 env).C key) D'
    unfolding tables_of
    by_call D' walk r means met = entered 𝓤 H D' (tables 𝓤 H 𝓜 𝓡 env).C (tables 𝓤 H 𝓜 𝓡 env).Λ key f closed (walk (tables_of 𝓤 H 𝓜 (tables 𝓤 H 𝓜 𝓡 env)) (cited 𝓤 H D 𝓜 𝓡 env callee r means met))

    pub by_walk : (E : Ended) (hs : Stays E.signature.params E.kept) (c : Clauses 𝓤 E) → AllGo 𝓛 E.signature.lifetimes E.signature.params E.kept hs
        → ((C : Calls 𝓤 H) (Λ : Loops 𝓤 H) → FmC 𝓤 H 𝓛.laws C → Triple 𝓤 (C callee) D → Walks 𝓛 E hs (WpFn 𝓤 H C Λ f) c)
        → (r : Routine) → env callee ≡ r → Triple 𝓤 (𝓡.run r) D → Triple 𝓤 ((tables 𝓤 H 𝓜 𝓡 env).C key) (triple_of 𝓛 E.signature (closing 𝓛 E c))
    by_walk E hs c goes walks =
        by_call (triple_of 𝓛 E.signature (closing 𝓛 E c)) (λ 𝓣 known.
        walk_Meets 𝓛 E hs goes c (WpFn 𝓤 H 𝓣.C 𝓣.Λ f) (WpFn-mono 𝓤 H 𝓛.laws 𝓣 f) (walks 𝓣.C 𝓣.Λ (fm_of 𝓤 H 𝓛.laws 𝓣) known))
