-- Printing a statement: what is left of it before each part.
use Rattle.std.proofs.Common.{◌≡◌, ℕ, ◌+◌, ◌-◌, ◌≤◌, ◌<◌, Bool, true, false, cond, List, [], ◌∷◌, ◌++◌, Ok, Err, Continue, Break, length, drop, ltb, eqb, sym, ap, ◌∙◌, refl, append_assoc, arith}
use borrow.Author.Tests.{eqb-true, eqb-false, ltb-false}
use lib.ListN.{length-drop}
use mathlib.Core.Bool.{true≢false, false≢true}
use Rattle.journal.specs.Runs.{Done}
use Rattle.report.specs.declared.parts.Part.{Part as Handed}
use Rattle.report.specs.declared.parts.Reached.{Reached}
use Rattle.report.specs.declared.parts.Refused.{Refused}
use Rattle.report.specs.Lines.{no_book, too_long}
use Rattle.report.specs.Statement.{opened_by, statement_of, journal_text}
use Rattle.report.specs.Parts.{Part, shown, stored, begun, whole, ran_from, first_part, next_part, told, first_of, handed}
use Rattle.report.proofs.Buffers.{shown_stored}
use Rattle.report.proofs.Going.{goes}
use Rattle.report.proofs.Joined.{rest_text, last_text, more_text, begun_text}

-- What was said and what is left are the statement, and the next part may be asked for.
pub record Ahead (input said : List ℕ) (x : Reached) : Type 0 where
  pub all : said ++ rest_text (length (drop 16 input)) (drop 16 input) x ≡ statement_of input
  pub place : 16 + x.used ≤ length input
  pub number : x.number ≤ x.used + 1

-- ---- the first part

module _ (input : List ℕ) where
  begun_by : (a b : Bool) (x : Reached) → ltb (length input) 16 ≡ a
      → first_of (Ok x) ≡ cond a (whole no_book) (cond b (whole too_long) (record { text = stored []; more = true; next = begun (opened_by input) }))
      → cond a no_book (cond b too_long (journal_text (opened_by input) (drop 16 input))) ≡ statement_of input → Ahead input [] x
  begun_by true b x s e w = absurd (true≢false (ap (λ (p : Part). p.more) e))
  begun_by false true x s e w = absurd (true≢false (ap (λ (p : Part). p.more) e))
  begun_by false false x s e w =
      let h = ltb-false (length input) 16 s in
      let y : x ≡ begun (opened_by input) = ap (λ (p : Part). p.next) e in
      rw y (record { all = begun_text (opened_by input) (drop 16 input) ∙ w; place = omega arith; number = omega arith })

  pub begun_ahead : (x : Reached) → first_of (Ok x) ≡ first_part input → Ahead input [] x
  unfolding first_part statement_of
  begun_ahead x e = begun_by (ltb (length input) 16) (ltb 65536 (length input)) x refl e refl

  refused_by : (a b : Bool) (r : Refused)
      → first_of (Err r) ≡ cond a (whole no_book) (cond b (whole too_long) (record { text = stored []; more = true; next = begun (opened_by input) }))
      → told r ++ (10 ∷ []) ≡ cond a no_book (cond b too_long (journal_text (opened_by input) (drop 16 input)))
  refused_by true b r e = sym (shown_stored (told r ++ (10 ∷ []))) ∙ ap (λ (p : Part). shown p.text) e ∙ shown_stored no_book
  refused_by false true r e = sym (shown_stored (told r ++ (10 ∷ []))) ∙ ap (λ (p : Part). shown p.text) e ∙ shown_stored too_long
  refused_by false false r e = absurd (false≢true (ap (λ (p : Part). p.more) e))

  -- An input that is refused: the line that tells it is the statement.
  pub refused_said : (r : Refused) → first_of (Err r) ≡ first_part input → told r ++ (10 ∷ []) ≡ statement_of input
  unfolding first_part statement_of
  refused_said r e = refused_by (ltb (length input) 16) (ltb 65536 (length input)) r e

-- ---- the part after it

module _ (input said : List ℕ) (x : Reached) (a : Ahead input said x) where
  abbrev cs : List ℕ
  cs = drop 16 input

  abbrev d : Done
  d = ran_from cs x

  abbrev q : Part
  q = next_part cs x

  fits : length cs - x.used ≤ length cs
  fits = omega arith

  -- The place from which the next part follows.
  follows : d.cause ≡ 13 → Ahead input (said ++ shown q.text) q.next × (x.used < q.next.used)
  unfolding next_part
  follows e =
      let l = length-drop 16 input in
      let k = goes cs x (omega (arith, a.place)) in
      let s = k.moves e in (
        record {
          all = append_assoc said (shown q.text) (rest_text (length cs) cs q.next) ∙ ap (λ (t : List ℕ). said ++ t) (more_text (length cs) cs x fits e) ∙ a.all;
          place = omega (arith, k.bytes, a.place);
          number = omega (arith, k.each, a.number);
        },
        omega arith,
      )

  follows_by : (m : Bool) (y : Reached) → eqb d.cause 13 ≡ m → cond m (Continue q.next) (Break q.next) ≡ Continue y → Ahead input (said ++ shown q.text) y × (x.used < y.used)
  follows_by true y m e = let n : y ≡ q.next = cc in rw n (follows (eqb-true d.cause 13 m))
  follows_by false y m e = cc

  pub next_ahead : (p : Handed) (y : Reached) → p ≡ handed q → p.next ≡ Continue y → Ahead input (said ++ p.text.items) y × (x.used < y.used)
  unfolding next_part
  next_ahead p y h e =
      let t : p.text.items ≡ shown q.text = ap (λ (p : Handed). p.text.items) h in
      rw t (follows_by (eqb d.cause 13) y refl (sym (ap (λ (p : Handed). p.next) h) ∙ e))

  last_by : (m : Bool) (y : Reached) → eqb d.cause 13 ≡ m → cond m (Continue q.next) (Break q.next) ≡ Break y → said ++ shown q.text ≡ statement_of input
  last_by true y m e = cc
  last_by false y m e = ap (λ (t : List ℕ). said ++ t) (last_text (length cs) cs x fits (eqb-false d.cause 13 m)) ∙ a.all

  -- With the last part all is said.
  pub all_said : (p : Handed) (y : Reached) → p ≡ handed q → p.next ≡ Break y → said ++ p.text.items ≡ statement_of input
  unfolding next_part
  all_said p y h e =
      let t : p.text.items ≡ shown q.text = ap (λ (p : Handed). p.text.items) h in
      rw t (last_by (eqb d.cause 13) y refl (sym (ap (λ (p : Handed). p.next) h) ∙ e))
