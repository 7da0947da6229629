-- The parts of a statement, one after the other, are the statement.
use Prim.Native.Nat.{ℕ, zero, suc, ◌+◌, ◌-◌, ◌≤◌, ◌<◌}
use native.Mathlib.Omega.{arith}
use mathlib.Core.Path.{◌≡◌, refl, sym, ap, ◌∙◌, subst}
use mathlib.Core.Bool.{Bool, true, false, cond}
use mathlib.Core.List.{List, [], ◌∷◌, ◌++◌, append-nil}
use borrow.Author.Tests.{eqb-true, eqb-false, eq-eqb, ne_eqb, ltb-true, ltb-false, lt-ltb, le-ltb}
use lib.Dec.{eqb, ltb}
use lib.ListN.{length, take, drop, length-drop, length-take}
use lib.Seq.{take_all, drop-drop}
use Rattle.machine.specs.declared.state.Book.{Book}
use Rattle.journal.specs.Runs.{Done, run_of}
use Rattle.journal.specs.Continued.{written}
use Rattle.journal.proofs.Bounds.{run_bounds}
use Rattle.report.specs.declared.parts.Reached.{Reached}
use Rattle.report.specs.Lines.{lines_from, end_line, no_book, too_long}
use Rattle.report.specs.Statement.{no_lines, journal_text, opened_by, statement_of, NoFurther}
use Rattle.report.specs.Parts.{Part, stored, shown, begun, whole, text_of, ran_from, first_part, next_part, parts_from, printed, open_ended, PartsMean}
use Rattle.report.proofs.Buffers.{shown_stored}
use Rattle.report.proofs.Going.{length_no_lines}
use Rattle.report.proofs.RunTexts.{ran_text, by_last, by_more, from_start}

-- ---- the parts after the first

-- A part that no other follows, and one that others follow.
alone : (n : ℕ) (cs : List ℕ) (p : Part) → p.more ≡ false → parts_from n cs p ≡ p ∷ []
unfolding parts_from
alone zero cs p e = refl
alone (suc n) cs p e = simp e

followed : (n : ℕ) (cs : List ℕ) (p : Part) → p.more ≡ true → parts_from (suc n) cs p ≡ p ∷ parts_from n cs (next_part cs p.next)
unfolding parts_from
followed n cs p e = simp e

-- What parts come to.
record Means (ps : List Part) (t : List ℕ) : Type 0 where
  text : printed ps ≡ t
  ends : open_ended ps ≡ false

means_alone : (p : Part) → p.more ≡ false → Means (p ∷ []) (shown p.text)
unfolding printed open_ended
means_alone p e = record { text = append-nil (shown p.text); ends = e }

means_more : (n : ℕ) (cs : List ℕ) (p q : Part) (t : List ℕ) → Means (parts_from n cs q) t → Means (p ∷ parts_from n cs q) (shown p.text ++ t)
unfolding printed open_ended parts_from
means_more zero cs p q t m = record { text = ap (λ (x : List ℕ). shown p.text ++ x) m.text; ends = m.ends }
means_more (suc n) cs p q t m = record { text = ap (λ (x : List ℕ). shown p.text ++ x) m.text; ends = m.ends }

module _ (m : ℕ) (cs : List ℕ) where
  -- The statement's text from a place on.
  abbrev pub rest_text : Reached → List ℕ
  rest_text x = ran_text x.number x.used (run_of x.book (drop x.used cs) (no_lines m))

  shown_next : (x : Reached) → shown (next_part cs x).text ≡ lines_from x.number (written (ran_from cs x)).lines ++ cond (eqb (ran_from cs x).cause 13) [] (end_line (x.used + (ran_from cs x).used) (ran_from cs x).cause)
  unfolding next_part text_of
  shown_next x = shown_stored _

  module _ (x : Reached) (h : length cs - x.used ≤ m) where
    abbrev r : Done
    r = ran_from cs x

    abbrev p : Part
    p = next_part cs x

    fits : length (drop x.used cs) ≤ m
    fits = omega (arith, length-drop x.used cs)

    -- What is printed of the last part is all that is left, and of one that others follow it begins with it.
    pub last_text : (r.cause ≡ 13 → ⊥) → shown p.text ≡ rest_text x
    last_text e =
        shown_next x
        ∙ ap (λ (y : Bool). lines_from x.number (written r).lines ++ cond y [] (end_line (x.used + r.used) r.cause)) (ne_eqb r.cause 13 e)
        ∙ sym (by_last x.book (drop x.used cs) x.number x.used m fits e)

    pub more_text : r.cause ≡ 13 → shown p.text ++ rest_text p.next ≡ rest_text x
    unfolding next_part
    more_text e =
        ap (λ (l : List ℕ). l ++ rest_text p.next)
        (shown_next x ∙ ap (λ (y : Bool). lines_from x.number (written r).lines ++ cond y [] (end_line (x.used + r.used) r.cause)) (eq-eqb r.cause 13 e) ∙ append-nil (lines_from x.number (written r).lines))
        ∙ ap (λ (l : List ℕ). lines_from x.number (written r).lines ++ ran_text (x.number + r.count) (x.used + r.used) (run_of r.book l (no_lines m))) (sym (drop-drop r.used x.used cs))
        ∙ sym (by_more x.book (drop x.used cs) x.number x.used m fits e)

    is_last : (n : ℕ) → (r.cause ≡ 13 → ⊥) → Means (parts_from n cs p) (rest_text x)
    unfolding next_part
    is_last n e =
        let no : eqb r.cause 13 ≡ false = ne_eqb r.cause 13 e in
        subst (λ (ps : List Part). Means ps (rest_text x)) (sym (alone n cs p no)) (subst (Means (p ∷ [])) (last_text e) (means_alone p no))

    is_followed : (n : ℕ) → r.cause ≡ 13 → Means (parts_from n cs (next_part cs p.next)) (rest_text p.next) → Means (parts_from (suc n) cs p) (rest_text x)
    unfolding next_part
    is_followed n e k =
        subst (λ (ps : List Part). Means ps (rest_text x)) (sym (followed n cs p (eq-eqb r.cause 13 e))) (subst (Means (p ∷ parts_from n cs (next_part cs p.next))) (more_text e) (means_more n cs p (next_part cs p.next) (rest_text p.next) k))

  joins : (n : ℕ) (x : Reached) → length cs - x.used ≤ n → length cs - x.used ≤ m → Means (parts_from n cs (next_part cs x)) (rest_text x)
  unfolding next_part
  joins zero x f h = is_last x h zero (λ e. omega (arith, (run_bounds (no_lines 64) x.book (drop x.used cs)).short e, length-drop x.used cs))
  joins (suc n) x f h = either (eqb (r x h).cause 13) refl (λ e. joins n (p x h).next (omega (arith, moves e)) (omega (arith, moves e)))
    where
      moves : (r x h).cause ≡ 13 → 0 < (r x h).used
      moves e = (run_bounds (no_lines 64) x.book (drop x.used cs)).moves e (omega (arith, length_no_lines 64))

      either : (y : Bool) → eqb (r x h).cause 13 ≡ y → ((r x h).cause ≡ 13 → Means (parts_from n cs (next_part cs (p x h).next)) (rest_text (p x h).next)) → Means (parts_from (suc n) cs (p x h)) (rest_text x)
      either true e k = let c = eqb-true (r x h).cause 13 e in is_followed x h n c (k c)
      either false e k = is_last x h (suc n) (eqb-false (r x h).cause 13 e)

-- ---- all parts

means_whole : (n : ℕ) (cs t : List ℕ) → Means (parts_from n cs (whole t)) t
means_whole n cs t = subst (λ (ps : List Part). Means ps t) (sym (alone n cs (whole t) refl)) (subst (Means (whole t ∷ [])) (shown_stored t) (means_alone (whole t) refl))

-- A book with its journal: nothing is printed yet.
unfoldable opened : Book → Part
opened b = record { text = stored []; more = true; next = begun b }

pub begun_text : (b : Book) (cs : List ℕ) → rest_text (length cs) cs (begun b) ≡ journal_text b cs
begun_text b cs = sym (from_start (run_of b cs (no_lines (length cs))))

means_journal : (n : ℕ) (b : Book) (cs : List ℕ) → length cs < n → Means (parts_from n cs (opened b)) (journal_text b cs)
unfolding opened
means_journal zero b cs h = absurd (omega arith)
means_journal (suc n) b cs h =
    let t : shown (stored []) ++ rest_text (length cs) cs (begun b) ≡ journal_text b cs =
    ap (λ (l : List ℕ). l ++ rest_text (length cs) cs (begun b)) (shown_stored []) ∙ begun_text b cs in
    subst (λ (ps : List Part). Means ps (journal_text b cs)) (sym (followed n cs (opened b) refl))
    (subst (Means (opened b ∷ parts_from n cs (next_part cs (begun b)))) t
    (means_more n cs (opened b) (next_part cs (begun b)) (rest_text (length cs) cs (begun b)) (joins (length cs) cs n (begun b) (omega arith) (omega arith))))

module _ (input : List ℕ) where
  abbrev n : ℕ
  n = length input

  abbrev book : Book
  book = opened_by input

  by_length : (x y : Bool) → ltb n 16 ≡ x
      → Means (parts_from n (drop 16 input) (cond x (whole no_book) (cond y (whole too_long) (opened book)))) (cond x no_book (cond y too_long (journal_text book (drop 16 input))))
  by_length true y e = means_whole n (drop 16 input) no_book
  by_length false true e = means_whole n (drop 16 input) too_long
  by_length false false e = means_journal n book (drop 16 input) (omega (arith, length-drop 16 input, ltb-false n 16 e))

  -- What is past 65,537 bytes changes nothing.
  past : (x : Bool) → ltb 65537 n ≡ x → statement_of (take 65537 input) ≡ statement_of input
  unfolding statement_of
  past true e =
      let l : 65537 < n = ltb-true 65537 n e in
      let k : length (take 65537 input) ≡ 65537 = length-take 65537 input ∙ omega arith in
      rw (k, le-ltb n 16 (omega arith), lt-ltb 65536 n (omega arith))
  past false e = ap statement_of (take_all 65537 input (ltb-false 65537 n e))

  pub no_further : NoFurther input
  no_further = past (ltb 65537 n) refl

  pub parts_mean : PartsMean input
  unfolding first_part statement_of opened
  parts_mean =
      let m = by_length (ltb n 16) (ltb 65536 n) refl in
      record { joined = m.text; ends = m.ends }
