-- A run is a list of commands.
use Prim.Native.Nat.{ℕ, suc}
use native.Mathlib.Omega.{arith}
use mathlib.Core.Path.{◌≡◌, refl, sym, ap, ◌∙◌}
use mathlib.Core.List.{List, [], ◌∷◌, ◌++◌, flatten}
use lib.ListN.{length, drop}
use lib.Seq.{take-add, drop-drop}
use Rattle.ledger.specs.Ledger.{Entry, after}
use Rattle.machine.specs.declared.state.Book.{Book}
use Rattle.journal.specs.declared.lines.Line.{Line}
use Rattle.journal.specs.Runs.{turned_of, run_of}
use Rattle.journal.specs.Divided.{divided, told, RunMeans}
use Rattle.journal.proofs.Turning.{fits, ahead, command, line, first_command, Claim, AtStop, AtTurn, by_turns}

-- ---- its book, its history and its numbers

abbrev Means : Claim
Means b cs ls l d = (h : List Entry) → RunMeans b h cs ls l d

means_stopped : AtStop Means
unfolding after told flatten
means_stopped b cs ls s h = record { list = refl; count = refl; used = refl; kept = refl }

means_turned : AtTurn Means
unfolding after told flatten turned_of
means_turned b cs l ls m d g r h =
    let k = r (record { string = command cs ls; answer = (line cs ls b).answer } ∷ h) in
    record {
      list = k.list;
      count = omega (arith, k.count);
      used = ap (λ (t : List ℕ). command cs ls ++ t) k.used ∙ sym (take-add (ahead cs ls).size d.used cs);
      kept = k.kept;
    }

pub run_means : (b : Book) (h : List Entry) (cs : List ℕ) (ls : List Line) → RunMeans b h cs ls (divided (length ls) cs) (run_of b cs ls)
run_means b h cs ls = by_turns Means means_stopped means_turned b cs ls h

-- ---- the commands of a run with more lines

module _ (ms : List Line) where
  abbrev Divides : Claim
  Divides b cs ls l d = d.cause ≡ 13 → divided (length (ls ++ ms)) cs ≡ l ++ divided (length ms) (drop d.used cs)

  divides_stopped : AtStop Divides
  divides_stopped b cs [] s e = refl
  divides_stopped b cs (l ∷ ls) s e = absurd (omega (arith, ((fits cs (suc (length ls))).short e).0))

  divides_turned : AtTurn Divides
  divides_turned b cs l ls m d g r e =
      first_command cs ls (length (ls ++ ms)) g
      ∙ ap (λ (k : List (List ℕ)). command cs ls ∷ k) (r e ∙ ap (λ (t : List ℕ). m ++ divided (length ms) t) (drop-drop d.used (ahead cs ls).size cs))

  pub more_commands : (b : Book) (cs : List ℕ) (ls : List Line) → Divides b cs ls (divided (length ls) cs) (run_of b cs ls)
  more_commands b cs ls = by_turns Divides divides_stopped divides_turned b cs ls
