-- How far a run goes: no further than the lines and the bytes there are; where a line is wanting, as far as the lines, and short of the bytes.
use Prim.Native.Nat.{ℕ, ◌≤◌, ◌<◌}
use native.Mathlib.Omega.{arith}
use mathlib.Core.Path.{◌≡◌, refl}
use mathlib.Core.List.{List, ◌∷◌}
use lib.ListN.{length, length-drop}
use Rattle.machine.specs.declared.state.Book.{Book}
use Rattle.journal.specs.declared.lines.Line.{Line}
use Rattle.journal.specs.Runs.{Done, run_of}
use Rattle.journal.proofs.Turning.{fits, ahead, Claim, AtStop, AtTurn, by_turns}

pub record Bounded (cs : List ℕ) (ls : List Line) (d : Done) : Type 0 where
  pub lent : length d.lines ≡ length ls
  pub lines : d.count ≤ length ls
  pub each : d.count ≤ d.used
  pub bytes : d.used ≤ length cs
  pub full : d.cause ≡ 13 → d.count ≡ length ls
  pub short : d.cause ≡ 13 → d.used < length cs
  pub moves : d.cause ≡ 13 → 0 < length ls → 0 < d.used

abbrev Bounds : Claim
Bounds _ cs ls _ d = Bounded cs ls d

stops : AtStop Bounds
stops b cs ls _ =
    let short = (fits cs (length ls)).short in
    record { lent = refl; lines = omega arith; each = omega arith; bytes = omega arith; full = λ e. omega (arith, (short e).0); short = λ e. (short e).1; moves = λ e some. absurd (omega (arith, (short e).0)) }

goes : AtTurn Bounds
goes b cs l ls m d g r =
    let f = fits cs (length (l ∷ ls)) in
    let k = length-drop (ahead cs ls).size cs in
    record {
      lent = omega (arith, r.lent);
      lines = omega (arith, r.lines);
      each = omega (arith, r.each, f.some g);
      bytes = omega (arith, r.bytes, k, f.there g);
      full = λ e. omega (arith, r.full e);
      short = λ e. omega (arith, r.short e, k, f.there g);
      moves = λ _ _. omega (arith, f.some g);
    }

pub run_bounds : (ls : List Line) (b : Book) (cs : List ℕ) → Bounded cs ls (run_of b cs ls)
run_bounds ls b cs = by_turns Bounds stops goes b cs ls
