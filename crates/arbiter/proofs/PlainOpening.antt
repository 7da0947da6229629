-- The plain opening fails by its id alone.
use mathlib.Core.Path.{◌≡◌}
use mathlib.Core.List.{List}
use Prim.Native.Nat.{ℕ}
use lib.ListN.{length}
use borrow.Author.Tests.{eq-eqb, ne_eqb}
use Rattle.wire.specs.Parts.{part}
use Rattle.calendar.specs.Days.{rising}
use Rattle.machine.specs.Checks.{ask}
use Rattle.machine.specs.Opening.{plainly, setup_of, fresh_book, fresh, opening}
use Rattle.machine.specs.declared.state.Book.{Book}
use Rattle.arbiter.proofs.Openings.{part_all}

pub plainly_no : (lent : Book) (id : List ℕ) → (length id ≡ 16 → ⊥) → record { book = lent; refusal = 2 } ≡ opening lent (plainly id)
unfolding opening ask rising
plainly_no lent id h = rw (ne_eqb _ _ h)

pub plainly_yes : (lent : Book) (id : List ℕ) → length id ≡ 16 → (b : Book) → b ≡ fresh_book (part id 0 16) (setup_of (plainly id)) → record { book = b; refusal = 0 } ≡ opening lent (plainly id)
unfolding fresh opening ask rising
plainly_yes lent id h b e = rw (eq-eqb _ _ h, e, part_all id h)
