-- Document 02, No. 6: what was written comes back, and an accepted byte string is the only one for its list.
use Rattle.std.specs.Prelude.{ℕ, ◌*◌, ◌≤◌, ◌≡◌, List, map, length, take}
use Rattle.wire.specs.Parts.{pasted}
use Rattle.payments.specs.Payments.{listed, payment_of}
use Rattle.payments.specs.Answers.{accepted, Filled, write_of, read_of}
use Rattle.payments.specs.declared.lists.Payment.{Payment}

-- The bytes that writing l put into the buffer, and the entries that a call put into its list.
abbrev pub wrote : List Payment → List ℕ → List ℕ
wrote l buffer = take (11 * length l) (write_of l buffer).buffer

abbrev pub got : Filled → List (List ℕ)
got f = take f.answer.payments f.list

pub record BankLines : Type 0 where
  -- every payment list that was written comes back equal in a list long enough
  pub returns : (l : List Payment) (buffer : List ℕ) (list : List (List ℕ)) → (write_of l buffer).answer.refusal ≡ 0 → length l ≤ length list
      → read_of (wrote l buffer) list ≡ record { answer = accepted (length l); list = pasted list 0 (map listed l) }
  -- a byte string that is accepted is the only one for its list
  pub only : (x y : List ℕ) (list other : List (List ℕ)) → (read_of x list).answer.refusal ≡ 0 → (read_of y other).answer.refusal ≡ 0
      → got (read_of x list) ≡ got (read_of y other) → x ≡ y
  -- it is the one that is written for that list
  pub again : (x : List ℕ) (list : List (List ℕ)) (buffer : List ℕ) → (read_of x list).answer.refusal ≡ 0 → length x ≤ length buffer
      → write_of (map payment_of (got (read_of x list))) buffer ≡ record { answer = accepted (length (got (read_of x list))); buffer = pasted buffer 0 x }
