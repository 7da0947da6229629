-- What `hash` answers (document 01, "Hash and lock" and the limits under "Checks").
use Rattle.std.specs.Prelude.{Bool, true, false, ℕ, List, Result, Ok, Err, leb, length, replicate}
use Rattle.sha256.specs.declared.TooLong.{TooLong}
use Rattle.sha256.specs.Digest.{sha256}

-- The refusal, or 0, and the digest.
pub record Hashed : Type 0 where
  pub refusal : ℕ
  pub digest : List ℕ

abbrev pub answer : Bool → List ℕ → Hashed
answer true m = record { refusal = 0; digest = sha256 m }
answer false m = record { refusal = 2; digest = replicate 32 0 }

-- 0 and the digest of a message of at most 65,536 bytes; 2 and 32 zeros for a longer one.
abbrev pub hash_answer : List ℕ → Hashed
hash_answer m = answer (leb (length m) 65536) m

-- The answer that a result of the code stands for.
abbrev pub answer_of : Result (List ℕ) TooLong → Hashed
answer_of (Ok d) = record { refusal = 0; digest = d }
answer_of (Err e) = record { refusal = 2; digest = replicate 32 0 }
