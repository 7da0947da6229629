-- Document 01, "Signature check": what `check` answers; document 02, No. 5: the leaf that it hands back.
use Rattle.std.specs.Prelude.{ℕ, ◌+◌, ◌<◌, ◌≡◌, Bool, true, false, cond, List, leb, length, Result, Ok, Err, is_some, unwrap_or}
use Rattle.wire.specs.Parts.{same}
use Rattle.lms.specs.declared.Outcome.{Outcome}
use Rattle.sha256.specs.declared.TooLong.{TooLong}
use Rattle.lms.specs.Layout.{identifier, root, leaf, nonce, path, well_formed}
use Rattle.lms.specs.OneTime.{message_hash, leaf_key, step_count}
use Rattle.lms.specs.Tree.{leaf_node, climb}

-- The refusal, or 0; whether the signature is good; how many chain steps were made; the leaf of a good signature, else 0.
pub record Checked : Type 0 where
  pub refusal : ℕ
  pub verdict : Bool
  pub steps : ℕ
  pub leaf : ℕ

-- Q of a signature, and the value at the top of the climb from its leaf.
abbrev pub hash_of : List ℕ → List ℕ → List ℕ → List ℕ
hash_of key message signature = message_hash (identifier key) (leaf signature) (nonce signature) message

abbrev pub top_of : List ℕ → List ℕ → List ℕ → List ℕ
top_of key message signature =
    let I = identifier key in
    let node = 1024 + leaf signature in
    climb I node (leaf_node I node (leaf_key I (leaf signature) (hash_of key message signature) signature)) (path signature) 10

-- A signature whose length is right and whose leaf is one of the tree's.
pub record Formed (signature : List ℕ) : Type 0 where
  pub size : length signature ≡ 1452
  pub inside : leaf signature < 1024

-- Of a well-formed signature: yes exactly when the top is the key's root, and then its leaf. All chains are walked in either case.
unfoldable pub verified_of : List ℕ → List ℕ → List ℕ → Checked
verified_of key message signature =
    let good = same (top_of key message signature) (root key) in
    record { refusal = 0; verdict = good; steps = step_count (hash_of key message signature); leaf = cond good (leaf signature) 0 }

-- By whether the message is short enough, and whether key and signature are well formed.
abbrev pub checked_by : Bool → Bool → Checked → Checked
checked_by false formed verified = record { refusal = 2; verdict = false; steps = 0; leaf = 0 }
checked_by true false verified = record { refusal = 0; verdict = false; steps = 0; leaf = 0 }
checked_by true true verified = verified

unfoldable pub check_of : List ℕ → List ℕ → List ℕ → Checked
check_of key message signature = checked_by (leb (length message) 1024) (well_formed key signature) (verified_of key message signature)

-- The same of what the code answers: its one error is refusal 2, and a leaf is there where the signature is good.
abbrev pub answer_of : Result Outcome TooLong → Checked
answer_of (Ok o) = record { refusal = 0; verdict = is_some o.leaf; steps = o.steps; leaf = unwrap_or o.leaf 0 }
answer_of (Err e) = record { refusal = 2; verdict = false; steps = 0; leaf = 0 }
