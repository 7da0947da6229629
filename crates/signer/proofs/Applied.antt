-- The theorem at one seed and one list of three signings, of which the second is refused: two accepted ones, with different leaves, and both pass;
-- so the check hands back different leaves.
use Prim.Native.Nat.{ℕ}
use native.Mathlib.Omega.{arith}
use mathlib.Core.Path.{◌≡◌, refl, sym, ◌∙◌}
use mathlib.Core.Bool.{true}
use mathlib.Core.List.{List, [], ◌∷◌}
use lib.ListN.{replicate}
use Rattle.lms.specs.Layout.{leaf}
use Rattle.lms.specs.Check.{check_of}
use Rattle.lms.proofs.LeafLaw.{leaf_law}
use Rattle.signer.specs.declared.state.Signer.{Signer}
use Rattle.signer.specs.Nodes.{key_of}
use Rattle.signer.specs.Answers.{SignedMessage, make_of, sign_of}
use Rattle.signer.specs.Signings.{Signing, signings, leaves, Passing, more, SignerSafe}
use Rattle.signer.proofs.Signings.{signer_theorem}

abbrev seed : List ℕ
seed = replicate 32 7

abbrev I : List ℕ
I = replicate 16 9

abbrev good : Signing
good = record { nonce = replicate 32 1; message = 5 ∷ [] }

abbrev short : Signing
short = record { nonce = replicate 31 1; message = 5 ∷ [] }

abbrev three : List Signing
three = good ∷ short ∷ good ∷ []

abbrev made : Signer
made = (make_of seed I).signer

-- The answers, one by one.
abbrev first : SignedMessage
first = sign_of made good.nonce good.message

abbrev second : SignedMessage
second = sign_of first.signer short.nonce short.message

abbrev third : SignedMessage
third = sign_of second.signer good.nonce good.message

safe : SignerSafe made three
unfolding make_of
safe = signer_theorem seed I refl three

pub refusals : (first.signature.refusal ≡ 0) × (second.signature.refusal ≡ 2) × (third.signature.refusal ≡ 0)
unfolding make_of sign_of
refusals = (refl, refl, refl)

pub leaves_differ : leaf first.signature.bytes ≡ leaf third.signature.bytes → ⊥
unfolding make_of sign_of signings leaves
leaves_differ e = safe.apart 0 1 (omega arith) (omega arith) e

-- What the first of a list of answers is promised, and the rest.
head : {key : List ℕ} {x : Signing} {r : SignedMessage} {l : List Signing} {rs : List SignedMessage} → Passing key (x ∷ l) (r ∷ rs)
    → r.signature.refusal ≡ 0 → (check_of key x.message r.signature.bytes).verdict ≡ true
head (more p rest) = p

tail : {key : List ℕ} {x : Signing} {r : SignedMessage} {l : List Signing} {rs : List SignedMessage} → Passing key (x ∷ l) (r ∷ rs) → Passing key l rs
tail (more p rest) = rest

pub both_pass : ((check_of (key_of seed I) good.message first.signature.bytes).verdict ≡ true)
    × ((check_of (key_of seed I) good.message third.signature.bytes).verdict ≡ true)
unfolding make_of sign_of signings
both_pass = (head safe.passes refl, head (tail (tail safe.passes)) refl)

pub handed_back_differ : (check_of (key_of seed I) good.message first.signature.bytes).leaf ≡ (check_of (key_of seed I) good.message third.signature.bytes).leaf → ⊥
handed_back_differ e = leaves_differ (sym ((leaf_law _ _ _).good both_pass.0) ∙ e ∙ (leaf_law _ _ _).good both_pass.1)
