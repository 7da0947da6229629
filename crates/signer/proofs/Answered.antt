-- What key making and signing answer, case by case.
use Rattle.std.proofs.Common.{ap}
use Rattle.std.specs.Prelude.{◌≡◌, refl, ℕ, ◌≤◌, ◌<◌, Bool, true, false, ◌&&◌, List, eqb, leb, ltb, length, Result, Ok, Err, IsErrAnd}
use Rattle.std.specs.Array.{IsWholeChunk}
use native.Mathlib.Omega.{arith}
use mathlib.Core.Bool.{and-false}
use borrow.Author.Tests.{eq-eqb, ne_eqb, le-leb, lt-leb, lt-ltb, le-ltb}
use Rattle.lms.specs.Layout.{identifier}
use Rattle.signer.specs.declared.state.Signer.{Signer}
use Rattle.signer.specs.declared.state.Signature.{Signature}
use Rattle.signer.specs.declared.state.Refusal.{Refusal}
use Rattle.signer.specs.declared.state.Refusal.TheVariants.{Length, NoLeaf}
use Rattle.signer.specs.Signature.{signature_of}
use Rattle.signer.specs.Answers.{number_of, fresh_signer, no_signer, moved_on, make_of, no_signature, signed_by, sign_of}

-- Key making: a seed of another length, an identifier of another length, and the right ones.
module _ (seed I : List ℕ) where
  pub make_seed : (length seed ≡ 32 → ⊥) → make_of seed I ≡ record { signer = no_signer; refusal = 2 }
  unfolding make_of
  make_seed h = simp (ne_eqb _ _ h)

  pub make_id : (length I ≡ 16 → ⊥) → make_of seed I ≡ record { signer = no_signer; refusal = 2 }
  unfolding make_of
  make_id h = simp (ne_eqb _ _ h, and-false)

  pub make_right : (seed' I' : List ℕ) → IsWholeChunk seed seed' 32 → IsWholeChunk I I' 16 → make_of seed I ≡ record { signer = fresh_signer seed' I'; refusal = 0 }
  unfolding make_of
  make_right seed' I' s i = simp (eq-eqb _ _ s.long, eq-eqb _ _ i.long, s.same, i.same)

-- Signing: a nonce of another length, a longer message, no leaf left, and a signature.
module _ (s : Signer) (C m : List ℕ) where
  pub sign_nonce : (length C ≡ 32 → ⊥) → (sign_of s C m).signature ≡ no_signature 2
  unfolding sign_of
  sign_nonce h = simp (ne_eqb _ _ h)

  pub sign_long : 1024 < length m → (sign_of s C m).signature ≡ no_signature 2
  unfolding sign_of
  sign_long h = simp (lt-leb _ _ h, and-false)

  pub sign_none : length C ≡ 32 → length m ≤ 1024 → 1024 ≤ s.next → (sign_of s C m).signature ≡ no_signature 15
  unfolding sign_of
  sign_none p q h = simp (eq-eqb _ _ p, le-leb _ _ q, le-ltb _ _ h)

  pub sign_good : (C' : List ℕ) → IsWholeChunk C C' 32 → length m ≤ 1024 → s.next < 1024
      → sign_of s C m ≡ record { signer = moved_on s; signature = record { refusal = 0; bytes = signature_of s.seed (identifier s.key) s.nodes s.next C' m } }
  unfolding sign_of
  sign_good C' p q h = simp (eq-eqb _ _ p.long, le-leb _ _ q, lt-ltb _ _ h, p.same)

  -- The signer that is left, by the answer: as it is where that is a refusal, else moved on.
  left_kept : (a b : Bool) (r : Refusal) → no_signature (number_of r) ≡ (signed_by a b s C m).signature → s ≡ (signed_by a b s C m).signer
  left_kept false b r e = refl
  left_kept true false r e = refl
  left_kept true true Length e = absurd (omega (arith, ap (λ (x : Signature). x.refusal) e))
  left_kept true true NoLeaf e = absurd (omega (arith, ap (λ (x : Signature). x.refusal) e))

  left_moved : (a b : Bool) (bytes : List ℕ) → record { refusal = 0; bytes = bytes } ≡ (signed_by a b s C m).signature → moved_on s ≡ (signed_by a b s C m).signer
  left_moved false b bytes e = absurd (omega (arith, ap (λ (x : Signature). x.refusal) e))
  left_moved true false bytes e = absurd (omega (arith, ap (λ (x : Signature). x.refusal) e))
  left_moved true true bytes e = refl

  pub kept : (r : Refusal) → no_signature (number_of r) ≡ (sign_of s C m).signature → s ≡ (sign_of s C m).signer
  unfolding sign_of
  kept r e = left_kept (eqb (length C) 32 && leb (length m) 1024) (ltb s.next 1024) r e

  pub moved : (bytes : List ℕ) → record { refusal = 0; bytes = bytes } ≡ (sign_of s C m).signature → moved_on s ≡ (sign_of s C m).signer
  unfolding sign_of
  moved bytes e = left_moved (eqb (length C) 32 && leb (length m) 1024) (ltb s.next 1024) bytes e

-- What a `?` hands on where a length is wrong.
pub length_only : {A : Type 0} (r : Result A Refusal) → IsErrAnd r (λ e. e ≡ Length) → r ≡ Err Length
length_only (Ok x) h = absurd h
length_only (Err e) h = ap Err h
