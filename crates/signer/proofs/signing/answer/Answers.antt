-- A nonce of another length, and a signature with the path's strings.
use Rattle.std.proofs.Common.{ap, sym, ◌∙◌, List, ℕ, arith}
use Rattle.signer.specs.Signature.{signature_of}
use Rattle.std.specs.Prelude.{Result}
use Rattle.signer.specs.declared.state.Refusal.{Refusal}
use Rattle.signer.specs.Answers.{SignedMessage, answered, filled}
use Rattle.signer.proofs.Answered.{sign_nonce, sign_good, length_only}
use Rattle.signer.proofs.signing.answer.Goals as goal

pub returns-in_err-nonce-clause-signature : goal.returns-in_err-nonce-clause-signature
returns-in_err-nonce-clause-signature c =
    ap (λ (r : Result (Unit {0}) Refusal). answered (filled r c.args.signature.now)) (length_only _ c.from_residual.ensures.1) ∙ sym (sign_nonce c.args.signer.now _ c.args.message.now c.in_err-nonce.ensures.1)

pub returns-clause-signature : goal.returns-clause-signature
returns-clause-signature c =
    let s = c.args.signer.now in
    ap (λ (x : List ℕ). record { refusal = 0; bytes = x })
    (c.write_signature.ensures s.nodes c.path_of-path.ensures
    ∙ ap (λ (I : List ℕ). signature_of s.seed I s.nodes s.next c.in_ok-nonce.nonce c.args.message.now) c.array_at-id.ensures)
    ∙ sym (ap (λ (m : SignedMessage). m.signature) (sign_good s _ _ _ c.in_ok-nonce.ensures.1 (omega arith) (omega arith)))
