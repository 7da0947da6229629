use Rattle.std.proofs.Common.{ap, sym, ◌∙◌}
use Rattle.signer.specs.Answers.{MadeKey, code_of}
use Rattle.signer.proofs.Answered.{make_seed, make_id, make_right, length_only}
use Rattle.signer.proofs.making.make.Goals as goal

pub returns-in_err-seed : goal.returns-in_err-seed
returns-in_err-seed c =
    let e = sym (make_seed _ c.args.id.now c.in_err-seed.ensures.1) in
    record {
      refusal = ap code_of (length_only _ c.from_residual.ensures.1) ∙ ap (λ (m : MadeKey). m.refusal) e;
      signer = c.no_signer.ensures ∙ ap (λ (m : MadeKey). m.signer) e;
    }

pub returns-in_err-id : goal.returns-in_err-id
returns-in_err-id c =
    let e = sym (make_id c.args.seed.now _ c.in_err-id.ensures.1) in
    record {
      refusal = ap code_of (length_only _ c.from_residual-in_err-id.ensures.1) ∙ ap (λ (m : MadeKey). m.refusal) e;
      signer = c.no_signer.ensures ∙ ap (λ (m : MadeKey). m.signer) e;
    }

pub returns : goal.returns
returns c =
    let e = sym (make_right _ _ _ _ c.in_ok-seed.ensures.1 c.in_ok-id.ensures.1) in
    record { refusal = ap (λ (m : MadeKey). m.refusal) e; signer = c.fresh.ensures ∙ ap (λ (m : MadeKey). m.signer) e }
