-- The parts of the check, put together.
use Rattle.std.proofs.Common.{ℕ, ◌+◌, Bool, true, false, cond, ◌≡◌, refl, ap, List}
use Rattle.std.specs.Prelude.{Option, is_some, unwrap_or}
use Rattle.std.specs.Bool.{then_some}
use Rattle.wire.specs.Parts.{same}
use Rattle.lms.specs.declared.one_time.Walked.{Walked}
use Rattle.lms.specs.Layout.{identifier, root, leaf, nonce, path}
use Rattle.lms.specs.OneTime.{message_hash, leaf_key, step_count}
use Rattle.lms.specs.Tree.{leaf_node, climb}
use Rattle.lms.specs.Check.{Checked, verified_of}
use Rattle.lms.proofs.verified.Goals as goal

is_good : (v : Bool) (q : ℕ) → is_some (then_some v q) ≡ v
is_good true q = refl
is_good false q = refl

handed : (v : Bool) (q : ℕ) → unwrap_or (then_some v q) 0 ≡ cond v q 0
handed true q = refl
handed false q = refl

together : (key message signature I C Q k x top r : List ℕ) (q steps : ℕ) (p : List (List ℕ)) (v : Bool) (o : Option ℕ)
    → I ≡ identifier key → q ≡ leaf signature → C ≡ nonce signature → Q ≡ message_hash I q C message → k ≡ leaf_key I q Q signature → steps ≡ step_count Q
    → x ≡ leaf_node I (1024 + q) k → p ≡ path signature → top ≡ climb I (1024 + q) x p 10 → r ≡ root key → v ≡ same top r → o ≡ then_some v q
    → ◌≡◌ {A = Checked} (record { refusal = 0; verdict = is_some o; steps = steps; leaf = unwrap_or o 0 }) (verified_of key message signature)
unfolding verified_of
together key message signature I C Q k x top r q steps p v o eI eq eC eQ ek es ex ep et er ev eo = cc (is_good v q, handed v q)

pub returns : goal.returns
returns c =
    let a = c.args in
    together a.key.now a.message.now a.signature.now _ _ _ _ _ _ _ _ _ _ _ _ c.array_at-id.ensures c.u32_at-number.ensures c.array_at.ensures
    c.message_hash-hash.ensures (ap (λ (w : Walked). w.key) c.leaf_key-walked.ensures) (ap (λ (w : Walked). w.steps) c.leaf_key-walked.ensures)
    c.leaf_node.ensures c.path_of.ensures c.climbed-top.ensures c.array_at-2.ensures c.same-good.ensures c.then_some.ensures
