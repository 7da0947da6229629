-- The parts of a signature, put together.
use Rattle.std.proofs.Common.{◌≡◌, ap, ◌∙◌, ℕ, ◌<◌, List, [], ◌++◌, length, get_or, replicate, length-append, arith}
use lib.Seq.{paste}
use Rattle.wire.specs.Numbers.{bytes}
use Rattle.wire.proofs.Laws.{bytes_length}
use Rattle.lms.specs.OneTime.{message_hash, digits}
use Rattle.lms.specs.Rows.{row}
use Rattle.signer.specs.declared.state.Node.{Node}
use Rattle.signer.specs.Signature.{path_of, signed_string, signature_of}
use Rattle.signer.proofs.Chains.{string_length}
use Rattle.signer.proofs.Parts.{row_length, row_same, put_on}
use Rattle.signer.proofs.signing.write_signature.Goals as goal

together : (seed C message I Q ds begun s six t r : List ℕ) (path : ℕ → List ℕ) (nodes : List Node) (q : ℕ) → length C ≡ 32 → Q ≡ message_hash I q C message
    → ds ≡ digits Q → begun ≡ bytes 4 q ++ bytes 4 4 ++ C ++ replicate 1412 0
    → ((a : List ℕ) → length a ≡ 40 → begun ≡ a ++ replicate 1412 0 → s ≡ a ++ row (signed_string seed I q ds) 34 ++ replicate 324 0) → six ≡ bytes 4 6
    → t ≡ paste s 1128 six (length six) → ((a : List ℕ) → length a ≡ 1132 → t ≡ a ++ replicate 320 0 → r ≡ a ++ row (path) 10)
    → ((i : ℕ) → i < 10 → path i ≡ path_of nodes q i)
    → r ≡ signature_of seed I nodes q C message
unfolding signature_of
together seed C message I Q ds begun s six t r path nodes q lC eQ ed eb fs e₆ et fr same =
    let a : List ℕ = bytes 4 q ++ bytes 4 4 ++ C in
    let S : List ℕ = row (signed_string seed I q ds) 34 in
    let la : length a ≡ 40 =
    length-append (bytes 4 q ++ bytes 4 4) C ∙ omega (arith, length-append (bytes 4 q) (bytes 4 4), bytes_length 4 q, bytes_length 4 4) in
    let lS : length (a ++ S) ≡ 1128 =
    length-append a S ∙ omega (arith, row_length (signed_string seed I q ds) (λ i. string_length seed I q i _) 34) in
    let l₆ : length six ≡ 4 = ap length e₆ ∙ bytes_length 4 6 in
    let l : length (a ++ S ++ six) ≡ 1132 = length-append (a ++ S) six ∙ omega arith in
    let w : t ≡ a ++ S ++ six ++ replicate 320 0 = put_on (a ++ S) six s t 1128 4 320 (fs a la eb) et lS l₆ in
    fr (a ++ S ++ six) l w
    ∙ ap (λ (x : List ℕ). a ++ S ++ six ++ x) (row_same (path) (path_of nodes q) 10 same)
    ∙ ap (λ (x : List ℕ). a ++ S ++ x ++ row (path_of nodes q) 10) e₆
    ∙ ap (λ (x : List ℕ). a ++ row (signed_string seed I q x) 34 ++ bytes 4 6 ++ row (path_of nodes q) 10) (ed ∙ ap digits eQ)

pub returns : goal.returns
returns c nodes same =
    let a = c.args in
    together a.seed a.nonce a.message.now a.leaf.id _ _ _ _ _ _ _ (λ i. get_or a.path i []) nodes a.leaf.number (omega arith)
    c.message_hash-hash.ensures c.digits_of-digits.ensures c.write_front.ensures c.write_strings.ensures
    c.u32_bytes-six.ensures c.copy_into.ensures c.write_path.ensures same
