-- The bound of the fee, the fee in parts that stay within 64 bits, and what an answer that is charged pays.
use mathlib.Core.Path.{◌≡◌, sym, ap, ◌∙◌}
use Prim.Native.Nat.{ℕ, ◌+◌, ◌*◌, ◌-◌, ◌/◌, ◌%◌, ◌≤◌}
use native.Mathlib.Omega.{arith}
use native.Mathlib.Nat.{mul-add-div_right, mul-le-mul_left, sub-add_cancel, zero-mul}
use Rattle.machine.specs.Book.{cents, highest}
use Rattle.machine.specs.Fee.{fee_of, charged, FeeBound}
use Rattle.machine.specs.declared.units.Cents.{Cents}
use Rattle.machine.specs.declared.answers.Answer.{Answer}

halves : (x y : ℕ) → (x / 10000 + y / 10000 ≤ (x + y) / 10000) × ((x + y) / 10000 ≤ x / 10000 + y / 10000 + 1)
halves x y = omega arith

pub fee_bound : (r amount d : ℕ) → FeeBound r amount d
fee_bound r a d =
    let e : (a + d) * r ≡ a * r + d * r = omega arith in
    let h = rw (← e) at (halves (a * r) (d * r)) in
    record { least = h.0; most = h.1 }

-- As the code takes it: no product passes 64 bits.
pub fee_parts : (r amount : ℕ) → amount / 10000 * r + amount % 10000 * r / 10000 ≡ fee_of r amount
fee_parts r a =
    let q = a / 10000 in
    let e : a * r ≡ q * r * 10000 + a % 10000 * r = ap (λ (x : ℕ). x * r) whole ∙ omega arith in
    sym (ap (λ (x : ℕ). x / 10000) e ∙ mul-add-div_right (omega arith) (q * r) (a % 10000 * r))
  where
    whole : a ≡ a / 10000 * 10000 + a % 10000
    whole = omega arith

-- A fee within its limit is at most the amount, so that fee and rest make the amount.
pub fee_below : (r amount : ℕ) → r ≤ highest → fee_of r amount ≤ amount
fee_below r a h =
    let m : a * r ≤ a * 10000 = mul-le-mul_left a (omega arith) in
    omega arith

pub charged_whole : (r : ℕ) (a : Answer) → r ≤ highest → (charged r a).merchant.0 + (charged r a).fee.0 ≡ a.merchant.0
unfolding charged
charged_whole r a h = sub-add_cancel (fee_below r a.merchant.0 h)

pub charged_divided : (r : ℕ) (a : Answer) → r ≤ highest → (charged r a).fee.0 ≡ fee_of r ((charged r a).merchant.0 + (charged r a).fee.0)
unfolding charged
charged_divided r a h = ap (fee_of r) (sym (charged_whole r a h))

no_fee : (r : ℕ) → fee_of r 0 ≡ 0
no_fee r = rw (zero-mul r)

-- Where the merchant is paid nothing there is no fee.
pub free : (r : ℕ) (a : Answer) → a.merchant ≡ cents 0 → a.fee ≡ cents 0 → charged r a ≡ a
unfolding charged
free r a m f =
    ap (λ (x : Cents). pays (cents (x.0 - fee_of r x.0)) (cents (fee_of r x.0))) m ∙ ap (λ (n : ℕ). pays (cents (0 - n)) (cents n)) (no_fee r)
    ∙ ap (λ (x : Cents). pays x (cents 0)) (sym m) ∙ ap (pays a.merchant) (sym f)
  where
    pays : Cents → Cents → Answer
    pays merchant fee = record { customer = a.customer; merchant = merchant; steps = a.steps; refusal = a.refusal; fee = fee }
