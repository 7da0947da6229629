-- Document 02, No. 7: the desk's fee, r ten-thousandths of each payment to the merchant by itself, and its bound.
use Rattle.std.specs.Prelude.{ℕ, ◌+◌, ◌*◌, ◌-◌, ◌/◌, ◌≤◌}
use Rattle.machine.specs.Book.{cents}
use Rattle.machine.specs.declared.answers.Answer.{Answer}

-- The whole part of amount × r / 10,000.
abbrev pub fee_of : ℕ → ℕ → ℕ
fee_of r amount = amount * r / 10000

-- An answer with the merchant's payment divided: the fee to the desk, the rest to him. The customer pays none.
unfoldable pub charged : ℕ → Answer → Answer
charged r a = record {
  customer = a.customer;
  merchant = cents (a.merchant.0 - fee_of r a.merchant.0);
  steps = a.steps;
  refusal = a.refusal;
  fee = cents (fee_of r a.merchant.0);
}

-- An amount larger by d raises the fee by at least the whole part of d × r / 10,000, and by at most one cent more than that.
pub record FeeBound (r amount d : ℕ) : Type 0 where
  pub least : fee_of r amount + d * r / 10000 ≤ fee_of r (amount + d)
  pub most : fee_of r (amount + d) ≤ fee_of r amount + d * r / 10000 + 1
