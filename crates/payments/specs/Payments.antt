-- Document 02, No. 6: a payment is a party, a channel n and an amount.
use Rattle.std.specs.Prelude.{ℕ, Bool, ◌||◌, List, [], ◌∷◌, eqb, get_or}
use Rattle.machine.specs.Book.{cents}
use Rattle.payments.specs.declared.lists.Party.{Party}
use Rattle.payments.specs.declared.lists.Party.TheVariants.{Customer, Merchant}
use Rattle.payments.specs.declared.lists.Payment.{Payment}

abbrev pub payment : ℕ → ℕ → ℕ → Payment
payment party n amount = record { party = party; channel = n; amount = cents amount }

-- 1 the customer, 2 the merchant.
abbrev pub is_party : ℕ → Bool
is_party p = eqb p 1 || eqb p 2

abbrev pub number_of_party : Party → ℕ
number_of_party Customer = 1
number_of_party Merchant = 2

-- A payment as a lent list holds it.
unfoldable pub listed : Payment → List ℕ
listed p = p.party ∷ p.channel ∷ p.amount.0 ∷ []

unfoldable pub payment_of : List ℕ → Payment
payment_of e = payment (get_or e 0 0) (get_or e 1 0) (get_or e 2 0)
