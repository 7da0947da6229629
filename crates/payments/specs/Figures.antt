-- Document 02, No. 6: figures of writing and reading.
use Rattle.std.specs.Prelude.{ℕ, ◌≡◌, List, [], ◌∷◌, ◌++◌, map, drop, replicate}
use Rattle.payments.specs.Payments.{payment, listed}
use Rattle.payments.specs.Packed.{packed}
use Rattle.payments.specs.Answers.{accepted, refused, write_of, read_of}
use Rattle.payments.specs.BankLines.{got}
use Rattle.payments.specs.declared.lists.Payment.{Payment}

-- A buffer of so many bytes, and a list of so many entries.
abbrev pub bytes_lent : ℕ → List ℕ
bytes_lent n = replicate n 0xEE

abbrev pub list_lent : ℕ → List (List ℕ)
list_lent n = replicate n (7 ∷ 7 ∷ 7 ∷ [])

-- The customer's and the merchant's payments of a day in channels 3 and 63.
abbrev pub two_payments : List Payment
two_payments = payment 1 3 12345 ∷ payment 2 63 999999999999999 ∷ []

abbrev pub two_entries : List ℕ
two_entries =
    0x01 ∷ 0x00 ∷ 0x03 ∷ 0x00 ∷ 0x00 ∷ 0x00 ∷ 0x00 ∷ 0x00 ∷ 0x12 ∷ 0x34 ∷ 0x5C
    ∷ 0x02 ∷ 0x00 ∷ 0x3F ∷ 0x99 ∷ 0x99 ∷ 0x99 ∷ 0x99 ∷ 0x99 ∷ 0x99 ∷ 0x99 ∷ 0x9C ∷ []

-- An entry with this party byte, n, first byte of the amount and last byte.
abbrev pub entry_with : ℕ → ℕ → ℕ → ℕ → List ℕ
entry_with party n first last = party ∷ 0x00 ∷ n ∷ first ∷ 0x00 ∷ 0x00 ∷ 0x00 ∷ 0x00 ∷ 0x00 ∷ 0x00 ∷ last ∷ []

pub record Figures : Type 0 where
  -- fifteen digits and C
  pub one : packed 1 ≡ 0x00 ∷ 0x00 ∷ 0x00 ∷ 0x00 ∷ 0x00 ∷ 0x00 ∷ 0x00 ∷ 0x1C ∷ []
  pub five_digits : drop 5 (packed 12345) ≡ 0x12 ∷ 0x34 ∷ 0x5C ∷ []
  pub largest : packed 999999999999999 ≡ 0x99 ∷ 0x99 ∷ 0x99 ∷ 0x99 ∷ 0x99 ∷ 0x99 ∷ 0x99 ∷ 0x9C ∷ []
  -- writing: bytes behind the last entry stay
  pub writes : write_of two_payments (bytes_lent 24) ≡ record { answer = accepted 2; buffer = two_entries ++ bytes_lent 2 }
  pub writes_none : write_of [] (bytes_lent 2) ≡ record { answer = accepted 0; buffer = bytes_lent 2 }
  pub too_large : write_of (payment 1 3 1000000000000000 ∷ []) (bytes_lent 11) ≡ record { answer = refused 17; buffer = bytes_lent 11 }
  pub none_to_write : write_of (payment 1 3 0 ∷ []) (bytes_lent 11) ≡ record { answer = refused 17; buffer = bytes_lent 11 }
  pub channel_64 : write_of (payment 1 64 1 ∷ []) (bytes_lent 11) ≡ record { answer = refused 17; buffer = bytes_lent 11 }
  pub channel_65541 : write_of (payment 1 65541 1 ∷ []) (bytes_lent 11) ≡ record { answer = refused 17; buffer = bytes_lent 11 }
  pub party_3 : write_of (payment 3 3 1 ∷ []) (bytes_lent 11) ≡ record { answer = refused 17; buffer = bytes_lent 11 }
  pub short_buffer : write_of two_payments (bytes_lent 21) ≡ record { answer = refused 18; buffer = bytes_lent 21 }
  pub last_wrong_and_short : write_of (two_payments ++ (payment 1 3 0 ∷ [])) (bytes_lent 0) ≡ record { answer = refused 17; buffer = bytes_lent 0 }
  -- reading: entries behind the last payment stay
  pub reads : read_of two_entries (list_lent 3) ≡ record { answer = accepted 2; list = (1 ∷ 3 ∷ 12345 ∷ []) ∷ (2 ∷ 63 ∷ 999999999999999 ∷ []) ∷ list_lent 1 }
  pub reads_none : read_of [] (list_lent 1) ≡ record { answer = accepted 0; list = list_lent 1 }
  pub ten_bytes : read_of (replicate 10 0) (list_lent 1) ≡ record { answer = refused 18; list = list_lent 1 }
  pub twelve_bytes : read_of (replicate 12 0) (list_lent 2) ≡ record { answer = refused 18; list = list_lent 2 }
  pub one_too_short : read_of two_entries (list_lent 1) ≡ record { answer = refused 18; list = list_lent 1 }
  pub good_entry : read_of (entry_with 1 63 0x00 0x1C) (list_lent 1) ≡ record { answer = accepted 1; list = (1 ∷ 63 ∷ 1 ∷ []) ∷ [] }
  pub half_A : read_of (entry_with 1 63 0x0A 0x1C) (list_lent 1) ≡ record { answer = refused 19; list = list_lent 1 }
  pub first_half_A : read_of (entry_with 1 63 0xA0 0x1C) (list_lent 1) ≡ record { answer = refused 19; list = list_lent 1 }
  pub last_half_D : read_of (entry_with 1 63 0x00 0x1D) (list_lent 1) ≡ record { answer = refused 19; list = list_lent 1 }
  pub party_byte_3 : read_of (entry_with 3 63 0x00 0x1C) (list_lent 1) ≡ record { answer = refused 19; list = list_lent 1 }
  pub party_byte_0 : read_of (entry_with 0 63 0x00 0x1C) (list_lent 1) ≡ record { answer = refused 19; list = list_lent 1 }
  pub n_64 : read_of (entry_with 1 64 0x00 0x1C) (list_lent 1) ≡ record { answer = refused 19; list = list_lent 1 }
  pub amount_0 : read_of (entry_with 1 63 0x00 0x0C) (list_lent 1) ≡ record { answer = refused 19; list = list_lent 1 }

-- What the theorems say of these figures.
pub record Applied : Type 0 where
  pub back : read_of two_entries (list_lent 3) ≡ record { answer = accepted 2; list = map listed two_payments ++ list_lent 1 }
  pub alone : (y : List ℕ) (list : List (List ℕ)) → (read_of y list).answer.refusal ≡ 0 → got (read_of y list) ≡ map listed two_payments → y ≡ two_entries
  pub same : write_of two_payments (bytes_lent 23) ≡ record { answer = accepted 2; buffer = two_entries ++ bytes_lent 1 }
