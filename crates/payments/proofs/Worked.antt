-- The figures, and the theorems applied to them.
use native.Mathlib.Omega.{arith}
use mathlib.Core.Path.{refl}
use Rattle.wire.specs.Numbers.{bytes, u16_at}
use Rattle.wire.specs.Parts.{pasted}
use Rattle.machine.specs.Checks.{ask}
use Rattle.payments.specs.Payments.{listed, payment_of}
use Rattle.payments.specs.Packed.{digits, spelled, joined, halves, packed, entry, written, parted, amount_in, payment_in, is_packed, good}
use Rattle.payments.specs.Answers.{refusal_of, writable, write_of, filled}
use Rattle.payments.specs.Figures.{bytes_lent, list_lent, two_payments, two_entries, Figures, Applied}
use Rattle.payments.proofs.ComesBack.{bank_lines}

pub figures : Figures
unfolding bytes u16_at pasted ask listed digits spelled joined halves packed entry written parted amount_in payment_in is_packed good refusal_of writable write_of filled
figures = record {
  one = refl;
  five_digits = refl;
  largest = refl;
  writes = refl;
  writes_none = refl;
  too_large = refl;
  none_to_write = refl;
  channel_64 = refl;
  channel_65541 = refl;
  party_3 = refl;
  short_buffer = refl;
  last_wrong_and_short = refl;
  reads = refl;
  reads_none = refl;
  ten_bytes = refl;
  twelve_bytes = refl;
  one_too_short = refl;
  good_entry = refl;
  half_A = refl;
  first_half_A = refl;
  last_half_D = refl;
  party_byte_3 = refl;
  party_byte_0 = refl;
  n_64 = refl;
  amount_0 = refl;
}

pub applied : Applied
unfolding bytes u16_at pasted ask listed payment_of digits spelled joined halves packed entry written parted amount_in payment_in is_packed good refusal_of writable write_of filled
applied = record {
  back = bank_lines.returns two_payments (bytes_lent 24) (list_lent 3) refl (omega arith);
  alone = λ y list h e. bank_lines.only y two_entries list (list_lent 2) h refl e;
  same = bank_lines.again two_entries (list_lent 2) (bytes_lent 23) refl (omega arith);
}
