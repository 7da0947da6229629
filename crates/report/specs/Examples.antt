-- Document 01, "Journal and due list", with the fee of document 02, No. 7: the program's example. Each input and each text is written as one number.
use Rattle.std.specs.Prelude.{◌≡◌}
use Rattle.wire.specs.Numbers.{bytes}
use Rattle.decimals.specs.Numbers.{decimal}
use Rattle.report.specs.Statement.{statement_of}

pub record Examples : Type 0 where
  -- sixteen 00, the clock set to 1,000, a settling of an unused channel
  pub paper : statement_of (bytes 28 0x0100000000000003E80A0000) ≡ bytes 33 0x31203020302030203020300a32203520302030203020300a656e6420313220300a
  -- the highest digit first, and no 0 in front of another digit
  pub none : decimal 0 ≡ bytes 1 0x30
  pub some : decimal 907 ≡ bytes 3 0x393037
