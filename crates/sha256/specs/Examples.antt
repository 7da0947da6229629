-- Published examples of SHA-256: the empty message, NIST's messages of one block and of two, and that of 896 bits.
use Rattle.std.specs.Prelude.{◌≡◌}
use Rattle.wire.specs.Numbers.{bytes}
use Rattle.sha256.specs.Digest.{sha256}

-- Each message and each digest is written as one number.
pub record Examples : Type 0 where
  pub empty : sha256 (bytes 0 0) ≡ bytes 32 0xe3b0c44298fc1c149afbf4c8996fb92427ae41e4649b934ca495991b7852b855
  pub abc : sha256 (bytes 3 0x616263) ≡ bytes 32 0xba7816bf8f01cfea414140de5dae2223b00361a396177a9cb410ff61f20015ad
  pub bits448 :
      sha256 (bytes 56 0x6162636462636465636465666465666765666768666768696768696a68696a6b696a6b6c6a6b6c6d6b6c6d6e6c6d6e6f6d6e6f706e6f7071)
      ≡ bytes 32 0x248d6a61d20638b8e5c026930c3e6039a33ce45964ff2167f6ecedd419db06c1
  pub bits896 :
      sha256
      (bytes 112 0x61626364656667686263646566676869636465666768696a6465666768696a6b65666768696a6b6c666768696a6b6c6d6768696a6b6c6d6e68696a6b6c6d6e6f696a6b6c6d6e6f706a6b6c6d6e6f70716b6c6d6e6f7071726c6d6e6f707172736d6e6f70717273746e6f707172737475)
      ≡ bytes 32 0xcf5b16a778af8380036ce59e7b0492370b249b11e8f07a51afac45037afee9d1
