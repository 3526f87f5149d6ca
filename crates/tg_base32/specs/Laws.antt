-- What holds of base 32 in lower case and without padding: the laws of its texts.
use Rattle.std.specs.Prelude.{◌≡◌, ℕ, ◌<◌, List, All}
use Rattle.tg_base32.specs.Base32.{Base32Text}
use Rattle.tg_base32.specs.Computed.{base32}

pub record TextLaws : Type 0 where
  -- a text spells one list of bytes, and bytes have one text
  pub one_reading : (text a b : List ℕ) → Base32Text text a → Base32Text text b → a ≡ b
  pub one_text : (s t bytes : List ℕ) → Base32Text s bytes → Base32Text t bytes → s ≡ t
  -- bytes have the text that `base32` computes
  pub computed : (bytes : List ℕ) → All (λ b. b < 256) bytes → Base32Text (base32 bytes) bytes
