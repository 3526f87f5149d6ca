-- How a CIDv1 is read: one number after another, each tested before the next, and then the digest.
use Rattle.std.specs.Prelude.{◌≡◌, ◌≢◌, ℕ, ◌+◌, ◌<◌, ◌≤◌, ◌⊎◌, List, ◌++◌, length, take, drop, Result, Ok, Err}
use Rattle.tg_varint.specs.Varint.{VarintSpelling, EndsInside, PassesNine, EndsInZero}
use Rattle.tg_cid.specs.Cid.{CidParts}
use Rattle.tg_cid.specs.Faults.{IsCodec, IsHash}
use Rattle.tg_cid.specs.Spelling.{IsDigestSize, codec_code, hash_code}
use Rattle.tg_cid.specs.declared.cid.Codec.{Codec}
use Rattle.tg_cid.specs.declared.cid.HashKind.{HashKind}
use Rattle.tg_cid.specs.declared.fault.CidFault.{CidFault}
use Rattle.tg_cid.specs.declared.fault.CidFault.TheVariants as faults

-- the CID at the front of bytes and its length, or why there is none
abbrev pub Answer : Type 0
Answer = Result (CidParts × ℕ) CidFault

-- the number is spelled at `at`, and what follows it begins at `next`
pub record NumberAt (bytes : List ℕ) (at number next : ℕ) : Type 0 where
  pub spelling : List ℕ
  pub rest : List ℕ
  pub whole : drop at bytes ≡ spelling ++ rest
  pub next_is : next ≡ at + length spelling
  pub within : next ≤ length bytes
  pub spelled : VarintSpelling number spelling

-- no number is spelled at `at`
abbrev pub NoNumberAt : List ℕ → ℕ → CidFault → Type 0
NoNumberAt bytes at fault = ((fault ≡ faults.Short (length bytes)) × EndsInside (drop at bytes))
    ⊎ ((fault ≡ faults.BadVarint at) × (PassesNine (drop at bytes) ⊎ EndsInZero (drop at bytes)))

-- either the answer is that no number is spelled at `at`, or one is, and it and its end tell the answer
abbrev pub NumberThen : List ℕ → ℕ → (ℕ → ℕ → Type 0) → Answer → Type 0
NumberThen bytes at Tells answer = ((fault : CidFault) × (answer ≡ Err fault) × NoNumberAt bytes at fault)
    ⊎ ((number : ℕ) × (next : ℕ) × NumberAt bytes at number next × Tells number next)

-- the answer where the digest begins at `at`
abbrev pub DigestThen : ℕ → Codec → HashKind → ℕ → List ℕ → ℕ → Answer → Type 0
DigestThen version codec hash size bytes at answer =
    ((length bytes < at + size) × (answer ≡ Err (faults.Short (length bytes))))
    ⊎ ((at + size ≤ length bytes) × (answer
    ≡ Ok (record { version = version; codec = codec; hash = hash; digest = take size (drop at bytes) }, at + size)))

-- the answer where the digest's length, the hash, the codec and the version are to be read at `at`
abbrev pub SizeThen : Codec → HashKind → List ℕ → ℕ → Answer → Type 0
SizeThen codec hash bytes at answer = NumberThen bytes at (λ number next.
    ((IsDigestSize hash number → ⊥) × (answer ≡ Err (faults.BadLength number)))
    ⊎ (IsDigestSize hash number × DigestThen 1 codec hash number bytes next answer)) answer

abbrev pub HashThen : Codec → List ℕ → ℕ → Answer → Type 0
HashThen codec bytes at answer = NumberThen bytes at (λ number next.
    ((IsHash number → ⊥) × (answer ≡ Err (faults.BadHash number)))
    ⊎ ((hash : HashKind) × (number ≡ hash_code hash) × SizeThen codec hash bytes next answer)) answer

abbrev pub CodecThen : List ℕ → ℕ → Answer → Type 0
CodecThen bytes at answer = NumberThen bytes at (λ number next.
    ((IsCodec number → ⊥) × (answer ≡ Err (faults.BadCodec number)))
    ⊎ ((codec : Codec) × (number ≡ codec_code codec) × HashThen codec bytes next answer)) answer

abbrev pub ReadsAsOne : List ℕ → Answer → Type 0
ReadsAsOne bytes answer = NumberThen bytes 0 (λ number next.
    ((number ≢ 1) × (answer ≡ Err (faults.BadVersion number)))
    ⊎ ((number ≡ 1) × CodecThen bytes next answer)) answer
