-- The CID that a text spells, or why it spells none, as a function (CID specification; multihash; multibase `b`; RFC
-- 4648, section 6). The faults are those of the first place at which the grammar is broken.
use Rattle.std.specs.Prelude.{Bool, Err, List, None, Ok, Option, Result, Some, [], bytes_eq, false, if◌then◌else◌}
use Rattle.std.specs.Prelude.{length, nat_le, nat_lt, ℕ, ◌&&◌, ◌*◌, ◌+◌, ◌-◌, ◌==◌, ◌∷◌}
use Rattle.std.specs.List.{list_all}
use Rattle.tg_base32.specs.Base32.{bits_of_text}
use Rattle.tg_base32.specs.Computed.{base32}
use Rattle.tg_cid.specs.Cid.{CidParts}
use Rattle.tg_cid.specs.Computed.{is_digest_size}
use Rattle.tg_cid.specs.declared.cid.Codec.{Codec}
use Rattle.tg_cid.specs.declared.cid.Codec.TheVariants.{DagPb, Raw}
use Rattle.tg_cid.specs.declared.cid.HashKind.{HashKind}
use Rattle.tg_cid.specs.declared.cid.HashKind.TheVariants.{Identity, Sha256}
use Rattle.tg_cid.specs.declared.fault.CidFault.{CidFault}
use Rattle.tg_cid.specs.declared.fault.CidFault.TheVariants as faults
use Rattle.tg_query.specs.Faults.{query_fault_of}
use Rattle.tg_query.specs.declared.fault.QueryFault.{QueryFault}
use Rattle.tg_varint.specs.Computed.{front_number}

abbrev pub CidAnswer : Type 0
CidAnswer = Result CidParts CidFault

-- the byte of eight bits, the highest first, and the bytes of bits, of which fewer than eight are left over
abbrev pub byte_of_bits : ℕ → ℕ → ℕ → ℕ → ℕ → ℕ → ℕ → ℕ → ℕ
byte_of_bits a b c d e f g h = a * 128 + b * 64 + c * 32 + d * 16 + e * 8 + f * 4 + g * 2 + h

abbrev pub bytes_of_bits : List ℕ → List ℕ
bytes_of_bits (a ∷ b ∷ c ∷ d ∷ e ∷ f ∷ g ∷ h ∷ bits) = byte_of_bits a b c d e f g h ∷ bytes_of_bits bits
bytes_of_bits _ = []

-- the bytes, where the letters are their text
abbrev pub if_spelled : List ℕ → List ℕ → Option (List ℕ)
if_spelled letters bytes = if bytes_eq (base32 bytes) letters then Some bytes else None

-- the bytes whose text in base 32 the letters are
unfoldable pub bytes_of_letters : List ℕ → Option (List ℕ)
bytes_of_letters letters = if_spelled letters (bytes_of_bits (bits_of_text letters))

-- the bytes end inside a varint: fewer than nine, with the high bit set in each
abbrev pub ends_inside : List ℕ → Bool
ends_inside bytes = list_all (nat_le 128) bytes && nat_lt (length bytes) 9

-- why no number is spelled at the front of these, the last of `total` bytes
abbrev pub number_fault : ℕ → List ℕ → CidFault
number_fault total bytes = if ends_inside bytes then faults.Short total else faults.BadVarint (total - length bytes)

-- the number that is spelled at the front, then what it and the bytes behind it are answered with
abbrev pub number_then : ℕ → List ℕ → Option (ℕ × List ℕ) → (ℕ → List ℕ → CidAnswer) → CidAnswer
number_then total bytes None next = Err (number_fault total bytes)
number_then total bytes (Some found) next = next found.0 found.1

-- a CIDv1: the numbers 1, the codec's, the hash's and the digest's length, and the digest, with nothing behind it
abbrev pub digest_then : ℕ → Codec → HashKind → ℕ → List ℕ → CidAnswer
digest_then total codec hash size digest =
    if nat_lt (length digest) size then Err (faults.Short total)
    else (if nat_lt size (length digest) then Err (faults.Trailing (total - (length digest - size)))
    else Ok (record { version = 1; codec = codec; hash = hash; digest = digest }))

abbrev pub by_size : ℕ → Codec → HashKind → ℕ → List ℕ → CidAnswer
by_size total codec hash size digest =
    if is_digest_size hash size then digest_then total codec hash size digest else Err (faults.BadLength size)

abbrev pub size_then : ℕ → Codec → HashKind → List ℕ → CidAnswer
size_then total codec hash bytes = number_then total bytes (front_number bytes) (by_size total codec hash)

abbrev pub by_hash : ℕ → Codec → ℕ → List ℕ → CidAnswer
by_hash total codec code rest =
    if code == 0x12 then size_then total codec Sha256 rest else (if code == 0x00 then size_then total codec Identity rest else Err (faults.BadHash code))

abbrev pub hash_then : ℕ → Codec → List ℕ → CidAnswer
hash_then total codec bytes = number_then total bytes (front_number bytes) (by_hash total codec)

abbrev pub by_codec : ℕ → ℕ → List ℕ → CidAnswer
by_codec total code rest =
    if code == 0x55 then hash_then total Raw rest else (if code == 0x70 then hash_then total DagPb rest else Err (faults.BadCodec code))

abbrev pub codec_then : ℕ → List ℕ → CidAnswer
codec_then total bytes = number_then total bytes (front_number bytes) (by_codec total)

abbrev pub by_version : ℕ → ℕ → List ℕ → CidAnswer
by_version total version rest = if version == 1 then codec_then total rest else Err (faults.BadVersion version)

abbrev pub version_then : ℕ → List ℕ → CidAnswer
version_then total bytes = number_then total bytes (front_number bytes) (by_version total)

abbrev pub begins_with : ℕ → List ℕ → Bool
begins_with byte [] = false
begins_with byte (b ∷ bytes) = b == byte

-- the bytes of no CIDv1 begin with 0x12
abbrev pub bytes_answer : List ℕ → CidAnswer
bytes_answer bytes = if begins_with 0x12 bytes then Err (faults.BadVersion 18) else version_then (length bytes) bytes

abbrev pub text_answer : Option (List ℕ) → CidAnswer
text_answer None = Err faults.BadText
text_answer (Some bytes) = bytes_answer bytes

-- the CID of a text: the letter `b`, and the base 32 of its bytes
unfoldable pub cid_answer : List ℕ → CidAnswer
cid_answer [] = Err faults.BadText
cid_answer (first ∷ letters) = if first == 98 then text_answer (bytes_of_letters letters) else Err faults.BadText

-- its fault as a fault of a query
abbrev pub with_query_fault : CidAnswer → Result CidParts QueryFault
with_query_fault (Ok cid) = Ok cid
with_query_fault (Err fault) = Err (query_fault_of fault)

abbrev pub root_of : List ℕ → Result CidParts QueryFault
root_of text = with_query_fault (cid_answer text)
