-- The bytes of a CAR as functions (CARv1 specification, Header and Data), and of chunks (RFC 9112, section 7.1).
use Rattle.httparse.specs.Ascii.{crlf_bytes}
use Rattle.std.specs.List.{flat_map}
use Rattle.std.specs.Prelude.{Bool, List, [], if◌then◌else◌, length, map, ℕ, ◌++◌, ◌==◌, ◌∷◌}
use Rattle.tg_car.specs.CarText.{header_map}
use Rattle.tg_cid.specs.Cid.{CidParts}
use Rattle.tg_cid.specs.Computed.{v1_bytes}
use Rattle.tg_http.specs.Chunks.{chunk_line}
use Rattle.tg_model.specs.Dag.{Section}
use Rattle.tg_varint.specs.Computed.{varint}

-- bytes behind their length
abbrev pub sized : List ℕ → List ℕ
sized bytes = varint (length bytes) ++ bytes

-- the header with one root, in its version 1 form
abbrev pub car_header : CidParts → List ℕ
car_header root = sized (header_map ((0 ∷ v1_bytes root) ∷ []))

-- the bytes of a CID: a CIDv0 is the multihash of sha2-256 alone
abbrev pub cid_bytes : CidParts → List ℕ
cid_bytes cid = if cid.version == 0 then 0x12 ∷ 0x20 ∷ cid.digest else v1_bytes cid

-- a section: the length of the CID and the block together, the CID, the block
abbrev pub section_bytes : Section → List ℕ
section_bytes section = sized (cid_bytes section.cid ++ section.block)

-- the header and the sections of a CAR
abbrev pub car_parts : CidParts → List Section → List (List ℕ)
car_parts root sections = car_header root ∷ map section_bytes sections

-- a chunk: the line of its size, its bytes, CR LF
abbrev pub chunk_bytes : List ℕ → List ℕ
chunk_bytes chunk = chunk_line (length chunk) ++ (chunk ++ crlf_bytes)

-- the last chunk, which is empty, and no trailer
abbrev pub last_chunk : List ℕ
last_chunk = chunk_line 0 ++ crlf_bytes

-- each part in a chunk, and the last chunk but where the body is cut
abbrev pub chunked : Bool → List (List ℕ) → List ℕ
chunked cut parts = flat_map chunk_bytes parts ++ (if cut then [] else last_chunk)
