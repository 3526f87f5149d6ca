-- What the bodies of replies are to a reader of bodies, and to a reader of CARs.
use Rattle.std.specs.Prelude.{All, List, [], false, length, map, true, ℕ, ◌<◌, ◌^◌, ◌∷◌, ◌≤◌}
use Rattle.tg_body.specs.Bodies.{BodyFront, BodyText}
use Rattle.tg_bytes.specs.Lists.{joined}
use Rattle.tg_car.specs.CarText.{CarText}
use Rattle.tg_car.specs.declared.section.Section.{Section as CarSection}
use Rattle.tg_cid.specs.Cid.{CidParts}
use Rattle.tg_cid.specs.Computed.{v1_bytes}
use Rattle.tg_cid.specs.Limits.{max_block_len}
use Rattle.tg_cid.specs.Spelling.{CidBytes}
use Rattle.tg_http.specs.declared.framing.Framing.TheVariants as framings
use Rattle.tg_model.specs.Dag.{Section}
use Rattle.tg_reply.specs.CarBytes.{car_parts, chunked}

-- a part that a chunk can have: no chunk but the last is empty
abbrev pub IsPart : List ℕ → Type 0
IsPart part = (0 < length part) × (length part < 2 ^ 63)

-- parts in chunks are a whole body, which is the parts
abbrev pub WholeInChunks : Type 0
WholeInChunks =
    (parts : List (List ℕ)) → All IsPart parts → BodyText framings.Chunked (joined parts) (chunked false parts)

-- cut, they are the front of one that goes on
abbrev pub CutGoesOn : Type 0
CutGoesOn = (parts : List (List ℕ)) → All IsPart parts → BodyFront framings.Chunked (joined parts) (chunked true parts)

-- a raw block and a text are the whole of a body of their length
abbrev pub WholeInLength : Type 0
WholeInLength = (block : List ℕ) → BodyText (framings.Length (length block)) block block

-- and to HTTP/1.0 the parts are a body that goes on until the connection closes
abbrev pub WholeUntilClose : Type 0
WholeUntilClose = (parts : List (List ℕ)) → BodyText framings.UntilClose (joined parts) (joined parts)

-- a section whose CID is spelled, with a block of bytes that isn't too long
pub record IsSpelled (section : Section) : Type 0 where
  pub name : List ℕ
  pub name_is : CidBytes section.cid name
  pub are_bytes : All (λ b. b < 256) section.block
  pub small : length section.block ≤ max_block_len

abbrev pub car_section : Section → CarSection
car_section section = record { cid = section.cid; block = section.block }

-- the parts of a CAR are the CAR with one root and these sections, and each can be in a chunk
pub record IsCar (root : CidParts) (sections : List Section) : Type 0 where
  pub text : CarText ((0 ∷ v1_bytes root) ∷ []) (map car_section sections) (joined (car_parts root sections))
  pub parts : All IsPart (car_parts root sections)

abbrev pub CarsInParts : Type 0
CarsInParts = (root : CidParts) (name : List ℕ) (sections : List Section) → CidBytes root name → All IsSpelled sections → IsCar root sections
