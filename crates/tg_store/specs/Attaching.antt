-- What attaching a pack says of its content, and why it is refused.
use Rattle.std.specs.Prelude.{◌≡◌, ◌≢◌, ◌≤◌, ◌+◌, ◌-◌, ◌⊎◌, ⊤, ℕ, false, cond, List, [], ◌∷◌, ◌++◌, length, All, Option}
use Rattle.std.specs.Prelude.{Some, None}
use Rattle.std.specs.Map.{lookup}
use Rattle.tg_bytes.specs.Told.{after_front}
use Rattle.tg_car.specs.CarText.{CarText, HeaderText, SectionText, header_map}
use Rattle.tg_car.specs.Faults.{BreaksHeader, BreaksSection, EndsInSection, PassesLimit, shown}
use Rattle.tg_car.specs.Fronts.{IsInHeader, IsWithin, Reaches}
use Rattle.tg_car.specs.State.{ReaderState, StandsFor}
use Rattle.tg_car.specs.declared.event.Event.{Event}
use Rattle.tg_car.specs.declared.event.Event.TheVariants as events
use Rattle.tg_car.specs.declared.fault.CarFault.{CarFault}
use Rattle.tg_car.specs.declared.fault.CarFault.TheVariants as car_faults
use Rattle.tg_car.specs.declared.section.Section.{Section as CarSection}
use Rattle.tg_cid.specs.Cid.{CidParts}
use Rattle.tg_cid.specs.Limits.{max_block_len}
use Rattle.tg_cid.specs.Names.{Names}
use Rattle.tg_files.specs.Packs.{PackQuiet, PackRose, PackStep, rest_at}
use Rattle.tg_model.specs.Stores.{Store}
use Rattle.tg_store.specs.declared.fault.PackFault.{PackFault}
use Rattle.tg_store.specs.declared.fault.PackFault.TheVariants as faults
use Rattle.tg_store.specs.declared.key.Key.{Key}
use Rattle.tg_store.specs.declared.place.Place.{Place}
use Rattle.tg_store.specs.Entries.{store_of}
use Rattle.tg_store.specs.Keys.{found_by, is_under, key_of, same_key}
use Rattle.tg_store.specs.Packs.{AreSmall, IsIndexed, block_at, unfinished_root}

-- the block of the first section under each CID with sha2-256, by its version 1 form; an identity CID's is its digest
abbrev pub first_under : Key → List CarSection → Option (List ℕ)
first_under key [] = None
first_under key (section ∷ sections) =
    cond (is_under key section.cid) (Some section.block) (first_under key sections)

abbrev pub first_block : List CarSection → Store
first_block sections cid = found_by cid.hash cid.digest (first_under (key_of cid) sections)

-- a section's CID names its block
abbrev pub IsNamed : CarSection → Type 0
IsNamed section = Names section.cid section.block

abbrev pub IsSmall : CarSection → Type 0
IsSmall section = length section.block ≤ max_block_len

-- the content is a finished CAR of named and small sections, and the first of them under each CID is what is stored
pub record IsAttached (content : List ℕ) (store : Store) : Type 0 where
  pub roots : List (List ℕ)
  pub sections : List CarSection
  pub text : CarText roots sections content
  pub finished : roots ≢ unfinished_root ∷ []
  pub named : All IsNamed sections
  pub small : All IsSmall sections
  pub stored : (cid : CidParts) → store cid ≡ first_block sections cid

-- ---- why a pack is refused

-- the roots aren't those of a pack that isn't finished, and the sections' CIDs name their blocks
pub record IsSound (roots : List (List ℕ)) (sections : List CarSection) : Type 0 where
  pub finished : roots ≢ unfinished_root ∷ []
  pub named : All IsNamed sections

-- no CAR goes on so inside the section at this place
pub record NoSection (content : List ℕ) (at : ℕ) : Type 0 where
  pub front : List ℕ
  pub more : List ℕ
  pub whole : content ≡ front ++ more
  pub place : ℕ
  pub at_is : at ≡ shown place
  pub broken : BreaksSection max_block_len front place
  pub sound : IsSound broken.reaches.roots broken.sections

-- or inside the header
pub record NoHeader (content : List ℕ) (at : ℕ) : Type 0 where
  pub front : List ℕ
  pub more : List ℕ
  pub whole : content ≡ front ++ more
  pub at_is : at ≡ 0
  pub broken : BreaksHeader front

-- the section at this place declares a block above the limit
pub record AboveLimit (content : List ℕ) (at : ℕ) : Type 0 where
  pub front : List ℕ
  pub more : List ℕ
  pub whole : content ≡ front ++ more
  pub place : ℕ
  pub at_is : at ≡ shown place
  pub passes : PassesLimit max_block_len front place
  pub sound : IsSound passes.reaches.roots passes.sections

-- the CID of the section at this place doesn't name its block
pub record WrongDigest (content : List ℕ) (at : ℕ) : Type 0 where
  pub front : List ℕ
  pub text : List ℕ
  pub more : List ℕ
  pub sections : List CarSection
  pub section : CarSection
  pub whole : content ≡ front ++ (text ++ more)
  pub at_is : at ≡ shown (length front)
  pub reaches : Reaches max_block_len front sections []
  pub sound : IsSound reaches.roots sections
  pub text_is : SectionText section text
  pub small : IsSmall section
  pub wrong : IsNamed section → ⊥

-- the content ends inside the section at this place
pub record EndsInside (content : List ℕ) (at : ℕ) : Type 0 where
  pub place : ℕ
  pub at_is : at ≡ shown place
  pub ends : EndsInSection max_block_len content place
  pub within : IsWithin max_block_len ends.rest
  pub sound : IsSound ends.reaches.roots ends.sections

-- the header is that of a pack that isn't finished
pub record HasUnfinishedHeader (content : List ℕ) : Type 0 where
  pub header : List ℕ
  pub rest : List ℕ
  pub whole : content ≡ header ++ rest
  pub text : HeaderText (unfinished_root ∷ []) header

-- the first cause in the order of the content; the header goes first
abbrev pub HasPackCause : List ℕ → PackFault → Type 0
HasPackCause content (faults.NotCar at) = NoHeader content at ⊎ NoSection content at
HasPackCause content (faults.BadDigest at) = WrongDigest content at
HasPackCause content faults.Unfinished = HasUnfinishedHeader content
HasPackCause content (faults.Truncated at) = ((at ≡ 0) × IsInHeader content) ⊎ EndsInside content at
HasPackCause content faults.Failed = ⊥
HasPackCause content (faults.BlockLimit at) = AboveLimit content at
HasPackCause content faults.OutOfMemory = ⊥

-- as far as the content is told
abbrev pub HasCauseIn : Option (List ℕ) → PackFault → Type 0
HasCauseIn None fault = ⊤
HasCauseIn (Some content) fault = HasPackCause content fault

-- the pack failed, or memory was wanted, or the content has the cause
abbrev pub IsRefusal : PackStep → PackFault → Type 0
IsRefusal step faults.Failed = PackRose step
IsRefusal step faults.OutOfMemory = PackQuiet step
IsRefusal step (faults.NotCar at) = PackQuiet step × HasCauseIn step.content_old (faults.NotCar at)
IsRefusal step (faults.BadDigest at) = PackQuiet step × HasCauseIn step.content_old (faults.BadDigest at)
IsRefusal step faults.Unfinished = PackQuiet step × HasCauseIn step.content_old faults.Unfinished
IsRefusal step (faults.Truncated at) = PackQuiet step × HasCauseIn step.content_old (faults.Truncated at)
IsRefusal step (faults.BlockLimit at) = PackQuiet step × HasCauseIn step.content_old (faults.BlockLimit at)

-- what is found in a pack that was read to its end
abbrev pub IsFoundIn : Option (List ℕ) → List (Key × Place) → ℕ → Type 0
IsFoundIn None places end = ⊤
IsFoundIn (Some content) places end =
    IsIndexed content false places end × IsAttached content (store_of (block_at content) places)

pub record IsFound (told : Option (List ℕ)) (places : List (Key × Place)) (end : ℕ) : Type 0 where
  pub small : AreSmall places
  pub found : IsFoundIn told places end

-- ---- a pack that is read through

-- the header of a pack that isn't finished, of 59 bytes
abbrev pub unfinished_header : List ℕ
unfinished_header = 0x3a ∷ header_map (unfinished_root ∷ [])

-- the refusal of a pack for that of its CAR
abbrev pub pack_fault : CarFault → PackFault
pack_fault (car_faults.BadHeader at) = faults.NotCar at
pack_fault (car_faults.BadSection at) = faults.NotCar at
pack_fault (car_faults.BlockLimit at number) = faults.BlockLimit at
pack_fault (car_faults.Torn at) = faults.Truncated at
pack_fault car_faults.OutOfMemory = faults.OutOfMemory

-- the header isn't that of a pack that isn't finished, and the section's CID names its block
abbrev pub IsGoodEvent : Event → Type 0
IsGoodEvent events.Need = ⊤
IsGoodEvent (events.Header header) = header ≢ unfinished_header
IsGoodEvent (events.Section at size section) = IsNamed section

-- where the block of a section lies
abbrev pub place_of : ℕ → ℕ → CarSection → Place
place_of at size section = record { offset = shown (at + size) - length section.block; size = length section.block }

-- where the block of the first section under the key lies
abbrev pub first_place : Key → List Event → Option Place
first_place key [] = None
first_place key (events.Need ∷ given) = first_place key given
first_place key (events.Header header ∷ given) = first_place key given
first_place key (events.Section at size section ∷ given) =
    cond (is_under key section.cid) (Some (place_of at size section)) (first_place key given)

-- one, or else the other
abbrev pub or_else : {A : Type 0} → Option A → Option A → Option A
or_else (Some x) other = Some x
or_else None other = other

-- the event is good, and its place is added where none stood under its key
pub record Noted (given : List Event) (before after : List (Key × Place)) : Type 0 where
  pub good : All IsGoodEvent given
  pub found : (key : Key) → lookup (same_key key) after ≡ or_else (lookup (same_key key) before) (first_place key given)

-- why an event isn't noted
abbrev pub IsNotNoted : Event → PackFault → Type 0
IsNotNoted event faults.OutOfMemory = ⊤
IsNotNoted (events.Header header) faults.Unfinished = header ≡ unfinished_header
IsNotNoted (events.Section at size section) (faults.BadDigest place) = (place ≡ at) × (IsNamed section → ⊥)
IsNotNoted event fault = ⊥

-- these bytes were read, and what they gave was noted
pub record IsAlong (reader : ReaderState) (places : List (Key × Place)) (fed : List ℕ) : Type 0 where
  pub given : List Event
  pub stands : StandsFor reader (record { fed = fed; given = given; stop = None })
  pub limit : reader.limit ≡ max_block_len
  pub noted : Noted given [] places

-- why bytes of a pack are refused before its end
abbrev pub HasStopCause : List ℕ → PackFault → Type 0
HasStopCause bytes faults.OutOfMemory = ⊤
HasStopCause bytes (faults.Truncated at) = ⊥
HasStopCause bytes faults.Failed = ⊥
HasStopCause bytes (faults.NotCar at) = HasPackCause bytes (faults.NotCar at)
HasStopCause bytes (faults.BadDigest at) = HasPackCause bytes (faults.BadDigest at)
HasStopCause bytes faults.Unfinished = HasPackCause bytes faults.Unfinished
HasStopCause bytes (faults.BlockLimit at) = HasPackCause bytes (faults.BlockLimit at)

-- the pack was read up to this offset
pub record IsReadTo (reader : ReaderState) (places : List (Key × Place)) (told : Option (List ℕ)) (end : ℕ) : Type 0 where
  pub fed : List ℕ
  pub along : IsAlong reader places fed
  pub size : length fed ≡ end
  pub front : rest_at told 0 ≡ after_front fed (rest_at told end)
