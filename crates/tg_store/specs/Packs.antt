-- A store in a pack: where its blocks lie, what is stored, and how it grows.
use Rattle.std.specs.Prelude.{◌≡◌, ◌≤◌, ◌<◌, ◌+◌, ◌-◌, ◌^◌, ⊤, ℕ, Bool, true, List, [], ◌∷◌, ◌++◌, length, take, drop}
use Rattle.std.specs.Prelude.{replicate, All, Option, Some, None}
use Rattle.std.specs.List.{sum_by}
use Rattle.std.specs.Map.{keys_of, lookup}
use Rattle.tg_cid.specs.Limits.{max_block_len}
use Rattle.tg_car.specs.CarText.{HeaderText, SectionText}
use Rattle.tg_car.specs.declared.section.Section.{Section as CarSection}
use Rattle.tg_files.specs.Packs.{Did, PackMeaning, PackWrite, pack_step}
use Rattle.tg_files.specs.Packs.PackWrite.{append, attach, overwrite, torn}
use Rattle.tg_model.specs.Dag.{Section}
use Rattle.tg_model.specs.Stores.{Store}
use Rattle.tg_store.specs.declared.key.Key.{Key}
use Rattle.tg_store.specs.declared.place.Place.{Place}
use Rattle.tg_store.specs.Entries.{AreGood, new_beside, store_of}
use Rattle.tg_store.specs.Keys.{key_of, same_key}

-- what a contract sees of a store in a pack
pub record PackStoreState (P : Type 0) : Type 0 where
  pub pack : P
  pub fresh : Bool  -- whether it was made by `create`
  pub places : List (Key × Place)  -- where the blocks lie, in the order of the sections
  pub end : ℕ  -- how many bytes the pack has

-- the root of a pack that isn't finished: a zero byte and the raw CIDv1 with sha2-256 and 32 zero bytes of digest
abbrev pub unfinished_root : List ℕ
unfinished_root = 0 ∷ 1 ∷ 0x55 ∷ 0x12 ∷ 0x20 ∷ replicate 32 0

-- the bytes at a place
abbrev pub block_at : List ℕ → Place → List ℕ
block_at content place = take place.size (drop place.offset content)

-- how many bytes the blocks at these places have together
abbrev pub bytes_at : List (Key × Place) → ℕ
bytes_at places = sum_by (λ (entry : Key × Place). entry.1.size) places

-- what is stored: it is told where the pack tells its content
abbrev pub stored_in : Option (List ℕ) → List (Key × Place) → Option Store
stored_in None places = None
stored_in (Some content) places = Some (store_of (block_at content) places)

-- a place has an end, and no block is larger than a block may be
abbrev pub AreSmall : List (Key × Place) → Type 0
AreSmall places = (key : Key) (place : Place) → lookup (same_key key) places ≡ Some place → (place.offset + place.size < 2 ^ 64) × (place.size ≤ max_block_len)

-- the content begins with the 59 bytes of a header with one root
pub record HasOneRoot (content : List ℕ) : Type 0 where
  pub root : List ℕ
  pub header : List ℕ
  pub rest : List ℕ
  pub whole : content ≡ header ++ rest
  pub text : HeaderText (root ∷ []) header
  pub size : length header ≡ 59

-- the places are those of blocks in the content, named by their keys
pub record IsIndexed (content : List ℕ) (fresh : Bool) (places : List (Key × Place)) (end : ℕ) : Type 0 where
  pub end_is : end ≡ length content
  pub within : (key : Key) (place : Place) → lookup (same_key key) places ≡ Some place
      → place.offset + place.size ≤ length content
  pub good : AreGood (block_at content) places
  pub one_root : fresh ≡ true → HasOneRoot content
  pub behind : fresh ≡ true → (key : Key) (place : Place) → lookup (same_key key) places ≡ Some place
      → 59 ≤ place.offset

-- as far as the content is told
abbrev pub IsIndexedIn : Option (List ℕ) → Bool → List (Key × Place) → ℕ → Type 0
IsIndexedIn None fresh places end = ⊤
IsIndexedIn (Some content) fresh places end = IsIndexed content fresh places end

-- ---- steps

-- the pack, the places and the end are as they were
pub record HasSearched {P : Type 0} (m : PackMeaning P) (a b : PackStoreState P) : Type 0 where
  pub did : Did [] (pack_step m a.pack b.pack)
  pub fresh : b.fresh ≡ a.fresh
  pub places : b.places ≡ a.places
  pub end : b.end ≡ a.end

-- bytes were added at the end, or a write failed
abbrev pub IsGrowth : PackWrite → Type 0
IsGrowth (append bytes) = ⊤
IsGrowth torn = ⊤
IsGrowth (attach path fresh) = ⊥
IsGrowth (overwrite offset bytes) = ⊥

-- a section as it stands in a CAR
abbrev pub in_car : Section → CarSection
in_car section = record { cid = section.cid; block = section.block }

-- the entry of a section whose text ends at this offset
abbrev pub entry_before : ℕ → Section → Key × Place
entry_before end section =
    (key_of section.cid, record { offset = end - length section.block; size = length section.block })

-- the bytes from this offset on are the texts of the sections, and these are the entries of their blocks
abbrev pub ArePlacedAt : ℕ → List Section → List ℕ → List (Key × Place) → Type 0
ArePlacedAt at [] bytes places = (bytes ≡ []) × (places ≡ [])
ArePlacedAt at (section ∷ sections) bytes places =
    (front : List ℕ) × (rest : List ℕ) × (more : List (Key × Place)) × (bytes ≡ front ++ rest) × SectionText (in_car section) front
    × (places ≡ entry_before (at + length front) section ∷ more) × ArePlacedAt (at + length front) sections rest more

-- behind what the pack held stand these texts, and behind the places that were there those of their blocks
pub record HasGrown (old new : List ℕ) (before after : List (Key × Place)) (sections : List Section) : Type 0 where
  pub texts : List ℕ
  pub places : List (Key × Place)
  pub content : new ≡ old ++ texts
  pub entries : after ≡ before ++ places
  pub placed : ArePlacedAt (length old) sections texts places

-- where the content is told, it grew by the texts of the sections under whose keys nothing stood, each key once, in
-- order
abbrev pub GrewBy : Option (List ℕ) → Option (List ℕ) → List (Key × Place) → List (Key × Place) → List Section → Type 0
GrewBy old None before after sections = ⊤
GrewBy None (Some new) before after sections = ⊥
GrewBy (Some old) (Some new) before after sections =
    HasGrown old new before after (new_beside (keys_of before) sections)

-- these sections were kept, one after another
pub record HasKept {P : Type 0} (m : PackMeaning P) (a b : PackStoreState P) (sections : List Section) : Type 0 where
  pub writes : List PackWrite
  pub did : Did writes (pack_step m a.pack b.pack)
  pub growth : All IsGrowth writes
  pub fresh : b.fresh ≡ a.fresh
  pub grew : GrewBy (m.content a.pack) (m.content b.pack) a.places b.places sections
