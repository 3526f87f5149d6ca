-- What of a header is to come in each state of the machine that looks at its bytes.
use Rattle.std.specs.Prelude.{◌≡◌, ◌≢◌, ◌↔◌, ℕ, ◌+◌, ◌*◌, ◌<◌, ◌≤◌, Option, Some, None, List, [], ◌∷◌, ◌++◌, length}
use Rattle.std.specs.Prelude.{drop, All, codes}
use Rattle.std.specs.List.{flat_map}
use Rattle.tg_car.specs.CarText.{IsRoot, root_text, array_head, header_map, HeaderText}
use Rattle.tg_car.specs.declared.header_state.Roots.{Roots}
use Rattle.tg_car.specs.declared.header_state.HeaderState.{HeaderState}
use Rattle.tg_car.specs.declared.header_state.HeaderState.TheVariants as states

-- the bytes of the map before the array of roots, and those behind it
abbrev pub map_front : List ℕ
map_front = 0xa2 ∷ 0x65 ∷ codes "roots"

abbrev pub map_back : List ℕ
map_back = 0x67 ∷ (codes "version" ++ 1 ∷ [])

-- some roots are so many and have so many bytes together: each has 5 to 204, and none has 27
abbrev pub CanBe : ℕ → ℕ → Type 0
CanBe count bytes = (5 * count ≤ bytes) × (bytes ≤ 204 * count) × (count ≡ 1 → bytes ≢ 27)

-- some map has so many bytes
abbrev pub IsMapSize : ℕ → Type 0
IsMapSize size = (17 ≤ size) × (size ≤ 13074) × (size < 22 → size ≡ 17)

-- so many roots of so many bytes together, and the end of the map
pub record RootsThen (count bytes : ℕ) (rest : List ℕ) : Type 0 where
  pub roots : List (List ℕ)
  pub each : All IsRoot roots
  pub count_is : length roots ≡ count
  pub bytes_is : length (flat_map root_text roots) ≡ bytes
  pub whole : rest ≡ flat_map root_text roots ++ map_back

-- the array of roots in a map of so many bytes, and the end of the map
pub record ArrayThen (size : ℕ) (rest : List ℕ) : Type 0 where
  pub roots : List (List ℕ)
  pub few : length roots ≤ 64
  pub each : All IsRoot roots
  pub size_is : length (header_map roots) ≡ size
  pub whole : rest ≡ array_head (length roots) ++ (flat_map root_text roots ++ map_back)

-- so many bytes, and then these roots
pub record BytesThen (left : ℕ) (roots : Roots) (rest : List ℕ) : Type 0 where
  pub front : List ℕ
  pub more : List ℕ
  pub whole : rest ≡ front ++ more
  pub left_is : length front ≡ left
  pub are_bytes : All (λ b. b < 256) front
  pub behind : RootsThen roots.count roots.bytes more

-- what may follow in a state
abbrev pub Follows : HeaderState → List ℕ → Type 0
Follows states.Length rest = (roots : List (List ℕ)) × HeaderText roots rest
Follows (states.SecondByte first) rest = (roots : List (List ℕ)) × HeaderText roots (first ∷ rest)
Follows (states.Front at size) rest = (more : List ℕ) × (rest ≡ drop at map_front ++ more) × ArrayThen size more
Follows (states.ArrayHead size) rest = ArrayThen size rest
Follows (states.ArrayCount size) rest = ArrayThen size (0x98 ∷ rest)
Follows (states.Root roots) rest = RootsThen roots.count roots.bytes rest
Follows (states.Tag roots) rest = RootsThen roots.count roots.bytes (0xd8 ∷ rest)
Follows (states.StringHead roots) rest = RootsThen roots.count roots.bytes (0xd8 ∷ 0x2a ∷ rest)
Follows (states.StringSize roots) rest = RootsThen roots.count roots.bytes (0xd8 ∷ 0x2a ∷ 0x58 ∷ rest)
Follows (states.Zero size roots) rest =
    (more : List ℕ) × (rest ≡ 0 ∷ more) × (left : ℕ) × (size ≡ left + 1) × BytesThen left roots more
Follows (states.Bytes left roots) rest = BytesThen left roots rest
Follows (states.Back at) rest = rest ≡ drop at map_back

-- something may follow in the state, if only nothing
abbrev pub IsLive : HeaderState → Type 0
IsLive states.Length = Unit {0}
IsLive (states.SecondByte first) = (128 ≤ first) × (first < 256)
IsLive (states.Front at size) = (at < 7) × IsMapSize size
IsLive (states.ArrayHead size) = IsMapSize size
IsLive (states.ArrayCount size) = (138 ≤ size) × (size ≤ 13074)
IsLive (states.Root roots) = CanBe roots.count roots.bytes
IsLive (states.Tag roots) = (0 < roots.count) × CanBe roots.count roots.bytes
IsLive (states.StringHead roots) = (0 < roots.count) × CanBe roots.count roots.bytes
IsLive (states.StringSize roots) =
    (0 < roots.count) × CanBe roots.count roots.bytes × (5 * roots.count + 23 ≤ roots.bytes)
IsLive (states.Zero size roots) = (2 ≤ size) × (size ≤ 200) × CanBe roots.count roots.bytes
IsLive (states.Bytes left roots) = (1 ≤ left) × CanBe roots.count roots.bytes
IsLive (states.Back at) = at ≤ 9

-- the state is that of a header of which these bytes came: what may follow is what makes them a header
pub record FollowsHeader (state : HeaderState) (bytes : List ℕ) : Type 0 where
  pub live : IsLive state
  pub follows : (rest : List ℕ) → ((roots : List (List ℕ)) × HeaderText roots (bytes ++ rest)) ↔ Follows state rest

-- behind one more byte a state goes on as the next one, or nothing may follow
abbrev pub GoesOn : HeaderState → ℕ → Option HeaderState → Type 0
GoesOn state byte None = IsLive state → (rest : List ℕ) → Follows state (byte ∷ rest) → ⊥
GoesOn state byte (Some next) =
    IsLive state → IsLive next × ((rest : List ℕ) → Follows state (byte ∷ rest) ↔ Follows next rest)
