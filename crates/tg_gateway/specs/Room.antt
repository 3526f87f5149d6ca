-- How a room of 16,384 bytes keeps bytes of heads (RFC 9112, section 2.2).
use Rattle.std.specs.Prelude.{◌≡◌, ℕ, ◌≤◌, List, length, slice_range}
use Rattle.tg_http.specs.Sought.{IsSought}
use Rattle.tg_gateway.specs.declared.heads.HeadRoom.TheInside.{Inside}

-- the bytes that are kept
abbrev pub kept_in : Inside → List ℕ
kept_in room = slice_range room.bytes.items room.start room.end

-- they stand in the room, and the cursor was sought in them
pub record IsRoom (room : Inside) : Type 0 where
  pub size : length room.bytes.items ≡ 16384
  pub in_order : room.start ≤ room.end
  pub within : room.end ≤ 16384
  pub sought : IsSought room.cursor (kept_in room)
