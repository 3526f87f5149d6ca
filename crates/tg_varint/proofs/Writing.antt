-- What stands in the array while `write` fills it.
use Rattle.std.proofs.Common.{◌≡◌, ℕ, suc, ◌+◌, ◌-◌, ◌*◌, ◌/◌, ◌%◌, ◌^◌, ◌<◌, ◌≤◌, List, [], ◌∷◌, ◌++◌, length, take, drop, replicate, set, All, ap, ap₂, ◌∙◌, add-one, arith, inl, inr}
use Rattle.std.proofs.lemmas.Bool.{cases_lt}
use Rattle.std.proofs.Math.Nat.{pow-suc, pow-succ', pow-le-pow_right}
use Rattle.std.proofs.lemmas.List.{take_more_set, drop-set-lt, drop-drop, drop-replicate, length-take-le, length-set}
use Rattle.std.proofs.lemmas.List.Elements.{All-push}
use Rattle.tg_varint.specs.GroupLaws.{number_append}
use Rattle.tg_varint.specs.Varint.{number_of, AllGoOn, VarintSpelling}

-- the first groups of the number are written, and the rest of it is still to come
pub record Written (number rest at : ℕ) (room : List ℕ) : Type 0 where
  pub place : at ≤ 8
  pub nine : length room ≡ 9
  pub spells : number ≡ number_of (take at room) + 128 ^ at * rest
  pub fits : rest < 128 ^ (9 - at)
  pub are_bytes : All (λ b. b < 256) (take at room)
  pub goes_on : AllGoOn (take at room)
  pub some : 0 < at → 0 < rest
  pub zeros : drop at room ≡ replicate (9 - at) 0

pub written_none : (number : ℕ) (room : List ℕ) → room ≡ replicate 9 0 → number < 2 ^ 63 → Written number number 0 room
written_none number room e l = record {
  place = omega arith;
  nine = ap length e;
  spells = omega arith;
  fits = l;
  are_bytes = λ k d h. absurd (omega arith);
  goes_on = λ k d h. absurd (omega arith);
  some = λ h. absurd (omega arith);
  zeros = e;
}

-- the zeros after one place more
zeros_more : (room : List ℕ) (at byte : ℕ) → drop at room ≡ replicate (9 - at) 0
    → drop (at + 1) (set room at byte) ≡ replicate (9 - (at + 1)) 0
zeros_more room at byte e =
    let less : at < at + 1 = omega arith in
    let later : 9 - at - 1 ≡ 9 - (at + 1) = omega arith in
    let kept : drop (at + 1) (set room at byte) ≡ drop (at + 1) room = drop-set-lt (at + 1) room at byte less in
    let stepped : drop 1 (drop at room) ≡ drop (at + 1) room = drop-drop 1 at room in
    let zeros : drop 1 (replicate {A = ℕ} (9 - at) 0) ≡ replicate (9 - at - 1) 0 = drop-replicate 1 (9 - at) 0 in
    let fewer : replicate {A = ℕ} (9 - at - 1) 0 ≡ replicate {A = ℕ} (9 - (at + 1)) 0 = ap (λ n. replicate n 0) later in
    let dropped : drop 1 (drop at room) ≡ drop 1 (replicate {A = ℕ} (9 - at) 0) = ap (λ ns. drop 1 ns) e in
    cc

-- one byte more is written
number_set : (number rest next at byte : ℕ) (room : List ℕ) → at < length room → number ≡ number_of (take at room) + 128 ^ at * rest
    → rest ≡ byte % 128 + 128 * next → number ≡ number_of (take (at + 1) (set room at byte)) + 128 ^ (at + 1) * next
number_set number rest next at byte room within spells e =
    let long : length (take at room) ≡ at = length-take-le at room (omega arith) in
    let parts : number_of (take (at + 1) (set room at byte)) ≡ number_of (take at room ++ byte ∷ []) =
    ap number_of (take_more_set room at byte within) in
    let sum : number_of (take at room ++ byte ∷ []) ≡ number_of (take at room) + 128 ^ length (take at room) * number_of (byte ∷ []) =
    number_append (take at room) (byte ∷ []) in
    let weights : 128 ^ length (take at room) * number_of (byte ∷ []) ≡ 128 ^ at * (byte % 128) =
    ap₂ (λ k g. 128 ^ k * g) long (omega arith) in
    let heavier : 128 ^ (at + 1) ≡ 128 ^ at * 128 = rw add-one (pow-suc 128 at) in
    let later : 128 ^ (at + 1) * next ≡ 128 ^ at * 128 * next = ap (λ w. w * next) heavier in
    let now : 128 ^ at * rest ≡ 128 ^ at * (byte % 128 + 128 * next) = ap (λ r. 128 ^ at * r) e in
    omega arith

-- a rest of two groups or more leaves room for them
room_left : (rest at : ℕ) → 128 ≤ rest → rest < 128 ^ (9 - at) → at < 8
room_left rest at more fits =
    elim (cases_lt at 8) [
      | inl before ↦ before
      | inr past ↦
          let one : 9 - at ≤ 1 = omega arith in
          let small : 128 ^ (9 - at) ≤ 128 ^ 1 = pow-le-pow_right (omega arith) one in
          absurd (omega arith)
    ]

pub written_more : (number rest at byte : ℕ) (room : List ℕ) → Written number rest at room → 128 ≤ rest
    → byte ≡ rest % 128 + 128 → Written number (rest / 128) (at + 1) (set room at byte)
written_more number rest at byte room w more e =
    let place : at ≤ 8 = w.place in
    let nine : length room ≡ 9 = w.nine in
    let fits : rest < 128 ^ (9 - at) = w.fits in
    let left : 9 - at ≡ suc (8 - at) = omega arith in
    let power : 128 ^ (9 - at) ≡ 128 * 128 ^ (8 - at) = ap (λ k. 128 ^ k) left ∙ pow-succ' 128 (8 - at) in
    let before : at < 8 = room_left rest at more fits in
    let less : 8 - at ≡ 9 - (at + 1) = omega arith in
    let next_power : 128 ^ (8 - at) ≡ 128 ^ (9 - (at + 1)) = ap (λ k. 128 ^ k) less in
    let front : take (at + 1) (set room at byte) ≡ take at room ++ byte ∷ [] = take_more_set room at byte (omega arith) in
    record {
      place = omega arith;
      nine = length-set room at byte ∙ nine;
      spells = number_set number rest (rest / 128) at byte room (omega arith) w.spells (omega arith);
      fits = omega arith;
      are_bytes = rw front (All-push (λ b. b < 256) (take at room) byte w.are_bytes (omega arith));
      goes_on = rw front (All-push (λ b. 128 ≤ b) (take at room) byte w.goes_on (omega arith));
      some = λ h. omega arith;
      zeros = zeros_more room at byte w.zeros;
    }

pub written_all : (number rest at byte : ℕ) (room : List ℕ) → Written number rest at room → rest < 128 → byte ≡ rest
    → VarintSpelling number (take (at + 1) (set room at byte))
written_all number rest at byte room w last e =
    let place : at ≤ 8 = w.place in
    let nine : length room ≡ 9 = w.nine in
    let long : length (take at room) ≡ at = length-take-le at room (omega arith) in
    let front : take (at + 1) (set room at byte) ≡ take at room ++ byte ∷ [] = take_more_set room at byte (omega arith) in
    let some : 0 < at → 0 < rest = w.some in
    let sum : number ≡ number_of (take (at + 1) (set room at byte)) + 128 ^ (at + 1) * 0 =
    number_set number rest 0 at byte room (omega arith) w.spells (omega arith) in
    record {
      front = take at room;
      last = byte;
      whole = front;
      are_bytes = rw front (All-push (λ b. b < 256) (take at room) byte w.are_bytes (omega arith));
      goes_on = w.goes_on;
      ends = omega arith;
      shortest = λ h. let above : 0 < rest = some (omega arith) in omega arith;
      at_most = omega arith;
      spells = omega arith;
    }
