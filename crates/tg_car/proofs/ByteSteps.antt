-- The steps over a byte of the front of the map and of a root.
use Rattle.std.proofs.Common.{◌≡◌, ◌↔◌, ℕ, ◌+◌, ◌-◌, ◌<◌, List, [], ◌∷◌, ◌++◌, length, drop, get_or, All, ap, sym, ◌∙◌, refl, subst, add-one, arith}
use Rattle.std.proofs.Math.Seq.{drop-cons}
use Rattle.std.proofs.lemmas.List.Elements.{All-tail, All-nil, All-cons}
use Rattle.tg_car.specs.HeaderState.{BytesThen, RootsThen, Follows, map_front}
use Rattle.tg_car.specs.declared.header_state.Roots.{Roots}
use Rattle.tg_car.specs.declared.header_state.HeaderState.TheVariants as states

front_parts : (at : ℕ) → at < 7 → drop at map_front ≡ get_or map_front at 0 ∷ drop (at + 1) map_front
front_parts at below = rw add-one (drop-cons map_front at 0 below)

pub front_to : (at size byte : ℕ) (rest : List ℕ) → at < 7 → Follows (states.Front at size) (byte ∷ rest)
    → (byte ≡ get_or map_front at 0) × Follows (states.Front (at + 1) size) rest
front_to at size byte rest below (more, e, a) =
    let parts : byte ∷ rest ≡ get_or map_front at 0 ∷ (drop (at + 1) map_front ++ more) =
    e ∙ ap (λ l. l ++ more) (front_parts at below) in
    (cc, (more, cc, a))

pub front_from : (at size byte : ℕ) (rest : List ℕ) → at < 7 → byte ≡ get_or map_front at 0 → Follows (states.Front (at + 1) size) rest
    → Follows (states.Front at size) (byte ∷ rest)
front_from at size byte rest below same (more, e, a) =
    let parts : get_or map_front at 0 ∷ (drop (at + 1) map_front ++ more) ≡ drop at map_front ++ more =
    sym (ap (λ l. l ++ more) (front_parts at below)) in
    (more, cc, a)

bytes_parts : (left : ℕ) (roots : Roots) (byte : ℕ) (rest front more : List ℕ) → 0 < left → byte ∷ rest ≡ front ++ more → length front ≡ left
    → All (λ b. b < 256) front → RootsThen roots.count roots.bytes more → BytesThen (left - 1) roots rest
bytes_parts left roots byte rest [] more some e l bytes behind = absurd (omega arith)
bytes_parts left roots byte rest (first ∷ front) more some e l bytes behind = record {
  front = front;
  more = more;
  whole = cc;
  left_is = omega arith;
  are_bytes = All-tail (λ b. b < 256) first front bytes;
  behind = behind;
}

pub bytes_to : (left : ℕ) (roots : Roots) (byte : ℕ) (rest : List ℕ) → 0 < left → BytesThen left roots (byte ∷ rest) → BytesThen (left - 1) roots rest
bytes_to left roots byte rest some h = bytes_parts left roots byte rest h.front h.more some h.whole h.left_is h.are_bytes h.behind

pub bytes_from : (left : ℕ) (roots : Roots) (byte : ℕ) (rest : List ℕ) → 0 < left → byte < 256 → BytesThen (left - 1) roots rest → BytesThen left roots (byte ∷ rest)
bytes_from left roots byte rest some small h =
    let fewer : length h.front ≡ left - 1 = h.left_is in
    record {
      front = byte ∷ h.front;
      more = h.more;
      whole = ap (λ l. byte ∷ l) h.whole;
      left_is = omega arith;
      are_bytes = All-cons (λ b. b < 256) byte h.front small h.are_bytes;
      behind = h.behind;
    }

no_bytes : (roots : Roots) (rest front more : List ℕ) → rest ≡ front ++ more → length front ≡ 0 → RootsThen roots.count roots.bytes more → RootsThen roots.count roots.bytes rest
no_bytes roots rest [] more e l behind = subst (λ r. RootsThen roots.count roots.bytes r) (sym e) behind
no_bytes roots rest (first ∷ front) more e l behind = absurd (omega arith)

pub last_byte : (left : ℕ) (roots : Roots) (byte : ℕ) (rest : List ℕ) → left ≡ 1 → byte < 256
    → BytesThen left roots (byte ∷ rest) ↔ RootsThen roots.count roots.bytes rest
last_byte left roots byte rest one small = (
  λ h. (let b = bytes_to left roots byte rest (omega arith) h in
      no_bytes roots rest b.front b.more b.whole (omega (arith, b.left_is)) b.behind),
  λ h. bytes_from left roots byte rest (omega arith) small (record {
    front = [];
    more = rest;
    whole = refl;
    left_is = omega arith;
    are_bytes = All-nil (λ b. b < 256);
    behind = h;
  }),
)
