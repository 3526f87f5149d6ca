-- What is told of bytes that are taken or put one after another.
use Rattle.std.proofs.Common.{◌≡◌, ℕ, ◌+◌, ◌≤◌, Option, Some, None, List, [], ◌++◌, length, take, refl, sym, ap, ◌∙◌}
use Rattle.std.proofs.Common.{append_assoc, append-nil, length-append, arith}
use Rattle.std.proofs.lemmas.List.{length-take-le, take-take}
use Rattle.std.proofs.lemmas.Slice.{take-put_mid}
use Rattle.std.proofs.Math.Seq.{take-append-add}
use borrow.Rule.Slice.PartMut.{put_mid, post_of}
use Rattle.tg_bytes.specs.Told.{after_front, grown}

pub after_front-after_front : (u v : List ℕ) (rest : Option (List ℕ))
    → after_front u (after_front v rest) ≡ after_front (u ++ v) rest
after_front-after_front u v None = refl
after_front-after_front u v (Some xs) = ap (λ ys. Some ys) (sym (append_assoc u v xs))

pub after_front-nothing : (rest : Option (List ℕ)) → rest ≡ after_front [] rest
after_front-nothing None = refl
after_front-nothing (Some xs) = refl

pub grown-grown : (held : Option (List ℕ)) (u v : List ℕ) → grown (grown held u) v ≡ grown held (u ++ v)
grown-grown None u v = refl
grown-grown (Some xs) u v = ap (λ ys. Some ys) (append_assoc xs u v)

pub grown-nothing : (held : Option (List ℕ)) → held ≡ grown held []
grown-nothing None = refl
grown-nothing (Some xs) = ap (λ ys. Some ys) (sym (append-nil xs))

-- ---- a part of a buffer from `at` on was written

-- its first n bytes follow what stood in front
pub front_more : (at size n : ℕ) (old mid : List ℕ) → at ≤ length old → n ≤ length mid
    → take (at + n) (put_mid at size old mid) ≡ take at old ++ take n mid
front_more at size n old mid h k =
    let all = take-put_mid at size old mid (at + length mid) refl h in
    let fewer = take-take (at + n) (at + length mid) (put_mid at size old mid) (omega arith) in
    let size_is = length-take-le at old h in
    let split : take (length (take at old) + n) (take at old ++ mid) ≡ take at old ++ take n mid = take-append-add (take at old) mid n in
    sym fewer ∙ ap (take (at + n)) all ∙ ap (λ m. take (m + n) (take at old ++ mid)) (sym size_is) ∙ split

-- they fit into the whole
pub front_fits : (at size n : ℕ) (old mid : List ℕ) → at ≤ length old → n ≤ length mid
    → at + n ≤ length (put_mid at size old mid)
front_fits at size n old mid h k =
    let outer = length-append (take at old) (mid ++ post_of at size old) in
    let inner = length-append mid (post_of at size old) in
    let front = length-take-le at old h in
    omega arith
