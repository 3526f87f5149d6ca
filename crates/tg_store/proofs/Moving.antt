-- What is read from a pack, piece by piece.
use Rattle.std.proofs.Common.{◌≡◌, ◌≤◌, ◌+◌, ℕ, List, [], ◌∷◌, ◌++◌, length, take, drop, Option, Some, None, refl, ap, sym, ◌∙◌, inl, inr, arith}
use Rattle.std.proofs.lemmas.List.{append-nil, length-take, length-take-le, take_all, take_at}
use Rattle.std.proofs.lemmas.Bool.{cases_lt}
use borrow.Rule.Slice.PartMut.{put_mid}
use Rattle.tg_bytes.specs.Told.{after_front}
use Rattle.tg_files.specs.Packs.{ReadAt, rest_at}
use Rattle.tg_bytes.specs.ToldLaws.{after_front-after_front, front_more}
use Rattle.tg_store.specs.declared.place.Place.{Place}
use Rattle.tg_store.specs.Packs.{block_at}
use Rattle.tg_store.specs.PackReads.{HasBlockAt, ReadsUpTo}

-- a further read
pub read_more : (held : Option (List ℕ)) (offset at size n : ℕ) (old mid : List ℕ) → rest_at held offset ≡ after_front (take at old) (rest_at held (offset + at))
    → ReadAt held (offset + at) n mid → at ≤ length old
    → rest_at held offset ≡ after_front (take (at + n) (put_mid at size old mid)) (rest_at held (offset + (at + n)))
read_more held offset at size n old mid e read within =
    let place : (offset + at) + n ≡ offset + (at + n) = omega arith in
    e ∙ (ap (after_front (take at old)) read.bytes
    ∙ (after_front-after_front (take at old) (take n mid) (rest_at held ((offset + at) + n))
    ∙ ap (λ (l : List ℕ). after_front l (rest_at held ((offset + at) + n))) (sym (front_more at size n old mid within read.within))
    ∙ ap (λ k. after_front (take (at + n) (put_mid at size old mid)) (rest_at held k)) place))

-- the bytes at a place are those that were read from its offset on
pub block_read : (held : Option (List ℕ)) (place : Place) (n : ℕ) (buf : List ℕ) → length buf ≡ place.size → ReadsUpTo held place.offset n buf → HasBlockAt held place (take n buf)
block_read None place n buf size read = record { bytes = tt; few = let within : n ≤ length buf = read.within in omega (arith, length-take n buf) }
block_read (Some content) place n buf size read = record {
  bytes = sym (whole (drop (place.offset + n) content) refl);
  few = let within : n ≤ length buf = read.within in omega (arith, length-take n buf);
}
  where
    within : n ≤ length buf
    within = read.within

    split : drop place.offset content ≡ take n buf ++ drop (place.offset + n) content
    split = let told : Some (drop place.offset content) ≡ Some (take n buf ++ drop (place.offset + n) content) = read.bytes in cc told

    front : length (take n buf) ≡ n
    front = length-take-le n buf read.within

    whole : (rest : List ℕ) → drop (place.offset + n) content ≡ rest → block_at content place ≡ take n buf
    whole [] e =
        let all : drop place.offset content ≡ take n buf = split ∙ (ap (λ (l : List ℕ). take n buf ++ l) e ∙ append-nil (take n buf)) in
        ap (take place.size) all ∙ take_all place.size (take n buf) (omega (arith, front, within))
    whole (x ∷ rest) e =
        let full : place.size ≡ n = by in
        ap (take place.size) split ∙ take_at (take n buf) (drop (place.offset + n) content) place.size (front ∙ sym full)
      where
        by : place.size ≡ n
        by = elim (cases_lt n (length buf)) [
          | inl less ↦ cc (sym e ∙ read.end less)
          | inr most ↦ omega (arith, within)
        ]
