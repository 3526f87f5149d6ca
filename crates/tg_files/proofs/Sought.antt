-- Reads of a reader that is sought, and tells its bytes.
use Rattle.std.proofs.Common.{arith, ◌≡◌, ℕ, ◌+◌, ◌<◌, ◌≤◌, List, [], ◌++◌, length, take, drop, Option, Some, None, IfSome, Result, Ok, Err, IfOk, refl, sym, ap, ◌∙◌, length-append}
use Rattle.std.proofs.Math.Seq.{drop-append_seam}
use Rattle.std.proofs.Math.Nat.{min-eq_left}
use Rattle.std.proofs.lemmas.List.{drop-drop, length-take, take-append-le}
use Rattle.std.specs.Io.{ReadsAtMost}
use Rattle.std.specs.Io.KnownBytes.{Consumes, IsAtEnd, Keeps, ReadConsumes}
use Rattle.tg_bytes.specs.Told.{after_front}
use Rattle.tg_files.specs.Packs.{ReadAt, rest_at}
use Rattle.tg_files.specs.Readers.{StandsFrom}

-- bytes that are kept are kept on, and read as before
pub keeps_same : (a : Option (List ℕ)) → Keeps a a
keeps_same None = tt
keeps_same (Some xs) = refl

pub keeps_on : (a b c : Option (List ℕ)) → Keeps a b → Keeps b c → Keeps a c
keeps_on None b c p q = tt
keeps_on (Some xs) None c p q = absurd p
keeps_on (Some xs) (Some ys) None p q = absurd q
keeps_on (Some xs) (Some ys) (Some zs) p q = q ∙ p

consumes_on : (a b c : Option (List ℕ)) (bytes : List ℕ) → Keeps a b → Consumes b c bytes → Consumes a c bytes
consumes_on None b c bytes p q = tt
consumes_on (Some xs) None c bytes p q = absurd p
consumes_on (Some xs) (Some ys) None bytes p q = absurd q
consumes_on (Some xs) (Some ys) (Some zs) bytes p q = sym p ∙ q

pub read_on : {E : Type 0} (a b c : Option (List ℕ)) (r : Result ℕ E) (buf : List ℕ) → Keeps a b → ReadConsumes b c r buf → ReadConsumes a c r buf
read_on a b c (Ok n) buf p q = (consumes_on a b c (take n buf) p q.0, q.1)
read_on a b c (Err e) buf p q = keeps_on a b c p q

-- what a read consumes of what stands from an offset on
consumed_at : (xs buf : List ℕ) (offset n : ℕ) (left new : Option (List ℕ)) → left ≡ Some (drop offset xs) → n ≤ length buf → Consumes left new (take n buf) → (n ≡ 0 → 0 < length buf → IsAtEnd new) → ReadAt (Some xs) offset n buf
consumed_at xs buf offset n None new e h c end = absurd (cc)
consumed_at xs buf offset n (Some rest) None e h c end = absurd c
consumed_at xs buf offset n (Some rest) (Some behind) e h c end =
    let here : drop offset xs ≡ take n buf ++ behind = let same : rest ≡ drop offset xs = cc in sym same ∙ c in
    let size : length (take n buf) ≡ n = length-take n buf ∙ min-eq_left h in
    let on : drop n (take n buf ++ behind) ≡ behind = ap (λ k. drop k (take n buf ++ behind)) (sym size) ∙ drop-append_seam (take n buf) behind in
    let after : drop (offset + n) xs ≡ behind = sym (drop-drop n offset xs) ∙ ap (drop n) here ∙ on in
    record {
      within = h;
      bytes = ap (λ ys. Some ys) (here ∙ ap (λ ys. take n buf ++ ys) (sym after));
      end = λ none room. here ∙ ap (λ k. take k buf ++ behind) none ∙ end none room;
      past = λ nothing. let none : drop offset xs ≡ [] = cc in let sizes = ap length (sym here ∙ none) in let whole = length-append (take n buf) behind in omega arith;
    }

pub read_told : {E : Type 0} (place_old place : Option ℕ) (bytes_old bytes left_old left left_new : Option (List ℕ)) (offset k : ℕ) (r : Result ℕ E) (buf : List ℕ)
    → StandsFrom place_old bytes_old left_old → StandsFrom place bytes left → Keeps bytes_old bytes
    → IfSome place_old (λ p. (k ≡ offset) × (place ≡ Some k)) → ReadsAtMost r buf → ReadConsumes left left_new r buf → IfOk r (λ n. ReadAt bytes_old offset n buf)
read_told place_old place bytes_old bytes left_old left left_new offset k (Err e) buf old new keeps moves within reads = tt
read_told place_old place None bytes left_old left left_new offset k (Ok n) buf old new keeps moves within reads = record {
  within = within.0;
  bytes = refl;
  end = λ none room. tt;
  past = λ nothing. absurd (cc);
}
read_told None place (Some xs) bytes left_old left left_new offset k (Ok n) buf old new keeps moves within reads = absurd old
read_told (Some p) place (Some xs) None left_old left left_new offset k (Ok n) buf old new keeps moves within reads = absurd keeps
read_told (Some p) None (Some xs) (Some ys) left_old left left_new offset k (Ok n) buf old new keeps moves within reads = absurd new
read_told (Some p) (Some at) (Some xs) (Some ys) left_old left left_new offset k (Ok n) buf old new keeps moves within reads =
    let to : at ≡ offset = let same : at ≡ k = let so = moves.1 in cc in same ∙ moves.0 in
    let there : left ≡ Some (drop offset xs) = new ∙ ap (λ j. Some (drop j ys)) to ∙ ap (λ zs. Some (drop offset zs)) keeps in
    consumed_at xs buf offset n left left_new there within.0 reads.0 reads.1

-- what was read into the front of a part of a buffer stands in the front of the buffer
pub read_part : (held : Option (List ℕ)) (offset n : ℕ) (part rest buf : List ℕ) → n ≤ length part → buf ≡ part ++ rest → ReadAt held offset n part → rest_at held offset ≡ after_front (take n buf) (rest_at held (offset + n))
read_part held offset n part rest buf h e read =
    let same : take n buf ≡ take n part = ap (take n) e ∙ take-append-le n part rest h in
    read.bytes ∙ ap (λ bytes. after_front bytes (rest_at held (offset + n))) (sym same)

pub read_none : (held : Option (List ℕ)) (offset n : ℕ) (buf : List ℕ) → n ≡ 0 → rest_at held offset ≡ after_front (take n buf) (rest_at held (offset + n))
read_none None offset n buf none = refl
read_none (Some xs) offset n buf none = let same : offset + n ≡ offset = omega arith in ap (λ k. Some (drop k xs)) (sym same) ∙ ap (λ k. Some (take k buf ++ drop (offset + n) xs)) (sym none)
