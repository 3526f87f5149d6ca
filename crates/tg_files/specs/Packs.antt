-- What packs mean, and what was done to one between two moments. Bytes that aren't told are `None`.
use Rattle.std.specs.Prelude.{◌≡◌, ℕ, ◌+◌, ◌<◌, ◌≤◌, Bool, cond, List, [], ◌∷◌, ◌++◌, length, take, drop, ⊤, refl}
use Rattle.std.specs.Prelude.{Option, Some, None, option_map}
use Rattle.std.proofs.Common.{◌∙◌, ap}
use Rattle.tg_bytes.specs.Overwriting.{over}
use Rattle.tg_bytes.specs.Told.{after_front, grown, IsNothing}
use Rattle.tg_faults.specs.Faults.{Rose, counted}

-- what stands from an offset on
abbrev pub rest_at : Option (List ℕ) → ℕ → Option (List ℕ)
rest_at (Some content) offset = Some (drop offset content)
rest_at None offset = None

-- n bytes from an offset on were read into the front of a buffer: none into a buffer with room only where no byte
-- stands at the offset, and none where it is told that no byte stands there
pub record ReadAt (held : Option (List ℕ)) (offset n : ℕ) (buf : List ℕ) : Type 0 where
  pub within : n ≤ length buf
  pub bytes : rest_at held offset ≡ after_front (take n buf) (rest_at held (offset + n))
  pub end : n ≡ 0 → 0 < length buf → IsNothing (rest_at held offset)
  pub past : rest_at held offset ≡ Some [] → n ≡ 0

-- so many bytes there are, as far as it is told
abbrev pub HasLength : Option (List ℕ) → ℕ → Type 0
HasLength (Some content) size = size ≡ length content
HasLength None size = ⊤

-- the first `end` bytes are there, as far as it is told
abbrev pub Reaches : Option (List ℕ) → ℕ → Type 0
Reaches (Some content) end = end ≤ length content
Reaches None end = ⊤

abbrev pub overwritten : Option (List ℕ) → ℕ → List ℕ → Option (List ℕ)
overwritten (Some content) offset bytes = Some (over content offset bytes)
overwritten None offset bytes = None

-- no bytes, where they are told
abbrev pub emptied : Option (List ℕ) → Option (List ℕ)
emptied (Some content) = Some []
emptied None = None

-- what an attached pack holds: nothing where it is fresh, and else what it held
abbrev pub attached : Bool → Option (List ℕ) → Option (List ℕ)
attached fresh content = cond fresh (emptied content) content

-- where a pack is attached: at this path of the system, and whether it was made empty there
pub record PackPlace : Type 0 where
  pub path : List ℕ
  pub fresh : Bool

-- what is done to a pack: it is attached at a path of the system, fresh or not; bytes are put in place of as many at an
-- offset; bytes are added at the end; or a write fails, which may have written a part
pub data PackWrite : Type 0 where
  attach : List ℕ → Bool → PackWrite
  overwrite : ℕ → List ℕ → PackWrite
  append : List ℕ → PackWrite
  torn : PackWrite

-- what a pack holds once these were done to it, one after another, by what it held before
abbrev pub once_written : Option (List ℕ) → PackWrite → Option (List ℕ)
once_written content (attach path fresh) = attached fresh content
once_written content (overwrite offset bytes) = overwritten content offset bytes
once_written content (append bytes) = grown content bytes
once_written content torn = None

abbrev pub written : Option (List ℕ) → List PackWrite → Option (List ℕ)
written content [] = content
written content (write ∷ writes) = written (once_written content write) writes

pub written-append : (content : Option (List ℕ)) (u v : List PackWrite)
    → written (written content u) v ≡ written content (u ++ v)
written-append content [] v = refl
written-append content (write ∷ u) v = written-append (once_written content write) u v

-- where a pack is attached once these were done to it, one after another: where the last attach says, or where it was
abbrev pub once_placed : Option PackPlace → PackWrite → Option PackPlace
once_placed place (attach path fresh) = Some (record { path = path; fresh = fresh })
once_placed place (overwrite offset bytes) = place
once_placed place (append bytes) = place
once_placed place torn = place

abbrev pub placed : Option PackPlace → List PackWrite → Option PackPlace
placed place [] = place
placed place (write ∷ writes) = placed (once_placed place write) writes

pub placed-append : (place : Option PackPlace) (u v : List PackWrite)
    → placed (placed place u) v ≡ placed place (u ++ v)
placed-append place [] v = refl
placed-append place (write ∷ u) v = placed-append (once_placed place write) u v

-- what a kind of pack says of its values: all of its bytes, told or not; where it is attached, by the last attach that
-- answered Ok, and nowhere before the first; how many calls failed; how many were made, told or not; and how a value
-- changes when these are done to it, one after another
pub record PackMeaning (S : Type 0) : Type 1 where
  pub content : S → Option (List ℕ)
  pub place : S → Option PackPlace
  pub faults : S → ℕ
  pub calls : S → Option ℕ
  pub did : S → S → List PackWrite → Type 0

-- a pack before and after
pub record PackStep : Type 1 where
  pub did : List PackWrite → Type 0
  pub content_old : Option (List ℕ)
  pub content_new : Option (List ℕ)
  pub place_old : Option PackPlace
  pub place_new : Option PackPlace
  pub faults_old : ℕ
  pub faults_new : ℕ
  pub calls_old : Option ℕ
  pub calls_new : Option ℕ

abbrev pub pack_step : {S : Type 0} → PackMeaning S → S → S → PackStep
pack_step m old new = record {
  did = m.did old new;
  content_old = m.content old;
  content_new = m.content new;
  place_old = m.place old;
  place_new = m.place new;
  faults_old = m.faults old;
  faults_new = m.faults new;
  calls_old = m.calls old;
  calls_new = m.calls new;
}

-- these were done to the pack, one after another, and nothing else
pub record Did (writes : List PackWrite) (step : PackStep) : Type 0 where
  pub moved : step.did writes
  pub content : step.content_new ≡ written step.content_old writes
  pub place : step.place_new ≡ placed step.place_old writes

-- one thing after another was done to a kind of pack whose changes come one after another
pub did_joins : {S : Type 0} (m : PackMeaning S)
    → ((a b c : S) (u v : List PackWrite) → m.did a b u → m.did b c v → m.did a c (u ++ v))
    → (a b c : S) (u v : List PackWrite) → Did u (pack_step m a b) → Did v (pack_step m b c) → Did (u ++ v) (pack_step m a c)
did_joins m joins a b c u v p q = record {
  moved = joins a b c u v p.moved q.moved;
  content = q.content ∙ ap (λ held. written held v) p.content ∙ written-append (m.content a) u v;
  place = q.place ∙ ap (λ place. placed place v) p.place ∙ placed-append (m.place a) u v;
}

-- nothing was done to it, and it is attached where it was
abbrev pub SameContent : PackStep → Type 0
SameContent step = Did [] step

-- a write failed, and the bytes aren't told any more
abbrev pub Untold : PackStep → Type 0
Untold step = Did (torn ∷ []) step

-- one call was made, as far as calls are told
abbrev pub PackCalled : PackStep → Type 0
PackCalled step = step.calls_new ≡ option_map counted step.calls_old

-- no fault of the pack was counted, or one was
abbrev pub PackQuiet : PackStep → Type 0
PackQuiet step = step.faults_new ≡ step.faults_old

pub record PackRose (step : PackStep) : Type 0 where
  pub rose : Rose step.faults_old step.faults_new
  pub counted : step.faults_old ≤ step.faults_new

-- what a contract sees of a pack in memory
pub record PackState : Type 0 where
  pub content : Option (List ℕ)  -- what it holds, until a write fails
  pub place : Option PackPlace  -- where it is attached
  pub fails : List ℕ  -- the numbers of the calls that fail, counted from 0
  pub calls : ℕ  -- how many calls were made
  pub faults : ℕ  -- how many of them failed

-- these were done to a pack in memory, whose calls fail by the same numbers as before
pub record PackMoves (old new : PackState) (writes : List PackWrite) : Type 0 where
  pub content : new.content ≡ written old.content writes
  pub place : new.place ≡ placed old.place writes
  pub fails : new.fails ≡ old.fails

abbrev pub mem_pack : PackMeaning PackState
mem_pack = record {
  content = λ p. p.content;
  place = λ p. p.place;
  faults = λ p. p.faults;
  calls = λ p. Some p.calls;
  did = PackMoves;
}

-- nothing done leaves a pack as it is, and one thing after another is done
pub pack_rests : (p : PackState) → PackMoves p p []
pack_rests p = record { content = refl; place = refl; fails = refl }

pub pack_joins : (a b c : PackState) (u v : List PackWrite) → PackMoves a b u → PackMoves b c v → PackMoves a c (u ++ v)
pack_joins a b c u v p q = record {
  content = q.content ∙ ap (λ held. written held v) p.content ∙ written-append a.content u v;
  place = q.place ∙ ap (λ place. placed place v) p.place ∙ placed-append a.place u v;
  fails = q.fails ∙ p.fails;
}
