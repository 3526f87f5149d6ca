-- Texts that are hashed as they come (FIPS 180-4).
use Rattle.sha2.specs.Hashers.{Holds256}
use Rattle.sha2.specs.Sha256.{sha256}
use Rattle.std.proofs.Common.{append-nil, append_assoc, sym, subst}
use Rattle.std.specs.Prelude.{List, None, [], length, min, ℕ, ◌++◌, ◌-◌, ◌^◌, ◌≡◌}
use Rattle.tg_audit_texts.specs.declared.hashing.Hashed.{Hashed}
use Rattle.tg_audit_texts.specs.declared.hashing.Hashing.{Hashing}
use Rattle.tg_streams.specs.Streams.{SinkMeaning}

-- a number as 64 bits hold it: it stands still at the greatest
abbrev pub held_size : ℕ → ℕ
held_size size = min size (2 ^ 64 - 1)

-- this was put
pub record IsHashing (hashing : Hashing) (text : List ℕ) : Type 0 where
  pub holds : Holds256 hashing.hasher text
  pub size : hashing.size ≡ held_size (length text)

-- the length and the digest of a text
pub record IsHashOf (text : List ℕ) (hashed : Hashed) : Type 0 where
  pub size : hashed.size ≡ held_size (length text)
  pub digest : hashed.digest ≡ sha256 text

-- a sink that tells by what it hashes what was put
abbrev pub Hashes : Hashing → Hashing → List ℕ → Type 0
Hashes old new bytes = (text : List ℕ) → IsHashing old text → IsHashing new (text ++ bytes)

abbrev pub hashing_sink : SinkMeaning Hashing
hashing_sink = record { held = λ _. None; faults = λ _. 0; calls = λ _. None; wrote = Hashes }

pub hashing_rests : (s : Hashing) → Hashes s s []
hashing_rests s text h = subst (IsHashing s) (sym (append-nil text)) h

pub hashing_joins : (a b c : Hashing) (u v : List ℕ) → Hashes a b u → Hashes b c v → Hashes a c (u ++ v)
hashing_joins a b c u v first next text h = subst (IsHashing c) (append_assoc text u v) (next (text ++ u) (first text h))
