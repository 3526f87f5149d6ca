-- Which sections were kept in a call, and what the pack holds of them.
use Rattle.std.proofs.Common.{IfSome, List, None, Option, Some, [], refl, subst, sym, inl, inr, Bool, Err, Ok, ap, min, ℕ, ◌∙◌, ◌∷◌, ◌≡◌, ◌≤◌, ◌<◌, ◌^◌, ◌-◌, length, map, arith}
use Rattle.tg_car.specs.CarText.{CarText}
use Rattle.tg_cid.specs.Cid.{CidParts}
use Rattle.tg_client.specs.Keeping.{AreKept}
use Rattle.tg_dials.specs.Dials.{Dialling}
use Rattle.tg_fetch.specs.Calls.{HeardAnswer}
use Rattle.tg_fetch.specs.Keeping.{AreKeptBy, FetchKeeps, HeardKeeping, KeepsBehind, KeptUntil}
use Rattle.tg_fetch.specs.Received.{HeardIn}
use Rattle.tg_fetch.specs.declared.fault.FetchFault.{FetchFault}
use Rattle.tg_fetch.specs.declared.fault.FetchFault.TheVariants as fetches
use Rattle.tg_mirror.proofs.Counts.{block_bytes, grew_counts}
use Rattle.tg_mirror.specs.Mirrors.{AreKeptOfReply, AreNamedOf, CameUntil, HoldsMirror, HoldsUntil, dropped, mirror_query}
use Rattle.tg_mirror.specs.declared.mirrored.Mirrored.{Mirrored}
use Rattle.tg_model.specs.Dag.{Section}
use Rattle.tg_model.specs.LimitNumbers.{LimitNumbers}
use Rattle.tg_model.specs.Stores.{Keeping}
use Rattle.tg_store.specs.Attaching.{IsAttached}
use Rattle.tg_store.specs.Entries.{first_of_each, store_of}
use Rattle.tg_store.specs.Filling.{IsCarOfRoot}
use Rattle.tg_store.specs.Packs.{GrewBy, block_at, bytes_at, in_car, unfinished_root}
use Rattle.tg_store.specs.declared.key.Key.{Key}
use Rattle.tg_store.specs.declared.place.Place.{Place}
use Rattle.tg_verify.specs.declared.fault.Refusal.TheVariants as refusals

-- ---- an accepted reply

-- its sections were kept
pub record Accepted (root : CidParts) (limits : LimitNumbers) (dial : Dialling) (keeping : Keeping) : Type 0 where
  pub heard : List ℕ
  pub heard_in : HeardIn dial heard
  pub over : Bool
  pub answer : HeardAnswer (mirror_query root) limits heard over dropped
  pub kept : AreKept answer.sections keeping

pub accepted : (root : CidParts) (limits : LimitNumbers) (dial : Dialling) (keeping : Keeping) → FetchKeeps (mirror_query root) limits dial dropped keeping (Ok tt)
    → Accepted root limits dial keeping
accepted root limits dial keeping (inl k) =
    record { heard = k.heard; heard_in = k.heard_in; over = k.over; answer = k.keeps.answer; kept = k.keeps.kept }
accepted root limits dial keeping (inr k) = absurd k.why

-- ---- a refusal

-- some of the sections were kept, and which
abbrev SomeKept : FetchFault → List Section → Keeping → Type 0
SomeKept fault came keeping = (kept : List Section) × AreNamedOf fault came kept × keeping.kept kept

named : (fault : FetchFault) (came : List Section) (keeping : Keeping) → AreKeptBy fault came keeping → SomeKept fault came keeping
named (fetches.Refused (refusals.Extra number)) came keeping h = (came, refl, h.kept.moved)
named (fetches.Refused (refusals.Limit kind number)) came keeping h = (came, refl, h.kept.moved)
named (fetches.Refused (refusals.BadDigest cid)) came keeping h = (h.named, (h.last, h.sections_are, sym h.cid_is), h.kept.kept.moved)
named (fetches.Refused (refusals.WrongBlock want got)) came keeping h = (came, refl, h.kept.moved)
named (fetches.Refused (refusals.BadBlock cid fault)) came keeping h = (came, refl, h.kept.moved)
named (fetches.Refused (refusals.BadSize declared actual)) came keeping h = (came, refl, h.kept.moved)
named (fetches.Refused (refusals.NotFolder segment)) came keeping h = (came, refl, h.kept.moved)
named (fetches.Refused (refusals.NotThere segment)) came keeping h = (came, refl, h.kept.moved)
named (fetches.Refused refusals.SinkFault) came keeping h = (came, refl, h.kept.moved)
named (fetches.Refused (refusals.Truncated want number)) came keeping h = (came, refl, h.kept.moved)
named (fetches.Refused refusals.OutOfMemory) came keeping h = (came, refl, h.kept.moved)
named (fetches.Status status) came keeping h = (came, refl, h.kept.moved)
named fetches.BadType came keeping h = (came, refl, h.kept.moved)
named fetches.BadReplyHead came keeping h = (came, refl, h.kept.moved)
named fetches.BadFraming came keeping h = (came, refl, h.kept.moved)
named (fetches.BadCar fault) came keeping h = (came, refl, h.kept.moved)
named fetches.PeerFault came keeping h = (came, refl, h.kept.moved)
named fetches.KeepFault came keeping h = (came, refl, h.moved)
named fetches.OutOfMemory came keeping h = (came, refl, h.kept.moved)

of_reply : (root : CidParts) (heard : List ℕ) (fault : FetchFault) (all : List Section) (Now : List Section → Keeping → Type 0) (keeping : Keeping)
    → ((came : List Section) → Now came keeping → SomeKept fault came keeping) → KeepsBehind (mirror_query root) heard [] all Now keeping
    → (came : List Section) × AreKeptOfReply root heard fault all came × keeping.kept came
of_reply root heard fault all Now keeping each (KeepsBehind.none e before k) = ([], AreKeptOfReply.none e refl, k.kept.moved)
of_reply root heard fault all Now keeping each (KeepsBehind.outside other k) = ([], AreKeptOfReply.outside other refl, k.kept.moved)
of_reply root heard fault all Now keeping each (KeepsBehind.inside car came e k) =
    let some = each came k in
    (some.0, AreKeptOfReply.inside car (subst (λ (l : List Section). AreNamedOf fault l some.0) (sym e) some.1), some.2)

-- so many were kept until then
pub record KeptTill (root : CidParts) (limits : LimitNumbers) (dial : Dialling) (fault : FetchFault) (keeping : Keeping) : Type 0 where
  pub came : List Section
  pub until : CameUntil root limits dial fault came
  pub moved : keeping.kept came

module _ (root : CidParts) (limits : LimitNumbers) (dial : Dialling) (keeping : Keeping) where
  refused_till : (fault : FetchFault) (heard : List ℕ) (over : Bool) → HeardIn dial heard → KeptUntil (mirror_query root) limits heard over dropped keeping fault
      → KeptTill root limits dial fault keeping
  refused_till fault heard over heard_in k =
      let came = of_reply root k.refused.front fault k.refused.sections (AreKeptBy fault) keeping (λ came h. named fault came keeping h) k.kept in
      record { came = came.0; until = CameUntil.refused heard over heard_in k.refused came.1; moved = came.2 }

  heard_till : (fault : FetchFault) (heard : List ℕ) (over : Bool) → HeardIn dial heard → HeardKeeping (mirror_query root) limits heard over dropped keeping (Err fault)
      → KeptTill root limits dial fault keeping
  heard_till fetches.PeerFault heard over heard_in k =
      let came = of_reply root heard fetches.PeerFault k.is_open.sections AreKept keeping (λ came h. (came, refl, h.kept.moved)) k.kept in
      record { came = came.0; until = CameUntil.cut_off heard refl heard_in k.is_open came.1; moved = came.2 }
  heard_till (fetches.Refused refusal) heard over heard_in k = refused_till (fetches.Refused refusal) heard over heard_in k
  heard_till (fetches.Status status) heard over heard_in k = refused_till (fetches.Status status) heard over heard_in k
  heard_till fetches.BadType heard over heard_in k = refused_till fetches.BadType heard over heard_in k
  heard_till fetches.BadReplyHead heard over heard_in k = refused_till fetches.BadReplyHead heard over heard_in k
  heard_till fetches.BadFraming heard over heard_in k = refused_till fetches.BadFraming heard over heard_in k
  heard_till (fetches.BadCar fault) heard over heard_in k = refused_till (fetches.BadCar fault) heard over heard_in k
  heard_till fetches.KeepFault heard over heard_in k = refused_till fetches.KeepFault heard over heard_in k
  heard_till fetches.OutOfMemory heard over heard_in k = refused_till fetches.OutOfMemory heard over heard_in k

  pub kept_till : (fault : FetchFault) → FetchKeeps (mirror_query root) limits dial dropped keeping (Err fault) → KeptTill root limits dial fault keeping
  kept_till fault (inl k) = heard_till fault k.heard k.over k.heard_in k.keeps
  kept_till fault (inr k) = record { came = []; until = CameUntil.unheard k.why refl; moved = k.kept.kept.moved }

  -- memory was wanted behind an accepted reply
  pub wanted_behind : (a : Accepted root limits dial keeping) → CameUntil root limits dial fetches.OutOfMemory a.answer.sections
  wanted_behind a = CameUntil.accepted a.heard a.over refl a.heard_in a.answer refl

-- ---- what the pack holds

-- the sections that were kept until then, as far as it is told
pub holds_until : (root : CidParts) (limits : LimitNumbers) (dial : Dialling) (fault : FetchFault) (came : List Section) (told : Option (List ℕ)) → CameUntil root limits dial fault came
    → ((content : List ℕ) → told ≡ Some content → CarText (unfinished_root ∷ []) (map in_car (first_of_each came)) content) → IfSome told (HoldsUntil root limits dial fault)
holds_until root limits dial fault came None until car = tt
holds_until root limits dial fault came (Some content) until car = record { came = came; until = until; text = car content refl }

-- the CAR of those of the accepted reply, and how many they are
pub holds_mirror : (root : CidParts) (sections : List Section) (mirrored : Mirrored) (most : ℕ) (old between new : Option (List ℕ)) (before after last : List (Key × Place)) → before ≡ []
    → GrewBy old between before after sections → (between ≡ None → new ≡ None) → last ≡ after → mirrored.blocks ≡ length last → mirrored.bytes ≡ min (bytes_at last) (2 ^ 64 - 1)
    → block_bytes (first_of_each sections) ≤ most → most < 2 ^ 64 → IfSome new (IsCarOfRoot root sections)
    → ((content : List ℕ) → new ≡ Some content → IsAttached content (store_of (block_at content) last)) → IfSome new (HoldsMirror root sections mirrored)
holds_mirror root sections mirrored most old between None before after last none grew gone same count sum few small car attached = tt
holds_mirror root sections mirrored most old None (Some content) before after last none grew gone same count sum few small car attached = absurd (cc (gone refl))
holds_mirror root sections mirrored most old (Some held) (Some content) before after last none grew gone same count sum few small car attached =
    let counts = grew_counts old held before after sections none grew in
    let bytes : bytes_at last ≡ block_bytes (first_of_each sections) = ap bytes_at same ∙ counts.1 in
    let whole : min (bytes_at last) (2 ^ 64 - 1) ≡ block_bytes (first_of_each sections) = omega (arith, bytes, few, small) in
    record {
      car = car;
      attached = (store_of (block_at content) last, attached content refl);
      blocks = count ∙ (ap length same ∙ counts.0);
      bytes = sum ∙ whole;
    }
